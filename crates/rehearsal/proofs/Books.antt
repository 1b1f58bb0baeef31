-- What a book holds of steps is so. Assumes nothing.
use Rattle.std.proofs.Common.{◌≡◌, ℕ, zero, suc, ◌+◌, ◌<◌, true, false, cond, List, [], ◌∷◌, length, ℤ, nat_lt, Some, None, Option, sym, refl, ap, ◌∙◌, subst, arith}
use Rattle.std.specs.List.{slice_get}
use Rattle.std.proofs.lemmas.Bool.{ltb-true, false_from_ne_true, false≢true}
use Rattle.lists.specs.Words.{through, Stands}
use Rattle.lists.proofs.Places.{some_same, some_none, nth_here}
use Rattle.questions.specs.declared.Side.{Side}
use Rattle.model.specs.declared.label.Label.{Label}
use Rattle.model.specs.declared.state.Pair.{Pair}
use Rattle.systems.specs.Meaning.{Step, in_range_of, receives}
use Rattle.judge.specs.Comparing.{Compared, OneRange, opposed, steps_on}
use Rattle.judge.specs.Likeness.{Holds, Lands, Reply, Bisimulation}
use Rattle.judge.specs.Replies.{replies}
use Rattle.judge.proofs.Replying.{own_landing, other_landing}
use Rattle.judge.proofs.Tested.{decides_replies}
use Rattle.play.specs.Calls.{value_by, value_fits, landings_by, FirstReply}
use Rattle.rehearsal.specs.declared.attempt.Attempt.{Attempt}
use Rattle.rehearsal.specs.declared.attempt.Call.{Call}
use Rattle.rehearsal.specs.declared.attempt.Call.TheVariants.{Challenge, Reply as AskReply, Settle}
use Rattle.rehearsal.specs.Book.{Book, book, Phase, first_reply_from, first_reply, with_reply, book_after_settle, next_book, book_after_call, book_after}
use Rattle.rehearsal.specs.Book.Phase.{level, challenged, answered}
use Rattle.rehearsal.specs.Law.{FirstForAllValues}
use Rattle.rehearsal.specs.Making.{Keeping, Sound}

-- the first of the steps that replies, as it is searched for
module _ (c : Compared) (side : Side) (x : Step) where
  found : (k m : ℕ) (ys : List Step) (y : Step) → Stands ys y m → replies c side x y ≡ true → ((n : ℕ) (z : Step) → n < m → Stands ys z n → replies c side x z ≡ false) → first_reply_from c side x k ys ≡ Some (k + m)
  found k m [] y at hit before = absurd (some_none _ _ at refl)
  found k zero (z ∷ ys) y at hit before =
      let s = some_same (Some z) z y refl at in
      ap (λ b. cond b (Some k) (first_reply_from c side x (suc k) ys)) (ap (replies c side x) s ∙ hit) ∙ ap Some (let e : k ≡ k + 0 = omega arith in e)
  found k (suc m) (z ∷ ys) y at hit before =
      ap (λ b. cond b (Some k) (first_reply_from c side x (suc k) ys)) (before 0 z (omega arith) refl)
      ∙ found (suc k) m ys y at hit (λ n w h w-at. before (suc n) w (omega arith) w-at)
      ∙ ap Some (let e : suc k + m ≡ k + suc m = omega arith in e)

  pub record Searched (k : ℕ) (ys : List Step) (j : ℕ) : Type 0 where
    pub place : ℕ
    pub step : Step
    pub number : j ≡ k + place
    pub at : Stands ys step place
    pub yes : replies c side x step ≡ true
    pub before : (n : ℕ) (z : Step) → n < place → Stands ys z n → replies c side x z ≡ false

  searched : (k : ℕ) (ys : List Step) (j : ℕ) → first_reply_from c side x k ys ≡ Some j → Searched k ys j
  searched k [] j e = absurd (some_none _ _ e refl)
  searched k (y ∷ ys) j e =
      elim (replies c side x y) as (λ b. replies c side x y ≡ b → cond b (Some k) (first_reply_from c side x (suc k) ys) ≡ Some j → Searched k (y ∷ ys) j) [
        | true ↦ (λ t f. record { place = 0; step = y; number = some_same (Some k) j k f refl ∙ (let z : k ≡ k + 0 = omega arith in z); at = refl; yes = t; before = λ n z h _. absurd (omega arith) })
        | false ↦ (λ t f.
            let s = searched (suc k) ys j f in
            record {
              place = suc s.place;
              step = s.step;
              number = s.number ∙ (let z : suc k + s.place ≡ k + suc s.place = omega arith in z);
              at = s.at;
              yes = s.yes;
              before = λ n z. elim n as (λ q. q < suc s.place → slice_get (y ∷ ys) q ≡ Some z → replies c side x z ≡ false) [
                | zero ↦ (λ _ z-at. ap (replies c side x) (some_same (Some y) z y z-at refl) ∙ t)
                | suc q ↦ (λ h z-at. s.before q z (omega arith) z-at)
              ];
            })
      ] refl e

module _ (c : Compared) (one : OneRange c) (side : Side) (p : Pair) (i : ℕ) (x : Step) (x-at : Stands (steps_on side c p) x i) where
  reply_yes : (j : ℕ) (y : Step) → Stands (steps_on (opposed side) c p) y j → Reply c side p i j → replies c side x y ≡ true
  reply_yes j y y-at r =
      let ex = some_same _ r.asked x r.asked_at x-at in
      let ey = some_same _ r.given y r.given_at y-at in
      (decides_replies c side x y).1 (sym (ap (λ z. z.label) ex) ∙ r.one_label ∙ ap (λ z. z.label) ey, subst (λ (z : Step). Lands c side x z) ey (subst (λ (z : Step). Lands c side z r.given) ex r.lands))

  yes_reply : (j : ℕ) (y : Step) → Stands (steps_on (opposed side) c p) y j → replies c side x y ≡ true → Reply c side p i j
  yes_reply j y y-at e =
      let d = (decides_replies c side x y).0 e in
      record { one_range = one; asked = x; given = y; asked_at = x-at; given_at = y-at; one_label = d.0; lands = d.1 }

  pub first_is : (j : ℕ) → FirstReply c side p i j → first_reply c side p (Some x) ≡ Some j
  first_is j first =
      found c side x 0 j (steps_on (opposed side) c p) first.0.given first.0.given_at (reply_yes j first.0.given first.0.given_at first.0)
      (λ n z h z-at. false_from_ne_true _ (λ e. first.1 n h (yes_reply n z z-at e)))
      ∙ ap Some (let e : 0 + j ≡ j = omega arith in e)

  pub is_first : (j : ℕ) → first_reply c side p (Some x) ≡ Some j → FirstReply c side p i j
  is_first j e =
      let s = searched c side x 0 (steps_on (opposed side) c p) j e in
      let at : s.place ≡ j = omega (arith, s.number) in (
        subst (λ (k : ℕ). Reply c side p i k) at (yes_reply s.place s.step s.at s.yes),
        λ n h r. absurd (false≢true (sym (s.before n r.given (omega (arith, s.number, h)) r.given_at) ∙ reply_yes n r.given r.given_at r)),
      )

  pub none_first : first_reply c side p (Some x) ≡ None → (j : ℕ) → Reply c side p i j → ⊥
  none_first e j r = never 0 (steps_on (opposed side) c p) j r.given r.given_at (reply_yes j r.given r.given_at r) e
    where
      never : (k : ℕ) (ys : List Step) (m : ℕ) (y : Step) → Stands ys y m → replies c side x y ≡ true → first_reply_from c side x k ys ≡ None → ⊥
      never k [] m y at hit none = some_none _ _ at refl
      never k (z ∷ ys) m y at hit none =
          elim (replies c side x z) as (λ b. replies c side x z ≡ b → cond b (Some k) (first_reply_from c side x (suc k) ys) ≡ None → ⊥) [
            | true ↦ (λ _ f. some_none _ _ refl f)
            | false ↦ (λ t f. elim m as (λ q. slice_get (z ∷ ys) q ≡ Some y → ⊥) [
              | zero ↦ (λ w. false≢true (sym t ∙ ap (replies c side x) (some_same (Some z) z y refl w) ∙ hit))
              | suc q ↦ (λ w. never (suc k) ys q y w hit f)
            ] at)
          ] refl none

-- the value by which a step lands is in range
pub value_within : (c : Compared) (l : Label) (v : ℤ) → OneRange c → in_range_of c.left c.left.lo ≡ true → value_fits c l v ≡ true → in_range_of c.left (value_by c l v) ≡ true
value_within c l v one low =
    elim (receives l) as (λ b. cond b (in_range_of c.left v) true ≡ true → in_range_of c.left (cond b v c.left.lo) ≡ true) [ true ↦ (λ e. e) | false ↦ (λ e. low) ]

-- of a bisimulation, what a call writes is so
module _ (c : Compared) (bis : Bisimulation c) (low : in_range_of c.left c.left.lo ≡ true) where
  sound_challenge : (p : Pair) (side : Side) (i : ℕ) → Holds c.relation p → Sound c (book p (cond (nat_lt i (length (steps_on side c p))) (challenged side i) level))
  sound_challenge p side i h =
      elim (nat_lt i (length (steps_on side c p))) as (λ b. nat_lt i (length (steps_on side c p)) ≡ b → Sound c (book p (cond b (challenged side i) level))) [
        | true ↦ (λ t. record { held = h; keeping = ltb-true _ _ t })
        | false ↦ (λ _. record { held = h; keeping = tt })
      ] refl

  sound_reply : (p : Pair) (e : Side) (i : ℕ) → Holds c.relation p → i < length (steps_on e c p) → Sound c (book p (with_reply e i (first_reply c e p (slice_get (steps_on e c p) i))))
  sound_reply p e i h has =
      let x = nth_here (steps_on e c p) i has in
      subst (λ (o : Option Step). Sound c (book p (with_reply e i (first_reply c e p o)))) (sym x.1)
      (elim (first_reply c e p (Some x.0)) as (λ o. first_reply c e p (Some x.0) ≡ o → Sound c (book p (with_reply e i o))) [
        | None ↦ (λ _. record { held = h; keeping = has })
        | Some j ↦ (λ t. record { held = h; keeping = is_first c bis.one_range e p i x.0 x.1 j t })
      ] refl)

  sound_settle : (p : Pair) (e : Side) (i j : ℕ) (v : ℤ) → Holds c.relation p → FirstReply c e p i j
      → Sound c (book_after_settle c (book p (answered e i j)) e (slice_get (steps_on e c p) i) (slice_get (steps_on (opposed e) c p) j) v)
  sound_settle p e i j v h first =
      let r = first.0 in
      subst (λ (o : Option Step). Sound c (book_after_settle c (book p (answered e i j)) e o (slice_get (steps_on (opposed e) c p) j) v)) (sym r.asked_at)
      (subst (λ (o : Option Step). Sound c (book_after_settle c (book p (answered e i j)) e (Some r.asked) o v)) (sym r.given_at)
      (elim (value_fits c r.asked.label v) as (λ b. value_fits c r.asked.label v ≡ b → Sound c (cond b (book (landings_by c e r.asked r.given v) level) (book p (answered e i j)))) [
        | true ↦ (λ t. record { held = r.lands (value_by c r.asked.label v) (value_within c r.asked.label v bis.one_range low t); keeping = tt })
        | false ↦ (λ _. record { held = h; keeping = first })
      ] refl))

  sound_writes : (p : Pair) (s : Phase) (call : Call) → Holds c.relation p → Keeping c p s → Sound c (next_book c p s call)
  sound_writes p level (Challenge side i) h k = sound_challenge p side i h
  sound_writes p level AskReply h k = record { held = h; keeping = tt }
  sound_writes p level (Settle v) h k = record { held = h; keeping = tt }
  sound_writes p (challenged e i) (Challenge side j) h k = record { held = h; keeping = k }
  sound_writes p (challenged e i) AskReply h k = sound_reply p e i h k
  sound_writes p (challenged e i) (Settle v) h k = record { held = h; keeping = k }
  sound_writes p (answered e i j) (Challenge side m) h k = record { held = h; keeping = k }
  sound_writes p (answered e i j) AskReply h k = record { held = h; keeping = k }
  sound_writes p (answered e i j) (Settle v) h k = sound_settle p e i j v h k

  -- a challenge that the book holds has a first reply, which its reply writes
  pub reply_written : (p : Pair) (e : Side) (i : ℕ) → Holds c.relation p → i < length (steps_on e c p)
      → (j : ℕ) × (with_reply e i (first_reply c e p (slice_get (steps_on e c p) i)) ≡ answered e i j) × FirstReply c e p i j
  reply_written p e i h has =
      let x = nth_here (steps_on e c p) i has in
      let reply = (bis.each h.0 p h.1).answered e i has in
      let there = elim (first_reply c e p (Some x.0)) as (λ o. first_reply c e p (Some x.0) ≡ o → (j : ℕ) × (first_reply c e p (Some x.0) ≡ Some j) × FirstReply c e p i j) [
        | None ↦ (λ t. absurd (none_first c bis.one_range e p i x.0 x.1 t reply.0 reply.1))
        | Some j ↦ (λ t. (j, t, is_first c bis.one_range e p i x.0 x.1 j t))
      ] refl in
      let whole = ap (first_reply c e p) x.1 ∙ there.1 in
      (there.0, ap (with_reply e i) whole, there.2)

  pub sound_after_call : (b : Book) (call : Call) → Sound c b → Sound c (book_after_call c b call)
  sound_after_call b call s = sound_writes b.present b.phase call s.held s.keeping

  pub sound_after : (b : Book) (attempts : List Attempt) → Sound c b → Sound c (book_after c b attempts)
  sound_after b [] s = s
  sound_after b (a ∷ attempts) s = sound_after (book_after_call c b a.call) attempts (sound_after_call b a.call s)

-- a first reply is fixed for every value
pub fixed_first : (c : Compared) (side : Side) (p : Pair) (i j : ℕ) → FirstReply c side p i j → FirstForAllValues c side p i j
fixed_first c side p i j first =
    let r = first.0 in
    record {
      first = first;
      one_label = ap (through (λ z. z.label)) r.given_at ∙ ap Some (sym r.one_label) ∙ sym (ap (through (λ z. z.label)) r.asked_at);
      each_value = λ v within. record {
        own = r.asked.landing v;
        other = r.given.landing v;
        own_at = own_landing c r.one_range side p i j r.asked r.given r.asked_at r.given_at v within;
        other_at = other_landing c r.one_range side p i j r.asked r.given r.asked_at r.given_at v within;
        held = r.lands v within;
      };
    }
