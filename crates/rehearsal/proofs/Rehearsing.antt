-- The loop over the calls, and the law from what it leaves. Assumes nothing.
use Rattle.std.proofs.Common.{◌≡◌, ℕ, zero, suc, ◌+◌, ◌≤◌, Bool, true, false, cond, ◌⊎◌, inl, inr, List, [], ◌∷◌, ◌++◌, length, set, ℤ, nat_lt, Some, sym, refl, ap, ◌∙◌, subst, ⊎_elim, arith}
use Rattle.std.specs.List.{slice_get, AllByRecursion}
use Rattle.std.proofs.lemmas.List.{append_assoc, append-nil, length-append}
use Rattle.std.proofs.lemmas.Bool.{ltb-true, ltb-false, false≢true}
use Rattle.lists.specs.Words.{Stands, FirstOf}
use Rattle.lists.proofs.Places.{some_same, nth_within}
use Rattle.questions.specs.declared.Side.{Side}
use Rattle.model.specs.declared.state.Pair.{Pair}
use Rattle.systems.specs.Meaning.{Step, in_range_of, receives}
use Rattle.judge.specs.Comparing.{Compared, steps_on}
use Rattle.judge.specs.Likeness.{Holds, Bisimulation}
use Rattle.play.specs.Calls.{value_fits}
use Rattle.play.specs.declared.fault.Fault.{Fault}
use Rattle.play.specs.declared.fault.Fault.TheVariants.{NoStep, Value}
use Rattle.rehearsal.specs.declared.attempt.Attempt.{Attempt}
use Rattle.rehearsal.specs.declared.attempt.Call.{Call}
use Rattle.rehearsal.specs.declared.attempt.Call.TheVariants.{Challenge, Reply, Settle}
use Rattle.rehearsal.specs.declared.attempt.Outcome.{Outcome}
use Rattle.rehearsal.specs.declared.attempt.Outcome.TheVariants.{Taken, Refused}
use Rattle.rehearsal.specs.declared.make.AfterCall.{AfterCall}
use Rattle.rehearsal.specs.declared.playing.Play.{Play}
use Rattle.rehearsal.specs.Book.{Book, book, Phase, settle_outcome, next_book, book_after_call, book_after, outcome, with_outcome, attempts_with_outcomes, number_of, Agrees}
use Rattle.rehearsal.specs.Book.Phase.{level, challenged, answered}
use Rattle.rehearsal.specs.Law.{RefusedWhen, Place, book_at, IsTakenSettle, NoneSettled, OutOfRange, FirstForAllValues, Plays}
use Rattle.rehearsal.specs.Making.{Keeping, Sound, KeepsBook}
use Rattle.rehearsal.proofs.Books.{sound_after_call, sound_after, fixed_first, reply_written}

-- the play and the attempts after n calls: what is left gives the same book and the same outcomes as all did
pub record Going (c : Compared) (k : ℕ) (start : Book) (old now : List Attempt) (n : ℕ) (play : Play) : Type 0 where
  pub present : Book
  pub done : List Attempt
  pub left : List Attempt
  pub agrees : Agrees c.relation play present
  pub sound : Sound c present
  pub now_is : now ≡ done ++ left
  pub count : length done ≡ n
  pub same_outcomes : done ++ attempts_with_outcomes c present left ≡ attempts_with_outcomes c start old
  pub same_book : book_after c present left ≡ book_after c start old
  pub begun : NoneSettled done → number_of play ≡ k
  pub settled : (front back : List Attempt) (x : Attempt) → done ≡ front ++ x ∷ back → IsTakenSettle x → NoneSettled back → FirstOf (Stands c.relation present.present) (Some (number_of play))

-- the last element of a list, and what stands before it
none_before : {X P : Type 0} (front : List X) (x : X) (back : List X) → [] ≡ front ++ x ∷ back → P
none_before [] x back e = let z : ◌≡◌ {A = ℕ} 0 1 = cc in absurd (omega arith)
none_before (y ∷ front) x back e = let z : ◌≡◌ {A = ℕ} 0 1 = cc in absurd (omega arith)

-- an element of a list with x at its end is x, or stands before it
record Inner {X : Type 0} (xs : List X) (x : X) (front : List X) (y : X) (back : List X) : Type 0 where
  rest : List X
  back_is : back ≡ rest ++ x ∷ []
  xs_is : xs ≡ front ++ y ∷ rest

last_or_inner : {X : Type 0} (xs : List X) (x : X) (front : List X) (y : X) (back : List X) → xs ++ x ∷ [] ≡ front ++ y ∷ back → ((back ≡ []) × (x ≡ y)) ⊎ Inner xs x front y back
last_or_inner [] x [] y back e = inl (let a : back ≡ [] = cc in a, let b : x ≡ y = cc in b)
last_or_inner [] x (z ∷ front) y back e = let t : [] ≡ front ++ y ∷ back = cc in none_before front y back t
last_or_inner (w ∷ xs) x [] y back e = inr (record { rest = xs; back_is = let a : back ≡ xs ++ x ∷ [] = cc in a; xs_is = let b : w ∷ xs ≡ y ∷ xs = cc in b })
last_or_inner (w ∷ xs) x (z ∷ front) y back e =
    let t : xs ++ x ∷ [] ≡ front ++ y ∷ back = cc in
    let head : w ≡ z = cc in
    ⊎_elim (λ a. inl a) (λ i. inr (record { rest = i.rest; back_is = i.back_is; xs_is = let l = i.xs_is in cc })) (last_or_inner xs x front y back t)

all_but_last : {X : Type 0} (P : X → Type 0) (xs : List X) (x : X) → AllByRecursion P (xs ++ x ∷ []) → AllByRecursion P xs × P x
all_but_last P [] x h = (tt, h.0)
all_but_last P (y ∷ xs) x h = let r = all_but_last P xs x h.1 in ((h.0, r.0), r.1)

set_behind : {X : Type 0} (xs ys : List X) (n : ℕ) (x y : X) → length xs ≡ n → set (xs ++ x ∷ ys) n y ≡ xs ++ y ∷ ys
set_behind [] ys zero x y e = refl
set_behind [] ys (suc n) x y e = absurd (omega arith)
set_behind (z ∷ xs) ys zero x y e = absurd (omega arith)
set_behind (z ∷ xs) ys (suc n) x y e = ap (λ t. z ∷ t) (set_behind xs ys n x y (omega arith))

read_behind : {X : Type 0} (xs ys : List X) (n : ℕ) (x : X) → length xs ≡ n → slice_get (xs ++ x ∷ ys) n ≡ Some x
read_behind [] ys zero x e = refl
read_behind [] ys (suc n) x e = absurd (omega arith)
read_behind (z ∷ xs) ys zero x e = absurd (omega arith)
read_behind (z ∷ xs) ys (suc n) x e = read_behind xs ys n x (omega arith)

pub going_start : (c : Compared) (k : ℕ) (p : Pair) (old : List Attempt) (play : Play) → Holds c.relation p → number_of play ≡ k → Agrees c.relation play (book p level) → Going c k (book p level) old old 0 play
going_start c k p old play h at agrees = record {
  present = book p level;
  done = [];
  left = old;
  agrees = agrees;
  sound = record { held = h; keeping = tt };
  now_is = refl;
  count = refl;
  same_outcomes = refl;
  same_book = refl;
  begun = λ _. at;
  settled = λ front back x e. none_before front x back e;
}

module _ (c : Compared) (bis : Bisimulation c) (low : in_range_of c.left c.left.lo ≡ true) (k : ℕ) (start : Book) (old now : List Attempt) (n : ℕ) (play : Play) where
  -- one more call
  going_next : (here : Attempt) (made : AfterCall) (g : Going c k start old now n play) (behind : List Attempt) → g.left ≡ here ∷ behind → KeepsBook c play here.call made
      → Going c k start old (set now n (with_outcome here.call made.outcome)) (n + 1) made.play
  going_next here made g behind split keeps =
      let b = g.present in
      let next = keeps b g.agrees g.sound in
      let went = with_outcome here.call made.outcome in
      let as-book : ◌≡◌ {A = Attempt} went (with_outcome here.call (outcome c b.present b.phase here.call)) = ap (with_outcome here.call) next.went in
      record {
        present = book_after_call c b here.call;
        done = g.done ++ went ∷ [];
        left = behind;
        agrees = next.agrees;
        sound = sound_after_call c bis low b here.call g.sound;
        now_is = ap (λ xs. set xs n went) (g.now_is ∙ ap (λ xs. g.done ++ xs) split) ∙ set_behind g.done behind n here went g.count ∙ sym (append_assoc g.done (went ∷ []) behind);
        count = length-append g.done (went ∷ []) ∙ ap (λ j. j + 1) g.count;
        same_outcomes =
            append_assoc g.done (went ∷ []) (attempts_with_outcomes c (book_after_call c b here.call) behind)
            ∙ ap (λ a. g.done ++ a ∷ attempts_with_outcomes c (book_after_call c b here.call) behind) as-book
            ∙ sym (ap (λ xs. g.done ++ attempts_with_outcomes c b xs) split) ∙ g.same_outcomes;
        same_book = sym (ap (book_after c b) split) ∙ g.same_book;
        begun = λ none. let r = all_but_last (λ a. IsTakenSettle a → ⊥) g.done went none in (next.kept r.1).0 ∙ g.begun r.0;
        settled = λ front back x e taken none.
            ⊎_elim
            (λ last. next.first (subst (λ (a : Attempt). IsTakenSettle a) (sym last.1) taken))
            (λ i.
            let r = all_but_last (λ a. IsTakenSettle a → ⊥) i.rest went (subst (λ (xs : List Attempt). NoneSettled xs) i.back_is none) in
            let stays = next.kept r.1 in
            subst (λ (p : Pair). FirstOf (Stands c.relation p) (Some (number_of made.play))) (sym stays.1)
            (subst (λ (j : ℕ). FirstOf (Stands c.relation b.present) (Some j)) (sym stays.0) (g.settled front i.rest x i.xs_is taken r.0)))
            (last_or_inner g.done went front x back e);
      }

  pub going_push : (here : Attempt) (made : AfterCall) → slice_get now n ≡ Some here → KeepsBook c play here.call made → Going c k start old now n play
      → Going c k start old (set now n (with_outcome here.call made.outcome)) (n + 1) made.play
  going_push here made at keeps g =
      elim g.left as (λ xs. g.left ≡ xs → Going c k start old (set now n (with_outcome here.call made.outcome)) (n + 1) made.play) [
        | [] ↦ (λ e.
            let all : now ≡ g.done = g.now_is ∙ ap (λ xs. g.done ++ xs) e ∙ append-nil g.done in
            let within = nth_within now n here at in
            let count = g.count in
            let long : length now ≡ length g.done = ap length all in
            absurd (omega (arith, within, count, long)))
        | a ∷ behind ↦ (λ e.
            let same = some_same (slice_get now n) here a at (ap (λ xs. slice_get xs n) (g.now_is ∙ ap (λ xs. g.done ++ xs) e) ∙ read_behind g.done behind n a g.count) in
            going_next here made g behind (e ∙ ap (λ x. x ∷ behind) (sym same)) keeps)
      ] refl

-- how a call went at its place
went_at : (c : Compared) (b : Book) (attempts before behind : List Attempt) (call : Call) (went : Outcome) → attempts_with_outcomes c b attempts ≡ before ++ with_outcome call went ∷ behind
    → went ≡ outcome c (book_after c b before).present (book_after c b before).phase call
went_at c b [] before behind call went e = none_before before (with_outcome call went) behind e
went_at c b (a ∷ attempts) [] behind call went e =
    let head : ◌≡◌ {A = Attempt} (with_outcome a.call (outcome c b.present b.phase a.call)) (with_outcome call went) = cc in
    let same = ap (λ x. x.call) head in
    let s : Some (outcome c b.present b.phase a.call) ≡ Some went = ap (λ x. x.outcome) head in
    some_same (Some went) went _ refl (sym s) ∙ ap (outcome c b.present b.phase) same
went_at c b (a ∷ attempts) (d ∷ before) behind call went e =
    let head : ◌≡◌ {A = Attempt} (with_outcome a.call (outcome c b.present b.phase a.call)) d = cc in
    let rest : attempts_with_outcomes c (book_after_call c b a.call) attempts ≡ before ++ with_outcome call went ∷ behind = cc in
    let same = ap (λ x. x.call) head in
    went_at c (book_after_call c b d.call) attempts before behind call went (subst (λ (j : Call). attempts_with_outcomes c (book_after_call c b j) attempts ≡ before ++ with_outcome call went ∷ behind) same rest)

-- a call that is taken where b holds, and else refused
refused_when : (b : Bool) (X : Type 0) (went : Outcome) (f : Fault) → (b ≡ false → X) → (b ≡ true → X → ⊥) → went ≡ cond b Taken (Refused f) → RefusedWhen went f X
refused_when true X went f lost kept e = inr (e, kept refl)
refused_when false X went f lost kept e = inl (e, lost refl)

fits_false : (c : Compared) (x : Step) (v : ℤ) → value_fits c x.label v ≡ false → (receives x.label ≡ true) × (in_range_of c.left v ≡ false)
fits_false c x v = elim (receives x.label) as (λ b. cond b (in_range_of c.left v) true ≡ false → (b ≡ true) × (in_range_of c.left v ≡ false)) [ true ↦ (λ e. (refl, e)) | false ↦ (λ e. absurd (false≢true (sym e))) ]

false_fits : (c : Compared) (x : Step) (v : ℤ) → receives x.label ≡ true → in_range_of c.left v ≡ false → value_fits c x.label v ≡ false
false_fits c x v r o = ap (λ b. cond b (in_range_of c.left v) true) r ∙ o

module _ (c : Compared) (bis : Bisimulation c) (low : in_range_of c.left c.left.lo ≡ true) (k : ℕ) (p : Pair) (held : Holds c.relation p) (attempts tried : List Attempt) (all : tried ≡ attempts_with_outcomes c (book p level) attempts) where
  abbrev start : Book
  start = book p level

  went_so : (at : Place tried) (s : Phase) (call : Call) → at.call ≡ call → (book_at c start at).phase ≡ s → at.went ≡ outcome c (book_at c start at).present s call
  went_so at s call e f =
      went_at c start attempts at.before at.after at.call at.went (sym all ∙ at.here)
      ∙ ap (λ o. outcome c (book_at c start at).present o at.call) f ∙ ap (outcome c (book_at c start at).present s) e

  sound_here : (at : Place tried) → Sound c (book_at c start at)
  sound_here at = sound_after c bis low start at.before (record { held = held; keeping = tt })

  challenge_no : (at : Place tried) (side : Side) (i : ℕ) → at.call ≡ Challenge side i → (book_at c start at).phase ≡ level → RefusedWhen at.went NoStep (length (steps_on side c (book_at c start at).present) ≤ i)
  challenge_no at side i e f =
      let xs = steps_on side c (book_at c start at).present in
      refused_when (nat_lt i (length xs)) (length xs ≤ i) at.went NoStep (λ t. ltb-false i (length xs) t) (λ t h. let below = ltb-true i (length xs) t in omega (arith, h, below)) (went_so at level (Challenge side i) e f)

  reply_first : (at : Place tried) (e : Side) (i : ℕ) → at.call ≡ Reply → (book_at c start at).phase ≡ challenged e i
      → (j : ℕ) × ((book_after_call c (book_at c start at) Reply).phase ≡ answered e i j) × FirstForAllValues c e (book_at c start at).present i j
  reply_first at e i q f =
      let b = book_at c start at in
      let sound = sound_here at in
      let has = subst (λ (s : Phase). Keeping c b.present s) f sound.keeping in
      let r = reply_written c bis low b.present e i sound.held has in
      (r.0, ap (λ s. (next_book c b.present s Reply).phase) f ∙ r.1, fixed_first c e b.present i r.0 r.2)

  settle_no : (at : Place tried) (e : Side) (i j : ℕ) (v : ℤ) → at.call ≡ Settle v → (book_at c start at).phase ≡ answered e i j → RefusedWhen at.went Value (OutOfRange c e (book_at c start at).present i v)
  settle_no at e i j v q f =
      let b = book_at c start at in
      let fixed = subst (λ (s : Phase). Keeping c b.present s) f (sound_here at).keeping in
      let x = fixed.0.asked in
      refused_when (value_fits c x.label v) (OutOfRange c e b.present i v) at.went Value
      (λ t. let o = fits_false c x v t in record { step = x; at = fixed.0.asked_at; receive = o.0; out = o.1 })
      (λ t o. false≢true (sym (subst (λ (z : Step). value_fits c z.label v ≡ false) (some_same _ o.step x o.at fixed.0.asked_at) (false_fits c o.step v o.receive o.out)) ∙ t))
      (went_so at (answered e i j) (Settle v) q f ∙ ap (settle_outcome c v) fixed.0.asked_at)

  pub played : (play : Play) → Agrees c.relation play (book_after c start attempts) → (NoneSettled tried → number_of play ≡ k)
      → ((front back : List Attempt) (x : Attempt) → tried ≡ front ++ x ∷ back → IsTakenSettle x → NoneSettled back → FirstOf (Stands c.relation (book_after c start attempts).present) (Some (number_of play)))
      → Plays c k start attempts tried play
  played play agrees begun settled = record {
    agrees = agrees;
    outcomes = all;
    challenge_refused = challenge_no;
    reply_taken = λ at e i q f. went_so at (challenged e i) Reply q f;
    reply_fixed = reply_first;
    settle_refused = settle_no;
    begun_at = begun;
    settled_at = λ at v q t none. settled at.before at.after (with_outcome at.call at.went) at.here (v, q, ap Some t) none;
  }

pub going_end : (c : Compared) → Bisimulation c → in_range_of c.left c.left.lo ≡ true → (k : ℕ) (p : Pair) → Holds c.relation p → (old now : List Attempt) (n : ℕ) (play : Play) → length now ≤ n → Going c k (book p level) old now n play
    → Plays c k (book p level) old now play
going_end c bis low k p held old now n play past g =
    let none = elim g.left as (λ xs. g.left ≡ xs → g.left ≡ []) [
      | [] ↦ (λ e. e)
      | a ∷ behind ↦ (λ e.
          let long : length now ≡ length g.done + suc (length behind) = ap length (g.now_is ∙ ap (λ xs. g.done ++ xs) e) ∙ length-append g.done (a ∷ behind) in
          let count = g.count in
          absurd (omega (arith, past, count, long)))
    ] refl in
    let all : now ≡ g.done = g.now_is ∙ ap (λ xs. g.done ++ xs) none ∙ append-nil g.done in
    let outcomes : now ≡ attempts_with_outcomes c (book p level) old = all ∙ sym (append-nil g.done) ∙ sym (ap (λ xs. g.done ++ attempts_with_outcomes c g.present xs) none) ∙ g.same_outcomes in
    let there : g.present ≡ book_after c (book p level) old = sym (ap (book_after c g.present) none) ∙ g.same_book in
    played c bis low k p held old now outcomes play
    (subst (λ (b : Book). Agrees c.relation play b) there g.agrees)
    (λ none_settled. g.begun (subst (λ (xs : List Attempt). NoneSettled xs) all none_settled))
    (λ front back x e taken none_settled. subst (λ (b : Book). FirstOf (Stands c.relation b.present) (Some (number_of play))) there (g.settled front back x (sym all ∙ e) taken none_settled))
