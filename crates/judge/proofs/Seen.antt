-- What the held lists of a pair's steps tell of the steps that are no receives, by the records of the relation. Assumes nothing.
use Rattle.std.proofs.Common.{◌≡◌, ℕ, ◌<◌, Bool, true, false, List, length, ℤ, is_some, Some, Option, Decides, sym, refl, ap, ◌∙◌, subst, arith}
use Rattle.std.specs.List.{slice_get}
use Rattle.std.proofs.lemmas.Int.{ints}
use Rattle.std.proofs.lemmas.Bool.Decides.{Decides-like}
use Rattle.lists.specs.Words.{given, Stands, FirstOf}
use Rattle.lists.proofs.Places.{nth_within, some_same}
use Rattle.lists.proofs.Listed.{nth_map_some}
use Rattle.questions.specs.declared.Side.{Side}
use Rattle.questions.specs.declared.Side.TheVariants.{Left, Right}
use Rattle.model.specs.declared.label.Label.{Label}
use Rattle.model.specs.declared.state.Pair.{Pair}
use Rattle.model.specs.declared.state.State.{State}
use Rattle.systems.specs.declared.listed.Listed.{Listed}
use Rattle.systems.specs.Listing.{listed_at}
use Rattle.systems.specs.Meaning.{Keeps, in_range_of, receives}
use Rattle.judge.specs.Comparing.{Compared, OneRange, opposed, pair_from, system_on, state_on, steps_on, listing_on}
use Rattle.judge.specs.Likeness.{Reply, Answered, SeenAt}
use Rattle.judge.proofs.Finding.{decides_first}
use Rattle.judge.proofs.Listed.{listed_step, listed_label, listed_landing, reply_seen}
use Rattle.judge.proofs.Replying.{range_on}
use Rattle.judge.proofs.Values.{in_range_lem}

-- a listed step with the landing a, put beside the label k and the landing b
pub alike : (xs : List Listed) (j : ℕ) (y : Listed) (k : Label) (a b : State) (r : Bool) → slice_get xs j ≡ Some y → y.label ≡ k → y.landing ≡ Some a → Decides r (a ≡ b)
    → Decides r (Stands xs (record { label = k; landing = Some b }) j)
alike xs j y k a b r at same lands d =
    Decides-like r
    (λ e. at ∙ ap (λ (z : Label). Some (record { label = z; landing = y.landing })) same ∙ ap (λ (o : Option State). Some (record { label = k; landing = o })) (lands ∙ ap Some e))
    (λ s. some_same _ a b lands (ap (λ (z : Listed). z.landing) (some_same _ _ _ at s)))
    d

-- the pair of the states that a pair has on the two sides is that pair
pair_again : (side : Side) (q : Pair) → pair_from side (state_on side q) (state_on (opposed side) q) ≡ q
pair_again Left q = refl
pair_again Right q = refl

pub own_state : (side : Side) (a b : State) → state_on side (pair_from side a b) ≡ a
own_state Left a b = refl
own_state Right a b = refl

pub other_state : (side : Side) (a b : State) → state_on (opposed side) (pair_from side a b) ≡ b
other_state Left a b = refl
other_state Right a b = refl

given_true : {X : Type 0} (b : Bool) (x : X) → b ≡ true → given b x ≡ Some x
given_true b x e = ap (λ t. given t x) e

module _ (c : Compared) (side opp : Side) (p : Pair) (u : ℤ) (y : Listed) (o : opp ≡ opposed side) where
  -- the record with the number k, and whether y lands on its state
  module _ (k : ℕ) (own : State) (held : Pair) (lands : y.landing ≡ Some own) (held-at : slice_get c.relation k ≡ Some held) where
    pub not_seen_at : (own ≡ state_on side held → ⊥) → SeenAt c side p u y k → ⊥
    not_seen_at differ s = differ (some_same _ _ _ lands s.own ∙ ap (state_on side) (some_same _ _ _ s.held_at held-at))

    pub seen_at : (other : State) (n : ℕ) (r : Option ℕ) (b : Bool) → own ≡ state_on side held → other ≡ state_on opp held → n ≡ length (steps_on opp c p)
        → FirstOf (λ j. (j < n) × Stands (listing_on (opposed side) c p u) (record { label = y.label; landing = Some other }) j) r → b ≡ is_some r → Decides b (SeenAt c side p u y k)
    seen_at other n r b same there whole first is =
        let there' : other ≡ state_on (opposed side) held = there ∙ ap (λ s. state_on s held) o in
        Decides-like b
        (λ f. record { held = held; held_at = held-at; own = lands ∙ ap Some same; number = f.0; other_at = subst (λ (s : State). Stands (listing_on (opposed side) c p u) (record { label = y.label; landing = Some s }) f.0) there' f.1.1 })
        (λ s.
        let q = some_same _ _ _ s.held_at held-at in
        let at = subst (λ (t : State). Stands (listing_on (opposed side) c p u) (record { label = y.label; landing = Some t }) s.number) (ap (state_on (opposed side)) q ∙ sym there') s.other_at in
        let x = listed_step c (opposed side) p u s.number _ at in
        (s.number, (rw (whole ∙ ap (λ t. length (steps_on t c p)) o) (nth_within (steps_on (opposed side) c p) s.number x.0 x.1), at)))
        (decides_first _ r b first is)

-- a step that is no receive has a reply exactly where it is seen at a record
module _ (c : Compared) (side : Side) (p : Pair) (u : ℤ) (i : ℕ) (y : Listed) (one : OneRange c) (keeps-left : Keeps c.left) (keeps-right : Keeps c.right) (low : u ≡ c.left.lo) (at : Stands (listing_on side c p u) y i) (quiet : receives y.label ≡ false) where
  within : in_range_of c.left u ≡ true
  within = let ordered = keeps-left.ordered in in_range_lem c.left.lo c.left.hi u (omega (arith, ints)) (omega (arith, ints))

  seen_replies : (k : ℕ) → SeenAt c side p u y k → Answered c side p i
  seen_replies k s =
      let z : Listed = record { label = y.label; landing = Some (state_on (opposed side) s.held) } in (
        s.number,
        reply_seen c side (opposed side) p i s.number y.label y.label u y.landing z.landing one keeps-left keeps-right refl
            (listed_label c side p u i y at) (listed_label c (opposed side) p u s.number z s.other_at) (refl, quiet) low
            (listed_landing c side p u i y at) (listed_landing c (opposed side) p u s.number z s.other_at)
            (state_on side s.held, state_on (opposed side) s.held, s.own, refl, (k, s.held_at ∙ ap Some (sym (pair_again side s.held)))),
      )

  seen_of_reply : (j : ℕ) → Reply c side p i j → (k : ℕ) × SeenAt c side p u y k
  seen_of_reply j r =
      let x = listed_step c side p u i y at in
      let own : y ≡ listed_at (system_on side c) u r.asked = x.2 ∙ ap (listed_at (system_on side c) u) (some_same _ _ _ x.1 r.asked_at) in
      let h = r.lands u within in
      let a = r.asked.landing u in
      let b = r.given.landing u in
      let there : Stands (listing_on (opposed side) c p u) (listed_at (system_on (opposed side) c) u r.given) j = nth_map_some (listed_at (system_on (opposed side) c) u) (steps_on (opposed side) c p) j r.given r.given_at in
      let label : r.given.label ≡ y.label = sym (ap (λ (l : Listed). l.label) own ∙ r.one_label) in
      let landing : given (in_range_of (system_on (opposed side) c) u) b ≡ Some (state_on (opposed side) (pair_from side a b)) =
      given_true _ b (sym (range_on c one (opposed side) u) ∙ within) ∙ ap Some (sym (other_state side a b)) in (
        h.0,
        record {
          held = pair_from side a b;
          held_at = h.1;
          own = ap (λ (l : Listed). l.landing) own ∙ given_true _ a (sym (range_on c one side u) ∙ within) ∙ ap Some (sym (own_state side a b));
          number = j;
          other_at = there ∙ ap (λ (l : Label). Some (record { label = l; landing = given (in_range_of (system_on (opposed side) c) u) b })) label ∙ ap (λ (o : Option State). Some (record { label = y.label; landing = o })) landing;
        },
      )

  pub seen_answered : (n : ℕ) (r : Option ℕ) (b : Bool) → n ≡ length c.relation → FirstOf (λ k. (k < n) × SeenAt c side p u y k) r → b ≡ is_some r → Decides b (Answered c side p i)
  seen_answered n r b whole first is =
      Decides-like b
      (λ f. seen_replies f.0 f.1.1)
      (λ a. let s = seen_of_reply a.0 a.1 in (s.0, (rw whole (nth_within c.relation s.0 s.1.held s.1.held_at), s.1)))
      (decides_first _ r b first is)
