-- A step that is an earlier one again is answered where that one is. Assumes nothing.
use Rattle.std.proofs.Common.{◌≡◌, ℕ, ◌+◌, ◌<◌, ◌≤◌, Bool, true, false, List, length, map, ℤ, Some, None, sym, refl, ap, ◌∙◌, subst, ⊎_elim, arith}
use Rattle.std.proofs.Math.Logic.{∥∥₁_elim}
use Rattle.std.proofs.Math.Nat.{eq-or-lt_of_le}
use mathlib.Core.HLevel.{⊥_prop}
use Rattle.std.proofs.lemmas.Bool.{cases_lt}
use Rattle.std.proofs.lemmas.Int.{ints}
use Rattle.std.proofs.lemmas.List.{length-map}
use Rattle.std.specs.List.{slice_get}
use Rattle.lists.specs.Words.{given, Stands, FirstOf}
use Rattle.lists.proofs.Listed.{nth_map_some}
use Rattle.lists.proofs.Places.{some_same, nth_within}
use Rattle.questions.specs.Asking.{first_no}
use Rattle.questions.specs.declared.Side.{Side}
use Rattle.model.specs.declared.state.Pair.{Pair}
use Rattle.systems.specs.declared.listed.Listed.{Listed}
use Rattle.systems.specs.Listing.{listed_at}
use Rattle.systems.specs.Meaning.{Step, Keeps, in_range_of, receives}
use Rattle.systems.proofs.Ways.{map_stands}
use Rattle.judge.specs.Comparing.{Compared, OneRange, pair_from, system_on, state_on, steps_on, listing_on}
use Rattle.judge.specs.Firsts.{Again, Firsts}
use Rattle.judge.specs.Judged.{steps_asked}
use Rattle.judge.specs.Likeness.{Holds, Answered}
use Rattle.judge.specs.declared.buckets.Entry.{Entry}
use Rattle.judge.specs.declared.firsts.First.{First}
use Rattle.judge.proofs.Listed.{listed_step, first_unmet}
use Rattle.judge.proofs.Replying.{range_on, keeps_on}
use Rattle.judge.proofs.Values.{in_range_lem}

given_same : {X : Type 0} (b : Bool) (x y : X) → b ≡ true → given b x ≡ given b y → x ≡ y
given_same b x y t e = some_same (given true x) x y refl (rw t at e)

-- the steps of the first n entries have replies
abbrev pub AnsweredBelow : Compared → Side → Pair → List (Entry First) → ℕ → Type 0
AnsweredBelow c side p es n = (k : ℕ) (e : Entry First) → k < n → Stands es e k → Answered c side p e.item.step

pub answered_more : (c : Compared) (side : Side) (p : Pair) (es : List (Entry First)) (n : ℕ) (e : Entry First) → Stands es e n → AnsweredBelow c side p es n → Answered c side p e.item.step → AnsweredBelow c side p es (n + 1)
answered_more c side p es n e at below here k d less d-at =
    ⊎_elim
    (λ eq. subst (λ (x : Entry First). Answered c side p x.item.step) (some_same _ _ _ at (ap (slice_get es) (sym eq) ∙ d-at)) here)
    (λ lt. below k d lt d-at)
    (eq-or-lt_of_le (let h : k ≤ n = omega (arith, less) in h))

module _ (c : Compared) (side : Side) (p : Pair) (u : ℤ) (one : OneRange c) (keeps-left : Keeps c.left) (keeps-right : Keeps c.right) (low : u ≡ c.left.lo) where
  within : in_range_of (system_on side c) u ≡ true
  within = let ordered = keeps-left.ordered in sym (range_on c one side u) ∙ in_range_lem c.left.lo c.left.hi u (omega (arith, ints)) (omega (arith, ints))

  module _ (j i : ℕ) (y : Listed) (once : Stands (listing_on side c p u) y j) (again : Stands (listing_on side c p u) y i) (quiet : receives y.label ≡ false) where
    one_step : (x z : Step) → Stands (steps_on side c p) x j → y ≡ listed_at (system_on side c) u x → Stands (steps_on side c p) z i → y ≡ listed_at (system_on side c) u z
        → (v : ℤ) → in_range_of (system_on side c) v ≡ true → x.landing v ≡ z.landing v
    one_step x z x-at x-is z-at z-is v hv =
        let keeps = keeps_on c keeps-left keeps-right side in
        let there = given_same _ (x.landing u) (z.landing u) within (ap (λ (l : Listed). l.landing) (sym x-is ∙ z-is)) in
        keeps.steady (state_on side p) j x x-at (sym (ap (λ (l : Listed). receives l.label) x-is) ∙ quiet) v u hv within
        ∙ there
        ∙ keeps.steady (state_on side p) i z z-at (sym (ap (λ (l : Listed). receives l.label) z-is) ∙ quiet) u v within hv

    alike_answered : Answered c side p j → Answered c side p i
    alike_answered a =
        let x = listed_step c side p u j y once in
        let z = listed_step c side p u i y again in
        let r = a.1 in
        let asked = some_same _ _ _ r.asked_at x.1 in (
          a.0,
          record {
            one_range = one;
            asked = z.0;
            given = r.given;
            asked_at = z.1;
            given_at = r.given_at;
            one_label = ap (λ (l : Listed). l.label) (sym z.2 ∙ x.2) ∙ sym (ap (λ (w : Step). w.label) asked) ∙ r.one_label;
            lands = λ v h.
                subst (λ s. Holds c.relation (pair_from side s (r.given.landing v)))
                (ap (λ (w : Step). w.landing v) asked ∙ one_step x.0 z.0 x.1 x.2 z.1 z.2 v (sym (range_on c one side v) ∙ h))
                (r.lands v h);
          },
        )

  again_answered : (j i : ℕ) → Again (listing_on side c p u) j i → Answered c side p j → Answered c side p i
  again_answered j i a h =
      elim (receives a.listed.label) as (λ b. receives a.listed.label ≡ b → Answered c side p i) [
        | true ↦ (λ e. subst (Answered c side p) (a.own e) h)
        | false ↦ (λ e. alike_answered j i a.listed a.once a.again e h)
      ] refl

  module _ (fs : List First) (known : ∥ Firsts (listing_on side c p u) (length (listing_on side c p u)) fs ∥₁) where
    long : length (listing_on side c p u) ≡ length (steps_on side c p)
    long = length-map (steps_on side c p) (listed_at (system_on side c) u)

    all_answered : ((k : ℕ) (f : First) → Stands fs f k → Answered c side p f.step) → FirstOf (λ i. (i < length (steps_on side c p)) × (Answered c side p i → ⊥)) None
    all_answered all i q =
        ∥∥₁_elim known ⊥_prop
        (λ firsts.
        let e = firsts.each i (let h = q.0 in omega (arith, long, h)) in
        q.1 (again_answered e.1.step i e.4 (all e.0 e.1 e.2)))

    step_there : (k : ℕ) (f : First) → Stands fs f k → f.step < length (steps_on side c p)
    step_there k f at =
        ⊎_elim (λ lt. lt) (λ le. absurd (∥∥₁_elim known ⊥_prop (λ firsts. let h = firsts.below k f at in omega (arith, long, h, le)))) (cases_lt f.step (length (steps_on side c p)))

    one_unanswered : (k : ℕ) (f : First) → Stands fs f k → ((l : ℕ) (g : First) → l < k → Stands fs g l → Answered c side p g.step) → (Answered c side p f.step → ⊥)
        → FirstOf (λ i. (i < length (steps_on side c p)) × (Answered c side p i → ⊥)) (Some f.step)
    one_unanswered k f at before none = (
      (step_there k f at, none),
      λ i less q.
          ∥∥₁_elim known ⊥_prop
          (λ firsts.
          let below = firsts.below k f at in
          let e = firsts.each i (omega (arith, below, less)) in
          let earlier = e.3 in
          ⊎_elim
          (λ lt. q.1 (again_answered e.1.step i e.4 (before e.0 e.1 lt e.2)))
          (λ le.
          ⊎_elim
          (λ same.
          let s = ap (λ (g : First). g.step) (some_same _ _ _ at (ap (slice_get fs) same ∙ e.2)) in
          absurd (omega (arith, s, less, earlier)))
          (λ lt. let o = firsts.ordered k e.0 f e.1 lt at e.2 in absurd (omega (arith, o, less, earlier)))
          (eq-or-lt_of_le le))
          (cases_lt e.0 k)),
    )

    -- what a walk over the entries tells
    module _ (es : List (Entry First)) (same : fs ≡ map (λ e. e.item) es) where
      entry_of : (k : ℕ) (f : First) → Stands fs f k → (e : Entry First) × Stands es e k × (f ≡ e.item)
      entry_of k f at = map_stands (λ e. e.item) es k f (ap (λ xs. slice_get xs k) (sym same) ∙ at)

      pub none_without : (n : ℕ) → length es ≤ n → AnsweredBelow c side p es n → None ≡ first_no (steps_asked c side p)
      none_without n all below =
          first_unmet c one side p _ None refl
          (all_answered (λ k f at. let e = entry_of k f at in let h = nth_within es k e.0 e.1 in subst (λ (g : First). Answered c side p g.step) (sym e.2) (below k e.0 (omega (arith, h, all)) e.1)))

      pub first_without : (n : ℕ) (e : Entry First) → Stands es e n → AnsweredBelow c side p es n → (Answered c side p e.item.step → ⊥) → Some e.item.step ≡ first_no (steps_asked c side p)
      first_without n e at below none =
          first_unmet c one side p _ (Some e.item.step) refl
          (one_unanswered n e.item (ap (λ xs. slice_get xs n) same ∙ nth_map_some (λ d. d.item) es n e at)
          (λ l g less g-at. let d = entry_of l g g-at in subst (λ (h : First). Answered c side p h.step) (sym d.2) (below l d.0 less d.1)) none)
