-- What the answers of a system tell of its steps. Assumes nothing.
use Rattle.std.proofs.Common.{◌≡◌, ℕ, ◌+◌, ◌<◌, ◌≤◌, Bool, true, false, cond, List, [], ◌∷◌, ◌++◌, map, length, take, ℤ, Some, None, Option, sym, refl, ap, ◌∙◌, arith}
use Rattle.std.specs.List.{slice_get}
use Rattle.std.proofs.lemmas.List.{append_assoc, take_all}
use Rattle.lists.specs.Words.{through, given, Stands}
use Rattle.lists.proofs.Places.{some_none, nth_here}
use Rattle.lists.proofs.Loops.{map_take_more}
use Rattle.model.specs.declared.label.Label.{Label}
use Rattle.model.specs.declared.state.State.{State}
use Rattle.systems.specs.declared.listed.Listed.{Listed}
use Rattle.systems.specs.Meaning.{Meaning, Step, in_range_of, label_at, landing_at}
use Rattle.systems.specs.Listing.{listed_at, listing}

-- a label tells of a step, and no label of none
pub label_some : (o : Option Step) (l : Label) → through (λ x. x.label) o ≡ Some l → (x : Step) × (o ≡ Some x) × (x.label ≡ l)
label_some None l e = let z : ◌≡◌ {A = ℕ} 0 1 = cc in absurd (omega arith)
label_some (Some x) l e = (x, refl, cc)

pub label_none : (o : Option Step) → through (λ x. x.label) o ≡ None → o ≡ None
label_none None e = refl
label_none (Some x) e = let z : ◌≡◌ {A = ℕ} 0 1 = cc in absurd (omega arith)

pub given_cond : {X : Type 0} (b : Bool) (x : X) → cond b (Some x) None ≡ given b x
given_cond true x = refl
given_cond false x = refl

-- the loop that lists the steps one by one; w is the value as the code passes it
module _ (m : Meaning) (s : State) (v w : ℤ) (same : w ≡ v) (k : ℕ) where
  landing_listed : (x : Step) → Stands (m.steps s) x k → landing_at m s k w ≡ given (in_range_of m v) (x.landing v)
  landing_listed x at =
      ap (landing_at m s k) same ∙ ap (λ o. cond (in_range_of m v) (through (λ y. y.landing v) o) None) at ∙ given_cond (in_range_of m v) (x.landing v)

  pub list_more : (label : Label) (landing : Option State) (before was now : List Listed) → Some label ≡ label_at m s k → landing ≡ landing_at m s k w
      → now ≡ was ++ record { label = label; landing = landing } ∷ [] → was ≡ before ++ map (listed_at m v) (take k (m.steps s)) → now ≡ before ++ map (listed_at m v) (take (k + 1) (m.steps s))
  list_more label landing before was now l e pushed inv =
      let p = label_some (slice_get (m.steps s) k) label (sym l) in
      let x = p.0 in
      let f : ◌≡◌ {A = Listed} (record { label = label; landing = landing }) (listed_at m v x) = (λ i. record { label = sym p.2 i; landing = (e ∙ landing_listed x p.1) i }) in
      pushed ∙ ap (λ y. was ++ y ∷ []) f ∙ ap (λ xs. xs ++ listed_at m v x ∷ []) inv
      ∙ append_assoc before (map (listed_at m v) (take k (m.steps s))) (listed_at m v x ∷ [])
      ∙ ap (λ xs. before ++ xs) (sym (map_take_more (listed_at m v) (m.steps s) k x p.1))

pub label_there : (m : Meaning) (s : State) (k : ℕ) → k < length (m.steps s) → None ≡ label_at m s k → ⊥
label_there m s k h e = let p = nth_here (m.steps s) k h in some_none _ _ p.1 (label_none (slice_get (m.steps s) k) (sym e))

pub list_all : (m : Meaning) (s : State) (v w : ℤ) (k : ℕ) (before xs : List Listed) → w ≡ v → length (m.steps s) ≤ k → xs ≡ before ++ map (listed_at m w) (take k (m.steps s)) → xs ≡ before ++ listing m s v
list_all m s v w k before xs same h inv = inv ∙ ap (λ ls. before ++ map (listed_at m w) ls) (take_all k (m.steps s) h) ∙ ap (λ z. before ++ listing m s z) same
