-- What `find` tells over a range of numbers, `0..n`. Assumes nothing.
use Rattle.std.proofs.Common.{◌≡◌, ℕ, ◌≤◌, ◌<◌, Bool, true, false, is_some, Decides, sym, ◌∙◌, List, length, Some, None, Option, MatchOption, arith}
use Rattle.std.proofs.lemmas.Bool.{false≢true}
use Rattle.std.proofs.iter.Yields.{nat_range_steps}
use Rattle.std.proofs.lemmas.Iterator.{first_from_Range}
use Rattle.std.specs.Bool.{⊤}
use Rattle.std.specs.Fn.{Mut, CalledAt}
use Rattle.std.specs.Iterator.{YieldsThen}
use Rattle.std.specs.List.{FoldsTo}
use Rattle.std.specs.declared.ops.Range.{Range}
use Rattle.lists.specs.Words.{FirstOf}
use denote.Ref.{Bor}
use Rattle.lists.proofs.Places.{nth_within}
use Rattle.questions.specs.declared.Side.{Side}
use Rattle.model.specs.declared.state.Pair.{Pair}
use Rattle.judge.specs.Comparing.{Compared, opposed, steps_on}
use Rattle.judge.specs.Likeness.{Reply}

-- `find` by a closure that says yes of a number exactly where P holds
module _ {F : Type 0} {g : Mut F (Bor ℕ × Unit {0}) Bool} (f : F) (P : ℕ → Type 0) (hit : (k : ℕ) (q : F) → CalledAt g f k true q → P k) (miss : (k : ℕ) (q : F) → CalledAt g f k false q → (q ≡ f) × (P k → ⊥)) where
  below : (n : ℕ) (r : Option ℕ) → MatchOption r ((k : ℕ) → 0 ≤ k → k < n → P k → ⊥) (λ i. (0 ≤ i) × (i < n) × P i × ((k : ℕ) → 0 ≤ k → k < i → P k → ⊥)) → FirstOf (λ k. (k < n) × P k) r
  below n None h = λ k p. h k (omega arith) p.0 p.1
  below n (Some i) h = ((h.1, h.2), λ k before p. h.3 k (omega arith) before p.1)

  pub first_found : (n : ℕ) (u : Range ℕ) (r : Option ℕ) → (xs : List ℕ) × (j : F) × YieldsThen nat_range_steps (record { start = 0; end = n }) xs r u × FoldsTo (λ p x q. CalledAt g p x false q) f xs j × MatchOption r ⊤ (λ x. (h : F) × CalledAt g j x true h) → FirstOf (λ k. (k < n) × P k) r
  first_found n u r d = below n r (first_from_Range (record { start = 0; end = n }) u f r P (λ k. P k → ⊥) d hit miss)

-- a reply is a step of the opposite side's list
pub first_of_all : (c : Compared) (side : Side) (p : Pair) (i n : ℕ) (r : Option ℕ) → n ≡ length (steps_on (opposed side) c p) → FirstOf (λ j. (j < n) × Reply c side p i j) r → FirstOf (Reply c side p i) r
first_of_all c side p i n None all h = λ j y. h j (rw all (nth_within (steps_on (opposed side) c p) j y.given y.given_at), y)
first_of_all c side p i n (Some k) all h =
    (h.0.1, λ j before y. h.1 j before (rw all (nth_within (steps_on (opposed side) c p) j y.given y.given_at), y))

-- whether there is a first one
pub decides_first : (P : ℕ → Type 0) (r : Option ℕ) (b : Bool) → FirstOf P r → b ≡ is_some r → Decides b ((j : ℕ) × P j)
decides_first P None b h e = (λ yes. absurd (false≢true (sym e ∙ yes)), λ a. absurd (h a.0 a.1))
decides_first P (Some i) b h e = (λ _. (i, h.0), λ _. e)
