-- What is gathered from a list. Assumes nothing.
use Rattle.std.proofs.Common.{◌≡◌, ℕ, suc, ◌≤◌, Bool, true, List, [], ◌∷◌, length, Some, None, Option, refl, arith}
use Rattle.std.proofs.lemmas.Bool.{and_from}
use Rattle.lists.specs.Words.{every_from, every, added, gathered}

module _ {X Y : Type 0} (f : X → Option Y) where
  -- no more is gathered than there is
  pub length_gathered : (xs : List X) → length (gathered f xs) ≤ length xs
  length_gathered [] = omega arith
  length_gathered (x ∷ xs) = one (f x) (length_gathered xs)
    where
      one : (o : Option Y) → length (gathered f xs) ≤ length xs → length (added o (gathered f xs)) ≤ suc (length xs)
      one None h = omega arith
      one (Some y) h = omega arith

  -- what holds of all that f gives holds of all that is gathered
  module _ (p : Y → Bool) (each : (x : X) (y : Y) → f x ≡ Some y → p y ≡ true) where
    every_gathered_from : (k : ℕ) (xs : List X) → every_from (λ _. p) k (gathered f xs) ≡ true
    every_gathered_from k [] = refl
    every_gathered_from k (x ∷ xs) = one (λ i. every_gathered_from i xs) (f x) refl
      where
        one : ((i : ℕ) → every_from (λ _. p) i (gathered f xs) ≡ true) → (o : Option Y) → f x ≡ o → every_from (λ _. p) k (added o (gathered f xs)) ≡ true
        one rest None e = rest k
        one rest (Some y) e = and_from (p y) (every_from (λ _. p) (suc k) (gathered f xs)) (each x y e) (rest (suc k))

    pub every_gathered : (xs : List X) → every p (gathered f xs) ≡ true
    every_gathered xs = every_gathered_from 0 xs
