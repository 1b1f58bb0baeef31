-- What stands at a place of a list that is mapped. Assumes nothing.
use Rattle.std.proofs.Common.{◌≡◌, ℕ, zero, suc, Bool, true, false, cond, List, [], ◌∷◌, map, filter, Some, refl, ap, arith}
use Rattle.std.specs.List.{slice_get}
use Rattle.lists.specs.Words.{through}

module _ {X Y : Type 0} (f : X → Y) where
  -- an element of the mapped list comes from one of the list
  pub mapped_from : (xs : List X) (i : ℕ) (y : Y) → slice_get (map f xs) i ≡ Some y → (x : X) × (slice_get xs i ≡ Some x) × (f x ≡ y)
  mapped_from [] i y e = let z : ◌≡◌ {A = ℕ} 0 1 = cc in absurd (omega arith)
  mapped_from (x ∷ xs) zero y e = (x, refl, cc)
  mapped_from (x ∷ xs) (suc i) y e = mapped_from xs i y e

  -- what q makes of it
  pub mapped_through : {Z : Type 0} (q : Y → Z) (xs : List X) (i : ℕ) → through (λ x. q (f x)) (slice_get xs i) ≡ through q (slice_get (map f xs) i)
  mapped_through q [] i = refl
  mapped_through q (x ∷ xs) zero = refl
  mapped_through q (x ∷ xs) (suc i) = mapped_through q xs i

  pub nth_mapped : (xs : List X) (i : ℕ) → slice_get (map f xs) i ≡ through f (slice_get xs i)
  nth_mapped [] i = refl
  nth_mapped (x ∷ xs) zero = refl
  nth_mapped (x ∷ xs) (suc i) = nth_mapped xs i

  -- those that pass a test
  pub mapped_kept : (p : Y → Bool) (xs : List X) → filter p (map f xs) ≡ map f (filter (λ x. p (f x)) xs)
  mapped_kept p [] = refl
  mapped_kept p (x ∷ xs) =
      elim (p (f x)) as (λ b. cond b (f x ∷ filter p (map f xs)) (filter p (map f xs)) ≡ map f (cond b (x ∷ filter (λ y. p (f y)) xs) (filter (λ y. p (f y)) xs))) [
        | true ↦ ap (λ ys. f x ∷ ys) (mapped_kept p xs)
        | false ↦ mapped_kept p xs
      ]
