-- Steps of loops over a list. Assumes nothing.
use Rattle.std.proofs.Common.{◌≡◌, ℕ, zero, suc, ◌+◌, Bool, true, List, [], ◌∷◌, ◌++◌, map, take, Some, sym, refl, ap, ◌∙◌, add-zero, arith}
use mathlib.Core.List.{map-id}
use Rattle.std.specs.List.{slice_get}
use Rattle.std.proofs.lemmas.List.{map_more}
use Rattle.std.proofs.lemmas.Option.{slice_get-get_or}
use Rattle.std.proofs.lemmas.Bool.{and_parts, and_from}
use Rattle.lists.specs.Words.{every_from}
use Rattle.lists.proofs.Places.{some_same, some_none, nth_within}

-- a loop that stops at the first element that fails: what is left decides as the whole does
module _ {X : Type 0} (f : ℕ → X → Bool) where
  -- every element passes, place by place
  pub every_each : (k : ℕ) (xs : List X) → every_from f k xs ≡ true → (i : ℕ) (x : X) → slice_get xs i ≡ Some x → f (k + i) x ≡ true
  every_each k [] e i x at = absurd (some_none _ _ at refl)
  every_each k (y ∷ ys) e zero x at =
      let s : y ≡ x = cc in
      rw (add-zero k) (rw s at (and_parts (f k y) (every_from f (suc k) ys) e).0)
  every_each k (y ∷ ys) e (suc i) x at =
      let s : k + suc i ≡ suc k + i = omega arith in
      rw s (every_each (suc k) ys (and_parts (f k y) (every_from f (suc k) ys) e).1 i x at)

  pub each_every : (k : ℕ) (xs : List X) → ((i : ℕ) (x : X) → slice_get xs i ≡ Some x → f (k + i) x ≡ true) → every_from f k xs ≡ true
  each_every k [] h = refl
  each_every k (x ∷ xs) h =
      and_from (f k x) (every_from f (suc k) xs) (rw (add-zero k) at (h 0 x refl))
      (each_every (suc k) xs (λ i y e. let s : k + suc i ≡ suc k + i = omega arith in rw s at (h (suc i) y e)))

-- a loop that maps each element
pub map_take_more : {X Y : Type 0} (f : X → Y) (xs : List X) (k : ℕ) (x : X) → slice_get xs k ≡ Some x → map f (take (k + 1) xs) ≡ map f (take k xs) ++ f x ∷ []
map_take_more f xs k x at =
    map_more f xs k x (nth_within xs k x at) ∙ ap (λ y. map f (take k xs) ++ f y ∷ []) (some_same (slice_get xs k) _ x (slice_get-get_or xs k x (nth_within xs k x at)) at)

-- a loop that takes the elements one by one
pub take_nth : {X : Type 0} (xs : List X) (k : ℕ) (x : X) → slice_get xs k ≡ Some x → take (k + 1) xs ≡ take k xs ++ x ∷ []
take_nth xs k x at = sym (map-id (take (k + 1) xs)) ∙ map_take_more (λ y. y) xs k x at ∙ ap (λ ys. ys ++ x ∷ []) (map-id (take k xs))
