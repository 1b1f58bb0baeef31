-- Facts on what stands at a place of a list. Assumes nothing.
use Rattle.std.proofs.Common.{◌≡◌, ℕ, zero, suc, ◌<◌, List, [], ◌∷◌, length, drop, Some, None, Option, refl, arith}
use Rattle.std.specs.List.{slice_get}

pub some_same : {X : Type 0} (o : Option X) (x y : X) → o ≡ Some x → o ≡ Some y → x ≡ y
some_same o x y p q = cc

pub some_none : {X : Type 0} (o : Option X) (x : X) → o ≡ Some x → o ≡ None → ⊥
some_none o x p q = let z : ◌≡◌ {A = ℕ} 0 1 = cc in omega arith

pub nth_within : {X : Type 0} (xs : List X) (k : ℕ) (x : X) → slice_get xs k ≡ Some x → k < length xs
nth_within [] k x e = absurd (some_none (slice_get [] k) x e refl)
nth_within (y ∷ ys) zero x e = omega arith
nth_within (y ∷ ys) (suc k) x e = let h : k < length ys = nth_within ys k x e in omega arith

pub nth_here : {X : Type 0} (xs : List X) (k : ℕ) → k < length xs → (x : X) × (slice_get xs k ≡ Some x)
nth_here [] k h = absurd (omega arith)
nth_here (y ∷ ys) zero h = (y, refl)
nth_here (y ∷ ys) (suc k) h = nth_here ys k (omega arith)

pub drop_nth : {X : Type 0} (xs : List X) (k : ℕ) (x : X) → slice_get xs k ≡ Some x → drop k xs ≡ x ∷ drop (suc k) xs
drop_nth [] k x e = absurd (some_none _ _ e refl)
drop_nth (y ∷ ys) zero x e = cc
drop_nth (y ∷ ys) (suc k) x e = drop_nth ys k x e
