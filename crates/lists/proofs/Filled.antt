-- An array that is made place by place: what each call gives stands at its place. Assumes nothing.
use Rattle.std.proofs.Common.{◌≡◌, ℕ, zero, suc, ◌+◌, ◌<◌, ◌≤◌, List, map, get_or, sym, subst, arith}
use Rattle.std.specs.List.{range_with_len}
use Rattle.std.specs.Array.{IsFromFnResult, IsFromFnResultFrom}
use Rattle.std.proofs.Math.Nat.{eq-or-lt_of_le}
use Rattle.std.proofs.lemmas.List.FromFn.{fill_by_all}
use mathlib.Core.Logic.{inl, inr}
use denote.Param.Members.{Mut, Called}

module _ {F B : Type 0} (g : Mut F (ℕ × Unit {0}) B) (f : F) where
  module _ (P : ℕ → B → Type 0) where
    filled_from : (ys : List B) (i n : ℕ) → ((j : ℕ) (y : B) (q : F) → j < i + n → Called g f (j, tt) y q → (q ≡ f) × P j y) → IsFromFnResultFrom g f ys i n → (k : ℕ) (d : B) → i ≤ k → k < i + n → P k (get_or ys k d)
    filled_from ys i zero gives made k d l h = absurd (omega arith)
    filled_from ys i (suc n) gives made k d l h =
        let is = gives i made.1 made.0 (omega arith) made.3 in
        let rest = filled_from ys (i + 1) n (λ j y q m c. gives j y q (omega arith) c) (subst (λ (p : F). IsFromFnResultFrom g p ys (i + 1) n) is.0 made.4) in
        elim (eq-or-lt_of_le l) [
          | inl e ↦ subst (λ (m : ℕ). P m (get_or ys m d)) e (subst (P i) (sym (made.2.1 d)) is.1)
          | inr m ↦ rest k d (omega arith) (omega arith)
        ]

    -- what holds of the result of each call holds of the element at its place
    pub filled_with : (ys : List B) (n : ℕ) → ((j : ℕ) (y : B) (q : F) → j < n → Called g f (j, tt) y q → (q ≡ f) × P j y) → IsFromFnResult g f ys n → (k : ℕ) (d : B) → k < n → P k (get_or ys k d)
    filled_with ys n gives made k d h = filled_from ys 0 n (λ j y q m c. gives j y q (omega arith) c) made.each k d (omega arith) (omega arith)

  -- the list of what is made at each place; the element d stands for none
  pub filled : (want : ℕ → B) (d : B) (ys : List B) (n : ℕ) → ((j : ℕ) (y : B) (q : F) → j < n → Called g f (j, tt) y q → (q ≡ f) × (y ≡ want j)) → IsFromFnResult g f ys n → ys ≡ map want (range_with_len 0 n)
  filled want d ys n gives made = fill_by_all want ys n d made.long (λ k h. filled_with (λ j y. y ≡ want j) ys n gives made k d h)
