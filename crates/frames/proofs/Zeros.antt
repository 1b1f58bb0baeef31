-- Numbers of which the larger one is zero. Assumes nothing.
use Rattle.std.proofs.Common.{◌≡◌, ℕ, zero, suc, ◌<◌, ◌≤◌, ◌==◌, ◌&&◌, Bool, true, false, sym, refl, ap, ◌∙◌, arith}
use Rattle.std.proofs.lemmas.Bool.{eqb-true, false_from_ne_true}

not_zero : (n : ℕ) → 0 < n → (n == 0) ≡ false
not_zero n h = false_from_ne_true (n == 0) (λ e. let s = eqb-true n 0 e in omega (arith, s, h))

and_yes : (t : Bool) → t ≡ (t && true)
and_yes t = elim t as (λ u. u ≡ (u && true)) [ true ↦ refl | false ↦ refl ]

pub second_larger : (a b : ℕ) → a < b → (b == 0) ≡ (a == 0 && b == 0)
second_larger zero b lt = refl
second_larger (suc a) b lt = not_zero b (omega (arith, lt)) ∙ ap (λ t. t && (b == 0)) (sym (not_zero (suc a) (omega arith)))

pub first_larger : (a b : ℕ) → b ≤ a → (a == 0) ≡ (a == 0 && b == 0)
first_larger a zero le = and_yes (a == 0)
first_larger a (suc b) le = let e = not_zero a (omega (arith, le)) in e ∙ ap (λ t. t && (suc b == 0)) (sym e)
