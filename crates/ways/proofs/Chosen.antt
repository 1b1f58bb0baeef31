-- The choices of one unit, by number. Assumes nothing.
use Rattle.std.proofs.Common.{◌≡◌, ℕ, zero, suc, ◌-◌, Bool, true, cond, List, [], ◌∷◌, get_or, Option, sym, refl, ap, ◌∙◌, arith}
use Rattle.std.specs.Prelude.{unwrap_or}
use Rattle.std.specs.List.{slice_get}
use Rattle.ways.specs.declared.way.Choice.{Choice}
use Rattle.ways.specs.declared.way.Choice.TheVariants.{Stay}

nth_or_stay : (cs : List Choice) (i : ℕ) → unwrap_or (slice_get cs i) Stay ≡ get_or cs i Stay
nth_or_stay [] i = refl
nth_or_stay (x ∷ cs) zero = refl
nth_or_stay (x ∷ cs) (suc i) = nth_or_stay cs i

-- the choices of a listener after the one to stay
pub choice_or : (b : Bool) (cs : List Choice) (i : ℕ) → b ≡ true → (i ≡ 0 → ⊥) → (o : Option Choice) → o ≡ slice_get cs (i - 1) → unwrap_or o Stay ≡ get_or (Stay ∷ cond b cs []) i Stay
choice_or b cs zero e some o h = absurd (some refl)
choice_or b cs (suc i) e some o h =
    let before : suc i - 1 ≡ i = omega arith in
    ap (λ p. unwrap_or p Stay) (h ∙ ap (slice_get cs) before) ∙ nth_or_stay cs i ∙ ap (λ t. get_or (cond t cs []) i Stay) (sym e)
