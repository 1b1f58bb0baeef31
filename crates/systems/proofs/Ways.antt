-- Systems whose steps are made of ways: the steps of a state are `map f ws`, where ws are its ways, of any type, and f makes a
-- step of a way. Assumes nothing.
use Rattle.std.proofs.Common.{◌≡◌, ℕ, zero, suc, Bool, true, false, cond, List, [], ◌∷◌, map, ℤ, sym, refl, ap, ◌∙◌}
use mathlib.Core.List.{map-map}
use Rattle.lists.specs.Words.{given, Stands}
use Rattle.lists.proofs.Places.{some_none}
use Rattle.model.specs.Ranges.{in_range}
use Rattle.systems.specs.declared.listed.Listed.{Listed}
use Rattle.systems.specs.Meaning.{Step, receives}

pub map_stands : {X Y : Type 0} (f : X → Y) (xs : List X) (i : ℕ) (y : Y) → Stands (map f xs) y i → (x : X) × Stands xs x i × (y ≡ f x)
map_stands f [] i y at = absurd (some_none _ _ at refl)
map_stands f (x ∷ xs) zero y at = (x, refl, (let s : y ≡ f x = cc in s))
map_stands f (x ∷ xs) (suc i) y at = map_stands f xs i y at

module _ {W : Type 0} (f : W → Step) (ws : List W) where
  -- a step lands alike for all values, where its way does
  pub steady_ways : (i : ℕ) (x : Step) → Stands (map f ws) x i → receives x.label ≡ false
      → ((w : W) → Stands ws w i → receives (f w).label ≡ false → (v u : ℤ) → (f w).landing v ≡ (f w).landing u) → (v u : ℤ) → x.landing v ≡ x.landing u
  steady_ways i x at r alike v u =
      let p = map_stands f ws i x at in
      let s = p.2 in
      ap (λ y. y.landing v) s ∙ alike p.0 p.1 (ap (λ y. receives y.label) (sym s) ∙ r) v u ∙ ap (λ y. y.landing u) (sym s)

  -- what is listed of the ways is what is listed of the steps; v is the value, which the code passes on as u
  pub list_ways : (lo hi v u : ℤ) (b : Bool) → u ≡ v → true ≡ b
      → map {B = Listed} (λ w. record { label = (f w).label; landing = given (in_range lo hi u) ((f w).landing u) }) ws
      ≡ map {B = Listed} (λ y. record { label = y.label; landing = given (in_range lo hi v) (y.landing v) }) (map f (cond b ws []))
  list_ways lo hi v u b same t =
      let listed : ℤ → Step → Listed = λ z y. record { label = y.label; landing = given (in_range lo hi z) (y.landing z) } in
      sym (map-map (listed u) f ws) ∙ ap (λ z. map (listed z) (map f ws)) same ∙ ap (λ c. map (listed v) (map f (cond c ws []))) t
