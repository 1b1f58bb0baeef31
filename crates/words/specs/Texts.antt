-- Labels, units and states as text.
use Rattle.std.specs.Prelude.{ℕ, suc, List, [], ◌∷◌, ◌++◌, take, codes}
use Rattle.std.specs.Fmt.{decimal, signed_decimal}
use Rattle.model.specs.Text.{set_text}
use Rattle.model.specs.declared.label.Label.{Label}
use Rattle.model.specs.declared.label.Label.TheVariants.{Silent, Movement, Broadcast, Receive}
use Rattle.model.specs.declared.state.State.{State}
use Rattle.model.specs.declared.unit_state.UnitState.{UnitState}

abbrev pub label_text : Label → List ℕ
label_text Silent = codes "silent"
label_text Movement = codes "movement"
label_text (Broadcast s v) = codes "broadcast of " ++ signed_decimal v ++ (codes " on " ++ set_text s)
label_text (Receive s) = codes "receive on " ++ set_text s

-- the unit with the number k, on a line of its own
unfoldable pub unit_text : ℕ → UnitState → List ℕ
unit_text k u =
    codes "  unit " ++ decimal k
    ++ (codes ": location " ++ decimal u.location
    ++ (codes ", registers " ++ signed_decimal u.first
    ++ (codes " and " ++ signed_decimal u.second
    ++ (codes ", groups " ++ set_text u.groups ++ codes "\n"))))

-- the texts of items that are numbered from k on
abbrev pub numbered_text : {X : Type 0} → (ℕ → X → List ℕ) → ℕ → List X → List ℕ
numbered_text f k [] = []
numbered_text f k (x ∷ xs) = f k x ++ numbered_text f (suc k) xs

abbrev pub units_text : List UnitState → List ℕ
units_text us = numbered_text unit_text 0 us

-- the first n units of a state
unfoldable pub state_text : ℕ → State → List ℕ
state_text n s = units_text (take n s.units)
