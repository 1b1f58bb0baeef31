-- The bytes of unit states, states and pairs.
use Rattle.std.specs.Prelude.{ℕ, List, [], ◌∷◌, ◌++◌, map, take, drop, pos, slice_index}
use Rattle.std.specs.List.{flat_map}
use Rattle.lists.specs.Words.{cut}
use Rattle.model.specs.declared.unit_state.UnitState.{UnitState}
use Rattle.model.specs.declared.state.State.{State}
use Rattle.model.specs.declared.state.Pair.{Pair}
use Rattle.model.specs.Values.{value_of, byte_of}

-- four zero bytes, as in the slots past a network's last unit
abbrev pub zero_unit : UnitState
zero_unit = record { location = 0; first = pos 0; second = pos 0; groups = record { bits = 0 } }

-- four bytes: location, first register, second register, group set
abbrev pub unit_of : List ℕ → UnitState
unit_of b = record { location = slice_index b 0; first = value_of (slice_index b 1); second = value_of (slice_index b 2); groups = record { bits = slice_index b 3 } }

abbrev pub unit_bytes : UnitState → List ℕ
unit_bytes u = u.location ∷ byte_of u.first ∷ byte_of u.second ∷ u.groups.bits ∷ []

-- 24 bytes: six unit states
unfoldable pub state_of : List ℕ → State
state_of b = record { units = map unit_of (cut 4 6 b) }

unfoldable pub state_bytes : State → List ℕ
state_bytes s = flat_map unit_bytes s.units

-- 48 bytes: the left state, then the right one
abbrev pub pair_of : List ℕ → Pair
pair_of b = record { left = state_of (take 24 b); right = state_of (drop 24 b) }

abbrev pub pair_bytes : Pair → List ℕ
pair_bytes p = state_bytes p.left ++ state_bytes p.right
