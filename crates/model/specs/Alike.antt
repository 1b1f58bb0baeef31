-- Sameness of values, sets, states, pairs and labels, as tests that compute.
use Rattle.std.specs.Prelude.{Bool, true, false, ◌&&◌, List, [], ◌∷◌, ℤ, ◌==◌, int_le}
use Rattle.model.specs.declared.group_set.GroupSet.{GroupSet}
use Rattle.model.specs.declared.label.Label.{Label}
use Rattle.model.specs.declared.label.Label.TheVariants.{Silent, Movement, Broadcast, Receive}
use Rattle.model.specs.declared.state.Pair.{Pair}
use Rattle.model.specs.declared.state.State.{State}
use Rattle.model.specs.declared.unit_state.UnitState.{UnitState}

abbrev pub same_value : ℤ → ℤ → Bool
same_value v w = int_le v w && int_le w v

abbrev pub same_set : GroupSet → GroupSet → Bool
same_set g h = g.bits == h.bits

abbrev pub same_unit : UnitState → UnitState → Bool
same_unit u w = u.location == w.location && (same_value u.first w.first && (same_value u.second w.second && same_set u.groups w.groups))

abbrev pub same_units : List UnitState → List UnitState → Bool
same_units [] [] = true
same_units [] (w ∷ ws) = false
same_units (u ∷ us) [] = false
same_units (u ∷ us) (w ∷ ws) = same_unit u w && same_units us ws

abbrev pub same_state : State → State → Bool
same_state s t = same_units s.units t.units

abbrev pub same_pair : Pair → Pair → Bool
same_pair p q = same_state p.left q.left && same_state p.right q.right

abbrev pub same_label : Label → Label → Bool
same_label Silent Silent = true
same_label Silent Movement = false
same_label Silent (Broadcast g v) = false
same_label Silent (Receive g) = false
same_label Movement Silent = false
same_label Movement Movement = true
same_label Movement (Broadcast g v) = false
same_label Movement (Receive g) = false
same_label (Broadcast g v) Silent = false
same_label (Broadcast g v) Movement = false
same_label (Broadcast g v) (Broadcast h w) = same_set g h && same_value v w
same_label (Broadcast g v) (Receive h) = false
same_label (Receive g) Silent = false
same_label (Receive g) Movement = false
same_label (Receive g) (Broadcast h w) = false
same_label (Receive g) (Receive h) = same_set g h
