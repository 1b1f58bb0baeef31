-- When a row is enabled for a unit, and what taking it does to the unit.
use Rattle.std.specs.Prelude.{Bool, true, false, not, ◌&&◌, ℤ, ◌==◌, int_lt}
use Rattle.model.specs.Alike.{same_value}
use Rattle.model.specs.declared.unit_state.UnitState.{UnitState}
use Rattle.rows.specs.declared.row.Operand.{Operand}
use Rattle.rows.specs.declared.row.Operand.TheVariants.{First, Second, Constant}
use Rattle.rows.specs.declared.row.Guard.{Guard}
use Rattle.rows.specs.declared.row.Guard.TheVariants.{None, Equal, Differs, Less}
use Rattle.rows.specs.declared.row.Register.TheVariants.{First as IntoFirst, Second as IntoSecond}
use Rattle.rows.specs.declared.row.Action.{Action}
use Rattle.rows.specs.declared.row.Action.TheVariants.{Silent, Broadcast, Receive}
use Rattle.rows.specs.declared.row.Row.{Row}

-- the value that an operand reads from a unit
abbrev pub reads : UnitState → Operand → ℤ
reads u First = u.first
reads u Second = u.second
reads u (Constant v) = v

abbrev pub holds : UnitState → Guard → Bool
holds u None = true
holds u (Equal a b) = same_value (reads u a) (reads u b)
holds u (Differs a b) = not (same_value (reads u a) (reads u b))
holds u (Less a b) = int_lt (reads u a) (reads u b)

-- the unit is at the row's from location, and the guard holds of its registers as they are
abbrev pub enabled : UnitState → Row → Bool
enabled u r = u.location == r.from && holds u r.guard

abbrev pub is_receive : Action → Bool
is_receive Silent = false
is_receive (Broadcast o) = false
is_receive (Receive x) = true

-- the unit can take the row to receive a value
abbrev pub receivable : UnitState → Row → Bool
receivable u r = enabled u r && is_receive r.action

-- the unit once a receive has filled its register with the value v
abbrev pub filled : UnitState → Action → ℤ → UnitState
filled u Silent v = u
filled u (Broadcast o) v = u
filled u (Receive IntoFirst) v = record { location = u.location; first = v; second = u.second; groups = u.groups }
filled u (Receive IntoSecond) v = record { location = u.location; first = u.first; second = v; groups = u.groups }

-- the unit at the row's to location, with both new registers read from the old ones
abbrev pub advanced : UnitState → Row → UnitState
advanced u r = record { location = r.to; first = reads u r.first; second = reads u r.second; groups = u.groups }

-- the unit after it has taken the row, where v is the value received, if the row is a receive
abbrev pub taken : UnitState → Row → ℤ → UnitState
taken u r v = advanced (filled u r.action v) r
