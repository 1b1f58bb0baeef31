-- A network without its mobility rule, and the parts of a state.
use Rattle.std.specs.Prelude.{ℕ, List, ℤ, slice_index_or}
use Rattle.model.specs.Bytes.{zero_unit}
use Rattle.model.specs.GroupSets.{part}
use Rattle.model.specs.declared.group_set.GroupSet.{GroupSet}
use Rattle.model.specs.declared.state.State.{State}
use Rattle.model.specs.declared.unit_state.UnitState.{UnitState}
use Rattle.rows.specs.declared.row.Operand.TheVariants.{First, Second}
use Rattle.rows.specs.declared.row.Guard.TheVariants.{None}
use Rattle.rows.specs.declared.row.Action.TheVariants.{Silent}
use Rattle.rows.specs.declared.row.Row.{Row}
use Rattle.ways.specs.declared.table.Table.{Table}

-- a range, the free groups, how many units there are, and the rows that all of them follow
pub record Net : Type 0 where
  pub lo : ℤ
  pub hi : ℤ
  pub free : GroupSet
  pub units : ℕ
  pub rows : List Row

abbrev pub net_of : Table → Net
net_of t = record { lo = t.program.range.lo; hi = t.program.range.hi; free = t.free; units = t.units; rows = t.program.rows.items }

-- the unit in the slot j; past the slots there are zero bytes
abbrev pub unit_at : State → ℕ → UnitState
unit_at s j = slice_index_or s.units j zero_unit

-- the row with the number k; past the last row there is one that no list of ways has
abbrev pub idle : Row
idle = record { from = 0; guard = None; action = Silent; to = 0; first = First; second = Second }

abbrev pub row_at : Net → ℕ → Row
row_at n k = slice_index_or n.rows k idle

-- the free part of a unit's set
abbrev pub free_part : Net → UnitState → GroupSet
free_part n x = part n.free x.groups
