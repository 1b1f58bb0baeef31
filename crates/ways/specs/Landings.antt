-- What is seen of a way, and where it lands.
use Rattle.std.specs.Prelude.{ℕ, cond, List, map, ℤ, pos, ◌==◌, slice_index_or}
use Rattle.std.specs.List.{range_with_len}
use Rattle.lists.specs.Words.{given}
use Rattle.model.specs.GroupSets.{empty}
use Rattle.model.specs.Ranges.{in_range}
use Rattle.model.specs.declared.group_set.GroupSet.{GroupSet}
use Rattle.model.specs.declared.label.Label.{Label}
use Rattle.model.specs.declared.label.Label.TheVariants.{Silent, Movement, Broadcast, Receive}
use Rattle.model.specs.declared.state.State.{State}
use Rattle.model.specs.declared.unit_state.UnitState.{UnitState}
use Rattle.systems.specs.Meaning.{Step}
use Rattle.systems.specs.declared.listed.Listed.{Listed}
use Rattle.rows.specs.Units.{reads, taken}
use Rattle.rows.specs.declared.row.Action.{Action}
use Rattle.rows.specs.declared.row.Action.TheVariants.{Silent as Quiet, Broadcast as Send, Receive as Fill}
use Rattle.ways.specs.declared.way.Choice.{Choice}
use Rattle.ways.specs.declared.way.Choice.TheVariants.{Stay, Take}
use Rattle.ways.specs.declared.way.Way.{Way}
use Rattle.ways.specs.declared.way.Way.TheVariants.{Move, Act}
use Rattle.ways.specs.Nets.{Net, unit_at, row_at, free_part}

-- a broadcast on no free group is silent
abbrev pub act_label : GroupSet → UnitState → Action → Label
act_label g x Quiet = Silent
act_label g x (Send o) = cond (empty g) Silent (Broadcast g (reads x o))
act_label g x (Fill r) = Receive g

abbrev pub label_of : Net → State → Way → Label
label_of n s (Move u g) = Movement
label_of n s (Act u k cs) = act_label (free_part n (unit_at s u)) (unit_at s u) (row_at n k).action

-- the value that comes in as the unit x takes a row with this action: the one that x sends, or v from outside; nothing comes
-- in with a silent row, and 0 stands for that
abbrev pub incoming : UnitState → Action → ℤ → ℤ
incoming x Quiet v = pos 0
incoming x (Send o) v = reads x o
incoming x (Fill r) v = v

abbrev pub chosen : Net → UnitState → Choice → ℤ → UnitState
chosen n x Stay v = x
chosen n x (Take k) v = taken x (row_at n k) v

abbrev pub on_set : UnitState → GroupSet → UnitState
on_set x g = record { location = x.location; first = x.first; second = x.second; groups = g }

-- the slot j after the unit u has taken the row k, with the incoming value v, and the others have done as they chose
abbrev pub slot_after : Net → State → ℕ → ℕ → List Choice → ℤ → ℕ → UnitState
slot_after n s u k cs v j = chosen n (unit_at s j) (cond (j == u) (Take k) (slice_index_or cs j Stay)) v

abbrev pub acted : Net → State → ℕ → ℕ → List Choice → ℤ → State
acted n s u k cs v = record { units = map (slot_after n s u k cs v) (range_with_len 0 6) }

-- the state after the unit u has changed to the set g
abbrev pub moved : State → ℕ → GroupSet → State
moved s u g = record { units = map (λ j. cond (j == u) (on_set (unit_at s j) g) (unit_at s j)) (range_with_len 0 6) }

-- where a way lands for the value v
abbrev pub landing_of : Net → State → Way → ℤ → State
landing_of n s (Move u g) v = moved s u g
landing_of n s (Act u k cs) v = acted n s u k cs (incoming (unit_at s u) (row_at n k).action v)

abbrev pub step_of : Net → State → Way → Step
step_of n s w = record { label = label_of n s w; landing = landing_of n s w }

-- a way as it is listed at the value v
abbrev pub listed_of : Net → State → ℤ → Way → Listed
listed_of n s v w = record { label = label_of n s w; landing = given (in_range n.lo n.hi v) (landing_of n s w v) }

-- the sets of the units
abbrev pub placed : Net → State → List GroupSet
placed n s = map (λ j. (unit_at s j).groups) (range_with_len 0 n.units)
