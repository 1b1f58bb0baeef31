-- The program in the bytes of its rows, and what every row of it keeps.
use Rattle.std.specs.Prelude.{ℕ, Bool, true, ◌&&◌, List, ℤ, nat_le}
use Rattle.lists.specs.Words.{gathered, records}
use Rattle.questions.specs.Asking.{Question}
use Rattle.questions.specs.declared.Refusal.{Refusal}
use Rattle.tables.specs.Table.{table_asked}
use Rattle.model.specs.Ranges.{in_range}
use Rattle.rows.specs.declared.row.Operand.{Operand}
use Rattle.rows.specs.declared.row.Operand.TheVariants.{First, Second, Constant}
use Rattle.rows.specs.declared.row.Action.{Action}
use Rattle.rows.specs.declared.row.Action.TheVariants.{Silent, Broadcast, Receive}
use Rattle.rows.specs.declared.row.Row.{Row}
use Rattle.rows.specs.Layouts.{parse_row}

-- 6: whole rows, at most 64? 7, of each row: is it as laid out?
abbrev pub rows_asked : ℤ → ℤ → List ℕ → List (Question Refusal)
rows_asked lo hi bytes = table_asked 6 7 16 64 (parse_row lo hi) bytes

-- the rows in the bytes, in their order
abbrev pub rows_of : ℤ → ℤ → List ℕ → List Row
rows_of lo hi bytes = gathered (parse_row lo hi) (records 16 bytes)

abbrev pub operand_in_range : ℤ → ℤ → Operand → Bool
operand_in_range lo hi First = true
operand_in_range lo hi Second = true
operand_in_range lo hi (Constant v) = in_range lo hi v

abbrev pub action_in_range : ℤ → ℤ → Action → Bool
action_in_range lo hi Silent = true
action_in_range lo hi (Broadcast x) = operand_in_range lo hi x
action_in_range lo hi (Receive r) = true

-- the row leads to a location of at most 63, and what it sends and writes is in range where the registers are
abbrev pub row_in_range : ℤ → ℤ → Row → Bool
row_in_range lo hi r = nat_le r.to 63 && (action_in_range lo hi r.action && (operand_in_range lo hi r.first && operand_in_range lo hi r.second))
