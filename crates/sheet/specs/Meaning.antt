-- What a sheet means.
use Rattle.std.specs.Prelude.{ℕ, cond, List, [], map, ℤ, filter, nat_eq}
use Rattle.lists.specs.Words.{given, records, gathered}
use Rattle.model.specs.Alike.{same_value}
use Rattle.model.specs.Ranges.{in_range}
use Rattle.model.specs.declared.group_set.GroupSet.{GroupSet}
use Rattle.model.specs.declared.label.Label.{Label}
use Rattle.model.specs.declared.label.Label.TheVariants.{Silent, Movement, Broadcast, Receive}
use Rattle.model.specs.declared.state.State.{State}
use Rattle.systems.specs.Meaning.{Meaning, Step}
use Rattle.systems.specs.declared.listed.Listed.{Listed}
use Rattle.sheet.specs.declared.row.Row.{Row}
use Rattle.sheet.specs.declared.row.Kind.{Kind}
use Rattle.sheet.specs.declared.row.Kind.TheVariants.{Silent as SilentRow, Movement as MovementRow, Broadcast as BroadcastRow, Receive as ReceiveRow}
use Rattle.sheet.specs.declared.sheet.Sheet.{Sheet}
use Rattle.sheet.specs.Rows.{parse_row}
use Rattle.sheet.specs.States.{state_at, sheet_lawful, number_of}

abbrev pub label_of : Kind → Label
label_of SilentRow = Silent
label_of MovementRow = Movement
label_of (BroadcastRow g w) = Broadcast g w
label_of (ReceiveRow g w other) = Receive g

-- the number of the state in which a row lands for the value v: a receive lands in `to` for its own value, and in `other` for
-- the rest
abbrev pub target : Kind → ℕ → ℤ → ℕ
target SilentRow to v = to
target MovementRow to v = to
target (BroadcastRow g w) to v = to
target (ReceiveRow g w other) to v = cond (same_value v w) to other

abbrev pub step_of : Row → Step
step_of r = record { label = label_of r.kind; landing = λ v. state_at (target r.kind r.to v) }

-- the rows from the state with the number n, in row order
abbrev pub rows_from : ℕ → List Row → List Row
rows_from n rows = filter (λ r. nat_eq r.from n) rows

-- the ways of a state are its rows; a state that is not lawful has none
abbrev pub ways_of : List Row → State → List Row
ways_of rows s = cond (sheet_lawful s) (rows_from (number_of s) rows) []

-- the meaning of rows with the range from lo to hi and a channel set
abbrev pub rows_meaning : ℤ → ℤ → GroupSet → List Row → Meaning
rows_meaning lo hi channels rows =
    record {
      lo = lo;
      hi = hi;
      lawful = sheet_lawful;
      shown = λ s. cond (sheet_lawful s) channels (record { bits = 0 });
      steps = λ s. map step_of (ways_of rows s);
    }

abbrev pub sheet_meaning : Sheet → Meaning
sheet_meaning t = rows_meaning t.range.lo t.range.hi t.channels t.rows.items

-- what the bytes of a sheet say: each six of them are a row
abbrev pub bytes_meaning : ℤ → ℤ → GroupSet → List ℕ → Meaning
bytes_meaning lo hi channels bytes = rows_meaning lo hi channels (gathered (parse_row lo hi channels) (records 6 bytes))

-- a row as it is listed at the value v
abbrev pub listed_row : ℤ → ℤ → ℤ → Row → Listed
listed_row lo hi v r = record { label = (step_of r).label; landing = given (in_range lo hi v) ((step_of r).landing v) }
