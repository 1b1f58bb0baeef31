-- The questions 8 and 9, which are put to a sheet that is loaded.
use Rattle.std.specs.Prelude.{List, ℕ, ℤ}
use Rattle.questions.specs.Asking.{Question}
use Rattle.questions.specs.declared.Refusal.{Refusal}
use Rattle.tables.specs.Table.{table_asked, table_refusal}
use Rattle.model.specs.declared.group_set.GroupSet.{GroupSet}
use Rattle.sheet.specs.declared.fault.SheetFault.{SheetFault}
use Rattle.sheet.specs.Rows.{parse_row}

-- 8: whole rows of six bytes, at most 128? 9, of each row in turn: is it as laid out?
abbrev pub sheet_asked : ℤ → ℤ → GroupSet → List ℕ → List (Question Refusal)
sheet_asked lo hi channels bytes = table_asked 8 9 6 128 (parse_row lo hi channels) bytes

-- what each fault refuses with
abbrev pub sheet_refusal : SheetFault → Refusal
sheet_refusal f = table_refusal 8 9 f.0
