-- A network loaded from bytes: its questions, and what a refused one is refused with.
use Rattle.std.specs.Prelude.{ℕ, List, ◌++◌, ℤ, codes}
use Rattle.questions.specs.Asking.{Question, refuse}
use Rattle.questions.specs.declared.Refusal.{Refusal}
use Rattle.tables.specs.Table.{table_refusal, fault_text}
use Rattle.model.specs.Placements.{units_asked}
use Rattle.model.specs.declared.group_set.GroupSet.{GroupSet}
use Rattle.rows.specs.Programs.{rows_asked, rows_of}
use Rattle.ways.specs.Nets.{Net}
use Rattle.network.specs.declared.fault.NetworkFault.{NetworkFault}
use Rattle.network.specs.declared.fault.NetworkFault.TheVariants.{Units, Rows}

-- 5: 1 to 6 units? 6: whole rows, at most 64? 7, of each row: is it as laid out?
abbrev pub network_asked : ℤ → ℤ → ℕ → List ℕ → List (Question Refusal)
network_asked lo hi units bytes = units_asked units ++ rows_asked lo hi bytes

abbrev pub network_refusal : NetworkFault → Refusal
network_refusal Units = refuse 5
network_refusal (Rows f) = table_refusal 6 7 f

-- what a fault is called
abbrev pub network_fault_text : NetworkFault → List ℕ
network_fault_text Units = codes "there are not 1 to 6 units"
network_fault_text (Rows f) = fault_text f

-- the network of these bytes
abbrev pub net_in : ℤ → ℤ → GroupSet → ℕ → List ℕ → Net
net_in lo hi free units bytes = record { lo = lo; hi = hi; free = free; units = units; rows = rows_of lo hi bytes }
