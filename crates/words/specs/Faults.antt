-- The text of a fault: the number of its question, what it asks, and where the no is.
use Rattle.std.specs.Prelude.{ℕ, List, [], ◌++◌, codes}
use Rattle.std.specs.Fmt.{decimal}
use Rattle.questions.specs.declared.Side.TheVariants.{Left, Right}
use Rattle.tables.specs.declared.TableFault.TheVariants.{Count, Record}
use Rattle.rules.specs.declared.fault.RuleFault.TheVariants.{Table, Limit}
use Rattle.network.specs.declared.fault.NetworkFault.TheVariants.{Units, Rows}
use Rattle.frames.specs.declared.frame.FrameFault.{FrameFault}
use Rattle.frames.specs.declared.frame.FrameFault.TheVariants.{Length, Record as RecordFault}
use Rattle.judge.specs.declared.fault.Fault.{Fault}
use Rattle.judge.specs.declared.fault.Fault.TheVariants.{Ranges, TooMany, LeftUnlawful, RightUnlawful, Shown, LeftStep, RightStep}
use Rattle.job.specs.Faults.{job_refusal}
use Rattle.job.specs.declared.fault.SideFault.{SideFault}
use Rattle.job.specs.declared.fault.SideFault.TheVariants.{BadRange, BadRule, BadNetwork}
use Rattle.job.specs.declared.fault.JobFault.{JobFault}
use Rattle.job.specs.declared.fault.JobFault.TheVariants.{BadFrame, BadSide, NotAlike}

-- what the question asks
abbrev pub frame_asks : FrameFault → List ℕ
frame_asks Length = codes "Is the length a multiple of 64, from 128 to 65536?"
frame_asks (RecordFault k) = codes "Has each record its kind, side, position and zero bytes?"

abbrev pub side_asks : SideFault → List ℕ
side_asks (BadRange f) = codes "Is the lowest value of the range at most the highest?"
side_asks (BadRule (Table Count)) = codes "Are the links whole records, and at most 16?"
side_asks (BadRule (Table (Record k))) = codes "Is each link as laid out?"
side_asks (BadRule Limit) = codes "Is the tuner limit at most 8?"
side_asks (BadNetwork Units) = codes "Are there 1 to 6 units?"
side_asks (BadNetwork (Rows Count)) = codes "Are the rows whole records, and at most 64?"
side_asks (BadNetwork (Rows (Record k))) = codes "Is each row as laid out, with its constants in the range?"

abbrev pub judge_asks : Fault → List ℕ
judge_asks Ranges = codes "Have both systems the same range?"
judge_asks TooMany = codes "Has the relation at most 4096 records?"
judge_asks (LeftUnlawful k) = codes "Is the left state lawful in the left system?"
judge_asks (RightUnlawful k) = codes "Is the right state lawful in the right system?"
judge_asks (Shown k) = codes "Do both states show the same set?"
judge_asks (LeftStep k i) = codes "Has each step of the left state a reply?"
judge_asks (RightStep k i) = codes "Has each step of the right state a reply?"

abbrev pub job_asks : JobFault → List ℕ
job_asks (BadFrame f) = frame_asks f
job_asks (BadSide s f) = side_asks f
job_asks (NotAlike f) = judge_asks f

-- of which side it is asked
abbrev pub whose_text : JobFault → List ℕ
whose_text (BadFrame f) = []
whose_text (BadSide Left f) = codes ", left side"
whose_text (BadSide Right f) = codes ", right side"
whose_text (NotAlike f) = []

-- at which record, link, row, pair or step the no is
abbrev pub at_text : List ℕ → ℕ → List ℕ
at_text what k = codes "The first no is at " ++ what ++ (codes " " ++ decimal k ++ codes ".\n")

abbrev pub frame_place : FrameFault → List ℕ
frame_place Length = []
frame_place (RecordFault k) = at_text (codes "record") k

abbrev pub side_place : SideFault → List ℕ
side_place (BadRange f) = []
side_place (BadRule (Table Count)) = []
side_place (BadRule (Table (Record k))) = at_text (codes "link") k
side_place (BadRule Limit) = []
side_place (BadNetwork Units) = []
side_place (BadNetwork (Rows Count)) = []
side_place (BadNetwork (Rows (Record k))) = at_text (codes "row") k

abbrev pub step_place : ℕ → ℕ → List ℕ
step_place k i = codes "The first no is at pair " ++ decimal k ++ (codes ", step " ++ decimal i ++ codes ".\n")

abbrev pub judge_place : Fault → List ℕ
judge_place Ranges = []
judge_place TooMany = []
judge_place (LeftUnlawful k) = at_text (codes "pair") k
judge_place (RightUnlawful k) = at_text (codes "pair") k
judge_place (Shown k) = at_text (codes "pair") k
judge_place (LeftStep k i) = step_place k i
judge_place (RightStep k i) = step_place k i

abbrev pub place_text : JobFault → List ℕ
place_text (BadFrame f) = frame_place f
place_text (BadSide s f) = side_place f
place_text (NotAlike f) = judge_place f

-- the number is that of the refusal for which the fault stands
unfoldable pub fault_text : JobFault → List ℕ
fault_text f = codes "Refused by question " ++ decimal (job_refusal f).question ++ (whose_text f ++ (codes ": " ++ job_asks f ++ (codes "\n" ++ place_text f)))
