-- What the faults of a job refuse with, and what they are called.
use Rattle.std.specs.Prelude.{ℕ, List, ◌++◌, codes}
use Rattle.questions.specs.declared.Refusal.{Refusal}
use Rattle.questions.specs.declared.Side.{Side}
use Rattle.questions.specs.declared.Side.TheVariants.{Left, Right}
use Rattle.model.specs.Ranges.{range_refusal}
use Rattle.rules.specs.Faults.{rule_refusal, rule_fault_text}
use Rattle.network.specs.Loads.{network_refusal, network_fault_text}
use Rattle.judge.specs.Judged.{judge_refusal, fault_text as judge_text}
use Rattle.frames.specs.Frames.{frame_refusal, fault_text as frame_text}
use Rattle.job.specs.declared.fault.SideFault.{SideFault}
use Rattle.job.specs.declared.fault.SideFault.TheVariants.{BadRange, BadRule, BadNetwork}
use Rattle.job.specs.declared.fault.JobFault.{JobFault}
use Rattle.job.specs.declared.fault.JobFault.TheVariants.{BadFrame, BadSide, NotAlike}

-- a refusal of a range, a rule or a network, told with its side
abbrev pub on_side : Side → Refusal → Refusal
on_side side r = record { question = r.question; side = side; item = r.item; step = r.step }

abbrev pub side_refusal : SideFault → Refusal
side_refusal (BadRange f) = range_refusal f
side_refusal (BadRule f) = rule_refusal f
side_refusal (BadNetwork f) = network_refusal f

abbrev pub job_refusal : JobFault → Refusal
job_refusal (BadFrame f) = frame_refusal f
job_refusal (BadSide side f) = on_side side (side_refusal f)
job_refusal (NotAlike f) = judge_refusal f

-- what a fault is called
abbrev pub side_fault_text : SideFault → List ℕ
side_fault_text (BadRange f) = codes "the range's lowest value is above its highest"
side_fault_text (BadRule f) = rule_fault_text f
side_fault_text (BadNetwork f) = network_fault_text f

abbrev pub job_fault_text : JobFault → List ℕ
job_fault_text (BadFrame f) = frame_text f
job_fault_text (BadSide Left f) = codes "left system: " ++ side_fault_text f
job_fault_text (BadSide Right f) = codes "right system: " ++ side_fault_text f
job_fault_text (NotAlike f) = judge_text f
