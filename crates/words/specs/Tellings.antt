-- What is told of a job, as text.
use Rattle.std.specs.Prelude.{ℕ, List, [], ◌++◌, Some, None, Option, codes}
use Rattle.std.specs.Fmt.{decimal}
use Rattle.job.specs.declared.fault.JobFault.TheVariants.{NotAlike}
use Rattle.words.specs.Faults.{fault_text}
use Rattle.words.specs.Steps.{step_text}
use Rattle.words.specs.declared.step.ShownStep.{ShownStep}
use Rattle.words.specs.declared.told.Told.{Told}
use Rattle.words.specs.declared.told.Told.TheVariants.{Accepted, Malformed, Unlike}

abbrev pub shown_text : Option ShownStep → List ℕ
shown_text None = []
shown_text (Some x) = step_text x

abbrev pub told_text : Told → List ℕ
told_text (Accepted n) =
    codes "Accepted: the relation is a late strong bisimulation between the two networks.\nIts count of pairs is " ++ decimal n ++ codes ".\n"
told_text (Malformed f) = fault_text f
told_text (Unlike f o) = fault_text (NotAlike f) ++ shown_text o
