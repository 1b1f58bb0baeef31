-- What is told of an input: its answer, and the step that the answer is about.
use Rattle.std.specs.Prelude.{◌≡◌, ℕ, List, Some, None, Option, MatchOption}
use Rattle.lists.specs.Words.{Stands}
use Rattle.questions.specs.Asking.{first_no}
use Rattle.questions.specs.declared.Side.{Side}
use Rattle.questions.specs.declared.Side.TheVariants.{Left, Right}
use Rattle.model.specs.declared.state.Pair.{Pair}
use Rattle.frames.specs.Payloads.{relation_of, setting_of}
use Rattle.judge.specs.Comparing.{state_on}
use Rattle.judge.specs.Judged.{judge_refusal}
use Rattle.judge.specs.declared.fault.Fault.{Fault}
use Rattle.judge.specs.declared.fault.Fault.TheVariants.{Ranges, TooMany, LeftUnlawful, RightUnlawful, Shown, LeftStep, RightStep}
use Rattle.verdict.specs.declared.answer.Answer.{Answer}
use Rattle.verdict.specs.declared.answer.Answer.TheVariants.{Accepted as AcceptedWith, Refused as RefusedWith}
use Rattle.job.specs.Faults.{job_refusal}
use Rattle.job.specs.Jobs.{layouts_asked}
use Rattle.job.specs.Sides.{side_meaning}
use Rattle.words.specs.Steps.{IsStep}
use Rattle.words.specs.declared.step.ShownStep.{ShownStep}
use Rattle.words.specs.declared.told.Told.{Told}
use Rattle.words.specs.declared.told.Told.TheVariants.{Accepted, Malformed, Unlike}

-- x is the step i of the state on that side of the pair k of the input
pub record IsShown (bytes : List ℕ) (side : Side) (k i : ℕ) (x : ShownStep) : Type 0 where
  pub pair : Pair
  pub at : Stands (relation_of bytes) pair k
  pub step : IsStep (side_meaning side bytes) (state_on side pair) i x
  pub units : x.units ≡ (setting_of side bytes).units

-- a step is shown exactly where the fault is about one, and it is that step
abbrev pub ShowsStep : List ℕ → Fault → Option ShownStep → Type 0
ShowsStep bytes Ranges o = o ≡ None
ShowsStep bytes TooMany o = o ≡ None
ShowsStep bytes (LeftUnlawful k) o = o ≡ None
ShowsStep bytes (RightUnlawful k) o = o ≡ None
ShowsStep bytes (Shown k) o = o ≡ None
ShowsStep bytes (LeftStep k i) o = MatchOption o ⊥ (IsShown bytes Left k i)
ShowsStep bytes (RightStep k i) o = MatchOption o ⊥ (IsShown bytes Right k i)

-- a fault of the layouts is their first no; beside a fault of the judge stands its step
abbrev pub Shows : List ℕ → Told → Type 0
Shows bytes (Accepted n) = Unit {0}
Shows bytes (Malformed f) = Some (job_refusal f) ≡ first_no (layouts_asked bytes)
Shows bytes (Unlike f o) = ShowsStep bytes f o

-- the answer that is told
abbrev pub answer_in : Told → Answer
answer_in (Accepted n) = AcceptedWith n
answer_in (Malformed f) = RefusedWith (job_refusal f)
answer_in (Unlike f o) = RefusedWith (judge_refusal f)
