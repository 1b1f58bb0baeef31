-- The verdict on an input.
use Rattle.std.specs.Prelude.{◌≡◌, ℕ, ◌↔◌, List, length, Some, None, Option, slice_index}
use Rattle.questions.specs.Asking.{first_no}
use Rattle.questions.specs.declared.Refusal.{Refusal}
use Rattle.judge.specs.Likeness.{Bisimulation}
use Rattle.frames.specs.Payloads.{relation_of}
use Rattle.verdict.specs.Verdicts.{accepted_bytes, verdict_bytes}
use Rattle.verdict.specs.declared.answer.Answer.{Answer}
use Rattle.verdict.specs.declared.answer.Answer.TheVariants.{Accepted, Refused}
use Rattle.job.specs.Jobs.{layouts_asked, compared_in, job_asked}

-- how many pair records the input has
abbrev pub pair_count : List ℕ → ℕ
pair_count bytes = length (relation_of bytes)

-- the first no, or the count of pairs where there is none
abbrev pub answer_by : ℕ → Option Refusal → Answer
answer_by count None = Accepted count
answer_by count (Some r) = Refused r

-- the answer to an input
abbrev pub answer_of : List ℕ → Answer
answer_of bytes = answer_by (pair_count bytes) (first_no (job_asked bytes))

-- the verdict on an input
unfoldable pub verdict_of : List ℕ → List ℕ
verdict_of bytes = verdict_bytes (answer_of bytes)

-- no question of the layouts is answered no
abbrev pub Passes : List ℕ → Type 0
Passes bytes = None ≡ first_no (layouts_asked bytes)

-- the input keeps the layouts, and its pairs are a bisimulation between the two networks that it describes
pub record Alike (bytes : List ℕ) : Type 0 where
  pub passes : Passes bytes
  pub bisimulation : Bisimulation (compared_in bytes)

-- the bytes v are the verdict on the input. Their number is 0 exactly where the two networks are alike, and the count is then
-- that of the pair records
pub record Verdict (bytes v : List ℕ) : Type 0 where
  pub is : v ≡ verdict_of bytes
  pub alike : (slice_index v 0 ≡ 0) ↔ Alike bytes
  pub counted : slice_index v 0 ≡ 0 → v ≡ accepted_bytes (pair_count bytes)
