-- A whole job: its questions, and what a loaded one means.
use Rattle.std.specs.Prelude.{◌≡◌, ℕ, List, ◌++◌}
use Rattle.questions.specs.Asking.{Question}
use Rattle.questions.specs.declared.Refusal.{Refusal}
use Rattle.questions.specs.declared.Side.TheVariants.{Left, Right}
use Rattle.judge.specs.Comparing.{Compared, comparing}
use Rattle.judge.specs.Judged.{judge_asked}
use Rattle.frames.specs.Frames.{frames_asked}
use Rattle.frames.specs.Payloads.{relation_of}
use Rattle.job.specs.Sides.{side_asked, side_meaning, loaded_meaning}
use Rattle.job.specs.declared.job.Job.{Job}

-- the questions of the layouts: the frames, then the left side, then the right side
abbrev pub layouts_asked : List ℕ → List (Question Refusal)
layouts_asked bytes = frames_asked bytes ++ (side_asked Left bytes ++ side_asked Right bytes)

-- the two networks that an input describes, and its pairs
abbrev pub compared_in : List ℕ → Compared
compared_in bytes = comparing (side_meaning Left bytes) (side_meaning Right bytes) (relation_of bytes)

-- all questions of a job: those of the layouts, then the judge's
abbrev pub job_asked : List ℕ → List (Question Refusal)
job_asked bytes = layouts_asked bytes ++ judge_asked (compared_in bytes)

-- the networks of a job as they are loaded from an input
pub record Loaded (bytes : List ℕ) (j : Job) : Type 0 where
  pub left : loaded_meaning j.left.table j.left.rule ≡ side_meaning Left bytes
  pub right : loaded_meaning j.right.table j.right.rule ≡ side_meaning Right bytes
