-- The questions of a job's layouts: the frames, then the left side, then the right side. Assumes nothing.
use Rattle.std.proofs.Common.{◌≡◌, ℕ, true, List, ◌++◌, is_some, None, Option}
use Rattle.questions.specs.Asking.{first_no}
use Rattle.questions.specs.declared.Refusal.{Refusal}
use Rattle.questions.specs.declared.Side.TheVariants.{Left, Right}
use Rattle.questions.proofs.Chained.{first_of, then_of}
use Rattle.frames.specs.Frames.{frames_asked}
use Rattle.job.specs.Sides.{side_asked}
use Rattle.job.specs.Jobs.{layouts_asked}

module _ (bytes : List ℕ) (o : Option Refusal) where
  pub frames_refused : is_some o ≡ true → o ≡ first_no (frames_asked bytes) → o ≡ first_no (layouts_asked bytes)
  frames_refused some e = first_of o (frames_asked bytes) (side_asked Left bytes ++ side_asked Right bytes) some e

  pub left_refused : None ≡ first_no (frames_asked bytes) → is_some o ≡ true → o ≡ first_no (side_asked Left bytes) → o ≡ first_no (layouts_asked bytes)
  left_refused frames some e =
      then_of o (frames_asked bytes) (side_asked Left bytes ++ side_asked Right bytes) frames (first_of o (side_asked Left bytes) (side_asked Right bytes) some e)

  -- also where nothing is refused
  pub right_asked : None ≡ first_no (frames_asked bytes) → None ≡ first_no (side_asked Left bytes) → o ≡ first_no (side_asked Right bytes) → o ≡ first_no (layouts_asked bytes)
  right_asked frames left e =
      then_of o (frames_asked bytes) (side_asked Left bytes ++ side_asked Right bytes) frames (then_of o (side_asked Left bytes) (side_asked Right bytes) left e)
