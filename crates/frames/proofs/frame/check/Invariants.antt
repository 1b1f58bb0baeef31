use Rattle.std.proofs.Common.{◌≡◌, drop}
use Rattle.questions.specs.Asking.{numbered, first_no}
use Rattle.frames.specs.Frames.{frame_asked, frames_asked}
use Rattle.frames.proofs.frame.check.Given as goal

abbrev pub invariant-loop-number : goal.invariant-loop-number
invariant-loop-number l = first_no (numbered frame_asked l.number (drop l.number l.item-items)) ≡ first_no (frames_asked l.bytes)
