use Rattle.std.proofs.Common.{sym, ◌∙◌}
use Rattle.questions.proofs.Asked.{numbered_all}
use Rattle.frames.specs.Frames.{frame_asked}
use Rattle.frames.proofs.Few.{pairs_few}
use Rattle.frames.proofs.frame.check.Goals as goal

pub returns-clause-few : goal.returns-clause-few
returns-clause-few c = pairs_few c.args.bytes.now (sym c.loop-number.invariant ∙ numbered_all frame_asked _ _ c.loop-number-test.false)
