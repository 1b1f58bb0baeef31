use Rattle.std.proofs.Common.{◌≡◌, arith}
use Rattle.lists.proofs.LaidOut.{begin_more}
use Rattle.lists.proofs.blocks.locate.Goals as goal

pub loop-block-preserved : goal.loop-block-preserved
loop-block-preserved g c = λ lengths tells.
    let e : c.length_of-length.result ≡ lengths c.loop-block.block = tells _ _ c.loop-block-test.true c.length_of-length.ensures in
    omega (arith, e, begin_more lengths c.loop-block.block, c.loop-block.invariant lengths tells, c.if-left-length.false)
