use Rattle.std.proofs.Common.{◌≡◌, ℕ, ◌+◌}
use Rattle.lists.specs.Blocks.{begin, Tells}
use Rattle.lists.proofs.blocks.locate.Given as goal

abbrev pub invariant-loop-block : goal.invariant-loop-block
invariant-loop-block g l = (lengths : ℕ → ℕ) → Tells (goal.F-post g l.length_of) l.blocks lengths → begin lengths l.block + l.left ≡ l.number
