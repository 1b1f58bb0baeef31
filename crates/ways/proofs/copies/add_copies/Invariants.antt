use Rattle.std.proofs.Common.{◌≡◌, ◌++◌, map, vec_items, slice_range}
use Rattle.ways.specs.Copies.{placing}
use Rattle.ways.proofs.copies.add_copies.Given as goal

abbrev pub invariant-loop-number : goal.invariant-loop-number
invariant-loop-number l = vec_items l.steps ≡ vec_items l.initial.steps ++ map (placing l.slot l.unit) (slice_range (vec_items l.initial.steps) l.from l.number)
