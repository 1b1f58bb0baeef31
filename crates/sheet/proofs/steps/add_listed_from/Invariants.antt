use Rattle.std.proofs.Common.{◌≡◌, ◌++◌, map, filter, take, nat_eq, vec_items}
use Rattle.sheet.specs.Meaning.{listed_row}
use Rattle.sheet.proofs.steps.add_listed_from.Given as goal

abbrev pub invariant-loop-row : goal.invariant-loop-row
invariant-loop-row l = vec_items l.steps ≡ vec_items l.fn.steps ++ map (listed_row l.range.lo l.range.hi l.value) (filter (λ r. nat_eq r.from l.number) (take l.row-index l.rows))
