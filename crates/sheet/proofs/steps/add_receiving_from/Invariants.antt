use Rattle.std.proofs.Common.{◌≡◌, ◌++◌, filter, take, vec_items}
use Rattle.systems.specs.Meaning.{receives}
use Rattle.sheet.specs.Meaning.{step_of, rows_from}
use Rattle.sheet.proofs.steps.add_receiving_from.Given as goal

abbrev pub invariant-loop-row : goal.invariant-loop-row
invariant-loop-row l = vec_items l.found ≡ vec_items l.fn.found ++ filter (λ r. receives (step_of r).label) (rows_from l.number (take l.row-index l.rows))
