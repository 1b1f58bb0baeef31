use Rattle.std.proofs.Common.{◌≡◌, ◌++◌, vec_items}
use Rattle.ways.specs.Nets.{net_of}
use Rattle.ways.proofs.Copied.{listed_from}
use Rattle.ways.proofs.table.Table.add_combinations.Given as goal

abbrev pub invariant-loop-slot : goal.invariant-loop-slot
invariant-loop-slot l = vec_items l.steps ≡ vec_items l.fn.steps ++ listed_from (net_of l.self) l.state l.sender l.row l.value l.slot
