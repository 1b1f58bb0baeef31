use Rattle.lists.proofs.Listed.{Picking}
use Rattle.ways.specs.Nets.{net_of}
use Rattle.ways.specs.Ways.{choices}
use Rattle.ways.specs.declared.way.Choice.TheVariants.{Stay}
use Rattle.ways.proofs.table.Table.combination.Given as goal

abbrev pub invariant-loop-unit : goal.invariant-loop-unit
invariant-loop-unit l = Picking Stay (choices (net_of l.self) l.state l.sender) 6 l.number l.unit l.size l.rest l.chosen
