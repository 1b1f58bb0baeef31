use Rattle.ways.specs.Nets.{net_of}
use Rattle.calculus.proofs.Lawfulness.{lands_lawfully}
use Rattle.calculus.proofs.landings_are_lawful.Goals as goal

pub returns : goal.returns
returns g c = lands_lawfully (net_of c.args.network.now.table) (g.R.Rule.allowed c.args.network.now.rule) c.args.network.now.table.most c.args.network.now.table.program.kept
