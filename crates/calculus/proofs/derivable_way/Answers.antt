use Rattle.std.proofs.Common.{rules}
use Rattle.ways.specs.Nets.{net_of}
use Rattle.calculus.proofs.Exactly.{exact}
use Rattle.calculus.proofs.derivable_way.Goals as goal

pub returns : goal.returns
returns g c =
    record {
      is = c.way.ensures;
      exact = exact (net_of c.args.network.now.table) (g.R.Rule.allowed c.args.network.now.rule) c.args.state.now c.args.network.now.table.most (search rules);
    }
