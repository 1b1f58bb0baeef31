use Rattle.ways.specs.Nets.{net_of}
use Rattle.calculus.proofs.Exactly.{exact}
use Rattle.network_rehearsal.proofs.rehearse_networks.Goals as goal

pub returns-clause-left_exact : goal.returns-clause-left_exact
returns-clause-left_exact g c s =
    let network = c.args.comparison.now.left.now in
    exact (net_of network.table) (g.P.Rule.allowed network.rule) s network.table.most

pub returns-clause-right_exact : goal.returns-clause-right_exact
returns-clause-right_exact g c s =
    let network = c.args.comparison.now.right.now in
    exact (net_of network.table) (g.Q.Rule.allowed network.rule) s network.table.most
