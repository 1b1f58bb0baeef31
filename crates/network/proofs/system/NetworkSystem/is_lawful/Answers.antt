use Rattle.std.proofs.lemmas.Bool.Decides.{Decides-at}
use Rattle.ways.specs.Nets.{net_of}
use Rattle.network.proofs.Words.{decides_lawful}
use Rattle.network.proofs.system.NetworkSystem.is_lawful.Goals as goal

pub returns-clause-words : goal.returns-clause-words
returns-clause-words g c =
    let n = net_of c.args.self.now.table in
    let allowed = g.R.Rule.allowed c.args.self.now.rule in
    Decides-at _ _ c.is_state_lawful.ensures (decides_lawful n allowed c.args.state.now c.args.self.now.table.most)
