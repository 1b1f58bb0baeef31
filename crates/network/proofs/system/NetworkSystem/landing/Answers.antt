use Rattle.std.proofs.Common.{w8, refl, ap, ◌∙◌}
use Rattle.std.proofs.lemmas.Int.{to_z-of_z}
use Rattle.systems.specs.Meaning.{landing_at}
use Rattle.ways.specs.Nets.{net_of}
use Rattle.network.specs.Meanings.{network_meaning}
use Rattle.network.proofs.Landed.{landed}
use Rattle.network.proofs.system.NetworkSystem.landing.Goals as goal

pub returns : goal.returns
returns g c =
    let n = net_of c.args.self.now.table in
    let allowed = g.R.Rule.allowed c.args.self.now.rule in
    c.landing_of.ensures ∙ landed n allowed c.args.state.now c.args.step _ _ refl
    ∙ ap (landing_at (network_meaning n allowed) c.args.state.now c.args.step) (to_z-of_z w8 c.args.value c.ranges.value)
