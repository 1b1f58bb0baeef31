use Rattle.std.proofs.Common.{sym, subst}
use Rattle.ways.specs.Nets.{net_of}
use Rattle.network.specs.Meanings.{Shows}
use Rattle.network.proofs.Shown.{shows}
use Rattle.network.proofs.system.NetworkSystem.shown.Goals as goal

pub returns-then-is_state_lawful-clause-groups : goal.returns-then-is_state_lawful-clause-groups
returns-then-is_state_lawful-clause-groups g c =
    let n = net_of c.args.self.now.table in
    λ _. subst (Shows n c.args.state.now) (sym c.union_shown.ensures) (shows n c.args.state.now)
