use Rattle.std.proofs.Common.{cond, [], ◌++◌, map, vec_items, ap, ◌∙◌}
use Rattle.std.proofs.lemmas.Result.{IfOk-equal}
use Rattle.lists.proofs.Extending.{extends_same, extends_either}
use Rattle.systems.specs.Listing.{receives_in}
use Rattle.ways.specs.Landings.{step_of}
use Rattle.ways.specs.Nets.{net_of}
use Rattle.ways.specs.Receivings.{received_by}
use Rattle.network.specs.Meanings.{ways}
use Rattle.network.proofs.Received.{no_movement_received}
use Rattle.network.proofs.system.NetworkSystem.receives.Goals as goal

pub returns-then-is_state_lawful-clause-adds : goal.returns-then-is_state_lawful-clause-adds
returns-then-is_state_lawful-clause-adds g c =
    let n = net_of c.args.self.now.table in
    let s = c.args.state.now in
    let allowed = g.R.Rule.allowed c.args.self.now.rule in
    let told = map (received_by n s) (vec_items c.args.receives.now) in
    IfOk-equal c.add_receivings.result _ _ _ c.add_receivings.ensures.told
    (ap (λ xs. told ++ xs) (no_movement_received n allowed s ∙ ap (λ b. receives_in (map (step_of n s) (cond b (ways n allowed s) []))) c.if-is_state_lawful.ensures))

pub returns-then-is_state_lawful-clause-keeps : goal.returns-then-is_state_lawful-clause-keeps
returns-then-is_state_lawful-clause-keeps g c = extends_either c.add_receivings.result _ _ _ c.add_receivings.ensures.adds c.add_receivings.ensures.leaves

pub returns-else-is_state_lawful-clause-keeps : goal.returns-else-is_state_lawful-clause-keeps
returns-else-is_state_lawful-clause-keeps g c = extends_same (vec_items c.args.receives.now)
