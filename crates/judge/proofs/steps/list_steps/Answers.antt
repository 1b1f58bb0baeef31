use Rattle.std.proofs.Common.{ap, ◌∙◌, map, ◌++◌, w8, to_z, of_z}
use Rattle.std.proofs.lemmas.Result.{IfOk-at_ok, IfOk-weaker}
use Rattle.systems.specs.Listing.{listing, receives_in}
use Rattle.judge.specs.Receiving.{receiving_from}
use Rattle.judge.proofs.Receiving.{tell}
use Rattle.judge.proofs.steps.list_steps.Goals as goal

pub returns-clause-told : goal.returns-clause-told
returns-clause-told g c =
    let m = g.S.System.means c.args.system.now in
    let s = c.args.state.now in
    let v = to_z w8 (of_z w8 c.args.value) in
    let told = g.S.System.receive_by c.args.system.now s in
    let listed = IfOk-at_ok _ c.in_ok-list.was c.list.ensures.adds ∙ ap (λ ys. ys ++ listing m s v) c.clear.ensures.listed in
    let receiving = IfOk-at_ok _ c.in_ok-add_receiving.was c.add_receiving.ensures ∙ ap (receiving_from 0) c.deref-2.ensures.value in
    IfOk-weaker c.receives.result _ _ (λ x h. tell m v s _ _ told _ listed receiving (h ∙ ap (λ ws. map told ws ++ receives_in (m.steps s)) c.clear.ensures.told)) c.receives.ensures.adds
