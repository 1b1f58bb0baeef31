use Rattle.std.proofs.Common.{◌++◌, map, vec_items, sym, ap, ◌∙◌, w8, to_z, of_z}
use Rattle.std.proofs.lemmas.Int.{to_z-of_z}
use Rattle.std.proofs.lemmas.List.{append_assoc, map-append}
use Rattle.std.proofs.lemmas.Result.{IfOk-at_ok, IfOk-equal, on_err_weaker}
use Rattle.ways.specs.Landings.{listed_of}
use Rattle.ways.specs.Nets.{net_of}
use Rattle.ways.specs.Ways.{acts}
use Rattle.network.specs.Meanings.{movements, ways}
use Rattle.network.proofs.network.Network.add_steps.Goals as goal

pub returns-clause-adds : goal.returns-clause-adds
returns-clause-adds g c =
    let n = net_of c.args.self.now.table in
    let s = c.args.state.now in
    let allowed = g.R.Rule.allowed c.args.self.now.rule in
    let u = to_z w8 (of_z w8 c.args.value) in
    let was = vec_items c.args.steps.now in
    let moves = IfOk-at_ok _ c.in_ok-add_movements.was c.add_movements.ensures.adds in
    let all = sym (map-append (listed_of n s u) (movements n allowed s) (acts n s)) ∙ ap (λ z. map (listed_of n s z) (ways n allowed s)) (to_z-of_z w8 c.args.value c.ranges.value) in
    IfOk-equal c.add_acts.result _ _ _ c.add_acts.ensures.adds
    (ap (λ ls. ls ++ map (listed_of n s u) (acts n s)) moves ∙ append_assoc was (map (listed_of n s u) (movements n allowed s)) (map (listed_of n s u) (acts n s)) ∙ ap (λ ls. was ++ ls) all)

pub returns-clause-begins : goal.returns-clause-begins
returns-clause-begins g c =
    let moves = IfOk-at_ok _ c.in_ok-add_movements.was c.add_movements.ensures.adds in
    on_err_weaker c.add_acts.result (λ e. (_, e ∙ moves)) c.add_acts.ensures.leaves
