use Rattle.std.proofs.Common.{◌≡◌, true, false, cond, [], ◌++◌, length, map, take, vec_items, sym, ap, ◌∙◌, arith, rules, w8}
use Rattle.std.proofs.lemmas.Int.{to_z-of_z}
use Rattle.std.proofs.lemmas.List.{append-nil}
use Rattle.std.proofs.lemmas.Result.{IfOk-equal, on_err_weaker}
use Rattle.lists.proofs.Extending.{extends_cut}
use Rattle.ways.specs.Landings.{step_of, listed_of}
use Rattle.ways.specs.Nets.{net_of}
use Rattle.network.specs.Meanings.{lawful, ways}
use Rattle.network.specs.Steps.{step_listed, listed_steps}
use Rattle.network.proofs.system.NetworkSystem.list.Goals as goal

pub returns-then-not-is_state_lawful-clause-adds : goal.returns-then-not-is_state_lawful-clause-adds
returns-then-not-is_state_lawful-clause-adds g c =
    let n = net_of c.args.self.now.table in
    let s = c.args.state.now in
    let allowed = g.R.Rule.allowed c.args.self.now.rule in
    let was = vec_items c.args.steps.now in
    let unlawful : false ≡ lawful n allowed s = search rules in
    sym (append-nil was) ∙ ap (λ b. was ++ map (step_listed n s c.args.value) (map (step_of n s) (cond b (ways n allowed s) []))) unlawful

pub returns-else-is_err-clause-adds : goal.returns-else-is_err-clause-adds
returns-else-is_err-clause-adds g c =
    let n = net_of c.args.self.now.table in
    let s = c.args.state.now in
    let allowed = g.R.Rule.allowed c.args.self.now.rule in
    let was = vec_items c.args.steps.now in
    let is_lawful : true ≡ lawful n allowed s = search rules in
    let all =
    ap (λ z. map (listed_of n s z) (ways n allowed s)) (to_z-of_z w8 c.args.value c.ranges.value) ∙ listed_steps n s c.args.value (ways n allowed s)
    ∙ ap (λ b. map (step_listed n s c.args.value) (map (step_of n s) (cond b (ways n allowed s) []))) is_lawful in
    IfOk-equal c.add_steps-added.result _ _ _ c.add_steps-added.ensures.adds (ap (λ ls. was ++ ls) all)

pub returns-then-is_err-clause-leaves : goal.returns-then-is_err-clause-leaves
returns-then-is_err-clause-leaves g c =
    let all : c.len-before.result ≡ length (vec_items c.args.steps.now) = omega arith in
    on_err_weaker c.add_steps-added.result (λ p. c.truncate.ensures.items ∙ ap (λ k. take k (vec_items c.add_steps-added.new.steps)) all ∙ extends_cut _ _ p) c.add_steps-added.ensures.begins
