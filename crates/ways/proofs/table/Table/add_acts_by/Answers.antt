use Rattle.std.proofs.Common.{◌≡◌, ◌<◌, true, ◌++◌, ◌∷◌, [], map, length, vec_items, sym, ap, ◌∙◌, arith, w8, to_z, of_z}
use Rattle.std.proofs.lemmas.Int.{to_z-of_z}
use Rattle.std.proofs.lemmas.Result.{IfOk-at_ok, IfOk-weaker}
use Rattle.rows.specs.Units.{enabled}
use Rattle.ways.specs.Nets.{net_of, unit_at}
use Rattle.ways.specs.Ways.{combinations, acts_by}
use Rattle.ways.specs.Landings.{listed_of}
use Rattle.ways.proofs.Taken.{acts_sent, acts_alone}
use Rattle.ways.proofs.table.Table.add_acts_by.Goals as goal

pub returns-in-Broadcast-clause-adds : goal.returns-in-Broadcast-clause-adds
returns-in-Broadcast-clause-adds c =
    let n = net_of c.args.self.now in
    let s = c.args.state.now in
    let same = to_z-of_z w8 c.args.value c.ranges.value in
    let able : true ≡ enabled (unit_at s c.args.unit) c.row-taken.result.now = sym (ap (enabled (unit_at s c.args.unit)) c.row-taken.ensures ∙ c.requires) in
    IfOk-weaker c.add_combinations.result _ _
    (λ x h.
    h ∙ ap (λ ws. vec_items c.args.steps.now ++ map (listed_of n s (to_z w8 (of_z w8 c.args.value))) ws) (sym (acts_sent n s c.args.unit c.args.row c.row-taken.result.now c.row-taken.ensures able c.in-Broadcast.field-0 c.in-Broadcast.is))
    ∙ ap (λ z. vec_items c.args.steps.now ++ map (listed_of n s z) (acts_by n s c.args.unit c.args.row)) same)
    c.add_combinations.ensures.adds

pub returns-in_ok-add_listed-clause-adds : goal.returns-in_ok-add_listed-clause-adds
returns-in_ok-add_listed-clause-adds c =
    let n = net_of c.args.self.now in
    let s = c.args.state.now in
    let same = to_z-of_z w8 c.args.value c.ranges.value in
    let able : true ≡ enabled (unit_at s c.args.unit) c.row-taken.result.now = sym (ap (enabled (unit_at s c.args.unit)) c.row-taken.ensures ∙ c.requires) in
    let some : 0 < length (combinations n s c.args.unit c.row-taken.result.now.action) = omega (arith, c.action_count.ensures.is, c.if-action_count-gt0.true) in
    IfOk-at_ok _ c.in_ok-add_listed.was c.add_listed.ensures.adds ∙ ap (λ x. vec_items c.args.steps.now ++ x ∷ []) ((rw same at c.listed_alone.ensures))
    ∙ ap (λ ws. vec_items c.args.steps.now ++ map (listed_of n s c.args.value) ws) (sym (acts_alone n s c.args.unit c.args.row c.row-taken.result.now c.row-taken.ensures able c.in_default.not-Broadcast some))
