use Rattle.std.proofs.Common.{◌≡◌, ◌-◌, ◌++◌, ◌∷◌, [], map, drop, vec_items, sym, ap, ◌∙◌, subst, arith, rules, w8, to_z, of_z}
use Rattle.std.proofs.lemmas.Int.{to_z-of_z}
use Rattle.std.proofs.lemmas.Result.{IfOk-at_ok}
use Rattle.std.specs.List.{flat_map}
use Rattle.lists.specs.Words.{Extends}
use Rattle.rows.specs.declared.row.Row.{Row}
use Rattle.ways.specs.Nets.{net_of, unit_at}
use Rattle.ways.specs.Ways.{choices}
use Rattle.ways.specs.Landings.{incoming, chosen}
use Rattle.ways.specs.Copies.{placing}
use Rattle.ways.proofs.Copied.{listed_from, listed_last, listed_first, listing_more}
use Rattle.lists.proofs.Extending.{err_extends, extends_same, extends_then}
use Rattle.ways.proofs.table.Table.add_combinations.Goals as goal

pub loop-slot-init : goal.loop-slot-init
loop-slot-init c =
    let n = net_of c.args.self.now in
    let v = to_z w8 (of_z w8 c.args.value) in
    IfOk-at_ok _ c.in_ok-add_listed.was c.add_listed.ensures.adds ∙ ap (λ x. vec_items c.args.steps.now ++ x ∷ []) c.listed_alone.ensures ∙ ap (λ ls. vec_items c.args.steps.now ++ ls) (listed_last n c.args.state.now c.args.sender c.args.row v)

pub loop-slot-preserved : goal.loop-slot-preserved
loop-slot-preserved c =
    let n = net_of c.args.self.now in
    let s = c.args.state.now in
    let v = to_z w8 (of_z w8 c.args.value) in
    let j = c.loop-slot.slot - 1 in
    let back : to_z w8 (of_z w8 c.incoming-sent.result) ≡ c.incoming-sent.result = search (rules, to_z-of_z) in
    let sent = back ∙ c.incoming-sent.ensures ∙ ap (λ x. incoming x c.row.result.now.action v) c.unit_at.ensures ∙ ap (λ (r : Row). incoming (unit_at s c.args.sender) r.action v) c.row.ensures in
    let added = IfOk-at_ok _ c.in_ok-add_chosen.was c.add_chosen.ensures.adds in
    listing_more n s c.args.sender c.args.row v _ _ c.loop-slot.slot (omega arith) c.loop-slot.auto.slot c.loop-slot.invariant c.len-from.result _ (omega arith)
    (added ∙ ap (λ z. vec_items c.loop-slot.steps ++ flat_map (λ x. map (placing j (chosen n (unit_at s j) x z)) (drop c.len-from.result (vec_items c.loop-slot.steps))) (drop 1 (choices n s c.args.sender j))) sent)

pub returns-clause-adds : goal.returns-clause-adds
returns-clause-adds c =
    let n = net_of c.args.self.now in
    let same = to_z-of_z w8 c.args.value c.ranges.value in
    let was = vec_items c.args.steps.now in
    let e : c.loop-slot.slot ≡ 0 = omega arith in
    c.loop-slot.invariant ∙ ap (λ m. was ++ listed_from n c.args.state.now c.args.sender c.args.row (to_z w8 (of_z w8 c.args.value)) m) e
    ∙ ap (λ z. was ++ listed_from n c.args.state.now c.args.sender c.args.row z 0) same ∙ ap (λ ls. was ++ ls) (listed_first n c.args.state.now c.args.sender c.args.row c.args.value)

pub returns-in_err-add_chosen-clause-begins : goal.returns-in_err-add_chosen-clause-begins
returns-in_err-add_chosen-clause-begins c = err_extends _ _ _ (extends_then _ _ _ (_, c.loop-slot.invariant) c.in_err-add_chosen.ensures.begins)

pub returns-in_err-add_listed-clause-begins : goal.returns-in_err-add_listed-clause-begins
returns-in_err-add_listed-clause-begins c = err_extends _ _ _ (subst (Extends (vec_items c.args.steps.now)) (sym c.in_err-add_listed.ensures.leaves) (extends_same (vec_items c.args.steps.now)))
