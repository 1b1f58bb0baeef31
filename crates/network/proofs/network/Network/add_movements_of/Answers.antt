use Rattle.std.proofs.Common.{ℕ, ◌++◌, ◌∷◌, [], map, filter, get_or, vec_items, sym, ap, ◌∙◌, w8, to_z, of_z}
use mathlib.Core.List.{map-map}
use Rattle.std.proofs.lemmas.Int.{to_z-of_z}
use Rattle.std.proofs.lemmas.List.{take_all, take_more}
use Rattle.std.proofs.lemmas.Result.{IfOk-at_ok}
use Rattle.lists.proofs.Adding.{taking_yes, taking_no}
use Rattle.ways.specs.Nets.{net_of}
use Rattle.ways.specs.Landings.{listed_of}
use Rattle.ways.specs.declared.way.Way.TheVariants.{Move}
use Rattle.network.specs.Meanings.{set_numbers, may_move, set_of}
use Rattle.network.proofs.Admitted.{moves_admitted}
use Rattle.lists.proofs.Extending.{err_extends}
use Rattle.network.proofs.network.Network.add_movements_of.Goals as goal
use Rattle.network.proofs.network.Network.add_movements_of.Goals.{then-may_move+in_ok-add_listed, else-may_move}

pub loop-bits-preserved : goal.loop-bits-preserved
loop-bits-preserved g c =
    let n = net_of c.args.self.now.table in
    let s = c.args.state.now in
    let v = to_z w8 (of_z w8 c.args.value) in
    let may = λ (b : ℕ). may_move n (g.R.Rule.allowed c.args.self.now.rule) s c.args.unit (set_of b) in
    let list = λ (b : ℕ). listed_of n s v (Move c.args.unit (set_of b)) in
    let bs = c.as_slice-bits-items.result.now in
    let b = get_or bs c.loop-bits.bits-index 0 in
    let at = take_more bs c.loop-bits.bits-index 0 c.loop-bits-test.true in
    elim c.if-may_move.branch [
      | then-may_move+in_ok-add_listed w ↦
          ap vec_items w.steps-is
          ∙ taking_yes may list bs c.loop-bits.bits-index b at (vec_items c.args.steps.now) (vec_items c.loop-bits.steps) c.loop-bits.invariant _ (sym (w.if-may_move.ensures c.requires.unit))
          (IfOk-at_ok _ w.in_ok-add_listed.was w.add_listed.ensures.adds ∙ ap (λ x. vec_items c.loop-bits.steps ++ x ∷ []) w.listed_movement.ensures)
      | else-may_move w ↦ ap vec_items w.steps-is ∙ taking_no may list bs c.loop-bits.bits-index b at (vec_items c.args.steps.now) (vec_items c.loop-bits.steps) c.loop-bits.invariant (sym (w.if-may_move.ensures c.requires.unit))
    ]

pub returns-clause-adds : goal.returns-clause-adds
returns-clause-adds g c =
    let own = c.args.self.now in
    let n = net_of own.table in
    let allowed = g.R.Rule.allowed own.rule in
    let s = c.args.state.now in
    let may = λ (b : ℕ). may_move n allowed s c.args.unit (set_of b) in
    let move = λ (b : ℕ). Move c.args.unit (set_of b) in
    let was = vec_items c.args.steps.now in
    let same = to_z-of_z w8 c.args.value c.ranges.value in
    (rw same at c.loop-bits.invariant)
    ∙ ap (λ bs. was ++ map (λ b. listed_of n s c.args.value (move b)) (filter may bs)) (take_all c.loop-bits.bits-index c.as_slice-bits-items.result.now c.loop-bits-test.false ∙ c.as_slice-bits-items.ensures.value)
    ∙ ap (λ bs. was ++ map (λ b. listed_of n s c.args.value (move b)) bs) (moves_admitted n allowed (g.R.Rule.admitted own.rule) s c.args.unit (own.sets.items) own.table.most c.requires.unit (g.met.R.Rule.bars own.rule) own.listed)
    ∙ ap (λ ls. was ++ ls) (sym (map-map (listed_of n s c.args.value) move (filter may set_numbers)))

pub returns-in_err-add_listed-clause-begins : goal.returns-in_err-add_listed-clause-begins
returns-in_err-add_listed-clause-begins g c = err_extends _ _ _ (_, c.in_err-add_listed.ensures.leaves ∙ c.loop-bits.invariant)
