use Rattle.std.proofs.Common.{◌≡◌, ℕ, false, cond, [], ◌++◌, length, map, filter, vec_items, ap, ◌∙◌, arith}
use Rattle.std.specs.List.{range_with_len}
use Rattle.lists.proofs.Adding.{sifting_yes, sifting_no}
use Rattle.ways.specs.declared.receiving.Receiving.{Receiving}
use Rattle.model.specs.GroupSets.{empty}
use Rattle.rows.specs.Units.{receivable}
use Rattle.ways.specs.Nets.{net_of, unit_at, free_part}
use Rattle.ways.specs.Ways.{receivable_at, receivable_rows}
use Rattle.lists.proofs.Extending.{err_extends}
use Rattle.ways.proofs.table.Table.add_receivings_of.Goals as goal
use Rattle.ways.proofs.table.Table.add_receivings_of.Goals.{then-is_receivable+in_ok-push, else-is_receivable}

pub loop-row-preserved : goal.loop-row-preserved
loop-row-preserved c =
    let p = receivable_at (net_of c.args.self.now) c.args.state.now c.args.unit in
    let f : ℕ → Receiving = λ k. record { unit = c.args.unit; row = k } in
    let x = unit_at c.args.state.now c.args.unit in
    let can = c.is_receivable.ensures ∙ ap (λ y. receivable y c.row.result.now) c.unit_at-by.ensures ∙ ap (receivable x) c.row.ensures in
    elim c.if-is_receivable.branch [
      | then-is_receivable+in_ok-push w ↦ ap vec_items w.found-is ∙ sifting_yes p f c.loop-row.row _ _ c.loop-row.invariant _ _ can w.if-is_receivable.true w.in_ok-push.ensures.items
      | else-is_receivable w ↦ ap vec_items w.found-is ∙ sifting_no p f c.loop-row.row _ _ c.loop-row.invariant _ can w.if-is_receivable.false
    ]

pub returns-clause-adds : goal.returns-clause-adds
returns-clause-adds c =
    let n = net_of c.args.self.now in
    let rows = receivable_rows n c.args.state.now c.args.unit in
    let f : ℕ → Receiving = λ k. record { unit = c.args.unit; row = k } in
    let all : c.loop-row.row ≡ length n.rows = omega (arith, ap length c.rows-row-end.ensures.is, c.loop-row-test.false, c.loop-row.auto.row-end) in
    let heard : false ≡ empty (free_part n (unit_at c.args.state.now c.args.unit)) = c.if-is_empty.ensures.is ∙ ap empty (c.part_within-heard.ensures.is ∙ ap (free_part n) c.unit_at-by.ensures) in
    c.loop-row.invariant ∙ ap (λ m. vec_items c.args.found.now ++ map f (filter (receivable_at n c.args.state.now c.args.unit) (range_with_len 0 m))) all ∙ ap (λ b. vec_items c.args.found.now ++ cond b [] (map f rows)) heard

pub returns-in_err-push-clause-begins : goal.returns-in_err-push-clause-begins
returns-in_err-push-clause-begins c = err_extends _ _ _ (_, c.in_err-push.ensures.items ∙ c.loop-row.invariant)
