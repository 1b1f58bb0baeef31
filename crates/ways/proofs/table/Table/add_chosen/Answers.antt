use Rattle.std.proofs.Common.{◌≡◌, ◌++◌, map, drop, vec_items, length, ap, ◌∙◌, arith, w8, to_z, of_z}
use Rattle.std.proofs.lemmas.Result.{IfOk-at_ok}
use Rattle.rows.specs.Units.{taken, receivable}
use Rattle.ways.specs.Nets.{net_of, unit_at}
use Rattle.ways.specs.Ways.{receivable_at}
use Rattle.ways.specs.Landings.{chosen}
use Rattle.ways.specs.Copies.{placing}
use Rattle.ways.specs.declared.way.Choice.{Choice}
use Rattle.ways.specs.declared.way.Choice.TheVariants.{Take}
use Rattle.ways.proofs.Copied.{blocks_yes, blocks_no, still_there}
use Rattle.lists.proofs.Extending.{err_extends, extends_then}
use Rattle.ways.proofs.table.Table.add_chosen.Goals as goal
use Rattle.ways.proofs.table.Table.add_chosen.Goals.{then-is_receivable+in_ok-add_copies, else-is_receivable}

pub loop-row-preserved : goal.loop-row-preserved
loop-row-preserved c =
    let n = net_of c.args.self.now in
    let was = vec_items c.args.steps.now in
    let v = to_z w8 (of_z w8 c.args.sent) in
    let x = unit_at c.args.state.now c.args.slot in
    let f = λ (a : Choice). map (placing c.args.slot (chosen n x a v)) (drop c.args.from was) in
    let p = receivable_at n c.args.state.now c.args.slot in
    let all : c.len-to.result ≡ length was = omega arith in
    let same = still_there was _ (vec_items c.loop-row.steps) c.args.from c.len-to.result c.loop-row.invariant all in
    let can = c.is_receivable.ensures ∙ ap (λ y. receivable y c.row-taken.result.now) c.unit_at-before.ensures ∙ ap (receivable x) c.row-taken.ensures in
    elim c.if-is_receivable.branch [
      | then-is_receivable+in_ok-add_copies w ↦
          (let after = w.taken_by-after.ensures ∙ ap (λ y. taken y c.row-taken.result.now v) c.unit_at-before.ensures ∙ ap (λ r. taken x r v) c.row-taken.ensures in
          rw w.steps-is
          (blocks_yes p Take f c.loop-row.row was _ c.loop-row.invariant _ _ can w.if-is_receivable.true
          (IfOk-at_ok _ w.in_ok-add_copies.was w.add_copies.ensures.adds ∙ ap (λ zs. vec_items c.loop-row.steps ++ map (placing c.args.slot w.taken_by-after.result) zs) same ∙ ap (λ y. vec_items c.loop-row.steps ++ map (placing c.args.slot y) (drop c.args.from was)) after)))
      | else-is_receivable w ↦ rw w.steps-is (blocks_no p Take f c.loop-row.row was _ c.loop-row.invariant _ can w.if-is_receivable.false)
    ]

pub returns-in_err-add_copies-clause-begins : goal.returns-in_err-add_copies-clause-begins
returns-in_err-add_copies-clause-begins c = err_extends _ _ _ (extends_then _ _ _ (_, c.loop-row.invariant) c.in_err-add_copies.ensures.begins)
