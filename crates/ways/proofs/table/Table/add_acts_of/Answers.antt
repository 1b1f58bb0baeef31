use Rattle.std.proofs.Common.{◌≡◌, cond, [], ◌++◌, length, map, vec_items, sym, ap, ◌∙◌, arith, w8, to_z, of_z}
use Rattle.std.specs.List.{range_with_len, flat_map}
use Rattle.std.proofs.lemmas.Int.{to_z-of_z}
use Rattle.std.proofs.lemmas.List.{append-nil}
use Rattle.std.proofs.lemmas.Result.{IfOk-at_ok}
use Rattle.lists.proofs.Adding.{mapping_more}
use Rattle.rows.specs.Units.{enabled}
use Rattle.ways.specs.Nets.{net_of, unit_at, row_at}
use Rattle.ways.specs.Ways.{combinations, acts_by}
use Rattle.ways.specs.Landings.{listed_of}
use Rattle.ways.specs.declared.way.Way.TheVariants.{Act}
use Rattle.lists.proofs.Extending.{err_extends, extends_then}
use Rattle.ways.proofs.table.Table.add_acts_of.Goals as goal
use Rattle.ways.proofs.table.Table.add_acts_of.Goals.{then-is_enabled+in_ok-add_acts_by, else-is_enabled}

pub add_acts_by-requires : goal.add_acts_by-requires
add_acts_by-requires c =
    sym (ap (enabled (unit_at c.args.state.now c.args.unit)) c.row.ensures) ∙ sym (ap (λ y. enabled y c.row.result.now) c.unit_at-by.ensures) ∙ sym c.is_enabled.ensures ∙ c.if-is_enabled.true

pub loop-row-preserved : goal.loop-row-preserved
loop-row-preserved c =
    let n = net_of c.args.self.now in
    let s = c.args.state.now in
    let g = listed_of n s (to_z w8 (of_z w8 c.args.value)) in
    let f = acts_by n s c.args.unit in
    let able = c.is_enabled.ensures ∙ ap (λ y. enabled y c.row.result.now) c.unit_at-by.ensures ∙ ap (enabled (unit_at s c.args.unit)) c.row.ensures in
    elim c.if-is_enabled.branch [
      | then-is_enabled+in_ok-add_acts_by w ↦ ap vec_items w.steps-is ∙ mapping_more g f _ _ _ c.loop-row.invariant _ (IfOk-at_ok _ w.in_ok-add_acts_by.was w.add_acts_by.ensures.adds)
      | else-is_enabled w ↦
          ap vec_items w.steps-is
          ∙ mapping_more g f c.loop-row.row _ _ c.loop-row.invariant _
          (sym (append-nil (vec_items c.loop-row.steps)) ∙ ap (λ b. vec_items c.loop-row.steps ++ map g (cond b (map (Act c.args.unit c.loop-row.row) (combinations n s c.args.unit (row_at n c.loop-row.row).action)) [])) (sym w.if-is_enabled.false ∙ able))
    ]

pub returns-clause-adds : goal.returns-clause-adds
returns-clause-adds c =
    let n = net_of c.args.self.now in
    let same = to_z-of_z w8 c.args.value c.ranges.value in
    let all : c.loop-row.row ≡ length n.rows = omega (arith, ap length c.rows-row-end.ensures.is) in
    (rw same at c.loop-row.invariant) ∙ ap (λ m. vec_items c.args.steps.now ++ map (listed_of n c.args.state.now c.args.value) (flat_map (acts_by n c.args.state.now c.args.unit) (range_with_len 0 m))) all

pub returns-in_err-add_acts_by-clause-begins : goal.returns-in_err-add_acts_by-clause-begins
returns-in_err-add_acts_by-clause-begins c = err_extends _ _ _ (extends_then _ _ _ (_, c.loop-row.invariant) c.in_err-add_acts_by.ensures.begins)
