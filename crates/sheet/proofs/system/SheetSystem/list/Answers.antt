use Rattle.std.proofs.Common.{◌++◌, vec_items, ap, w8}
use Rattle.std.proofs.lemmas.Int.{to_z-of_z}
use Rattle.std.proofs.lemmas.Result.{IfOk-equal}
use Rattle.systems.proofs.Ways.{list_ways}
use Rattle.sheet.specs.States.{number_of}
use Rattle.sheet.specs.Meaning.{step_of, rows_from}
use Rattle.sheet.proofs.system.SheetSystem.list.Goals as goal

pub returns-then-is_lawful-clause-adds : goal.returns-then-is_lawful-clause-adds
returns-then-is_lawful-clause-adds c =
    let rows = rows_from (number_of c.args.state.now) c.args.self.now.rows.items in
    IfOk-equal c.add_rows.result _ _ _ c.add_rows.ensures.adds
    (ap (λ ls. vec_items c.args.steps.now ++ ls) (list_ways step_of rows c.args.self.now.range.lo c.args.self.now.range.hi c.args.value _ _ (to_z-of_z w8 c.args.value c.ranges.value) c.if-is_lawful.ensures.is))
