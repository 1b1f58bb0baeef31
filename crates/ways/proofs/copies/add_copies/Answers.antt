use Rattle.std.proofs.Common.{◌<◌, length, vec_items, ◌∙◌, arith}
use Rattle.std.proofs.lemmas.Result.{IfOk-at_ok}
use Rattle.ways.specs.Copies.{placing}
use Rattle.ways.proofs.Copied.{copied_more}
use Rattle.lists.proofs.Extending.{err_extends}
use Rattle.ways.proofs.copies.add_copies.Goals as goal

pub loop-number-preserved : goal.loop-number-preserved
loop-number-preserved c =
    let there : c.loop-number.number < length (vec_items c.args.steps.now) = omega arith in
    copied_more (placing c.args.slot c.args.unit) _ _ _ _ c.loop-number.invariant _ _ _ c.loop-number.auto.number there c.index.ensures c.placing-step.ensures (IfOk-at_ok _ c.in_ok-add_listed.was c.add_listed.ensures.adds)

pub returns-in_err-add_listed-clause-begins : goal.returns-in_err-add_listed-clause-begins
returns-in_err-add_listed-clause-begins c = err_extends _ _ _ (_, c.in_err-add_listed.ensures.leaves ∙ c.loop-number.invariant)
