use Rattle.std.proofs.Common.{sym, ap, ◌∙◌, subst, refl, ◌+◌}
use Rattle.std.proofs.lemmas.Result.{IfOk-at_ok}
use Rattle.lists.proofs.Places.{nth_here}
use Rattle.judge.specs.Entering.{entered}
use Rattle.judge.specs.Firsts.{Firsts}
use Rattle.judge.proofs.Repeating.{firsts_none, firsts_found, firsts_more, value_of_some}
use Rattle.judge.proofs.firsts.add_firsts.Goals as goal
use Rattle.judge.proofs.firsts.add_firsts.Goals.{then-is_none+in_ok-enter, else-is_none}

pub loop-number-init : goal.loop-number-init
loop-number-init c = firsts_none c.args.listed.now _ c.requires

pub loop-number-preserved : goal.loop-number-preserved
loop-number-preserved c =
    let ys = c.args.listed.now in
    let n = c.loop-number.number in
    let here = nth_here ys n c.loop-number-test.true in
    elim c.if-is_none.branch [
      | then-is_none+in_ok-enter w ↦ subst (Firsts ys (n + 1)) (sym (ap entered w.firsts-is ∙ IfOk-at_ok _ w.in_ok-enter.was w.enter.ensures)) (firsts_more ys n _ c.loop-number.invariant _ here.0 refl here.1)
      | else-is_none w ↦
          (let found = value_of_some _ c.earlier.result _ c.is_none.ensures w.if-is_none.false c.earlier.ensures in
          subst (Firsts ys (n + 1)) (sym (ap entered w.firsts-is)) (firsts_found ys n _ c.loop-number.invariant _ c.loop-number-test.true found.0 found.1))
    ]
