use Rattle.std.proofs.Common.{sym, ap, ◌∙◌, vec_items}
use Rattle.std.proofs.lemmas.Option.{slice_get-get_or}
use Rattle.judge.proofs.Receiving.{receiving_yes, receiving_no}
use Rattle.judge.proofs.steps.add_receiving.Goals as goal
use Rattle.judge.proofs.steps.add_receiving.Goals.{then-is_receive+in_ok-push, else-is_receive}

pub loop-number-preserved : goal.loop-number-preserved
loop-number-preserved c =
    let ys = c.args.listed.now in
    let n = c.loop-number.number in
    let there = slice_get-get_or ys n _ c.loop-number-test.true in
    elim c.if-is_receive.branch [
      | then-is_receive+in_ok-push w ↦ ap vec_items w.receiving-is ∙ w.in_ok-push.ensures.items ∙ receiving_yes ys n _ _ there (sym c.is_receive.ensures ∙ w.if-is_receive.true) c.loop-number.invariant
      | else-is_receive w ↦ ap vec_items w.receiving-is ∙ receiving_no ys n _ _ there (sym c.is_receive.ensures ∙ w.if-is_receive.false) c.loop-number.invariant
    ]
