use Rattle.std.proofs.Common.{◌≡◌, None, ap, ◌∙◌, rules}
use Rattle.questions.specs.Asking.{first_no}
use Rattle.judge.specs.Judged.{judge_asked}
use Rattle.verdict.specs.declared.answer.Answer.TheVariants.{Accepted}
use Rattle.frames.specs.Payloads.{relation_of}
use Rattle.job.specs.Sides.{loaded_meaning}
use Rattle.job.specs.Verdicts.{answer_by, pair_count}
use Rattle.job.proofs.Judging.{layouts_first, read_is, judge_then, judge_counted}
use Rattle.words.proofs.explain.explain.Goals as goal

pub returns-in-Err-clause-answers : goal.returns-in-Err-clause-answers
returns-in-Err-clause-answers c = ap (answer_by (pair_count c.args.bytes.now)) (layouts_first c.args.bytes.now _ c.in-Err.ensures.refuses)

pub returns-in-Ok-judge-clause-answers : goal.returns-in-Ok-judge-clause-answers
returns-in-Ok-judge-clause-answers c =
    let bytes = c.args.bytes.now in
    let l = c.in-Ok.ensures in
    let left = ap (λ n. loaded_meaning n.table n.rule) c.left.ensures ∙ l.loads.left in
    let right = ap (λ n. loaded_meaning n.table n.rule) c.right.ensures ∙ l.loads.right in
    let items : c.unwrap-pairs.result.items ≡ relation_of bytes = search rules in
    let whole = c.as_slice.ensures.value ∙ items in
    let count = judge_counted bytes l.refuses _ _ c.as_slice.result.now left right whole _ (c.count.ensures ∙ c.in-Ok-judge.ensures.counts) in
    ap Accepted count ∙ ap (answer_by (pair_count bytes)) (judge_then bytes l.refuses _ _ c.as_slice.result.now left right whole None c.in-Ok-judge.ensures.refuses)

pub step_of-requires-clause-told : goal.step_of-requires-clause-told
step_of-requires-clause-told c =
    let bytes = c.args.bytes.now in
    let l = c.in-Ok.ensures in
    let left = ap (λ n. loaded_meaning n.table n.rule) c.left.ensures ∙ l.loads.left in
    let right = ap (λ n. loaded_meaning n.table n.rule) c.right.ensures ∙ l.loads.right in
    let items : c.unwrap-pairs.result.items ≡ relation_of bytes = search rules in
    c.in-Err-judge.ensures.refuses ∙ ap (λ x. first_no (judge_asked x)) (read_is bytes l.refuses _ _ c.as_slice.result.now left right (c.as_slice.ensures.value ∙ items))

pub returns-in-Err-judge-clause-answers : goal.returns-in-Err-judge-clause-answers
returns-in-Err-judge-clause-answers c =
    let bytes = c.args.bytes.now in
    let l = c.in-Ok.ensures in
    let left = ap (λ n. loaded_meaning n.table n.rule) c.left.ensures ∙ l.loads.left in
    let right = ap (λ n. loaded_meaning n.table n.rule) c.right.ensures ∙ l.loads.right in
    let items : c.unwrap-pairs.result.items ≡ relation_of bytes = search rules in
    ap (answer_by (pair_count bytes)) (judge_then bytes l.refuses _ _ c.as_slice.result.now left right (c.as_slice.ensures.value ∙ items) _ c.in-Err-judge.ensures.refuses)
