use Rattle.std.proofs.Common.{refl, ap, ◌∙◌}
use Rattle.std.proofs.lemmas.Result.{err_from_is_err_and}
use Rattle.job.specs.Faults.{job_refusal}
use Rattle.job.proofs.Judging.{layouts_first, judge_then, judge_counted}
use Rattle.job.proofs.outcome.judged.Goals as goal

pub returns-in_err-job-clause-refuses : goal.returns-in_err-job-clause-refuses
returns-in_err-job-clause-refuses c =
    let y = err_from_is_err_and c.from_residual.result c.from_residual.ensures.1 in
    let e = ap job_refusal y.2 in
    rw (y.1, e) (layouts_first c.args.bytes.now _ c.in_err-job.ensures.refuses)

pub returns-in_err-judge_pairs-clause-refuses : goal.returns-in_err-judge_pairs-clause-refuses
returns-in_err-judge_pairs-clause-refuses c =
    let y = err_from_is_err_and c.from_residual-in_err-judge_pairs.result c.from_residual-in_err-judge_pairs.ensures.1 in
    let e = ap job_refusal y.2 in
    let l = c.in_ok-job.ensures in
    rw (y.1, e) (judge_then c.args.bytes.now l.refuses _ _ _ l.loads.left l.loads.right refl _ c.in_err-judge_pairs.ensures.refuses)

pub returns : goal.returns
returns c =
    let l = c.in_ok-job.ensures in
    let t = c.in_ok-judge_pairs.ensures in
    let bytes = c.args.bytes.now in
    record {
      refuses = judge_then bytes l.refuses _ _ _ l.loads.left l.loads.right refl _ t.refuses;
      counts = judge_counted bytes l.refuses _ _ _ l.loads.left l.loads.right refl _ t.counts;
    }
