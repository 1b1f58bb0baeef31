use Rattle.std.proofs.Common.{◌≡◌, Some, None, refl, ap, ◌∙◌, rules, arith}
use Rattle.std.proofs.lemmas.Result.{err_from_is_err_and}
use Rattle.job.specs.Faults.{job_refusal}
use Rattle.job.proofs.Layouts.{frames_refused, left_refused, right_asked}
use Rattle.job.proofs.job.Job.load.Goals as goal

pub returns-in_err-check-clause-refuses : goal.returns-in_err-check-clause-refuses
returns-in_err-check-clause-refuses c =
    let y = err_from_is_err_and c.from_residual.result c.from_residual.ensures.1 in
    let e = ap job_refusal y.2 in
    rw (y.1, e) (frames_refused c.args.bytes.now _ refl c.in_err-check.ensures.refuses)

pub returns-in_err-left-clause-refuses : goal.returns-in_err-left-clause-refuses
returns-in_err-left-clause-refuses c =
    let y = err_from_is_err_and c.from_residual-in_err-left.result c.from_residual-in_err-left.ensures.1 in
    let e = ap job_refusal y.2 in
    rw (y.1, e) (left_refused c.args.bytes.now _ c.in_ok-check.ensures.refuses refl c.in_err-left.ensures.refuses)

pub returns-in_err-right-clause-refuses : goal.returns-in_err-right-clause-refuses
returns-in_err-right-clause-refuses c =
    let y = err_from_is_err_and c.from_residual-in_err-right.result c.from_residual-in_err-right.ensures.1 in
    let e = ap job_refusal y.2 in
    rw (y.1, e) (right_asked c.args.bytes.now _ c.in_ok-check.ensures.refuses c.in_ok-left.ensures.refuses c.in_err-right.ensures.refuses)

pub returns-clause-refuses : goal.returns-clause-refuses
returns-clause-refuses c = right_asked c.args.bytes.now None c.in_ok-check.ensures.refuses c.in_ok-left.ensures.refuses c.in_ok-right.ensures.refuses
