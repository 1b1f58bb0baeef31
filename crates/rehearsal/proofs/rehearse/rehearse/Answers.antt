use Rattle.std.proofs.Common.{ℕ, refl, sym, subst, arith}
use Rattle.std.proofs.lemmas.Option.{slice_get-get_or}
use Rattle.std.proofs.lemmas.Result.{err_from_is_err_and}
use Rattle.lists.specs.Words.{Stands}
use Rattle.judge.specs.Comparing.{meant}
use Rattle.rehearsal.proofs.Lawful.{not_accepted, not_begun, begun}
use Rattle.rehearsal.proofs.Making.{low_within}
use Rattle.rehearsal.proofs.Rehearsing.{going_start, going_push, going_end}
use Rattle.rehearsal.proofs.rehearse.rehearse.Goals as goal

pub returns-in_err-pass : goal.returns-in_err-pass
returns-in_err-pass g c =
    let x = meant g.L.System.means g.R.System.means c.args.comparison.now in
    let r = c.from_residual in
    let e = err_from_is_err_and r.result r.ensures.1 in
    not_accepted x c.args.pair c.args.attempts.now c.args.attempts.now r.result c.in_err-pass.field-0.0 (rw e.2 at e.1) c.in_err-pass.ensures refl

pub returns-in_err-begin : goal.returns-in_err-begin
returns-in_err-begin g c =
    let x = meant g.L.System.means g.R.System.means c.args.comparison.now in
    let r = c.from_residual-in_err-begin in
    let e = err_from_is_err_and r.result r.ensures.1 in
    not_begun x c.args.pair c.args.attempts.now c.args.attempts.now r.result c.in_ok-pass.pass c.in_ok-pass.ensures c.in_err-begin.field-0.0 (rw e.2 at e.1) c.in_err-begin.ensures refl

pub loop-attempt-init : goal.loop-attempt-init
loop-attempt-init g c p at =
    let x = meant g.L.System.means g.R.System.means c.args.comparison.now in
    going_start x c.args.pair p c.args.attempts.now _ (c.args.pair, at) c.in_ok-begin.ensures.stands (record { in_phase = refl; record_equal = subst (λ (k : ℕ). Stands x.relation p k) (sym c.in_ok-begin.ensures.stands) at })

pub loop-attempt-preserved : goal.loop-attempt-preserved
loop-attempt-preserved g c p at =
    let x = meant g.L.System.means g.R.System.means c.args.comparison.now in
    let bis = c.in_ok-pass.ensures.exactly.0 refl in
    let low = low_within x (g.met.L.System.keeps c.args.comparison.now.left.now) in
    let l = c.loop-attempt in
    let long = l.auto.attempts in
    let test = c.loop-attempt-test.true in
    going_push x bis low c.args.pair _ c.args.attempts.now l.attempts l.attempt-index l.play _ c.make-made.result (slice_get-get_or l.attempts l.attempt-index _ (omega (arith, long, test))) (c.make-made.ensures bis) (l.invariant p at)

pub returns : goal.returns
returns g c =
    let x = meant g.L.System.means g.R.System.means c.args.comparison.now in
    let bis = c.in_ok-pass.ensures.exactly.0 refl in
    let low = low_within x (g.met.L.System.keeps c.args.comparison.now.left.now) in
    let l = c.loop-attempt in
    let long = l.auto.attempts in
    let test = c.loop-attempt-test.false in
    begun x c.args.pair c.args.attempts.now l.attempts _ c.in_ok-pass.pass c.in_ok-pass.ensures c.in_ok-begin.field-0 l.play refl c.in_ok-begin.ensures
    (λ p at. going_end x bis low c.args.pair p (c.args.pair, at) c.args.attempts.now l.attempts l.attempt-index l.play (omega (arith, long, test)) (l.invariant p at))
