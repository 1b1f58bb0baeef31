use Rattle.std.proofs.Common.{◌≡◌, refl, rules}
use Rattle.std.proofs.lemmas.Option.{slice_get-get_or}
use Rattle.std.proofs.lemmas.Result.{err_from_is_err_and}
use Rattle.judge.specs.Comparing.{comparing, meant}
use Rattle.judge.proofs.Exactly.{pair_refused, pair_passed, all_passed}
use Rattle.judge.proofs.verdict.judge.Goals as goal

pub returns-in_err-judge_record : goal.returns-in_err-judge_record
returns-in_err-judge_record g c =
    let x = comparing (g.L.System.means c.args.left.now) (g.R.System.means c.args.right.now) c.args.relation.now in
    let own = meant g.L.System.means g.R.System.means c.in_ok-aligned.aligned.comparison.now in
    let same : own ≡ x = search rules in
    let r = c.from_residual-in_err-judge_record in
    let e = err_from_is_err_and r.result r.ensures.1 in
    pair_refused x own same c.loop-k.k _ (slice_get-get_or c.args.relation.now c.loop-k.k _ c.loop-k-test.true) c.loop-k.invariant r.result c.in_err-judge_record.field-0.0 (rw e.2 at e.1) c.in_err-judge_record.ensures

pub loop-k-preserved : goal.loop-k-preserved
loop-k-preserved g c =
    let x = comparing (g.L.System.means c.args.left.now) (g.R.System.means c.args.right.now) c.args.relation.now in
    let own = meant g.L.System.means g.R.System.means c.in_ok-aligned.aligned.comparison.now in
    let same : own ≡ x = search rules in
    pair_passed x own same c.loop-k.k _ (slice_get-get_or c.args.relation.now c.loop-k.k _ c.loop-k-test.true) c.loop-k.invariant c.in_ok-judge_record.ensures

pub returns : goal.returns
returns g c =
    let x = comparing (g.L.System.means c.args.left.now) (g.R.System.means c.args.right.now) c.args.relation.now in
    all_passed x c.loop-k.k _ c.loop-k-test.false c.loop-k.invariant refl
