use Rattle.std.proofs.Common.{rules, w8, FitsSigned}
use Rattle.std.proofs.lemmas.Int.{to_z-of_z}
use Rattle.judge.specs.Comparing.{meant}
use Rattle.rehearsal.proofs.Making.{keeps_challenge_err, keeps_reply_ok, keeps_reply_err, keeps_settle_ok, keeps_settle_err}
use Rattle.rehearsal.proofs.playing.Play.make.Goals as goal

pub returns-in-Err : goal.returns-in-Err
returns-in-Err g c bis =
    let x = meant g.L.System.means g.R.System.means c.args.comparison.now in
    keeps_challenge_err x bis _ _ _ c.in-Level-Challenge.play c.in-Level-Challenge.side c.in-Level-Challenge.step c.in-Err.field-0 (search rules) (search rules) (search rules) c.in-Err.ensures

pub returns-in-Ok-reply : goal.returns-in-Ok-reply
returns-in-Ok-reply g c bis =
    let x = meant g.L.System.means g.R.System.means c.args.comparison.now in
    keeps_reply_ok x bis _ _ _ c.in-Challenged-Reply.play c.in-Ok-reply.next (search rules) (search rules) (search rules) c.in-Ok-reply.ensures

pub returns-in-Err-reply : goal.returns-in-Err-reply
returns-in-Err-reply g c bis =
    let x = meant g.L.System.means g.R.System.means c.args.comparison.now in
    keeps_reply_err x bis _ _ _ c.in-Challenged-Reply.play c.in-Err-reply.field-0 (search rules) (search rules) (search rules) c.in-Err-reply.ensures

pub returns-in-Ok-settle : goal.returns-in-Ok-settle
returns-in-Ok-settle g c bis =
    let x = meant g.L.System.means g.R.System.means c.args.comparison.now in
    let v = c.in-Answered-Settle.value in
    let fits : FitsSigned w8 v = search rules in
    keeps_settle_ok x bis _ _ _ (g.met.L.System.keeps c.args.comparison.now.left.now) c.in-Answered-Settle.play v _ (to_z-of_z w8 v fits) (search rules) (search rules) c.in-Ok-settle.next (search rules) c.in-Ok-settle.ensures

pub returns-in-Err-settle : goal.returns-in-Err-settle
returns-in-Err-settle g c bis =
    let x = meant g.L.System.means g.R.System.means c.args.comparison.now in
    let v = c.in-Answered-Settle.value in
    let fits : FitsSigned w8 v = search rules in
    keeps_settle_err x bis _ _ _ (g.met.L.System.keeps c.args.comparison.now.left.now) c.in-Answered-Settle.play v _ (to_z-of_z w8 v fits) (search rules) (search rules) c.in-Err-settle.field-0 (search rules) c.in-Err-settle.ensures
