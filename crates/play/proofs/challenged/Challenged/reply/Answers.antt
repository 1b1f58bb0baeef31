use Rattle.std.proofs.Common.{refl}
use Rattle.judge.specs.Comparing.{meant}
use Rattle.play.proofs.Facing.{replied, not_replied}
use Rattle.play.proofs.challenged.Challenged.reply.Goals as goal

pub returns-in-Some : goal.returns-in-Some
returns-in-Some g c =
    let x = meant g.L.System.means g.R.System.means c.args.comparison.now in
    replied x c.args.self c.in-Ok.ensures.refuses c.in-Ok.held.pair.now c.in-Ok.held.label c.in-Ok.ensures.stands c.in-Ok.ensures.labeled _ refl refl refl c.in-Some.ensures

pub returns-in-None : goal.returns-in-None
returns-in-None g c =
    let x = meant g.L.System.means g.R.System.means c.args.comparison.now in
    not_replied x c.args.self c.in-Ok.ensures.refuses c.in-Ok.held.pair.now c.in-Ok.held.label c.in-Ok.ensures.stands c.in-Ok.ensures.labeled c.in-None.ensures
