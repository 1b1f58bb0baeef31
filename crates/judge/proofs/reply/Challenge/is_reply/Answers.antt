use Rattle.std.proofs.Common.{◌≡◌, Some, sym, arith, rules}
use Rattle.std.proofs.lemmas.Int.{ints}
use Rattle.judge.specs.Comparing.{meant}
use Rattle.judge.proofs.Replying.{reply_each, reply_one}
use Rattle.judge.proofs.reply.Challenge.is_reply.Goals as goal

pub returns-then-is_receive : goal.returns-then-is_receive
returns-then-is_receive g c =
    let own = c.args.self.now in
    let between = own.between.now in
    let given : c.label.result ≡ Some own.label = search rules in
    reply_each (meant g.L.System.means g.R.System.means between.comparison.now) own.side c.opposite.result own.pair.now own.step c.args.reply own.label _
    between.one_range c.opposite.ensures own.labeled (sym (rw given at c.label.ensures)) c.lands_at_each.ensures

pub returns-else-is_receive : goal.returns-else-is_receive
returns-else-is_receive g c =
    let own = c.args.self.now in
    let between = own.between.now in
    let comparison = between.comparison.now in
    let given : c.label.result ≡ Some own.label = search rules in
    reply_one (meant g.L.System.means g.R.System.means comparison) own.side c.opposite.result own.pair.now own.step c.args.reply own.label _ _
    between.one_range (g.met.L.System.keeps comparison.left.now) (g.met.R.System.keeps comparison.right.now) c.opposite.ensures own.labeled (sym (rw given at c.label.ensures))
    (sym c.if-is_receive.ensures) (omega (arith, ints)) c.lands_at.ensures
