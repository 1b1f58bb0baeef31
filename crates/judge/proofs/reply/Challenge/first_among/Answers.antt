use Rattle.std.proofs.Common.{rules}
use Rattle.std.proofs.lemmas.Bool.{false≢true}
use Rattle.judge.specs.Comparing.{meant}
use Rattle.judge.specs.Likeness.{Reply}
use Rattle.judge.proofs.Finding.{first_found}
use Rattle.judge.proofs.reply.Challenge.first_among.Goals as goal

pub returns : goal.returns
returns g c =
    let own = c.args.self.now in
    let x = meant g.L.System.means g.R.System.means own.between.now.comparison.now in
    first_found _ (Reply x own.side own.pair.now own.step) (λ k q h. search rules) (λ k q h. search (rules, false≢true)) c.args.count _ c.find.result c.find.ensures.ran
