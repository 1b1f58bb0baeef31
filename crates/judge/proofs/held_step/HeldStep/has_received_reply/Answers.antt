use Rattle.std.proofs.Common.{rules}
use Rattle.std.proofs.lemmas.Bool.{false≢true}
use Rattle.judge.specs.Comparing.{meant}
use Rattle.judge.specs.Likeness.{Reply}
use Rattle.judge.proofs.Finding.{first_found}
use Rattle.judge.proofs.Listed.{answered_below}
use Rattle.judge.proofs.held_step.HeldStep.has_received_reply.Goals as goal

pub returns : goal.returns
returns g c =
    let own = c.args.self.now in
    let held = own.held.now in
    let x = meant g.L.System.means g.R.System.means held.between.now.comparison.now in
    answered_below x own.side held.pair.now own.step c.count.result c.find.result c.is_some.result (rw c.opposite.ensures at c.count.ensures)
    (first_found _ (Reply x own.side held.pair.now own.step) (λ k q h. search (rules, false≢true)) (λ k q h. search (rules, false≢true)) c.count.result _ c.find.result c.find.ensures.ran)
    c.is_some.ensures
