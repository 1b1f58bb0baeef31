use Rattle.std.proofs.Common.{ap, length, rules}
use Rattle.std.proofs.lemmas.Bool.{false≢true}
use Rattle.judge.specs.Comparing.{meant}
use Rattle.judge.specs.Likeness.{SeenAt}
use Rattle.judge.proofs.Finding.{first_found}
use Rattle.judge.proofs.Seen.{seen_answered}
use Rattle.judge.proofs.held_step.HeldStep.has_seen_reply.Goals as goal

pub returns : goal.returns
returns g c =
    let own = c.args.self.now in
    let held = own.held.now in
    let between = held.between.now in
    let comparison = between.comparison.now in
    let x = meant g.L.System.means g.R.System.means comparison in
    seen_answered x own.side held.pair.now held.lowest own.step own.listed.now between.one_range (g.met.L.System.keeps comparison.left.now) (g.met.R.System.keeps comparison.right.now) held.low own.at c.requires
    (length c.relation.result.now) c.find.result c.is_some.result (ap length c.relation.ensures)
    (first_found _ (SeenAt x own.side held.pair.now held.lowest own.listed.now) (λ k q h. search (rules, false≢true)) (λ k q h. search (rules, false≢true)) (length c.relation.result.now) _ c.find.result c.find.ensures.ran)
    c.is_some.ensures
