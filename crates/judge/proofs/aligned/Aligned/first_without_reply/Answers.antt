use Rattle.std.proofs.Common.{ℕ, ◌<◌, subst, rules}
use Rattle.std.proofs.lemmas.Bool.{false≢true}
use Rattle.judge.specs.Comparing.{meant}
use Rattle.judge.specs.Likeness.{Reply}
use Rattle.judge.proofs.Exactly.{first_unanswered}
use Rattle.judge.proofs.Finding.{first_found}
use Rattle.judge.proofs.aligned.Aligned.first_without_reply.Goals as goal

pub returns : goal.returns
returns g c =
    let own = c.args.self.now in
    let x = meant g.L.System.means g.R.System.means own.comparison.now in
    let side = c.args.side in
    let pair = c.args.pair.now in
    let n = c.step_count-count.result in
    let lacks : ℕ → Type 0 = λ i. (j : ℕ) × ((j < n) × Reply x side pair i j) → ⊥ in
    first_unanswered x own.one_range side pair n (rw c.opposite.ensures at c.step_count-count.ensures) c.step_count.result c.find.result c.step_count.ensures
    (first_found _ lacks (λ k q h. subst lacks h.shows (search (rules, false≢true))) (λ k q h. search (rules, false≢true)) c.step_count.result _ c.find.result c.find.ensures.ran)
