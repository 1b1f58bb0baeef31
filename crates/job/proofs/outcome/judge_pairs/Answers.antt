use Rattle.std.proofs.Common.{Result, List, sym, ◌∙◌, subst}
use Rattle.judge.specs.Comparing.{comparing}
use Rattle.judge.specs.Judged.{Judged}
use Rattle.model.specs.declared.state.Pair.{Pair}
use Rattle.job.specs.Sides.{loaded_meaning}
use Rattle.job.proofs.outcome.judge_pairs.Goals as goal

pub returns-in-Some : goal.returns-in-Some
returns-in-Some c =
    let j = c.args.job.now in
    let P : List Pair → Type 0 = λ ps. Judged (comparing (loaded_meaning j.left.table j.left.rule) (loaded_meaning j.right.table j.right.rule) ps) c.judge.result in
    subst P (c.as_slice.ensures.value ∙ c.in-Some.ensures) c.judge.ensures
