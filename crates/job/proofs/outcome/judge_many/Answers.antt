use Rattle.std.proofs.Common.{◌≡◌, List, ◌∙◌, subst, rules}
use Rattle.frames.specs.Payloads.{relation_of}
use Rattle.judge.specs.Comparing.{comparing}
use Rattle.judge.specs.Judged.{Judged}
use Rattle.model.specs.declared.state.Pair.{Pair}
use Rattle.job.specs.Sides.{loaded_meaning}
use Rattle.job.proofs.outcome.judge_many.Goals as goal

pub returns : goal.returns
returns c =
    let j = c.args.job.now in
    let P : List Pair → Type 0 = λ ps. Judged (comparing (loaded_meaning j.left.table j.left.rule) (loaded_meaning j.right.table j.right.rule) ps) c.judge.result in
    let items : c.unwrap-pairs.result.items ≡ relation_of c.args.bytes.now = search rules in
    subst P (c.as_slice.ensures.value ∙ items) c.judge.ensures
