use Rattle.std.proofs.Common.{ap, ◌∙◌}
use Rattle.questions.specs.declared.Side.TheVariants.{Left, Right}
use Rattle.frames.specs.declared.setting.Setting.{Setting}
use Rattle.job.specs.Jobs.{compared_in}
use Rattle.job.specs.Sides.{loaded_meaning}
use Rattle.words.proofs.Located.{left_located, right_located}
use Rattle.words.proofs.Showing.{pair_within, step_within, shown}
use Rattle.words.proofs.explain.step_of.Goals as goal

pub pair_at-both-requires : goal.pair_at-both-requires
pair_at-both-requires c =
    let h = left_located (compared_in c.args.bytes.now) c.in-LeftStep.pair c.in-LeftStep.step (rw c.in-LeftStep.is at c.requires.told) in
    pair_within c.args.bytes.now c.args.pairs.now c.requires.pairs Left (loaded_meaning c.args.job.now.left.table c.args.job.now.left.rule) c.requires.loaded.left c.in-LeftStep.pair c.in-LeftStep.step h

pub step_on-requires : goal.step_on-requires
step_on-requires c =
    let h = left_located (compared_in c.args.bytes.now) c.in-LeftStep.pair c.in-LeftStep.step (rw c.in-LeftStep.is at c.requires.told) in
    step_within c.args.bytes.now c.args.pairs.now c.requires.pairs Left (loaded_meaning c.left.result.now.table c.left.result.now.rule) (ap (λ n. loaded_meaning n.table n.rule) c.left.ensures ∙ c.requires.loaded.left) c.in-LeftStep.pair c.in-LeftStep.step h c.pair_at-both.result c.pair_at-both.ensures

pub returns-in-LeftStep : goal.returns-in-LeftStep
returns-in-LeftStep c =
    let h = left_located (compared_in c.args.bytes.now) c.in-LeftStep.pair c.in-LeftStep.step (rw c.in-LeftStep.is at c.requires.told) in
    let units = c.step_on.ensures.units ∙ ap (λ (t : Setting). t.units) c.setting-units.ensures in
    rw c.in-LeftStep.is (shown c.args.bytes.now c.args.pairs.now c.requires.pairs Left (loaded_meaning c.left.result.now.table c.left.result.now.rule) (ap (λ n. loaded_meaning n.table n.rule) c.left.ensures ∙ c.requires.loaded.left) c.in-LeftStep.pair c.in-LeftStep.step h c.pair_at-both.result c.pair_at-both.ensures c.step_on.result c.step_on.ensures.step units)

pub pair_at-both-requires-in-RightStep : goal.pair_at-both-requires-in-RightStep
pair_at-both-requires-in-RightStep c =
    let h = right_located (compared_in c.args.bytes.now) c.in-RightStep.pair c.in-RightStep.step (rw c.in-RightStep.is at c.requires.told) in
    pair_within c.args.bytes.now c.args.pairs.now c.requires.pairs Right (loaded_meaning c.args.job.now.right.table c.args.job.now.right.rule) c.requires.loaded.right c.in-RightStep.pair c.in-RightStep.step h

pub step_on-requires-in-RightStep : goal.step_on-requires-in-RightStep
step_on-requires-in-RightStep c =
    let h = right_located (compared_in c.args.bytes.now) c.in-RightStep.pair c.in-RightStep.step (rw c.in-RightStep.is at c.requires.told) in
    step_within c.args.bytes.now c.args.pairs.now c.requires.pairs Right (loaded_meaning c.right.result.now.table c.right.result.now.rule) (ap (λ n. loaded_meaning n.table n.rule) c.right.ensures ∙ c.requires.loaded.right) c.in-RightStep.pair c.in-RightStep.step h c.pair_at-both-in-RightStep.result c.pair_at-both-in-RightStep.ensures

pub returns-in-RightStep : goal.returns-in-RightStep
returns-in-RightStep c =
    let h = right_located (compared_in c.args.bytes.now) c.in-RightStep.pair c.in-RightStep.step (rw c.in-RightStep.is at c.requires.told) in
    let units = c.step_on-in-RightStep.ensures.units ∙ ap (λ (t : Setting). t.units) c.setting-units-in-RightStep.ensures in
    rw c.in-RightStep.is (shown c.args.bytes.now c.args.pairs.now c.requires.pairs Right (loaded_meaning c.right.result.now.table c.right.result.now.rule) (ap (λ n. loaded_meaning n.table n.rule) c.right.ensures ∙ c.requires.loaded.right) c.in-RightStep.pair c.in-RightStep.step h c.pair_at-both-in-RightStep.result c.pair_at-both-in-RightStep.ensures c.step_on-in-RightStep.result c.step_on-in-RightStep.ensures.step units)
