use Rattle.std.proofs.Common.{Some, ap, ◌∙◌}
use Rattle.judge.proofs.index.is_record.Goals as goal

pub returns-in-Some : goal.returns-in-Some
returns-in-Some c =
    λ yes. (c.args.number, c.in-Some.ensures ∙ ap Some (c.is_pair.ensures.0 yes))
