use Rattle.std.proofs.Common.{◌<◌, length, rules}
use Rattle.std.proofs.Output.{has_written_append, has_written_of_eq}
use Rattle.model.specs.Bytes.{zero_unit}
use Rattle.words.specs.Texts.{unit_text}
use Rattle.words.proofs.Joined.{numbered_next}
use Rattle.words.proofs.units.UnitLinesDisplay.fmt.Goals as goal

pub loop-number-preserved : goal.loop-number-preserved
loop-number-preserved g c = λ p.
    let within : c.loop-number.number < length c.args.self.now.0.now = search rules in
    has_written_of_eq _ _ _ _ _ (numbered_next unit_text zero_unit c.args.self.now.0.now c.loop-number.number within)
    (has_written_append _ _ _ _ _ _ (c.loop-number.invariant p) (search rules))
