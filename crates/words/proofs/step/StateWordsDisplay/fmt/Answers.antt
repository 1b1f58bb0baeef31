use Rattle.std.proofs.Common.{◌≡◌, length, min, rules}
use Rattle.std.proofs.Output.{has_written_of_eq}
use Rattle.words.proofs.Joined.{shown_units}
use Rattle.words.proofs.step.StateWordsDisplay.fmt.Goals as goal

pub returns-clause-writes : goal.returns-clause-writes
returns-clause-writes g c = λ p ok.
    let s = c.args.self.now.state in
    let us = c.as_slice-units.result.now in
    let same : us ≡ s.units = search rules in
    let least : c.min-shown.result ≡ min c.args.self.now.units (length us) = search rules in
    has_written_of_eq _ _ _ _ _ (shown_units c.args.self.now.units c.min-shown.result us s same least) (search rules)
