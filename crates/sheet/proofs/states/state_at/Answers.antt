use Rattle.std.proofs.Common.{rules, ap, ◌∙◌}
use Rattle.std.proofs.lemmas.List.FromFn.{fill_by_all}
use Rattle.model.specs.Bytes.{zero_unit}
use Rattle.sheet.proofs.Bytes.{numbered_unit, lawful_at, number_at}
use Rattle.sheet.specs.States.{sheet_lawful, number_of}
use Rattle.sheet.proofs.states.state_at.Goals as goal

pub returns : goal.returns
returns c =
    let us = c.default-state.result.units in
    let z = fill_by_all (λ _. zero_unit) us 6 zero_unit c.default-state.ensures.long (λ k h. let p = c.default-state.ensures.at k zero_unit h in search rules) in
    let is = numbered_unit us c.args.number z in
    record { is = is; lawful = ap sheet_lawful is ∙ lawful_at c.args.number; number = ap number_of is ∙ number_at c.args.number }
