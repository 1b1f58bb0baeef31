use Rattle.std.proofs.Common.{List, ap, rules}
use Rattle.std.proofs.lemmas.Int.{to_z-of_z}
use Rattle.lists.proofs.Filled.{filled}
use Rattle.model.specs.Bytes.{zero_unit}
use Rattle.model.specs.declared.state.State.{State}
use Rattle.model.specs.declared.unit_state.UnitState.{UnitState}
use Rattle.ways.specs.Nets.{net_of}
use Rattle.ways.specs.Landings.{slot_after}
use Rattle.ways.proofs.table.Table.acted.Goals as goal

abbrev of_units : List UnitState → State
of_units us = record { units = us }

pub returns : goal.returns
returns c = ap of_units (filled _ _ (slot_after (net_of c.args.self.now) c.args.state.now c.args.unit c.args.row c.args.choices.now c.args.value) zero_unit c.from_fn.result 6 (λ j y q h k. search (rules, to_z-of_z)) c.from_fn.ensures.items)
