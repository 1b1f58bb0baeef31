-- Listed steps made from others.
use Rattle.std.specs.Prelude.{ℕ, set}
use Rattle.lists.specs.Words.{through}
use Rattle.model.specs.declared.state.State.{State}
use Rattle.model.specs.declared.unit_state.UnitState.{UnitState}
use Rattle.systems.specs.declared.listed.Listed.{Listed}

-- the state with the unit x in the slot j
abbrev pub put : ℕ → UnitState → State → State
put j x s = record { units = set s.units j x }

-- the step that lands with the unit x in the slot j, and is else the one given
abbrev pub placing : ℕ → UnitState → Listed → Listed
placing j x l = record { label = l.label; landing = through (put j x) l.landing }
