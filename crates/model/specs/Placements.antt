-- Placements: question 5, and the sets of the units.
use Rattle.std.specs.Prelude.{ℕ, ◌&&◌, List, take, nat_le}
use Rattle.questions.specs.Asking.{Question, ask, refuse}
use Rattle.questions.specs.declared.Refusal.{Refusal}
use Rattle.model.specs.declared.group_set.GroupSet.{GroupSet}
use Rattle.model.specs.declared.placement.Placement.{Placement}
use Rattle.model.specs.declared.placement.BadUnitCount.{BadUnitCount}

-- the sets of the units that are there
abbrev pub sets_of : Placement → List GroupSet
sets_of p = take p.units p.slots

-- 5: are there 1 to 6 units?
abbrev pub units_asked : ℕ → List (Question Refusal)
units_asked n = ask (refuse 5) (nat_le 1 n && nat_le n 6)

abbrev pub units_refusal : BadUnitCount → Refusal
units_refusal _ = refuse 5
