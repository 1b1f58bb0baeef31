-- Placements in which no unit sits on more groups than a limit.
use Rattle.std.specs.Prelude.{ℕ, Bool, List, nat_le}
use Rattle.lists.specs.Words.{every}
use Rattle.model.specs.GroupSets.{group_count}
use Rattle.model.specs.declared.group_set.GroupSet.{GroupSet}

-- the set has no more groups than the limit
abbrev pub few_groups : ℕ → GroupSet → Bool
few_groups limit set = nat_le (group_count set) limit

abbrev pub within : ℕ → List GroupSet → Bool
within limit sets = every (few_groups limit) sets
