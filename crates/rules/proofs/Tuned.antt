-- How many groups the units of a placement sit on. Assumes nothing.
use Rattle.std.proofs.Common.{ℕ, ◌≤◌, List, Decides}
use Rattle.std.proofs.lemmas.Bool.{leb-true, le-leb}
use Rattle.lists.proofs.Every.{decides_every}
use Rattle.model.specs.declared.group_set.GroupSet.{GroupSet}
use Rattle.model.specs.GroupSets.{group_count}
use Rattle.rules.specs.Tuners.{few_groups, tuned_to, Tuned}

pub decides_tuned : (limit : ℕ) (sets : List GroupSet) → Decides (tuned_to limit sets) (Tuned limit sets)
decides_tuned limit sets = decides_every (λ _. few_groups limit) (λ _ set. group_count set ≤ limit) (λ _ set. (leb-true (group_count set) limit, le-leb (group_count set) limit)) sets
