-- The tuner: no unit sits on more groups than the limit.
use Rattle.std.specs.Prelude.{ℕ, ◌≤◌, Bool, leb, List, nat_le}
use Rattle.lists.specs.Words.{Stands, every}
use Rattle.questions.specs.Asking.{Question, ask, refuse}
use Rattle.questions.specs.declared.Refusal.{Refusal}
use Rattle.model.specs.GroupSets.{group_count}
use Rattle.model.specs.declared.group_set.GroupSet.{GroupSet}

-- the set has no more groups than the limit
abbrev pub few_groups : ℕ → GroupSet → Bool
few_groups limit set = leb (group_count set) limit

abbrev pub tuned_to : ℕ → List GroupSet → Bool
tuned_to limit sets = every (few_groups limit) sets

-- the subject's words for it: no unit sits on more groups than the limit
abbrev pub Tuned : ℕ → List GroupSet → Type 0
Tuned limit sets = (unit : ℕ) (set : GroupSet) → Stands sets set unit → group_count set ≤ limit

-- 4: is the limit at most 8?
abbrev pub tuner_asked : ℕ → List (Question Refusal)
tuner_asked limit = ask (refuse 4) (nat_le limit 8)
