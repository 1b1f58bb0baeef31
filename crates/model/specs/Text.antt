-- How group sets, unit states and labels are written for a person.
use Rattle.std.specs.Prelude.{ℕ, List, ◌++◌, codes}
use Rattle.std.specs.Fmt.{decimal, signed_decimal}
use Rattle.std.specs.List.{join_by}
use Rattle.model.specs.GroupSets.{groups_of}
use Rattle.model.specs.declared.group_set.GroupSet.{GroupSet}
use Rattle.model.specs.declared.unit_state.UnitState.{UnitState}
use Rattle.model.specs.declared.label.Label.{Label}
use Rattle.model.specs.declared.label.Label.TheVariants.{Silent, Movement, Broadcast, Receive}

-- numbers with commas between them
abbrev pub listed : List ℕ → List ℕ
listed numbers = join_by decimal (codes ", ") numbers

-- the groups in order, as {0, 3}
abbrev pub set_text : GroupSet → List ℕ
set_text s = codes "{" ++ listed (groups_of s) ++ codes "}"

-- location, first register, second register and groups, as (2, -2, 0, {0})
abbrev pub unit_text : UnitState → List ℕ
unit_text u = codes "(" ++ decimal u.location ++ codes ", " ++ signed_decimal u.first ++ codes ", " ++ signed_decimal u.second ++ codes ", " ++ set_text u.groups ++ codes ")"

abbrev pub label_text : Label → List ℕ
label_text Silent = codes "silent"
label_text Movement = codes "movement"
label_text (Broadcast g v) = codes "broadcast " ++ set_text g ++ codes " " ++ signed_decimal v
label_text (Receive g) = codes "receive " ++ set_text g
