-- Sets of the groups 0 to 7, each in one byte.
use Rattle.std.specs.Prelude.{ℕ, ◌/◌, ◌%◌, ◌^◌, Bool, not, List, filter, ◌==◌, bit_and, bit_or, count_ones}
use Rattle.std.specs.List.{range_with_len}
use Rattle.model.specs.declared.group_set.GroupSet.{GroupSet}

-- the group g is in the set: the bit of weight 2^g is one
abbrev pub has : GroupSet → ℕ → Bool
has s g = s.bits / 2 ^ g % 2 == 1

abbrev pub no_groups : GroupSet
no_groups = record { bits = 0 }

-- the groups of a set, in order
unfoldable pub groups_of : GroupSet → List ℕ
groups_of s = filter (has s) (range_with_len 0 8)

-- two sets share a group
abbrev pub linked : GroupSet → GroupSet → Bool
linked s t = not (bit_and s.bits t.bits == 0)

-- the part of the set s within the set f
abbrev pub part : GroupSet → GroupSet → GroupSet
part f s = record { bits = bit_and s.bits f.bits }

abbrev pub union_of : GroupSet → GroupSet → GroupSet
union_of s t = record { bits = bit_or s.bits t.bits }

abbrev pub empty : GroupSet → Bool
empty s = s.bits == 0

abbrev pub group_count : GroupSet → ℕ
group_count s = count_ones s.bits
