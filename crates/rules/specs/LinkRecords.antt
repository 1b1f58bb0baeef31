-- The bytes of a link record, and when a link is met.
use Rattle.std.specs.Prelude.{◌≡◌, ℕ, Bool, true, false, cond, not, ◌&&◌, ◌||◌, List, length, Some, None, Option, ◌==◌, nat_le, slice_index}
use Rattle.std.specs.List.{slice_get}
use Rattle.lists.specs.Words.{Stands, given}
use Rattle.model.specs.GroupSets.{has, linked}
use Rattle.model.specs.declared.group_set.GroupSet.{GroupSet}
use Rattle.rules.specs.declared.link.LinkKind.{LinkKind}
use Rattle.rules.specs.declared.link.LinkKind.TheVariants.{Joined, Apart}
use Rattle.rules.specs.declared.link.Link.{Link}

-- the kind that a byte stands for: 1 joined, 2 apart
abbrev pub kind_of : ℕ → Option LinkKind
kind_of code = cond (code == 1) (Some Joined) (given (code == 2) Apart)

abbrev pub is_link : List ℕ → Bool
is_link r = length r == 3 && ((slice_index r 0 == 1 || slice_index r 0 == 2) && (nat_le (slice_index r 1) 5 && nat_le (slice_index r 2) 5))

-- kind 1 (joined) or 2 (apart), then two units 0 to 5
abbrev pub link_of : List ℕ → Option Link
link_of r = given (is_link r) (record { kind = cond (slice_index r 0 == 1) Joined Apart; one = slice_index r 1; other = slice_index r 2 })

-- what the kind requires of two units that share a group or share none
abbrev pub requires : LinkKind → Bool → Bool
requires Joined shared = shared
requires Apart shared = not shared

-- both units are there, and share a group or share none as the kind requires
abbrev pub met_by : LinkKind → Option GroupSet → Option GroupSet → Bool
met_by kind None t = false
met_by kind (Some s) None = false
met_by kind (Some s) (Some t) = requires kind (linked s t)

abbrev pub met : List GroupSet → Link → Bool
met sets l = met_by l.kind (slice_get sets l.one) (slice_get sets l.other)

-- the subject's words for it: there is a group on which both are, or there is none
abbrev pub Requires : LinkKind → GroupSet → GroupSet → Type 0
Requires Joined s t = (g : ℕ) × (has s g ≡ true) × (has t g ≡ true)
Requires Apart s t = (g : ℕ) → has s g ≡ true → has t g ≡ true → ⊥

abbrev pub Met : List GroupSet → Link → Type 0
Met sets l = (s : GroupSet) × (t : GroupSet) × Stands sets s l.one × Stands sets t l.other × Requires l.kind s t

-- one of its two units is this one
abbrev pub concerns : ℕ → Link → Bool
concerns unit l = l.one == unit || l.other == unit

-- met, if it concerns the unit
abbrev pub met_of : ℕ → List GroupSet → Link → Bool
met_of unit sets l = not (concerns unit l) || met sets l
