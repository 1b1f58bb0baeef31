-- The rule of links: every link is met.
use Rattle.std.specs.Prelude.{ℕ, Bool, List, slice_set}
use Rattle.lists.specs.Words.{Stands, every, records, gathered}
use Rattle.questions.specs.Asking.{Question}
use Rattle.questions.specs.declared.Refusal.{Refusal}
use Rattle.tables.specs.Table.{table_asked}
use Rattle.model.specs.declared.group_set.GroupSet.{GroupSet}
use Rattle.rules.specs.declared.link.Link.{Link}
use Rattle.rules.specs.declared.links.Links.{Links}
use Rattle.rules.specs.LinkRecords.{link_of, met, Met, met_of}

abbrev pub meets : List Link → List GroupSet → Bool
meets links sets = every (met sets) links

-- the subject's words for it
abbrev pub Meets : List Link → List GroupSet → Type 0
Meets links sets = (k : ℕ) (l : Link) → Stands links l k → Met sets l

-- what a rule of links allows
abbrev pub links_allow : Links → List GroupSet → Bool
links_allow x = meets x.links.items

-- every link that concerns the unit is met
abbrev pub meets_of : ℕ → List Link → List GroupSet → Bool
meets_of unit links sets = every (met_of unit sets) links

-- the links that concern the unit are met with it on the set
abbrev pub links_allow_change : Links → List GroupSet → ℕ → GroupSet → Bool
links_allow_change x sets unit set = meets_of unit x.links.items (slice_set sets unit set)

-- 2: whole records of three bytes, and at most 16? 3: is each as laid out?
abbrev pub links_asked : List ℕ → List (Question Refusal)
links_asked bytes = table_asked 2 3 3 16 link_of bytes

-- the links in the bytes
abbrev pub links_of : List ℕ → List Link
links_of bytes = gathered link_of (records 3 bytes)
