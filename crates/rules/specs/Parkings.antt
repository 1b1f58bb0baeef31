-- The parking rule: every unit's set is recorded for that unit.
use Rattle.std.specs.Prelude.{ℕ, Bool, false, ◌&&◌, ◌||◌, List, [], ◌∷◌, ◌==◌}
use Rattle.lists.specs.Words.{Stands, every_from, records, gathered}
use Rattle.questions.specs.Asking.{Question}
use Rattle.questions.specs.declared.Refusal.{Refusal}
use Rattle.tables.specs.Table.{table_asked}
use Rattle.model.specs.declared.group_set.GroupSet.{GroupSet}
use Rattle.rules.specs.declared.parking.Parking.{Parking}
use Rattle.rules.specs.declared.place.Place.{Place}
use Rattle.rules.specs.Places.{place_of}

-- the set is recorded for the unit
abbrev pub recorded : List Place → ℕ → GroupSet → Bool
recorded [] unit set = false
recorded (p ∷ ps) unit set = (p.unit == unit && p.set.bits == set.bits) || recorded ps unit set

abbrev pub parks : List Place → List GroupSet → Bool
parks places sets = every_from (recorded places) 0 sets

-- the subject's words for it: for each unit some record has that unit and its set
abbrev pub Parked : List Place → List GroupSet → Type 0
Parked places sets = (unit : ℕ) (set : GroupSet) → Stands sets set unit → (k : ℕ) × Stands places (record { unit = unit; set = set }) k

-- what a parking rule allows
abbrev pub parking_allows : Parking → List GroupSet → Bool
parking_allows x = parks x.places.items

-- the set is recorded for the unit, whatever the placement
abbrev pub parking_allows_change : Parking → List GroupSet → ℕ → GroupSet → Bool
parking_allows_change x sets unit set = recorded x.places.items unit set

-- 2: whole records of two bytes, and at most 48? 3: is each as laid out?
abbrev pub parking_asked : List ℕ → List (Question Refusal)
parking_asked bytes = table_asked 2 3 2 48 place_of bytes

-- the records in the bytes
abbrev pub places_of : List ℕ → List Place
places_of bytes = gathered place_of (records 2 bytes)
