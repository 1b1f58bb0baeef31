-- What the records of a job's input hold: the settings, the rows and links of each side, and the pairs.
use Rattle.std.specs.Prelude.{ℕ, ◌+◌, Bool, ◌&&◌, List, map, filter, take, drop, ◌==◌, slice_index}
use Rattle.std.specs.List.{flat_map}
use Rattle.lists.specs.Words.{records}
use Rattle.questions.specs.Sides.{side_byte}
use Rattle.questions.specs.declared.Side.{Side}
use Rattle.questions.specs.declared.Side.TheVariants.{Left, Right}
use Rattle.model.specs.Values.{value_of}
use Rattle.model.specs.Bytes.{pair_of}
use Rattle.model.specs.declared.state.Pair as Model
use Rattle.frames.specs.declared.setting.Setting.{Setting}
use Rattle.frames.specs.declared.kind.Kind.{Kind}
use Rattle.frames.specs.declared.kind.Kind.TheVariants.{Pair}
use Rattle.frames.specs.Kinds.{kind_byte, width_of}

-- has the record this kind and side?
abbrev pub of_kind : Kind → Side → List ℕ → Bool
of_kind kind side r = slice_index r 0 == kind_byte kind && slice_index r 1 == side_byte side

-- a side's records of a kind, in the order of the input
abbrev pub records_of : Kind → Side → List ℕ → List (List ℕ)
records_of kind side bytes = filter (of_kind kind side) (records 64 bytes)

-- the payload of a record of this kind
abbrev pub payload_of : Kind → List ℕ → List ℕ
payload_of kind r = take (width_of kind) (drop 2 r)

-- the payloads of a side's records of a kind, one after the other
unfoldable pub side_bytes : Kind → Side → List ℕ → List ℕ
side_bytes kind side bytes = flat_map (payload_of kind) (records_of kind side bytes)

-- the pairs
unfoldable pub relation_of : List ℕ → List Model.Pair
relation_of bytes = map (λ r. pair_of (payload_of Pair r)) (records_of Pair Left bytes)

-- the setting in the record that begins at the byte i
abbrev pub setting_at : ℕ → List ℕ → Setting
setting_at i b = record { lo = value_of (slice_index b (i + 2)); hi = value_of (slice_index b (i + 3)); free = record { bits = slice_index b (i + 4) }; units = slice_index b (i + 5); limit = slice_index b (i + 6) }

-- the setting of a side: record 0 or 1
abbrev pub setting_of : Side → List ℕ → Setting
setting_of Left bytes = setting_at 0 bytes
setting_of Right bytes = setting_at 64 bytes
