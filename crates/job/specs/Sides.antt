-- One side of a job: the questions to its records, and the network that they describe.
use Rattle.std.specs.Prelude.{ℕ, Bool, ◌&&◌, List, ◌++◌}
use Rattle.questions.specs.Asking.{Question, restated}
use Rattle.questions.specs.declared.Refusal.{Refusal}
use Rattle.questions.specs.declared.Side.{Side}
use Rattle.model.specs.Ranges.{range_asked}
use Rattle.model.specs.declared.group_set.GroupSet.{GroupSet}
use Rattle.rules.specs.LinkRules.{meets, links_allow, links_asked, links_of}
use Rattle.rules.specs.Tuners.{tuned_to, tuner_asked}
use Rattle.rules.specs.declared.both.Both.{Both}
use Rattle.rules.specs.declared.links.Links.{Links}
use Rattle.rules.specs.declared.tuner.Tuner.{Tuner}
use Rattle.systems.specs.Meaning.{Meaning}
use Rattle.ways.specs.Nets.{Net, net_of}
use Rattle.ways.specs.declared.table.Table.{Table}
use Rattle.network.specs.Loads.{network_asked, net_in}
use Rattle.network.specs.Meanings.{network_meaning}
use Rattle.frames.specs.Payloads.{side_bytes, setting_of}
use Rattle.frames.specs.declared.kind.Kind.TheVariants.{Row, Link}
use Rattle.frames.specs.declared.setting.Setting.{Setting}
use Rattle.job.specs.Faults.{on_side}

-- the range, the rule (links, then tuner) and the network of a setting and the bytes of links and rows: 1; 2, 3, 4; 5, 6, 7
abbrev pub tables_asked : Setting → List ℕ → List ℕ → List (Question Refusal)
tables_asked t links rows =
    range_asked t.lo t.hi ++ (links_asked links ++ (tuner_asked t.limit ++ network_asked t.lo t.hi t.units rows))

-- the questions to the records of a side, told with the side
abbrev pub side_asked : Side → List ℕ → List (Question Refusal)
side_asked side bytes =
    restated (on_side side) (tables_asked (setting_of side bytes) (side_bytes Link side bytes) (side_bytes Row side bytes))

-- the rule of a side: its links are met, and no unit sits on more groups than its limit
abbrev pub side_allows : Side → List ℕ → List GroupSet → Bool
side_allows side bytes sets = meets (links_of (side_bytes Link side bytes)) sets && tuned_to (setting_of side bytes).limit sets

abbrev pub side_net : Side → List ℕ → Net
side_net side bytes =
    let t = setting_of side bytes in net_in t.lo t.hi t.free t.units (side_bytes Row side bytes)

-- the network that a side's records describe
abbrev pub side_meaning : Side → List ℕ → Meaning
side_meaning side bytes = network_meaning (side_net side bytes) (side_allows side bytes)

-- what a network means under both of links and a tuner
abbrev pub ruled_meaning : Net → Both Links Tuner → Meaning
ruled_meaning net rule = network_meaning net (λ sets. links_allow rule.one sets && tuned_to rule.other.limit sets)

abbrev pub loaded_meaning : Table → Both Links Tuner → Meaning
loaded_meaning table rule = ruled_meaning (net_of table) rule
