-- What networks mean that are compared, each under a rule of its own kind.
use Rattle.std.specs.Prelude.{◌≡◌, Bool, true, List, length}
use Rattle.model.specs.declared.group_set.GroupSet.{GroupSet}
use Rattle.model.specs.declared.state.State.{State}
use Rattle.systems.specs.Meaning.{Meaning}
use Rattle.ways.specs.Nets.{net_of}
use Rattle.ways.specs.declared.table.Table.{Table}
use Rattle.network.specs.Meanings.{lawful, network_meaning}
use Rattle.calculus.specs.Exactness.{Exact}

-- the network of a table under a rule, which is known by the placements that it allows
abbrev pub ruled : {R : Type 0} → (R → List GroupSet → Bool) → Table → R → Meaning
ruled allowed table rule = network_meaning (net_of table) (allowed rule)

-- from each of its lawful states of six slots, the listed steps are those that the rules of the calculus derive, each once, in
-- order
abbrev pub ExactSteps : {R : Type 0} → (R → List GroupSet → Bool) → Table → R → Type 0
ExactSteps allowed table rule = (s : State) → length s.units ≡ 6 → lawful (net_of table) (allowed rule) s ≡ true → Exact (net_of table) (allowed rule) s
