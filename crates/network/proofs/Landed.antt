-- The landings of a step, from the way that it comes about by. Assumes nothing.
use Rattle.std.proofs.Common.{◌≡◌, ℕ, Bool, true, false, cond, List, ℤ, None, Option, sym, ap, ◌∙◌}
use Rattle.std.specs.List.{slice_get}
use Rattle.lists.specs.Words.{through}
use Rattle.lists.proofs.Mapped.{mapped_through}
use Rattle.model.specs.Ranges.{in_range}
use Rattle.model.specs.declared.group_set.GroupSet.{GroupSet}
use Rattle.model.specs.declared.state.State.{State}
use Rattle.systems.specs.Meaning.{landing_at}
use Rattle.ways.specs.declared.way.Way.{Way}
use Rattle.ways.specs.Nets.{Net}
use Rattle.ways.specs.Landings.{landing_of, step_of}
use Rattle.network.specs.Meanings.{lawful_ways, network_meaning}

-- where the way lands at the value v, if there is a way and v is in range
abbrev pub landed_by : Net → State → Option Way → ℤ → Option State
landed_by n s w v = cond (in_range n.lo n.hi v) (through (λ x. landing_of n s x v) w) None

pub landed : (n : Net) (allowed : List GroupSet → Bool) (s : State) (i : ℕ) (v : ℤ) (w : Option Way) → w ≡ slice_get (lawful_ways n allowed s) i → landed_by n s w v ≡ landing_at (network_meaning n allowed) s i v
landed n allowed s i v w e =
    ap (λ o. landed_by n s o v) e
    ∙ ap (λ o. cond (in_range n.lo n.hi v) o None) (mapped_through (step_of n s) (λ x. x.landing v) (lawful_ways n allowed s) i)

-- whether a value is in range, as it is asked of a range that is handed out
pub tested : (b d : Bool) (l h lo hi v' v : ℤ) → b ≡ d → b ≡ in_range l h v' → l ≡ lo → h ≡ hi → v' ≡ v → d ≡ in_range lo hi v
tested b d l h lo hi v' v e is low high same =
    sym e ∙ is ∙ ap (λ x. in_range x h v') low ∙ ap (λ x. in_range lo x v') high ∙ ap (in_range lo hi) same

-- a value out of range, and one in it
pub land_out : (b : Bool) (o : Option State) → false ≡ b → None ≡ cond b o None
land_out b o e = ap (λ c. cond c o None) e

pub land_in : (b : Bool) (o r : Option State) → true ≡ b → r ≡ o → r ≡ cond b o None
land_in b o r e is = is ∙ ap (λ c. cond c o None) e
