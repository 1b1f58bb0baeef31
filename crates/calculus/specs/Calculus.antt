-- The steps of a network by the rules of the calculus. A fixed order of the units stands for structural congruence, and all
-- groups outside the free set are restricted at once.
use Rattle.std.specs.Prelude.{◌≡◌, ℕ, zero, suc, ◌<◌, Bool, true, false, List, [], ◌∷◌, map, ℤ, ◌≢◌}
use Rattle.lists.specs.Words.{Stands}
use Rattle.model.specs.GroupSets.{linked, part, empty}
use Rattle.model.specs.declared.group_set.GroupSet.{GroupSet}
use Rattle.model.specs.declared.label.Label.{Label}
use Rattle.model.specs.declared.label.Label.TheVariants.{Silent as Hidden, Movement, Broadcast, Receive}
use Rattle.model.specs.declared.state.State.{State}
use Rattle.model.specs.declared.unit_state.UnitState.{UnitState}
use Rattle.rows.specs.Units.{reads, enabled, filled, advanced}
use Rattle.rows.specs.declared.row.Operand.{Operand}
use Rattle.rows.specs.declared.row.Register.{Register}
use Rattle.rows.specs.declared.row.Action.TheVariants.{Silent, Broadcast as Send, Receive as Fill}
use Rattle.rows.specs.declared.row.Row.{Row}
use Rattle.ways.specs.declared.way.Choice.{Choice}
use Rattle.ways.specs.declared.way.Choice.TheVariants.{Stay, Take}
use Rattle.ways.specs.declared.way.Way.{Way}
use Rattle.ways.specs.declared.way.Way.TheVariants.{Move, Act}
use Rattle.ways.specs.Nets.{Net, unit_at, free_part}
use Rattle.ways.specs.Landings.{moved, placed}

-- what a node does: it sends a value on its groups, receives on its groups, or neither
pub data NodeAction : Type 0 where
  out : GroupSet → ℤ → NodeAction
  inp : GroupSet → NodeAction
  tau : NodeAction

abbrev pub NoOutput : NodeAction → Type 0
NoOutput (out G v) = ⊥
NoOutput (inp G) = Unit {0}
NoOutput tau = Unit {0}

-- one node that takes the row r; a value that comes in is named late, so where it lands is a function of the value
pub data Node (x : UnitState) (r : Row) : NodeAction → (ℤ → UnitState) → Type 0 where
  by_tau : enabled x r ≡ true → r.action ≡ Silent → Node x r tau (λ v. advanced x r)
  by_mcast : (o : Operand) → enabled x r ≡ true → r.action ≡ Send o → Node x r (out x.groups (reads x o)) (λ v. advanced x r)
  by_recv : (p : Register) → enabled x r ≡ true → r.action ≡ Fill p → Node x r (inp x.groups) (λ v. advanced (filled x (Fill p) v) r)

-- nodes side by side, from the unit j on, beside one that sends v on the groups G: each stays as it is (PAR), or receives on
-- groups that share one with G (COM)
pub data Beside (n : Net) (G : GroupSet) (v : ℤ) : ℕ → List UnitState → List Choice → List UnitState → Type 0 where
  by_nil : {j : ℕ} → Beside n G v j [] [] []
  by_par : {j : ℕ} {x : UnitState} {xs : List UnitState} {cs : List Choice} {ys : List UnitState} → Beside n G v (suc j) xs cs ys → Beside n G v j (x ∷ xs) (Stay ∷ cs) (x ∷ ys)
  by_com : {j : ℕ} {x : UnitState} {xs : List UnitState} {cs : List Choice} {ys : List UnitState} {G' : GroupSet} {f : ℤ → UnitState} (k : ℕ) (r : Row) → j < n.units → Stands n.rows r k → Node x r (inp G') f → linked G G' ≡ true → Beside n G v (suc j) xs cs ys → Beside n G v j (x ∷ xs) (Take k ∷ cs) (f v ∷ ys)

-- nodes side by side, from the unit j on, where the u-th of them takes the row k and the others do as they choose: it is alone
-- in what it does (ALONE), or it sends beside those that follow it (SEND); each node before it stays (PAR) or receives what is
-- sent (COM)
pub data Parallel (n : Net) : ℕ → List UnitState → NodeAction → ℕ → ℕ → List Choice → (ℤ → List UnitState) → Type 0 where
  by_alone : {j : ℕ} {x : UnitState} {xs : List UnitState} {α : NodeAction} {f : ℤ → UnitState} (k : ℕ) (r : Row) → j < n.units → Stands n.rows r k → Node x r α f → NoOutput α → Parallel n j (x ∷ xs) α zero k (Stay ∷ map (λ _. Stay) xs) (λ v. f v ∷ xs)
  by_send : {j : ℕ} {x : UnitState} {xs : List UnitState} {G : GroupSet} {w : ℤ} {cs : List Choice} {ys : List UnitState} {f : ℤ → UnitState} (k : ℕ) (r : Row) → j < n.units → Stands n.rows r k → Node x r (out G w) f → Beside n G w (suc j) xs cs ys → Parallel n j (x ∷ xs) (out G w) zero k (Stay ∷ cs) (λ v. f v ∷ ys)
  by_par : {j : ℕ} {x : UnitState} {xs : List UnitState} {α : NodeAction} {u k : ℕ} {cs : List Choice} {f : ℤ → List UnitState} → Parallel n (suc j) xs α u k cs f → Parallel n j (x ∷ xs) α (suc u) k (Stay ∷ cs) (λ v. x ∷ f v)
  by_com : {j : ℕ} {x : UnitState} {xs : List UnitState} {G : GroupSet} {w : ℤ} {u k : ℕ} {cs : List Choice} {f : ℤ → List UnitState} {G' : GroupSet} {g : ℤ → UnitState} (k' : ℕ) (r : Row) → j < n.units → Stands n.rows r k' → Node x r (inp G') g → linked G G' ≡ true → Parallel n (suc j) xs (out G w) u k cs f → Parallel n j (x ∷ xs) (out G w) (suc u) k (Take k' ∷ cs) (λ v. g w ∷ f v)

-- the steps of the network from the state s, by their ways, with label and landing. Restriction takes the hidden groups off a
-- label: a broadcast that is left without a group becomes silent, and a receive that is left without one is no step
pub data Derives (n : Net) (allowed : List GroupSet → Bool) (s : State) : Way → Label → (ℤ → State) → Type 0 where
  by_mobility : (u : ℕ) (g : GroupSet) → u < n.units → g.bits < 256 → (g.bits ≢ (unit_at s u).groups.bits) → part n.free g ≡ free_part n (unit_at s u) → allowed (placed n (moved s u g)) ≡ true → Derives n allowed s (Move u g) Movement (λ v. moved s u g)
  by_res_tau : {u k : ℕ} {cs : List Choice} {f : ℤ → List UnitState} → Parallel n 0 s.units tau u k cs f → Derives n allowed s (Act u k cs) Hidden (λ v. record { units = f v })
  by_res_out : {u k : ℕ} {G : GroupSet} {w : ℤ} {cs : List Choice} {f : ℤ → List UnitState} → Parallel n 0 s.units (out G w) u k cs f → empty (part n.free G) ≡ false → Derives n allowed s (Act u k cs) (Broadcast (part n.free G) w) (λ v. record { units = f v })
  by_res_hide : {u k : ℕ} {G : GroupSet} {w : ℤ} {cs : List Choice} {f : ℤ → List UnitState} → Parallel n 0 s.units (out G w) u k cs f → empty (part n.free G) ≡ true → Derives n allowed s (Act u k cs) Hidden (λ v. record { units = f v })
  by_res_inp : {u k : ℕ} {G : GroupSet} {cs : List Choice} {f : ℤ → List UnitState} → Parallel n 0 s.units (inp G) u k cs f → empty (part n.free G) ≡ false → Derives n allowed s (Act u k cs) (Receive (part n.free G)) (λ v. record { units = f v })
