-- From ways to steps, and what a network keeps as a system. Assumes nothing.
use Rattle.std.specs.Prelude.{◌≡◌, ℕ, Bool, false, cond, List, [], ◌∷◌, map, ℤ, ◌≤ℤ◌, refl}
use Rattle.std.proofs.Common.{sym, ap, ◌∙◌}
use Rattle.std.proofs.lemmas.Bool.{true≢false}
use Rattle.lists.specs.Words.{given, Stands}
use Rattle.lists.proofs.Mapped.{mapped_from}
use Rattle.model.specs.Ranges.{in_range}
use Rattle.model.specs.declared.group_set.GroupSet.{GroupSet}
use Rattle.model.specs.declared.state.State.{State}
use Rattle.systems.specs.Meaning.{Step, Keeps, receives}
use Rattle.systems.specs.declared.listed.Listed.{Listed}
use Rattle.rows.specs.declared.row.Action.{Action}
use Rattle.rows.specs.declared.row.Action.TheVariants.{Silent, Broadcast, Receive}
use Rattle.ways.specs.declared.way.Choice.{Choice}
use Rattle.ways.specs.declared.way.Way.{Way}
use Rattle.ways.specs.declared.way.Way.TheVariants.{Move, Act}
use Rattle.ways.specs.Nets.{Net, unit_at, row_at, free_part}
use Rattle.ways.specs.Landings.{label_of, landing_of, act_label, acted, incoming, step_of, listed_of}
use Rattle.network.specs.Meanings.{set_of, ways, lawful_ways, union_shown, network_meaning}

module _ (n : Net) (s : State) where
  -- only a receive may land differently by value
  steady_act : (u k : ℕ) (cs : List Choice) (g : GroupSet) (a : Action) → receives (act_label g (unit_at s u) a) ≡ false → (v w : ℤ) → acted n s u k cs (incoming (unit_at s u) a v) ≡ acted n s u k cs (incoming (unit_at s u) a w)
  steady_act u k cs g Silent e v w = refl
  steady_act u k cs g (Broadcast o) e v w = refl
  steady_act u k cs g (Receive x) e v w = absurd (true≢false e)

  steady_way : (x : Way) → receives (label_of n s x) ≡ false → (v w : ℤ) → landing_of n s x v ≡ landing_of n s x w
  steady_way (Move u g) e v w = refl
  steady_way (Act u k cs) e v w = steady_act u k cs (free_part n (unit_at s u)) (row_at n k).action e v w

  steady_step : (ws : List Way) (i : ℕ) (x : Step) → Stands (map (step_of n s) ws) x i → receives x.label ≡ false → (v w : ℤ) → x.landing v ≡ x.landing w
  steady_step ws i x at e v w =
      let p = mapped_from (step_of n s) ws i x at in
      let q : x.label ≡ label_of n s p.0 = ap (λ (y : Step). y.label) (sym p.2) in
      ap (λ (y : Step). y.landing v) (sym p.2) ∙ steady_way p.0 (ap receives (sym q) ∙ e) v w ∙ ap (λ (y : Step). y.landing w) p.2

pub keeps : (n : Net) (allowed : List GroupSet → Bool) → n.lo ≤ℤ n.hi → Keeps (network_meaning n allowed)
keeps n allowed h =
    record {
      ordered = h;
      no_steps = λ s e. ap (λ b. map (step_of n s) (cond b (ways n allowed s) [])) e;
      nothing_shown = λ s e. ap (λ b. cond b (union_shown n s) (set_of 0)) e;
      steady = λ s i x at e v w _ _. steady_step n s (lawful_ways n allowed s) i x at e v w;
    }

-- the ways ws of the state as they are listed at the value v are their steps as they are listed there
module _ (n : Net) (s : State) where
  abbrev pub step_listed : ℤ → Step → Listed
  step_listed v x = record { label = x.label; landing = given (in_range n.lo n.hi v) (x.landing v) }

  pub listed_steps : (v : ℤ) (ws : List Way) → map (listed_of n s v) ws ≡ map (step_listed v) (map (step_of n s) ws)
  listed_steps v [] = refl
  listed_steps v (w ∷ ws) = ap (λ ls. listed_of n s v w ∷ ls) (listed_steps v ws)
