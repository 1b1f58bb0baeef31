-- The receives among the steps in which units take rows. Assumes nothing.
use Rattle.std.proofs.Common.{◌≡◌, ℕ, Bool, true, false, cond, ◌&&◌, List, [], ◌∷◌, ◌++◌, map, length, filter, sym, refl, ap, ◌∙◌}
use mathlib.Core.List.{map-map}
use Rattle.std.specs.List.{range_with_len, flat_map}
use Rattle.std.proofs.lemmas.List.{map-append}
use Rattle.std.proofs.lemmas.List.Elements.{filter-append}
use Rattle.model.specs.GroupSets.{empty}
use Rattle.model.specs.declared.state.State.{State}
use Rattle.systems.specs.Listing.{receives_in}
use Rattle.systems.specs.Meaning.{Step, receives}
use Rattle.rows.specs.Units.{reads, enabled, is_receive}
use Rattle.model.specs.declared.label.Label.TheVariants.{Silent as Quiet, Broadcast as Sent}
use Rattle.rows.specs.declared.row.Operand.{Operand}
use Rattle.rows.specs.declared.row.Action.{Action}
use Rattle.rows.specs.declared.row.Action.TheVariants.{Silent, Broadcast, Receive}
use Rattle.ways.specs.declared.way.Way.TheVariants.{Act}
use Rattle.ways.specs.Nets.{Net, unit_at, row_at, free_part}
use Rattle.ways.specs.Ways.{receivable_at, receivable_rows, all_stay, combinations, acts_by, acts_of, acts}
use Rattle.ways.specs.Landings.{act_label, step_of}
use Rattle.ways.specs.Receivings.{received_by, receivings_of, receivings}

-- what is kept of the steps that each f k is shown as, joined
pub kept_joined : {X Y : Type 0} (p : Y → Bool) (g : X → Y) (f : ℕ → List X) (ks : List ℕ) → filter p (map g (flat_map f ks)) ≡ flat_map (λ k. filter p (map g (f k))) ks
kept_joined p g f [] = refl
kept_joined p g f (k ∷ ks) =
    ap (filter p) (map-append g (f k) (flat_map f ks)) ∙ filter-append p (map g (f k)) (map g (flat_map f ks)) ∙ ap (λ l. filter p (map g (f k)) ++ l) (kept_joined p g f ks)

mapped_joined : {X Y : Type 0} (g : X → Y) (f : ℕ → List X) (ks : List ℕ) → map g (flat_map f ks) ≡ flat_map (λ k. map g (f k)) ks
mapped_joined g f [] = refl
mapped_joined g f (k ∷ ks) = map-append g (f k) (flat_map f ks) ∙ ap (λ l. map g (f k) ++ l) (mapped_joined g f ks)

-- of nothing that passes a test nothing is kept
pub none_kept : {X Y : Type 0} (p : Y → Bool) (g : X → Y) → ((x : X) → p (g x) ≡ false) → (xs : List X) → filter p (map g xs) ≡ []
none_kept p g fails [] = refl
none_kept p g fails (x ∷ xs) = ap (λ b. cond b (g x ∷ filter p (map g xs)) (filter p (map g xs))) (fails x) ∙ none_kept p g fails xs

module _ (n : Net) (s : State) (u : ℕ) where
  abbrev shown : Action → Bool
  shown a = receives (act_label (free_part n (unit_at s u)) (unit_at s u) a)

  -- a broadcast is no receive, whatever of it is seen
  sent_quiet : (o : Operand) (b : Bool) → empty (free_part n (unit_at s u)) ≡ b → shown (Broadcast o) ≡ false
  sent_quiet o true e = ap (λ c. receives (cond c Quiet (Sent (free_part n (unit_at s u)) (reads (unit_at s u) o)))) e
  sent_quiet o false e = ap (λ c. receives (cond c Quiet (Sent (free_part n (unit_at s u)) (reads (unit_at s u) o)))) e

  -- the receives among the steps by the row k, if it is enabled
  module _ (k : ℕ) where
    abbrev alone : List Step
    alone = step_of n s (Act u k all_stay) ∷ []

    by_action : (a : Action) → (row_at n k).action ≡ a → receives_in (map (step_of n s) (map (Act u k) (combinations n s u a))) ≡ cond (is_receive a) (cond (empty (free_part n (unit_at s u))) [] alone) []
    by_action Silent e = ap (λ a. cond (shown a) alone []) e
    by_action (Broadcast o) e =
        ap receives_in (map-map (step_of n s) (Act u k) (combinations n s u (Broadcast o)))
        ∙ none_kept (λ x. receives x.label) (λ cs. step_of n s (Act u k cs)) (λ cs. ap shown e ∙ sent_quiet o (empty (free_part n (unit_at s u))) refl) (combinations n s u (Broadcast o))
    by_action (Receive x) e =
        elim (empty (free_part n (unit_at s u))) as (λ b. receives_in (map (step_of n s) (map (Act u k) (cond b [] (all_stay ∷ [])))) ≡ cond b [] alone) [
          | true ↦ refl
          | false ↦ ap (λ a. cond (shown a) alone []) e
        ]

    by_row : receives_in (map (step_of n s) (acts_by n s u k)) ≡ cond (receivable_at n s u k) (cond (empty (free_part n (unit_at s u))) [] alone) []
    by_row =
        elim (enabled (unit_at s u) (row_at n k)) as (λ b. receives_in (map (step_of n s) (cond b (map (Act u k) (combinations n s u (row_at n k).action)) [])) ≡ cond (b && is_receive (row_at n k).action) (cond (empty (free_part n (unit_at s u))) [] alone) []) [
          | true ↦ by_action (row_at n k).action refl
          | false ↦ refl
        ]

  -- what is made of each number that passes a test
  sifted : {X : Type 0} (p : ℕ → Bool) (f : ℕ → X) (ks : List ℕ) → flat_map (λ k. cond (p k) (f k ∷ []) []) ks ≡ map f (filter p ks)
  sifted p f [] = refl
  sifted p f (k ∷ ks) =
      elim (p k) as (λ b. cond b (f k ∷ []) [] ++ flat_map (λ k. cond (p k) (f k ∷ []) []) ks ≡ map f (cond b (k ∷ filter p ks) (filter p ks))) [
        | true ↦ ap (λ l. f k ∷ l) (sifted p f ks)
        | false ↦ sifted p f ks
      ]

  none_joined : {X : Type 0} (p : ℕ → Bool) (ks : List ℕ) → flat_map {A = X} (λ k. cond (p k) [] []) ks ≡ []
  none_joined p [] = refl
  none_joined {X} p (k ∷ ks) = ap (λ l. l ++ flat_map {A = X} (λ k. cond (p k) [] []) ks) (elim (p k) as (λ b. cond {A = List X} b [] [] ≡ []) [ true ↦ refl | false ↦ refl ]) ∙ none_joined p ks

  by_unit : receives_in (map (step_of n s) (acts_of n s u)) ≡ map (received_by n s) (receivings_of n s u)
  by_unit =
      kept_joined (λ x. receives x.label) (step_of n s) (acts_by n s u) (range_with_len 0 (length n.rows))
      ∙ (λ i. flat_map (λ k. by_row k i) (range_with_len 0 (length n.rows)))
      ∙ elim (empty (free_part n (unit_at s u))) as (λ b. flat_map (λ k. cond (receivable_at n s u k) (cond b [] (alone k)) []) (range_with_len 0 (length n.rows)) ≡ map (received_by n s) (cond b [] (map (λ k. record { unit = u; row = k }) (receivable_rows n s u)))) [
        | true ↦ none_joined (receivable_at n s u) (range_with_len 0 (length n.rows))
        | false ↦ sifted (receivable_at n s u) (λ k. step_of n s (Act u k all_stay)) (range_with_len 0 (length n.rows)) ∙ sym (map-map (received_by n s) (λ k. record { unit = u; row = k }) (receivable_rows n s u))
      ]

pub receivings_are : (n : Net) (s : State) → map (received_by n s) (receivings n s) ≡ receives_in (map (step_of n s) (acts n s))
receivings_are n s =
    mapped_joined (received_by n s) (receivings_of n s) (range_with_len 0 n.units)
    ∙ (λ i. flat_map (λ u. sym (by_unit n s u) i) (range_with_len 0 n.units))
    ∙ sym (kept_joined (λ x. receives x.label) (step_of n s) (acts_of n s) (range_with_len 0 n.units))
