-- The ways of taking one row, by number. Assumes nothing.
use Rattle.std.proofs.Common.{◌≡◌, ℕ, ◌<◌, true, false, cond, List, [], ◌∷◌, map, length, Some, sym, refl, ap, ◌∙◌, subst, arith}
use Rattle.std.specs.List.{range_with_len, slice_get}
use Rattle.model.specs.declared.state.State.{State}
use Rattle.rows.specs.declared.row.Operand.{Operand}
use Rattle.rows.specs.declared.row.Action.{Action}
use Rattle.rows.specs.declared.row.Action.TheVariants.{Silent, Broadcast, Receive}
use Rattle.rows.specs.declared.row.Row.{Row}
use Rattle.ways.specs.declared.way.Way.TheVariants.{Act}
use Rattle.ways.specs.declared.way.Choice.{Choice}
use Rattle.ways.specs.declared.way.Choice.TheVariants.{Stay}
use Rattle.lists.specs.Products.{product, volume, digits}
use Rattle.model.specs.GroupSets.{empty}
use Rattle.rows.specs.Units.{enabled}
use Rattle.ways.specs.Nets.{Net, row_at, unit_at, free_part}
use Rattle.ways.specs.Ways.{choices, combinations, acts_by, all_stay}
use Rattle.lists.proofs.Listed.{length_product, nth_product, below_when, nth_when}

module _ (n : Net) (s : State) (u : ℕ) where
  one_stays : (a : Action) → ((o : Operand) → a ≡ Broadcast o → ⊥) → 0 < length (combinations n s u a) → combinations n s u a ≡ all_stay ∷ []
  one_stays Silent other some = refl
  one_stays (Broadcast o) other some = absurd (other o refl)
  one_stays (Receive x) other some =
      elim (empty (free_part n (unit_at s u))) as (λ b. 0 < length (cond b [] (all_stay ∷ [])) → cond b [] (all_stay ∷ []) ≡ all_stay ∷ []) [
        | true ↦ (λ h. absurd (omega (arith, h)))
        | false ↦ (λ h. refl)
      ] some

  pub sent_count : (a : Action) (o : Operand) (m : ℕ) → a ≡ Broadcast o → m ≡ volume (map (choices n s u) (range_with_len 0 6)) → m ≡ length (combinations n s u a)
  sent_count a o m e h = h ∙ sym (length_product (map (choices n s u) (range_with_len 0 6))) ∙ ap (λ x. length (combinations n s u x)) (sym e)

  pub sent_below : (a : Action) (o : Operand) (i : ℕ) → a ≡ Broadcast o → i < length (combinations n s u a) → i < volume (map (choices n s u) (range_with_len 0 6))
  sent_below a o i e h = subst (λ m. i < m) (length_product (map (choices n s u) (range_with_len 0 6))) (subst (λ x. i < length (combinations n s u x)) e h)

  pub sent_nth : (a : Action) (o : Operand) (i : ℕ) (r : List Choice) → a ≡ Broadcast o → i < length (combinations n s u a) → r ≡ digits Stay (map (choices n s u) (range_with_len 0 6)) i → slice_get (combinations n s u a) i ≡ Some r
  sent_nth a o i r e h d = ap (λ x. slice_get (combinations n s u x) i) e ∙ nth_product Stay (map (choices n s u) (range_with_len 0 6)) i (sent_below a o i e h) ∙ ap Some (sym d)

  module _ (k : ℕ) (row : Row) (is : row ≡ row_at n k) where
    pub act_below : (i : ℕ) → i < length (acts_by n s u k) → i < length (combinations n s u row.action)
    act_below i h = subst (λ r. i < length (combinations n s u r.action)) (sym is) (below_when (enabled (unit_at s u) (row_at n k)) (Act u k) (combinations n s u (row_at n k).action) i h)

    pub act_nth : (i : ℕ) (cs : List Choice) → i < length (acts_by n s u k) → slice_get (combinations n s u row.action) i ≡ Some cs → slice_get (acts_by n s u k) i ≡ Some (Act u k cs)
    act_nth i cs h e = nth_when (enabled (unit_at s u) (row_at n k)) (Act u k) (combinations n s u (row_at n k).action) i cs h (subst (λ r. slice_get (combinations n s u r.action) i ≡ Some cs) is e)

  -- what the loops over rows list of an enabled row
  module _ (k : ℕ) (row : Row) (is : row ≡ row_at n k) (able : true ≡ enabled (unit_at s u) row) where
    taken_as : (css : List (List Choice)) → combinations n s u row.action ≡ css → acts_by n s u k ≡ map (Act u k) css
    taken_as css e = ap (λ b. cond b (map (Act u k) (combinations n s u (row_at n k).action)) []) (sym (able ∙ ap (enabled (unit_at s u)) is)) ∙ ap (λ (r : Row). map (Act u k) (combinations n s u r.action)) (sym is) ∙ ap (map (Act u k)) e

    pub acts_sent : (o : Operand) → row.action ≡ Broadcast o → acts_by n s u k ≡ map (Act u k) (product (map (choices n s u) (range_with_len 0 6)))
    acts_sent o e = taken_as _ (ap (combinations n s u) e)

    pub acts_alone : ((o : Operand) → row.action ≡ Broadcast o → ⊥) → 0 < length (combinations n s u row.action) → acts_by n s u k ≡ Act u k all_stay ∷ []
    acts_alone other some = taken_as (all_stay ∷ []) (one_stays row.action other some)
