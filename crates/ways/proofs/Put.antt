-- States in which one unit is another. Assumes nothing.
use Rattle.std.proofs.Common.{◌≡◌, ℕ, zero, suc, ◌+◌, ◌<◌, Bool, true, false, cond, eqb, List, ◌++◌, map, length, get_or, set, replicate, ℤ, sym, refl, ap, ◌∙◌, arith}
use Rattle.std.specs.List.{range_with_len}
use Rattle.std.proofs.lemmas.Bool.{eqb-true, eqb-false}
use Rattle.std.proofs.lemmas.Grind.{get_or-set_at}
use Rattle.std.proofs.lemmas.List.{length-append, length-set, length-replicate, get_or-set_other}
use Rattle.std.proofs.lemmas.List.FromFn.{fill_by_all, get_or-map-range_with_len, length-map-range_with_len}
use Rattle.model.specs.Bytes.{zero_unit}
use Rattle.model.specs.declared.group_set.GroupSet.{GroupSet}
use Rattle.model.specs.declared.state.State.{State}
use Rattle.model.specs.declared.unit_state.UnitState.{UnitState}
use Rattle.rows.specs.Units.{filled, advanced, taken}
use Rattle.rows.specs.declared.row.Action.{Action}
use Rattle.rows.specs.declared.row.Action.TheVariants.{Silent, Broadcast, Receive}
use Rattle.ways.specs.declared.way.Choice.{Choice}
use Rattle.ways.specs.declared.way.Choice.TheVariants.{Stay, Take}
use Rattle.ways.specs.Nets.{Net, unit_at, row_at}
use Rattle.ways.specs.Ways.{all_stay}
use Rattle.ways.specs.Landings.{on_set, moved, incoming, chosen, slot_after, acted}
use Rattle.ways.specs.Copies.{put}

same_number : (j : ℕ) → 0 + j ≡ j
same_number j = omega arith

-- the units with x at u are those that f makes of the slots, if f makes x at u and leaves the others
put_is : (us : List UnitState) (u : ℕ) (x : UnitState) (f : ℕ → UnitState) → length us ≡ 6 → ((j : ℕ) → j < 6 → (b : Bool) → eqb j u ≡ b → f j ≡ cond b x (get_or us j zero_unit)) → set us u x ≡ map f (range_with_len 0 6)
put_is us u x f six each =
    fill_by_all f (set us u x) 6 zero_unit (length-set us u x ∙ six)
    (λ j h.
    elim (eqb j u) as (λ b. eqb j u ≡ b → get_or (set us u x) j zero_unit ≡ f j) [
      | true ↦ (λ e. get_or-set_at us u j x zero_unit (eqb-true j u e) (let s = eqb-true j u e in omega (arith, six, h)) ∙ sym (each j h true e))
      | false ↦ (λ e. get_or-set_other us u j x zero_unit (eqb-false j u e) ∙ sym (each j h false e))
    ] refl)

pub moved_put : (s : State) (u : ℕ) (g : GroupSet) → length s.units ≡ 6 → put u (on_set (unit_at s u) g) s ≡ moved s u g
moved_put s u g six =
    ap (λ (us : List UnitState). record { units = us })
    (put_is s.units u (on_set (unit_at s u) g) (λ j. cond (eqb j u) (on_set (unit_at s j) g) (unit_at s j)) six
    (λ j h b. elim b as (λ b. eqb j u ≡ b → cond (eqb j u) (on_set (unit_at s j) g) (unit_at s j) ≡ cond b (on_set (unit_at s u) g) (unit_at s j)) [
      | true ↦ (λ e. ap (λ c. cond c (on_set (unit_at s j) g) (unit_at s j)) e ∙ ap (λ i. on_set (unit_at s i) g) (eqb-true j u e))
      | false ↦ (λ e. ap (λ c. cond c (on_set (unit_at s j) g) (unit_at s j)) e)
    ]))

stays : (n j : ℕ) → get_or (replicate n Stay) j Stay ≡ Stay
stays zero j = refl
stays (suc n) zero = refl
stays (suc n) (suc j) = stays n j

-- only a receive looks at the value that comes in
late : (n : Net) (s : State) (u k : ℕ) (v : ℤ) (a : Action) → (row_at n k).action ≡ a → taken (unit_at s u) (row_at n k) v ≡ taken (unit_at s u) (row_at n k) (incoming (unit_at s u) a v)
late n s u k v Silent e =
    ap (λ a. advanced (filled (unit_at s u) a v) (row_at n k)) e ∙ sym (ap (λ a. advanced (filled (unit_at s u) a (incoming (unit_at s u) Silent v)) (row_at n k)) e)
late n s u k v (Broadcast o) e =
    ap (λ a. advanced (filled (unit_at s u) a v) (row_at n k)) e ∙ sym (ap (λ a. advanced (filled (unit_at s u) a (incoming (unit_at s u) (Broadcast o) v)) (row_at n k)) e)
late n s u k v (Receive x) e = refl

module _ (n : Net) (s : State) (u k : ℕ) where
  chosen_alone : (j : ℕ) (v : ℤ) (b : Bool) → eqb j u ≡ b → slot_after n s u k all_stay v j ≡ cond b (taken (unit_at s u) (row_at n k) v) (unit_at s j)
  chosen_alone j v true e = ap (λ c. chosen n (unit_at s j) (cond c (Take k) (get_or all_stay j Stay)) v) e ∙ ap (λ i. taken (unit_at s i) (row_at n k) v) (eqb-true j u e)
  chosen_alone j v false e = ap (λ c. chosen n (unit_at s j) (cond c (Take k) (get_or all_stay j Stay)) v) e ∙ ap (λ c. chosen n (unit_at s j) c v) (stays 6 j)

  pub acted_alone : (v : ℤ) → length s.units ≡ 6 → put u (taken (unit_at s u) (row_at n k) v) s ≡ acted n s u k all_stay (incoming (unit_at s u) (row_at n k).action v)
  acted_alone v six =
      let w = incoming (unit_at s u) (row_at n k).action v in
      ap (λ x. put u x s) (late n s u k v (row_at n k).action refl)
      ∙ ap (λ (us : List UnitState). record { units = us }) (put_is s.units u (taken (unit_at s u) (row_at n k) w) (slot_after n s u k all_stay w) six (λ j h b e. chosen_alone j w b e))

  -- the slot j chooses x, where it stayed before
  module _ (j : ℕ) (h : j < 6) (x : Choice) (ys : List Choice) (v : ℤ) where
    abbrev before : List Choice
    before = replicate (j + 1) Stay ++ ys

    abbrev after : List Choice
    after = set before j x

    at_slot : get_or after j Stay ≡ x
    at_slot = get_or-set_at before j j x Stay refl (let e = length-append (replicate (j + 1) Stay) ys in let r = length-replicate (j + 1) Stay in omega (arith, e, r))

    slot_chosen : eqb j u ≡ false → (i : ℕ) (b : Bool) → eqb i j ≡ b → slot_after n s u k after v i ≡ cond b (chosen n (unit_at s j) x v) (slot_after n s u k before v i)
    slot_chosen other i true e =
        let same = eqb-true i j e in
        ap (slot_after n s u k after v) same ∙ ap (λ c. chosen n (unit_at s j) (cond c (Take k) (get_or after j Stay)) v) other ∙ ap (λ c. chosen n (unit_at s j) c v) at_slot
    slot_chosen other i false e = ap (λ c. chosen n (unit_at s i) (cond (eqb i u) (Take k) c) v) (get_or-set_other before j i x Stay (eqb-false i j e))

    pub acted_chosen : eqb j u ≡ false → acted n s u k after v ≡ put j (chosen n (unit_at s j) x v) (acted n s u k before v)
    acted_chosen other =
        ap (λ (us : List UnitState). record { units = us })
        (sym (put_is (map (slot_after n s u k before v) (range_with_len 0 6)) j (chosen n (unit_at s j) x v) (slot_after n s u k after v) (length-map-range_with_len (slot_after n s u k before v) 0 6)
        (λ i m b e. slot_chosen other i b e ∙ ap (λ y. cond b (chosen n (unit_at s j) x v) y) (sym (get_or-map-range_with_len (slot_after n s u k before v) 0 6 i i zero_unit m (same_number i))))))

    same_chosen : eqb j u ≡ true → (i : ℕ) (b : Bool) → eqb i j ≡ b → slot_after n s u k after v i ≡ slot_after n s u k before v i
    same_chosen own i true e =
        let mine : eqb i u ≡ true = ap (λ m. eqb m u) (eqb-true i j e) ∙ own in
        ap (λ c. chosen n (unit_at s i) (cond c (Take k) (get_or after i Stay)) v) mine ∙ sym (ap (λ c. chosen n (unit_at s i) (cond c (Take k) (get_or before i Stay)) v) mine)
    same_chosen own i false e = ap (λ c. chosen n (unit_at s i) (cond (eqb i u) (Take k) c) v) (get_or-set_other before j i x Stay (eqb-false i j e))

    -- what the slot of the unit that takes the row chooses changes nothing
    pub acted_same : eqb j u ≡ true → acted n s u k after v ≡ acted n s u k before v
    acted_same own = λ i. record { units = map (λ m. same_chosen own m (eqb m j) refl i) (range_with_len 0 6) }
