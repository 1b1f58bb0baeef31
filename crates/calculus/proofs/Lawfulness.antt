-- A step from a lawful state lands in lawful states. Assumes nothing.
use Rattle.std.proofs.Common.{◌≡◌, ℕ, zero, suc, ◌<◌, ◌≤◌, Bool, true, false, cond, not, eqb, ltb, leb, ◌⊎◌, List, [], ◌∷◌, map, length, get_or, replicate, ℤ, pos, Some, filter, sym, refl, ap, ◌∙◌, subst, inl, inr, ⊎_elim, zero-add, arith}
use Rattle.std.specs.List.{range_with_len, slice_get}
use Rattle.std.proofs.lemmas.List.FromFn.{get_or-map-range_with_len, fill_by_all, length-map-range_with_len}
use Rattle.std.proofs.lemmas.List.{get_or_past}
use Rattle.std.proofs.lemmas.Option.{slice_get-get_or}
use Rattle.std.proofs.lemmas.Bool.{and_parts, and_from, eq-eqb, ne_eqb, ltb-true, ltb-false, lt-ltb, cases_eq, cases_Bool, false≢true}
use Rattle.lists.specs.Products.{product, In, head, tail}
use Rattle.lists.specs.Words.{every}
use Rattle.lists.proofs.Loops.{every_each, each_every}
use Rattle.lists.proofs.Places.{nth_within, some_same}
use Rattle.lists.proofs.Mapped.{mapped_from}
use Rattle.lists.proofs.Members.{in_none, in_cases, in_either, in_mapped, joined_in, counting_in, when_in, kept_in, product_in}
use Rattle.model.specs.Ranges.{in_range}
use Rattle.model.specs.GroupSets.{part, empty}
use Rattle.model.specs.Bytes.{zero_unit}
use Rattle.model.specs.declared.group_set.GroupSet.{GroupSet}
use Rattle.model.specs.declared.state.State.{State}
use Rattle.model.specs.declared.unit_state.UnitState.{UnitState}
use Rattle.systems.specs.Meaning.{Step}
use Rattle.rows.specs.Units.{reads, enabled, is_receive, filled, taken}
use Rattle.rows.specs.Programs.{operand_in_range, action_in_range, row_in_range}
use Rattle.rows.specs.declared.row.Operand.{Operand}
use Rattle.rows.specs.declared.row.Operand.TheVariants.{First, Second, Constant}
use Rattle.rows.specs.declared.row.Register.TheVariants.{First as IntoFirst, Second as IntoSecond}
use Rattle.rows.specs.declared.row.Action.{Action}
use Rattle.rows.specs.declared.row.Action.TheVariants.{Silent, Broadcast as Send, Receive as Fill}
use Rattle.rows.specs.declared.row.Row.{Row}
use Rattle.ways.specs.declared.way.Choice.{Choice}
use Rattle.ways.specs.declared.way.Choice.TheVariants.{Stay, Take}
use Rattle.ways.specs.declared.way.Way.{Way}
use Rattle.ways.specs.declared.way.Way.TheVariants.{Move, Act}
use Rattle.ways.specs.Nets.{Net, unit_at, row_at, idle, free_part}
use Rattle.ways.specs.Ways.{listener, receivable_rows, choices, combinations, acts_by, acts_of, acts, all_stay}
use Rattle.ways.specs.Landings.{chosen, slot_after, acted, incoming, on_set, moved, landing_of, placed, step_of}
use Rattle.network.specs.Meanings.{set_of, set_numbers, may_move, movements_of, movements, ways, unit_in_range, zero_bytes, slot_lawful, lawful, lawful_ways, network_meaning}
use Rattle.network.proofs.Slots.{nth_slot}
use Rattle.calculus.specs.Lawfulness.{LandsLawfully}

-- an element of a product has an element of each list
product_each : {X : Type 0} (d : X) (os : List (List X)) (cs : List X) (j : ℕ) → In cs (product os) → j < length os → In (get_or cs j d) (get_or os j [])
product_each d [] cs j m h = absurd (omega arith)
product_each d (o ∷ os) cs zero m h =
    let p = product_in o os m in
    subst (λ ys. In (get_or ys 0 d) o) (sym p.1.1.0) p.1.1.1.0
product_each d (o ∷ os) cs (suc j) m h =
    let p = product_in o os m in
    subst (λ ys. In (get_or ys (suc j) d) (get_or os j [])) (sym p.1.1.0) (product_each d os p.1.0 j p.1.1.1.1 (omega arith))

get_or_stays : (m j : ℕ) → get_or (replicate m Stay) j Stay ≡ Stay
get_or_stays zero j = refl
get_or_stays (suc m) zero = refl
get_or_stays (suc m) (suc j) = get_or_stays m j

stay_take : (k : ℕ) → Stay ≡ Take k → ⊥
stay_take k e = let z : ◌≡◌ {A = ℕ} 0 1 = cc in omega arith

-- one unit: reading, filling and taking keep the range
module _ (n : Net) where
  abbrev ok : ℤ → Bool
  ok v = in_range n.lo n.hi v

  reads_kept : (x : UnitState) (o : Operand) → ok x.first ≡ true → ok x.second ≡ true → operand_in_range n.lo n.hi o ≡ true → ok (reads x o) ≡ true
  reads_kept x First a b h = a
  reads_kept x Second a b h = b
  reads_kept x (Constant v) a b h = h

  filled_kept : (x : UnitState) (a : Action) (v : ℤ) → ok x.first ≡ true → ok x.second ≡ true → (is_receive a ≡ true → ok v ≡ true) → (ok (filled x a v).first ≡ true) × (ok (filled x a v).second ≡ true)
  filled_kept x Silent v a b h = (a, b)
  filled_kept x (Send o) v a b h = (a, b)
  filled_kept x (Fill IntoFirst) v a b h = (h refl, b)
  filled_kept x (Fill IntoSecond) v a b h = (a, h refl)

  taken_kept : (x : UnitState) (r : Row) (v : ℤ) → unit_in_range n x ≡ true → row_in_range n.lo n.hi r ≡ true → (is_receive r.action ≡ true → ok v ≡ true) → unit_in_range n (taken x r v) ≡ true
  taken_kept x r v u h i =
      let p = and_parts (leb x.location 63) _ u in
      let q = and_parts (ok x.first) (ok x.second) p.1 in
      let f = filled_kept x r.action v q.0 q.1 i in
      let a = and_parts (leb r.to 63) _ h in
      let b = and_parts (action_in_range n.lo n.hi r.action) _ a.1 in
      let c = and_parts (operand_in_range n.lo n.hi r.first) (operand_in_range n.lo n.hi r.second) b.1 in
      and_from (leb r.to 63) _ a.0
      (and_from (ok (reads (filled x r.action v) r.first)) (ok (reads (filled x r.action v) r.second))
      (reads_kept (filled x r.action v) r.first f.0 f.1 c.0) (reads_kept (filled x r.action v) r.second f.0 f.1 c.1))

filled_groups : (x : UnitState) (a : Action) (v : ℤ) → (filled x a v).groups ≡ x.groups
filled_groups x Silent v = refl
filled_groups x (Send o) v = refl
filled_groups x (Fill IntoFirst) v = refl
filled_groups x (Fill IntoSecond) v = refl

chosen_groups : (n : Net) (x : UnitState) (c : Choice) (v : ℤ) → (chosen n x c v).groups ≡ x.groups
chosen_groups n x Stay v = refl
chosen_groups n x (Take k) v = filled_groups x (row_at n k).action v

-- every row keeps the range, and so does the one past the last
module _ (n : Net) (kept : every (row_in_range n.lo n.hi) n.rows ≡ true) where
  row_kept : (k : ℕ) → row_in_range n.lo n.hi (row_at n k) ≡ true
  row_kept k = ⊎_elim (λ e. there (ltb-true k (length n.rows) e)) (λ e. past (ltb-false k (length n.rows) e)) (cases_Bool (ltb k (length n.rows)))
    where
      there : k < length n.rows → row_in_range n.lo n.hi (row_at n k) ≡ true
      there h = every_each (λ _. row_in_range n.lo n.hi) 0 n.rows kept k (row_at n k) (slice_get-get_or n.rows k idle h)

      past : length n.rows ≤ k → row_in_range n.lo n.hi (row_at n k) ≡ true
      past h = ap (row_in_range n.lo n.hi) (get_or_past n.rows k idle h)

-- a state that is written slot by slot
module _ (f : ℕ → UnitState) where
  abbrev written : State
  written = record { units = map f (range_with_len 0 6) }

  written_at : (j : ℕ) → j < 6 → unit_at written j ≡ f j
  written_at j h = get_or-map-range_with_len f 0 6 j j zero_unit h (zero-add j)

  written_lawful : (n : Net) → ((j : ℕ) → j < 6 → cond (ltb j n.units) (unit_in_range n (f j)) (zero_bytes (f j)) ≡ true) → every (slot_lawful n written) (range_with_len 0 6) ≡ true
  written_lawful n h =
      each_every (λ _. slot_lawful n written) 0 (range_with_len 0 6)
      (λ i x at.
      let l : i < 6 = nth_within (range_with_len 0 6) i x at in
      let e : x ≡ i = some_same (slice_get (range_with_len 0 6) i) x i at (nth_slot 6 i l) in
      ap (slot_lawful n written) e ∙ ap (λ y. cond (ltb i n.units) (unit_in_range n y) (zero_bytes y)) (written_at i l) ∙ h i l)

  placed_alike : (n : Net) (s : State) → n.units ≤ 6 → ((j : ℕ) → (f j).groups ≡ (unit_at s j).groups) → placed n written ≡ placed n s
  placed_alike n s most h =
      fill_by_all (λ j. (unit_at s j).groups) (placed n written) n.units (set_of 0) (length-map-range_with_len (λ j. (unit_at written j).groups) 0 n.units)
      (λ j l. get_or-map-range_with_len (λ i. (unit_at written i).groups) 0 n.units j j (set_of 0) l (zero-add j) ∙ ap (λ (x : UnitState). x.groups) (written_at j (omega arith)) ∙ h j)

module _ (n : Net) (allowed : List GroupSet → Bool) (s : State) (most : n.units ≤ 6) (kept : every (row_in_range n.lo n.hi) n.rows ≡ true) (is : lawful n allowed s ≡ true) where
  slots : (j : ℕ) → j < 6 → slot_lawful n s j ≡ true
  slots j h =
      let p = and_parts (every (slot_lawful n s) (range_with_len 0 6)) (allowed (placed n s)) is in
      every_each (λ _. slot_lawful n s) 0 (range_with_len 0 6) p.0 j j (nth_slot 6 j h)

  -- a unit in use, and a slot past the last unit
  in_use : (j : ℕ) → j < n.units → unit_in_range n (unit_at s j) ≡ true
  in_use j h = sym (ap (λ b. cond b (unit_in_range n (unit_at s j)) (zero_bytes (unit_at s j))) (lt-ltb j n.units h)) ∙ slots j (omega arith)

  -- the slot j under a choice that only a unit in use makes, and that receives only values in range
  chosen_lawful : (c : Choice) (v : ℤ) (j : ℕ) → j < 6 → ((k : ℕ) → c ≡ Take k → (j < n.units) × (is_receive (row_at n k).action ≡ true → in_range n.lo n.hi v ≡ true))
      → cond (ltb j n.units) (unit_in_range n (chosen n (unit_at s j) c v)) (zero_bytes (chosen n (unit_at s j) c v)) ≡ true
  chosen_lawful Stay v j h g = slots j h
  chosen_lawful (Take k) v j h g =
      let p = g k refl in
      ap (λ b. cond b (unit_in_range n (taken (unit_at s j) (row_at n k) v)) (zero_bytes (taken (unit_at s j) (row_at n k) v))) (lt-ltb j n.units p.0)
      ∙ taken_kept n (unit_at s j) (row_at n k) v (in_use j p.0) (row_kept n kept k) p.1

  abbrev Sound : ℕ → ℕ → List Choice → ℤ → Type 0
  Sound u k cs v = (j : ℕ) → j < 6 → (i : ℕ) → cond (eqb j u) (Take k) (get_or cs j Stay) ≡ Take i → (j < n.units) × (is_receive (row_at n i).action ≡ true → in_range n.lo n.hi v ≡ true)

  acted_lawful : (u k : ℕ) (cs : List Choice) (v : ℤ) → Sound u k cs v → lawful n allowed (acted n s u k cs v) ≡ true
  acted_lawful u k cs v h =
      and_from (every (slot_lawful n (acted n s u k cs v)) (range_with_len 0 6)) (allowed (placed n (acted n s u k cs v)))
      (written_lawful (slot_after n s u k cs v) n (λ j l. chosen_lawful (cond (eqb j u) (Take k) (get_or cs j Stay)) v j l (h j l)))
      (ap allowed (placed_alike (slot_after n s u k cs v) n s most (λ j. chosen_groups n (unit_at s j) (cond (eqb j u) (Take k) (get_or cs j Stay)) v))
      ∙ (and_parts (every (slot_lawful n s) (range_with_len 0 6)) (allowed (placed n s)) is).1)

  -- the unit u takes its row, and the others choose
  sound_by : (u k : ℕ) (cs : List Choice) (v : ℤ) → u < n.units → (is_receive (row_at n k).action ≡ true → in_range n.lo n.hi v ≡ true)
      → ((j : ℕ) → j < 6 → (i : ℕ) → get_or cs j Stay ≡ Take i → (j < n.units) × (is_receive (row_at n i).action ≡ true → in_range n.lo n.hi v ≡ true)) → Sound u k cs v
  sound_by u k cs v low own others j l i e = step (cases_eq j u)
    where
      step : (j ≡ u) ⊎ (j ≡ u → ⊥) → (j < n.units) × (is_receive (row_at n i).action ≡ true → in_range n.lo n.hi v ≡ true)
      step (inl q) =
          let t : Take k ≡ Take i = sym (ap (λ b. cond b (Take k) (get_or cs j Stay)) (eq-eqb j u q)) ∙ e in
          let same : k ≡ i = cc in
          (subst (λ m. m < n.units) (sym q) low, λ r. own (ap (λ m. is_receive (row_at n m).action) same ∙ r))
      step (inr q) = others j l i (sym (ap (λ b. cond b (Take k) (get_or cs j Stay)) (ne_eqb j u q)) ∙ e)

  none_takes : (cs : List Choice) (j i : ℕ) → cs ≡ all_stay → get_or cs j Stay ≡ Take i → ⊥
  none_takes cs j i z e = stay_take i (sym (ap (λ c. get_or c j Stay) z ∙ get_or_stays 6 j) ∙ e)

  listener_low : (u j i : ℕ) (c : Choice) → In c (choices n s u j) → c ≡ Take i → j < n.units
  listener_low u j i c m e = step (in_cases m)
    where
      step : (c ≡ Stay) ⊎ In c (cond (listener n s u j) (map Take (receivable_rows n s j)) []) → j < n.units
      step (inl q) = absurd (stay_take i (sym q ∙ e))
      step (inr q) = ltb-true j n.units (and_parts (ltb j n.units) _ (when_in (listener n s u j) q).0).0

  only : {X : Type 0} {x y : X} → In x (y ∷ []) → x ≡ y
  only {x = x} {y} m = step (in_cases m)
    where
      step : (x ≡ y) ⊎ In x [] → x ≡ y
      step (inl e) = e
      step (inr q) = absurd (in_none q)

  act_lawful : (u k : ℕ) (cs : List Choice) (v : ℤ) (a : Action) → u < n.units → (row_at n k).action ≡ a → in_range n.lo n.hi v ≡ true → In cs (combinations n s u a) → lawful n allowed (acted n s u k cs (incoming (unit_at s u) a v)) ≡ true
  act_lawful u k cs v Silent low q h m =
      acted_lawful u k cs (pos 0) (sound_by u k cs (pos 0) low (λ r. absurd (false≢true (sym (ap is_receive q) ∙ r))) (λ j l i e. absurd (none_takes cs j i (only m) e)))
  act_lawful u k cs v (Send o) low q h m =
      let p = and_parts (leb (unit_at s u).location 63) _ (in_use u low) in
      let r = and_parts (in_range n.lo n.hi (unit_at s u).first) (in_range n.lo n.hi (unit_at s u).second) p.1 in
      let a = and_parts (leb (row_at n k).to 63) _ (row_kept n kept k) in
      let b = and_parts (action_in_range n.lo n.hi (row_at n k).action) _ a.1 in
      let sent : in_range n.lo n.hi (reads (unit_at s u) o) ≡ true = reads_kept n (unit_at s u) o r.0 r.1 (sym (ap (action_in_range n.lo n.hi) q) ∙ b.0) in
      acted_lawful u k cs (reads (unit_at s u) o) (sound_by u k cs (reads (unit_at s u) o) low (λ _. sent)
      (λ j l i e. (listener_low u j i (get_or cs j Stay) (rw (get_or-map-range_with_len (choices n s u) 0 6 j j [] l (zero-add j)) at (product_each Stay (map (choices n s u) (range_with_len 0 6)) cs j m l)) e, λ _. sent)))
  act_lawful u k cs v (Fill x) low q h m =
      acted_lawful u k cs v (sound_by u k cs v low (λ _. h) (λ j l i e. absurd (none_takes cs j i (only (when_not (empty (free_part n (unit_at s u))) m)) e)))
    where
      when_not : (b : Bool) → In cs (cond b [] (all_stay ∷ [])) → In cs (all_stay ∷ [])
      when_not true m' = absurd (in_none m')
      when_not false m' = m'

  move_lawful : (u : ℕ) (g : GroupSet) → u < n.units → may_move n allowed s u g ≡ true → lawful n allowed (moved s u g) ≡ true
  move_lawful u g low e =
      let a = and_parts (not (eqb g.bits (unit_at s u).groups.bits)) _ e in
      let b = and_parts (eqb (part n.free g).bits (free_part n (unit_at s u)).bits) (allowed (placed n (moved s u g))) a.1 in
      and_from (every (slot_lawful n (moved s u g)) (range_with_len 0 6)) (allowed (placed n (moved s u g)))
      (written_lawful (λ j. cond (eqb j u) (on_set (unit_at s j) g) (unit_at s j)) n (λ j l. slot j l (cases_eq j u))) b.1
    where
      slot : (j : ℕ) → j < 6 → (j ≡ u) ⊎ (j ≡ u → ⊥) → cond (ltb j n.units) (unit_in_range n (cond (eqb j u) (on_set (unit_at s j) g) (unit_at s j))) (zero_bytes (cond (eqb j u) (on_set (unit_at s j) g) (unit_at s j))) ≡ true
      slot j l (inl q) =
          let low' : j < n.units = subst (λ m. m < n.units) (sym q) low in
          ap (λ b. cond (ltb j n.units) (unit_in_range n (cond b (on_set (unit_at s j) g) (unit_at s j))) (zero_bytes (cond b (on_set (unit_at s j) g) (unit_at s j)))) (eq-eqb j u q)
          ∙ ap (λ b. cond b (unit_in_range n (on_set (unit_at s j) g)) (zero_bytes (on_set (unit_at s j) g))) (lt-ltb j n.units low') ∙ in_use j low'
      slot j l (inr q) =
          ap (λ b. cond (ltb j n.units) (unit_in_range n (cond b (on_set (unit_at s j) g) (unit_at s j))) (zero_bytes (cond b (on_set (unit_at s j) g) (unit_at s j)))) (ne_eqb j u q) ∙ slots j l

  way_lawful : (w : Way) (v : ℤ) → in_range n.lo n.hi v ≡ true → In w (ways n allowed s) → lawful n allowed (landing_of n s w v) ≡ true
  way_lawful w v h m = step (in_either (movements n allowed s) m)
    where
      step : In w (movements n allowed s) ⊎ In w (acts n s) → lawful n allowed (landing_of n s w v) ≡ true
      step (inl q) =
          let p = joined_in (movements_of n allowed s) (range_with_len 0 n.units) q in
          let u = counting_in 0 n.units p.0 p.1.0 in
          let r = in_mapped (λ b. Move p.0 (set_of b)) (filter (λ b. may_move n allowed s p.0 (set_of b)) set_numbers) p.1.1 in
          let y = kept_in (λ b. may_move n allowed s p.0 (set_of b)) set_numbers r.1.0 in
          subst (λ x. lawful n allowed (landing_of n s x v) ≡ true) (sym r.1.1) (move_lawful p.0 (set_of r.0) (omega arith) y.1)
      step (inr q) =
          let p = joined_in (acts_of n s) (range_with_len 0 n.units) q in
          let u = counting_in 0 n.units p.0 p.1.0 in
          let r = joined_in (acts_by n s p.0) (range_with_len 0 (length n.rows)) p.1.1 in
          let y = when_in (enabled (unit_at s p.0) (row_at n r.0)) r.1.1 in
          let z = in_mapped (Act p.0 r.0) (combinations n s p.0 (row_at n r.0).action) y.1 in
          subst (λ x. lawful n allowed (landing_of n s x v) ≡ true) (sym z.1.1) (act_lawful p.0 r.0 z.0 v (row_at n r.0).action (omega arith) refl h z.1.0)

nth_in : {X : Type 0} (xs : List X) (i : ℕ) (x : X) → slice_get xs i ≡ Some x → In x xs
nth_in [] i x e = let z : ◌≡◌ {A = ℕ} 0 1 = cc in absurd (omega arith)
nth_in (y ∷ ys) zero x e = head (cc)
nth_in (y ∷ ys) (suc i) x e = tail (nth_in ys i x e)

pub lands_lawfully : (n : Net) (allowed : List GroupSet → Bool) → n.units ≤ 6 → every (row_in_range n.lo n.hi) n.rows ≡ true → LandsLawfully (network_meaning n allowed)
lands_lawfully n allowed most kept s is i x at v h =
    let p = mapped_from (step_of n s) (lawful_ways n allowed s) i x at in
    let m = when_in (lawful n allowed s) (nth_in (lawful_ways n allowed s) i p.0 p.1) in
    ap (λ (y : Step). lawful n allowed (y.landing v)) (sym p.2) ∙ way_lawful n allowed s most kept is p.0 v h m.1
