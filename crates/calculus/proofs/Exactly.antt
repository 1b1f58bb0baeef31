-- The list has just the steps that can be derived. Assumes nothing.
use Rattle.std.proofs.Common.{◌≡◌, ℕ, zero, suc, ◌+◌, ◌<◌, ◌≤◌, Bool, true, false, cond, not, ◌&&◌, eqb, ◌⊎◌, List, [], ◌∷◌, map, length, get_or, set, replicate, ℤ, pos, Some, filter, sym, refl, ap, ◌∙◌, subst, inl, inr, arith}
use Rattle.std.specs.List.{range_with_len, slice_get}
use Rattle.std.proofs.lemmas.Option.{slice_get-get_or}
use Rattle.std.proofs.lemmas.List.{length-set, get_or-set_same, get_or-set_other}
use Rattle.std.proofs.lemmas.List.FromFn.{fill_by_all}
use Rattle.std.proofs.lemmas.Bool.{and_parts, and_from, eqb-true, eqb-false, ne_eqb, eq-eqb, not-true, not_from_false, cases_eq}
use Rattle.model.specs.declared.unit_state.UnitState.{UnitState}
use Rattle.model.specs.declared.state.State.{State}
use Rattle.model.specs.declared.label.Label.{Label}
use Rattle.model.specs.declared.label.Label.TheVariants.{Silent as Hidden, Movement, Broadcast, Receive}
use Rattle.rows.specs.declared.row.Register.{Register}
use Rattle.rows.specs.declared.row.Action.{Action}
use Rattle.rows.specs.declared.row.Action.TheVariants.{Silent, Broadcast as Send, Receive as Fill}
use Rattle.rows.specs.declared.row.Row.{Row}
use Rattle.ways.specs.declared.way.Way.{Way}
use Rattle.ways.specs.declared.way.Way.TheVariants.{Move, Act}
use Rattle.lists.specs.Products.{product}
use Rattle.rows.specs.Units.{reads, enabled, filled, advanced, taken}
use Rattle.model.specs.Bytes.{zero_unit}
use Rattle.model.specs.GroupSets.{part, empty}
use Rattle.model.specs.declared.group_set.GroupSet.{GroupSet}
use Rattle.ways.specs.declared.way.Choice.{Choice}
use Rattle.ways.specs.declared.way.Choice.TheVariants.{Stay, Take}
use Rattle.ways.specs.Nets.{Net, unit_at, row_at, free_part}
use Rattle.ways.specs.Ways.{choices, combinations, acts_by, acts_of, acts, all_stay}
use Rattle.ways.specs.Landings.{chosen, slot_after, acted, incoming, act_label, label_of, landing_of, placed, moved, step_of}
use Rattle.network.proofs.Sets.{numbers_are}
use Rattle.network.specs.Meanings.{set_of, set_numbers, may_move, movements_of, movements, ways, lawful}
use Rattle.lists.specs.Products.{In, head}
use Rattle.calculus.specs.Calculus.{NodeAction, out, inp, tau, NoOutput, Node, by_tau, by_recv, Parallel, Derives, by_mobility, by_res_tau, by_res_out, by_res_hide, by_res_inp}
use Rattle.calculus.specs.Exactness.{Exact}
use Rattle.lists.proofs.Members.{in_none, in_cases, in_left, in_right, in_either, in_map, in_mapped, in_joined, joined_in, in_counting, counting_in, in_when, when_in, in_kept, kept_in, product_in}
use Rattle.calculus.proofs.Derived.{opts, optlist, landlist}
use Rattle.calculus.proofs.Composed.{stays, alone_from, alone_to, Alone, cast_from, cast_to, Sent}
use Rattle.calculus.proofs.Ascending.{ascending, strict}

-- six units

length_optlist : (t : Net) (G : GroupSet) (U j : ℕ) (xs : List UnitState) → length (optlist t G U j xs) ≡ length xs
length_optlist t G U j [] = refl
length_optlist t G U j (x ∷ xs) = ap suc (length_optlist t G U (suc j) xs)

get_or_optlist : (t : Net) (G : GroupSet) (U j : ℕ) (xs : List UnitState) (i : ℕ) → i < length xs → get_or (optlist t G U j xs) i [] ≡ opts t G U (j + i) (get_or xs i zero_unit)
get_or_optlist t G U j [] i h = absurd (omega arith)
get_or_optlist t G U j (x ∷ xs) zero h = ap (λ n. opts t G U n x) (let e : j ≡ j + 0 = omega arith in e)
get_or_optlist t G U j (x ∷ xs) (suc i) h = get_or_optlist t G U (suc j) xs i (omega arith) ∙ ap (λ n. opts t G U n (get_or xs i zero_unit)) (let e : suc j + i ≡ j + suc i = omega arith in e)

six_choices : (t : Net) (s : State) (u : ℕ) → length s.units ≡ 6 → optlist t (unit_at s u).groups u 0 s.units ≡ map (choices t s u) (range_with_len 0 6)
six_choices t s u six =
    fill_by_all (choices t s u) (optlist t (unit_at s u).groups u 0 s.units) 6 [] (length_optlist t (unit_at s u).groups u 0 s.units ∙ six)
    (λ i h. get_or_optlist t (unit_at s u).groups u 0 s.units i (let l : i < length s.units = omega arith in l) ∙ ap (λ n. opts t (unit_at s u).groups u n (unit_at s i)) (let e : 0 + i ≡ i = omega arith in e))

length_landlist : (t : Net) (v : ℤ) (xs : List UnitState) (hs : List Choice) → length hs ≡ length xs → length (landlist t v xs hs) ≡ length xs
length_landlist t v [] hs e = refl
length_landlist t v (x ∷ xs) [] e = absurd (omega arith)
length_landlist t v (x ∷ xs) (h ∷ hs) e = ap suc (length_landlist t v xs hs (omega arith))

get_or_landlist : (t : Net) (v : ℤ) (xs : List UnitState) (hs : List Choice) (i : ℕ) → length hs ≡ length xs → i < length xs → get_or (landlist t v xs hs) i zero_unit ≡ chosen t (get_or xs i zero_unit) (get_or hs i Stay) v
get_or_landlist t v [] hs i e h = absurd (omega arith)
get_or_landlist t v (x ∷ xs) [] i e h = absurd (omega arith)
get_or_landlist t v (x ∷ xs) (y ∷ hs) zero e h = refl
get_or_landlist t v (x ∷ xs) (y ∷ hs) (suc i) e h = get_or_landlist t v xs hs i (omega arith) (omega arith)

get_or_set_cond : (hs : List Choice) (u i : ℕ) (a : Choice) → i < length hs → get_or (set hs u a) i Stay ≡ cond (eqb i u) a (get_or hs i Stay)
get_or_set_cond hs u i a h = step (cases_eq i u)
  where
    step : (i ≡ u) ⊎ (i ≡ u → ⊥) → get_or (set hs u a) i Stay ≡ cond (eqb i u) a (get_or hs i Stay)
    step (inl e) = ap (λ n. get_or (set hs n a) i Stay) (sym e) ∙ get_or-set_same hs i a Stay h ∙ ap (λ b. cond b a (get_or hs i Stay)) (sym (eq-eqb i u e))
    step (inr d) = get_or-set_other hs u i a Stay d ∙ ap (λ b. cond b a (get_or hs i Stay)) (sym (ne_eqb i u d))

six_lands : (t : Net) (s : State) (u k : ℕ) (hs : List Choice) (v : ℤ) → length s.units ≡ 6 → length hs ≡ 6 → landlist t v s.units (set hs u (Take k)) ≡ map (slot_after t s u k hs v) (range_with_len 0 6)
six_lands t s u k hs v six long =
    let len : length (set hs u (Take k)) ≡ length s.units = length-set hs u (Take k) ∙ long ∙ sym six in
    fill_by_all (slot_after t s u k hs v) (landlist t v s.units (set hs u (Take k))) 6 zero_unit (length_landlist t v s.units (set hs u (Take k)) len ∙ six)
    (λ i h. get_or_landlist t v s.units (set hs u (Take k)) i len (let l : i < length s.units = omega arith in l) ∙ ap (λ c. chosen t (unit_at s i) c v) (get_or_set_cond hs u i (Take k) (let l : i < length hs = omega arith in l)))

length_in_product : {X : Type 0} (os : List (List X)) (hs : List X) → In hs (product os) → length hs ≡ length os
unfolding product
length_in_product [] hs m = step (in_cases m)
  where
    step : (hs ≡ []) ⊎ In hs [] → length hs ≡ 0
    step (inl e) = ap length e
    step (inr n) = absurd (in_none n)
length_in_product (o ∷ os) hs m = let p = product_in o os m in ap length p.1.1.0 ∙ ap suc (length_in_product os p.1.0 p.1.1.1.1)

stays_are : (xs : List UnitState) → stays xs ≡ replicate (length xs) Stay
stays_are [] = refl
stays_are (x ∷ xs) = ap (λ hs. Stay ∷ hs) (stays_are xs)

six_stays : (xs : List UnitState) → length xs ≡ 6 → stays xs ≡ all_stay
six_stays xs six = stays_are xs ∙ ap (λ n. replicate n Stay) six

only : {X : Type 0} {x y : X} → In x (y ∷ []) → x ≡ y
only {x = x} {y} m = step (in_cases m)
  where
    step : (x ≡ y) ⊎ In x [] → x ≡ y
    step (inl e) = e
    step (inr n) = absurd (in_none n)

some_same : (xs : List UnitState) (u : ℕ) (x : UnitState) → u < length xs → slice_get xs u ≡ Some x → x ≡ get_or xs u zero_unit
some_same xs u x h e = let f = slice_get-get_or xs u zero_unit h in (let g : x ≡ get_or xs u zero_unit = cc in g)

-- nothing comes in with a silent row, so it lands alike for all values
get_or_stays : (m j : ℕ) → get_or (replicate m Stay) j Stay ≡ Stay
get_or_stays zero j = refl
get_or_stays (suc m) zero = refl
get_or_stays (suc m) (suc j) = get_or_stays m j

silent_steady : (t : Net) (s : State) (u k : ℕ) (hs : List Choice) → (row_at t k).action ≡ Silent → hs ≡ all_stay → (v w : ℤ) → map (slot_after t s u k hs v) (range_with_len 0 6) ≡ map (slot_after t s u k hs w) (range_with_len 0 6)
silent_steady t s u k hs q z v w = λ i. map (λ j. same j i) (range_with_len 0 6)
  where
    takes : (j : ℕ) (y : ℤ) → taken (unit_at s j) (row_at t k) y ≡ advanced (unit_at s j) (row_at t k)
    takes j y = ap (λ a. advanced (filled (unit_at s j) a y) (row_at t k)) q

    step : (j : ℕ) (b : Bool) → chosen t (unit_at s j) (cond b (Take k) Stay) v ≡ chosen t (unit_at s j) (cond b (Take k) Stay) w
    step j true = takes j v ∙ sym (takes j w)
    step j false = refl

    stay : (j : ℕ) → get_or hs j Stay ≡ Stay
    stay j = ap (λ cs. get_or cs j Stay) z ∙ get_or_stays 6 j

    same : (j : ℕ) → slot_after t s u k hs v j ≡ slot_after t s u k hs w j
    same j =
        ap (λ c. chosen t (unit_at s j) (cond (eqb j u) (Take k) c) v) (stay j) ∙ step j (eqb j u) ∙ ap (λ c. chosen t (unit_at s j) (cond (eqb j u) (Take k) c) w) (sym (stay j))

module _ (t : Net) (allowed : List GroupSet → Bool) (s : State) (most : t.units ≤ 6) (six : length s.units ≡ 6) where
  -- what a step by w comes to
  abbrev Made : Way → Label → Type 0
  Made w l = (f : ℤ → State) × (Derives t allowed s w l f × ((v : ℤ) → f v ≡ landing_of t s w v))

  -- each listed way can be derived

  module _ (u k : ℕ) (hs : List Choice) (h : u < t.units) (l : k < length t.rows) (e : enabled (unit_at s u) (row_at t k) ≡ true) where
    low : u < length s.units
    low = omega arith

    here : slice_get s.units u ≡ Some (unit_at s u)
    here = slice_get-get_or s.units u zero_unit low

    land : (a : Action) → (row_at t k).action ≡ a → (v : ℤ) → acted t s u k hs (incoming (unit_at s u) a v) ≡ landing_of t s (Act u k hs) v
    land a q v = ap (λ b. acted t s u k hs (incoming (unit_at s u) b v)) (sym q)

    abbrev of_units : List UnitState → State
    of_units us = record { units = us }

    quiet : (α : NodeAction) (f : ℤ → UnitState) → NoOutput α → hs ≡ all_stay → Node (unit_at s u) (row_at t k) α f → ((v : ℤ) → f v ≡ taken (unit_at s u) (row_at t k) v) → (g : ℤ → List UnitState) × (Parallel t 0 s.units α u k hs g × ((v : ℤ) → g v ≡ map (slot_after t s u k hs v) (range_with_len 0 6)))
    quiet α f q z n y =
        let same : stays s.units ≡ hs = six_stays s.units six ∙ sym z in
        let b = alone_from t α k (unit_at s u) f q l n y 0 u s.units (omega arith) here in (
          b.0,
          (
            subst (λ c. Parallel t 0 s.units α u k c b.0) same b.1.0,
            λ v. b.1.1 v ∙ ap (λ c. landlist t v s.units (set c u (Take k))) same ∙ six_lands t s u k hs v six (ap length z),
          ),
        )

    act_from : (a : Action) → (row_at t k).action ≡ a → In hs (combinations t s u a) → Made (Act u k hs) (act_label (free_part t (unit_at s u)) (unit_at s u) a)
    act_from Silent q m =
        let b = quiet tau (λ v. advanced (unit_at s u) (row_at t k)) tt (only m) (by_tau e q) (λ v. ap (λ a. advanced (filled (unit_at s u) a v) (row_at t k)) (sym q)) in
        ((λ v. record { units = b.0 v }), (by_res_tau b.1.0, λ v. ap of_units (b.1.1 v ∙ silent_steady t s u k hs q (only m) v (pos 0)) ∙ land Silent q v))
    act_from (Send o) q m =
        let mem : In hs (product (optlist t (unit_at s u).groups u 0 s.units)) = subst (λ os. In hs (product os)) (sym (six_choices t s u six)) m in
        let b = cast_from t k o (unit_at s u) l e q u h 0 u s.units hs (omega arith) here mem in
        let long : length hs ≡ 6 = length_in_product (map (choices t s u) (range_with_len 0 6)) hs m in
        step b.0 b.1.0 (λ v. b.1.1 v ∙ six_lands t s u k hs (reads (unit_at s u) o) six long) (empty (free_part t (unit_at s u))) refl
      where
        step : (g : ℤ → List UnitState) → Parallel t 0 s.units (out (unit_at s u).groups (reads (unit_at s u) o)) u k hs g → ((v : ℤ) → g v ≡ map (slot_after t s u k hs (reads (unit_at s u) o)) (range_with_len 0 6)) → (b : Bool) → empty (free_part t (unit_at s u)) ≡ b → Made (Act u k hs) (cond b Hidden (Broadcast (free_part t (unit_at s u)) (reads (unit_at s u) o)))
        step g c y true z = ((λ v. record { units = g v }), (by_res_hide c z, λ v. ap of_units (y v) ∙ land (Send o) q v))
        step g c y false z = ((λ v. record { units = g v }), (by_res_out c z, λ v. ap of_units (y v) ∙ land (Send o) q v))
    act_from (Fill p) q m = step (empty (free_part t (unit_at s u))) refl m
      where
        step : (b : Bool) → empty (free_part t (unit_at s u)) ≡ b → In hs (cond b [] (all_stay ∷ [])) → Made (Act u k hs) (Receive (free_part t (unit_at s u)))
        step true z n = absurd (in_none n)
        step false z n =
            let b = quiet (inp (unit_at s u).groups) (λ v. advanced (filled (unit_at s u) (Fill p) v) (row_at t k)) tt (only n) (by_recv p e q) (λ v. ap (λ a. advanced (filled (unit_at s u) a v) (row_at t k)) (sym q)) in
            ((λ v. record { units = b.0 v }), (by_res_inp b.1.0 z, λ v. ap of_units (b.1.1 v) ∙ land (Fill p) q v))

  same_set_lem : (g h : GroupSet) → g.bits ≡ h.bits → g ≡ h
  same_set_lem g h e = λ i. record { bits = e i }

  move_from : (u : ℕ) (g : GroupSet) → u < t.units → g.bits < 256 → may_move t allowed s u g ≡ true → Made (Move u g) Movement
  move_from u g h l e =
      let b = and_parts (not (eqb g.bits (unit_at s u).groups.bits)) (eqb (part t.free g).bits (free_part t (unit_at s u)).bits && allowed (placed t (moved s u g))) e in
      let c = and_parts (eqb (part t.free g).bits (free_part t (unit_at s u)).bits) (allowed (placed t (moved s u g))) b.1 in (
        (λ v. moved s u g),
        (
          by_mobility u g h l (eqb-false g.bits (unit_at s u).groups.bits (not-true (eqb g.bits (unit_at s u).groups.bits) b.0))
              (same_set_lem (part t.free g) (free_part t (unit_at s u)) (eqb-true (part t.free g).bits (free_part t (unit_at s u)).bits c.0)) c.1,
          λ v. refl,
        ),
      )

  derived : (w : Way) → In w (ways t allowed s) → Made w (label_of t s w)
  derived w m = step (in_either (movements t allowed s) m)
    where
      step : In w (movements t allowed s) ⊎ In w (acts t s) → Made w (label_of t s w)
      step (inl n) =
          let p = joined_in (movements_of t allowed s) (range_with_len 0 t.units) n in
          let u = counting_in 0 t.units p.0 p.1.0 in
          let q = in_mapped (λ b. Move p.0 (set_of b)) (filter (λ b. may_move t allowed s p.0 (set_of b)) set_numbers) p.1.1 in
          let r = kept_in (λ b. may_move t allowed s p.0 (set_of b)) set_numbers q.1.0 in
          let g = counting_in 0 256 q.0 (subst (In q.0) numbers_are r.0) in
          subst (λ x. Made x (label_of t s x)) (sym q.1.1) (move_from p.0 (set_of q.0) (omega arith) (omega arith) r.1)
      step (inr n) =
          let p = joined_in (acts_of t s) (range_with_len 0 t.units) n in
          let u = counting_in 0 t.units p.0 p.1.0 in
          let q = joined_in (acts_by t s p.0) (range_with_len 0 (length t.rows)) p.1.1 in
          let k = counting_in 0 (length t.rows) q.0 q.1.0 in
          let r = when_in (enabled (unit_at s p.0) (row_at t q.0)) q.1.1 in
          let z = in_mapped (Act p.0 q.0) (combinations t s p.0 (row_at t q.0).action) r.1 in
          subst (λ x. Made x (label_of t s x)) (sym z.1.1) (act_from p.0 q.0 z.0 (omega arith) (omega arith) r.0 (row_at t q.0).action refl z.1.0)

  -- each step that can be derived is listed

  abbrev Listed : Way → Label → (ℤ → State) → Type 0
  Listed w l f = In w (ways t allowed s) × ((l ≡ label_of t s w) × ((v : ℤ) → f v ≡ landing_of t s w v))

  in_acts : (u k : ℕ) (hs : List Choice) → u < t.units → k < length t.rows → enabled (unit_at s u) (row_at t k) ≡ true → In hs (combinations t s u (row_at t k).action) → In (Act u k hs) (ways t allowed s)
  in_acts u k hs h l e m =
      in_right (movements t allowed s)
      (in_joined (acts_of t s) (range_with_len 0 t.units) (in_counting 0 t.units u (omega arith) (omega arith))
      (in_joined (acts_by t s u) (range_with_len 0 (length t.rows)) (in_counting 0 (length t.rows) k (omega arith) (omega arith))
      (in_when (enabled (unit_at s u) (row_at t k)) e (in_map (Act u k) m))))

  tau_inv : {x : UnitState} {r : Row} {f : ℤ → UnitState} → Node x r tau f → (enabled x r ≡ true) × ((r.action ≡ Silent) × ((v : ℤ) → f v ≡ taken x r v))
  tau_inv {x} {r} (by_tau e a) = (e, (a, λ v. ap (λ b. advanced (filled x b v) r) (sym a)))

  inp_inv : {x : UnitState} {r : Row} {G : GroupSet} {f : ℤ → UnitState} → Node x r (inp G) f → (p : Register) × ((enabled x r ≡ true) × ((r.action ≡ Fill p) × ((G ≡ x.groups) × ((v : ℤ) → f v ≡ taken x r v))))
  inp_inv {x} {r} (by_recv p e a) = (p, (e, (a, (refl, λ v. ap (λ b. advanced (filled x b v) r) (sym a)))))

  module _ (u k : ℕ) (hs : List Choice) where
    listed_tau : (f : ℤ → List UnitState) → Alone t 0 s.units tau u k hs f → Listed (Act u k hs) Hidden (λ v. record { units = f v })
    listed_tau f d =
        let h : u < t.units = omega (arith, d.unit) in
        let same = some_same s.units u d.who (omega arith) d.at in
        let n = tau_inv d.node in
        let none : hs ≡ all_stay = d.quiet ∙ six_stays s.units six in (
          in_acts u k hs h d.row (subst (λ x. enabled x (row_at t k) ≡ true) same n.0) (subst (λ a. In hs (combinations t s u a)) (sym n.1.0) (head none)),
          (
            ap (act_label (free_part t (unit_at s u)) (unit_at s u)) (sym n.1.0),
            λ v. ap (λ (us : List UnitState). let r : State = record { units = us } in r) (d.lands n.1.1 v ∙ six_lands t s u k hs v six (ap length none) ∙ silent_steady t s u k hs n.1.0 none v (pos 0)) ∙ ap (λ a. acted t s u k hs (incoming (unit_at s u) a v)) (sym n.1.0),
          ),
        )

    listed_inp : (G : GroupSet) (f : ℤ → List UnitState) → Alone t 0 s.units (inp G) u k hs f → empty (part t.free G) ≡ false → Listed (Act u k hs) (Receive (part t.free G)) (λ v. record { units = f v })
    listed_inp G f d c =
        let h : u < t.units = omega (arith, d.unit) in
        let same = some_same s.units u d.who (omega arith) d.at in
        let n = inp_inv d.node in
        let on : G ≡ (unit_at s u).groups = n.1.1.1.0 ∙ ap (λ (x : UnitState). x.groups) same in
        let none : hs ≡ all_stay = d.quiet ∙ six_stays s.units six in
        let free : empty (free_part t (unit_at s u)) ≡ false = ap (λ x. empty (part t.free x)) (sym on) ∙ c in
        let mem : In hs (combinations t s u (Fill n.0)) = subst (λ b. In hs (cond b [] (all_stay ∷ []))) (sym free) (head none) in (
          in_acts u k hs h d.row (subst (λ x. enabled x (row_at t k) ≡ true) same n.1.0) (subst (λ a. In hs (combinations t s u a)) (sym n.1.1.0) mem),
          (
            ap (λ x. Receive (part t.free x)) on ∙ ap (act_label (free_part t (unit_at s u)) (unit_at s u)) (sym n.1.1.0),
            λ v. ap (λ (us : List UnitState). let r : State = record { units = us } in r) (d.lands n.1.1.1.1 v ∙ six_lands t s u k hs v six (ap length none)) ∙ ap (λ a. acted t s u k hs (incoming (unit_at s u) a v)) (sym n.1.1.0),
          ),
        )

    listed_out : (G : GroupSet) (w : ℤ) (f : ℤ → List UnitState) (l : Label) → Sent t 0 s.units G w u k hs f → l ≡ cond (empty (part t.free G)) Hidden (Broadcast (part t.free G) w) → Listed (Act u k hs) l (λ v. record { units = f v })
    listed_out G w f l d is =
        let h : u < t.units = omega (arith, d.unit) in
        let same = some_same s.units u d.who (omega arith) d.at in
        let on : G ≡ (unit_at s u).groups = d.on ∙ ap (λ (x : UnitState). x.groups) same in
        let says : w ≡ reads (unit_at s u) d.what = d.value ∙ ap (λ x. reads x d.what) same in
        let z : 0 + u ≡ u = omega arith in
        let mem : In hs (product (map (choices t s u) (range_with_len 0 6))) = subst (λ os. In hs (product os)) (six_choices t s u six) (subst (λ x. In hs (product (optlist t x u 0 s.units))) on (subst (λ U. In hs (product (optlist t G U 0 s.units))) z d.chosen)) in
        let long : length hs ≡ 6 = length_in_product (map (choices t s u) (range_with_len 0 6)) hs mem in (
          in_acts u k hs h d.row (subst (λ x. enabled x (row_at t k) ≡ true) same d.may) (subst (λ a. In hs (combinations t s u a)) (sym d.sends) mem),
          (
            is ∙ ap (λ x. cond (empty (part t.free x)) Hidden (Broadcast (part t.free x) w)) on ∙ ap (λ x. cond (empty (free_part t (unit_at s u))) Hidden (Broadcast (free_part t (unit_at s u)) x)) says ∙ ap (act_label (free_part t (unit_at s u)) (unit_at s u)) (sym d.sends),
            λ v. ap (λ (us : List UnitState). let r : State = record { units = us } in r) (d.lands v ∙ six_lands t s u k hs w six long) ∙ ap (acted t s u k hs) says ∙ ap (λ a. acted t s u k hs (incoming (unit_at s u) a v)) (sym d.sends),
          ),
        )

  listed : (w : Way) (l : Label) (f : ℤ → State) → Derives t allowed s w l f → Listed w l f
  listed w l f (by_mobility u g h g-low other free ok) = (
    in_left (acts t s) (in_joined (movements_of t allowed s) (range_with_len 0 t.units) (in_counting 0 t.units u (omega arith) (omega arith))
        (in_map (λ b. Move u (set_of b)) (in_kept (λ b. may_move t allowed s u (set_of b)) set_numbers (subst (In g.bits) (sym numbers_are) (in_counting 0 256 g.bits (omega arith) (omega arith)))
        (and_from (not (eqb g.bits (unit_at s u).groups.bits)) (eqb (part t.free g).bits (free_part t (unit_at s u)).bits && allowed (placed t (moved s u g)))
        (not_from_false (eqb g.bits (unit_at s u).groups.bits) (ne_eqb g.bits (unit_at s u).groups.bits other))
        (and_from (eqb (part t.free g).bits (free_part t (unit_at s u)).bits) (allowed (placed t (moved s u g))) (eq-eqb (part t.free g).bits (free_part t (unit_at s u)).bits (ap (λ (x : GroupSet). x.bits) free)) ok))))),
    (refl, λ v. refl),
  )
  listed w l f (by_res_tau {u = u} {k = k} {cs = hs} {f = g} d) = listed_tau u k hs g (alone_to d tt)
  listed w l f (by_res_out {u = u} {k = k} {G = G} {w = x} {cs = hs} {f = g} d c) = listed_out u k hs G x g (Broadcast (part t.free G) x) (cast_to d) (ap (λ b. cond b Hidden (Broadcast (part t.free G) x)) (sym c))
  listed w l f (by_res_hide {u = u} {k = k} {G = G} {w = x} {cs = hs} {f = g} d c) = listed_out u k hs G x g Hidden (cast_to d) (ap (λ b. cond b Hidden (Broadcast (part t.free G) x)) (sym c))
  listed w l f (by_res_inp {u = u} {k = k} {G = G} {cs = hs} {f = g} d c) = listed_inp u k hs G g (alone_to d tt) c

  pub exact : lawful t allowed s ≡ true → Exact t allowed s
  exact lawfully =
      record {
        steps = ap (λ b. map (step_of t s) (cond b (ways t allowed s) [])) lawfully;
        ascending = ascending t s allowed;
        strict = strict;
        derived = derived;
        listed = listed;
      }
