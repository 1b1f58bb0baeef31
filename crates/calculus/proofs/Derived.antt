-- The choices of the units, by the rules of the calculus and by the lists. Assumes nothing.
use Rattle.std.proofs.Common.{◌≡◌, ℕ, zero, suc, ◌<◌, true, cond, not, ◌&&◌, eqb, ltb, ◌⊎◌, List, [], ◌∷◌, map, length, get_or, ℤ, Some, filter, sym, refl, ap, ◌∙◌, subst, inl, inr, arith}
use Rattle.std.specs.List.{range_with_len, slice_get}
use Rattle.std.proofs.lemmas.Option.{slice_get-get_or}
use Rattle.std.proofs.lemmas.Bool.{and_parts, and_from, eqb-false, ne_eqb, ltb-true, lt-ltb, not-true, not_from_false, false≢true}
use Rattle.model.specs.declared.unit_state.UnitState.{UnitState}
use Rattle.rows.specs.declared.row.Register.{Register}
use Rattle.rows.specs.declared.row.Action.{Action}
use Rattle.rows.specs.declared.row.Action.TheVariants.{Silent, Broadcast as Send, Receive as Fill}
use Rattle.rows.specs.declared.row.Row.{Row}
use Rattle.lists.specs.Products.{product}
use Rattle.rows.specs.Units.{enabled, is_receive, receivable, filled, advanced, taken}
use Rattle.ways.specs.declared.way.Choice.{Choice}
use Rattle.ways.specs.declared.way.Choice.TheVariants.{Stay, Take}
use Rattle.ways.specs.Nets.{Net, row_at, idle}
use Rattle.model.specs.GroupSets.{linked}
use Rattle.model.specs.declared.group_set.GroupSet.{GroupSet}
use Rattle.ways.specs.Landings.{chosen}
use Rattle.lists.specs.Products.{In, head, tail}
use Rattle.calculus.specs.Calculus.{inp, Node, by_recv, Beside, by_nil, by_par, by_com}
use Rattle.lists.proofs.Members.{in_none, in_cases, in_map, in_mapped, in_counting, counting_in, in_when, when_in, in_kept, kept_in, in_product, product_in}

-- the choices of the unit x, of number j, while the unit U sends on G
abbrev pub opts : Net → GroupSet → ℕ → ℕ → UnitState → List Choice
opts t G U j x = Stay ∷ cond (ltb j t.units && (not (eqb j U) && linked G x.groups)) (map Take (filter (λ k. receivable x (row_at t k)) (range_with_len 0 (length t.rows)))) []

abbrev pub optlist : Net → GroupSet → ℕ → ℕ → List UnitState → List (List Choice)
optlist t G U j [] = []
optlist t G U j (x ∷ xs) = opts t G U j x ∷ optlist t G U (suc j) xs

-- where the units come to
abbrev pub landlist : Net → ℤ → List UnitState → List Choice → List UnitState
landlist t v [] hs = []
landlist t v (x ∷ xs) [] = []
landlist t v (x ∷ xs) (h ∷ hs) = chosen t x h v ∷ landlist t v xs hs

-- a row by its number

pub some_row : {X : Type 0} (d : X) (xs : List X) (k : ℕ) (r : X) → slice_get xs k ≡ Some r → (k < length xs) × (r ≡ get_or xs k d)
some_row d [] k r e = absurd (let z : ◌≡◌ {A = ℕ} 0 1 = cc in omega arith)
some_row d (x ∷ xs) zero r e = (omega arith, (let f : r ≡ x = cc in f))
some_row d (x ∷ xs) (suc k) r e = let s = some_row d xs k r e in (omega arith, s.1)

pub the_row : (t : Net) (k : ℕ) → k < length t.rows → slice_get t.rows k ≡ Some (row_at t k)
the_row t k h = slice_get-get_or t.rows k idle h

-- one node

receive_of : (a : Action) → is_receive a ≡ true → (p : Register) × (a ≡ Fill p)
receive_of Silent e = absurd (false≢true e)
receive_of (Send o) e = absurd (false≢true e)
receive_of (Fill p) e = (p, refl)

pub recv : (x : UnitState) (r : Row) → receivable x r ≡ true → (f : ℤ → UnitState) × (Node x r (inp x.groups) f × ((v : ℤ) → f v ≡ taken x r v))
recv x r e =
    let b = and_parts (enabled x r) (is_receive r.action) e in
    let p = receive_of r.action b.1 in
    ((λ v. advanced (filled x (Fill p.0) v) r), (by_recv p.0 b.0 p.1, λ v. ap (λ a. advanced (filled x a v) r) (sym p.1)))

pub recv_inv : {x : UnitState} {r : Row} {G : GroupSet} {f : ℤ → UnitState} → Node x r (inp G) f → (G ≡ x.groups) × ((receivable x r ≡ true) × ((v : ℤ) → f v ≡ taken x r v))
recv_inv {x} {r} (by_recv p e a) = (refl, (and_from (enabled x r) (is_receive r.action) e (ap is_receive a), λ v. ap (λ b. advanced (filled x b v) r) (sym a)))

-- one listener

pub record Listens (t : Net) (G : GroupSet) (U j : ℕ) (x : UnitState) (k : ℕ) : Type 0 where
  pub unit : j < t.units
  pub other : j ≡ U → ⊥
  pub shares : linked G x.groups ≡ true
  pub row : k < length t.rows
  pub may : receivable x (row_at t k) ≡ true

pub opts_in : (t : Net) (G : GroupSet) (U j : ℕ) (x : UnitState) (h : Choice) → In h (opts t G U j x) → (h ≡ Stay) ⊎ ((k : ℕ) × ((h ≡ Take k) × Listens t G U j x k))
opts_in t G U j x h m = step (in_cases m)
  where
    step : (h ≡ Stay) ⊎ In h (cond (ltb j t.units && (not (eqb j U) && linked G x.groups)) (map Take (filter (λ k. receivable x (row_at t k)) (range_with_len 0 (length t.rows)))) []) → (h ≡ Stay) ⊎ ((k : ℕ) × ((h ≡ Take k) × Listens t G U j x k))
    step (inl e) = inl e
    step (inr n) =
        let w = when_in (ltb j t.units && (not (eqb j U) && linked G x.groups)) n in
        let b = and_parts (ltb j t.units) (not (eqb j U) && linked G x.groups) w.0 in
        let d = and_parts (not (eqb j U)) (linked G x.groups) b.1 in
        let q = in_mapped Take (filter (λ k. receivable x (row_at t k)) (range_with_len 0 (length t.rows))) w.1 in
        let p = kept_in (λ k. receivable x (row_at t k)) (range_with_len 0 (length t.rows)) q.1.0 in
        let c = counting_in 0 (length t.rows) q.0 p.0 in
        inr (
          q.0,
          (
            q.1.1,
            record {
              unit = ltb-true j t.units b.0;
              other = eqb-false j U (not-true (eqb j U) d.0);
              shares = d.1;
              row = omega arith;
              may = p.1;
            },
          ),
        )

pub in_opts : (t : Net) (G : GroupSet) (U j : ℕ) (x : UnitState) (k : ℕ) → Listens t G U j x k → In (Take k) (opts t G U j x)
in_opts t G U j x k h =
    tail (in_when (ltb j t.units && (not (eqb j U) && linked G x.groups))
    (and_from (ltb j t.units) (not (eqb j U) && linked G x.groups) (lt-ltb j t.units h.unit)
    (and_from (not (eqb j U)) (linked G x.groups) (not_from_false (eqb j U) (ne_eqb j U h.other)) h.shares))
    (in_map Take (in_kept (λ k. receivable x (row_at t k)) (range_with_len 0 (length t.rows)) (in_counting 0 (length t.rows) k (omega arith) (omega (arith, h.row))) h.may)))

-- those beside a sender

module _ (t : Net) (G : GroupSet) (v : ℤ) (U : ℕ) where
  pub beside_from : (j : ℕ) (xs : List UnitState) (hs : List Choice) → U < j → In hs (product (optlist t G U j xs)) → Beside t G v j xs hs (landlist t v xs hs)
  unfolding product
  beside_from j [] hs l m = step (in_cases m)
    where
      step : (hs ≡ []) ⊎ In hs [] → Beside t G v j [] hs (landlist t v [] hs)
      step (inl e) = subst (λ h. Beside t G v j [] h (landlist t v [] h)) (sym e) by_nil
      step (inr n) = absurd (in_none n)
  beside_from j (x ∷ xs) hs l m =
      let p = product_in (opts t G U j x) (optlist t G U (suc j) xs) m in
      subst (λ h. Beside t G v j (x ∷ xs) h (landlist t v (x ∷ xs) h)) (sym p.1.1.0)
      (step p.0 p.1.0 (beside_from (suc j) xs p.1.0 (omega arith) p.1.1.1.1) (opts_in t G U j x p.0 p.1.1.1.0))
    where
      step : (h : Choice) (ks : List Choice) → Beside t G v (suc j) xs ks (landlist t v xs ks) → (h ≡ Stay) ⊎ ((k : ℕ) × ((h ≡ Take k) × Listens t G U j x k)) → Beside t G v j (x ∷ xs) (h ∷ ks) (landlist t v (x ∷ xs) (h ∷ ks))
      step h ks below (inl e) = subst (λ a. Beside t G v j (x ∷ xs) (a ∷ ks) (landlist t v (x ∷ xs) (a ∷ ks))) (sym e) (by_par below)
      step h ks below (inr q) =
          let k = q.0 in
          let r = recv x (row_at t k) q.1.1.may in
          subst (λ a. Beside t G v j (x ∷ xs) (a ∷ ks) (landlist t v (x ∷ xs) (a ∷ ks))) (sym q.1.0)
          (subst (λ y. Beside t G v j (x ∷ xs) (Take k ∷ ks) (y ∷ landlist t v xs ks)) (r.1.1 v) (by_com k (row_at t k) q.1.1.unit (the_row t k q.1.1.row) r.1.0 q.1.1.shares below))

pub beside_to : {t : Net} {G : GroupSet} {v : ℤ} {j : ℕ} {xs : List UnitState} {hs : List Choice} {ys : List UnitState} → Beside t G v j xs hs ys → (U : ℕ) → U < j → In hs (product (optlist t G U j xs)) × (ys ≡ landlist t v xs hs)
unfolding product
beside_to by_nil U l = (head refl, refl)
beside_to {t} {G} {v} (by_par {j = j} {x = x} {xs = xs} d) U l =
    let b = beside_to d U (omega arith) in
    (in_product (opts t G U j x) (optlist t G U (suc j) xs) (head refl) b.0, ap (λ ys. x ∷ ys) b.1)
beside_to {t} {G} {v} (by_com {j = j} {x = x} {xs = xs} {cs = hs} {ys = ys} {f = f} k r u e n c d) U l =
    let b = beside_to d U (omega arith) in
    let i = recv_inv n in
    let w = some_row idle t.rows k r e in (
      in_product (opts t G U j x) (optlist t G U (suc j) xs) (in_opts t G U j x k (record { unit = u; other = λ q. omega arith; shares = ap (linked G) (sym i.0) ∙ c; row = w.0; may = subst (λ a. receivable x a ≡ true) w.1 i.1.0 })) b.0,
      ap (λ y. y ∷ ys) (i.1.1 v ∙ ap (λ a. taken x a v) w.1) ∙ ap (λ zs. taken x (row_at t k) v ∷ zs) b.1,
    )
