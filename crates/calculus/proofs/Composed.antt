-- The acts, by the rules of the calculus and by the lists. Assumes nothing.
use Rattle.std.proofs.Common.{◌≡◌, ℕ, zero, suc, ◌+◌, ◌<◌, true, ◌⊎◌, List, [], ◌∷◌, map, length, set, ℤ, Some, sym, refl, ap, ◌∙◌, subst, inl, inr, arith}
use Rattle.std.specs.List.{slice_get}
use Rattle.model.specs.declared.unit_state.UnitState.{UnitState}
use Rattle.rows.specs.declared.row.Operand.{Operand}
use Rattle.rows.specs.declared.row.Action.TheVariants.{Broadcast as Send}
use Rattle.rows.specs.declared.row.Row.{Row}
use Rattle.lists.specs.Products.{product}
use Rattle.rows.specs.Units.{reads, enabled, receivable, filled, advanced, taken}
use Rattle.ways.specs.declared.way.Choice.{Choice}
use Rattle.ways.specs.declared.way.Choice.TheVariants.{Stay, Take}
use Rattle.ways.specs.Nets.{Net, row_at, idle}
use Rattle.model.specs.GroupSets.{linked}
use Rattle.model.specs.declared.group_set.GroupSet.{GroupSet}
use Rattle.ways.specs.Landings.{chosen}
use Rattle.lists.specs.Products.{In, head}
use Rattle.calculus.specs.Calculus.{NodeAction, out, NoOutput, Node, by_mcast, Beside, Parallel, by_alone, by_send, by_par, by_com}
use Rattle.lists.proofs.Members.{in_product, product_in}
use Rattle.calculus.proofs.Derived.{opts, optlist, landlist, some_row, the_row, recv, recv_inv, Listens, opts_in, in_opts, beside_from, beside_to}

-- allStay else does anything
abbrev pub stays : List UnitState → List Choice
stays xs = map (λ _. Stay) xs

pub land_stays : (t : Net) (v : ℤ) (xs : List UnitState) → landlist t v xs (stays xs) ≡ xs
land_stays t v [] = refl
land_stays t v (x ∷ xs) = ap (λ ys. x ∷ ys) (land_stays t v xs)

-- an act that allStay isReceive

pub alone_from : (t : Net) (α : NodeAction) (k : ℕ) (x₀ : UnitState) (f : ℤ → UnitState) → NoOutput α → k < length t.rows → Node x₀ (row_at t k) α f → ((v : ℤ) → f v ≡ taken x₀ (row_at t k) v) → (j u : ℕ) (xs : List UnitState) → j + u < t.units → slice_get xs u ≡ Some x₀ → (g : ℤ → List UnitState) × (Parallel t j xs α u k (stays xs) g × ((v : ℤ) → g v ≡ landlist t v xs (set (stays xs) u (Take k))))
alone_from t α k x₀ f q l n e j u [] h s = absurd (let z : ◌≡◌ {A = ℕ} 0 1 = cc in omega arith)
alone_from t α k x₀ f q l n e j zero (x ∷ xs) h s =
    let same : x₀ ≡ x = cc in (
      (λ v. f v ∷ xs),
      (
        by_alone k (row_at t k) (omega arith) (the_row t k l) (subst (λ y. Node y (row_at t k) α f) same n) q,
        λ v. ap (λ y. y ∷ xs) (e v ∙ ap (λ y. taken y (row_at t k) v) same) ∙ ap (λ ys. taken x (row_at t k) v ∷ ys) (sym (land_stays t v xs)),
      ),
    )
alone_from t α k x₀ f q l n e j (suc u) (x ∷ xs) h s =
    let b = alone_from t α k x₀ f q l n e (suc j) u xs (omega arith) s in
    ((λ v. x ∷ b.0 v), (by_par b.1.0, λ v. ap (λ ys. x ∷ ys) (b.1.1 v)))

pub record Alone (t : Net) (j : ℕ) (xs : List UnitState) (α : NodeAction) (u k : ℕ) (hs : List Choice) (g : ℤ → List UnitState) : Type 0 where
  pub who : UnitState
  pub at : slice_get xs u ≡ Some who
  pub unit : j + u < t.units
  pub row : k < length t.rows
  pub to : ℤ → UnitState
  pub node : Node who (row_at t k) α to
  pub quiet : hs ≡ stays xs
  pub lands : ((v : ℤ) → to v ≡ taken who (row_at t k) v) → (v : ℤ) → g v ≡ landlist t v xs (set hs u (Take k))

pub alone_to : {t : Net} {j : ℕ} {xs : List UnitState} {α : NodeAction} {u k : ℕ} {hs : List Choice} {g : ℤ → List UnitState} → Parallel t j xs α u k hs g → NoOutput α → Alone t j xs α u k hs g
alone_to {t} (by_alone {j = j} {x = x} {xs = xs} {α = α} {f = f} k r h e n q) m =
    let w = some_row idle t.rows k r e in
    record {
      who = x;
      at = refl;
      unit = omega arith;
      row = w.0;
      to = f;
      node = subst (λ a. Node x a α f) w.1 n;
      quiet = refl;
      lands = λ y v. ap (λ z. z ∷ xs) (y v) ∙ ap (λ ys. taken x (row_at t k) v ∷ ys) (sym (land_stays t v xs));
    }
alone_to (by_send k r h e n d) m = absurd m
alone_to (by_par {j = j} {x = x} {u = u} d) m =
    let b = alone_to d m in
    record {
      who = b.who;
      at = b.at;
      unit = omega (arith, b.unit);
      row = b.row;
      to = b.to;
      node = b.node;
      quiet = ap (λ hs. Stay ∷ hs) b.quiet;
      lands = λ y v. ap (λ ys. x ∷ ys) (b.lands y v);
    }
alone_to (by_com k r h e n c d) m = absurd m

-- a broadcast

sent_lands : (x : UnitState) (r : Row) (o : Operand) (v : ℤ) → r.action ≡ Send o → advanced x r ≡ taken x r v
sent_lands x r o v e = ap (λ a. advanced (filled x a v) r) (sym e)

abbrev Sends : Net → UnitState → Operand → ℕ → ℕ → ℕ → List UnitState → List Choice → Type 0
Sends t x₀ o k j u xs hs = (g : ℤ → List UnitState) × (Parallel t j xs (out x₀.groups (reads x₀ o)) u k hs g × ((v : ℤ) → g v ≡ landlist t (reads x₀ o) xs (set hs u (Take k))))

module _ (t : Net) (k : ℕ) (o : Operand) (x₀ : UnitState) (l : k < length t.rows) (e : enabled x₀ (row_at t k) ≡ true) (a : (row_at t k).action ≡ Send o) (U : ℕ) (h : U < t.units) where
  pub cast_from : (j u : ℕ) (xs : List UnitState) (hs : List Choice) → j + u ≡ U → slice_get xs u ≡ Some x₀ → In hs (product (optlist t x₀.groups U j xs)) → Sends t x₀ o k j u xs hs
  cast_from j u [] hs i s m = absurd (let z : ◌≡◌ {A = ℕ} 0 1 = cc in omega arith)
  cast_from j zero (x ∷ xs) hs i s m =
      let same : x₀ ≡ x = cc in
      let p = product_in (opts t x₀.groups U j x) (optlist t x₀.groups U (suc j) xs) m in
      let below = beside_from t x₀.groups (reads x₀ o) U (suc j) xs p.1.0 (omega arith) p.1.1.1.1 in
      subst (λ hs. Sends t x₀ o k j zero (x ∷ xs) hs) (sym p.1.1.0) (step same p.0 p.1.0 below (opts_in t x₀.groups U j x p.0 p.1.1.1.0))
    where
      step : x₀ ≡ x → (c : Choice) (ks : List Choice) → Beside t x₀.groups (reads x₀ o) (suc j) xs ks (landlist t (reads x₀ o) xs ks) → (c ≡ Stay) ⊎ ((r : ℕ) × ((c ≡ Take r) × Listens t x₀.groups U j x r)) → Sends t x₀ o k j zero (x ∷ xs) (c ∷ ks)
      step same c ks below (inl z) =
          subst (λ b. Sends t x₀ o k j zero (x ∷ xs) (b ∷ ks)) (sym z) (
            (λ v. advanced x (row_at t k) ∷ landlist t (reads x₀ o) xs ks),
            (
              by_send k (row_at t k) (omega arith) (the_row t k l) (subst (λ y. Node x (row_at t k) (out y.groups (reads y o)) (λ v. advanced x (row_at t k))) (sym same) (by_mcast o (subst (λ y. enabled y (row_at t k) ≡ true) same e) a)) below,
              λ v. ap (λ y. y ∷ landlist t (reads x₀ o) xs ks) (sent_lands x (row_at t k) o (reads x₀ o) a),
            ),
          )
      step same c ks below (inr q) = absurd (q.1.1.other (omega arith))
  cast_from j (suc u) (x ∷ xs) hs i s m =
      let p = product_in (opts t x₀.groups U j x) (optlist t x₀.groups U (suc j) xs) m in
      let below = cast_from (suc j) u xs p.1.0 (omega arith) s p.1.1.1.1 in
      subst (λ hs. Sends t x₀ o k j (suc u) (x ∷ xs) hs) (sym p.1.1.0) (step p.0 p.1.0 below (opts_in t x₀.groups U j x p.0 p.1.1.1.0))
    where
      step : (c : Choice) (ks : List Choice) → Sends t x₀ o k (suc j) u xs ks → (c ≡ Stay) ⊎ ((r : ℕ) × ((c ≡ Take r) × Listens t x₀.groups U j x r)) → Sends t x₀ o k j (suc u) (x ∷ xs) (c ∷ ks)
      step c ks below (inl z) =
          subst (λ b. Sends t x₀ o k j (suc u) (x ∷ xs) (b ∷ ks)) (sym z) ((λ v. x ∷ below.0 v), (by_par below.1.0, λ v. ap (λ ys. x ∷ ys) (below.1.1 v)))
      step c ks below (inr q) =
          let r = recv x (row_at t q.0) q.1.1.may in
          subst (λ b. Sends t x₀ o k j (suc u) (x ∷ xs) (b ∷ ks)) (sym q.1.0) (
            (λ v. r.0 (reads x₀ o) ∷ below.0 v),
            (
              by_com q.0 (row_at t q.0) q.1.1.unit (the_row t q.0 q.1.1.row) r.1.0 q.1.1.shares below.1.0,
              λ v. ap (λ y. y ∷ below.0 v) (r.1.1 (reads x₀ o)) ∙ ap (λ ys. taken x (row_at t q.0) (reads x₀ o) ∷ ys) (below.1.1 v),
            ),
          )

pub record Sent (t : Net) (j : ℕ) (xs : List UnitState) (G : GroupSet) (w : ℤ) (u k : ℕ) (hs : List Choice) (g : ℤ → List UnitState) : Type 0 where
  pub who : UnitState
  pub what : Operand
  pub at : slice_get xs u ≡ Some who
  pub unit : j + u < t.units
  pub row : k < length t.rows
  pub may : enabled who (row_at t k) ≡ true
  pub sends : (row_at t k).action ≡ Send what
  pub on : G ≡ who.groups
  pub value : w ≡ reads who what
  pub chosen : In hs (product (optlist t G (j + u) j xs))
  pub lands : (v : ℤ) → g v ≡ landlist t w xs (set hs u (Take k))

mcast_inv : {x : UnitState} {r : Row} {G : GroupSet} {w : ℤ} {f : ℤ → UnitState} → Node x r (out G w) f → (o : Operand) × ((enabled x r ≡ true) × ((r.action ≡ Send o) × ((G ≡ x.groups) × ((w ≡ reads x o) × ((v : ℤ) → f v ≡ advanced x r)))))
mcast_inv (by_mcast o e a) = (o, (e, (a, (refl, (refl, λ v. refl)))))

-- one unit more in front
cast_more : (t : Net) (j : ℕ) (x : UnitState) (xs : List UnitState) (G : GroupSet) (w : ℤ) (u k : ℕ) (hs : List Choice) (g : ℤ → List UnitState) (h : Choice) (y : UnitState) → In h (opts t G (j + suc u) j x) → y ≡ chosen t x h w → Sent t (suc j) xs G w u k hs g → Sent t j (x ∷ xs) G w (suc u) k (h ∷ hs) (λ v. y ∷ g v)
cast_more t j x xs G w u k hs g h y m e b =
    let same : suc j + u ≡ j + suc u = omega arith in
    record {
      who = b.who;
      what = b.what;
      at = b.at;
      unit = omega (arith, b.unit);
      row = b.row;
      may = b.may;
      sends = b.sends;
      on = b.on;
      value = b.value;
      chosen = in_product (opts t G (j + suc u) j x) (optlist t G (j + suc u) (suc j) xs) m (subst (λ U. In hs (product (optlist t G U (suc j) xs))) same b.chosen);
      lands = λ v. ap (λ z. z ∷ g v) e ∙ ap (λ zs. chosen t x h w ∷ zs) (b.lands v);
    }

pub cast_to : {t : Net} {j : ℕ} {xs : List UnitState} {G : GroupSet} {w : ℤ} {u k : ℕ} {hs : List Choice} {g : ℤ → List UnitState} → Parallel t j xs (out G w) u k hs g → Sent t j xs G w u k hs g
cast_to (by_alone k r h e n q) = absurd q
cast_to {t} (by_send {j = j} {x = x} {xs = xs} {G = G} {w = w} {cs = hs} {ys = ys} {f = f} k r h e n d) =
    let y = some_row idle t.rows k r e in
    let i = mcast_inv n in
    let b = beside_to d (j + 0) (omega arith) in
    let act : (row_at t k).action ≡ Send i.0 = ap (λ (a : Row). a.action) (sym y.1) ∙ i.1.1.0 in
    record {
      who = x;
      what = i.0;
      at = refl;
      unit = omega arith;
      row = y.0;
      may = subst (λ a. enabled x a ≡ true) y.1 i.1.0;
      sends = act;
      on = i.1.1.1.0;
      value = i.1.1.1.1.0;
      chosen = in_product (opts t G (j + 0) j x) (optlist t G (j + 0) (suc j) xs) (head refl) b.0;
      lands = λ v. ap (λ z. z ∷ ys) (i.1.1.1.1.1 v ∙ ap (advanced x) y.1 ∙ sent_lands x (row_at t k) i.0 w act) ∙ ap (λ zs. taken x (row_at t k) w ∷ zs) b.1;
    }
cast_to {t} (by_par {j = j} {x = x} {xs = xs} {u = u} {k = k} {cs = hs} d) = cast_more t j x xs _ _ u k hs _ Stay x (head refl) refl (cast_to d)
cast_to {t} (by_com {j = j} {x = x} {xs = xs} {G = G} {w = w} {u = u} {k = k} {cs = hs} {f = f} {g = g} k' r h e n c d) =
    let i = recv_inv n in
    let y = some_row idle t.rows k' r e in
    cast_more t j x xs G w u k hs f (Take k') (g w)
    (in_opts t G (j + suc u) j x k' (record { unit = h; other = λ q. omega arith; shares = ap (linked G) (sym i.0) ∙ c; row = y.0; may = subst (λ a. receivable x a ≡ true) y.1 i.1.0 }))
    (i.1.1 w ∙ ap (λ a. taken x a w) y.1) (cast_to d)
