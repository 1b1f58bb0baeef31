-- Each test of sameness decides equality. Assumes nothing.
use Rattle.std.proofs.Common.{◌≡◌, ℕ, true, false, ◌&&◌, List, [], ◌∷◌, ℤ, ◌≤ℤ◌, Decides, sym, refl, ap, arith}
use lib.Signed.{le_z}
use Rattle.std.proofs.lemmas.Int.{ints}
use Rattle.std.proofs.lemmas.Bool.Decides.{Decides-and, Decides-eqb, Decides-like}
use Rattle.std.proofs.lemmas.Bool.{and_parts, and_from}
use Rattle.model.specs.declared.group_set.GroupSet.{GroupSet}
use Rattle.model.specs.declared.label.Label.{Label}
use Rattle.model.specs.declared.label.Label.TheVariants.{Silent, Movement, Broadcast, Receive}
use Rattle.model.specs.declared.state.Pair.{Pair}
use Rattle.model.specs.declared.state.State.{State}
use Rattle.model.specs.declared.unit_state.UnitState.{UnitState}
use Rattle.model.specs.Alike.{same_value, same_set, same_unit, same_units, same_state, same_pair, same_label}

pub le_z_le : (v w : ℤ) → le_z v w ≡ true → v ≤ℤ w
le_z_le v w e = omega (arith, ints)

pub le_le_z : (v w : ℤ) → v ≤ℤ w → le_z v w ≡ true
le_le_z v w h = sym (omega (arith, ints))

pub decides_value : (v w : ℤ) → Decides (same_value v w) (v ≡ w)
decides_value v w = (
  λ e. let p = and_parts (le_z v w) (le_z w v) e in
      let a = le_z_le v w p.0 in
      let b = le_z_le w v p.1 in
      omega (arith, ints),
  λ e. let a : v ≤ℤ w = omega (arith, ints) in
      let b : w ≤ℤ v = omega (arith, ints) in
      and_from _ _ (le_le_z v w a) (le_le_z w v b),
)

pub decides_set : (g h : GroupSet) → Decides (same_set g h) (g ≡ h)
decides_set g h = Decides-like (same_set g h) (λ e. ap (λ n. record { bits = n }) e) (λ e. ap (λ (x : GroupSet). x.bits) e) (Decides-eqb g.bits h.bits)

-- equal fields make equal records
unit_alike : (l k : ℕ) (a b c d : ℤ) (g h : GroupSet) → l ≡ k → a ≡ b → c ≡ d → g ≡ h → ◌≡◌ {A = UnitState} (record { location = l; first = a; second = c; groups = g }) (record { location = k; first = b; second = d; groups = h })
unit_alike l k a b c d g h p q r s = cc

pair_alike : (a b c d : State) → a ≡ b → c ≡ d → ◌≡◌ {A = Pair} (record { left = a; right = c }) (record { left = b; right = d })
pair_alike a b c d p q = cc

pub decides_unit : (u w : UnitState) → Decides (same_unit u w) (u ≡ w)
decides_unit u w =
    Decides-like (same_unit u w) (λ h. unit_alike _ _ _ _ _ _ _ _ h.0 h.1.0 h.1.1.0 h.1.1.1)
    (λ e. (ap (λ (x : UnitState). x.location) e, (ap (λ (x : UnitState). x.first) e, (ap (λ (x : UnitState). x.second) e, ap (λ (x : UnitState). x.groups) e))))
    (Decides-and _ _ (Decides-eqb u.location w.location) (Decides-and _ _ (decides_value u.first w.first) (Decides-and _ _ (decides_value u.second w.second) (decides_set u.groups w.groups))))

clash : false ≡ true → ⊥
clash e = let z : ◌≡◌ {A = ℕ} 0 1 = cc in omega arith

pub decides_units : (us ws : List UnitState) → Decides (same_units us ws) (us ≡ ws)
decides_units [] [] = (λ _. refl, λ _. refl)
decides_units [] (w ∷ ws) = (λ e. absurd (clash e), λ e. cc)
decides_units (u ∷ us) [] = (λ e. absurd (clash e), λ e. cc)
decides_units (u ∷ us) (w ∷ ws) =
    Decides-like (same_unit u w && same_units us ws) (λ h. let a = h.0 in let b = h.1 in cc) (λ e. let a : u ≡ w = cc in let b : us ≡ ws = cc in (a, b))
    (Decides-and _ _ (decides_unit u w) (decides_units us ws))

pub decides_state : (s t : State) → Decides (same_state s t) (s ≡ t)
decides_state s t = Decides-like (same_state s t) (λ e. ap (λ us. record { units = us }) e) (λ e. ap (λ (x : State). x.units) e) (decides_units s.units t.units)

pub decides_pair : (p q : Pair) → Decides (same_pair p q) (p ≡ q)
decides_pair p q =
    Decides-like (same_pair p q) (λ h. pair_alike _ _ _ _ h.0 h.1)
    (λ e. (ap (λ (x : Pair). x.left) e, ap (λ (x : Pair). x.right) e))
    (Decides-and _ _ (decides_state p.left q.left) (decides_state p.right q.right))

pub decides_label : (k l : Label) → Decides (same_label k l) (k ≡ l)
decides_label Silent Silent = (λ _. refl, λ _. refl)
decides_label Silent Movement = (λ e. absurd (clash e), λ e. cc)
decides_label Silent (Broadcast g v) = (λ e. absurd (clash e), λ e. cc)
decides_label Silent (Receive g) = (λ e. absurd (clash e), λ e. cc)
decides_label Movement Silent = (λ e. absurd (clash e), λ e. cc)
decides_label Movement Movement = (λ _. refl, λ _. refl)
decides_label Movement (Broadcast g v) = (λ e. absurd (clash e), λ e. cc)
decides_label Movement (Receive g) = (λ e. absurd (clash e), λ e. cc)
decides_label (Broadcast g v) Silent = (λ e. absurd (clash e), λ e. cc)
decides_label (Broadcast g v) Movement = (λ e. absurd (clash e), λ e. cc)
decides_label (Broadcast g v) (Broadcast h w) =
    Decides-like (same_set g h && same_value v w) (λ e. let a = e.0 in let b = e.1 in cc) (λ e. let a : g ≡ h = cc in let b : v ≡ w = cc in (a, b))
    (Decides-and _ _ (decides_set g h) (decides_value v w))
decides_label (Broadcast g v) (Receive h) = (λ e. absurd (clash e), λ e. cc)
decides_label (Receive g) Silent = (λ e. absurd (clash e), λ e. cc)
decides_label (Receive g) Movement = (λ e. absurd (clash e), λ e. cc)
decides_label (Receive g) (Broadcast h w) = (λ e. absurd (clash e), λ e. cc)
decides_label (Receive g) (Receive h) = Decides-like (same_set g h) (λ a. cc) (λ e. cc) (decides_set g h)
