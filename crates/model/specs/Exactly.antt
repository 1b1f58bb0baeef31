-- Equality of states and pairs, from equality of their units: nothing is left out. Assumes nothing.
use Rattle.std.proofs.Common.{◌≡◌, ℕ, ℤ, ◌&&◌, Decides, ap, refl}
use lib.Pointwise.{pointwise}
use Rattle.std.proofs.lemmas.Bool.Decides.{Decides-and, Decides-eqb, Decides-int_eq, Decides-like}
use Rattle.std.proofs.lemmas.Slice.Eq.{slice_eq-Decides}
use Rattle.model.specs.declared.state.Pair.{Pair}
use Rattle.model.specs.declared.state.State.{State}
use Rattle.model.specs.declared.unit_state.UnitState.{UnitState}
use Rattle.model.specs.UnitEq.{unit_eq}

-- equal fields make equal units
unit_alike : (l k : ℕ) (a b c d : ℤ) (m n : ℕ) → l ≡ k → a ≡ b → c ≡ d → m ≡ n → ◌≡◌ {A = UnitState} (record { location = l; first = a; second = c; groups = record { bits = m } }) (record { location = k; first = b; second = d; groups = record { bits = n } })
unit_alike l k a b c d m n p q r s = cc

pub unit_exact : (u w : UnitState) → Decides (unit_eq u w) (u ≡ w)
unit_exact u w =
    Decides-like (unit_eq u w)
    (λ h. unit_alike _ _ _ _ _ _ _ _ h.0 h.1.0 h.1.1.0 h.1.1.1)
    (λ e. (ap (λ (x : UnitState). x.location) e, (ap (λ (x : UnitState). x.first) e, (ap (λ (x : UnitState). x.second) e, ap (λ (x : UnitState). x.groups.bits) e))))
    (Decides-and _ _ (Decides-eqb u.location w.location) (Decides-and _ _ (Decides-int_eq u.first w.first) (Decides-and _ _ (Decides-int_eq u.second w.second) (Decides-eqb u.groups.bits w.groups.bits))))

-- equal parts make equal pairs
pair_alike : (a b c d : State) → a ≡ b → c ≡ d → ◌≡◌ {A = Pair} (record { left = a; right = c }) (record { left = b; right = d })
pair_alike a b c d p q = cc

pub state_exact : (s t : State) → Decides (pointwise unit_eq s.units t.units) (s ≡ t)
state_exact s t =
    Decides-like _ (λ e. ap (λ us. record { units = us }) e) (λ e. ap (λ (x : State). x.units) e) (slice_eq-Decides unit_exact s.units t.units _ refl)

pub pair_exact : (p q : Pair) → Decides (pointwise unit_eq p.left.units q.left.units && pointwise unit_eq p.right.units q.right.units) (p ≡ q)
pair_exact p q =
    Decides-like _ (λ h. pair_alike _ _ _ _ h.0 h.1) (λ e. (ap (λ (x : Pair). x.left) e, ap (λ (x : Pair). x.right) e))
    (Decides-and _ _ (state_exact p.left q.left) (state_exact p.right q.right))
