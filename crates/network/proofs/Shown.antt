-- A group is shown exactly if it is free and some unit sits on it. Assumes nothing.
use Rattle.std.proofs.Common.{◌≡◌, ℕ, zero, suc, ◌<◌, true, ◌⊎◌, List, [], ◌∷◌, get_or, take, Decides, refl, sym, ◌∙◌, inl, inr, arith}
use Rattle.std.specs.List.{fold}
use Rattle.std.proofs.Math.Logic.{⊎_elim}
use Rattle.std.proofs.lemmas.Bool.{true≢false}
use Rattle.std.proofs.lemmas.Bool.Decides.{Decides-at, Decides-like, Decides-and, Decides-or}
use Rattle.model.specs.Bytes.{zero_unit}
use Rattle.model.specs.GroupSets.{has, no_groups, union_of}
use Rattle.model.specs.declared.group_set.GroupSet.{GroupSet}
use Rattle.model.specs.declared.state.State.{State}
use Rattle.model.specs.declared.unit_state.UnitState.{UnitState}
use Rattle.model.proofs.Groups.{has_part, has_union, decides_empty}
use Rattle.ways.specs.Nets.{Net}
use Rattle.network.specs.Meanings.{set_of, union_shown, Shows}
use Rattle.network.proofs.Words.{decides_true}

abbrev with_unit : GroupSet → UnitState → GroupSet
with_unit g x = union_of g x.groups

module _ (k : ℕ) where
  abbrev On : GroupSet → Type 0
  On g = has g k ≡ true

  -- one of the first m units sits on the group k
  abbrev Sits : List UnitState → ℕ → Type 0
  Sits us m = (j : ℕ) × (j < m) × (On (get_or us j zero_unit).groups)

  none_sits : (us : List UnitState) → Sits us 0 → ⊥
  none_sits us p = let h = p.1 in omega arith

  zero_sits : (m : ℕ) → Sits [] m → ⊥
  zero_sits m p = true≢false (sym p.2 ∙ (decides_empty no_groups).0 refl k)

  first_sits : (u : UnitState) (us : List UnitState) (m : ℕ) → On u.groups → Sits (u ∷ us) (suc m)
  first_sits u us m e = (0, (let h : 0 < suc m = omega arith in h), e)

  later_sits : (u : UnitState) (us : List UnitState) (m : ℕ) → Sits us m → Sits (u ∷ us) (suc m)
  later_sits u us m p = let h = p.1 in (suc p.0, (let i : suc p.0 < suc m = omega arith in i), p.2)

  which_sits : (u : UnitState) (us : List UnitState) (m : ℕ) → Sits (u ∷ us) (suc m) → On u.groups ⊎ Sits us m
  which_sits u us m p = at p.0 p.1 p.2
    where
      at : (j : ℕ) → j < suc m → On (get_or (u ∷ us) j zero_unit).groups → On u.groups ⊎ Sits us m
      at zero h e = inl e
      at (suc j) h e = inr (j, (let i : j < m = omega arith in i), e)

  -- of a union, begun with the set g
  decides_union : (m : ℕ) (us : List UnitState) (g : GroupSet) → Decides (has (fold with_unit g (take m us)) k) (On g ⊎ Sits us m)
  decides_union zero us g = Decides-like _ inl (⊎_elim (λ e. e) (λ p. absurd (none_sits us p))) (decides_true (has g k))
  decides_union (suc m) [] g = Decides-like _ inl (⊎_elim (λ e. e) (λ p. absurd (zero_sits (suc m) p))) (decides_true (has g k))
  decides_union (suc m) (u ∷ us) g =
      let either = Decides-or _ _ (decides_true (has g k)) (decides_true (has u.groups k)) in
      let begun = Decides-at _ _ (has_union g u.groups k) either in
      Decides-like _
      (⊎_elim (λ e. ⊎_elim inl (λ f. inr (first_sits u us m f)) (begun.0 e)) (λ p. inr (later_sits u us m p)))
      (⊎_elim (λ e. inl (begun.1 (inl e))) (λ p. ⊎_elim (λ e. inl (begun.1 (inr e))) inr (which_sits u us m p)))
      (decides_union m us (with_unit g u))

pub shows : (n : Net) (s : State) → Shows n s (union_shown n s)
shows n s k =
    let union = fold with_unit (set_of 0) (take n.units s.units) in
    let none : has (set_of 0) k ≡ true → ⊥ = λ e. true≢false (sym e ∙ (decides_empty no_groups).0 refl k) in
    let sits = Decides-like (has union k) (⊎_elim (λ e. absurd (none e)) (λ p. p)) inr (decides_union k n.units s.units (set_of 0)) in
    Decides-at _ _ (has_part n.free union k)
    (Decides-like _ (λ h. (h.1, h.0.0, h.0.1, h.0.2)) (λ h. ((h.1, h.2, h.3), h.0)) (Decides-and _ _ sits (decides_true (has n.free k))))
