-- The sets of the units once one of them has moved. Assumes nothing.
use Rattle.std.proofs.Common.{◌≡◌, ℕ, ◌+◌, ◌<◌, ◌≤◌, Bool, true, false, ◌&&◌, cond, eqb, List, length, get_or, set, Some, sym, refl, ap, ◌∙◌, arith}
use Rattle.std.specs.List.{range_with_len, slice_get}
use Rattle.std.proofs.lemmas.Bool.{eqb-true, eqb-false, and_parts}
use Rattle.std.proofs.lemmas.Grind.{get_or-set_at}
use Rattle.std.proofs.lemmas.List.{length-set, length-map, get_or-set_same, get_or-set_other}
use Rattle.std.proofs.lemmas.List.FromFn.{fill_by_all, get_or-map-range_with_len, length-range_with_len}
use Rattle.std.proofs.lemmas.Option.{slice_get-get_or}
use Rattle.lists.specs.Words.{Stands, every}
use Rattle.model.specs.Bytes.{zero_unit}
use Rattle.model.specs.GroupSets.{no_groups}
use Rattle.model.specs.declared.group_set.GroupSet.{GroupSet}
use Rattle.model.specs.declared.state.State.{State}
use Rattle.model.specs.declared.unit_state.UnitState.{UnitState}
use Rattle.ways.specs.Nets.{Net, unit_at}
use Rattle.ways.specs.Landings.{moved, on_set, placed}
use Rattle.network.specs.Meanings.{slot_lawful, lawful}

set_over : (g : GroupSet) (x : UnitState) (b : Bool) → (cond b (on_set x g) x).groups ≡ cond b g x.groups
set_over g x true = refl
set_over g x false = refl

-- what is not allowed is no movement
pub unmoved : (a b c : Bool) → c ≡ false → false ≡ (a && (b && c))
unmoved false b c e = refl
unmoved true false c e = refl
unmoved true true c e = sym e

-- a lawful state's placement is allowed
pub lawful_allowed : (n : Net) (allowed : List GroupSet → Bool) (s : State) → lawful n allowed s ≡ true → allowed (placed n s) ≡ true
lawful_allowed n allowed s e = (and_parts (every (slot_lawful n s) (range_with_len 0 6)) (allowed (placed n s)) e).1

same_number : (j : ℕ) → 0 + j ≡ j
same_number j = omega arith

module _ (n : Net) (s : State) (u : ℕ) (g : GroupSet) where
  set_at_slot : (j : ℕ) → j < 6 → (unit_at (moved s u g) j).groups ≡ cond (eqb j u) g (unit_at s j).groups
  set_at_slot j h =
      ap (λ (x : UnitState). x.groups) (get_or-map-range_with_len (λ j. cond (eqb j u) (on_set (unit_at s j) g) (unit_at s j)) 0 6 j j zero_unit h (same_number j)) ∙ set_over g (unit_at s j) (eqb j u)

  pub units_placed : length (placed n s) ≡ n.units
  units_placed = length-map _ _ ∙ length-range_with_len 0 n.units

  set_placed : (j : ℕ) → j < n.units → (b : Bool) → eqb j u ≡ b → get_or (set (placed n s) u g) j no_groups ≡ cond b g (unit_at s j).groups
  set_placed j h true e = let same : j ≡ u = eqb-true j u e in get_or-set_at (placed n s) u j g no_groups same (omega (arith, units_placed))
  set_placed j h false e = get_or-set_other (placed n s) u j g no_groups (eqb-false j u e) ∙ get_or-map-range_with_len (λ j. (unit_at s j).groups) 0 n.units j j no_groups h (same_number j)

  pub placed_moved : n.units ≤ 6 → set (placed n s) u g ≡ placed n (moved s u g)
  placed_moved few =
      fill_by_all (λ j. (unit_at (moved s u g) j).groups) (set (placed n s) u g) n.units no_groups (length-set (placed n s) u g ∙ units_placed)
      (λ j h. set_placed j h (eqb j u) refl ∙ sym (set_at_slot j (omega (arith, few, h))))

  -- the unit that has moved sits on its set
  pub stands_moved : n.units ≤ 6 → u < n.units → Stands (placed n (moved s u g)) g u
  stands_moved few h =
      ap (λ gs. slice_get gs u) (sym (placed_moved few))
      ∙ slice_get-get_or (set (placed n s) u g) u no_groups (let l = length-set (placed n s) u g in omega (arith, l, units_placed, h))
      ∙ ap Some (get_or-set_same (placed n s) u g no_groups (omega (arith, units_placed, h)))
