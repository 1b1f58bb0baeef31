-- What `==` answers at unit states, and that it is symmetric and transitive.
use Rattle.std.specs.Prelude.{Bool, ◌&&◌, ◌==◌}
use Rattle.std.specs.Cmp.{IsPartialEquivalence, partial_equiv_from_equiv, nat_eq_equiv, int_eq_equiv, on_per, and_per}
use Rattle.std.specs.Ordering.{int_eq}
use Rattle.model.specs.declared.unit_state.UnitState.{UnitState}

abbrev pub unit_eq : UnitState → UnitState → Bool
unit_eq u w = u.location == w.location && (int_eq u.first w.first && (int_eq u.second w.second && u.groups.bits == w.groups.bits))

pub unit_eq_laws : IsPartialEquivalence unit_eq
unit_eq_laws =
    let nat = partial_equiv_from_equiv nat_eq_equiv in
    let int = partial_equiv_from_equiv int_eq_equiv in
    and_per (on_per (λ (x : UnitState). x.location) nat)
    (and_per (on_per (λ (x : UnitState). x.first) int) (and_per (on_per (λ (x : UnitState). x.second) int) (on_per (λ (x : UnitState). x.groups.bits) nat)))
