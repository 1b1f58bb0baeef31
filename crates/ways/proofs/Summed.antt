-- The sum of what a closure answers at the numbers below n. Assumes nothing.
use Rattle.std.proofs.Common.{◌≡◌, ℕ, ◌+◌, ◌-◌, ◌/◌, ◌<◌, ◌≤◌, arith}
use Rattle.std.specs.declared.iter.Map.{Map}
use Rattle.std.specs.declared.ops.Range.{Range}
use Rattle.std.specs.List.{fold}
use Rattle.std.specs.Iterator.Adapters.{map_source, map_callee, map_steps}
use Rattle.std.specs.Iterator.Runs.{EachRunFrom}
use Rattle.std.proofs.iter.Yields.{nat_range_steps}
use Rattle.std.proofs.lemmas.List.FromFn.{length-range_with_len}
use Rattle.std.proofs.lemmas.Iterator.{YieldsList-from_range}
use Rattle.std.proofs.lemmas.Iterator.Adapters.{fits_from_length, at_most_from_yields_List}
use denote.Param.Members.{Mut, Called}

module _ {F : Type 0} (g : Mut F (ℕ × Unit {0}) ℕ) (f : F) {s : Map (Range ℕ) F} (n most : ℕ) (few : n ≤ most) (source : map_source s ≡ record { start = 0; end = n }) (callee : map_callee s ≡ f) where
  pub sum_below : (top : ℕ) → 0 < top → ((x : ℕ) (r : ℕ) (q : F) → Called g f (x, tt) r q → (q ≡ f) × (r ≤ (top - 1) / most)) → EachRunFrom (map_steps nat_range_steps g) s (λ p. fold (λ a x. a + x) 0 p.items < top)
  sum_below top some each = fits_from_length g f most top (at_most_from_yields_List (YieldsList-from_range 0 n n source (omega arith)) (omega (arith, length-range_with_len 0 n))) callee some each
