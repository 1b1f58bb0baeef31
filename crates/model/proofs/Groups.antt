-- Sets of groups by their bits. Assumes nothing.
use Rattle.std.proofs.Common.{◌≡◌, ℕ, suc, ◌/◌, ◌%◌, ◌^◌, ◌<◌, min, max, Bool, true, false, ◌&&◌, ◌||◌, eqb, length, Decides, filter, sym, refl, ap, ◌∙◌, ⊎_elim, zero-add, div-one, arith}
use native.Mathlib.Nat.{zero-div, div-div-eq-div-mul, pow-succ'}
use lib.Arith.{bin_ind}
use lib.Bits.{bit_and, bit_or, and_step, or_step, and_shr, or_shr}
use lib.Count.{ones}
use Rattle.std.specs.List.{range_with_len}
use Rattle.std.proofs.lemmas.Bool.Decides.{nat_tests}
use Rattle.std.proofs.lemmas.Bool.{eqb-true, eqb-false, eq-eqb, ne_eqb, not-true, not_from_false, and_parts, and_from, cases_eq}
use Rattle.lists.specs.Words.{every_from}
use Rattle.lists.proofs.Loops.{every_each}
use Rattle.lists.proofs.Places.{nth_here}
use Rattle.model.specs.declared.group_set.GroupSet.{GroupSet}
use Rattle.model.specs.GroupSets.{has, linked, part, union_of, empty, groups_of, group_count}

-- the lowest bit of a conjunction and of a disjunction
low_and : (x y : ℕ) → eqb (bit_and x y % 2) 1 ≡ (eqb (x % 2) 1 && eqb (y % 2) 1)
low_and x y =
    let e : bit_and x y % 2 ≡ min (x % 2) (y % 2) = omega (arith, and_step x y) in
    let a : x % 2 < 2 = omega arith in
    let b : y % 2 < 2 = omega arith in
    rw e (grind (arith, nat_tests))

low_or : (x y : ℕ) → eqb (bit_or x y % 2) 1 ≡ (eqb (x % 2) 1 || eqb (y % 2) 1)
low_or x y =
    let e : bit_or x y % 2 ≡ max (x % 2) (y % 2) = omega (arith, or_step x y) in
    let a : x % 2 < 2 = omega arith in
    let b : y % 2 < 2 = omega arith in
    rw e (grind (arith, nat_tests))

pub has_part : (f s : GroupSet) (g : ℕ) → has (part f s) g ≡ (has s g && has f g)
has_part f s g = ap (λ n. eqb (n % 2) 1) (and_shr s.bits f.bits g) ∙ low_and (s.bits / 2 ^ g) (f.bits / 2 ^ g)

pub has_union : (s t : GroupSet) (g : ℕ) → has (union_of s t) g ≡ (has s g || has t g)
has_union s t g = ap (λ n. eqb (n % 2) 1) (or_shr s.bits t.bits g) ∙ low_or (s.bits / 2 ^ g) (t.bits / 2 ^ g)

-- a set with no bit has no group, and any other has one
none_has : (g : ℕ) → eqb (0 / 2 ^ g % 2) 1 ≡ false
none_has g = rw (zero-div (2 ^ g))

half_has : (n g : ℕ) → n / 2 / 2 ^ g ≡ n / 2 ^ suc g
half_has n g = div-div-eq-div-mul n 2 (2 ^ g) ∙ ap (λ k. n / k) (sym (pow-succ' 2 g))

some_has : (n : ℕ) → (n ≡ 0 → ⊥) → (g : ℕ) × (eqb (n / 2 ^ g % 2) 1 ≡ true)
some_has = bin_ind (λ n. (n ≡ 0 → ⊥) → (g : ℕ) × (eqb (n / 2 ^ g % 2) 1 ≡ true)) (λ h. absurd (h refl)) (λ n next h. ⊎_elim (odd n) (λ even. later n next h even) (cases_eq (n % 2) 1))
  where
    odd : (n : ℕ) → n % 2 ≡ 1 → (g : ℕ) × (eqb (n / 2 ^ g % 2) 1 ≡ true)
    odd n e = (0, eq-eqb (n / 1 % 2) 1 (ap (λ k. k % 2) (div-one n) ∙ e))

    later : (n : ℕ) → ((n / 2 ≡ 0 → ⊥) → (g : ℕ) × (eqb (n / 2 / 2 ^ g % 2) 1 ≡ true)) → (n ≡ 0 → ⊥) → (n % 2 ≡ 1 → ⊥) → (g : ℕ) × (eqb (n / 2 ^ g % 2) 1 ≡ true)
    later n next h even =
        let p = next (λ z. h (omega arith)) in
        (suc p.0, ap (λ k. eqb (k % 2) 1) (sym (half_has n p.0)) ∙ p.1)

pub decides_empty : (s : GroupSet) → Decides (empty s) ((g : ℕ) → has s g ≡ false)
decides_empty s = (
  λ e g. ap (λ n. eqb (n / 2 ^ g % 2) 1) (eqb-true s.bits 0 e) ∙ none_has g,
  λ none. ⊎_elim (eq-eqb s.bits 0) (λ h. let p = some_has s.bits h in let n = none p.0 in let t = p.1 in let z : ◌≡◌ {A = ℕ} 0 1 = cc in absurd (omega arith)) (cases_eq s.bits 0),
)

pub decides_linked : (s t : GroupSet) → Decides (linked s t) ((g : ℕ) × (has s g ≡ true) × (has t g ≡ true))
decides_linked s t = (
  λ e. let p = some_has (bit_and s.bits t.bits) (eqb-false _ 0 (not-true _ e)) in
      let q = and_parts (has s p.0) (has t p.0) (sym (has_part t s p.0) ∙ p.1) in
      (p.0, q.0, q.1),
  λ p. not_from_false _ (ne_eqb _ 0 (λ e.
      let t' = has_part t s p.0 ∙ and_from _ _ p.1 p.2 in
      let f = ap (λ n. eqb (n / 2 ^ p.0 % 2) 1) e ∙ none_has p.0 in
      let z : ◌≡◌ {A = ℕ} 0 1 = cc in omega arith)),
)

-- the number of ones is the number of groups: one test that computes over all 256 sets
abbrev counted : ℕ → Bool
counted n = eqb (ones n) (length (filter (has (record { bits = n })) (range_with_len 0 8)))

all_counted : every_from (λ n _. counted n) 0 (range_with_len 0 256) ≡ true
unfolding ones
all_counted = refl

pub count_groups : (s : GroupSet) → s.bits < 256 → group_count s ≡ length (groups_of s)
unfolding groups_of
count_groups s h =
    let p = nth_here (range_with_len 0 256) s.bits h in
    let e = every_each (λ n _. counted n) 0 (range_with_len 0 256) all_counted s.bits p.0 p.1 in
    eqb-true (ones s.bits) _ (rw (zero-add s.bits) at e)
