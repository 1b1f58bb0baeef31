-- What `all` tells over a range of signed values, `lo..=hi`. Assumes nothing.
use Rattle.std.proofs.Common.{◌≡◌, ℕ, ◌+◌, ◌-◌, Bool, true, false, List, [], ◌∷◌, ℤ, pos, negsuc, ◌+ℤ◌, ◌≤ℤ◌, ◌<ℤ◌, Some, None, Option, MatchOption, Decides, sym, refl, ap, ◌∙◌, subst, arith}
use Rattle.std.proofs.lemmas.Bool.{false≢true}
use Rattle.std.proofs.lemmas.Bool.Decides.{Decides-like}
use Rattle.std.proofs.lemmas.Int.{ints, by_lt_z}
use Rattle.std.specs.Fn.{Mut, Called}
use Rattle.std.specs.Int.{int_gap}
use Rattle.std.specs.Iterator.{Yields, YieldsThen}
use Rattle.std.specs.List.{FoldsTo}
use Rattle.std.specs.Range.{range_inclusive_start, range_inclusive_end, range_inclusive_exhausted, range_inclusive_len, range_inclusive_steps}
use Rattle.std.specs.declared.ops.RangeInclusive.{RangeInclusive}
use borrow.Author.Differences.{up, down}
use Rattle.model.specs.Ranges.{in_range}
use Rattle.judge.proofs.Values.{in_range_lem, range_low, range_high}

-- the gap, for `omega`
gap_is : (a b : ℤ) → int_gap a b ≡ (up b + down a) - (up a + down b)
gap_is (pos a) (pos b) = omega arith
gap_is (pos a) (negsuc b) = omega arith
gap_is (negsuc a) (pos b) = omega arith
gap_is (negsuc a) (negsuc b) = omega arith

-- a range that has no value left, and one that has some, of which the last is b
none_left : (a b v : ℤ) (spent : Bool) → range_inclusive_len int_gap a b spent ≡ 0 → spent ≡ false → a ≤ℤ v → v ≤ℤ b → ⊥
none_left a b v true none more low high = false≢true (sym more)
none_left a b v false none more low high = omega (arith, ints, none, gap_is a b, gap_is b a)

some_left : (a b : ℤ) (spent : Bool) (n : ℕ) → n + 1 ≡ range_inclusive_len int_gap a b spent → (spent ≡ false) × (a ≤ℤ b) × (b ≡ a +ℤ pos n)
some_left a b true n some = absurd (omega (arith, some))
some_left a b false n some =
    (refl, omega (arith, ints, some, gap_is a b, gap_is b a), omega (arith, ints, some, gap_is a b, gap_is b a))

abbrev Values : Type 0
Values = RangeInclusive ℤ

abbrev steps : Values → Option ℤ → Values → Type 0
steps = range_inclusive_steps int_gap (λ x y. y ≡ x +ℤ pos 1)

-- the value v is left
record Left (s : Values) (v : ℤ) : Type 0 where
  more : range_inclusive_exhausted s ≡ false
  low : range_inclusive_start s ≤ℤ v
  high : v ≤ℤ range_inclusive_end s

abbrev Ends : {F : Type 0} → Mut F (ℤ × Unit {0}) Bool → F → F → Bool → Option ℤ → Type 0
Ends g f j r o = MatchOption o (r ≡ true) (λ x. (r ≡ false) × ((h : _) × Called g j (x, tt) false h))

module _ {F : Type 0} (g : Mut F (ℤ × Unit {0}) Bool) (f : F) (P : ℤ → Type 0) (holds : (x : ℤ) (q : F) → Called g f (x, tt) true q → (q ≡ f) × P x) (fails : (x : ℤ) (q : F) → Called g f (x, tt) false q → P x → false ≡ true) where
  ended : (s u : Values) (o : Option ℤ) (r : Bool) → steps s o u → Ends g f f r o → Decides r ((v : ℤ) → Left s v → P v)
  ended s u None r step e = (
    λ _ v l. absurd (none_left (range_inclusive_start s) (range_inclusive_end s) v (range_inclusive_exhausted s) step.1.0 l.more l.low l.high),
    λ _. e,
  )
  ended s u (Some x) r step e =
      let left = some_left (range_inclusive_start s) (range_inclusive_end s) (range_inclusive_exhausted s) _ step.1.1 in
      let here : Left s x = rw step.1.0 (record { more = left.0; low = omega (arith, ints); high = left.1 }) in (
        λ ok. absurd (false≢true (sym e.0 ∙ ok)),
        λ all. absurd (false≢true (fails x e.1.0 e.1.1 (all x here))),
      )

  -- one value tried, and those that are left then
  module _ (s t : Values) (x : ℤ) (step : steps s (Some x) t) where
    below : (v : ℤ) → Left t v → Left s v
    below v l =
        let left = some_left (range_inclusive_start s) (range_inclusive_end s) (range_inclusive_exhausted s) _ step.1.1 in
        let next = step.1.2 l.more in
        let low = l.low in
        let high = l.high in
        record { more = left.0; low = omega (arith, ints); high = omega (arith, ints, step.0) }

    above : (v : ℤ) → Left s v → range_inclusive_start s <ℤ v → Left t v
    above v l past =
        let left = some_left (range_inclusive_start s) (range_inclusive_end s) (range_inclusive_exhausted s) _ step.1.1 in
        let low = l.low in
        let high = l.high in
        elim (range_inclusive_exhausted t) as (λ b. range_inclusive_exhausted t ≡ b → Left t v) [
          | true ↦ (λ e.
              let none : range_inclusive_len int_gap (range_inclusive_start t) (range_inclusive_end t) (range_inclusive_exhausted t) ≡ 0 = ap (range_inclusive_len int_gap (range_inclusive_start t) (range_inclusive_end t)) e in
              absurd (omega (arith, ints, left.2)))
          | false ↦ (λ e. let next = step.1.2 e in record { more = e; low = omega (arith, ints); high = omega (arith, ints, step.0) })
        ] refl

  walk : (xs : List ℤ) (s t u : Values) (j : F) (o : Option ℤ) (r : Bool) → Yields steps s xs t → steps t o u → FoldsTo (λ p x q. Called g p (x, tt) true q) f xs j → Ends g f j r o → Decides r ((v : ℤ) → Left s v → P v)
  walk [] s t u j o r y step c e = subst (λ k. Decides r ((v : ℤ) → Left k v → P v)) (sym y) (ended t u o r step (subst (λ k. Ends g f k r o) (sym c) e))
  walk (x ∷ xs) s t u j o r y step c e =
      let one = holds x c.0 c.1 in
      Decides-like r
      (λ all v l. by_lt_z (range_inclusive_start s) v (λ lt. all v (above s y.0 x y.1 v l lt))
      (λ le. let low = l.low in let same : x ≡ v = y.1.1.0 ∙ omega (arith, ints) in subst P same one.1))
      (λ all v l. all v (below s y.0 x y.1 v l))
      (walk xs y.0 t u j o r y.2 step (subst (λ k. FoldsTo (λ p x q. Called g p (x, tt) true q) k xs j) one.0 c.2) e)

-- the clause `ran` of `all`
pub decides_all : {F : Type 0} {g : Mut F (ℤ × Unit {0}) Bool} {f : F} {s u : Values} {r : Bool}
    → (xs : List ℤ) × (o : Option ℤ) × (j : F) × YieldsThen steps s xs o u × FoldsTo (λ p x q. Called g p (x, tt) true q) f xs j × Ends g f j r o
    → (P : ℤ → Type 0) → ((x : ℤ) (q : F) → Called g f (x, tt) true q → (q ≡ f) × P x) → ((x : ℤ) (q : F) → Called g f (x, tt) false q → P x → false ≡ true)
    → (lo hi : ℤ) → range_inclusive_start s ≡ lo → range_inclusive_end s ≡ hi → range_inclusive_exhausted s ≡ false
    → Decides r ((v : ℤ) → in_range lo hi v ≡ true → P v)
decides_all {g = g} {f = f} {s = s} {u = u} {r = r} d P holds fails lo hi start end more =
    Decides-like r
    (λ all v within. all v (record { more = more; low = rw start (range_low lo hi v within); high = rw end (range_high lo hi v within) }))
    (λ all v l. all v (in_range_lem lo hi v (rw start at l.low) (rw end at l.high)))
    (walk g f P holds fails d.0 s d.3.0 u d.2 d.1 r d.3.1 d.3.2 d.4 d.5)
