-- The tests of replies decide the relations. Assumes nothing.
use Rattle.std.proofs.Common.{◌≡◌, ℕ, zero, suc, Bool, true, false, cond, ◌||◌, List, [], ◌∷◌, ℤ, pos, ◌+ℤ◌, ◌-ℤ◌, nat_abs, ◌≤ℤ◌, ◌<ℤ◌, Some, Decides, sym, refl, ap, ◌∙◌, subst, ⊎_elim, arith}
use lib.Signed.{le_z}
use Rattle.std.specs.List.{slice_get}
use Rattle.std.proofs.lemmas.Int.{ints, by_lt_z}
use Rattle.std.proofs.lemmas.Bool.Decides.{Decides-and, Decides-like}
use Rattle.std.proofs.lemmas.Bool.{and_parts, and_from, or_cases, or_left, or_right, false≢true}
use Rattle.lists.specs.Words.{Stands}
use Rattle.lists.proofs.Places.{some_same, some_none}
use Rattle.questions.specs.declared.Side.{Side}
use Rattle.model.specs.declared.state.Pair.{Pair}
use Rattle.model.specs.Alike.{same_pair}
use Rattle.model.proofs.Deciding.{decides_pair, decides_label, decides_value, le_z_le, le_le_z}
use Rattle.systems.specs.Meaning.{Meaning, Step, in_range_of}
use Rattle.judge.specs.Comparing.{Compared, OneRange, opposed, pair_from, steps_on}
use Rattle.judge.specs.Likeness.{Holds, Lands, Answered}
use Rattle.judge.specs.Replies.{same_range, holds, yes_from, yes_of_each, replies, has_reply}
use Rattle.judge.proofs.Values.{in_range_lem, range_low, range_high}

pub decides_range : (c : Compared) → Decides (same_range c) (OneRange c)
decides_range c =
    Decides-like (same_range c) (λ h. record { same_lo = h.0; same_hi = h.1 }) (λ o. (o.same_lo, o.same_hi))
    (Decides-and _ _ (decides_value c.left.lo c.right.lo) (decides_value c.left.hi c.right.hi))

pub decides_holds : (rel : List Pair) (p : Pair) → Decides (holds rel p) (Holds rel p)
decides_holds [] p = (λ e. absurd (false≢true e), λ h. absurd (some_none (slice_get [] h.0) p h.1 refl))
decides_holds (q ∷ qs) p = (
  λ e. ⊎_elim (λ a. (0, ap Some ((decides_pair q p).0 a))) (λ b. let h = (decides_holds qs p).0 b in (suc h.0, h.1)) (or_cases (same_pair q p) (holds qs p) e),
  λ h. elim h.0 as (λ k. slice_get (q ∷ qs) k ≡ Some p → (same_pair q p || holds qs p) ≡ true) [
    | zero ↦ (λ e. or_left _ _ ((decides_pair q p).1 (some_same (Some q) q p refl e)))
    | suc k ↦ (λ e. or_right _ _ ((decides_holds qs p).1 (k, e)))
  ] h.1,
)

-- a test of every value of a range
module _ (f : ℤ → Bool) (P : ℤ → Type 0) (each : (v : ℤ) → Decides (f v) (P v)) where
  decides_from : (n : ℕ) (u : ℤ) → Decides (yes_from f u n) ((v : ℤ) → u ≤ℤ v → v <ℤ (u +ℤ pos n) → P v)
  decides_from zero u = (λ e v low high. absurd (omega (arith, ints)), λ _. refl)
  decides_from (suc n) u = (
    λ e v low high.
        let p = and_parts (f u) (yes_from f (u +ℤ pos 1) n) e in
        by_lt_z u v
        (λ lt. (decides_from n (u +ℤ pos 1)).0 p.1 v (omega (arith, ints)) (omega (arith, ints)))
        (λ le. let s : u ≡ v = omega (arith, ints) in subst P s ((each u).0 p.0)),
    λ all. and_from _ _ ((each u).1 (all u (omega (arith, ints)) (omega (arith, ints))))
        ((decides_from n (u +ℤ pos 1)).1 (λ v low high. all v (omega (arith, ints)) (omega (arith, ints)))),
  )

  decides_each : (m : Meaning) → Decides (yes_of_each m f) ((v : ℤ) → in_range_of m v ≡ true → P v)
  decides_each m =
      elim (le_z m.lo m.hi) as (λ b. le_z m.lo m.hi ≡ b → Decides (yes_from f m.lo (cond b (suc (nat_abs (m.hi -ℤ m.lo))) 0)) ((v : ℤ) → in_range_of m v ≡ true → P v)) [
        | true ↦ (λ t.
            let le = le_z_le m.lo m.hi t in
            Decides-like _
            (λ all v w. all v (range_low _ _ v w) (let h = range_high m.lo m.hi v w in omega (arith, ints)))
            (λ all v low high. all v (in_range_lem _ _ v low (omega (arith, ints))))
            (decides_from (suc (nat_abs (m.hi -ℤ m.lo))) m.lo))
        | false ↦ (λ t. (
          λ _ v w. let a = range_low m.lo m.hi v w in let b = range_high m.lo m.hi v w in let s : m.lo ≤ℤ m.hi = omega (arith, ints) in absurd (false≢true (sym t ∙ le_le_z _ _ s)),
          λ _. refl,
        ))
      ] refl

module _ (c : Compared) (side : Side) where
  pub decides_replies : (x y : Step) → Decides (replies c side x y) ((x.label ≡ y.label) × Lands c side x y)
  decides_replies x y =
      Decides-and _ _ (decides_label x.label y.label)
      (decides_each (λ v. holds c.relation (pair_from side (x.landing v) (y.landing v))) (λ v. Holds c.relation (pair_from side (x.landing v) (y.landing v)))
      (λ v. decides_holds c.relation (pair_from side (x.landing v) (y.landing v))) c.left)

  has_reply_lem : (x : Step) (ys : List Step) → has_reply c side x ys ≡ true → (j : ℕ) × (y : Step) × Stands ys y j × (x.label ≡ y.label) × Lands c side x y
  has_reply_lem x [] e = absurd (false≢true e)
  has_reply_lem x (y ∷ ys) e =
      ⊎_elim (λ a. let r = (decides_replies x y).0 a in (0, y, refl, r.0, r.1))
      (λ b. let r = has_reply_lem x ys b in (suc r.0, r.1, r.2, r.3, r.4))
      (or_cases (replies c side x y) (has_reply c side x ys) e)

  reply_has : (x : Step) (ys : List Step) (j : ℕ) (y : Step) → Stands ys y j → x.label ≡ y.label → Lands c side x y → has_reply c side x ys ≡ true
  reply_has x [] j y at a l = absurd (some_none (slice_get [] j) y at refl)
  reply_has x (z ∷ zs) zero y at a l =
      let s = some_same (Some z) z y refl at in
      or_left _ _ (subst (λ (w : Step). replies c side x w ≡ true) (sym s) ((decides_replies x y).1 (a, l)))
  reply_has x (z ∷ zs) (suc j) y at a l = or_right _ _ (reply_has x zs j y at a l)

  pub decides_answered : OneRange c → (p : Pair) (i : ℕ) (x : Step) → Stands (steps_on side c p) x i → Decides (has_reply c side x (steps_on (opposed side) c p)) (Answered c side p i)
  decides_answered one p i x at = (
    λ e. let r = has_reply_lem x (steps_on (opposed side) c p) e in (r.0, record { one_range = one; asked = x; given = r.1; asked_at = at; given_at = r.2; one_label = r.3; lands = r.4 }),
    λ a. let r = a.1 in
        let s = some_same (slice_get (steps_on side c p) i) r.asked x r.asked_at at in
        subst (λ (z : Step). has_reply c side z (steps_on (opposed side) c p) ≡ true) s (reply_has r.asked (steps_on (opposed side) c p) a.0 r.given r.given_at r.one_label r.lands),
  )
