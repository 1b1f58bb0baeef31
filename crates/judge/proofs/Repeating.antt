-- Which listed steps repeat no earlier one. Assumes nothing.
use Rattle.std.proofs.Common.{◌≡◌, ℕ, zero, suc, ◌+◌, ◌<◌, ◌≤◌, false, List, [], ◌∷◌, ◌++◌, length, get_or, Bool, not, is_some, Some, None, Option, IfSome, sym, refl, ap, ◌∙◌, subst, ⊎_elim, arith}
use Rattle.std.proofs.Math.Nat.{eq-or-lt_of_le}
use Rattle.std.proofs.lemmas.Bool.{false≢true}
use Rattle.std.proofs.lemmas.Option.{slice_get-get_or}
use Rattle.std.specs.List.{slice_get}
use Rattle.lists.specs.Words.{Stands}
use Rattle.lists.proofs.Places.{some_none, some_same, nth_within}
use Rattle.lists.proofs.Listed.{nth_append_left, nth_append_add}
use Rattle.systems.specs.declared.listed.Listed.{Listed}
use Rattle.systems.specs.Meaning.{receives}
use Rattle.judge.specs.Firsts.{Firsts}
use Rattle.judge.specs.declared.firsts.First.{First}

-- what is told of an answer that is there
pub value_of_some : (P : ℕ → Type 0) (r : Option ℕ) (b : Bool) → is_some r ≡ not b → b ≡ false → IfSome r P → (j : ℕ) × P j
value_of_some P None b e f h = absurd (false≢true (e ∙ ap not f))
value_of_some P (Some j) b e f h = (j, h)

-- what stands in a list with one more at its end
by_place : {X P : Type 0} (xs : List X) (x y : X) (k : ℕ) → Stands (xs ++ x ∷ []) y k → (Stands xs y k → P) → (k ≡ length xs → x ≡ y → P) → P
by_place [] x y zero at old new = new refl (some_same (Some x) x y refl at)
by_place [] x y (suc k) at old new = absurd (some_none _ _ at refl)
by_place (z ∷ zs) x y zero at old new = old at
by_place (z ∷ zs) x y (suc k) at old new = by_place zs x y k at old (λ e. new (omega (arith, e)))

pub firsts_none : (ys : List Listed) (fs : List First) → fs ≡ [] → Firsts ys 0 fs
firsts_none ys fs e =
    subst (Firsts ys 0) (sym e)
    (record {
      below = λ k f at. absurd (some_none _ _ at refl);
      ordered = λ k l f g h at. absurd (some_none _ _ at refl);
      each = λ i h. absurd (omega arith);
    })

module _ (ys : List Listed) (n : ℕ) (fs : List First) (was : Firsts ys n fs) where
  -- the step n is one of the firsts again
  firsts_again : (k : ℕ) (f : First) (y : Listed) → Stands fs f k → Stands ys y f.step → Stands ys y n → receives y.label ≡ false → Firsts ys (n + 1) fs
  firsts_again k f y at once again quiet =
      record {
        below = λ l g g-at. let h = was.below l g g-at in omega arith;
        ordered = was.ordered;
        each = λ i h.
            ⊎_elim
            (λ e. (
              k,
              f,
              at,
              (let b = was.below k f at in omega (arith, e)),
              record { listed = y; once = once; again = subst (Stands ys y) (sym e) again; own = λ r. absurd (false≢true (sym quiet ∙ r)) },
            ))
            (was.each i)
            (eq-or-lt_of_le (let b : i ≤ n = omega arith in b));
      }

  -- the same, by what is found
  pub firsts_found : (d : Listed) → n < length ys → (j : ℕ) → (k : ℕ) × (f : First) × Stands fs f k × (f.step ≡ j) × Stands ys (get_or ys n d) j × (receives (get_or ys n d).label ≡ false) → Firsts ys (n + 1) fs
  firsts_found d within j r = firsts_again r.0 r.1 (get_or ys n d) r.2 (subst (Stands ys (get_or ys n d)) (sym r.3) r.4) (slice_get-get_or ys n d within) r.5

  -- the step n is one more
  module _ (f : First) (y : Listed) (is : f.step ≡ n) (there : Stands ys y n) where
    abbrev more : List First
    more = fs ++ f ∷ []

    kept : (k : ℕ) (g : First) → Stands fs g k → Stands more g k
    kept k g at = nth_append_left fs (f ∷ []) k (nth_within fs k g at) ∙ at

    last : Stands more f (length fs)
    last = ap (slice_get more) (let e : length fs ≡ length fs + 0 = omega arith in e) ∙ nth_append_add fs (f ∷ []) 0

    below_more : (k : ℕ) (g : First) → Stands more g k → g.step < n + 1
    below_more k g at = by_place fs f g k at (λ old. let h = was.below k g old in omega arith) (λ _ e. let s = ap (λ (x : First). x.step) e in omega (arith, is, s))

    ordered_more : (k l : ℕ) (g h : First) → k < l → Stands more g k → Stands more h l → g.step < h.step
    ordered_more k l g h lt g-at h-at =
        by_place fs f h l h-at
        (λ h-old.
        let within = nth_within fs l h h-old in
        by_place fs f g k g-at (λ g-old. was.ordered k l g h lt g-old h-old) (λ e _. absurd (omega (arith, e, within, lt))))
        (λ e same.
        let s = ap (λ (x : First). x.step) same in
        by_place fs f g k g-at (λ g-old. let b = was.below k g g-old in omega (arith, b, s, is)) (λ d _. absurd (omega (arith, d, e, lt))))

    pub firsts_more : Firsts ys (n + 1) more
    firsts_more =
        record {
          below = below_more;
          ordered = ordered_more;
          each = λ i h.
              ⊎_elim
              (λ e. (
                length fs,
                f,
                last,
                (let b : f.step ≤ i = omega (arith, e, is) in b),
                record { listed = y; once = subst (Stands ys y) (sym is) there; again = subst (Stands ys y) (sym e) there; own = λ _. is ∙ sym e },
              ))
              (λ lt. let r = was.each i lt in (r.0, r.1, kept r.0 r.1 r.2, r.3, r.4))
              (eq-or-lt_of_le (let b : i ≤ n = omega arith in b));
        }
