-- A no to question 15 or 16 is about a step that there is. Assumes nothing.
use Rattle.std.proofs.Common.{◌≡◌, ℕ, suc, ◌+◌, ◌<◌, List, [], ◌∷◌, length, Some, refl, subst, lit<, arith}
use Rattle.lists.specs.Words.{Stands}
use Rattle.lists.proofs.Places.{nth_within}
use Rattle.questions.specs.Asking.{Question, first_no, numbered, restated}
use Rattle.questions.specs.declared.Refusal.{Refusal}
use Rattle.questions.specs.declared.Side.{Side}
use Rattle.questions.specs.declared.Side.TheVariants.{Left, Right}
use Rattle.questions.proofs.Saying.{Says, says_first, says_append, says_restated}
use Rattle.model.specs.declared.state.Pair.{Pair}
use Rattle.judge.specs.Comparing.{Compared, steps_on}
use Rattle.judge.specs.Judged.{say, step_asked, steps_asked, pair_asked, judge_asked}

-- what the questions to each item of a list say, where the items stand in it
pub says_numbered_at : {X A : Type 0} (P : A → Type 0) (f : ℕ → X → List (Question A)) (k : ℕ) (xs : List X) → ((i : ℕ) (x : X) → Stands xs x i → Says P (f (k + i) x)) → Says P (numbered f k xs)
says_numbered_at P f k [] h = tt
says_numbered_at P f k (x ∷ xs) h =
    let z : k + 0 ≡ k = omega arith in
    says_append P (f k x) (numbered f (suc k) xs) (rw z at (h 0 x refl))
    (says_numbered_at P f (suc k) xs (λ i y at. let s : k + suc i ≡ suc k + i = omega arith in rw s at (h (suc i) y at)))

-- the pair k of the relation has a step i on the side
pub record HasStep (c : Compared) (side : Side) (k i : ℕ) : Type 0 where
  pub pair : Pair
  pub at : Stands c.relation pair k
  pub within : i < length (steps_on side c pair)

-- a refusal of a step is about one that there is
pub record Locates (c : Compared) (r : Refusal) : Type 0 where
  pub left : r.question ≡ 15 → HasStep c Left r.item r.step
  pub right : r.question ≡ 16 → HasStep c Right r.item r.step

module _ (c : Compared) where
  -- a refusal with another number is about no step
  no_step : (q : ℕ) (side : Side) (k i : ℕ) → q < 15 → Locates c (say q side k i)
  no_step q side k i h = record { left = λ e. absurd (omega (arith, h, e)); right = λ e. absurd (omega (arith, h, e)) }

  steps_within : (side : Side) (p : Pair) → Says (λ i. i < length (steps_on side c p)) (steps_asked c side p)
  steps_within side p =
      says_numbered_at (λ i. i < length (steps_on side c p)) (step_asked c side p) 0 (steps_on side c p)
      (λ i x at. let z : 0 + i ≡ i = omega arith in (rw z (nth_within (steps_on side c p) i x at), tt))

  pair_located : (k : ℕ) (p : Pair) → Stands c.relation p k → Says (Locates c) (pair_asked c k p)
  pair_located k p at = (
    no_step 12 Left k 0 (lit< tt),
    (
      no_step 13 Right k 0 (lit< tt),
      (
        no_step 14 Left k 0 (lit< tt),
        says_append (Locates c) (restated (say 15 Left k) (steps_asked c Left p)) (restated (say 16 Right k) (steps_asked c Right p))
            (says_restated (Locates c) (λ i. i < length (steps_on Left c p)) (say 15 Left k)
            (λ i h. record { left = λ _. record { pair = p; at = at; within = h }; right = λ e. absurd (omega (arith, e)) }) (steps_asked c Left p) (steps_within Left p))
            (says_restated (Locates c) (λ i. i < length (steps_on Right c p)) (say 16 Right k)
            (λ i h. record { left = λ e. absurd (omega (arith, e)); right = λ _. record { pair = p; at = at; within = h } }) (steps_asked c Right p) (steps_within Right p)),
      ),
    ),
  )

  all_located : Says (Locates c) (judge_asked c)
  all_located = (
    no_step 10 Left 0 0 (lit< tt),
    (
      no_step 11 Left 0 0 (lit< tt),
      says_numbered_at (Locates c) (pair_asked c) 0 c.relation (λ k p at. let z : k ≡ 0 + k = omega arith in let P : ℕ → Type 0 = λ n. Says (Locates c) (pair_asked c n p) in subst P z (pair_located k p at)),
    ),
  )

  pub left_located : (k i : ℕ) → Some (say 15 Left k i) ≡ first_no (judge_asked c) → HasStep c Left k i
  left_located k i e = (says_first (Locates c) (judge_asked c) (say 15 Left k i) all_located e).left refl

  pub right_located : (k i : ℕ) → Some (say 16 Right k i) ≡ first_no (judge_asked c) → HasStep c Right k i
  right_located k i e = (says_first (Locates c) (judge_asked c) (say 16 Right k i) all_located e).right refl
