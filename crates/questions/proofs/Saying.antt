-- What every question says, the first no says too. Assumes nothing.
use Rattle.std.proofs.Common.{◌≡◌, ℕ, suc, true, false, cond, List, [], ◌∷◌, ◌++◌, Some, refl, subst}
use Rattle.lists.proofs.Places.{some_none}
use Rattle.questions.specs.Asking.{Question, first_no, numbered, restated}

-- P holds of what each question says
abbrev pub Says : {A : Type 0} → (A → Type 0) → List (Question A) → Type 0
Says P [] = Unit {0}
Says P (q ∷ qs) = P q.says × Says P qs

pub says_first : {A : Type 0} (P : A → Type 0) (qs : List (Question A)) (a : A) → Says P qs → Some a ≡ first_no qs → P a
says_first P [] a h e = absurd (some_none _ _ refl e)
says_first {A} P (q ∷ qs) a h e =
    elim q.yes as (λ b. Some a ≡ cond b (first_no qs) (Some q.says) → P a)
    [ true ↦ (λ s. says_first P qs a h.1 s) | false ↦ (λ s. let same : q.says ≡ a = cc in subst P same h.0) ] e

pub says_append : {A : Type 0} (P : A → Type 0) (xs ys : List (Question A)) → Says P xs → Says P ys → Says P (xs ++ ys)
says_append P [] ys h k = k
says_append P (q ∷ xs) ys h k = (h.0, says_append P xs ys h.1 k)

pub says_numbered : {X A : Type 0} (P : A → Type 0) (f : ℕ → X → List (Question A)) → ((k : ℕ) (x : X) → Says P (f k x)) → (k : ℕ) (xs : List X) → Says P (numbered f k xs)
says_numbered P f h k [] = tt
says_numbered P f h k (x ∷ xs) = says_append P (f k x) (numbered f (suc k) xs) (h k x) (says_numbered P f h (suc k) xs)

pub says_restated : {A B : Type 0} (P : B → Type 0) (Q : A → Type 0) (f : A → B) → ((a : A) → Q a → P (f a)) → (qs : List (Question A)) → Says Q qs → Says P (restated f qs)
says_restated P Q f to [] h = tt
says_restated P Q f to (q ∷ qs) h = (to q.says h.0, says_restated P Q f to qs h.1)

pub says_anything : {A : Type 0} (qs : List (Question A)) → Says (λ _. Unit {0}) qs
says_anything [] = tt
says_anything (q ∷ qs) = (tt, says_anything qs)
