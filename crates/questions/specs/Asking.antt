-- Questions as data: a refusal is the first no among questions that are put in a stated order.
use Rattle.std.specs.Prelude.{ℕ, suc, Bool, cond, List, [], ◌∷◌, ◌++◌, Some, None, Ok, Err, Option, Result}
use Rattle.questions.specs.declared.Refusal.{Refusal}
use Rattle.questions.specs.declared.Side.TheVariants.{Left}

-- a question with its answer, and what a no says
pub record Question (A : Type 0) : Type 0 where
  pub says : A
  pub yes : Bool

-- what the first no says, or none where every answer is yes
abbrev pub first_no : {A : Type 0} → List (Question A) → Option A
first_no [] = None
first_no (q ∷ qs) = cond q.yes (first_no qs) (Some q.says)

abbrev pub put : {A : Type 0} → A → Bool → Question A
put a b = record { says = a; yes = b }

-- one question
abbrev pub ask : {A : Type 0} → A → Bool → List (Question A)
ask a b = put a b ∷ []

-- the questions to each item of a list, which is numbered from k on
abbrev pub numbered : {X A : Type 0} → (ℕ → X → List (Question A)) → ℕ → List X → List (Question A)
numbered f k [] = []
numbered f k (x ∷ xs) = f k x ++ numbered f (suc k) xs

-- the same questions, with other words for a no
abbrev pub restated : {A B : Type 0} → (A → B) → List (Question A) → List (Question B)
restated f [] = []
restated f (q ∷ qs) = put (f q.says) q.yes ∷ restated f qs

-- what an answer refuses with: `say` gives the no that a fault stands for
abbrev pub refusal_of : {X F A : Type 0} → (F → A) → Result X F → Option A
refusal_of say (Ok x) = None
refusal_of say (Err f) = Some (say f)

-- the refusal of a question that has nothing but its number, and of one about the item k of a list
abbrev pub refuse : ℕ → Refusal
refuse q = record { question = q; side = Left; item = 0; step = 0 }

abbrev pub refuse_at : ℕ → ℕ → Refusal
refuse_at q k = record { question = q; side = Left; item = k; step = 0 }
