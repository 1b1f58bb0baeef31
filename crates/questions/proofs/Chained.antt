-- One list of questions after another. Assumes nothing.
use Rattle.std.proofs.Common.{◌≡◌, ℕ, true, List, ◌++◌, is_some, Some, None, Option, sym, ◌∙◌, arith}
use Rattle.questions.specs.Asking.{Question, first_no}
use Rattle.questions.proofs.Asked.{append_none, append_some}

-- a no among the first questions is the first no of all
pub first_of : {A : Type 0} (o : Option A) (xs ys : List (Question A)) → is_some o ≡ true → o ≡ first_no xs → o ≡ first_no (xs ++ ys)
first_of None xs ys some e = let z : ◌≡◌ {A = ℕ} 0 1 = cc in absurd (omega arith)
first_of (Some t) xs ys some e = sym (append_some xs ys t (sym e))

-- where the first questions have no no, the others decide
pub then_of : {A : Type 0} (o : Option A) (xs ys : List (Question A)) → None ≡ first_no xs → o ≡ first_no ys → o ≡ first_no (xs ++ ys)
then_of o xs ys none e = e ∙ sym (append_none xs ys (sym none))
