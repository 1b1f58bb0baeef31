-- A loop that reads the records of a table one by one. Assumes nothing.
use Rattle.std.proofs.Common.{◌≡◌, ℕ, suc, ◌+◌, ◌<◌, true, cond, List, [], ◌∷◌, ◌++◌, length, is_some, Some, None, Option, Ok, Err, ok_or, sym, ap, ◌∙◌, add-one, arith}
use Rattle.lists.specs.Words.{records, gathered, added}
use Rattle.questions.specs.Asking.{first_no, numbered, refuse, refuse_at}
use Rattle.tables.specs.Table.{record_asked, table_asked, fits_table}
use Rattle.tables.specs.declared.TableFault.{TableFault}
use Rattle.tables.specs.declared.TableFault.TheVariants.{Record}
use Rattle.tables.proofs.Cutting.{records_none, records_more}

-- nothing is left where the bytes are too short for a record
no_length : {X : Type 0} (xs : List X) → length xs ≡ 0 → xs ≡ []
no_length [] e = cc
no_length (x ∷ xs) e = absurd (omega (arith, e))

module _ {R : Type 0} (w : ℕ) (some : 0 < w) (parse : List ℕ → Option R) where
  -- what a record says that is read
  pub read_some : (o : Option R) (number : ℕ) (y : R) → Ok y ≡ ok_or o (Record number) → Some y ≡ o
  read_some None number y e = absurd (let z : ◌≡◌ {A = ℕ} 0 1 = cc in omega arith)
  read_some (Some x) number y e = cc

  -- and one that is not, with the fault that tells of it
  pub read_none : (o : Option R) (number : ℕ) (f : TableFault) → Err f ≡ ok_or o (Record number) → (None ≡ o) × (f ≡ Record number)
  read_none None number f e = (cc, cc)
  read_none (Some x) number f e = absurd (let z : ◌≡◌ {A = ℕ} 0 1 = cc in omega arith)

  pub asked_more : (q k : ℕ) (before x after : List ℕ) (y : R) → before ≡ x ++ after → length x ≡ w → Some y ≡ parse x
      → first_no (numbered (record_asked q parse) k (records w before)) ≡ first_no (numbered (record_asked q parse) (k + 1) (records w after))
  asked_more q k before x after y e h p =
      ap (λ b. first_no (numbered (record_asked q parse) k (records w b))) e ∙ ap (λ rs. first_no (numbered (record_asked q parse) k rs)) (records_more w some x after h)
      ∙ ap (λ o. cond (is_some o) (first_no (numbered (record_asked q parse) (suc k) (records w after))) (Some (refuse_at q k))) (sym p)
      ∙ ap (λ j. first_no (numbered (record_asked q parse) j (records w after))) (sym (add-one k))

  pub asked_here : (q k : ℕ) (before x after : List ℕ) → before ≡ x ++ after → length x ≡ w → None ≡ parse x
      → first_no (numbered (record_asked q parse) k (records w before)) ≡ Some (refuse_at q k)
  asked_here q k before x after e h p =
      ap (λ b. first_no (numbered (record_asked q parse) k (records w b))) e ∙ ap (λ rs. first_no (numbered (record_asked q parse) k rs)) (records_more w some x after h)
      ∙ ap (λ o. cond (is_some o) (first_no (numbered (record_asked q parse) (suc k) (records w after))) (Some (refuse_at q k))) (sym p)

  pub gathered_more : (before x after : List ℕ) (y : R) → before ≡ x ++ after → length x ≡ w → Some y ≡ parse x → gathered parse (records w before) ≡ y ∷ gathered parse (records w after)
  gathered_more before x after y e h p =
      ap (λ b. gathered parse (records w b)) e ∙ ap (gathered parse) (records_more w some x after h) ∙ ap (λ o. added o (gathered parse (records w after))) (sym p)

  pub count_more : (before x after : List ℕ) → before ≡ x ++ after → length x ≡ w → length (records w before) ≡ suc (length (records w after))
  count_more before x after e h = ap (λ b. length (records w b)) e ∙ ap length (records_more w some x after h)

  pub none_left : (left : List ℕ) → length left < w → records w left ≡ []
  none_left left h = no_length (records w left) (records_none w some left h)

  -- the questions to a table of the right size are those to its records
  pub answered : (p q most : ℕ) (bytes : List ℕ) → fits_table w most bytes ≡ true → first_no (numbered (record_asked q parse) 0 (records w bytes)) ≡ first_no (table_asked p q w most parse bytes)
  answered p q most bytes fits = sym (ap (λ b. cond b (first_no (numbered (record_asked q parse) 0 (records w bytes))) (Some (refuse p))) fits)
