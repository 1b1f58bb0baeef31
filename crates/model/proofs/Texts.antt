-- The text of a set, one group after the other. Assumes nothing.
use Rattle.std.proofs.Common.{◌≡◌, ℕ, ◌+◌, ◌/◌, ◌%◌, ◌^◌, Bool, true, false, cond, List, [], ◌∷◌, ◌++◌, codes, filter, sym, refl, ap, ◌∙◌, arith}
use Rattle.std.specs.Fmt.{decimal}
use Rattle.std.specs.List.{range_with_len, flat_map}
use Rattle.std.specs.Int.Bits.{bit_and}
use Rattle.std.proofs.lemmas.Bool.{eq-eqb, ne_eqb}
use Rattle.std.proofs.lemmas.Nat.Bits.{shr_and_one}
use Rattle.std.proofs.lemmas.List.{append-nil, append_assoc}
use Rattle.std.proofs.lemmas.List.Concat.{flat_map-append}
use Rattle.std.proofs.lemmas.List.Elements.{filter-append}
use Rattle.lists.proofs.Listed.{counting_push}
use Rattle.model.specs.declared.group_set.GroupSet.{GroupSet}
use Rattle.model.specs.GroupSets.{has, groups_of}
use Rattle.model.specs.Text.{listed}

-- the groups below n
abbrev pub below : GroupSet → ℕ → List ℕ
below s n = filter (has s) (range_with_len 0 n)

-- what stands before the next number
abbrev pub comma_after : List ℕ → List ℕ
comma_after [] = []
comma_after (x ∷ xs) = codes ", "

more : (s : GroupSet) (k : ℕ) (b : Bool) → has s k ≡ b → below s (k + 1) ≡ below s k ++ cond b (k ∷ []) []
more s k b e =
    ap (filter (has s)) (counting_push 0 k ∙ ap (λ j. range_with_len 0 k ++ (j ∷ [])) (let e : 0 + k ≡ k = omega arith in e))
    ∙ (filter-append (has s) (range_with_len 0 k) (k ∷ []) ∙ ap (λ c. below s k ++ cond c (k ∷ []) []) e)

pub below_with : (s : GroupSet) (k : ℕ) → has s k ≡ true → below s (k + 1) ≡ below s k ++ (k ∷ [])
below_with s k e = more s k true e

pub below_without : (s : GroupSet) (k : ℕ) → has s k ≡ false → below s (k + 1) ≡ below s k
below_without s k e = more s k false e ∙ append-nil (below s k)

pub listed_more : (xs : List ℕ) (k : ℕ) → listed (xs ++ (k ∷ [])) ≡ listed xs ++ (comma_after xs ++ decimal k)
listed_more [] k = append-nil (decimal k)
listed_more (x ∷ xs) k =
    let next : ℕ → List ℕ = λ y. codes ", " ++ decimal y in
    ap (λ l. decimal x ++ l) (flat_map-append next xs (k ∷ []) ∙ ap (λ l. flat_map next xs ++ l) (append-nil (next k)))
    ∙ sym (append_assoc (decimal x) (flat_map next xs) (next k))

pub comma_more : (xs : List ℕ) (k : ℕ) → comma_after (xs ++ (k ∷ [])) ≡ codes ", "
comma_more [] k = refl
comma_more (x ∷ xs) k = refl

-- the bit that the test looks at
pub is_in : (s : GroupSet) (k : ℕ) → bit_and (s.bits / 2 ^ k) 1 ≡ 1 → has s k ≡ true
is_in s k e = eq-eqb (s.bits / 2 ^ k % 2) 1 (sym (shr_and_one s.bits k) ∙ e)

pub is_out : (s : GroupSet) (k : ℕ) → (bit_and (s.bits / 2 ^ k) 1 ≡ 1 → ⊥) → has s k ≡ false
is_out s k n = ne_eqb (s.bits / 2 ^ k % 2) 1 (λ e. n (shr_and_one s.bits k ∙ e))

-- what is written of a set, with one more group
pub written : (s : GroupSet) (k : ℕ) (before : List ℕ) → has s k ≡ true → before ≡ comma_after (below s k) → listed (below s k) ++ (before ++ decimal k) ≡ listed (below s (k + 1))
written s k before e q = ap (λ b. listed (below s k) ++ (b ++ decimal k)) q ∙ sym (ap listed (below_with s k e) ∙ listed_more (below s k) k)

pub all_below : (s : GroupSet) (k : ℕ) → k ≡ 8 → below s k ≡ groups_of s
unfolding groups_of
all_below s k e = ap (below s) e
