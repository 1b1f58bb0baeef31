-- Steps that are added as copies of others. Assumes nothing.
use Rattle.std.proofs.Common.{◌≡◌, ℕ, zero, suc, ◌+◌, ◌-◌, ◌<◌, ◌≤◌, Bool, true, false, cond, not, ◌&&◌, eqb, ltb, List, [], ◌∷◌, ◌++◌, map, length, get_or, take, drop, replicate, set, slice_range, filter, ℤ, Option, sym, refl, ap, ◌∙◌, subst, arith}
use mathlib.Core.List.{map-map}
use Rattle.std.specs.List.{range_with_len, flat_map}
use Rattle.std.proofs.Math.Bool.{and-false}
use Rattle.std.proofs.Math.Seq.{drop-append_seam}
use Rattle.std.proofs.lemmas.List.{append_assoc, map-append, length-replicate, take_all, take-append-le, get_or_append_left, set_at, flat_map_more}
use Rattle.std.proofs.lemmas.List.Edits.{between_more}
use Rattle.std.proofs.lemmas.Slice.{between_is}
use Rattle.lists.specs.Words.{through, given}
use Rattle.lists.specs.Products.{product}
use Rattle.lists.proofs.Listed.{counting_more}
use Rattle.lists.proofs.Adding.{sifting_yes, sifting_no}
use Rattle.model.specs.GroupSets.{linked}
use Rattle.model.specs.Ranges.{in_range}
use Rattle.model.specs.declared.state.State.{State}
use Rattle.systems.specs.declared.listed.Listed.{Listed}
use Rattle.ways.specs.declared.way.Choice.{Choice}
use Rattle.ways.specs.declared.way.Choice.TheVariants.{Stay, Take}
use Rattle.ways.specs.declared.way.Way.TheVariants.{Act}
use Rattle.ways.specs.Nets.{Net, unit_at, row_at}
use Rattle.ways.specs.Ways.{choices, receivable_rows, all_stay}
use Rattle.ways.specs.Landings.{label_of, listed_of, incoming, chosen, acted}
use Rattle.ways.specs.Copies.{put, placing}
use Rattle.ways.proofs.Put.{acted_chosen, acted_same}

-- a loop that adds what f makes of the elements from a number on
module _ {X : Type 0} (f : X → X) (from i : ℕ) (was now : List X) (inv : now ≡ was ++ map f (slice_range was from i)) where
  pub copied_more : (x y : X) (next : List X) → from ≤ i → i < length was → x ≡ get_or now i x → y ≡ f x → next ≡ now ++ y ∷ [] → next ≡ was ++ map f (slice_range was from (i + 1))
  copied_more x y next h l e m n =
      let copies : List X = map f (slice_range was from i) in
      let at : x ≡ get_or was i x = e ∙ ap (λ xs. get_or xs i x) inv ∙ get_or_append_left was copies x i l in
      n ∙ ap (λ xs. xs ++ y ∷ []) inv ∙ append_assoc was copies (y ∷ [])
      ∙ ap (λ z. was ++ (copies ++ z ∷ [])) (m ∙ ap f at)
      ∙ ap (λ xs. was ++ xs) (sym (ap (map f) (between_more was from i x h l) ∙ map-append f (slice_range was from i) (get_or was i x ∷ [])))

-- what a list was stands in front of what is added
pub still_there : {X : Type 0} (was more now : List X) (from to : ℕ) → now ≡ was ++ more → to ≡ length was → slice_range now from to ≡ drop from was
still_there was more now from to e l =
    between_is now from to ∙ ap (drop from) (ap (take to) e ∙ take-append-le to was more (omega (arith, l)) ∙ take_all to was (omega (arith, l)))

-- a loop that adds a list for each number that passes a test
module _ {Y Z : Type 0} (p : ℕ → Bool) (f : ℕ → Y) (h : Y → List Z) (k : ℕ) (was now : List Z) (inv : now ≡ was ++ flat_map h (map f (filter p (range_with_len 0 k)))) where
  pub blocks_yes : (b : Bool) (next : List Z) → b ≡ p k → b ≡ true → next ≡ now ++ h (f k) → next ≡ was ++ flat_map h (map f (filter p (range_with_len 0 (k + 1))))
  blocks_yes b next q e n =
      let ys : List Y = map f (filter p (range_with_len 0 k)) in
      n ∙ ap (λ zs. zs ++ h (f k)) inv ∙ flat_map_more h was ys (f k)
      ∙ ap (λ l. was ++ flat_map h l) (sifting_yes p f k [] ys refl b (ys ++ f k ∷ []) q e refl)

  pub blocks_no : (b : Bool) → b ≡ p k → b ≡ false → now ≡ was ++ flat_map h (map f (filter p (range_with_len 0 (k + 1))))
  blocks_no b q e = inv ∙ ap (λ l. was ++ flat_map h l) (sifting_no p f k [] (map f (filter p (range_with_len 0 k))) refl b q e)

-- F makes of a list that begins with x what g makes, with x, of what G makes of the rest
module _ {X Y : Type 0} (F G : List X → Y) (g : X → Y → Y) (each : (x : X) (ys : List X) → F (x ∷ ys) ≡ g x (G ys)) where
  one_copied : (x : X) (zs : List (List X)) → map F (map (λ (ys : List X). x ∷ ys) zs) ≡ map (g x) (map G zs)
  one_copied x zs = map-map F (λ (ys : List X). x ∷ ys) zs ∙ (λ i. map (λ ys. each x ys i) zs) ∙ sym (map-map (g x) G zs)

  all_copied : (zs : List (List X)) (xs : List X) → map F (flat_map (λ x. map (λ ys. x ∷ ys) zs) xs) ≡ flat_map (λ x. map (g x) (map G zs)) xs
  all_copied zs [] = refl
  all_copied zs (x ∷ xs) =
      map-append F (map (λ (ys : List X). x ∷ ys) zs) (flat_map (λ x. map (λ ys. x ∷ ys) zs) xs)
      ∙ ap (λ c. c ++ map F (flat_map (λ x. map (λ ys. x ∷ ys) zs) xs)) (one_copied x zs)
      ∙ ap (λ c. map (g x) (map G zs) ++ c) (all_copied zs xs)

  -- one list more in front of a product, whose first element changes nothing
  product_copied : (d : X) (xs : List X) (os : List (List X)) → ((ys : List X) → F (d ∷ ys) ≡ G ys) → map F (product ((d ∷ xs) ∷ os)) ≡ map G (product os) ++ flat_map (λ x. map (g x) (map G (product os))) xs
  unfolding product
  product_copied d xs os same =
      map-append F (map (λ (ys : List X). d ∷ ys) (product os)) (flat_map (λ x. map (λ ys. x ∷ ys) (product os)) xs)
      ∙ ap (λ c. c ++ map F (flat_map (λ x. map (λ ys. x ∷ ys) (product os)) xs)) (map-map F (λ (ys : List X). d ∷ ys) (product os) ∙ (λ i. map (λ ys. same ys i) (product os)))
      ∙ ap (λ c. map G (product os) ++ c) (all_copied (product os) xs)

-- one slot more that stays
stays_more : (j : ℕ) (cs : List Choice) → replicate (j + 1) Stay ++ cs ≡ replicate j Stay ++ Stay ∷ cs
stays_more zero cs = refl
stays_more (suc j) cs = ap (λ m. replicate m Stay ++ cs) (let e : suc j + 1 ≡ suc (j + 1) = omega arith in e) ∙ ap (λ l. Stay ∷ l) (stays_more j cs)

set_stay : (j : ℕ) (x : Choice) (ys : List Choice) → set (replicate (j + 1) Stay ++ ys) j x ≡ replicate j Stay ++ x ∷ ys
set_stay j x ys = ap (λ l. set l j x) (stays_more j ys) ∙ set_at (replicate j Stay) Stay ys x j (length-replicate j Stay)

given_through : {X Y : Type 0} (b : Bool) (f : X → Y) (x : X) → given b (f x) ≡ through f (given b x)
given_through true f x = refl
given_through false f x = refl

-- what no listener chooses
none_chosen : (n : Net) (s : State) (u j : ℕ) → eqb j u ≡ true → drop 1 (choices n s u j) ≡ []
none_chosen n s u j e = ap (λ b. cond (ltb j n.units && (not b && linked (unit_at s u).groups (unit_at s j).groups)) (map Take (receivable_rows n s j)) []) e ∙ ap (λ b. cond b (map Take (receivable_rows n s j)) []) (and-false (ltb j n.units))

module _ (n : Net) (s : State) (u k : ℕ) (v : ℤ) where
  abbrev sent : ℤ
  sent = incoming (unit_at s u) (row_at n k).action v

  -- the step in which u takes the row k, and the others do as they choose
  abbrev listed_by : List Choice → Listed
  listed_by cs = listed_of n s v (Act u k cs)

  abbrev landing_in : State → Listed
  landing_in t = record { label = label_of n s (Act u k []); landing = given (in_range n.lo n.hi v) t }

  -- the steps in which u takes the row k, and the slots before j stay
  abbrev pub listed_from : ℕ → List Listed
  listed_from j = map (λ cs. listed_by (replicate j Stay ++ cs)) (product (map (choices n s u) (range_with_len j (6 - j))))

  pub listed_last : listed_of n s v (Act u k all_stay) ∷ [] ≡ listed_from 6
  unfolding product
  listed_last = refl

  pub listed_first : listed_from 0 ≡ map (listed_of n s v) (map (Act u k) (product (map (choices n s u) (range_with_len 0 6))))
  listed_first = sym (map-map (listed_of n s v) (Act u k) (product (map (choices n s u) (range_with_len 0 6))))

  -- the same with one slot that chooses x; the slot of u has no say
  abbrev choosing : Bool → ℕ → Choice → Listed → Listed
  choosing b j x l = cond b l (placing j (chosen n (unit_at s j) x (incoming (unit_at s u) (row_at n k).action v)) l)

  chosen_more : (j : ℕ) → j < 6 → (b : Bool) → eqb j u ≡ b → (x : Choice) (ys : List Choice) → listed_by (replicate j Stay ++ x ∷ ys) ≡ choosing b j x (listed_by (replicate (j + 1) Stay ++ ys))
  chosen_more j h true e x ys = sym (ap listed_by (set_stay j x ys)) ∙ ap landing_in (acted_same n s u k j h x ys sent e)
  chosen_more j h false e x ys =
      sym (ap listed_by (set_stay j x ys)) ∙ ap landing_in (acted_chosen n s u k j h x ys sent e)
      ∙ ap (λ (o : Option State). record { label = label_of n s (Act u k []); landing = o }) (given_through (in_range n.lo n.hi v) (put j (chosen n (unit_at s j) x sent)) (acted n s u k (replicate (j + 1) Stay ++ ys) sent))

  listed_more : (j : ℕ) → j < 6 → (b : Bool) → eqb j u ≡ b → listed_from j ≡ listed_from (j + 1) ++ flat_map (λ c. map (choosing b j c) (listed_from (j + 1))) (drop 1 (choices n s u j))
  listed_more j h b e =
      let F = λ (cs : List Choice). listed_by (replicate j Stay ++ cs) in
      let G = λ (cs : List Choice). listed_by (replicate (j + 1) Stay ++ cs) in
      ap (λ ks. map F (product (map (choices n s u) ks))) (counting_more j 6 h)
      ∙ product_copied F G (choosing b j) (chosen_more j h b e) Stay (drop 1 (choices n s u j)) (map (choices n s u) (range_with_len (j + 1) (6 - (j + 1)))) (λ ys. ap listed_by (sym (stays_more j ys)))

  -- the slot of u has no choice but to stay
  copies_are : (j : ℕ) (b : Bool) → eqb j u ≡ b → (ls : List Listed) → flat_map (λ c. map (choosing b j c) ls) (drop 1 (choices n s u j)) ≡ flat_map (λ c. map (choosing false j c) ls) (drop 1 (choices n s u j))
  copies_are j false e ls = refl
  copies_are j true e ls = ap (flat_map (λ c. map (choosing true j c) ls)) (none_chosen n s u j e) ∙ sym (ap (flat_map (λ c. map (choosing false j c) ls)) (none_chosen n s u j e))

  -- a loop over the slots, from the last one to the first, that has come to the slot top - 1
  module _ (was now : List Listed) (top : ℕ) (some : 0 < top) (most : top ≤ 6) (inv : now ≡ was ++ listed_from top) where
    pub listing_more : (from : ℕ) (next : List Listed) → from ≡ length was → next ≡ now ++ flat_map (λ c. map (choosing false (top - 1) c) (drop from now)) (drop 1 (choices n s u (top - 1))) → next ≡ was ++ listed_from (top - 1)
    listing_more from next l m =
        let j = top - 1 in
        let others = drop 1 (choices n s u j) in
        let copies = λ (ls : List Listed). flat_map (λ c. map (choosing false j c) ls) others in
        let last : drop from now ≡ listed_from top = ap (drop from) inv ∙ ap (λ i. drop i (was ++ listed_from top)) l ∙ drop-append_seam was (listed_from top) in
        let there : j + 1 ≡ top = omega arith in
        let more : listed_from j ≡ listed_from (j + 1) ++ copies (listed_from (j + 1)) = listed_more j (omega arith) (eqb j u) refl ∙ ap (λ zs. listed_from (j + 1) ++ zs) (copies_are j (eqb j u) refl (listed_from (j + 1))) in
        let more' = subst (λ m. listed_from j ≡ listed_from m ++ copies (listed_from m)) there more in
        m ∙ ap (λ ls. now ++ copies ls) last ∙ ap (λ ls. ls ++ copies (listed_from top)) inv
        ∙ append_assoc was (listed_from top) (copies (listed_from top)) ∙ ap (λ ls. was ++ ls) (sym more')
