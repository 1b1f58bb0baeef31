-- Length and place in a list that is joined, filtered or multiplied out. Assumes nothing.
use Rattle.std.proofs.Common.{◌≡◌, ℕ, zero, suc, ◌+◌, ◌-◌, ◌*◌, ◌/◌, ◌%◌, ◌<◌, ◌≤◌, Bool, true, false, cond, List, [], ◌∷◌, ◌++◌, map, length, get_or, take, set, Some, sym, refl, ap, ◌∙◌, subst, suc-mul, mul-zero, zero-mul, arith}
use native.Mathlib.Nat.{mul-div_cancel_left}
use Rattle.std.proofs.lemmas.List.{length-append, length-map, append_assoc, append-nil, take_all, length-set, take_more_set}
use Rattle.std.proofs.lemmas.Nat.{div-add-mod', div_below, mod_below}
use Rattle.std.proofs.lemmas.Option.{slice_get-get_or}
use Rattle.std.specs.List.{range_with_len, flat_map, slice_get}
use Rattle.lists.specs.Products.{product, volume, digits}

pub nth_append_left : {X : Type 0} (xs ys : List X) (i : ℕ) → i < length xs → slice_get (xs ++ ys) i ≡ slice_get xs i
nth_append_left [] ys i h = absurd (omega arith)
nth_append_left (x ∷ xs) ys zero h = refl
nth_append_left (x ∷ xs) ys (suc i) h = nth_append_left xs ys i (omega arith)

pub nth_append_add : {X : Type 0} (xs ys : List X) (i : ℕ) → slice_get (xs ++ ys) (length xs + i) ≡ slice_get ys i
nth_append_add [] ys i = ap (slice_get ys) (omega arith)
nth_append_add (x ∷ xs) ys i = ap (slice_get (x ∷ (xs ++ ys))) (let e : suc (length xs) + i ≡ suc (length xs + i) = omega arith in e) ∙ nth_append_add xs ys i

-- numbers from k on, below m
pub counting_more : (k m : ℕ) → k < m → range_with_len k (m - k) ≡ k ∷ range_with_len (k + 1) (m - (k + 1))
counting_more k m h = ap (range_with_len k) (let e : m - k ≡ suc (m - (k + 1)) = omega arith in e)

pub counting_none : (k m : ℕ) → m ≤ k → range_with_len k (m - k) ≡ []
counting_none k m h = ap (range_with_len k) (let e : m - k ≡ 0 = omega arith in e)

-- one number more at the end
pub counting_push : (a n : ℕ) → range_with_len a (n + 1) ≡ range_with_len a n ++ ((a + n) ∷ [])
counting_push a zero = ap (λ b. b ∷ []) (let e : a ≡ a + 0 = omega arith in e)
counting_push a (suc n) =
    ap (range_with_len a) (let e : suc n + 1 ≡ suc (n + 1) = omega arith in e) ∙ ap (λ r. a ∷ r) (counting_push (a + 1) n ∙ ap (λ b. range_with_len (a + 1) n ++ (b ∷ [])) (let e : a + 1 + n ≡ a + suc n = omega arith in e))

-- a place in the first of the blocks f k, f (k + 1) ..
pub nth_joined_here : {Y : Type 0} (f : ℕ → List Y) (k m i : ℕ) → k < m → i < length (f k) → slice_get (flat_map f (range_with_len k (m - k))) i ≡ slice_get (f k) i
nth_joined_here f k m i h l = ap (λ ks. slice_get (flat_map f ks) i) (counting_more k m h) ∙ nth_append_left (f k) (flat_map f (range_with_len (k + 1) (m - (k + 1)))) i l

-- a product has as many elements as the product of the lengths
pub length_grid : {X Y Z : Type 0} (f : X → Y → Z) (xs : List X) (ys : List Y) → length (flat_map (λ x. map (f x) ys) xs) ≡ length xs * length ys
length_grid f [] ys = sym (zero-mul (length ys))
length_grid f (x ∷ xs) ys =
    length-append (map (f x) ys) (flat_map (λ x. map (f x) ys) xs)
    ∙ ap (λ n. n + length (flat_map (λ x. map (f x) ys) xs)) (length-map ys (f x))
    ∙ ap (λ n. length ys + n) (length_grid f xs ys)
    ∙ (let e : length ys + length xs * length ys ≡ suc (length xs) * length ys = omega (arith, suc-mul (length xs) (length ys)) in e)

pub length_product : {X : Type 0} (xss : List (List X)) → length (product xss) ≡ volume xss
unfolding product volume digits
length_product [] = refl
length_product (xs ∷ xss) = length_grid (λ x ys. x ∷ ys) xs (product xss) ∙ ap (λ n. length xs * n) (length_product xss)

pub get_or_nth_map : {X Y : Type 0} (f : X → Y) (xs : List X) (i : ℕ) (d : X) → i < length xs → slice_get (map f xs) i ≡ Some (f (get_or xs i d))
get_or_nth_map f [] i d h = absurd (omega arith)
get_or_nth_map f (x ∷ xs) zero d h = refl
get_or_nth_map f (x ∷ xs) (suc i) d h = get_or_nth_map f xs i d (omega arith)

-- the element in row q and column r
pub nth_grid : {X Y Z : Type 0} (f : X → Y → Z) (xs : List X) (ys : List Y) (d : X) (e : Y) (q r : ℕ) → q < length xs → r < length ys → slice_get (flat_map (λ x. map (f x) ys) xs) (q * length ys + r) ≡ Some (f (get_or xs q d) (get_or ys r e))
nth_grid f [] ys d e q r h l = absurd (omega arith)
nth_grid f (x ∷ xs) ys d e zero r h l =
    ap (slice_get (flat_map (λ x. map (f x) ys) (x ∷ xs))) (let z : 0 * length ys + r ≡ r = omega (arith, zero-mul (length ys)) in z)
    ∙ nth_append_left (map (f x) ys) (flat_map (λ x. map (f x) ys) xs) r (simp length-map l)
    ∙ get_or_nth_map (f x) ys r e l
nth_grid f (x ∷ xs) ys d e (suc q) r h l =
    ap (slice_get (flat_map (λ x. map (f x) ys) (x ∷ xs))) (let z : suc q * length ys + r ≡ length (map (f x) ys) + (q * length ys + r) = simp (length-map, suc-mul) (omega arith) in z)
    ∙ nth_append_add (map (f x) ys) (flat_map (λ x. map (f x) ys) xs) (q * length ys + r)
    ∙ nth_grid f xs ys d e q r (omega arith) l

pub pos_from : (a b i : ℕ) → i < a * b → 0 < b
pos_from a zero i h = absurd (omega (arith, mul-zero a))
pos_from a (suc b) i h = omega arith

-- the element of number i of a product, by its digits
pub nth_product : {X : Type 0} (d : X) (xss : List (List X)) (i : ℕ) → i < volume xss → slice_get (product xss) i ≡ Some (digits d xss i)
unfolding product volume digits
nth_product d [] zero h = refl
nth_product d [] (suc i) h = absurd (omega arith)
nth_product d (xs ∷ xss) i h =
    let V : ℕ = volume xss in
    let some : 0 < V = volume_some in
    let q : i / V < length xs = div_below i V (length xs) some h in
    let r : i % V < V = mod_below i V some in
    let w : i % V < length (product xss) = rw length_product r in
    let split : i ≡ i / V * length (product xss) + i % V = rw length_product (sym (div-add-mod' i V)) in
    let here = nth_product d xss (i % V) r in
    let there = slice_get-get_or (product xss) (i % V) [] w in
    let same : get_or (product xss) (i % V) [] ≡ digits d xss (i % V) = cc in
    ap (slice_get (product (xs ∷ xss))) split ∙ nth_grid (λ x ys. x ∷ ys) xs (product xss) d [] (i / V) (i % V) q w ∙ ap (λ ys. Some (get_or xs (i / V) d ∷ ys)) same
  where
    volume_some : 0 < volume xss
    volume_some = pos_from (length xs) (volume xss) i h

pub volume_more : {X : Type 0} (f : ℕ → List X) (j m : ℕ) → j < m → volume (map f (range_with_len j (m - j))) ≡ length (f j) * volume (map f (range_with_len (j + 1) (m - (j + 1))))
unfolding product volume digits
volume_more f j m h = ap (λ ks. volume (map f ks)) (counting_more j m h)

-- one digit more
pub digits_more : {X : Type 0} (d : X) (f : ℕ → List X) (m j : ℕ) (out : List X) (rest size : ℕ) (x : X) (goal : List X) → j < m → length out ≡ m → size ≡ volume (map f (range_with_len (j + 1) (m - (j + 1)))) → x ≡ get_or (f j) (rest / size) d → take j out ++ digits d (map f (range_with_len j (m - j))) rest ≡ goal → take (j + 1) (set out j x) ++ digits d (map f (range_with_len (j + 1) (m - (j + 1)))) (rest % size) ≡ goal
unfolding product volume digits
digits_more d f m j out rest size x goal h l v e g =
    let within : j < length out = omega arith in
    let ds = digits d (map f (range_with_len (j + 1) (m - (j + 1)))) (rest % size) in
    let split : digits d (map f (range_with_len j (m - j))) rest ≡ x ∷ ds =
    ap (λ ks. digits d (map f ks) rest) (counting_more j m h)
    ∙ ap (λ n. get_or (f j) (rest / n) d ∷ digits d (map f (range_with_len (j + 1) (m - (j + 1)))) (rest % n)) (sym v)
    ∙ ap (λ y. y ∷ ds) (sym e) in
    ap (λ front. front ++ ds) (take_more_set out j x within) ∙ append_assoc (take j out) (x ∷ []) ds ∙ ap (λ back. take j out ++ back) (sym split) ∙ g

-- A loop that writes the digits of i into out, the slowest first. It has come to the list j: size is the volume of the lists from j on, and rest what remains of i.
pub record Picking {X : Type 0} (d : X) (f : ℕ → List X) (m i j size rest : ℕ) (out : List X) : Type 0 where
  pub size_is : size ≡ volume (map f (range_with_len j (m - j)))
  pub low : rest < size
  pub long : length out ≡ m
  pub same : take j out ++ digits d (map f (range_with_len j (m - j))) rest ≡ digits d (map f (range_with_len 0 m)) i

module _ {X : Type 0} (d : X) (f : ℕ → List X) (m i j size rest c : ℕ) (out : List X) where
  pub picking_size : Picking d f m i j size rest out → j < m → c ≡ length (f j) → 0 < c → size / c ≡ volume (map f (range_with_len (j + 1) (m - (j + 1))))
  picking_size p h e s = ap (λ n. n / c) (p.size_is ∙ volume_more f j m h ∙ ap (λ n. n * volume (map f (range_with_len (j + 1) (m - (j + 1))))) (sym e)) ∙ mul-div_cancel_left (volume (map f (range_with_len (j + 1) (m - (j + 1))))) s

  rest_low : Picking d f m i j size rest out → j < m → c ≡ length (f j) → 0 < c → rest < c * (size / c)
  rest_low p h e s =
      let t : size ≡ c * (size / c) = p.size_is ∙ volume_more f j m h ∙ ap (λ n. n * volume (map f (range_with_len (j + 1) (m - (j + 1))))) (sym e) ∙ ap (λ n. c * n) (sym (picking_size p h e s)) in
      subst (λ n. rest < n) t p.low

  pub picking_some : Picking d f m i j size rest out → j < m → c ≡ length (f j) → 0 < c → 0 < size / c
  picking_some p h e s = pos_from c (size / c) rest (rest_low p h e s)

  pub picking_more : (x : X) → Picking d f m i j size rest out → j < m → c ≡ length (f j) → 0 < c → x ≡ get_or (f j) (rest / (size / c)) d → Picking d f m i (j + 1) (size / c) (rest % (size / c)) (set out j x)
  picking_more x p h e s r =
      record {
        size_is = picking_size p h e s;
        low = mod_below rest (size / c) (picking_some p h e s);
        long = length-set out j x ∙ p.long;
        same = digits_more d f m j out rest (size / c) x _ h p.long (picking_size p h e s) r p.same;
      }

  pub picking_all : Picking d f m i j size rest out → m ≤ j → out ≡ digits d (map f (range_with_len 0 m)) i
  unfolding product volume digits
  picking_all p h =
      sym (take_all j out (let l : length out ≤ j = omega (arith, p.long) in l)) ∙ sym (append-nil (take j out))
      ∙ ap (λ ks. take j out ++ digits d (map f ks) rest) (sym (counting_none j m h)) ∙ p.same

-- a list that is there only if b
pub below_when : {X Y : Type 0} (b : Bool) (f : X → Y) (xs : List X) (i : ℕ) → i < length (cond b (map f xs) []) → i < length xs
below_when true f xs i h = subst (λ n. i < n) (length-map xs f) h
below_when false f xs i h = absurd (omega arith)

pub nth_map_some : {X Y : Type 0} (f : X → Y) (xs : List X) (i : ℕ) (x : X) → slice_get xs i ≡ Some x → slice_get (map f xs) i ≡ Some (f x)
nth_map_some f [] i x e = absurd (let z : ◌≡◌ {A = ℕ} 0 1 = cc in omega arith)
nth_map_some f (y ∷ ys) zero x e = ap (λ v. Some (f v)) (cc)
nth_map_some f (y ∷ ys) (suc i) x e = nth_map_some f ys i x e

pub nth_when : {X Y : Type 0} (b : Bool) (f : X → Y) (xs : List X) (i : ℕ) (x : X) → i < length (cond b (map f xs) []) → slice_get xs i ≡ Some x → slice_get (cond b (map f xs) []) i ≡ Some (f x)
nth_when true f xs i x h e = nth_map_some f xs i x e
nth_when false f xs i x h e = absurd (omega arith)
