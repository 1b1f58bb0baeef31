-- How many movements there may be. Assumes nothing.
use Rattle.std.proofs.Common.{◌≡◌, ℕ, ◌+◌, ◌*◌, ◌≤◌, Bool, List, map, length, filter, ap, ◌∙◌, arith}
use Rattle.std.specs.List.{range_with_len, flat_map}
use Rattle.std.proofs.lemmas.List.{length-map, length-append}
use Rattle.std.proofs.lemmas.List.Concat.{length-flat_map}
use Rattle.std.proofs.lemmas.List.FromFn.{length-range_with_len}
use Rattle.std.proofs.lemmas.List.Sums.{sum_by-le, length-filter, count_by-le-length}
use Rattle.lists.proofs.Adding.{joined_push}
use Rattle.model.specs.declared.group_set.GroupSet.{GroupSet}
use Rattle.model.specs.declared.state.State.{State}
use Rattle.ways.specs.declared.way.Way.TheVariants.{Move}
use Rattle.ways.specs.Nets.{Net}
use Rattle.network.proofs.Sets.{numbers_are}
use Rattle.network.specs.Meanings.{set_of, set_numbers, may_move, movements_of}

filter_least : {X : Type 0} (p : X → Bool) (xs : List X) (n : ℕ) → length xs ≡ n → length (filter p xs) ≤ n
filter_least p xs n e = omega (arith, length-filter p xs, count_by-le-length p xs, e)

-- no more of the first numbers are kept than there are
pub kept_few : (p : ℕ → Bool) (k : ℕ) → length (map (λ b. b) (filter p (range_with_len 0 k))) ≤ k
kept_few p k = omega (arith, length-map (filter p (range_with_len 0 k)) (λ b. b), filter_least p (range_with_len 0 k) k (length-range_with_len 0 k))

set_count : length set_numbers ≡ 256
set_count = ap length numbers_are ∙ length-range_with_len 0 256

module _ (n : Net) (allowed : List GroupSet → Bool) (s : State) where
  pub few_of : (u : ℕ) → length (movements_of n allowed s u) ≤ 256
  few_of u =
      let few = filter_least (λ b. may_move n allowed s u (set_of b)) set_numbers 256 set_count in
      omega (arith, few, length-map (filter (λ b. may_move n allowed s u (set_of b)) set_numbers) (λ b. Move u (set_of b)))

  pub few_joined : (k : ℕ) → length (flat_map (movements_of n allowed s) (range_with_len 0 k)) ≤ k * 256
  few_joined k =
      let all = sum_by-le (λ u. length (movements_of n allowed s u)) 256 (range_with_len 0 k) (λ k d h. few_of _) in
      omega (arith, all, length-flat_map (movements_of n allowed s) (range_with_len 0 k), length-range_with_len 0 k)

pub joined_length : {Y : Type 0} (f : ℕ → List Y) (k : ℕ) → length (flat_map f (range_with_len 0 (k + 1))) ≡ length (flat_map f (range_with_len 0 k)) + length (f k)
joined_length f k = ap length (joined_push f k) ∙ length-append (flat_map f (range_with_len 0 k)) (f k)
