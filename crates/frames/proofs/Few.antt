-- An input that passes the questions of its frame has at most 1,022 pairs: its first two records are settings. Assumes nothing.
use Rattle.std.proofs.Common.{◌≡◌, ℕ, ◌+◌, ◌/◌, ◌%◌, ◌≤◌, ◌==◌, ◌&&◌, Bool, true, false, List, [], ◌∷◌, length, filter, slice_index, nat_le, not, None, sym, refl, ap, ◌∙◌, cond, arith}
use Rattle.std.proofs.lemmas.Bool.{and_parts, eqb-true, leb-true, false_from_ne_true, true≢false}
use Rattle.std.proofs.lemmas.List.Filters.{length-filter_both}
use Rattle.std.proofs.lemmas.List.{length-map}
use Rattle.model.specs.Bytes.{pair_of}
use Rattle.lists.specs.Words.{records}
use Rattle.lists.proofs.Records.{length_records}
use Rattle.questions.specs.Asking.{first_no, numbered}
use Rattle.questions.specs.declared.Side.TheVariants.{Left}
use Rattle.questions.proofs.Asked.{head_none, append_left, append_right, ask_yes}
use Rattle.frames.specs.declared.kind.Kind.TheVariants.{Pair}
use Rattle.frames.specs.Kinds.{kind_of}
use Rattle.frames.specs.Frames.{framed, framed_as, frame_asked, frames_asked, length_fits, zero_from}
use Rattle.frames.specs.Payloads.{of_kind, payload_of, records_of, relation_of}

-- a framed record that is the first or the second is no pair
no_pair : (k : ℕ) (r : List ℕ) → nat_le 2 k ≡ false → framed k r ≡ true → of_kind Pair Left r ≡ false
no_pair k r early h =
    let side = slice_index r 1 == 0 in
    let unplaced : framed_as (kind_of 4) k r ≡ false = ap (λ b. (b && side) && zero_from 50 r) early in
    let other = false_from_ne_true (slice_index r 0 == 4) (λ e. true≢false (sym h ∙ ap (λ b. framed_as (kind_of b) k r) (eqb-true (slice_index r 0) 4 e) ∙ unplaced)) in
    ap (λ b. b && side) other

pass_over : {X : Type 0} (p : X → Bool) (x : X) (xs : List X) → p x ≡ false → filter p (x ∷ xs) ≡ filter p xs
pass_over p x xs e = ap (λ b. cond b (x ∷ filter p xs) (filter p xs)) e

behind_settings : (rs : List (List ℕ)) → 2 ≤ length rs → first_no (numbered frame_asked 0 rs) ≡ None → length (filter (of_kind Pair Left) rs) + 2 ≤ length rs
behind_settings [] two none = absurd (omega (arith, two))
behind_settings (a ∷ []) two none = absurd (omega (arith, two))
behind_settings (a ∷ b ∷ rs) two none =
    let p = of_kind Pair Left in
    let later = append_right (frame_asked 0 a) (numbered frame_asked 1 (b ∷ rs)) none in
    let first = no_pair 0 a refl (ask_yes _ _ (append_left (frame_asked 0 a) (numbered frame_asked 1 (b ∷ rs)) none)) in
    let second = no_pair 1 b refl (ask_yes _ _ (append_left (frame_asked 1 b) (numbered frame_asked 2 rs) later)) in
    let left = ap length (pass_over p a (b ∷ rs) first ∙ pass_over p b rs second) in
    omega (arith, left, length-filter_both p (λ r. not (p r)) (λ r. refl) rs)

-- from 2 to 1,024 records
record_count : (n : ℕ) → length_fits n ≡ true → (2 ≤ n / 64) × (n / 64 ≤ 1024)
record_count n h =
    let bounds = and_parts (nat_le 128 n) (nat_le n 65536) (and_parts (n % 64 == 0) (nat_le 128 n && nat_le n 65536) h).1 in
    let least = leb-true 128 n bounds.0 in
    let most = leb-true n 65536 bounds.1 in
    (omega (arith, least), omega (arith, most))

pub pairs_few : (bytes : List ℕ) → first_no (frames_asked bytes) ≡ None → length (relation_of bytes) ≤ 1022
unfolding relation_of
pairs_few bytes none =
    let parts = head_none (length_fits (length bytes)) (first_no (numbered frame_asked 0 (records 64 bytes))) _ none in
    let count = record_count (length bytes) parts.0 in
    let all = length_records 64 bytes in
    let some = behind_settings (records 64 bytes) (omega (arith, count.0, all)) parts.1 in
    omega (arith, count.1, all, some, length-map (records_of Pair Left bytes) (λ r. pair_of (payload_of Pair r)))
