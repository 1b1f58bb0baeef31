-- What the test of a state decides, in words. Assumes nothing.
use Rattle.std.proofs.Common.{◌≡◌, ℕ, ◌<◌, ◌≤◌, Bool, true, false, cond, List, Decides, ℤ, refl, subst, arith}
use Rattle.std.specs.Prelude.{nat_le, nat_lt}
use Rattle.std.specs.List.{range_with_len}
use Rattle.std.proofs.lemmas.Bool.{leb-true, le-leb, ltb-true, ltb-false}
use Rattle.std.proofs.lemmas.Bool.Decides.{Decides-like, Decides-and}
use Rattle.std.proofs.lemmas.List.FromFn.{length-range_with_len}
use Rattle.lists.specs.Words.{every}
use Rattle.lists.proofs.Every.{decides_every}
use Rattle.lists.proofs.Places.{some_same, nth_within}
use Rattle.model.specs.Bytes.{zero_unit}
use Rattle.model.specs.Ranges.{in_range}
use Rattle.model.specs.declared.group_set.GroupSet.{GroupSet}
use Rattle.model.specs.declared.state.State.{State}
use Rattle.model.proofs.Deciding.{le_z_le, le_le_z, decides_unit}
use Rattle.ways.specs.Nets.{Net, unit_at}
use Rattle.ways.specs.Landings.{placed}
use Rattle.network.specs.Meanings.{unit_in_range, zero_bytes, slot_lawful, lawful, Between, Lawful}
use Rattle.network.proofs.Slots.{nth_slot}

decides_least : (a b : ℕ) → Decides (nat_le a b) (a ≤ b)
decides_least a b = (leb-true a b, le-leb a b)

decides_between : (lo hi v : ℤ) → Decides (in_range lo hi v) (Between lo hi v)
decides_between lo hi v = Decides-and _ _ (le_z_le lo v, le_le_z lo v) (le_z_le v hi, le_le_z v hi)

pub decides_true : (b : Bool) → Decides b (b ≡ true)
decides_true b = (λ e. e, λ e. e)

-- of every slot by its number
decides_slots : (f : ℕ → Bool) (P : ℕ → Type 0) (m : ℕ) → ((j : ℕ) → Decides (f j) (P j)) → Decides (every f (range_with_len 0 m)) ((j : ℕ) → j < m → P j)
decides_slots f P m each =
    Decides-like _
    (λ all j h. all j j (nth_slot m j h))
    (λ all k x at.
    let within = nth_within (range_with_len 0 m) k x at in
    let h : k < m = omega (arith, length-range_with_len 0 m, within) in
    subst P (some_same _ k x (nth_slot m k h) at) (all k h))
    (decides_every (λ _. f) (λ _. P) (λ _. each) (range_with_len 0 m))

module _ (n : Net) (s : State) where
  abbrev Kept : ℕ → Type 0
  Kept j = ((unit_at s j).location ≤ 63) × (Between n.lo n.hi (unit_at s j).first × Between n.lo n.hi (unit_at s j).second)

  abbrev Slot : ℕ → Type 0
  Slot j = (j < n.units → Kept j) × (n.units ≤ j → unit_at s j ≡ zero_unit)

  decides_kept : (j : ℕ) → Decides (unit_in_range n (unit_at s j)) (Kept j)
  decides_kept j =
      Decides-and _ _ (decides_least (unit_at s j).location 63)
      (Decides-and _ _ (decides_between n.lo n.hi (unit_at s j).first) (decides_between n.lo n.hi (unit_at s j).second))

  decides_slot : (j : ℕ) → Decides (slot_lawful n s j) (Slot j)
  decides_slot j = at (nat_lt j n.units) refl
    where
      at : (b : Bool) → nat_lt j n.units ≡ b → Decides (cond b (unit_in_range n (unit_at s j)) (zero_bytes (unit_at s j))) (Slot j)
      at true e =
          let h : j < n.units = ltb-true j n.units e in
          Decides-like _ (λ kept. (λ _. kept, λ past. absurd (omega arith))) (λ slot. slot.0 h) (decides_kept j)
      at false e =
          let h : n.units ≤ j = ltb-false j n.units e in
          Decides-like _ (λ zero. (λ below. absurd (omega arith), λ _. zero)) (λ slot. slot.1 h) (decides_unit (unit_at s j) zero_unit)

pub decides_lawful : (n : Net) (allowed : List GroupSet → Bool) (s : State) → n.units ≤ 6 → Decides (lawful n allowed s) (Lawful n allowed s)
decides_lawful n allowed s few =
    Decides-like _
    (λ h. record {
      located = λ j below. ((h.0 j (omega arith)).0 below).0;
      first_kept = λ j below. ((h.0 j (omega arith)).0 below).1.0;
      second_kept = λ j below. ((h.0 j (omega arith)).0 below).1.1;
      spare = λ j past slot. (h.0 j slot).1 past;
      placement = h.1;
    })
    (λ w. (λ j slot. (λ below. (w.located j below, (w.first_kept j below, w.second_kept j below)), λ past. w.spare j past slot), w.placement))
    (Decides-and _ _ (decides_slots (slot_lawful n s) (Slot n s) 6 (decides_slot n s)) (decides_true (allowed (placed n s))))
