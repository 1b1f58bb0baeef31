-- The rows in bytes keep the range and the locations, and they are few. Assumes nothing.
use Rattle.std.proofs.Common.{◌≡◌, ℕ, ◌/◌, ◌≤◌, Bool, true, false, cond, ◌&&◌, eqb, leb, List, length, get_or, ℤ, Some, None, Option, sym, refl, ap, ◌∙◌, arith}
use Rattle.std.proofs.lemmas.Bool.{and_parts, and_from, leb-true}
use Rattle.lists.specs.Words.{given, every, records}
use Rattle.lists.proofs.Places.{some_none}
use Rattle.lists.proofs.Records.{length_records}
use Rattle.lists.proofs.Gathered.{length_gathered, every_gathered}
use Rattle.questions.specs.Asking.{first_no}
use Rattle.questions.proofs.Asked.{head_none}
use Rattle.tables.specs.Table.{fits_table}
use Rattle.model.specs.Ranges.{in_range}
use Rattle.model.specs.Values.{value_of}
use Rattle.rows.specs.declared.row.Operand.{Operand}
use Rattle.rows.specs.declared.row.Operand.TheVariants.{First, Second, Constant}
use Rattle.rows.specs.declared.row.Guard.{Guard}
use Rattle.rows.specs.declared.row.Action.{Action}
use Rattle.rows.specs.declared.row.Action.TheVariants.{Silent, Broadcast, Receive}
use Rattle.rows.specs.declared.row.Register.TheVariants.{First as IntoFirst, Second as IntoSecond}
use Rattle.rows.specs.declared.row.Row.{Row}
use Rattle.rows.specs.Layouts.{parse_operand, parse_action, sending, assembled, framed, parse_row}
use Rattle.rows.specs.Programs.{rows_asked, rows_of, operand_in_range, action_in_range, row_in_range}

none_some : {X : Type 0} {x : X} → None ≡ Some x → ⊥
none_some {x = x} e = some_none (Some x) x refl (sym e)

module _ (lo hi : ℤ) where
  operand_by : (k0 k1 k2 z r : Bool) (v : ℤ) (x : Operand) → in_range lo hi v ≡ r → cond k0 (given z First) (cond k1 (given z Second) (cond k2 (given r (Constant v)) None)) ≡ Some x → operand_in_range lo hi x ≡ true
  operand_by true k1 k2 true r v x q e = let s : x ≡ First = cc in ap (operand_in_range lo hi) s
  operand_by true k1 k2 false r v x q e = absurd (none_some e)
  operand_by false true k2 true r v x q e = let s : x ≡ Second = cc in ap (operand_in_range lo hi) s
  operand_by false true k2 false r v x q e = absurd (none_some e)
  operand_by false false true z true v x q e = let s : x ≡ Constant v = cc in ap (operand_in_range lo hi) s ∙ q
  operand_by false false true z false v x q e = absurd (none_some e)
  operand_by false false false z r v x q e = absurd (none_some e)

  operand_kept : (kind b : ℕ) (x : Operand) → parse_operand lo hi kind b ≡ Some x → operand_in_range lo hi x ≡ true
  operand_kept kind b x e = operand_by (eqb kind 0) (eqb kind 1) (eqb kind 2) (eqb b 0) (in_range lo hi (value_of b)) (value_of b) x refl e

  sending_kept : (o : Option Operand) (a : Action) → ((x : Operand) → o ≡ Some x → operand_in_range lo hi x ≡ true) → sending o ≡ Some a → action_in_range lo hi a ≡ true
  sending_kept None a h e = absurd (none_some e)
  sending_kept (Some x) a h e = let s : a ≡ Broadcast x = cc in ap (action_in_range lo hi) s ∙ h x refl

  action_by : (k0 k1 k2 p z0 z1 zb : Bool) (o : Option Operand) (a : Action) → ((x : Operand) → o ≡ Some x → operand_in_range lo hi x ≡ true)
      → cond k0 (given p Silent) (cond k1 (sending o) (cond k2 (cond zb (cond z0 (Some (Receive IntoFirst)) (given z1 (Receive IntoSecond))) None) None)) ≡ Some a → action_in_range lo hi a ≡ true
  action_by true k1 k2 true z0 z1 zb o a h e = let s : a ≡ Silent = cc in ap (action_in_range lo hi) s
  action_by true k1 k2 false z0 z1 zb o a h e = absurd (none_some e)
  action_by false true k2 p z0 z1 zb o a h e = sending_kept o a h e
  action_by false false true p true z1 true o a h e = let s : a ≡ Receive IntoFirst = cc in ap (action_in_range lo hi) s
  action_by false false true p false true true o a h e = let s : a ≡ Receive IntoSecond = cc in ap (action_in_range lo hi) s
  action_by false false true p false false true o a h e = absurd (none_some e)
  action_by false false true p z0 z1 false o a h e = absurd (none_some e)
  action_by false false false p z0 z1 zb o a h e = absurd (none_some e)

  action_kept : (kind a b : ℕ) (x : Action) → parse_action lo hi kind a b ≡ Some x → action_in_range lo hi x ≡ true
  action_kept kind a b x e = action_by (eqb kind 0) (eqb kind 1) (eqb kind 2) (eqb a 0 && eqb b 0) (eqb a 0) (eqb a 1) (eqb b 0) (parse_operand lo hi a b) x (operand_kept a b) e

  assembled_kept : (from to : ℕ) (og : Option Guard) (oa : Option Action) (ox oy : Option Operand) (r : Row) → leb to 63 ≡ true
      → ((a : Action) → oa ≡ Some a → action_in_range lo hi a ≡ true) → ((x : Operand) → ox ≡ Some x → operand_in_range lo hi x ≡ true) → ((y : Operand) → oy ≡ Some y → operand_in_range lo hi y ≡ true)
      → assembled from og oa to ox oy ≡ Some r → row_in_range lo hi r ≡ true
  assembled_kept from to None oa ox oy r t ha hx hy e = absurd (none_some e)
  assembled_kept from to (Some g) None ox oy r t ha hx hy e = absurd (none_some e)
  assembled_kept from to (Some g) (Some a) None oy r t ha hx hy e = absurd (none_some e)
  assembled_kept from to (Some g) (Some a) (Some x) None r t ha hx hy e = absurd (none_some e)
  assembled_kept from to (Some g) (Some a) (Some x) (Some y) r t ha hx hy e =
      let s : r ≡ record { from = from; guard = g; action = a; to = to; first = x; second = y } = cc in
      ap (row_in_range lo hi) s
      ∙ and_from (leb to 63) _ t (and_from (action_in_range lo hi a) _ (ha a refl) (and_from (operand_in_range lo hi x) (operand_in_range lo hi y) (hx x refl) (hy y refl)))

  framed_by : (b : Bool) (o : Option Row) (r : Row) → cond b o None ≡ Some r → (b ≡ true) × (o ≡ Some r)
  framed_by true o r e = (refl, e)
  framed_by false o r e = absurd (none_some e)

  pub row_kept : (bytes : List ℕ) (r : Row) → parse_row lo hi bytes ≡ Some r → row_in_range lo hi r ≡ true
  row_kept b r e =
      let p = framed_by (framed b) _ r e in
      let q = and_parts (eqb (length b) 16) _ p.0 in
      let t = and_parts (leb (get_or b 0 0) 63) _ q.1 in
      let u = and_parts (leb (get_or b 9 0) 63) _ t.1 in
      assembled_kept (get_or b 0 0) (get_or b 9 0) _ _ _ _ r u.0
      (action_kept (get_or b 6 0) (get_or b 7 0) (get_or b 8 0)) (operand_kept (get_or b 10 0) (get_or b 11 0)) (operand_kept (get_or b 12 0) (get_or b 13 0)) p.1

  pub rows_kept : (bytes : List ℕ) → every (row_in_range lo hi) (rows_of lo hi bytes) ≡ true
  rows_kept bytes = every_gathered (parse_row lo hi) (row_in_range lo hi) row_kept (records 16 bytes)

  pub rows_few : (bytes : List ℕ) → None ≡ first_no (rows_asked lo hi bytes) → length (rows_of lo hi bytes) ≤ 64
  rows_few bytes none =
      let p = head_none (fits_table 16 64 bytes) _ _ (sym none) in
      let q = and_parts (eqb _ 0) (leb (length bytes / 16) 64) p.0 in
      let h : length bytes / 16 ≤ 64 = leb-true _ _ q.1 in
      omega (arith, length_gathered (parse_row lo hi) (records 16 bytes), length_records 16 bytes)
