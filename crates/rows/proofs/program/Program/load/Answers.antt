use Rattle.std.proofs.Common.{◌≡◌, ◌≤◌, true, List, length, sym, subst, rules}
use Rattle.lists.specs.Words.{every}
use Rattle.rows.specs.Programs.{row_in_range}
use Rattle.rows.specs.declared.row.Row.{Row}
use Rattle.rows.proofs.Kept.{rows_kept, rows_few}
use Rattle.rows.proofs.program.Program.load.Goals as goal

pub invariant_of-result : goal.invariant_of-result
invariant_of-result c =
    let lo = c.args.range.lo in
    let hi = c.args.range.hi in
    let bytes = c.args.bytes.now in
    let loads = c.in_ok-rows.ensures.loads in
    let answers = c.in_ok-rows.ensures.answers 6 7 in
    let few : length (c.in_ok-rows.rows.items) ≤ 64 = subst (λ (rs : List Row). length rs ≤ 64) (sym loads) (rows_few lo hi bytes answers) in
    record {
      few = search rules;
      kept = subst (λ (rs : List Row). every (row_in_range lo hi) rs ≡ true) (sym loads) (rows_kept lo hi bytes);
    }
