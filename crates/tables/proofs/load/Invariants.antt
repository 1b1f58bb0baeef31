use Rattle.std.proofs.Common.{◌≡◌, ℕ, ◌+◌, ◌≤◌, ◌++◌, length}
use Rattle.std.specs.Slice.Iter.{chunks_exact_rest, chunks_exact_size}
use Rattle.lists.specs.Words.{records, gathered}
use Rattle.questions.specs.Asking.{first_no, numbered}
use Rattle.tables.specs.Table.{record_asked}
use Rattle.tables.proofs.load.Given as goal

-- what is left to be read is asked and gathered as the whole is, and there is room for it
abbrev pub invariant-loop-record : goal.invariant-loop-record
invariant-loop-record g l =
    let w = g.L.Layout.width l.layout in
    let parse = g.L.Layout.parse l.layout in
    let left = records w (chunks_exact_rest l.record-iterator) in
    record {
      size : chunks_exact_size l.record-iterator ≡ w;
      asked : (q : ℕ) → first_no (numbered (record_asked q parse) 0 (records w l.bytes)) ≡ first_no (numbered (record_asked q parse) (length l.table.items) left);
      got : gathered parse (records w l.bytes) ≡ l.table.items ++ gathered parse left;
      few : length l.table.items + length left ≤ g.row.MOST;
    }
