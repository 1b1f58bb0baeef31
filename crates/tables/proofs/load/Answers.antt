use Rattle.std.proofs.Common.{◌≡◌, ◌/◌, ◌<◌, ◌≤◌, [], ◌∷◌, ◌++◌, length, Some, sym, ap, ◌∙◌, append_assoc, rules, arith}
use Rattle.std.proofs.lemmas.List.{append-nil}
use Rattle.std.proofs.lemmas.Result.{err_from_is_err_and}
use Rattle.std.specs.Slice.Iter.{chunks_exact_rest, chunks_exact_size}
use Rattle.lists.specs.Words.{records, gathered}
use Rattle.lists.proofs.Records.{length_records}
use Rattle.questions.specs.Asking.{first_no, numbered, refuse_at}
use Rattle.tables.specs.Table.{record_asked, table_asked, table_refusal}
use Rattle.tables.proofs.Loading.{read_some, read_none, asked_more, asked_here, gathered_more, count_more, none_left, answered}
use Rattle.tables.proofs.load.Goals as goal

pub loop-record-init : goal.loop-record-init
loop-record-init g c =
    let w = g.L.Layout.width c.args.layout.now in
    let parse = g.L.Layout.parse c.args.layout.now in
    let bytes = c.args.bytes.now in
    let is = c.into_iter-record-iterator.ensures.into_iter_gives in
    let rest : chunks_exact_rest c.into_iter-record-iterator.result ≡ bytes = ap chunks_exact_rest is ∙ c.chunks_exact-record-items.ensures.rest in
    let none : c.new-table.result.items ≡ [] = c.new-table.ensures in
    let few : length bytes / w ≤ g.row.MOST = search rules in
    record {
      size = ap chunks_exact_size is ∙ c.chunks_exact-record-items.ensures.size ∙ c.width-width.ensures.is;
      asked = λ q. ap (λ xs. first_no (numbered (record_asked q parse) (length xs) (records w bytes))) (sym none) ∙ ap (λ b. first_no (numbered (record_asked q parse) (length c.new-table.result.items) (records w b))) (sym rest);
      got = ap (λ xs. xs ++ gathered parse (records w bytes)) (sym none) ∙ ap (λ b. c.new-table.result.items ++ gathered parse (records w b)) (sym rest);
      few = omega (arith, ap length none, ap (λ b. length (records w b)) rest, length_records w bytes, few);
    }

pub returns-in_err-read-clause-answers : goal.returns-in_err-read-clause-answers
returns-in_err-read-clause-answers g c = λ p q.
    let w = g.L.Layout.width c.args.layout.now in
    let some : 0 < w = omega (arith, c.width-width.ensures.is, c.width-width.ensures.some) in
    let parse = g.L.Layout.parse c.args.layout.now in
    let y = err_from_is_err_and c.from_residual.result c.from_residual.ensures.1 in
    let no = read_none w some parse _ c.len.result _ c.in_err-read.ensures in
    let told : Some (table_refusal p q c.in_err-read.field-0.0) ≡ first_no (table_asked p q w g.row.MOST parse c.args.bytes.now) =
    ap (λ f. Some (table_refusal p q f)) no.1 ∙ ap (λ k. Some (refuse_at q k)) c.len.ensures.value
    ∙ sym (asked_here w some parse q _ _ _ _ c.in-Some.ensures.steps.1.0 (c.in-Some.ensures.steps.1.1 ∙ c.loop-record.invariant.size) no.0)
    ∙ sym (c.loop-record.invariant.asked q) ∙ answered w some parse p q g.row.MOST c.args.bytes.now (search rules) in
    rw (y.1, y.2) told

pub push-requires : goal.push-requires
push-requires g c =
    let w = g.L.Layout.width c.args.layout.now in
    let some : 0 < w = omega (arith, c.width-width.ensures.is, c.width-width.ensures.some) in
    let h : length c.loop-record.table.items < g.row.MOST =
    omega (arith, c.loop-record.invariant.few, count_more w some (g.L.Layout.parse c.args.layout.now) _ _ _ c.in-Some.ensures.steps.1.0 (c.in-Some.ensures.steps.1.1 ∙ c.loop-record.invariant.size)) in
    (search rules, h)

pub loop-record-preserved : goal.loop-record-preserved
loop-record-preserved g c =
    let w = g.L.Layout.width c.args.layout.now in
    let some : 0 < w = omega (arith, c.width-width.ensures.is, c.width-width.ensures.some) in
    let parse = g.L.Layout.parse c.args.layout.now in
    let items = c.loop-record.table.items in
    let left = records w (chunks_exact_rest c.next.new.self) in
    let cut = c.in-Some.ensures.steps.1.0 in
    let long = c.in-Some.ensures.steps.1.1 ∙ c.loop-record.invariant.size in
    let read = read_some w some parse _ c.len.result _ c.in_ok-read.ensures in
    record {
      size = c.in-Some.ensures.steps.0 ∙ c.loop-record.invariant.size;
      asked = λ q. c.loop-record.invariant.asked q ∙ asked_more w some parse q (length items) _ _ _ _ cut long read ∙ ap (λ k. first_no (numbered (record_asked q parse) k left)) (sym c.push.ensures.len);
      got = c.loop-record.invariant.got ∙ ap (λ l. items ++ l) (gathered_more w some parse _ _ _ _ cut long read)
          ∙ sym (append_assoc items (c.in_ok-read.field-0 ∷ []) (gathered parse left)) ∙ ap (λ l. l ++ gathered parse left) (sym c.push.ensures.items);
      few = omega (arith, c.loop-record.invariant.few, c.push.ensures.len, count_more w some parse _ _ _ cut long);
    }

pub returns-clause-answers : goal.returns-clause-answers
returns-clause-answers g c = λ p q.
    let w = g.L.Layout.width c.args.layout.now in
    let some : 0 < w = omega (arith, c.width-width.ensures.is, c.width-width.ensures.some) in
    let parse = g.L.Layout.parse c.args.layout.now in
    let table = c.loop-record.table.items in
    sym (ap (λ rs. first_no (numbered (record_asked q parse) (length table) rs)) (none_left w some parse _ (omega (arith, c.in-None.ensures.steps.1.0, c.loop-record.invariant.size))))
    ∙ sym (c.loop-record.invariant.asked q) ∙ answered w some parse p q g.row.MOST c.args.bytes.now (search rules)

pub returns-clause-loads : goal.returns-clause-loads
returns-clause-loads g c =
    let w = g.L.Layout.width c.args.layout.now in
    let some : 0 < w = omega (arith, c.width-width.ensures.is, c.width-width.ensures.some) in
    let parse = g.L.Layout.parse c.args.layout.now in
    sym (c.loop-record.invariant.got ∙ ap (λ rs. c.loop-record.table.items ++ gathered parse rs) (none_left w some parse _ (omega (arith, c.in-None.ensures.steps.1.0, c.loop-record.invariant.size))) ∙ append-nil _)
