use Rattle.std.proofs.Common.{◌+◌, ◌*◌, ◌^◌, length, sym, ◌∙◌, arith, rules, tests}
use Rattle.std.specs.List.{range_with_len}
use Rattle.std.proofs.lemmas.List.Concat.{length-flat_map}
use Rattle.std.proofs.lemmas.Iterator.{YieldsList-from_range, YieldsList-from_map}
use Rattle.std.proofs.lemmas.Iterator.Consumers.{sum_by_from_yields_List}
use Rattle.ways.specs.Nets.{net_of}
use Rattle.ways.specs.Ways.{acts_by}
use Rattle.ways.proofs.Summed.{sum_below}
use Rattle.ways.proofs.table.Table.count_of.Goals as goal

pub sum-requires-clause-fits : goal.sum-requires-clause-fits
sum-requires-clause-fits c = sum_below _ _ (length c.rows.result.now) 64 (omega arith) (cc) c.map.ensures.closure _ (omega arith) (λ x r q k. search (rules, tests))

pub returns-clause-few : goal.returns-clause-few
returns-clause-few c =
    let w = c.sum.ensures.runs tt in
    let below = sum_below _ _ (length c.rows.result.now) 64 (omega arith) (cc) c.map.ensures.closure (64 * 65 ^ 6 + 1) (omega arith) (λ x r q k. search (rules, tests)) w.0 w.0.seen w.1 in
    omega (arith, below, w.3)

pub returns-clause-is : goal.returns-clause-is
returns-clause-is c =
    let f = acts_by (net_of c.args.self.now) c.args.state.now c.args.unit in
    sum_by_from_yields_List (λ k. length (f k)) (range_with_len 0 (length (net_of c.args.self.now).rows)) _ _ c.sum.ensures.ran (YieldsList-from_map _ _ (YieldsList-from_range 0 (length c.rows.result.now) (length (net_of c.args.self.now).rows) (cc) (search rules)) c.map.ensures.closure (λ x r q k. search rules))
    ∙ sym (length-flat_map f (range_with_len 0 (length (net_of c.args.self.now).rows)))
