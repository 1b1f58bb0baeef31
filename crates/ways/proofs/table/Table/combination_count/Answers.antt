use Rattle.std.proofs.Common.{◌+◌, ◌*◌, ◌^◌, length, map, ◌∙◌, one-mul, arith, rules, tests}
use Rattle.std.specs.List.{range_with_len}
use Rattle.std.proofs.lemmas.Iterator.{YieldsList-from_range, YieldsList-from_map}
use Rattle.std.proofs.lemmas.Iterator.Adapters.{at_most_from_yields_List, total_from_yields_List}
use Rattle.lists.specs.Products.{volume}
use Rattle.lists.proofs.Multiplied.{product_fits, volume_fold}
use Rattle.ways.specs.Nets.{net_of}
use Rattle.ways.specs.Ways.{choices}
use Rattle.ways.proofs.table.Table.combination_count.Goals as goal

pub product-requires-clause-fits : goal.product-requires-clause-fits
product-requires-clause-fits c =
    product_fits _ _ _ 65 _ 6 _ (at_most_from_yields_List (YieldsList-from_range 0 6 6 (cc) (search rules)) (omega arith)) c.map.ensures.closure (omega arith) (omega arith) (λ x r q k. search (rules, tests))

pub returns-clause-few : goal.returns-clause-few
returns-clause-few c =
    let w = c.product.ensures.runs tt in
    let l = product_fits _ _ _ 65 _ 6 (65 ^ 6 + 1) (at_most_from_yields_List (YieldsList-from_range 0 6 6 (cc) (search rules)) (omega arith)) c.map.ensures.closure (omega arith) (omega arith) (λ x r q k. search (rules, tests)) w.0 w.0.seen w.1 in
    omega (arith, l, w.3)

pub returns-clause-is : goal.returns-clause-is
returns-clause-is c =
    let f = choices (net_of c.args.self.now) c.args.state.now c.args.sender in
    total_from_yields_List (λ a x. a * x) 1 _ c.product.ensures.ran (YieldsList-from_map _ (λ k. length (f k)) (YieldsList-from_range 0 6 6 (cc) (search rules)) c.map.ensures.closure (λ x r q k. search rules))
    ∙ volume_fold 1 (map f (range_with_len 0 6)) ∙ one-mul (volume (map f (range_with_len 0 6)))
