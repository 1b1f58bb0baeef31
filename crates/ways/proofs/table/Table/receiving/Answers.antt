use Rattle.std.proofs.Common.{length, sym, ◌∙◌, rules, tests}
use Rattle.std.proofs.lemmas.Iterator.{YieldsList-from_range, YieldsList-from_map}
use Rattle.std.proofs.lemmas.Iterator.Adapters.{option_map_id}
use Rattle.std.proofs.lemmas.Iterator.Consumers.{nth_from_yields_List, YieldsList-at, YieldsList-from_filter}
use Rattle.ways.specs.Nets.{net_of}
use Rattle.ways.specs.Ways.{receivable_at}
use Rattle.ways.specs.declared.way.Choice.TheVariants.{Take}
use Rattle.ways.proofs.table.Table.receiving.Goals as goal

pub returns : goal.returns
returns c =
    let rows = length (net_of c.args.self.now).rows in
    let can = receivable_at (net_of c.args.self.now) c.args.state.now c.args.unit in
    sym (option_map_id c.nth.result)
    ∙ nth_from_yields_List _ _ _ c.nth.ensures.ran (YieldsList-from_map _ Take (YieldsList-at c.map.ensures.source (YieldsList-from_filter _ can (YieldsList-from_range 0 (length c.rows.result.now) rows (cc) (search rules)) c.filter.ensures.closure (λ x b q k. search (rules, tests)))) c.map.ensures.closure (λ x r q k. search rules))
