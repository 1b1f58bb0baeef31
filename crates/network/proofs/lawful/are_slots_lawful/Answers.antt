use Rattle.std.proofs.Common.{rules, tests}
use Rattle.std.proofs.lemmas.Iterator.{YieldsList-from_range}
use Rattle.std.proofs.lemmas.Iterator.Search.{all_from_yields_List}
use Rattle.ways.specs.Nets.{net_of}
use Rattle.network.specs.Meanings.{slot_lawful}
use Rattle.network.proofs.lawful.are_slots_lawful.Goals as goal

pub returns : goal.returns
returns c = all_from_yields_List (slot_lawful (net_of c.args.table.now) c.args.state.now) _ _ _ c.all.ensures.ran (YieldsList-from_range 0 6 6 (cc) (search rules)) (λ x b q k. search (rules, tests))
