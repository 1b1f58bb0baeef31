use Rattle.std.proofs.Common.{ℕ, length, sym, ap, ◌∙◌, rules, tests}
use Rattle.std.specs.List.{filter}
use Rattle.std.proofs.lemmas.List.{length-map}
use Rattle.std.proofs.lemmas.Iterator.{YieldsList-from_slice}
use Rattle.std.proofs.lemmas.Iterator.Consumers.{count_from_yields_List, YieldsList-at, YieldsList-from_filter}
use Rattle.ways.specs.Nets.{net_of}
use Rattle.ways.specs.declared.way.Way.TheVariants.{Move}
use Rattle.network.specs.Meanings.{set_numbers, may_move, set_of}
use Rattle.network.proofs.Admitted.{moves_admitted}
use Rattle.network.proofs.network.Network.movement_count_of.Goals as goal

pub returns : goal.returns
returns g c =
    let own = c.args.self.now in
    let n = net_of own.table in
    let allowed = g.R.Rule.allowed own.rule in
    let may = λ (b : ℕ). may_move n allowed c.args.state.now c.args.unit (set_of b) in
    λ within.
    count_from_yields_List _ _ c.count.ensures.ran (YieldsList-from_filter _ may (YieldsList-at c.filter.ensures.source (YieldsList-from_slice (own.sets.items) (c.iter.ensures.rest ∙ c.deref.ensures.0))) c.filter.ensures.closure (λ x b q k. search (rules, tests)))
    ∙ ap length (moves_admitted n allowed (g.R.Rule.admitted own.rule) c.args.state.now c.args.unit (own.sets.items) own.table.most within (g.met.R.Rule.bars own.rule) own.listed)
    ∙ sym (length-map (filter may set_numbers) (λ b. Move c.args.unit (set_of b)))
