use Rattle.std.proofs.Common.{ℕ, sym, ap, ◌∙◌, rules, tests}
use Rattle.std.specs.List.{filter, slice_get}
use Rattle.std.proofs.lemmas.Iterator.{YieldsList-from_slice}
use Rattle.std.proofs.lemmas.Iterator.Consumers.{nth_from_yields_List, YieldsList-at, YieldsList-from_filter}
use Rattle.lists.specs.Words.{through}
use Rattle.lists.proofs.Mapped.{nth_mapped}
use Rattle.ways.specs.Nets.{net_of}
use Rattle.ways.specs.declared.way.Way.TheVariants.{Move}
use Rattle.network.specs.Meanings.{set_numbers, may_move, set_of}
use Rattle.network.proofs.Admitted.{moves_admitted}
use Rattle.network.proofs.network.Network.movement_of.Goals as goal

pub returns : goal.returns
returns g c =
    let own = c.args.self.now in
    let n = net_of own.table in
    let allowed = g.R.Rule.allowed own.rule in
    let may = λ (b : ℕ). may_move n allowed c.args.state.now c.args.unit (set_of b) in
    let move = λ (b : ℕ). Move c.args.unit (set_of b) in
    let found =
    c.copied-bits.ensures
    ∙ nth_from_yields_List c.nth.result c.nth.new.self c.args.number c.nth.ensures.ran (YieldsList-from_filter _ may (YieldsList-at c.filter.ensures.source (YieldsList-from_slice (own.sets.items) (c.iter.ensures.rest ∙ c.deref.ensures.0))) c.filter.ensures.closure (λ x b q k. search (rules, tests)))
    ∙ ap (λ bs. slice_get bs c.args.number) (moves_admitted n allowed (g.R.Rule.admitted own.rule) c.args.state.now c.args.unit (own.sets.items) own.table.most c.requires.unit (g.met.R.Rule.bars own.rule) own.listed) in
    c.moving.ensures ∙ ap (through move) found ∙ sym (nth_mapped move (filter may set_numbers) c.args.number)
