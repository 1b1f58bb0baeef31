use Rattle.std.proofs.Common.{true, false, Some, w8, sym, ap, ◌∙◌}
use Rattle.std.proofs.lemmas.Int.{to_z-of_z}
use Rattle.lists.specs.Words.{through}
use Rattle.ways.specs.Landings.{landing_of}
use Rattle.ways.specs.Nets.{net_of}
use Rattle.network.proofs.Landed.{tested, land_out, land_in}
use Rattle.network.proofs.network.Network.landing_of.Goals as goal

pub returns-then-not-holds : goal.returns-then-not-holds
returns-then-not-holds g c =
    let lo = c.args.self.now.table.program.range.lo in
    let hi = c.args.self.now.table.program.range.hi in
    let same = to_z-of_z w8 c.args.value c.ranges.value in
    land_out _ _ (tested _ false _ _ lo hi _ c.args.value c.if-not-holds.true c.holds.ensures.is c.range.ensures.lo c.range.ensures.hi same)

pub returns : goal.returns
returns g c =
    let n = net_of c.args.self.now.table in
    let s = c.args.state.now in
    let lo = c.args.self.now.table.program.range.lo in
    let hi = c.args.self.now.table.program.range.hi in
    let same = to_z-of_z w8 c.args.value c.ranges.value in
    land_in _ _ _ (tested _ true _ _ lo hi _ c.args.value c.if-not-holds.false c.holds.ensures.is c.range.ensures.lo c.range.ensures.hi same)
    (ap Some (c.landing_of.ensures ∙ ap (landing_of n s c.in_ok-way.way) same) ∙ ap (through (λ x. landing_of n s x c.args.value)) (sym c.in_ok-way.was ∙ c.way.ensures))
