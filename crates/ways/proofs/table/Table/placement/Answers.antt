use Rattle.std.proofs.Common.{◌≡◌, ℕ, get_or, take, ap, ◌∙◌, rules}
use Rattle.std.proofs.lemmas.List.FromFn.{fill_by_all, take-map-range_with_len}
use Rattle.model.specs.Bytes.{zero_unit}
use Rattle.model.specs.declared.group_set.GroupSet.{GroupSet}
use Rattle.ways.specs.Nets.{unit_at}
use Rattle.ways.proofs.table.Table.placement.Goals as goal

pub returns : goal.returns
returns c =
    let units = c.args.self.now.units in
    let d : GroupSet = zero_unit.groups in
    let f = λ (j : ℕ). (unit_at c.args.state.now j).groups in
    let each : (k : _) → _ → get_or c.map.result k d ≡ f k = λ k h. let a = c.map.ensures.items.at k zero_unit d h in search rules in
    ap (take units) (fill_by_all f c.map.result 6 d c.map.ensures.items.long each) ∙ take-map-range_with_len f 0 6 units c.args.self.now.most
