use Rattle.std.proofs.Common.{ap, ◌∙◌, w8}
use Rattle.std.proofs.lemmas.Int.{to_z-of_z}
use Rattle.rows.specs.Units.{taken}
use Rattle.ways.specs.Nets.{net_of, unit_at}
use Rattle.ways.specs.Copies.{put}
use Rattle.ways.proofs.Put.{acted_alone}
use Rattle.ways.proofs.table.Table.taken_alone.Goals as goal

pub returns : goal.returns
returns c =
    let s = c.args.state.now in
    let v = c.args.value in
    let same = to_z-of_z w8 v c.ranges.value in
    let after = (rw same at c.taken_by.ensures) ∙ ap (λ y. taken y c.row.result.now v) c.unit_at.ensures ∙ ap (λ r. taken (unit_at s c.args.unit) r v) c.row.ensures in
    (λ i. record { units = c.with.ensures.is i }) ∙ ap (λ x. put c.args.unit x s) after ∙ acted_alone (net_of c.args.self.now) s c.args.unit c.args.row v c.with.ensures.long
