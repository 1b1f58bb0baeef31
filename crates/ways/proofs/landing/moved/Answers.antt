use Rattle.std.proofs.Common.{ap, ◌∙◌}
use Rattle.ways.specs.Landings.{on_set}
use Rattle.ways.specs.Copies.{put}
use Rattle.ways.proofs.Put.{moved_put}
use Rattle.ways.proofs.landing.moved.Goals as goal

pub returns : goal.returns
returns c =
    (λ i. record { units = c.with.ensures.is i }) ∙ ap (λ x. put c.args.unit (on_set x c.args.set) c.args.state.now) c.unit_at-moving.ensures ∙ moved_put c.args.state.now c.args.unit c.args.set c.with.ensures.long
