use Rattle.std.proofs.Common.{IfSome, subst}
use Rattle.std.proofs.Math.Logic.{∥∥₁_map}
use Rattle.judge.specs.Likeness.{Holds}
use Rattle.judge.proofs.Matched.{holds_known}
use Rattle.judge.proofs.received.Received.is_known.Goals as goal

pub returns-in-Some : goal.returns-in-Some
returns-in-Some g c =
    let own = c.args.self.now in
    let relation = own.held.now.between.now.comparison.now.relation.now in
    λ yes. holds_known relation c.args.pair.now (∥∥₁_map own.holds (λ h. subst (Holds relation) (c.is_pair.ensures.0 yes) (subst (λ o. IfSome o (λ q. Holds relation q.now)) c.in-Some.is h)))
