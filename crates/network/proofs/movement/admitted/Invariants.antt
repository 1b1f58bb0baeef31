use Rattle.std.proofs.Common.{◌≡◌, map, filter}
use Rattle.std.specs.List.{range_with_len}
use Rattle.network.specs.Meanings.{set_of}
use Rattle.network.proofs.movement.admitted.Given as goal

abbrev pub invariant-loop-bits : goal.invariant-loop-bits
invariant-loop-bits g l = l.sets.items ≡ map (λ b. b) (filter (λ b. g.R.Rule.admitted l.rule (set_of b)) (range_with_len 0 l.bits))
