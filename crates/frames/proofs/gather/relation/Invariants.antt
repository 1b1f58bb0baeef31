use Rattle.std.proofs.Common.{◌≡◌, ◌++◌, map, filter, drop}
use Rattle.model.specs.Bytes.{pair_of}
use Rattle.questions.specs.declared.Side.TheVariants.{Left}
use Rattle.frames.specs.declared.kind.Kind.TheVariants.{Pair as PairKind}
use Rattle.frames.specs.Payloads.{of_kind, payload_of, relation_of}
use Rattle.frames.proofs.gather.relation.Given as goal

-- the pairs so far, and those that are left to come, are all
abbrev pub invariant-loop-item : goal.invariant-loop-item
invariant-loop-item g l =
    l.pairs.items ++ map (λ item. pair_of (payload_of PairKind item)) (filter (of_kind PairKind Left) (drop l.item-index l.item-items)) ≡ relation_of l.bytes
