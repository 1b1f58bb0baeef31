use Rattle.std.proofs.Common.{◌≡◌, ◌++◌, filter, drop}
use Rattle.std.specs.List.{flat_map}
use Rattle.frames.specs.Payloads.{of_kind, payload_of, side_bytes}
use Rattle.frames.proofs.gather.payload_bytes.Given as goal

-- what is put together, and what is left to come, is the whole
abbrev pub invariant-loop-item : goal.invariant-loop-item
invariant-loop-item l =
    l.all.items ++ flat_map (payload_of l.kind) (filter (of_kind l.kind l.side) (drop l.item-index l.item-items)) ≡ side_bytes l.kind l.side l.bytes
