use Rattle.std.proofs.Common.{◌≡◌, ◌+◌, ◌-◌, ◌≤◌, ◌++◌, length, map, take, vec_items, vec_len, vec_capacity}
use Rattle.systems.specs.Listing.{listed_at}
use Rattle.systems.proofs.System.list.Given as goal

abbrev pub invariant-loop-step : goal.invariant-loop-step
invariant-loop-step g l =
    let m = g.Self.System.means l.self in
    record {
      adds : vec_items l.steps ≡ vec_items l.fn.steps ++ map (listed_at m l.value) (take l.step (m.steps l.state));
      len : vec_len l.steps ≡ vec_len l.fn.steps + l.step;
      few : length (m.steps l.state) ≤ 65536 - vec_len l.fn.steps;
      room : vec_len l.fn.steps + length (m.steps l.state) ≤ vec_capacity l.steps;
    }
