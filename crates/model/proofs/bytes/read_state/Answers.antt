use Rattle.std.proofs.Common.{◌≡◌, ◌*◌, take, drop, rules, tests}
use Rattle.lists.proofs.Filled.{filled_with}
use Rattle.model.specs.Bytes.{unit_of, unit_bytes}
use Rattle.model.proofs.Layouts.{Reading, state_read, state_back}
use Rattle.model.proofs.bytes.read_state.Goals as goal

pub returns : goal.returns
returns c =
    let bytes = c.args.bytes.now in
    let r : Reading bytes 6 c.from_fn.result =
    record {
      six = c.from_fn.ensures.items.long;
      is = λ j h. filled_with _ _ (λ j y. y ≡ unit_of (take 4 (drop (4 * j) bytes))) c.from_fn.result 6 (λ j y q h k. search (rules, tests)) c.from_fn.ensures.items j _ h;
      back = λ j h. filled_with _ _ (λ j y. unit_bytes y ≡ take 4 (drop (4 * j) bytes)) c.from_fn.result 6 (λ j y q h k. search (rules, tests)) c.from_fn.ensures.items j _ h;
    } in
    record { is = state_read bytes c.from_fn.result r; back = state_back bytes c.from_fn.result c.requires r }
