use Rattle.std.proofs.Common.{◌≡◌, length, rules}
use Rattle.model.proofs.Layouts.{pair_read, pair_back}
use Rattle.model.proofs.state.Pair.from_bytes.Goals as goal

pub returns : goal.returns
returns c =
    let n : length c.args.bytes ≡ 48 = search rules in
    record {
      is = pair_read c.args.bytes _ _ n c.read_state.ensures.is c.read_state-2.ensures.is;
      back = pair_back c.args.bytes _ _ n c.read_state.ensures.back c.read_state-2.ensures.back;
    }
