use Rattle.std.proofs.Common.{◌≡◌, ◌<◌, ◌≤◌, length, sym, ap, ◌∙◌, subst, rules}
use Rattle.lists.specs.Blocks.{begin}
use Rattle.lists.proofs.LaidOut.{in_block, past_blocks}
use Rattle.ways.specs.Nets.{net_of}
use Rattle.ways.specs.Ways.{acts_by}
use Rattle.ways.proofs.table.Table.act_of.Goals as goal

pub returns-in_err-row : goal.returns-in_err-row
returns-in_err-row c =
    let f = acts_by (net_of c.args.self.now) c.args.state.now c.args.unit in
    let all : length c.rows-rows.result.now ≡ length (net_of c.args.self.now).rows = ap length c.rows-rows.ensures.is in
    let past = c.in_err-row.ensures (λ k. length (f k)) (λ k r h q. search rules) in
    c.from_residual.ensures ∙ sym (past_blocks f _ c.args.number (subst (λ n. begin (λ k. length (f k)) n ≤ c.args.number) all past))

pub act_by-requires : goal.act_by-requires
act_by-requires c = (c.in_ok-row.ensures (λ k. length (acts_by (net_of c.args.self.now) c.args.state.now c.args.unit k)) (λ k r h q. search rules)).1

pub returns : goal.returns
returns c =
    let f = acts_by (net_of c.args.self.now) c.args.state.now c.args.unit in
    let all : length c.rows-rows.result.now ≡ length (net_of c.args.self.now).rows = ap length c.rows-rows.ensures.is in
    let p = c.in_ok-row.ensures (λ k. length (f k)) (λ k r h q. search rules) in
    sym (in_block f _ c.args.number c.in_ok-row.row c.in_ok-row.left (subst (λ n. c.in_ok-row.row < n) all p.0) p.1 p.2 ∙ c.act_by.ensures)
