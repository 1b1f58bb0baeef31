use Rattle.std.proofs.Common.{◌≡◌, length, arith, rules}
use Rattle.std.proofs.lemmas.List.{length-take-le}
use Rattle.reading.proofs.Enough.{reads}
use Rattle.reading.proofs.read_verdict.Goals as goal

pub returns : goal.returns
returns g c =
    let read = c.in_ok-count.ensures in
    let buffer = c.fill.new.buffer in
    let room : length buffer ≡ 65537 = search rules in
    let fits = read.room in
    reads (g.R.Read.remaining c.args.input.now) (g.R.Read.remaining c.fill.new.input) c.in_ok-count.count _ c.verdict.result read.bytes (length-take-le c.in_ok-count.count buffer fits)
    (omega (arith, room, fits)) (λ less. read.end (omega (arith, room, less))) c.verdict.ensures.start
