use Rattle.std.proofs.Common.{◌≡◌, Option, OnErr, Result, Ok, Err, ℕ, ◌+◌, ◌-◌, ◌<◌, ◌≤◌, List, ◌++◌, length, take, arith, length-append, length-take-le}
use Rattle.std.proofs.KnownBytes.{Consumes-trans}
use Rattle.std.proofs.lemmas.Grind.{common_steps}
use Rattle.std.specs.Io.KnownBytes.{Consumes}
use Rattle.input.specs.Passing.{StopsBefore}
use Rattle.input.proofs.skip.Goals as goal

-- n more bytes are passed over
longer : (before read : List ℕ) (left n count : ℕ) → n ≤ length read → n ≤ left → length before + left ≡ count → length (before ++ take n read) + (left - n) ≡ count
longer before read left n count within fits before_all = grind (arith, common_steps, length-append, length-take-le)

-- n more bytes are passed over, fewer than are left
fewer : (before read : List ℕ) (left n count : ℕ) → n ≤ length read → n < left → length before + left ≡ count → length (before ++ take n read) < count
fewer before read left n count within fits before_all = grind (arith, common_steps, length-append, length-take-le)

-- and so the reader stops before the count
stops : (old mid new : Option (List ℕ)) (before read : List ℕ) (left n count : ℕ) → Consumes old mid before → Consumes mid new (take n read) → n ≤ length read → n < left → length before + left ≡ count → StopsBefore old new count
stops old mid new before read left n count first then within fits before_all =
    (before ++ take n read, Consumes-trans _ _ _ _ _ first then, fewer before read left n count within fits before_all)

on_err : {X E : Type 0} (r : Result X E) (P : Type 0) → P → OnErr r P
on_err (Ok x) P p = tt
on_err (Err e) P p = p

pub loop-left-preserved : goal.loop-left-preserved
loop-left-preserved g c =
    let before = c.loop-left.invariant in
    let fits : c.in_ok-read.read ≤ c.loop-left.left = grind (arith, common_steps) in (
      before.0 ++ take c.in_ok-read.read c.fill.new.buffer,
      Consumes-trans _ _ _ _ _ before.1 c.in_ok-read.ensures.bytes,
      longer before.0 c.fill.new.buffer c.loop-left.left c.in_ok-read.read c.args.count c.in_ok-read.ensures.room fits before.2,
    )

pub returns-in_err-read-clause-failed : goal.returns-in_err-read-clause-failed
returns-in_err-read-clause-failed g c =
    let before = c.loop-left.invariant in
    let failed = c.in_err-read.ensures.failed in
    let fits : failed.0 < c.loop-left.left = grind (arith, common_steps) in
    on_err _ _ (stops _ _ _ before.0 c.fill.new.buffer c.loop-left.left failed.0 c.args.count before.1 failed.2 (omega (arith, failed.1)) fits before.2)

pub returns-then-read-wanted-clause-short : goal.returns-then-read-wanted-clause-short
returns-then-read-wanted-clause-short g c = λ _.
    let before = c.loop-left.invariant in
    let fits : c.in_ok-read.read < c.loop-left.left = grind (arith, common_steps) in
    stops _ _ _ before.0 c.fill.new.buffer c.loop-left.left c.in_ok-read.read c.args.count before.1 c.in_ok-read.ensures.bytes c.in_ok-read.ensures.room fits before.2
