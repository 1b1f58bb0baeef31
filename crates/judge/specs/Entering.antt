-- What was put into buckets.
use Rattle.std.specs.Prelude.{List, map}
use Rattle.judge.specs.declared.buckets.Buckets.{Buckets}

-- the things, in the order in which they came
abbrev pub entered : {T : Type 0} → Buckets T → List T
entered b = map (λ e. e.item) b.entries.items
