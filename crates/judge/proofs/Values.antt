-- Values of a range, in order. Assumes nothing.
use Rattle.std.proofs.Common.{◌≡◌, true, ℤ, ◌≤ℤ◌}
use lib.Signed.{le_z}
use Rattle.std.proofs.lemmas.Bool.{and_parts, and_from}
use Rattle.model.specs.Ranges.{in_range}
use Rattle.model.proofs.Deciding.{le_z_le, le_le_z}

pub in_range_lem : (lo hi v : ℤ) → lo ≤ℤ v → v ≤ℤ hi → in_range lo hi v ≡ true
in_range_lem lo hi v low high = and_from (le_z lo v) (le_z v hi) (le_le_z lo v low) (le_le_z v hi high)

pub range_low : (lo hi v : ℤ) → in_range lo hi v ≡ true → lo ≤ℤ v
range_low lo hi v e = le_z_le lo v (and_parts (le_z lo v) (le_z v hi) e).0

pub range_high : (lo hi v : ℤ) → in_range lo hi v ≡ true → v ≤ℤ hi
range_high lo hi v e = le_z_le v hi (and_parts (le_z lo v) (le_z v hi) e).1
