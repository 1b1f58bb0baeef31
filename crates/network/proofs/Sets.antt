-- The numbers of the group sets. Assumes nothing.
use Rattle.std.proofs.Common.{◌≡◌, refl}
use Rattle.std.specs.List.{range_with_len}
use Rattle.network.specs.Meanings.{set_numbers}

pub numbers_are : set_numbers ≡ range_with_len 0 256
unfolding set_numbers
numbers_are = refl
