-- The values that bytes stand for.
use Rattle.std.specs.Prelude.{ℕ, ◌-◌, cond, ℤ, pos, negsuc, ◌-ℤ◌, nat_lt}

-- a byte below 80 stands for itself, and any other for itself less 256
abbrev pub value_of : ℕ → ℤ
value_of b = cond (nat_lt b 0x80) (pos b) (pos b -ℤ pos 256)

-- a value stands as itself, and a negative one as itself and 256; `negsuc n` is -1 - n
abbrev pub byte_of : ℤ → ℕ
byte_of (pos n) = n
byte_of (negsuc n) = 255 - n
