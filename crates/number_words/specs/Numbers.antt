-- The numbers that have 64 bits with their sign.
use Rattle.std.specs.Prelude.{Bool, ℤ, pos, negsuc, nat_le}

-- from -9,223,372,036,854,775,808 to 9,223,372,036,854,775,807
abbrev pub is_number : ℤ → Bool
is_number (pos n) = nat_le n 9223372036854775807
is_number (negsuc n) = nat_le n 9223372036854775807
