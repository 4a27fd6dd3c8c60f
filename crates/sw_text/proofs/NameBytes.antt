-- The bytes of names.
use Rattle.std.proofs.Common.{◌≡◌, ℕ, ◌<◌, true, arith}
use Rattle.sw_text.specs.Names.{is_name_byte}

pub name_byte_is_small : (b : ℕ) → is_name_byte b ≡ true → b < 128
name_byte_is_small b is = grind (arith, is)
