-- What a program says of itself (this project's choice).
use Rattle.std.specs.Prelude.{◌≡◌, codes, length, take}
use Rattle.sw_args.specs.declared.release.TheConstants.{TOOLCHAIN}

-- What is told as the toolchain is the logic by which the program was proved, of 16 digits: the text that a build without any proof says in its place is
-- another, so that no proved one says it.
pub record TellsTheLogic : Type 0 where
  pub words : take 13 TOOLCHAIN.now ≡ codes "rattle logic "
  pub digits : length TOOLCHAIN.now ≡ 29
