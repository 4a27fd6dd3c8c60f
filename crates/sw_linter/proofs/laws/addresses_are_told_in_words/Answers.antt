use Rattle.sw_linter.proofs.AddressesWorded.{addresses_in_words}
use Rattle.sw_linter.proofs.laws.addresses_are_told_in_words.Goals as goal

pub returns : goal.returns
returns c = addresses_in_words
