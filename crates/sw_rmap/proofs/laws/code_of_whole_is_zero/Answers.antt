use Rattle.sw_rmap.proofs.CrcSteps.{crc-whole}
use Rattle.sw_rmap.proofs.laws.code_of_whole_is_zero.Goals as goal

pub returns : goal.returns
returns c = crc-whole
