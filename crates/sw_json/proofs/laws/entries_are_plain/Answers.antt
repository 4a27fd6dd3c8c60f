use Rattle.std.proofs.Common.{[]}
use Rattle.sw_json.proofs.Plain.{count_plain, null_plain, text_plain}
use Rattle.sw_json.proofs.PlainValues.{entry_plain}
use Rattle.sw_json.proofs.laws.entries_are_plain.Goals as goal

pub returns : goal.returns
returns c = λ most path text lint status verdict some plain. (
  entry_plain most _ lint path _ status verdict some count_plain text_plain plain,
  entry_plain most _ [] path _ status verdict some null_plain null_plain plain,
)
