use Rattle.sw_json.proofs.Plain.{count_plain, null_plain, text_plain}
use Rattle.sw_json.proofs.PlainValues.{input_plain}
use Rattle.sw_json.proofs.laws.inputs_are_plain.Goals as goal

pub returns : goal.returns
returns c = record {
  read = λ path text. input_plain _ path _ count_plain text_plain;
  long = λ path. input_plain _ path _ null_plain null_plain;
}
