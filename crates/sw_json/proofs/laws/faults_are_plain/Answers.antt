use Rattle.std.proofs.Common.{[], ◌∷◌, None, Some, codes, decimal, option_map}
use Rattle.sw_text.specs.FaultTexts.{fault_text}
use Rattle.sw_json.specs.FaultValues.{fault_code, fault_where}
use Rattle.sw_json.proofs.PlainValues.{told_plain}
use Rattle.sw_output.specs.Lines.{spaced}
use Rattle.sw_faults.specs.LineColumn.{column_of, line_of}
use Rattle.sw_json.proofs.laws.faults_are_plain.Goals as goal

pub returns : goal.returns
returns c = record {
  of_texts = λ text fault place. told_plain (fault_code fault) (option_map (line_of text) place) (option_map (column_of text) place) (fault_text fault) (fault_where fault);
  of_long_texts = told_plain (codes "A1") None None (codes "fault A1 TooLong") None;
  of_schedules = λ number. told_plain (codes "S1") (Some number) None (spaced (codes "fault S1 BadLine" ∷ decimal number ∷ [])) None;
  of_words = told_plain (codes "F7") None None (codes "fault F7 UnknownName argument") (Some (codes "argument"));
}
