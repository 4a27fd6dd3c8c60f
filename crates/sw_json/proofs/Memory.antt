-- What is written for want of memory is the text of a value.
use Rattle.std.proofs.Common.{◌≡◌, ◌∙◌, ℕ, List, ap, codes, lit<, refl, sym}
use Rattle.std.specs.Prelude.{◌++◌, Some}
use Rattle.std.proofs.lemmas.Fmt.{decimal_digit}
use Rattle.serde_json.proofs.OnLiterals.{serde_json_on_literals}
use Rattle.serde_json.specs.Read.{read}
use Rattle.serde_json.specs.Written.{compact_text}
use Rattle.sw_json.specs.Texts.{ReadsBack}
use Rattle.sw_json.specs.Answering.{memory_value}
use Rattle.sw_json.specs.Laws.{MemoryReadsBack}

written : compact_text memory_value ≡ codes "{\"result\":{\"kind\":\"memory\"},\"status\":5}"
unfolding serde_json_on_literals
written = rw (decimal_digit 5 (lit< tt)) refl

read_back : read (codes "{\"result\":{\"kind\":\"memory\"},\"status\":5}") ≡ Some memory_value
unfolding serde_json_on_literals
read_back = refl

reads_back : ReadsBack memory_value
reads_back = ap read written ∙ read_back

pub memory_reads_back : MemoryReadsBack
memory_reads_back = (ap (λ (text : List ℕ). text ++ codes "\n") (sym written), reads_back)
