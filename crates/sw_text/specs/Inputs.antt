-- Texts that were read.
use Rattle.std.specs.Prelude.{ℕ, List, Option, Some, None}
use Rattle.sw_text.specs.declared.read_texts.InputText.{InputText}
use Rattle.sw_text.specs.declared.read_texts.InputText.TheVariants.{Whole, TooLong}

-- the text, if it is not too long
abbrev pub given : InputText → Option (List ℕ)
given (Whole text) = Some text.items
given TooLong = None
