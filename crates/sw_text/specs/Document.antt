-- A text as the table of its TOML document.
use Rattle.std.specs.Prelude.{ℕ, List, None, Result, if◌then◌else◌}
use Rattle.std.specs.Str.{is_utf8}
use Rattle.toml.specs.Data.{Members}
use Rattle.toml.specs.Parse.{parse_document}
use Rattle.sw_text.specs.declared.fault.TextFault.{TextFault}
use Rattle.sw_text.specs.declared.fault.TextFault.TheVariants.{Syntax}
use Rattle.sw_text.specs.Gives.{ok_or}

-- the table of the document that the bytes are, if they are UTF-8 and TOML
abbrev pub document_of : List ℕ → Result Members TextFault
document_of bytes = ok_or (if is_utf8 bytes then parse_document bytes else None) Syntax
