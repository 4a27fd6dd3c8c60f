-- How many slots a target may have, by the file's version (this project's choice).
use Rattle.std.specs.Prelude.{ℕ}
use Rattle.sw_text.specs.declared.keys.Version.{Version}
use Rattle.sw_text.specs.declared.keys.Version.TheVariants.{One, Two, Three}

-- how many replies a target may owe at most; in version 1 there is no key for it
abbrev pub most_slots : Version → ℕ
most_slots One = 8
most_slots Two = 8
most_slots Three = 64
