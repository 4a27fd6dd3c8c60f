-- The text of `check` (this project's choice).
use Rattle.std.specs.Prelude.{ℕ, List, [], ◌∷◌, codes}
use Rattle.std.specs.Fmt.{decimal}
use Rattle.sw_config.specs.Entries.{Declaration}
use Rattle.sw_cert.specs.declared.refusal.Refusal.{Refusal}
use Rattle.sw_cert.specs.declared.refusal.Refusal.TheVariants.{WrongCount, NoStart, Faulty, NotClosed, NotRising}
use Rattle.sw_output.specs.Lines.{line, spaced}
use Rattle.sw_output.specs.FlowTexts.{flow_name, place_words, route_fault_text}

abbrev pub accepted_line : List ℕ
accepted_line = line (codes "accepted" ∷ [])

-- a text that is no certificate, by its first wrong line
abbrev pub grammar_words : ℕ → List ℕ
grammar_words number = spaced (codes "refused C1 Grammar" ∷ decimal number ∷ [])

-- a dependency along which the numbers do not rise: the channels' numbers
abbrev pub not_rising_words : ℕ → ℕ → List ℕ
not_rising_words c e = spaced (codes "refused C5 NotRising" ∷ decimal c ∷ decimal e ∷ [])

-- a certificate that is refused for a network, by the reason
abbrev pub refusal_words : Declaration → Refusal → List ℕ
refusal_words d WrongCount = codes "refused C2 WrongCount"
refusal_words d (NoStart i) = spaced (codes "refused C3 NoStart" ∷ flow_name d i ∷ [])
refusal_words d (NotClosed i p) = spaced (codes "refused C4 NotClosed" ∷ place_words d i p ∷ [])
refusal_words d (NotRising c e) = not_rising_words c e
refusal_words d (Faulty i p fault) = spaced (codes "refused C6" ∷ route_fault_text fault ∷ place_words d i p ∷ [])

abbrev pub grammar_line : ℕ → List ℕ
grammar_line number = line (grammar_words number ∷ [])

abbrev pub refusal_line : Declaration → Refusal → List ℕ
refusal_line d refusal = line (refusal_words d refusal ∷ [])
