-- Values that have a text which reads back.
use Rattle.std.proofs.Common.{◌≡◌, ◌∙◌, ◌≤◌, ℕ, false, List, [], ◌∷◌, ap, arith, map, subst, sym}
use Rattle.std.specs.Prelude.{All, None, Option, Some}
use Rattle.std.proofs.lemmas.List.Elements.{All-cons, All-nil}
use Rattle.serde_json.specs.Data.{Data, depth}
use Rattle.serde_json.specs.Written.{has_float}
use Rattle.sw_json.specs.AnswerValues.{answer_value}
use Rattle.sw_json.specs.Plain.{AnswersArePlain, InputsArePlain, IsPlain}
use Rattle.sw_json.specs.Answering.{read_value}
use Rattle.sw_json.specs.declared.files.Release.{Release}

-- ---- of a value that is known to be plain

pub whole_of : (most : ℕ) (value known : Data) → value ≡ known → IsPlain most known → has_float value ≡ false
whole_of most value known is plain = subst (λ (v : Data). has_float v ≡ false) (sym is) plain.whole

pub flat_of : (most : ℕ) (value known : Data) → most ≤ 125 → value ≡ known → IsPlain most known → depth value ≤ 125
flat_of most value known few is plain = subst (λ (v : Data). depth v ≤ 125) (sym is) (omega (arith, plain.flat))

-- ---- the files of a command

read_is_plain : InputsArePlain → (path : List ℕ) (given : Option (List ℕ)) → IsPlain 1 (read_value path given)
read_is_plain plain path (Some text) = plain.read path text
read_is_plain plain path None = plain.long path

pub files_are_plain : {F : Type 0} → InputsArePlain → (path : F → List ℕ) (text : F → Option (List ℕ)) (files : List F)
    → All (IsPlain 1) (map (λ f. read_value (path f) (text f)) files)
files_are_plain plain path text [] = All-nil (IsPlain 1)
files_are_plain plain path text (f ∷ files) =
    All-cons (IsPlain 1) (read_value (path f) (text f)) (map (λ g. read_value (path g) (text g)) files) (read_is_plain plain (path f) (text f))
    (files_are_plain plain path text files)

-- ---- the answer round a result

-- the answer round these files is one round what they are known to be
pub answer_of : (command : List ℕ) (files known : List Data) (found value : Data) (status : ℕ) (release : Release) → files ≡ known
    → value ≡ answer_value command files found status release.toolchain.now release.version.now
    → value ≡ answer_value command known found status release.toolchain.now release.version.now
answer_of command files known found value status release same is =
    is ∙ ap (λ (l : List Data). answer_value command l found status release.toolchain.now release.version.now) same

pub answer_is_plain : AnswersArePlain → (command : List ℕ) (files : List Data) (found value : Data) (status : ℕ) (toolchain version : List ℕ)
    → has_float found ≡ false → depth found ≤ 125 → All (IsPlain 1) files → value ≡ answer_value command files found status toolchain version
    → IsPlain 127 value
answer_is_plain plain command files found value status toolchain version whole flat listed is =
    subst (IsPlain 127) (sym is)
    (plain 125 command files found status toolchain version (omega arith) listed (record { whole = whole; flat = flat }))
