-- One object of JSON, where what is found of a network has one result.
use Rattle.std.proofs.Common.{◌≡◌, ◌∙◌, ℕ, List, [], ◌∷◌, refl, sym}
use Rattle.std.specs.Prelude.{Err, None, Ok, Option, Result, Some, codes}
use Rattle.serde_json.specs.Data.{Data}
use Rattle.sw_config.specs.Entries.{Declaration}
use Rattle.sw_engine.specs.Engines.{AnswersToRead}
use Rattle.sw_engine.specs.LineAnswers.{FaultInLine, FindingInLines, NetworkFileInLines}
use Rattle.sw_file.specs.Network.{network_text}
use Rattle.sw_json.proofs.OneResult.{AreOne, one_answer, one_of_network_file}
use Rattle.sw_json.specs.Answering.{OfNetwork, OfNetworkFile, Results}
use Rattle.sw_json.specs.Laws.{AreOneButForFaults, HaveOneStatus}
use Rattle.sw_json.specs.ObjectAnswers.{FilesAsObject, FindingAsResult, by_value}
use Rattle.sw_json.specs.declared.files.Release.{Release}
use Rattle.sw_text.specs.Ends.{IfLimited}
use Rattle.sw_text.specs.FaultTexts.{fault_text}
use Rattle.sw_text.specs.Lines.{line}
use Rattle.sw_text.specs.declared.fault.TextFault.{TextFault}

-- of a network of which all that may be found has one value and one status
pub value_once : {X : Type 0} (Finds : Declaration → X → Type 0) (value_of : Declaration → X → Data) (status_of : X → ℕ)
    → ((d : Declaration) (x y : X) → Finds d x → Finds d y → status_of x ≡ status_of y) → (d : Declaration)
    → ((x y : X) → Finds d x → Finds d y → value_of d x ≡ value_of d y) → AreOne (FindingAsResult Finds (by_value value_of status_of) d)
value_once Finds value_of status_of status_once d same value other status number (x, h, is) (y, k, tells) =
    (is.1 ∙ (status_once d x y h k ∙ sym tells.1), λ good. is.0 ∙ (same x y h k ∙ sym tells.0))

module _ {X : Type 0} (Finds : Declaration → X → Type 0) (results : Declaration → X → Results) (command path : List ℕ) (files : Option (List ℕ) → List Data)
    (release : Release) where
  -- of each network file
  pub one_object : ((d : Declaration) → AreOne (FindingAsResult Finds results d)) → (given : Option (List ℕ))
      → AreOneButForFaults (FilesAsObject command Finds results path files release given)
  one_object one given = one_answer command (files given) release _ (one_of_network_file path (FindingAsResult Finds results) one given)

  -- ---- the status alone

  module _ (status_of : X → ℕ)
      (has_status : (d : Declaration) (x : X) (value : Data) (status : ℕ) → results d x value status → status ≡ status_of x) where
    module _ (status_once : (d : Declaration) (x y : X) → Finds d x → Finds d y → status_of x ≡ status_of y) where
      read_both : (bytes : List ℕ) (r : Result Declaration TextFault) (value other : Data) (status number : ℕ)
          → OfNetwork path bytes (FindingAsResult Finds results) r value status → OfNetwork path bytes (FindingAsResult Finds results) r other number
          → status ≡ number
      read_both bytes (Ok d) value other status number (x, h, is) (y, k, tells) =
          has_status d x value status is ∙ (status_once d x y h k ∙ sym (has_status d y other number tells))
      read_both bytes (Err fault) value other status number (told, at, is) (also, there, tells) = is.1 ∙ sym tells.1

      file_both : (given : Option (List ℕ)) (value other : Data) (status number : ℕ)
          → OfNetworkFile path (FindingAsResult Finds results) given value status → OfNetworkFile path (FindingAsResult Finds results) given other number
          → status ≡ number
      file_both (Some bytes) value other status number is tells = read_both bytes (network_text bytes) value other status number is tells
      file_both None value other status number is tells = is.1 ∙ sym tells.1

      -- any two objects have one status
      pub one_status : (given : Option (List ℕ))
          → HaveOneStatus (FilesAsObject command Finds results path files release given) (FilesAsObject command Finds results path files release given)
      one_status given written other status number (value, is, spells) (another, also, tells) = file_both given value another status number is also

    -- ---- the status, beside that of another answer by the same findings

    module _ {Y : Type 0} (Also : Declaration → Y → Type 0) (lines : Declaration → Y → List ℕ) (number_of : Y → ℕ)
        (same : (d : Declaration) (x : X) (y : Y) → Finds d x → Also d y → status_of x ≡ number_of y) where
      read_as : (bytes : List ℕ) (r : Result Declaration TextFault) (value : Data) (said : List ℕ) (status number : ℕ)
          → OfNetwork path bytes (FindingAsResult Finds results) r value status → AnswersToRead (FindingInLines Also lines number_of) FaultInLine r said number
          → status ≡ number
      read_as bytes (Ok d) value said status number (x, h, is) (y, k, tells) = has_status d x value status is ∙ (same d x y h k ∙ sym tells.1)
      read_as bytes (Err fault) value said status number (told, at, is) tells = is.1 ∙ sym tells.1

      file_as : (given : Option (List ℕ)) (value : Data) (said : List ℕ) (status number : ℕ)
          → OfNetworkFile path (FindingAsResult Finds results) given value status → IfLimited given (NetworkFileInLines Also lines number_of) said number
          → status ≡ number
      file_as (Some bytes) value said status number is tells = read_as bytes (network_text bytes) value said status number is tells
      file_as None value said status number is tells = is.1 ∙ sym tells.1

      -- the status of the lines that answer the same file
      pub status_of_lines : (given : Option (List ℕ))
          → HaveOneStatus (FilesAsObject command Finds results path files release given) (IfLimited given (NetworkFileInLines Also lines number_of))
      status_of_lines given written said status number (value, is, spells) tells = file_as given value said status number is tells

    -- ---- the lines that tell the same finding

    module _ (lines : Declaration → X → List ℕ) where
      read_in_lines : (bytes : List ℕ) (r : Result Declaration TextFault) (value : Data) (status : ℕ)
          → OfNetwork path bytes (FindingAsResult Finds results) r value status
          → (said : List ℕ) × AnswersToRead (FindingInLines Finds lines status_of) FaultInLine r said status
      read_in_lines bytes (Ok d) value status (x, h, is) = (lines d x, (x, h, (refl, has_status d x value status is)))
      read_in_lines bytes (Err fault) value status (told, at, is) = (line (fault_text fault ∷ []), (refl, is.1))

      file_in_lines : (given : Option (List ℕ)) (value : Data) (status : ℕ) → OfNetworkFile path (FindingAsResult Finds results) given value status
          → (said : List ℕ) × IfLimited given (NetworkFileInLines Finds lines status_of) said status
      file_in_lines (Some bytes) value status is = read_in_lines bytes (network_text bytes) value status is
      file_in_lines None value status is = (line (codes "fault A1 TooLong" ∷ []), (refl, is.1))

      -- an object has the status of lines that may answer the same file
      pub lines_of_object : (given : Option (List ℕ)) (written : List ℕ) (status : ℕ) → FilesAsObject command Finds results path files release given written status
          → (said : List ℕ) × IfLimited given (NetworkFileInLines Finds lines status_of) said status
      lines_of_object given written status (value, is, spells) = file_in_lines given value status is
