-- What is found of a file as far as it could be read is found of what its path gave.
use Rattle.std.proofs.Common.{◌≡◌, ℕ, List, inl, inr, subst, sym}
use Rattle.std.specs.Prelude.{Err, None, Ok, Result, Some}
use Rattle.sw_app.specs.declared.decide_finding.DecideFinding.{DecideFinding}
use Rattle.sw_config.specs.Entries.{Declaration}
use Rattle.sw_engine.specs.Tellings.{Findings}
use Rattle.sw_engine.specs.declared.network_file.NetworkFile.{NetworkFile}
use Rattle.sw_engine.specs.declared.network_file.NetworkFile.TheVariants as file
use Rattle.sw_file.specs.Network.{network_text}
use Rattle.sw_text.specs.declared.fault.TextFault.{TextFault}
use Rattle.sw_json_verdicts.specs.Findings.{Finding, IsFileFinding, IsFileGiven, IsFileOfGiven, IsFinding, IsFoundOfFile, IsGivenFinding, IsOfNetwork, IsTextFinding, IsVerdictFinding}
use Rattle.sw_json_verdicts.specs.Stores.{Given, whole, too_long, unread, no_memory, Giving, Keeping}
use Rattle.sw_json_verdicts.specs.declared.audit_options.AuditOptions.{AuditOptions}

module _ (options : AuditOptions) (keeps : Keeping) (number : ℕ) (path : List ℕ) (f : Finding) where
  -- of a text that is known by another name
  of_text : (text bytes : List ℕ) (read : Result Declaration TextFault) → Some text ≡ Some bytes → network_text bytes ≡ read
      → IsTextFinding options keeps number path bytes read f → IsGivenFinding options keeps number path (whole text) f
  of_text text bytes read same reads found =
      let is : bytes ≡ text = cc in
      subst (λ (t : List ℕ). IsTextFinding options keeps number path t (network_text t) f) is
      (subst (λ (r : Result Declaration TextFault). IsTextFinding options keeps number path bytes r f) (sym reads) found)

  of_network : (text : List ℕ) (d : Declaration) (findings : Findings DecideFinding) → IsOfNetwork options keeps number path text d findings f
      → IsVerdictFinding options keeps number path text d f
  of_network text d (Some (Ok found)) is = is.0
  of_network text d (Some (Err none)) is = absurd is
  of_network text d None is = absurd is

  of_given : (given : Given) (known : NetworkFile) (findings : Findings DecideFinding) → IsFileOfGiven given known
      → IsFileFinding options keeps number path known findings f → IsGivenFinding options keeps number path given f
  of_given (whole text) (file.Network bytes d) findings is found = of_text text bytes.items (Ok d) is.0 is.1 (of_network bytes.items d findings found)
  of_given (whole text) (file.Faulty bytes fault) findings is found = of_text text bytes.items (Err fault) is.0 is.1 found
  of_given (whole text) file.TooLong findings is found = absurd (let bad : Some text ≡ None = is in cc)
  of_given (whole text) file.Unread findings is found = absurd is
  of_given (whole text) file.NoMemory findings is found = absurd found
  of_given too_long known findings is found = subst (λ (k : NetworkFile). IsFileFinding options keeps number path k findings f) is found
  of_given unread known findings is found = subst (λ (k : NetworkFile). IsFileFinding options keeps number path k findings f) is found
  of_given no_memory known findings is found = absurd (subst (λ (k : NetworkFile). IsFileFinding options keeps number path k findings f) is found)

pub found_of_path : (options : AuditOptions) (gives : Giving) (keeps : Keeping) (number : ℕ) (path : List ℕ) (known : NetworkFile)
    (findings : Findings DecideFinding) (f : Finding) → IsFileGiven (gives path) known → IsFoundOfFile options keeps number path known findings f
    → IsFinding options gives keeps number path f
found_of_path options gives keeps number path known findings f (given, may, is) (inl found) =
    inl (given, may, of_given options keeps number path f given known findings is found)
found_of_path options gives keeps number path known findings f read (inr memory) = inr memory
