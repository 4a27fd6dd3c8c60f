-- Results that are determined but for the places of faults.
use Rattle.std.proofs.Common.{◌≡◌, ◌≢◌, ◌∙◌, ℕ, List, sym}
use Rattle.std.specs.Prelude.{Err, None, Ok, Option, Result, Some}
use Rattle.serde_json.specs.Data.{Data}
use Rattle.sw_config.specs.Entries.{Declaration}
use Rattle.sw_file.specs.Network.{network_text}
use Rattle.sw_json.specs.AnswerValues.{answer_value}
use Rattle.sw_json.specs.Texts.{text_of}
use Rattle.sw_json.specs.declared.files.Release.{Release}
use Rattle.sw_text.specs.declared.fault.TextFault.{TextFault}
use Rattle.sw_json.specs.Answering.{IsAnswer, IsCommandOutcome, IsFaultyFile, OfFile, OfNetwork, OfNetworkFile, Results}
use Rattle.sw_json.specs.Laws.{AreOneButForFaults}

-- any two of the results have one status, and one value unless that is 3
abbrev pub AreOne : Results → Type 0
AreOne R = (value other : Data) (status number : ℕ) → R value status → R other number → (status ≡ number) × (status ≢ 3 → value ≡ other)

pub one_outcome : (said : Data) (n : ℕ) → AreOne (IsCommandOutcome said n)
one_outcome said n value other status number p q = (p.1 ∙ sym q.1, λ good. p.0 ∙ sym q.0)

one_fault : (path text : List ℕ) (fault : TextFault) → AreOne (IsFaultyFile path text fault)
one_fault path text fault value other status number (told, is, p) (retold, also, q) = (p.1 ∙ sym q.1, λ good. absurd (good p.1))

pub one_of_file : (path : List ℕ) (R : List ℕ → Results) → ((text : List ℕ) → AreOne (R text)) → (given : Option (List ℕ)) → AreOne (OfFile path R given)
one_of_file path R one (Some text) value other status number p q = one text value other status number p q
one_of_file path R one None value other status number p q = one_outcome _ _ value other status number p q

one_of_network : (path text : List ℕ) (R : Declaration → Results) → ((d : Declaration) → AreOne (R d)) → (r : Result Declaration TextFault)
    → AreOne (OfNetwork path text R r)
one_of_network path text R one (Ok d) value other status number p q = one d value other status number p q
one_of_network path text R one (Err fault) value other status number p q = one_fault path text fault value other status number p q

pub one_of_network_file : (path : List ℕ) (R : Declaration → Results) → ((d : Declaration) → AreOne (R d)) → (given : Option (List ℕ))
    → AreOne (OfNetworkFile path R given)
one_of_network_file path R one given =
    one_of_file path (λ text. OfNetwork path text R (network_text text)) (λ text. one_of_network path text R one (network_text text)) given

-- so have the answers round them
pub one_answer : (command : List ℕ) (files : List Data) (release : Release) (R : Results) → AreOne R → AreOneButForFaults (IsAnswer command files release R)
one_answer command files release R one text other status number (value, is, spelled) (found, also, retold) =
    let same = one value found status number is also in (
      same.0,
      (λ good. spelled.0 ∙ ((λ i. text_of (answer_value command files (same.1 good i) (same.0 i) release.toolchain.now release.version.now)) ∙ sym retold.0)),
    )
