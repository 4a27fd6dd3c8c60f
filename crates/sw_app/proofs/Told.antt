-- What status 0 shows of an engine that told of a network file, alone or with a certificate file.
use Rattle.std.proofs.Common.{◌≡◌, ◌⊎◌, ℕ, Bool, true, false, List, arith, inl, inr, length, refl, subst, sym}
use Rattle.std.specs.Prelude.{Err, IsSomeAnd, None, Ok, Option, Some, if◌then◌else◌, nat_le}
use Rattle.std.specs.Io.KnownBytes.{Appends, IsAtEnd}
use Rattle.std.proofs.lemmas.Bool.Decides.{nat_tests}
use Rattle.sw_config.specs.Entries.{Declaration}
use Rattle.sw_engine.proofs.Zero.{IsFoundWith}
use Rattle.sw_engine.specs.Files.{AreFilesRead, IsFileRead, network_of, second_given}
use Rattle.sw_engine.specs.Tellings.{Findings, HoldsOfFound}
use Rattle.sw_engine.specs.declared.network_file.NetworkFile.{NetworkFile}
use Rattle.sw_engine.specs.declared.network_file.NetworkFile.TheVariants.{Network, Faulty, TooLong, Unread, NoMemory}
use Rattle.sw_file.specs.Network.{network_text}
use Rattle.sw_text.specs.declared.read_texts.InputText.{InputText}
use Rattle.sw_text.specs.Ends.{GivesAll, GivesText, Says}
use Rattle.sw_app.specs.CheckAnswers.{check_status}
use Rattle.sw_app.specs.ShownDeadlockFree.{AreShownDeadlockFree, ChecksDeadlockFree, IsShownDeadlockFree}
use Rattle.sw_app.specs.VerdictAnswers.{DecidesDeadlockFree, ShowsDeadlockFree, WritesAccepted, decide_lines, decide_status}
use Rattle.sw_app.specs.declared.check_finding.CheckFinding.{CheckFinding}
use Rattle.sw_app.specs.declared.decide_finding.DecideFinding.{DecideFinding}

-- a text that is there was read to its end
of_given : (before after one : Option (List ℕ)) (P : List ℕ → Type 0) → GivesText before after one → IsSomeAnd one P
    → (bytes : List ℕ) × GivesAll before after bytes × P bytes
of_given before after one P gives met = at (nat_le (length gives.0) 67108864) refl gives.2
  where
    end : nat_le (length gives.0) 67108864 ≡ true → IsAtEnd after ⊎ (length gives.0 ≡ 67108865) → IsAtEnd after
    end short (inl e) = e
    end short (inr long) = absurd (let bad : nat_le (length gives.0) 67108864 ≡ false = grind (arith, nat_tests) in cc)

    at : (short : Bool) → nat_le (length gives.0) 67108864 ≡ short → one ≡ (if short then Some gives.0 else None) → (bytes : List ℕ) × GivesAll before after bytes × P bytes
    at true short same = (gives.0, (gives.1.0, end short gives.1.1), subst (λ (o : Option (List ℕ)). IsSomeAnd o P) same met)
    at false short same = absurd (subst (λ (o : Option (List ℕ)). IsSomeAnd o P) same met)

-- ---- of a network file and a certificate file

-- what a network shows, its file does
of_file : (bytes : List ℕ) (d : Declaration) (second : Option (List ℕ)) → network_text bytes ≡ Ok d → IsSomeAnd second (IsShownDeadlockFree d)
    → IsSomeAnd second (AreShownDeadlockFree bytes)
of_file bytes d (Some others) reads shown = record { network = d; declared = reads; shown = shown }
of_file bytes d None reads shown = shown

-- with status 0 the text shows that the network never locks up
abbrev pub ShowsByText : Option (List ℕ) → Declaration → CheckFinding → Type 0
ShowsByText text d found = check_status found ≡ 0 → IsSomeAnd text (IsShownDeadlockFree d)

-- an accepted certificate was found
abbrev pub IsAcceptedFound : (List ℕ → Declaration → CheckFinding → Type 0) → List ℕ → Declaration → CheckFinding → Type 0
IsAcceptedFound Q bytes d found = (check_status found ≡ 0) × Q bytes d found

module _ (Q : List ℕ → Declaration → CheckFinding → Type 0) (first first_after second second_after : Option (List ℕ)) (input : Option InputText) where
  pub accepted_read : (file : NetworkFile) (found : Findings CheckFinding) → AreFilesRead first first_after second second_after file input
      → HoldsOfFound (ShowsByText (second_given input)) (network_of file) found → IsFoundWith (IsAcceptedFound Q) file found
      → ChecksDeadlockFree first first_after second second_after
  accepted_read (Network bytes d) (Some (Ok f)) ((given, gives, is), gives_also) shows good =
      let shown = of_file bytes.items d (second_given input) is.1 (shows good.0) in
      let both = of_given first first_after given (λ read. IsSomeAnd (second_given input) (AreShownDeadlockFree read)) gives
      (subst (λ (o : Option (List ℕ)). IsSomeAnd o (λ read. IsSomeAnd (second_given input) (AreShownDeadlockFree read))) (sym is.0) shown) in
      (both.0, both.1, of_given second second_after (second_given input) (AreShownDeadlockFree both.0) gives_also both.2)
  accepted_read (Network bytes d) (Some (Err none)) read shows good = absurd good
  accepted_read (Network bytes d) None read shows good = absurd good
  accepted_read (Faulty bytes fault) found read shows good = absurd good
  accepted_read TooLong found read shows good = absurd good
  accepted_read Unread found read shows good = absurd good
  accepted_read NoMemory found read shows good = absurd good

  -- the same, where the text is known by another name
  pub accepted_text : (text : Option (List ℕ)) (file : NetworkFile) (found : Findings CheckFinding) → text ≡ second_given input
      → AreFilesRead first first_after second second_after file input → HoldsOfFound (ShowsByText text) (network_of file) found
      → IsFoundWith (IsAcceptedFound Q) file found → ChecksDeadlockFree first first_after second second_after
  accepted_text text file found same read shows good =
      accepted_read file found read (subst (λ (t : Option (List ℕ)). HoldsOfFound (ShowsByText t) (network_of file) found) same shows) good

-- ---- of a network file, whose verdict was told in lines

-- a certificate was found, and written
abbrev pub IsWrittenFound : Option (List ℕ) → Option (List ℕ) → List ℕ → Declaration → DecideFinding → Type 0
IsWrittenFound old new bytes d found =
    (decide_status found ≡ 0) × ((text : List ℕ) × (status : ℕ) × Says (decide_lines d found) (decide_status found) text status × Appends old new text)

pub accepted_written : (before after old new : Option (List ℕ)) (file : NetworkFile) (found : Findings DecideFinding) → IsFileRead before after file
    → HoldsOfFound ShowsDeadlockFree (network_of file) found → IsFoundWith (IsWrittenFound old new) file found → DecidesDeadlockFree before after old new
accepted_written before after old new (Network bytes d) (Some (Ok f)) (given, gives, is) shows (none, (text, status, said, written)) =
    let shown : IsShownDeadlockFree d text = subst (IsShownDeadlockFree d) (sym said.0) (shows none) in
    let accepted : WritesAccepted bytes.items old new = (text, record { network = d; declared = is.1; shown = shown }, written) in
    of_given before after given (λ read. WritesAccepted read old new) gives
    (subst (λ (o : Option (List ℕ)). IsSomeAnd o (λ read. WritesAccepted read old new)) (sym is.0) accepted)
accepted_written before after old new (Network bytes d) (Some (Err none)) read shows good = absurd good
accepted_written before after old new (Network bytes d) None read shows good = absurd good
accepted_written before after old new (Faulty bytes fault) found read shows good = absurd good
accepted_written before after old new TooLong found read shows good = absurd good
accepted_written before after old new Unread found read shows good = absurd good
accepted_written before after old new NoMemory found read shows good = absurd good
