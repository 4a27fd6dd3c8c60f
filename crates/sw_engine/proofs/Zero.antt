-- What an engine found that ended with status 0.
use Rattle.std.proofs.Common.{◌≡◌, ◌∙◌, ◌⊎◌, ℕ, List, arith, inl, inr, sym}
use Rattle.std.specs.Prelude.{Err, None, Ok, Option, Some}
use Rattle.std.specs.Io.KnownBytes.{Appends}
use Rattle.sw_config.specs.Entries.{Declaration}
use Rattle.sw_engine.specs.Tellings.{AnswersToFile, Findings, IsFileTold}
use Rattle.sw_engine.specs.declared.network_file.NetworkFile.{NetworkFile}
use Rattle.sw_engine.specs.declared.network_file.NetworkFile.TheVariants.{Network, Faulty, TooLong, Unread, NoMemory}
use Rattle.sw_text.specs.declared.fault.TextFault.{TextFault}
use Rattle.sw_text.specs.declared.write_answer.Ended.{Ended}
use Rattle.sw_text.specs.declared.write_answer.Ended.TheVariants.{Status, ReadFailed, WriteFailed}
use Rattle.sw_text.specs.Ends.{Answers, IsTold, Says}

-- ---- an end with status 0

pub told_zero : (old new : Option (List ℕ)) (text : List ℕ) (status : ℕ) (ended : Ended) → IsTold old new text status ended → ended ≡ Status 0
    → (status ≡ 0) × Appends old new text
told_zero old new text status (Status n) is zero = (let none : n ≡ 0 = cc in sym is.0 ∙ none, is.1)
told_zero old new text status ReadFailed is zero = absurd is
told_zero old new text status WriteFailed is zero = absurd (let bad : WriteFailed ≡ Status 0 = zero in cc)

other_status : (old new : Option (List ℕ)) (text : List ℕ) (number status : ℕ) (ended : Ended) → (number ≡ 0 → ⊥) → status ≡ number
    → IsTold old new text status ended → ended ≡ Status 0 → ⊥
other_status old new text number status ended other is told zero = other (sym is ∙ (told_zero old new text status ended told zero).0)

not_three : ◌≡◌ {A = ℕ} 3 0 → ⊥
not_three bad = omega (arith, bad)

not_five : ◌≡◌ {A = ℕ} 5 0 → ⊥
not_five bad = omega (arith, bad)

-- ---- what was found

-- the file declares a network, and this holds of its bytes, of the network and of what was found
abbrev pub IsFoundWith : {X : Type 0} → (List ℕ → Declaration → X → Type 0) → NetworkFile → Findings X → Type 0
IsFoundWith P (Network bytes d) (Some (Ok found)) = P bytes.items d found
IsFoundWith P (Network bytes d) (Some (Err none)) = ⊥
IsFoundWith P (Network bytes d) None = ⊥
IsFoundWith P (Faulty bytes fault) findings = ⊥
IsFoundWith P TooLong findings = ⊥
IsFoundWith P Unread findings = ⊥
IsFoundWith P NoMemory findings = ⊥

module _ {X : Type 0} (status_of : X → ℕ) (Tells : List ℕ → Declaration → X → Answers) (Faults : List ℕ → TextFault → Answers) (Long : Answers)
    (found_status : (bytes : List ℕ) (d : Declaration) (found : X) (text : List ℕ) (status : ℕ) → Tells bytes d found text status → status ≡ status_of found)
    (fault_status : (bytes : List ℕ) (fault : TextFault) (text : List ℕ) (status : ℕ) → Faults bytes fault text status → status ≡ 3)
    (long_status : (text : List ℕ) (status : ℕ) → Long text status → status ≡ 3)
    (memory : List ℕ) (old new : Option (List ℕ)) where
  -- it has status 0, and was told
  abbrev pub IsGood : List ℕ → Declaration → X → Type 0
  IsGood bytes d found = (status_of found ≡ 0) × ((text : List ℕ) × (status : ℕ) × Tells bytes d found text status × Appends old new text)

  of_answer : (file : NetworkFile) (findings : Findings X) (text : List ℕ) (status : ℕ) (end : Ended)
      → AnswersToFile Tells Faults Long file findings text status ⊎ Says memory 5 text status → IsTold old new text status end → end ≡ Status 0
      → IsFoundWith IsGood file findings
  of_answer file findings text status end (inr wanted) told zero = absurd (other_status old new text 5 status end not_five wanted.1 told zero)
  of_answer (Network bytes d) (Some (Ok found)) text status end (inl answer) told zero =
      let none = told_zero old new text status end told zero in
      (sym (found_status bytes.items d found text status answer) ∙ none.0, (text, status, answer, none.1))
  of_answer (Network bytes d) (Some (Err none)) text status end (inl answer) told zero = absurd answer
  of_answer (Network bytes d) None text status end (inl answer) told zero = absurd answer
  of_answer (Faulty bytes fault) findings text status end (inl answer) told zero =
      absurd (other_status old new text 3 status end not_three (fault_status bytes.items fault text status answer) told zero)
  of_answer TooLong findings text status end (inl answer) told zero =
      absurd (other_status old new text 3 status end not_three (long_status text status answer) told zero)
  of_answer Unread findings text status end (inl answer) told zero = absurd answer
  of_answer NoMemory findings text status end (inl answer) told zero = absurd answer

  pub zero_found : (file : NetworkFile) (findings : Findings X) (end : Ended) → IsFileTold memory (AnswersToFile Tells Faults Long file findings) file old new end
      → end ≡ Status 0 → IsFoundWith IsGood file findings
  zero_found (Network bytes d) findings end (text, status, may, told) zero = of_answer (Network bytes d) findings text status end may told zero
  zero_found (Faulty bytes fault) findings end (text, status, may, told) zero = of_answer (Faulty bytes fault) findings text status end may told zero
  zero_found TooLong findings end (text, status, may, told) zero = of_answer TooLong findings text status end may told zero
  zero_found Unread findings end told zero = absurd (let bad : ReadFailed ≡ Status 0 = sym told.0 ∙ zero in cc)
  zero_found NoMemory findings end (text, status, may, told) zero = of_answer NoMemory findings text status end may told zero
