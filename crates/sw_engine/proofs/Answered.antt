-- What an engine has done that told what was found of a network file.
use Rattle.std.proofs.Common.{◌≡◌, ◌⊎◌, ℕ, List, inl, inr, refl, subst, sym}
use Rattle.std.proofs.KnownBytes.{Keeps-refl}
use Rattle.std.specs.Prelude.{Err, IfOk, None, Ok, Option, Result, Some}
use Rattle.std.specs.declared.alloc.AllocError.{AllocError}
use Rattle.sw_config.specs.Entries.{Declaration}
use Rattle.sw_file.specs.Network.{network_text}
use Rattle.sw_text.specs.declared.answer.ByteAnswer.{ByteAnswer}
use Rattle.sw_text.specs.declared.fault.TextFault.{TextFault}
use Rattle.sw_text.specs.declared.write_answer.Ended.{Ended}
use Rattle.sw_text.specs.declared.write_answer.Ended.TheVariants as ended
use Rattle.sw_text.specs.Ends.{Answers, IsTold, Says}
use Rattle.sw_engine.specs.Engines.{AnswersByFinding, AnswersByOne, AnswersInForm, AnswersToOne, AnswersToRead, EndsByOne}
use Rattle.sw_engine.specs.Files.{IsFileOf, IsFileRead, network_of}
use Rattle.sw_engine.specs.Tellings.{AnswersToFile, Findings, HoldsOfFound, IsAnswerTold, IsFileTold, TellsOr}
use Rattle.sw_engine.specs.declared.network_file.NetworkFile.{NetworkFile}
use Rattle.sw_engine.specs.declared.network_file.NetworkFile.TheVariants.{Network, Faulty, TooLong, Unread, NoMemory}

-- ---- told

told_or : (memory : List ℕ) (P : Answers) (answer : Result ByteAnswer AllocError) (old new : Option (List ℕ)) (end : Ended)
    → IfOk answer (λ a. P (a.text.items) a.status) → IsAnswerTold memory answer old new end → TellsOr memory P old new end
told_or memory P (Ok a) old new end met is = (a.text.items, a.status, inl met, is)
told_or memory P (Err none) old new end met is = (memory, 5, inr (refl, refl), is)

-- what was told of a file that was read
pub told_of_file : (memory : List ℕ) (P : Answers) (file : NetworkFile) (answer : Result ByteAnswer AllocError) (old new : Option (List ℕ)) (end : Ended)
    → (file ≡ Unread → ⊥) → IfOk answer (λ a. P (a.text.items) a.status) → IsAnswerTold memory answer old new end
    → IsFileTold memory P file old new end
told_of_file memory P (Network text network) answer old new end read met is = told_or memory P answer old new end met is
told_of_file memory P (Faulty text fault) answer old new end read met is = told_or memory P answer old new end met is
told_of_file memory P TooLong answer old new end read met is = told_or memory P answer old new end met is
told_of_file memory P Unread answer old new end read met is = absurd (read refl)
told_of_file memory P NoMemory answer old new end read met is = told_or memory P answer old new end met is

-- of one that was not read nothing was told
pub told_of_unread : (memory : List ℕ) (P : Answers) (file : NetworkFile) (old : Option (List ℕ)) (end : Ended) → file ≡ Unread → end ≡ ended.ReadFailed
    → IsFileTold memory P file old old end
told_of_unread memory P file old end unread failed = subst (λ (f : NetworkFile). IsFileTold memory P f old old end) (sym unread) (failed, Keeps-refl old)

-- ---- of what a reader gave

module _ {X : Type 0} (Finds : Declaration → X → Type 0) (Tells : List ℕ → Declaration → X → Answers) (Faults : List ℕ → TextFault → Answers) (Long : Answers) where
  -- the answers to a network file
  abbrev to_file : AnswersToOne
  to_file = AnswersInForm Finds Tells Faults Long

  -- the answer to bytes, by what they are
  to_bytes : (bytes : List ℕ) (given : Option (List ℕ)) (read : Result Declaration TextFault) (text : List ℕ) (status : ℕ) → given ≡ Some bytes
      → network_text bytes ≡ read → AnswersToRead (AnswersByFinding Finds (Tells bytes)) (Faults bytes) read text status → to_file given text status
  to_bytes bytes given read text status is reads answer =
      subst (λ (it : Option (List ℕ)). to_file it text status) (sym is)
      (subst (λ (it : Result Declaration TextFault). AnswersToRead (AnswersByFinding Finds (Tells bytes)) (Faults bytes) it text status) (sym reads) answer)

  -- an answer to the file is one to the text that it is of
  pub by_given : (given : Option (List ℕ)) (file : NetworkFile) (findings : Findings X) (text : List ℕ) (status : ℕ) → IsFileOf given file
      → HoldsOfFound Finds (network_of file) findings → AnswersToFile Tells Faults Long file findings text status → to_file given text status
  by_given given (Network bytes d) (Some (Ok found)) text status is holds answer =
      to_bytes bytes.items given (Ok d) text status is.0 is.1 (found, holds, answer)
  by_given given (Network bytes d) (Some (Err none)) text status is holds answer = absurd answer
  by_given given (Network bytes d) None text status is holds answer = absurd answer
  by_given given (Faulty bytes fault) findings text status is holds answer = to_bytes bytes.items given (Err fault) text status is.0 is.1 answer
  by_given given TooLong findings text status is holds answer = subst (λ (it : Option (List ℕ)). to_file it text status) (sym is) answer
  by_given given Unread findings text status is holds answer = absurd answer
  by_given given NoMemory findings text status is holds answer = absurd answer

  -- and so to what the reader gave
  by_file : (before after : Option (List ℕ)) (file : NetworkFile) (findings : Findings X) (text : List ℕ) (status : ℕ) → IsFileRead before after file
      → HoldsOfFound Finds (network_of file) findings → AnswersToFile Tells Faults Long file findings text status → AnswersByOne to_file before after text status
  by_file before after (Network bytes d) findings text status (given, gives, is) holds answer =
      (given, gives, by_given given (Network bytes d) findings text status is holds answer)
  by_file before after (Faulty bytes fault) findings text status (given, gives, is) holds answer =
      (given, gives, by_given given (Faulty bytes fault) findings text status is holds answer)
  by_file before after TooLong findings text status (given, gives, is) holds answer = (given, gives, by_given given TooLong findings text status is holds answer)
  by_file before after Unread findings text status is holds answer = absurd answer
  by_file before after NoMemory findings text status is holds answer = absurd answer

module _ {X : Type 0} (Finds : Declaration → X → Type 0) (Tells : List ℕ → Declaration → X → Answers) (Faults : List ℕ → TextFault → Answers) (Long : Answers)
    (memory : List ℕ) (before after old new : Option (List ℕ)) where
  ended_so : (end : Ended) (text : List ℕ) (status : ℕ)
      → AnswersByOne (AnswersInForm Finds Tells Faults Long) before after text status ⊎ Says memory 5 text status → IsTold old new text status end
      → EndsByOne memory (AnswersInForm Finds Tells Faults Long) before after old new end
  ended_so (ended.Status n) text status may is = (text, status, may, is)
  ended_so ended.WriteFailed text status may is = (text, status, may, is)
  ended_so ended.ReadFailed text status may is = absurd is

  told_so : (file : NetworkFile) (findings : Findings X) (end : Ended) → IsFileRead before after file → HoldsOfFound Finds (network_of file) findings
      → TellsOr memory (AnswersToFile Tells Faults Long file findings) old new end
      → EndsByOne memory (AnswersInForm Finds Tells Faults Long) before after old new end
  told_so file findings end read holds (text, status, inl answer, is) =
      ended_so end text status (inl (by_file Finds Tells Faults Long before after file findings text status read holds answer)) is
  told_so file findings end read holds (text, status, inr wanted, is) = ended_so end text status (inr wanted) is

  -- the engine that read the file and told of it
  pub ends_by_file : (file : NetworkFile) (findings : Findings X) (end : Ended) → IsFileRead before after file → HoldsOfFound Finds (network_of file) findings
      → IsFileTold memory (AnswersToFile Tells Faults Long file findings) file old new end
      → EndsByOne memory (AnswersInForm Finds Tells Faults Long) before after old new end
  ends_by_file (Network bytes d) findings end read holds is = told_so (Network bytes d) findings end read holds is
  ends_by_file (Faulty bytes fault) findings end read holds is = told_so (Faulty bytes fault) findings end read holds is
  ends_by_file TooLong findings end read holds is = told_so TooLong findings end read holds is
  ends_by_file Unread findings end read holds is =
      subst (λ (e : Ended). EndsByOne memory (AnswersInForm Finds Tells Faults Long) before after old new e) (sym is.0) is.1
  ends_by_file NoMemory findings end read holds is = told_so NoMemory findings end read holds is

-- ---- what was found, by whether the file declares a network

pub holds_of_network : {X : Type 0} (Holds : Declaration → X → Type 0) (d : Declaration) (known : Option Declaration) (result : Result X AllocError)
    (findings : Findings X) → known ≡ Some d → findings ≡ Some result → IfOk result (Holds d) → HoldsOfFound Holds known findings
holds_of_network {X = X} Holds d known result findings is found holds =
    subst (λ (it : Option Declaration). HoldsOfFound Holds it findings) (sym is) (subst (λ (it : Findings X). HoldsOfFound Holds (Some d) it) (sym found) holds)

pub holds_of_none : {X : Type 0} (Holds : Declaration → X → Type 0) (known : Option Declaration) (findings : Findings X) → known ≡ None
    → HoldsOfFound Holds known findings
holds_of_none Holds known findings is = subst (λ (it : Option Declaration). HoldsOfFound Holds it findings) (sym is) tt

-- what holds of what was found, where more does
pub holds_less : {X : Type 0} (P Q : Declaration → X → Type 0) → ((d : Declaration) (found : X) → P d found → Q d found) → (known : Option Declaration)
    (findings : Findings X) → HoldsOfFound P known findings → HoldsOfFound Q known findings
holds_less P Q less (Some d) (Some (Ok found)) holds = less d found holds
holds_less P Q less (Some d) (Some (Err none)) holds = holds
holds_less P Q less (Some d) None holds = holds
holds_less P Q less None findings holds = tt
