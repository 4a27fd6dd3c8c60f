-- What is said of a reader is said of the path that it was opened by.
use Rattle.std.proofs.Common.{◌≡◌, ◌<◌, ◌+◌, ◌⊎◌, ℕ, List, arith, inl, inr, refl, subst, sym}
use Rattle.std.proofs.lemmas.Bool.Decides.{nat_tests}
use Rattle.std.specs.Prelude.{◌∷◌, [], Bool, true, false, Option, Some, None, MatchBool, codes, if◌then◌else◌, length, nat_le}
use Rattle.std.specs.Io.KnownBytes.{IsAtEnd}
use Rattle.sw_text.specs.Ends.{Answers, AnswersBy, AnswersByTwo, AnswersToTwo, EndsBy, Gives, GivesText, IfLimited, IfShort, OrMemory, Says, limited, most_bytes}
use Rattle.sw_text.specs.Lines.{line}
use Rattle.sw_text.specs.declared.read_texts.InputText.{InputText}
use Rattle.sw_text.specs.declared.write_answer.Ended.{Ended}
use Rattle.sw_text.specs.declared.write_answer.Ended.TheVariants.{Status, ReadFailed, WriteFailed}
use Rattle.sw_engine.specs.Engines.{EndsByTwo}
use Rattle.sw_engine.specs.Files.{AreFilesRead, IsFileRead, second_given}
use Rattle.sw_engine.specs.Paths.{AnswersByPath, AnswersByPaths, AreFilesGiven, EndsByPath, EndsByPaths, PathTexts, IsFileGiven, ReadsTo}
use Rattle.sw_engine.specs.declared.network_file.NetworkFile.{NetworkFile}
use Rattle.sw_engine.specs.declared.network_file.NetworkFile.TheVariants.{Network, Faulty, TooLong, Unread, NoMemory}

module _ (gives : PathTexts) (before after : Option (List ℕ)) (reads : ReadsTo before gives) where
  at_end : (bytes : List ℕ) → nat_le (length bytes) most_bytes ≡ true → IsAtEnd after ⊎ (length bytes ≡ most_bytes + 1) → IsAtEnd after
  at_end bytes short (inl end) = end
  at_end bytes short (inr long) = absurd (let bad : nat_le (length bytes) most_bytes ≡ false = grind (arith, nat_tests) in cc)

  of_length : (bytes : List ℕ) → Gives before after bytes → (short : Bool) → nat_le (length bytes) most_bytes ≡ short
      → gives (if short then Some bytes else None)
  of_length bytes given true short = reads.whole after bytes (given.0, at_end bytes short given.1)
  of_length bytes given false long = reads.long after bytes given.0 (grind (arith, nat_tests))

  -- what the reader gave is what the path gives
  pub of_bytes : (bytes : List ℕ) → Gives before after bytes → gives (limited bytes)
  of_bytes bytes given = of_length bytes given (nat_le (length bytes) most_bytes) refl

  pub of_text : (text : Option (List ℕ)) → GivesText before after text → gives text
  of_text text (bytes, given, is) = subst gives (sym is) (of_bytes bytes given)

-- ---- one path

if_limited : (P : List ℕ → Answers) (bytes text : List ℕ) (status : ℕ) (short : Bool)
    → MatchBool short (P bytes text status) (Says (line (codes "fault A1 TooLong" ∷ [])) 3 text status)
    → IfLimited (if short then Some bytes else None) P text status
if_limited P bytes text status true answer = answer
if_limited P bytes text status false answer = answer

module _ (gives : PathTexts) (before after : Option (List ℕ)) (reads : ReadsTo before gives) where
  by_path : (P : List ℕ → Answers) (text : List ℕ) (status : ℕ) → OrMemory (AnswersBy P before after) text status
      → OrMemory (AnswersByPath gives P) text status
  by_path P text status (inl (bytes, given, answer)) =
      inl (limited bytes, of_bytes gives before after reads bytes given, if_limited P bytes text status (nat_le (length bytes) most_bytes) answer)
  by_path P text status (inr memory) = inr memory

  pub ends_by_path : (P : List ℕ → Answers) (old new : Option (List ℕ)) (ended : Ended) → EndsBy P before after old new ended
      → EndsByPath gives P old new ended
  ends_by_path P old new (Status n) (text, status, may, told) = (text, status, by_path P text status may, told)
  ends_by_path P old new WriteFailed (text, status, may, told) = (text, status, by_path P text status may, told)
  ends_by_path P old new ReadFailed kept = kept

  pub file_given : (file : NetworkFile) → IsFileRead before after file → IsFileGiven gives file
  file_given (Network text network) (given, gave, is) = (given, of_text gives before after reads given gave, is)
  file_given (Faulty text fault) (given, gave, is) = (given, of_text gives before after reads given gave, is)
  file_given TooLong (given, gave, is) = (given, of_text gives before after reads given gave, is)
  file_given Unread none = tt
  file_given NoMemory none = tt

-- ---- two paths

module _ (gives others : PathTexts) (first first_after second second_after : Option (List ℕ)) (reads : ReadsTo first gives) (reads_also : ReadsTo second others) where
  by_paths : (memory : List ℕ) (P : AnswersToTwo) (text : List ℕ) (status : ℕ)
      → AnswersByTwo P first first_after second second_after text status ⊎ Says memory 5 text status
      → AnswersByPaths gives others P text status ⊎ Says memory 5 text status
  by_paths memory P text status (inl (one, other, gave, gave_also, answer)) =
      inl (one, other, of_text gives first first_after reads one gave, of_text others second second_after reads_also other gave_also, answer)
  by_paths memory P text status (inr told) = inr told

  pub ends_by_paths : (memory : List ℕ) (P : AnswersToTwo) (old new : Option (List ℕ)) (ended : Ended)
      → EndsByTwo memory P first first_after second second_after old new ended → EndsByPaths gives others memory P old new ended
  ends_by_paths memory P old new (Status n) (text, status, may, told) = (text, status, by_paths memory P text status may, told)
  ends_by_paths memory P old new WriteFailed (text, status, may, told) = (text, status, by_paths memory P text status may, told)
  ends_by_paths memory P old new ReadFailed kept = kept

  pub files_given : (file : NetworkFile) (input : Option InputText) → AreFilesRead first first_after second second_after file input
      → AreFilesGiven gives others file input
  files_given (Network text network) input (read, gave) =
      (file_given gives first first_after reads (Network text network) read, of_text others second second_after reads_also (second_given input) gave)
  files_given (Faulty text fault) input (read, gave) =
      (file_given gives first first_after reads (Faulty text fault) read, of_text others second second_after reads_also (second_given input) gave)
  files_given TooLong input (read, gave) =
      (file_given gives first first_after reads TooLong read, of_text others second second_after reads_also (second_given input) gave)
  files_given Unread input none = tt
  files_given NoMemory input none = tt
