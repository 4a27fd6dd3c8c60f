-- What an engine that told a text has done.
use Rattle.std.proofs.Common.{◌≡◌, ℕ, ◌≤◌, List, [], ◌∷◌, true, false, arith, codes, inl, inr, length, refl, subst, sym}
use Rattle.std.specs.Prelude.{Option, nat_le, Result, Ok, Err, IfOk}
use Rattle.std.specs.declared.alloc.AllocError.{AllocError}
use Rattle.std.specs.Io.KnownBytes.{Consumes, IsAtEnd}
use Rattle.std.proofs.lemmas.Bool.Decides.{nat_tests}
use Rattle.sw_text.specs.Reading.{Takes}
use Rattle.sw_text.specs.declared.read_stream.ReadError.{ReadError}
use Rattle.sw_text.specs.declared.read_stream.ReadError.TheVariants.{TooLong, Failed, Memory}
use Rattle.sw_text.specs.declared.answer.ByteAnswer.{ByteAnswer}
use Rattle.sw_text.specs.declared.write_answer.Ended.{Ended}
use Rattle.sw_text.specs.declared.write_answer.Ended.TheVariants.{Status, ReadFailed, WriteFailed}
use Rattle.sw_text.specs.Ends.{Answers, AnswersBy, EndsBy, IfShort, IsMemoryTold, IsTold, IsUnreadTold, OrMemory}
use Rattle.sw_text.specs.Told.{IsAnswerTold}
use Rattle.sw_text.specs.Lines.{line}

-- a text that may be told was told
told : (P : List ℕ → Answers) (before after old new : Option (List ℕ)) (ended : Ended) (text : List ℕ) (status : ℕ)
    → OrMemory (AnswersBy P before after) text status → IsTold old new text status ended → EndsBy P before after old new ended
told P before after old new (Status n) text status may is = (text, status, may, is)
told P before after old new WriteFailed text status may is = (text, status, may, is)
told P before after old new ReadFailed text status may is = absurd is

-- that memory was wanted
pub told_memory : (P : List ℕ → Answers) (before after old new : Option (List ℕ)) (ended : Ended) → IsMemoryTold old new ended → EndsBy P before after old new ended
told_memory P before after old new ended is = told P before after old new ended (line (codes "fault memory" ∷ [])) 5 (inr (refl, refl)) is

is_long : (bytes : List ℕ) → length bytes ≡ 67108865 → nat_le (length bytes) 67108864 ≡ false
is_long bytes count = grind (arith, nat_tests)

-- that the text is too long
pub told_long : (P : List ℕ → Answers) (before after old new : Option (List ℕ)) (ended : Ended) → Takes before after 67108865
    → IsTold old new (line (codes "fault A1 TooLong" ∷ [])) 3 ended → EndsBy P before after old new ended
told_long P before after old new ended takes is =
    let long : nat_le (length takes.0) 67108864 ≡ false = is_long takes.0 takes.1 in
    let answer : IfShort takes.0 (P takes.0) (line (codes "fault A1 TooLong" ∷ [])) 3 = rw long (refl, refl) in
    told P before after old new ended (line (codes "fault A1 TooLong" ∷ [])) 3 (inl (takes.0, (takes.2, inr takes.1), answer)) is

-- why the text was not read
pub told_unread : (P : List ℕ → Answers) (before after old new : Option (List ℕ)) (error : ReadError) (ended : Ended)
    → (error ≡ TooLong → Takes before after 67108865) → IsUnreadTold error old new ended → EndsBy P before after old new ended
told_unread P before after old new TooLong ended takes is = told_long P before after old new ended (takes refl) is
told_unread P before after old new Memory ended takes is = told_memory P before after old new ended is
told_unread P before after old new Failed ended takes is = subst (λ (e : Ended). EndsBy P before after old new e) (sym is.0) is.1

-- an answer to the text
pub told_answer : (P : List ℕ → Answers) (before after old new : Option (List ℕ)) (ended : Ended) (read text : List ℕ) (status : ℕ)
    → Consumes before after read → IsAtEnd after → length read ≤ 67108864 → P read text status → IsTold old new text status ended
    → EndsBy P before after old new ended
told_answer P before after old new ended read text status given end within answer is =
    let short : nat_le (length read) 67108864 ≡ true = grind (arith, nat_tests) in
    let if_short : IfShort read (P read) text status = rw short answer in
    told P before after old new ended text status (inl (read, (given, inl end), if_short)) is

-- an answer, or that memory was wanted
pub answered : (P : List ℕ → Answers) (before after old new : Option (List ℕ)) (ended : Ended) (read : List ℕ) (answer : Result ByteAnswer AllocError)
    → Consumes before after read → IsAtEnd after → length read ≤ 67108864 → IfOk answer (λ a. P read a.text.items a.status)
    → IsAnswerTold answer old new ended → EndsBy P before after old new ended
answered P before after old new ended read (Ok a) given end within met is =
    told_answer P before after old new ended read a.text.items a.status given end within met is
answered P before after old new ended read (Err none) given end within met is = told_memory P before after old new ended is
