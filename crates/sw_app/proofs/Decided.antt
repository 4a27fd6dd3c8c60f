-- What `decide` has done that told what was found.
use Rattle.std.proofs.Common.{◌≡◌, ℕ, List, [], ◌∷◌, codes, false, subst, sym, true}
use Rattle.std.specs.Prelude.{Ok, Option, Some, is_some}
use Rattle.std.proofs.lemmas.Bool.{false≢true}
use Rattle.sw_cert.specs.Grammar.{spelling}
use Rattle.sw_cert.specs.Text.{Contents}
use Rattle.sw_engine.proofs.LineEnds.{ends_in_lines}
use Rattle.sw_engine.proofs.Zero.{zero_found}
use Rattle.sw_engine.specs.Files.{IsFileRead, network_of}
use Rattle.sw_engine.specs.LineAnswers.{FaultInLine, IsFileToldInLines, memory_line}
use Rattle.sw_engine.specs.Tellings.{Findings, HoldsOfFound, TellsOr}
use Rattle.sw_engine.specs.declared.network_file.NetworkFile.{NetworkFile}
use Rattle.sw_engine.specs.declared.network_file.NetworkFile.TheVariants.{Network, Faulty, TooLong, Unread, NoMemory}
use Rattle.sw_search.specs.declared.verdict.Verdict.TheVariants.{Free}
use Rattle.sw_text.specs.Ends.{EndsBy, Says}
use Rattle.sw_text.specs.Lines.{line}
use Rattle.sw_text.specs.declared.write_answer.Ended.{Ended}
use Rattle.sw_text.specs.declared.write_answer.Ended.TheVariants.{Status}
use Rattle.sw_app.specs.VerdictAnswers.{DecidesDeadlockFree, IsDecideAnswer, IsDecideFinding, ShowsDeadlockFree, decide_lines, decide_status}
use Rattle.sw_app.proofs.Told.{accepted_written}
use Rattle.sw_app.specs.declared.decide_finding.DecideFinding.{DecideFinding}

-- that a certificate was told is what is told of its network
pub told_certificate : (file : NetworkFile) (findings : Findings DecideFinding) (c : Contents) (old new : Option (List ℕ)) (end : Ended)
    → is_some (network_of file) ≡ true → findings ≡ Some (Ok (record { verdict = Free c }))
    → TellsOr memory_line (Says (spelling c.numbers c.places) 0) old new end → IsFileToldInLines decide_lines decide_status file findings old new end
told_certificate (Network bytes d) findings c old new end declares found told =
    subst (λ (it : Findings DecideFinding). IsFileToldInLines decide_lines decide_status (Network bytes d) it old new end) (sym found) told
told_certificate (Faulty bytes fault) findings c old new end declares found told = absurd (false≢true declares)
told_certificate TooLong findings c old new end declares found told = absurd (false≢true declares)
told_certificate Unread findings c old new end declares found told = absurd (false≢true declares)
told_certificate NoMemory findings c old new end declares found told = absurd (false≢true declares)

module _ (before after old new : Option (List ℕ)) (file : NetworkFile) (found : Findings DecideFinding) (end : Ended) (read : IsFileRead before after file)
    (told : IsFileToldInLines decide_lines decide_status file found old new end) where
  pub ended_so : HoldsOfFound IsDecideFinding (network_of file) found → EndsBy IsDecideAnswer before after old new end
  ended_so holds = ends_in_lines IsDecideFinding decide_lines decide_status before after old new file found end read holds told

  pub free_so : HoldsOfFound ShowsDeadlockFree (network_of file) found → end ≡ Status 0 → DecidesDeadlockFree before after old new
  free_so shows good =
      accepted_written before after old new file found read shows
      (zero_found decide_status (λ _ d f. Says (decide_lines d f) (decide_status f)) (λ _ fault. FaultInLine fault)
      (Says (line (codes "fault A1 TooLong" ∷ [])) 3) (λ bytes d f text status says. says.1) (λ bytes fault text status says. says.1)
      (λ text status says. says.1) memory_line old new file found end told good)
