-- What a call on files tells, by what the paths of the files give.
use Rattle.std.specs.Prelude.{◌≡◌, ℕ, List, Option, Some, None}
use Rattle.sw_text.specs.declared.read_texts.InputText.{InputText}
use Rattle.sw_text.specs.declared.write_answer.Ended.{Ended}
use Rattle.sw_text.specs.declared.write_answer.Ended.TheVariants.{Status}
use Rattle.sw_text.specs.Ends.{Answers, AnswersToTwo, IsTold}
use Rattle.sw_engine.specs.Paths.{AreFilesGiven, EndsByPath, EndsByPaths, PathTexts, IsFileGiven}
use Rattle.sw_engine.specs.declared.network_file.NetworkFile.{NetworkFile}
use Rattle.sw_app.specs.ShownDeadlockFree.{AreShownDeadlockFree}
use Rattle.sw_app.specs.VerdictAnswers.{WritesAccepted}
use Rattle.sw_app.specs.Samples.{sample_text}
use Rattle.sw_app.specs.declared.samples.Sample.{Sample}

-- an answer to what the path of a network file gives was told, or a read failed; and what was read is what the path gives
abbrev pub EndsByNetworkFile : PathTexts → (List ℕ → Answers) → NetworkFile → Option (List ℕ) → Option (List ℕ) → Ended → Type 0
EndsByNetworkFile gives P file old new ended = EndsByPath gives P old new ended × IsFileGiven gives file

-- the same of what two paths give, with this line for want of memory
abbrev pub EndsByFiles : PathTexts → PathTexts → List ℕ → AnswersToTwo → NetworkFile → Option InputText → Option (List ℕ) → Option (List ℕ) → Ended → Type 0
EndsByFiles gives others memory P file input old new ended =
    EndsByPaths gives others memory P old new ended × AreFilesGiven gives others file input

-- with status 0 the bytes that the path gives declare a network, and a certificate was written which is accepted for it: that network never locks up
abbrev pub DecidesFileDeadlockFree : PathTexts → Option (List ℕ) → Option (List ℕ) → Ended → Type 0
DecidesFileDeadlockFree gives old new ended = ended ≡ Status 0 → (bytes : List ℕ) × gives (Some bytes) × WritesAccepted bytes old new

-- with status 0 the bytes that the first path gives declare a network, and those that the second path gives are a certificate which is accepted for it:
-- that network never locks up
abbrev pub ChecksFilesDeadlockFree : PathTexts → PathTexts → Ended → Type 0
ChecksFilesDeadlockFree gives others ended =
    ended ≡ Status 0
    → (bytes : List ℕ) × gives (Some bytes) × ((certificate : List ℕ) × others (Some certificate) × AreShownDeadlockFree bytes certificate)

-- the sample was written, or there is none of that name
abbrev pub EndsBySample : Option Sample → Option (List ℕ) → Option (List ℕ) → Ended → Type 0
EndsBySample (Some sample) old new ended = IsTold old new (sample_text sample) 0 ended
EndsBySample None old new ended = (ended ≡ Status 2) × (new ≡ old)
