-- A call whose file can't be opened does not end with status 0, and tells nothing.
use Rattle.std.proofs.Common.{◌≡◌, ◌∙◌, ℕ, List, refl, subst, sym}
use Rattle.std.specs.Prelude.{Option}
use Rattle.std.proofs.KnownBytes.{Keeps-refl}
use Rattle.sw_config.specs.Entries.{Declaration}
use Rattle.sw_engine.specs.Files.{network_of}
use Rattle.sw_engine.specs.Paths.{PathTexts}
use Rattle.sw_engine.specs.Tellings.{Findings, HoldsOfFound, IsFileTold}
use Rattle.sw_engine.specs.declared.network_file.NetworkFile.{NetworkFile}
use Rattle.sw_engine.specs.declared.network_file.NetworkFile.TheVariants.{Unread}
use Rattle.sw_text.specs.Ends.{Answers, AnswersToTwo}
use Rattle.sw_text.specs.declared.read_texts.InputText.{InputText}
use Rattle.sw_text.specs.declared.write_answer.Ended.{Ended}
use Rattle.sw_text.specs.declared.write_answer.Ended.TheVariants.{Status, ReadFailed}
use Rattle.sw_calls.specs.Files.{EndsByFiles, EndsByNetworkFile}

-- what ended with a read that failed has no status
no_status : ReadFailed ≡ Status 0 → ⊥
no_status is = absurd cc

pub unread_has_none : {A : Type 0} (ended : Ended) → ended ≡ ReadFailed → ended ≡ Status 0 → A
unread_has_none ended unread is = absurd (no_status (sym unread ∙ is))

-- ---- of a network file that can't be opened

at_unread : (P : NetworkFile → Ended → Type 0) (file : NetworkFile) (ended : Ended) → file ≡ Unread → ended ≡ ReadFailed → P Unread ReadFailed → P file ended
at_unread P file ended is unread h =
    subst (λ (f : NetworkFile). P f ended) (sym is) (subst (λ (e : Ended). P Unread e) (sym unread) h)

pub unread_ends : (gives : PathTexts) (P : List ℕ → Answers) (old : Option (List ℕ)) (file : NetworkFile) (ended : Ended) → file ≡ Unread
    → ended ≡ ReadFailed → EndsByNetworkFile gives P file old old ended
unread_ends gives P old file ended is unread =
    at_unread (λ f e. EndsByNetworkFile gives P f old old e) file ended is unread (Keeps-refl old, tt)

pub unread_two_end : (gives others : PathTexts) (memory : List ℕ) (P : AnswersToTwo) (old : Option (List ℕ)) (file : NetworkFile) (input : Option InputText)
    (ended : Ended) → file ≡ Unread → ended ≡ ReadFailed → EndsByFiles gives others memory P file input old old ended
unread_two_end gives others memory P old file input ended is unread =
    at_unread (λ f e. EndsByFiles gives others memory P f input old old e) file ended is unread (Keeps-refl old, tt)

pub unread_holds : {X : Type 0} (Finds : Declaration → X → Type 0) (found : Findings X) (file : NetworkFile) → file ≡ Unread
    → HoldsOfFound Finds (network_of file) found
unread_holds Finds found file is = subst (λ (f : NetworkFile). HoldsOfFound Finds (network_of f) found) (sym is) tt

pub unread_told : (memory : List ℕ) (P : Answers) (old : Option (List ℕ)) (file : NetworkFile) (ended : Ended) → file ≡ Unread → ended ≡ ReadFailed
    → IsFileTold memory P file old old ended
unread_told memory P old file ended is unread =
    at_unread (λ f e. IsFileTold memory P f old old e) file ended is unread (refl, Keeps-refl old)
