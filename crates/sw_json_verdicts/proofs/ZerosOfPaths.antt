-- Where the worst status of an audit over a file system is 0, what each path gives declares a network that never locks up.
use Rattle.std.proofs.Common.{ℕ, List, refl}
use Rattle.sw_app.specs.ShownDeadlockFree.{AreShownDeadlockFree}
use Rattle.sw_engine.specs.Paths.{PathTexts}
use Rattle.sw_json.specs.VerdictValues.{certificate_bytes}
use Rattle.sw_json_verdicts.proofs.Zeros.{ShownLaws, zero_is_free}
use Rattle.sw_json_verdicts.specs.AuditLaws.{ZeroIsFreeOfPaths}
use Rattle.sw_json_verdicts.specs.Stores.{gives_of_paths, keeps_in}
use Rattle.sw_search.specs.declared.verdict.Verdict.TheVariants.{Free}

pub zero_is_free_of_paths : ShownLaws → (gives : List ℕ → PathTexts) (keeps : List ℕ → List ℕ → Type 0) (folder : List ℕ) → ZeroIsFreeOfPaths gives keeps folder
zero_is_free_of_paths laws gives keeps folder options paths findings i path are none at =
    let found = zero_is_free laws (gives_of_paths gives) (keeps_in keeps folder) options paths findings i path are none at in
    let free = found.2.free in
    let shown : AreShownDeadlockFree free.text (certificate_bytes (Free free.contents)) =
    record { network = free.network; declared = free.declared; shown = free.shown } in
    (free.text, free.given, (certificate_bytes (Free free.contents), shown, λ asked. found.2.kept asked refl))
