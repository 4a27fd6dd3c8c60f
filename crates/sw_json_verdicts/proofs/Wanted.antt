-- Want of memory as a finding.
use Rattle.std.proofs.Common.{◌≡◌, ℕ, List, None, false, refl}
use Rattle.std.specs.Prelude.{codes}
use Rattle.sw_json_verdicts.specs.Findings.{IsMemoryFinding}
use Rattle.sw_json_verdicts.specs.Judgements.{finding_of}
use Rattle.sw_json_verdicts.specs.declared.judged.Judged.{Judged}
use Rattle.sw_json_verdicts.specs.declared.audit_options.AuditOptions.{AuditOptions}

pub memory_found : (options : AuditOptions) (path : List ℕ) (j : Judged) → j.status ≡ 5 → j.word.now ≡ codes "memory" → j.entry ≡ None → j.flowless ≡ false → IsMemoryFinding options path (finding_of path j)
memory_found options path j status word entry flowless = record { told_status = status; told_word = word; object = λ json. rw entry refl; flowless = flowless }
