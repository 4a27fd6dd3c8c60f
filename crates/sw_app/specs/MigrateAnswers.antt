-- What `migrate` answers (this project's choice).
use Rattle.std.specs.Prelude.{◌≡◌, ◌⊎◌, ℕ, List, [], ◌∷◌, codes}
use Rattle.sw_file.specs.declared.fault.MigrateFault.{MigrateFault}
use Rattle.sw_file.specs.declared.fault.MigrateFault.TheVariants.{Text, NotOld}
use Rattle.sw_file.specs.Migration.{IsMigration, Refuses}
use Rattle.sw_text.specs.declared.fault.OrMemory.{OrMemory}
use Rattle.sw_text.specs.declared.fault.OrMemory.TheVariants.{Fault, Memory}
use Rattle.sw_text.specs.Ends.{Answers, Says}
use Rattle.sw_text.specs.FaultTexts.{fault_text}
use Rattle.sw_output.specs.Lines.{line}

-- why a text is not migrated; want of memory has no answer
abbrev pub IsRefusedAnswer : OrMemory MigrateFault → Answers
IsRefusedAnswer (Fault (Text fault)) text status = Says (line (fault_text fault ∷ [])) 3 text status
IsRefusedAnswer (Fault NotOld) text status = Says (line (codes "fault G1 NotOld" ∷ [])) 3 text status
IsRefusedAnswer Memory text status = ⊥

-- of the bytes of a file: any text that they are migrated to, or why they are not
abbrev pub IsMigrateAnswer : List ℕ → Answers
IsMigrateAnswer bytes text status = (IsMigration bytes text × (status ≡ 0)) ⊎ ((fault : OrMemory MigrateFault) × Refuses bytes fault × IsRefusedAnswer fault text status)
