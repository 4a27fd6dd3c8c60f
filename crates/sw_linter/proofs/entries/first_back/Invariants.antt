use Rattle.std.proofs.Common.{◌≡◌, ℕ}
use Rattle.std.specs.Prelude.{option_map}
use Rattle.sw_topo.specs.Ports.{ports_of}
use Rattle.sw_linter.specs.declared.lint.Lint.TheVariants.{LeadsBack}
use Rattle.sw_linter.specs.Lints.{first_made}
use Rattle.sw_linter.specs.Marks.{back_at}
use Rattle.sw_linter.proofs.entries.first_back.Given as goal

abbrev pub invariant-loop-port : goal.invariant-loop-port
invariant-loop-port l =
    first_made (λ (port : ℕ). option_map (λ (flow : ℕ). LeadsBack l.switch l.entry port flow) (back_at l.network l.marks l.switch l.route port)) (ports_of l.port-iterator)
    ≡ first_made (λ (port : ℕ). option_map (λ (flow : ℕ). LeadsBack l.switch l.entry port flow) (back_at l.network l.marks l.switch l.route port)) (ports_of l.initial.port-iterator)
