-- Before any step.
use Rattle.std.proofs.Common.{List, Some, [], length, refl, subst, suc, sym, zero, ℕ, ◌++◌, ◌∷◌, ◌≡◌}
use Rattle.std.specs.Prelude.{replicate, slice_get}
use Rattle.sw_config.specs.Entries.{Declaration}
use Rattle.sw_load.specs.History.{IsHistory, packets_at, packets_of}
use Rattle.sw_load.specs.Load.{LoadEntry}
use Rattle.sw_machine.proofs.Cuts.{no_cons}
use Rattle.sw_machine.specs.Limits.{KeepsLimits}
use Rattle.sw_machine.specs.Model.{network_of}
use Rattle.sw_machine.specs.Network.{Network}
use Rattle.sw_machine.specs.State.{empty}
use Rattle.sw_machine.specs.Steps.{Begin}
use Rattle.sw_net.proofs.CountedCommands.{counted_at_first}
use Rattle.sw_net.specs.Unanswered.{CountsUnanswered, nothing_counted}

pub all_zero : (n k count : ℕ) → slice_get (replicate n 0) k ≡ Some count → count ≡ 0
all_zero zero k count h = absurd cc
all_zero (suc n) zero count h = cc
all_zero (suc n) (suc k) count h = all_zero n k count h

no_keep : (net : Network) → KeepsLimits net []
no_keep net [] after flow cargo end s e r = absurd (no_cons (Begin flow cargo end) after e)
no_keep net (b ∷ before) after flow cargo end s e r = absurd (no_cons b (before ++ Begin flow cargo end ∷ after) e)

pub new_history : (d : Declaration) (load : List LoadEntry) → IsHistory (network_of d) (packets_of load) [] (empty (network_of d))
new_history d load = record { run = refl; in_order = λ n. (packets_at (network_of d) n (packets_of load), refl); keeps = no_keep (network_of d) }

-- nothing is unanswered
pub none_counted : (d : Declaration) (nodes : ℕ) → nodes ≡ length d.nodes → CountsUnanswered d [] (empty (network_of d)) (nothing_counted nodes)
none_counted d nodes all = subst (λ k. CountsUnanswered d [] (empty (network_of d)) (nothing_counted k)) (sym all) (counted_at_first d)
