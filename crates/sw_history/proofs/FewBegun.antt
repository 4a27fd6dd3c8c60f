-- What a history begins is no more than can be counted.
use Rattle.std.proofs.Common.{List, arith, length, refl, ◌≡◌, ◌≤◌}
use Rattle.std.proofs.lemmas.List.Sums.{sum_by-cons}
use Rattle.std.specs.Prelude.{sum_by, [], ◌∷◌}
use Rattle.sw_load.proofs.Fronts.{no-more}
use Rattle.sw_load.proofs.Packets.{length-packets}
use Rattle.sw_load.specs.History.{IsHistory, packets_of}
use Rattle.sw_load.specs.Load.{LoadEntry, packet_count}
use Rattle.sw_machine.specs.Begun.{Begun, beginnings}
use Rattle.sw_machine.specs.Network.{Network}
use Rattle.sw_machine.specs.State.{State}
use Rattle.sw_machine.specs.Steps.{Step}
use Rattle.sw_net.specs.Unanswered.{AreFewBegun}

each_once : (packets : List Begun) → sum_by (λ b. 1) packets ≡ length packets
each_once [] = refl
each_once (b ∷ packets) = let more = sum_by-cons (λ (p : Begun). 1) b packets in let rest = each_once packets in omega (arith, more, rest)

pub few_are_begun : (net : Network) (load : List LoadEntry) (steps : List Step) (s : State) → IsHistory net (packets_of load) steps s → packet_count load ≤ 65536 → AreFewBegun steps
few_are_begun net load steps s history total =
    let part = no-more (λ (b : Begun). (net.flow b.flow).from) (λ b. 1) (beginnings steps) (packets_of load) history.in_order in
    let begun = each_once (beginnings steps) in
    let all = each_once (packets_of load) in
    let size = length-packets load in
    omega (arith, part, begun, all, size, total)
