-- How many packets each node has begun, with one more.
use Rattle.std.proofs.Common.{◌≡◌, ◌++◌, ◌+◌, ◌<◌, ◌≤◌, ◌∷◌, ◌∙◌, [], ℕ, List, None, Option, Some, ap, arith, length, length-set, refl, sym}
use Rattle.std.specs.Prelude.{IfSome, nat_eq, slice_get, slice_index}
use Rattle.std.proofs.lemmas.List.Sums.{count_by-le-length, length-filter}
use Rattle.std.proofs.lemmas.Option.{slice_get-get_or, slice_get_within}
use Rattle.sw_history.proofs.Adds.{no_beginner, none_counted, some_counted}
use Rattle.sw_history.specs.History.{IsCounted}
use Rattle.sw_history.specs.Makes.{counted_with}
use Rattle.sw_history.specs.Next.{beginner_of}
use Rattle.sw_load.proofs.Packets.{length-packets}
use Rattle.sw_load.specs.History.{BeginsNext, next_packet, packets_at, packets_of}
use Rattle.sw_load.specs.Load.{LoadEntry, packet_count}
use Rattle.sw_machine.specs.Begun.{Begun, beginnings}
use Rattle.sw_machine.specs.Steps.{Accept, Arrive, Begin, Drop, Emit, Fct, FctIn, Forward, Grant, Reply, Spill, Step}
use Rattle.sw_machine.specs.Model.{network_of}
use Rattle.sw_config.specs.Entries.{Declaration}

module _ (d : Declaration) (load : List LoadEntry) (steps : List Step) (begun : List ℕ) (counted : IsCounted d steps begun) where
  -- a node with a packet to begin has begun fewer than the load has
  fewer : (n before : ℕ) (b : Begun) → slice_get begun n ≡ Some before → next_packet (network_of d) (packets_of load) steps n ≡ Some b → before < packet_count load
  fewer n before b at next =
      let net = network_of d in
      let is = counted n before at in
      let inside = slice_get_within (packets_at net n (packets_of load)) (length (packets_at net n (beginnings steps))) b next in
      let own = length-filter (λ (p : Begun). nat_eq (net.flow p.flow).from n) (packets_of load) in
      let part = count_by-le-length (λ (p : Begun). nat_eq (net.flow p.flow).from n) (packets_of load) in
      let all = length-packets load in
      omega arith

  fewer_by : (step : Step) (n before : ℕ) → beginner_of (network_of d) step ≡ Some n → BeginsNext (network_of d) (packets_of load) steps step → slice_get begun n ≡ Some before → before < packet_count load
  fewer_by (Begin f cargo end) n before h next at =
      let same : ((network_of d).flow f).from ≡ n = cc in
      fewer ((network_of d).flow f).from before (record { flow = f; cargo = cargo; end = end }) (ap (slice_get begun) same ∙ at) next
  fewer_by (Fct c) n before h next at = absurd cc
  fewer_by (FctIn c) n before h next at = absurd cc
  fewer_by (Arrive c) n before h next at = absurd cc
  fewer_by (Grant e c) n before h next at = absurd cc
  fewer_by (Drop c) n before h next at = absurd cc
  fewer_by (Forward c) n before h next at = absurd cc
  fewer_by (Spill c) n before h next at = absurd cc
  fewer_by (Emit m) n before h next at = absurd cc
  fewer_by (Accept m) n before h next at = absurd cc
  fewer_by (Reply m) n before h next at = absurd cc

  pub few_begun : (step : Step) (who : Option ℕ) (nodes most : ℕ) → length begun ≡ nodes → packet_count load ≤ most → who ≡ beginner_of (network_of d) step → IfSome who (λ n. n < nodes) → BeginsNext (network_of d) (packets_of load) steps step
      → IfSome who (λ n. slice_index begun n < most)
  few_begun step None nodes most all few is inside next = tt
  few_begun step (Some n) nodes most all few is inside next =
      let less = fewer_by step n (slice_index begun n) (sym is) next (slice_get-get_or begun n 0 (omega arith)) in
      omega arith

  pub counted_more : (step : Step) (who : Option ℕ) (nodes : ℕ) → length begun ≡ nodes → who ≡ beginner_of (network_of d) step → IfSome who (λ n. n < nodes) → IsCounted d (steps ++ step ∷ []) (counted_with begun who)
  counted_more step None nodes all is inside = none_counted d steps begun counted step (no_beginner (network_of d) step (sym is))
  counted_more step (Some n) nodes all is inside = some_counted d steps begun counted step n (slice_index begun n) (sym is) (slice_get-get_or begun n 0 (omega arith)) (omega arith)

pub length-counted : (begun : List ℕ) (who : Option ℕ) → length (counted_with begun who) ≡ length begun
length-counted begun None = refl
length-counted begun (Some n) = length-set begun n (slice_index begun n + 1)
