-- What holds of outcomes where a certificate is accepted for the network.
use Rattle.std.specs.Prelude.{All, Bool, List, Some, count_by, length, map, slice_get, ℕ, ◌++◌, ◌<◌, ◌≡◌, ◌≤◌}
use Rattle.sw_load.specs.History.{packets_of}
use Rattle.sw_load.specs.Limit.{enough_limit}
use Rattle.sw_load.specs.Load.{LoadEntry}
use Rattle.sw_machine.specs.Begun.{AsOften, Begun, is_answered_at, is_reply_at, sent_to}
use Rattle.sw_machine.specs.Certificate.{Certificate, IsAccepted}
use Rattle.sw_machine.specs.Limits.{HasNoLimits}
use Rattle.sw_machine.specs.Network.{Network}
use Rattle.sw_machine.specs.Packets.{Packet}
use Rattle.sw_machine.specs.Model.{network_of}
use Rattle.sw_config.specs.Entries.{Declaration}
use Rattle.sw_config.specs.Valid.{IsValid}
use Rattle.sw_run.specs.Outcomes.{IsOutcome, came_out_of}
use Rattle.sw_run.specs.declared.outcome.Outcome.{Outcome}
use Rattle.sw_run.specs.declared.outcome.Stop.TheVariants.{Drained, JournalFull, Stuck, Waiting}

-- what holds of each outcome of each load over a valid network for which a certificate is accepted
abbrev pub OfAcceptedOutcomes : (Declaration → List LoadEntry → ℕ → Outcome → Type 0) → Type 0
OfAcceptedOutcomes P = (d : Declaration) (cert : Certificate) → IsValid d → IsAccepted (network_of d) cert → (load : List LoadEntry) (limit : ℕ) (o : Outcome) → IsOutcome d load limit o → P d load limit o

abbrev pub IsNotStuck : Declaration → List LoadEntry → ℕ → Outcome → Type 0
IsNotStuck d load limit o = o.stop ≡ Stuck → ⊥

-- and none waits for ever
abbrev pub IsNotWaiting : Declaration → List LoadEntry → ℕ → Outcome → Type 0
IsNotWaiting d load limit o = o.stop ≡ Waiting → ⊥

-- without limits on unanswered commands none does, whatever the network
abbrev pub WithoutLimitsNoneWaits : Type 0
WithoutLimitsNoneWaits = (d : Declaration) (load : List LoadEntry) (limit : ℕ) (o : Outcome) → HasNoLimits (network_of d) → IsOutcome d load limit o → IsNotWaiting d load limit o

-- the flow is one of those of replies
pub record IsOfReplies (net : Network) (flow : ℕ) : Type 0 where
  pub in_flows : flow < net.flows
  pub after_declared : net.declared_flows ≤ flow

-- At each node came out, exactly as often, the left forms of these packets and of the replies to them that go there; and each node replied
-- exactly once, to the address asked for, to each of these packets that it has to answer.
pub record IsDelivered (net : Network) (packets : List Begun) (came_out : List (List Packet)) : Type 0 where
  pub replies : List Begun
  pub of_reply_flows : All (λ b. IsOfReplies net b.flow) replies
  pub out : (n : ℕ) (ps : List Packet) → n < net.nodes → slice_get came_out n ≡ Some ps → AsOften ps (sent_to net n (packets ++ replies))
  pub answered : (n : ℕ) → n < net.nodes → (test : List ℕ → Bool) → count_by (is_reply_at net n test) replies ≡ count_by (is_answered_at net n test) packets

abbrev pub IsDeliveredWhereDrained : Declaration → List LoadEntry → ℕ → Outcome → Type 0
IsDeliveredWhereDrained d load limit o = o.stop ≡ Drained → IsDelivered (network_of d) (packets_of load) (came_out_of o)

-- Any other outcome of the load that is drained too has as many packets at each node, whatever the number of workers, their order and the
-- limit.
abbrev pub HasOneCount : Declaration → List LoadEntry → ℕ → Outcome → Type 0
HasOneCount d load limit o = o.stop ≡ Drained → (other_limit : ℕ) (other : Outcome) → IsOutcome d load other_limit other → other.stop ≡ Drained → map length (came_out_of o) ≡ map length (came_out_of other)

-- with a limit that is enough for the load, the journal is not full
abbrev pub IsNotFull : Declaration → List LoadEntry → ℕ → Outcome → Type 0
IsNotFull d load limit o = enough_limit (network_of d) (packets_of load) ≤ limit → o.stop ≡ JournalFull → ⊥
