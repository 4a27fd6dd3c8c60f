-- The target between two channels of which the one depends on the other, where no flow goes on.
use Rattle.std.proofs.Common.{◌≡◌, ℕ, ◌+◌, ◌<◌, All, List, get_or, length, Option, Some, None, refl, sym, ap, ◌∙◌, subst}
use Rattle.std.specs.Prelude.{slice_get, IsSome}
use Rattle.std.specs.Option.{option_map}
use Rattle.sw_topo.specs.declared.place.PlaceEnd.TheVariants.{Node}
use Rattle.sw_topo.specs.Wiring.{out, partner}
use Rattle.sw_topo.proofs.Ends.{node_only, partner_back}
use Rattle.sw_config.specs.Entries.{FlowEntry, ReplyEntry, Declaration, wiring_of, all_flows}
use Rattle.sw_config.specs.Valid.{IsFlow, IsValid}
use Rattle.sw_config.proofs.AnsweringNodes.{answers}
use Rattle.sw_config.proofs.Flows.{All-at}
use Rattle.sw_config.proofs.FlowLaws.{valid_flows}
use Rattle.sw_flow.specs.Places.{ends_of, end_of}
use Rattle.sw_flow.proofs.Stepping.{places_are_in}
use Rattle.sw_machine.specs.Network.{Network}
use Rattle.sw_machine.specs.Places.{AlwaysTakes, IsDependency, IsPlace, Follows}
use Rattle.sw_machine.specs.Places.IsDependency.{ByFlow, ByTarget}
use Rattle.sw_machine.specs.Model.{network_of, reply_number}
use Rattle.sw_machine.proofs.AlwaysTaking.{may_wait_unless}
use Rattle.sw_machine.proofs.Flows.{some_at}
use Rattle.sw_machine.proofs.Steps.{steps_agree}
use Rattle.sw_machine.proofs.Topology.{partner_within}
use Rattle.sw_cycle.specs.Cycles.{IsTargetCause, round}
use Rattle.sw_cycle.specs.Causes.{IsRound, NoneGoesOn}
use Rattle.sw_cycle.proofs.Chosen.{here}
use Rattle.std.proofs.lemmas.List.{get_or_default}
use Rattle.std.proofs.lemmas.Option.{slice_get_within}

-- a dependency, taken apart
pub data IsBy (net : Network) (c e : ℕ) : Type 0 where
  flow : (i k m : ℕ) → i < net.flows → IsPlace net i c k → Follows net i c k e m → IsBy net c e
  target : (i j : ℕ) → i < net.flows → (net.flow i).reply ≡ Some j → (AlwaysTakes net (net.flow i).to → ⊥) → net.into (net.flow i).to ≡ c → net.out (net.flow i).to ≡ e → IsBy net c e

apart : (net : Network) (c e : ℕ) → IsDependency net c e → IsBy net c e
apart net c e (ByFlow i b k x m lt p f) = flow i k m lt p f
apart net c e (ByTarget i j lt reply waits) = target i j lt reply waits refl refl

pub has_reply : (n j : ℕ) (o : Option ReplyEntry) → option_map (λ r. n) o ≡ Some j → IsSome o
has_reply n j None h = absurd cc
has_reply n j (Some r) h = refl

-- a target between the channels
pub record IsBetween (d : Declaration) (c e : ℕ) : Type 0 where
  pub node : ℕ
  pub cause : IsTargetCause d node c e
  pub ends : end_of d c ≡ Some (Node node)
  pub within : c < length (ends_of d)

module _ (d : Declaration) (valid : IsValid d) where
  flow_goes : (c e i k m : ℕ) → i < (network_of d).flows → IsPlace (network_of d) i c k → Follows (network_of d) i c k e m → NoneGoesOn d c e → ⊥
  unfolding network_of
  flow_goes c e i k m lt p f none =
      let here = some_at (all_flows d) i lt in
      let same = steps_agree d valid i here.0 here.1 in
      none i (
        record { channel = c; deleted = k },
        record { channel = e; deleted = m },
        record { flow = here.0; numbered = here.1; place = (same.place c k).0 p; goes = (same.step c k e m).0 f; from = refl; to = refl },
      )

  target_is : (c e i j : ℕ) → i < (network_of d).flows → ((network_of d).flow i).reply ≡ Some j → (AlwaysTakes (network_of d) ((network_of d).flow i).to → ⊥) → (network_of d).into ((network_of d).flow i).to ≡ c → (network_of d).out ((network_of d).flow i).to ≡ e → IsBetween d c e
  unfolding network_of
  target_is c e i j lt reply never into leaves =
      let here = some_at (all_flows d) i lt in
      let f : FlowEntry = here.0 in
      let to : ((network_of d).flow i).to ≡ f.to = rw here.1 refl in
      let is = All-at (IsFlow d.nodes) (all_flows d) i f here.1 (valid_flows d valid).0 in
      let only = node_only (wiring_of d) valid.sound f.to is.to in
      let x : ℕ = only.0 in
      let first : out (ends_of d) f.to ≡ Some x = only.1.first in
      let starts : slice_get (ends_of d) x ≡ Some (Node f.to) = only.1.starts.here in
      let enters : partner x ≡ c = rw (here.1, first) at into in
      let goes : x ≡ e = rw (here.1, first) at leaves in
      let replied : IsSome f.reply = has_reply (reply_number d i) j f.reply (rw here.1 at reply) in
      let takes_not : AlwaysTakes (network_of d) f.to → ⊥ = subst (λ (n : ℕ). AlwaysTakes (network_of d) n → ⊥) to never in
      let before : slice_get (ends_of d) (partner (partner x)) ≡ Some (Node f.to) = ap (slice_get (ends_of d)) (partner_back x) ∙ starts in
      let low : partner x < length (ends_of d) = partner_within (wiring_of d) valid.sound x (slice_get_within (ends_of d) x (Node f.to) starts) in
      record {
        node = f.to;
        cause = record { waits = may_wait_unless d f.to (answers d f.to i f here.1 replied refl) takes_not; leaves = first ∙ ap Some goes; enters = sym enters ∙ ap partner goes };
        ends = subst (λ (y : ℕ). slice_get (ends_of d) (partner y) ≡ Some (Node f.to)) enters before;
        within = subst (λ (y : ℕ). y < length (ends_of d)) enters low;
      }

  by_parts : (c e : ℕ) → IsBy (network_of d) c e → NoneGoesOn d c e → IsBetween d c e
  by_parts c e (flow i k m lt p f) none = absurd (flow_goes c e i k m lt p f none)
  by_parts c e (target i j lt reply never into leaves) none = target_is c e i j lt reply never into leaves

  pub between : (c e : ℕ) → IsDependency (network_of d) c e → NoneGoesOn d c e → IsBetween d c e
  between c e h none = by_parts c e (apart (network_of d) c e h) none

  channel_within : (c e i k : ℕ) → i < (network_of d).flows → IsPlace (network_of d) i c k → c < length (ends_of d)
  unfolding network_of
  channel_within c e i k lt p =
      let here = some_at (all_flows d) i lt in
      let same = steps_agree d valid i here.0 here.1 in
      (places_are_in d here.0 c k ((same.place c k).0 p)).0

  within_by_parts : (c e : ℕ) → IsBy (network_of d) c e → c < length (ends_of d)
  within_by_parts c e (flow i k m lt p f) = channel_within c e i k lt p
  within_by_parts c e (target i j lt reply never into leaves) = (target_is c e i j lt reply never into leaves).within

  pub depends_within : (c e : ℕ) → IsDependency (network_of d) c e → c < length (ends_of d)
  depends_within c e h = within_by_parts c e (apart (network_of d) c e h)

-- what stands at the end of a channel
pub same_node : (n k : ℕ) → Some (Node n) ≡ Some (Node k) → n ≡ k
same_node n k is = cc

-- the channels of a round are the network's
pub round_within : (d : Declaration) → IsValid d → (channels : List ℕ) → IsRound d channels → All (λ c. c < length (ends_of d)) channels
round_within d valid channels round_is i c lt =
    let here_is : round channels i ≡ get_or channels i c = here channels i (get_or channels i c) lt (get_or_default channels i c (get_or channels i c) lt) in
    subst (λ (x : ℕ). x < length (ends_of d)) here_is (depends_within d valid (round channels i) (round channels (i + 1)) (round_is i lt))
