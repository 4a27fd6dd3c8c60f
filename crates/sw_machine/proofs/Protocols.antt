-- A certificate is accepted for a network whatever protocol its nodes speak.
use Rattle.std.proofs.Common.{ℕ}
use Rattle.sw_flow.specs.Entries.{Declaration}
use Rattle.sw_machine.specs.Certificate.{Certificate, IsAccepted}
use Rattle.sw_machine.specs.Model.{network_by, network_of}
use Rattle.sw_machine.specs.Network.{Protocol}
use Rattle.sw_machine.specs.ModelLaws.{AcceptedIsFreeByAnyProtocol}
use Rattle.sw_machine.specs.Places.{AlwaysTakes, Follows, NoFault}
use Rattle.sw_machine.proofs.DeclaredNetworks.{are_networks_by}
use Rattle.sw_machine.proofs.Free.{is_free}

module _ (one other : Protocol) (d : Declaration) where
  follows : (i c k e m : ℕ) → Follows (network_by other d) i c k e m → Follows (network_by one d) i c k e m
  follows i c k e m f = record { switch = f.switch; at = f.at; within = f.within; named = f.named; deleted = f.deleted }

  no_fault : (i c k : ℕ) → NoFault (network_by one d) i c k → NoFault (network_by other d) i c k
  no_fault i c k none = record {
    address = λ f. none.address (record { switch = f.switch; at = f.at; ends = f.ends });
    route = λ f. none.route (record { switch = f.switch; at = f.at; within = f.within; unnamed = f.unnamed });
    node = λ f. none.node (record { node = f.node; at = f.at; other = f.other });
    left = λ f. none.left (record { at = f.at; other = f.other });
  }

  takes : (n : ℕ) → AlwaysTakes (network_by one d) n → AlwaysTakes (network_by other d) n
  takes n t = record { limit = t.limit; is = t.is; few = t.few }

  accepted : (cert : Certificate) → IsAccepted (network_by one d) cert → IsAccepted (network_by other d) cert
  accepted cert is = record {
    channels = is.channels;
    flows = is.flows;
    in_range = is.in_range;
    starts = is.starts;
    faultless = λ i c k lt h. no_fault i c k (is.faultless i c k lt h);
    closed = λ i c k e m lt h step. is.closed i c k e m lt h (follows i c k e m step);
    rising = λ i c k e m lt h step. is.rising i c k e m lt h (follows i c k e m step);
    targets = λ i j lt has waits. is.targets i j lt has (λ t. waits (takes (_) t));
  }

pub free_by_any_protocol : AcceptedIsFreeByAnyProtocol
unfolding network_of
free_by_any_protocol protocol d cert valid is answers =
    is_free (network_by protocol d) cert (are_networks_by protocol d valid answers) (accepted _ protocol d cert is)
