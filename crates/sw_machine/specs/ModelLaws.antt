-- What holds of the machine's network of a network that a file declares.
use Rattle.std.specs.Prelude.{◌≡◌, ◌↔◌, ℕ, ◌<◌, ◌≤◌, List, length, slice_get, Contains, Some, None, true}
use Rattle.sw_rmap.specs.declared.config.TargetConfig.{TargetConfig}
use Rattle.sw_flow.specs.Looks.{NamesOutput}
use Rattle.sw_flow.specs.Entries.{FlowEntry, Declaration, all_flows, look_at, target_of}
use Rattle.sw_flow.specs.Limits.{always_takes}
use Rattle.sw_flow.specs.Limits as declared_limits
use Rattle.sw_flow.specs.Valid.{IsValid}
use Rattle.sw_flow.specs.Places as declared
use Rattle.sw_flow.specs.Faults as declared_faults
use Rattle.sw_machine.specs.Certificate.{Certificate, IsAccepted}
use Rattle.sw_machine.specs.DeadlockFreedom.{IsFree}
use Rattle.sw_machine.specs.Network.{AnswersFit, IsDeclared, IsNetwork, Protocol}
use Rattle.sw_machine.specs.Limits.{HasNoLimits}
use Rattle.sw_machine.specs.Places as machine
use Rattle.sw_machine.specs.Runs.{IsReached}
use Rattle.sw_machine.specs.State.{State}
use Rattle.sw_machine.specs.Model.{network_by, network_of}
use Rattle.sw_machine.specs.DeclaredPackets.{IsDeclaredPacket, is_declared_packet}

-- each valid network is one of the machine's
abbrev pub DeclaredNetworksAreNetworks : Type 0
DeclaredNetworksAreNetworks = (d : Declaration) → IsValid d → IsNetwork (network_of d)

-- so it is whatever protocol its nodes speak, as long as what they answer fits
abbrev pub NetworksByProtocolsAreNetworks : Type 0
NetworksByProtocolsAreNetworks = (protocol : Protocol) (d : Declaration) → IsValid d → AnswersFit (network_by protocol d) → IsNetwork (network_by protocol d)

-- and what a certificate that is accepted for it shows, it shows whatever that protocol is
abbrev pub AcceptedIsFreeByAnyProtocol : Type 0
AcceptedIsFreeByAnyProtocol = (protocol : Protocol) (d : Declaration) (cert : Certificate) → IsValid d → IsAccepted (network_of d) cert → AnswersFit (network_by protocol d) → IsFree (network_by protocol d) cert

-- flow i of all flows is f
abbrev pub IsFlowAt : Declaration → ℕ → FlowEntry → Type 0
IsFlowAt d i f = slice_get (all_flows d) i ≡ Some f

-- what holds of each flow, by its entry and in the machine
pub record FlowAgrees (d : Declaration) (i : ℕ) (f : FlowEntry) : Type 0 where
  pub step : (c k e m : ℕ) → machine.Follows (network_of d) i c k e m ↔ declared.Follows d f c k e m
  pub place : (c k : ℕ) → machine.IsPlace (network_of d) i c k ↔ declared.IsPlace d f c k
  -- on each channel, with at most all address bytes deleted, as at each place
  pub fault : (c k : ℕ) → c < length (declared.ends_of d) → k ≤ length f.address → (machine.NoFault (network_of d) i c k ↔ declared_faults.fault_of d f c k ≡ None)
  pub well_routed : machine.IsWellRouted (network_of d) i ↔ declared_faults.IsWellRouted d f

-- each flow of a valid network, declared or of replies, has the same steps, places and faults in the machine as by its entry
abbrev pub StepsOfFlowsAgree : Type 0
StepsOfFlowsAgree = (d : Declaration) → IsValid d → (i : ℕ) (f : FlowEntry) → IsFlowAt d i f → FlowAgrees d i f

-- at a switch a byte, and so one of a misrouted packet's cargo too, names in the machine the channels that the switch's routes
-- name, and is deleted where they say so
pub record LookAgrees (d : Declaration) (s byte : ℕ) : Type 0 where
  pub named : (c : ℕ) → Contains ((network_of d).look s byte) c ↔ NamesOutput (declared.ends_of d) s (look_at d.switches s byte) c
  pub deleted : (network_of d).deletes s byte ≡ (look_at d.switches s byte).delete

-- each byte at each switch
abbrev pub LooksAgree : Type 0
LooksAgree = (d : Declaration) (s byte : ℕ) → LookAgrees d s byte

-- a node always takes what comes by its declaration exactly where it does in the machine
abbrev pub AlwaysTakesAgrees : Type 0
AlwaysTakesAgrees = (d : Declaration) (n : ℕ) → (always_takes d n ≡ true) ↔ machine.AlwaysTakes (network_of d) n

-- where no node and no flow of a valid network has a limit, no node has one in the machine, so each run keeps the limits
abbrev pub WithoutOutstandingNoLimits : Type 0
WithoutOutstandingNoLimits = (d : Declaration) → IsValid d → declared_limits.HasNoLimits d → HasNoLimits (network_of d)

-- in each reached state a target's memory has as many bytes as its window
abbrev pub MemoriesKeepTheirLength : Type 0
MemoriesKeepTheirLength = (d : Declaration) (s : State) → IsReached (network_of d) s → (n : ℕ) (t : TargetConfig) → target_of d.nodes n ≡ Some t → length (s.memory n) ≡ t.size

-- the test passes for the declared packets alone
abbrev pub DeclaredPacketsPass : Type 0
DeclaredPacketsPass = (d : Declaration) (flow : ℕ) (cargo : List ℕ) → (is_declared_packet d flow cargo ≡ true) ↔ IsDeclaredPacket d flow cargo

-- the packets that a flow declares by its entry are those that it declares in the machine
abbrev pub DeclaredPacketsAgree : Type 0
DeclaredPacketsAgree = (d : Declaration) (flow : ℕ) (cargo : List ℕ) → IsDeclaredPacket d flow cargo ↔ IsDeclared (network_of d) flow cargo
