-- The first fault of a wiring, told of what its channels start at. Link i has the ends 2i and 2i + 1, and channel c starts at the
-- end c. The order of the faults is this project's choice.
use Rattle.std.specs.Prelude.{◌≡◌, ◌↔◌, ◌⊎◌, ℕ, ◌+◌, ◌*◌, ◌<◌, ◌≤◌, length, Some}
use Rattle.sw_topo.specs.declared.fault.Limit.{Limit}
use Rattle.sw_topo.specs.declared.fault.Limit.TheVariants.{Nodes, Switches, Links}
use Rattle.sw_topo.specs.declared.fault.TopoFault.{TopoFault}
use Rattle.sw_topo.specs.declared.fault.TopoFault.TheVariants.{TooMany, PortTaken, NodeLinks, PortUnlinked}
use Rattle.sw_topo.specs.declared.limits.TheConstants.{MAX_NODES, MAX_SWITCHES, MAX_LINKS}
use Rattle.sw_topo.specs.declared.place.PlaceEnd.TheVariants.{Node, Switch}
use Rattle.sw_topo.specs.Wiring.{Wiring}
use Rattle.sw_topo.specs.Checked.{IsWiring, fault_of}
use Rattle.sw_topo.specs.Laws.{StartsAt, IsOnly}

-- there are not too many nodes, switches or links
pub record KeepsLimits (w : Wiring) : Type 0 where
  pub nodes : w.nodes ≤ MAX_NODES
  pub switches : w.switches ≤ MAX_SWITCHES
  pub links : length w.ends ≤ 2 * MAX_LINKS

-- the limit is passed, and none before it: that of nodes, of switches, of links
abbrev pub IsFirstPassed : Wiring → Limit → Type 0
IsFirstPassed w Nodes = MAX_NODES < w.nodes
IsFirstPassed w Switches = (w.nodes ≤ MAX_NODES) × (MAX_SWITCHES < w.switches)
IsFirstPassed w Links = (w.nodes ≤ MAX_NODES) × (w.switches ≤ MAX_SWITCHES) × (2 * MAX_LINKS < length w.ends)

-- channel c starts at a port at which an earlier channel starts
pub record StartsWhereOneDoes (w : Wiring) (c : ℕ) : Type 0 where
  pub switch : ℕ
  pub port : ℕ
  pub starts : StartsAt w c (Switch switch port)
  pub earlier : ℕ
  pub before : earlier < c
  pub taken : StartsAt w earlier (Switch switch port)

-- one of the link's two channels does
abbrev pub TakesPort : Wiring → ℕ → Type 0
TakesPort w link = StartsWhereOneDoes w (2 * link) ⊎ StartsWhereOneDoes w (2 * link + 1)

-- exactly one channel starts at the node
abbrev pub HasOneLink : Wiring → ℕ → Type 0
HasOneLink w node = (c : ℕ) × IsOnly (λ d. StartsAt w d (Node node)) c

-- some channel starts at a port of the switch
abbrev pub HasLink : Wiring → ℕ → Type 0
HasLink w switch = (port c : ℕ) × StartsAt w c (Switch switch port)

-- the link takes a port that was taken, and none before it does
pub record IsFirstTaking (w : Wiring) (link : ℕ) : Type 0 where
  pub limits : KeepsLimits w
  pub takes : TakesPort w link
  pub first : (before : ℕ) → before < link → ¬ TakesPort w before

-- the node has no link or several, and each before it has one
pub record IsFirstIllLinked (w : Wiring) (node : ℕ) : Type 0 where
  pub limits : KeepsLimits w
  pub ports : (link : ℕ) → ¬ TakesPort w link
  pub in_network : node < w.nodes
  pub ill_linked : ¬ HasOneLink w node
  pub first : (before : ℕ) → before < node → HasOneLink w before

-- the switch has no link, and each before it has one
pub record IsFirstUnlinked (w : Wiring) (switch : ℕ) : Type 0 where
  pub limits : KeepsLimits w
  pub ports : (link : ℕ) → ¬ TakesPort w link
  pub nodes : (node : ℕ) → node < w.nodes → HasOneLink w node
  pub in_network : switch < w.switches
  pub unlinked : ¬ HasLink w switch
  pub first : (before : ℕ) → before < switch → HasLink w before

-- the wiring has this fault, and none that is told before it: a limit, a port, a node, a switch
abbrev pub IsFirstFault : Wiring → TopoFault → Type 0
IsFirstFault w (TooMany limit) = IsFirstPassed w limit
IsFirstFault w (PortTaken link) = IsFirstTaking w link
IsFirstFault w (NodeLinks node) = IsFirstIllLinked w node
IsFirstFault w (PortUnlinked switch) = IsFirstUnlinked w switch

-- the fault that is told is the first
abbrev pub FaultsInWords : Type 0
FaultsInWords = (w : Wiring) → IsWiring w.nodes w.switches w.ends → (f : TopoFault) → (fault_of w ≡ Some f) ↔ IsFirstFault w f
