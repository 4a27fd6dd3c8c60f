-- What holds of every wiring without fault, told of what its channels start and end at.
use Rattle.std.specs.Prelude.{◌≡◌, ◌≢◌, ◌↔◌, ℕ, ◌*◌, ◌<◌, ◌≤◌, Bool, true, false, length, slice_get, Some, None}
use Rattle.sw_topo.specs.declared.place.PlaceEnd.{PlaceEnd}
use Rattle.sw_topo.specs.declared.place.PlaceEnd.TheVariants.{Node, Switch}
use Rattle.sw_topo.specs.declared.limits.TheConstants.{MAX_NODES, MAX_SWITCHES, MAX_LINKS}
use Rattle.sw_topo.specs.Wiring.{Wiring, out, out_of, partner}
use Rattle.sw_topo.specs.Checked.{IsWiring, IsSound, first_below, fault_of}

-- channel c starts at e
abbrev pub StartsAt : Wiring → ℕ → PlaceEnd → Type 0
StartsAt w c e = slice_get w.ends c ≡ Some e

-- channel c ends at e: there the other channel of its link starts
abbrev pub EndsAt : Wiring → ℕ → PlaceEnd → Type 0
EndsAt w c e = StartsAt w (partner c) e

-- c is the one number of which P holds
pub record IsOnly (P : ℕ → Type 0) (c : ℕ) : Type 0 where
  pub here : P c
  pub alone : (d : ℕ) → P d → d ≡ c

-- c is the one channel that starts at node n, and its partner the one that ends there
pub record IsLinkedBy (w : Wiring) (n c : ℕ) : Type 0 where
  pub first : out w.ends n ≡ Some c
  pub starts : IsOnly (λ d. StartsAt w d (Node n)) c
  pub ends : IsOnly (λ d. EndsAt w d (Node n)) (partner c)

-- each node has one link: one channel starts there, and one ends there
abbrev pub NodesHaveOneLink : Type 0
NodesHaveOneLink = (w : Wiring) → IsSound w → (n : ℕ) → n < w.nodes → (c : ℕ) × IsLinkedBy w n c

-- at most one channel starts at a port, and `out_of` names it
abbrev pub PortsHaveOneLink : Type 0
PortsHaveOneLink = (w : Wiring) → IsSound w → (s p c : ℕ) → (out_of w.ends s p ≡ Some c) ↔ IsOnly (λ d. StartsAt w d (Switch s p)) c

-- at some port, 0 to 31, of each switch a channel starts
abbrev pub SwitchesAreLinked : Type 0
SwitchesAreLinked = (w : Wiring) → IsSound w → (s : ℕ) → s < w.switches → (p c : ℕ) × (p < 32) × StartsAt w c (Switch s p)

-- the two channels of a link are two, and each is the other's partner
pub record IsPaired (w : Wiring) (c : ℕ) : Type 0 where
  pub within : partner c < length w.ends
  pub other : partner c ≢ c
  pub back : partner (partner c) ≡ c

abbrev pub ChannelsArePaired : Type 0
ChannelsArePaired = (w : Wiring) → IsSound w → (c : ℕ) → c < length w.ends → IsPaired w c

-- k is the least number below n that passes
pub record IsLeast (test : ℕ → Bool) (n k : ℕ) : Type 0 where
  pub within : k < n
  pub passes : test k ≡ true
  pub least : (j : ℕ) → j < k → test j ≡ false

-- the first number below n that passes is the least
abbrev pub FirstIsLeast : Type 0
FirstIsLeast = (test : ℕ → Bool) (n k : ℕ) → (first_below test n ≡ Some k) ↔ IsLeast test n k

-- What a wiring keeps, in terms of its channels: it is within the limits, at most one channel starts at a port, one at each node,
-- and some at each switch.
pub record IsFaultless (w : Wiring) : Type 0 where
  pub few_nodes : w.nodes ≤ MAX_NODES
  pub few_switches : w.switches ≤ MAX_SWITCHES
  pub few_links : length w.ends ≤ 2 * MAX_LINKS
  pub ports : (s p c d : ℕ) → StartsAt w c (Switch s p) → StartsAt w d (Switch s p) → c ≡ d
  pub nodes_linked : (n : ℕ) → n < w.nodes → (c : ℕ) × IsOnly (λ d. StartsAt w d (Node n)) c
  pub switches_linked : (s : ℕ) → s < w.switches → (p c : ℕ) × StartsAt w c (Switch s p)

-- there is no fault exactly where the wiring keeps this
abbrev pub NoFaultMeansFaultless : Type 0
NoFaultMeansFaultless = (w : Wiring) → IsWiring w.nodes w.switches w.ends → (fault_of w ≡ None) ↔ IsFaultless w
