-- Notes on logical addresses, in words of packets and of nodes (ECSS-E-ST-50-52C, the fields of a command and of a reply).
use Rattle.std.specs.Prelude.{◌≡◌, ◌≢◌, ◌⊎◌, ◌↔◌, ℕ, ◌-◌, ◌≤◌, ◌<◌, IsSome, Some, length, slice_get}
use Rattle.sw_config.specs.Entries.{Declaration, FlowEntry, ReplyEntry, target_of}
use Rattle.sw_rmap.specs.declared.config.TargetConfig.{TargetConfig}
use Rattle.sw_linter.specs.Lints.{two_initiators, wrong_initiator, wrong_target}
use Rattle.sw_linter.specs.declared.lint.Lint.TheVariants.{WrongInitiator, WrongTarget}

-- packets of the flow come to their node with address bytes left, of which this is the first
pub record ComesWith (f : FlowEntry) (address : ℕ) : Type 0 where
  pub some : 1 ≤ f.left
  pub first : slice_get f.address (length f.address - f.left) ≡ Some address

-- they come to a target with this address, which is not its logical address
pub record ComesToAnother (d : Declaration) (f : FlowEntry) (address logical : ℕ) : Type 0 where
  pub comes : ComesWith f address
  pub target : TargetConfig
  pub there : target_of d.nodes f.to ≡ Some target
  pub own : target.logical ≡ logical
  pub another : address ≢ logical

-- some flow comes to node n with this address
pub record IsSentTo (d : Declaration) (n address : ℕ) : Type 0 where
  pub number : ℕ
  pub flow : FlowEntry
  pub numbered : slice_get d.flows number ≡ Some flow
  pub to : flow.to ≡ n
  pub comes : ComesWith flow address

-- node n is a target with this logical address
pub record IsTargetWith (d : Declaration) (n address : ℕ) : Type 0 where
  pub target : TargetConfig
  pub there : target_of d.nodes n ≡ Some target
  pub logical : target.logical ≡ address

-- node n is known to have this logical address
abbrev pub IsKnownAt : Declaration → ℕ → ℕ → Type 0
IsKnownAt d n address = IsTargetWith d n address ⊎ IsSentTo d n address

-- Replies of the flow go to this address: not to 254, which stands for no address, and to none of those that its node is known to have,
-- although there are some.
pub record AnswersAnother (d : Declaration) (f : FlowEntry) (address : ℕ) : Type 0 where
  pub reply : ReplyEntry
  pub replied : f.reply ≡ Some reply
  pub initiator : reply.initiator ≡ address
  pub stands : address ≢ 254
  pub own : ℕ
  pub known : IsKnownAt d f.from own
  pub another : IsKnownAt d f.from address → ⊥

-- the flow of number j goes from the same node to the same node as flow f, and the replies of the two go to two addresses
pub record DifferInReplies (d : Declaration) (f : FlowEntry) (j : ℕ) : Type 0 where
  pub other : FlowEntry
  pub numbered : slice_get d.flows j ≡ Some other
  pub from : other.from ≡ f.from
  pub to : other.to ≡ f.to
  pub reply : ReplyEntry
  pub replied : f.reply ≡ Some reply
  pub replies : ReplyEntry
  pub has : other.reply ≡ Some replies
  pub apart : replies.initiator ≢ reply.initiator

-- what is told of the addresses of the flow of that number
pub record AddressesInWords (d : Declaration) (i : ℕ) (f : FlowEntry) : Type 0 where
  -- its packets come to a target with another address than the target's
  pub targets : (address logical : ℕ) → (wrong_target d i f ≡ Some (WrongTarget i address logical)) ↔ ComesToAnother d f address logical
  -- its replies go to an address that its node isn't known to have
  pub initiators : (address : ℕ) → (wrong_initiator d i f ≡ Some (WrongInitiator i address)) ↔ AnswersAnother d f address
  -- an earlier flow between the same nodes has replies to another address
  pub pairs : IsSome (two_initiators d i f) ↔ ((j : ℕ) × (j < i) × DifferInReplies d f j)

abbrev pub AddressesAreToldInWords : Type 0
AddressesAreToldInWords = (d : Declaration) (i : ℕ) (f : FlowEntry) → AddressesInWords d i f
