-- A network in which a flow is answered, and replies that go back over the links of its way.
use Rattle.std.specs.Prelude.{◌≡◌, ◌==◌, ◌∷◌, ℕ, List, [], None, Some, if◌then◌else◌, map}
use Rattle.sw_topo.specs.Wiring.{partner}
use Rattle.sw_config.specs.Entries.{FlowEntry, ReplyEntry, Declaration, reply_flow}
use Rattle.sw_config.specs.Limits.{outstanding_of}
use Rattle.sw_flow.specs.Places.{Follows, IsPlace}
use Rattle.sw_mend.specs.Changes.{by_number}
use Rattle.sw_margin.specs.Bends.{way_of}
use Rattle.sw_margin.specs.Ways.{ComesNext}

-- the flow of that number, which is answered so if it is the one
abbrev pub flow_with_reply : ℕ → ReplyEntry → ℕ → FlowEntry → List FlowEntry
flow_with_reply flow r number f = (if number == flow then record f { reply = Some r } else f) ∷ []

-- the network in which the declared flow of that number is answered so; all else stays
abbrev pub with_reply : Declaration → ℕ → ReplyEntry → Declaration
with_reply d flow r = record d { flows = by_number (flow_with_reply flow r) 0 d.flows }

-- from a place on channel c the flow goes on to one on channel e
pub record GoesOnTo (d : Declaration) (f : FlowEntry) (c e : ℕ) : Type 0 where
  pub before : ℕ
  pub after : ℕ
  pub place : IsPlace d f c before
  pub step : Follows d f c before e after

-- The replies go back over the links of the flow: where they go on from channel c to channel e, it goes on from the other channel of e's
-- link to that of c's.
abbrev pub GoesBack : Declaration → FlowEntry → ReplyEntry → Type 0
GoesBack d f r = (c e : ℕ) → GoesOnTo d (reply_flow f r) c e → GoesOnTo d f (partner e) (partner c)

-- they go back over the links of its first way: there these two come one after the other
abbrev pub GoesBackOverFirst : Declaration → FlowEntry → ReplyEntry → Type 0
GoesBackOverFirst d f r = (c e : ℕ) → GoesOnTo d (reply_flow f r) c e → ComesNext (map (λ p. p.channel) (way_of d f)) (partner e) (partner c)

-- any number of the commands may be unanswered: neither the flow has a limit nor the node that sends them
pub record IsUnlimited (d : Declaration) (f : FlowEntry) (r : ReplyEntry) : Type 0 where
  pub flow : r.outstanding ≡ None
  pub node : outstanding_of d.nodes f.from ≡ None
