-- What is taken away, kind by kind, and each by the numbers of what it is taken from.
use Rattle.std.specs.Prelude.{ℕ, List, length}
use Rattle.sw_config.specs.Entries.{Declaration}
use Rattle.sw_mend.specs.Changes.{answers_away, by_number, entries_away, flow_away, flows_away, group_ports_away, made_at, replies_away, reply_away}
use Rattle.sw_mend.specs.declared.change.Change.{Change}
use Rattle.sw_mend.specs.declared.listing.Kind.{Kind}
use Rattle.sw_mend.specs.declared.listing.Kind.TheVariants.{Reply, Replies, Flow, Answers, Port, Entry, Unit}

-- how many flows, nodes or switches there are to take it from
abbrev pub count_of : Declaration → Kind → ℕ
count_of d Reply = length d.flows
count_of d Replies = length d.flows
count_of d Flow = length d.flows
count_of d Answers = length d.nodes
count_of d Port = length d.switches
count_of d Entry = length d.switches
count_of d Unit = length d.nodes

-- from the one of that number
abbrev pub away_at : Declaration → Kind → ℕ → List Change
away_at d Reply number = made_at reply_away d.flows number
away_at d Replies number = made_at (replies_away d.flows) d.flows number
away_at d Flow number = made_at flow_away d.flows number
away_at d Answers number = made_at answers_away d.nodes number
away_at d Port number = made_at group_ports_away d.switches number
away_at d Entry number = made_at entries_away d.switches number
away_at d Unit number = made_at flows_away d.nodes number

-- from all of them
abbrev pub kind_away : Declaration → Kind → List Change
kind_away d Reply = by_number reply_away 0 d.flows
kind_away d Replies = by_number (replies_away d.flows) 0 d.flows
kind_away d Flow = by_number flow_away 0 d.flows
kind_away d Answers = by_number answers_away 0 d.nodes
kind_away d Port = by_number group_ports_away 0 d.switches
kind_away d Entry = by_number entries_away 0 d.switches
kind_away d Unit = by_number flows_away 0 d.nodes
