-- What is told of a network is determined, and what it says of a network that is free.
use Rattle.std.specs.Prelude.{◌≡◌, ◌↔◌, ℕ, ◌==◌, ◌<◌, ◌≤◌, true, Contains, IsTrue, List, None, Some, length, map, slice_get, Vec}
use Rattle.std.specs.declared.alloc.Global.{Global}
use Rattle.sw_config.specs.Entries.{FlowEntry, ReplyEntry, Declaration, all_flows}
use Rattle.sw_config.specs.Valid.{IsValid}
use Rattle.sw_flow.specs.declared.place.Place.{Place}
use Rattle.sw_flow.specs.Places.{IsPlace}
use Rattle.sw_machine.specs.Model.{network_of}
use Rattle.sw_machine.specs.Stalling.{IsNeverLockedUpUnder, StallingGuard}
use Rattle.sw_graph.specs.Levels.{HasCycle}
use Rattle.sw_search.specs.Laws.{RoutedAndFree}
use Rattle.sw_search.specs.Verdicts.{AllWellRouted, depends}
use Rattle.sw_margin.specs.declared.bend.Bend.{Bend}
use Rattle.sw_margin.specs.declared.bend.FlowLimit.{FlowLimit}
use Rattle.sw_margin.specs.Waits.{StaysFree}
use Rattle.sw_margin.specs.Bends.{AreAnswers, AreStalls, answering_at, goes_one_way, stall, waits_back, way_of}
use Rattle.sw_margin.specs.Ways.{GoesOneWay, IsFirstWay, IsWholeWay, WaitsOnTheWayBack}
use Rattle.sw_margin.specs.Answers.{GoesBack, GoesBackOverFirst, IsUnlimited, with_reply}
use Rattle.sw_margin.specs.FlowLimits.{AreFlowLimits, IsFreeWith, IsGreatest, own_limit}
use Rattle.sw_margin.specs.Losses.{AreLosses}

-- what is told of the nodes of a network is determined
abbrev pub StallsAreDetermined : Type 0
StallsAreDetermined = (d : Declaration) (told other : List Bend) → AreStalls d told → AreStalls d other → told ≡ other

-- what is told of the flows of a network is determined
abbrev pub AnswersAreDetermined : Type 0
AnswersAreDetermined = (d : Declaration) (told other : List Bend) → AreAnswers d told → AreAnswers d other → told ≡ other

-- what is told of limits on unanswered commands is determined
abbrev pub FlowLimitsAreDetermined : Type 0
FlowLimitsAreDetermined = (d : Declaration) (told other : List FlowLimit) → AreFlowLimits d told → AreFlowLimits d other → told ≡ other

-- a free network is free with each number of unanswered commands of the flow from its own limit on to the greatest
abbrev pub UpToTheGreatestFree : Type 0
UpToTheGreatestFree =
    (d : Declaration) (flow own most n : ℕ) → RoutedAndFree d → own_limit d flow ≡ Some own → IsGreatest d flow most → own ≤ n → n ≤ most → IsFreeWith d flow (Some n)

-- what is told of the links of a network is determined
abbrev pub LossesAreDetermined : Type 0
LossesAreDetermined =
    (d : Declaration) (told other : List (Vec ℕ Global)) → AreLosses d told → AreLosses d other → map (λ v. v.items) told ≡ map (λ v. v.items) other

-- whatever else waits, a network that stays free is free
abbrev pub FreeBefore : Type 0
FreeBefore = (d : Declaration) (more : List (ℕ × ℕ)) → StaysFree d more → HasCycle (depends d) → ⊥

-- of each flow of a free network the way is its first way, and a whole one
abbrev pub WaysAreWays : Type 0
WaysAreWays = (d : Declaration) (f : FlowEntry) → IsValid d → RoutedAndFree d → Contains (all_flows d) f → IsFirstWay d f (way_of d f) × IsWholeWay d f (way_of d f)

-- the way of a flow that goes one way has the places of the flow, and no others
abbrev pub WaysHaveAllPlaces : Type 0
WaysHaveAllPlaces =
    (d : Declaration) (f : FlowEntry) → IsValid d → RoutedAndFree d → Contains (all_flows d) f → GoesOneWay d f
    → (p : Place) → Contains (way_of d f) p ↔ IsPlace d f p.channel p.deleted

-- a flow of which the test says so goes one way
abbrev pub OneWayIsOneWay : Type 0
OneWayIsOneWay = (d : Declaration) (f : FlowEntry) → IsValid d → RoutedAndFree d → Contains (all_flows d) f → goes_one_way d f ≡ true → GoesOneWay d f

-- what waits where replies go back over the links of a way of these channels
abbrev pub WaitsGoBack : Type 0
WaitsGoBack = (channels : List ℕ) (x y : ℕ) → Contains (waits_back channels) (x, y) ↔ WaitsOnTheWayBack channels x y

-- Where a network stays free with the waits of a flow that is answered, it is free with each reply of that flow that goes back over the
-- links of the flow's first way.
abbrev pub AnsweredAlongItsFirstWayIsFree : Type 0
AnsweredAlongItsFirstWayIsFree =
    (d : Declaration) (flow : ℕ) (f : FlowEntry) (r : ReplyEntry) → IsValid d → slice_get d.flows flow ≡ Some f
    → IsValid (with_reply d flow r) → AllWellRouted (with_reply d flow r) → GoesBackOverFirst d f r → StaysFree d (answering_at d flow)
    → RoutedAndFree (with_reply d flow r)

-- so it is, where the flow goes one way, with each reply that goes back over the links of the flow
abbrev pub AnsweredAlongItsWayIsFree : Type 0
AnsweredAlongItsWayIsFree =
    (d : Declaration) (flow : ℕ) (f : FlowEntry) (r : ReplyEntry) → IsValid d → slice_get d.flows flow ≡ Some f → GoesOneWay d f
    → IsValid (with_reply d flow r) → AllWellRouted (with_reply d flow r) → GoesBack d f r → StaysFree d (answering_at d flow)
    → RoutedAndFree (with_reply d flow r)

-- with such a reply without a limit it is free exactly where it stays free with these waits
abbrev pub UnlimitedAnswersAreExact : Type 0
UnlimitedAnswersAreExact =
    (d : Declaration) (flow : ℕ) (f : FlowEntry) (r : ReplyEntry) → IsValid d → slice_get d.flows flow ≡ Some f → f.reply ≡ None
    → IsValid (with_reply d flow r) → AllWellRouted (with_reply d flow r) → GoesBackOverFirst d f r → IsUnlimited d f r
    → (StaysFree d (answering_at d flow) ↔ RoutedAndFree (with_reply d flow r))

-- A network that stays free where a node takes nothing while it wants to send never locks up in the machine in which that node takes a
-- character only while it has nothing to send.
abbrev pub StallsNeverLockUp : Type 0
StallsNeverLockUp =
    (d : Declaration) (n : ℕ) → IsValid d → AllWellRouted d → n < length d.nodes → StaysFree d (stall d n) → IsNeverLockedUpUnder (StallingGuard (λ m. m == n)) (network_of d)

-- What is told of a node of a free network: where it says that the network stays free, no state is locked up that the network reaches while that node
-- takes something only when it has nothing to send.
abbrev pub StallsTell : Type 0
StallsTell =
    (d : Declaration) (told : List Bend) (b : Bend) → IsValid d → RoutedAndFree d → AreStalls d told → Contains told b → IsTrue b.stays_free
    → IsNeverLockedUpUnder (StallingGuard (λ m. m == b.number)) (network_of d)

-- What is told of a flow of a free network: where it says that the network stays free, the network is free with each reply of that flow that goes back
-- over the links of the flow.
abbrev pub AnswersTell : Type 0
AnswersTell =
    (d : Declaration) (told : List Bend) (b : Bend) (f : FlowEntry) (r : ReplyEntry) → IsValid d → RoutedAndFree d → AreAnswers d told → Contains told b → IsTrue b.stays_free
    → slice_get d.flows b.number ≡ Some f → IsValid (with_reply d b.number r) → AllWellRouted (with_reply d b.number r) → GoesBack d f r
    → RoutedAndFree (with_reply d b.number r)
