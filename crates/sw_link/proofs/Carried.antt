-- A channel carries what is sent on it, in order.
use Rattle.std.proofs.Common.{◌≡◌, ℕ, List, ◌∷◌, ◌++◌, refl, ◌∙◌, append_assoc}
use Rattle.sw_link.specs.Channel.{Channel, Event, Changes, issued, fct_received, sent, arrives, taken, start, more, all_sent, all_taken, NothingIsLost}

carried : (capacity : ℕ) (s t : Channel) (events : List Event) (event : Event) → all_sent events ≡ all_taken events ++ (s.received.buffer ++ s.wire) → Changes s event t →
    all_sent (event ∷ events) ≡ all_taken (event ∷ events) ++ (t.received.buffer ++ t.wire)
carried capacity _ _ events _ so_far (issued s ok) = so_far
carried capacity _ _ events _ so_far (fct_received s fcts e) = so_far
carried capacity _ _ events _ so_far (sent s x credit) = rw so_far (simp append_assoc)
carried capacity _ _ events _ so_far (arrives s x wire e) = so_far ∙ rw e (simp append_assoc)
carried capacity _ _ events _ so_far (taken s x buffer e) = so_far ∙ rw e (simp append_assoc)

pub nothing_lost : NothingIsLost
nothing_lost capacity _ _ start = refl
nothing_lost capacity _ _ (more s t events event before change) = carried capacity s t events event (nothing_lost capacity events s before) change
