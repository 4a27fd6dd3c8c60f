-- What every change of a channel keeps.
use Rattle.std.proofs.lemmas.Bool.Decides.{nat_tests}
use Rattle.std.proofs.Common.{◌≡◌, ℕ, List, ◌+◌, ◌*◌, ◌≤◌, true, length, refl, ap, arith, length-append}
use Rattle.sw_link.specs.Ends.{Received, may_issue}
use Rattle.sw_link.specs.Channel.{Channel, Event, Changes, issued, fct_received, sent, arrives, taken, IsReached, start, more}

pub record Accounts (capacity : ℕ) (s : Channel) : Type 0 where
  pub accounted : s.credit + length s.wire + 8 * s.fcts ≡ s.received.outstanding
  pub most : s.received.outstanding ≤ 56
  pub room : s.received.outstanding + length s.received.buffer ≤ s.received.capacity
  pub same : s.received.capacity ≡ capacity

issue_allowed : (r : Received) → may_issue r ≡ true → (length r.buffer + r.outstanding + 8 ≤ r.capacity) × (r.outstanding ≤ 48)
issue_allowed r h = grind (arith, nat_tests)

accounts-change : (capacity : ℕ) (s t : Channel) (event : Event) → Accounts capacity s → Changes s event t → Accounts capacity t
accounts-change capacity _ _ _ a (issued s ok) =
    let free = issue_allowed s.received ok in
    record { accounted = omega arith; most = omega arith; room = omega arith; same = a.same }
accounts-change capacity _ _ _ a (fct_received s fcts e) =
    record { accounted = omega arith; most = a.most; room = a.room; same = a.same }
accounts-change capacity _ _ _ a (sent s x h) =
    record { accounted = simp length-append (omega arith); most = a.most; room = a.room; same = a.same }
accounts-change capacity _ _ _ a (arrives s x wire e) =
    let n = ap length e in
    record { accounted = omega arith; most = omega arith; room = simp length-append (omega arith); same = a.same }
accounts-change capacity _ _ _ a (taken s x buffer e) =
    let n = ap length e in
    record { accounted = a.accounted; most = a.most; room = omega arith; same = a.same }

pub accounts : (capacity : ℕ) (events : List Event) (s : Channel) → IsReached capacity events s → Accounts capacity s
accounts capacity _ _ start = record { accounted = refl; most = omega arith; room = omega arith; same = refl }
accounts capacity _ _ (more s t events event h c) = accounts-change capacity s t event (accounts capacity events s h) c
