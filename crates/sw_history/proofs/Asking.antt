-- To which inputs an output can be granted after a history.
use Rattle.std.proofs.Common.{List, false, refl, subst, sym, true, ℕ}
use Rattle.std.proofs.lemmas.Bool.{false≢true}
use Rattle.sw_config.specs.Entries.{Declaration}
use Rattle.sw_history.proofs.Idle.{tells_next}
use Rattle.sw_history.specs.Asking.{AreAsking}
use Rattle.sw_history.specs.History.{HistoryView, IsKept}
use Rattle.sw_load.specs.History.{packets_of}
use Rattle.sw_machine.specs.Steps.{Grant}
use Rattle.sw_net.specs.Asking.{AreAsking as NetAsks, IsInput}
use Rattle.sw_net.specs.Net.{NetView}
use Rattle.sw_net.specs.Unanswered.{Counts}

-- what the net tells is so of the history
pub asks_then : {R A : Type 0} (v : NetView R A) (h : HistoryView) (begun : List ℕ) {counts : Counts} → IsKept v h begun counts → (e ports : ℕ) → NetAsks v e ports → AreAsking h.declared (packets_of h.load) h.steps e ports
asks_then v h begun {counts} kept e ports is = record {
  asks = λ port bit.
      let a = is.asks port bit in
      (a.0, subst (λ (d : Declaration). IsInput d e port a.0) kept.network a.1, (tells_next v h begun kept (Grant e a.0) true a.2 tt (λ s leads. tt)).0 refl);
  no_others = λ port c input none next.
      let other = is.no_others port c (subst (λ (d : Declaration). IsInput d e port c) (sym kept.network) input) none in
      false≢true ((tells_next v h begun kept (Grant e c) false other tt (λ s leads. tt)).1 next);
}
