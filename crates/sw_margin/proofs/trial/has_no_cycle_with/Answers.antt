use Rattle.std.proofs.Common.{◌↔◌, Global, List, Vec, sym, subst, ℕ}
use Rattle.std.specs.Prelude.{IsTrue}
use Rattle.std.proofs.lemmas.Result.{IfOk-weaker}
use Rattle.sw_graph.specs.Levels.{HasCycle}
use Rattle.sw_margin.specs.Rising.{LeadsWith}
use Rattle.sw_margin.specs.Waits.{AreWith}
use Rattle.sw_margin.proofs.Waiting.{rows_with}
use Rattle.sw_margin.proofs.trial.has_no_cycle_with.Goals as goal

pub returns : goal.returns
returns g c =
    let rows = c.args.rows.now in
    let waits = c.args.waits.now in
    let with = subst (λ (h : List (Vec ℕ Global)). AreWith rows waits h) (sym c.deref.ensures.value) c.in_ok-more.ensures.with in
    let same = rows_with rows c.deref.result.now waits with in
    IfOk-weaker c.has_no_cycle.result _ (λ b. IsTrue b ↔ (HasCycle (LeadsWith rows waits) → ⊥)) (λ b told. ((λ t. same.0 (told.0 t)), λ none. told.1 (same.1 none))) c.has_no_cycle.ensures
