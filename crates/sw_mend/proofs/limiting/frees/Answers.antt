use Rattle.std.proofs.Common.{◌↔◌, IfOk, IsTrue, subst}
use Rattle.sw_config.specs.Entries.{Declaration}
use Rattle.sw_search.specs.Laws.{RoutedAndFree}
use Rattle.sw_mend.proofs.limiting.frees.Goals as goal

pub returns : goal.returns
returns g c = subst (λ (e : Declaration). IfOk c.is_free-freed.result (λ freed. IsTrue freed ↔ RoutedAndFree e)) c.in_ok-changed.ensures c.is_free-freed.ensures
