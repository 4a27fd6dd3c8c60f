use Rattle.std.proofs.Common.{IfOk, subst}
use Rattle.std.specs.Prelude.{◌↔◌, IsTrue}
use Rattle.sw_config.specs.Entries.{Declaration}
use Rattle.sw_search.specs.Laws.{RoutedAndFree}
use Rattle.sw_margin.proofs.limits.is_free_with.Goals as goal

pub returns : goal.returns
returns g c = subst (λ (d : Declaration). IfOk c.is_free-free.result (λ free. IsTrue free ↔ RoutedAndFree d)) c.in_ok-changed.ensures c.is_free-free.ensures
