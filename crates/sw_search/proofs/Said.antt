-- Whether the verdict is that the network is free.
use Rattle.std.proofs.Common.{◌↔◌, IsTrue, refl}
use Rattle.std.proofs.lemmas.Bool.{false≢true}
use Rattle.sw_config.specs.Entries.{Declaration}
use Rattle.sw_search.specs.Laws.{IsExactlyOne, RoutedAndCyclic, RoutedAndFree, SomeMisrouted, StandsFor}
use Rattle.sw_search.specs.declared.verdict.Verdict.{Verdict}
use Rattle.sw_search.specs.declared.verdict.Verdict.TheVariants.{Misrouted, Cyclic, Free}
use Rattle.sw_search.specs.Verdicts.{says_free}

pub is_free : (d : Declaration) (v : Verdict) → IsExactlyOne (SomeMisrouted d) (RoutedAndCyclic d) (RoutedAndFree d) → StandsFor d v → IsTrue (says_free v) ↔ RoutedAndFree d
is_free d (Misrouted i p fault) one stands = (λ said. absurd (false≢true said), λ free. absurd (one.not_first_third stands free))
is_free d (Cyclic cycle) one stands = (λ said. absurd (false≢true said), λ free. absurd (one.not_second_third stands free))
is_free d (Free contents) one stands = (λ said. stands, λ free. refl)
