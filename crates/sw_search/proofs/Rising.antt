-- Numbers of an accepted certificate that rise along more than the dependencies; and that a free network never locks up.
use Rattle.std.proofs.Common.{ℕ, ◌<◌, length}
use Rattle.sw_config.specs.Entries.{Declaration}
use Rattle.sw_config.specs.Valid.{IsValid}
use Rattle.sw_flow.specs.Places.{ends_of}
use Rattle.sw_graph.specs.Laws.{IsAmong}
use Rattle.sw_graph.specs.Levels.{HasCycle}
use Rattle.sw_graph.proofs.Existence.{levels_are_where_no_cycle_is}
use Rattle.sw_machine.specs.Certificate.{Certificate, IsAccepted, number}
use Rattle.sw_machine.proofs.Free.{is_free}
use Rattle.sw_cert.specs.Text.{Contents}
use Rattle.sw_cert.specs.Contents.{certificate_of}
use Rattle.sw_cycle.specs.Model.{network_of}
use Rattle.sw_cycle.proofs.DeclaredNetworks.{are_networks}
use Rattle.sw_search.specs.Laws.{FreeIsCertified, FreeNeverLocksUp}
use Rattle.sw_search.specs.Verdicts.{AllWellRouted, depends}
use Rattle.sw_search.proofs.Accepted.{accepted, rising_accepted}
use Rattle.sw_search.proofs.Levels.{rising_by}
use Rattle.sw_search.proofs.Listings.{certificate_exists, lists_exist}
use Rattle.sw_search.proofs.Paths.{Decided}

-- along any decided relation between the channels of a valid, well routed network that holds all dependencies and has no cycle, numbers of
-- an accepted certificate rise
pub rising_certificate_exists : (d : Declaration) → IsValid d → AllWellRouted d
    → (waits : ℕ → ℕ → Type 0) → IsAmong waits (length (ends_of d)) → ((c e : ℕ) → Decided (waits c e)) → ((c e : ℕ) → depends d c e → waits c e) → (HasCycle waits → ⊥)
    → (cert : Certificate) × IsAccepted (network_of d) cert × ((c e : ℕ) → waits c e → number cert c < number cert e)
rising_certificate_exists d valid routed waits among decided holds no_cycle =
    let levels = (levels_are_where_no_cycle_is waits (length (ends_of d)) among decided).0 no_cycle in
    let lists = lists_exist d valid in
    let contents : Contents = record { numbers = levels.0; places = lists.0 } in
    let rising = rising_by waits (length (ends_of d)) among levels.0 levels.1 in (
      certificate_of contents,
      rising_accepted d contents valid (record { routed = routed; size = levels.1.size; rising = λ c e h. rising c e (holds c e h); places = lists.1 }),
      rising,
    )

pub free_is_certified : FreeIsCertified
free_is_certified d valid free = let made = certificate_exists d valid free in (certificate_of made.0, accepted d made.0 valid made.1)

pub free_never_locks_up : FreeNeverLocksUp
free_never_locks_up d valid free = let cert = free_is_certified d valid free in (cert.0, is_free (network_of d) cert.0 (are_networks d valid) cert.1)
