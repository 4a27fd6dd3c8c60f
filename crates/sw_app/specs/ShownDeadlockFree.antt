-- What it means that a certificate file shows of a network file that its network never locks up.
use Rattle.std.specs.Prelude.{◌≡◌, ℕ, List, Option, Ok}
use Rattle.sw_config.specs.Entries.{Declaration}
use Rattle.sw_file.specs.Network.{network_text}
use Rattle.sw_cert.specs.Contents.{certificate_of}
use Rattle.sw_cert.specs.Text as certificate
use Rattle.sw_cert.specs.Text.{Contents}
use Rattle.sw_machine.specs.Certificate.{IsAccepted}
use Rattle.sw_machine.specs.DeadlockFreedom.{IsFree}
use Rattle.sw_machine.specs.Model.{network_of}
use Rattle.sw_text.specs.Ends.{GivesAll}

-- the certificate that the text says is accepted for the network, and that network never locks up, over every run that keeps the limits
-- on unanswered commands, and so over every run where it has none
pub record IsShownDeadlockFree (d : Declaration) (bytes : List ℕ) : Type 0 where
  pub contents : Contents
  pub said : certificate.Says bytes contents
  pub accepted : IsAccepted (network_of d) (certificate_of contents)
  pub deadlock_free : IsFree (network_of d) (certificate_of contents)

-- the first file declares a network, and the second file's certificate shows that it never locks up
pub record AreShownDeadlockFree (bytes others : List ℕ) : Type 0 where
  pub network : Declaration
  pub declared : network_text bytes ≡ Ok network
  pub shown : IsShownDeadlockFree network others

-- both readers were read to their ends, the first gave a network file, and the second a certificate file that shows that the network
-- never locks up
abbrev pub ChecksDeadlockFree : Option (List ℕ) → Option (List ℕ) → Option (List ℕ) → Option (List ℕ) → Type 0
ChecksDeadlockFree first first_after second second_after =
    (bytes : List ℕ) × GivesAll first first_after bytes × ((others : List ℕ) × GivesAll second second_after others × AreShownDeadlockFree bytes others)
