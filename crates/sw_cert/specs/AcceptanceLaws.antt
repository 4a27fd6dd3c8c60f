-- What a refusal means.
use Rattle.std.specs.Prelude.{◌≡◌, ◌↔◌, None}
use Rattle.sw_config.specs.Entries.{Declaration}
use Rattle.sw_config.specs.Valid.{IsValid}
use Rattle.sw_cert.specs.Text.{Contents}
use Rattle.sw_machine.specs.Certificate.{IsAccepted}
use Rattle.sw_machine.specs.Model.{network_of}
use Rattle.sw_cert.specs.Contents.{certificate_of}
use Rattle.sw_cert.specs.Refusals.{refusal_of}

-- a certificate is not refused for a valid network exactly where it is accepted for the machine's network
abbrev pub NotRefusedIsAccepted : Type 0
NotRefusedIsAccepted = (d : Declaration) (c : Contents) → IsValid d → (refusal_of d c ≡ None ↔ IsAccepted (network_of d) (certificate_of c))
