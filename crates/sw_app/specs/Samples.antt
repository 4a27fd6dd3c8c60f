-- Sample networks, and what they are called (this project's choice). Their texts are files of examples/networks, and that of `limits` of examples/guide.
use Rattle.std.specs.Prelude.{ℕ, List, Option, Some, None, codes, if◌then◌else◌}
use Rattle.std.specs.Str.{bytes_eq}
use Rattle.sw_app.specs.declared.samples.bus.TheConstants.{BUS}
use Rattle.sw_app.specs.declared.samples.housekeeping.TheConstants.{HOUSEKEEPING}
use Rattle.sw_app.specs.declared.samples.limits.TheConstants.{LIMITS}
use Rattle.sw_app.specs.declared.samples.regions.TheConstants.{REGIONS}
use Rattle.sw_app.specs.declared.samples.ring.TheConstants.{RING}
use Rattle.sw_app.specs.declared.samples.Sample.{Sample}
use Rattle.sw_app.specs.declared.samples.Sample.TheVariants.{Bus, Ring, Housekeeping, Regions, Limits}

-- of no word the first
abbrev pub sample_named : Option (List ℕ) → Option Sample
sample_named None = Some Bus
sample_named (Some word) =
    if bytes_eq word (codes "bus") then Some Bus
    else if bytes_eq word (codes "ring") then Some Ring
    else if bytes_eq word (codes "housekeeping") then Some Housekeeping
    else if bytes_eq word (codes "regions") then Some Regions
    else if bytes_eq word (codes "limits") then Some Limits
    else None

abbrev pub sample_text : Sample → List ℕ
sample_text Bus = BUS.now
sample_text Ring = RING.now
sample_text Housekeeping = HOUSEKEEPING.now
sample_text Regions = REGIONS.now
sample_text Limits = LIMITS.now
