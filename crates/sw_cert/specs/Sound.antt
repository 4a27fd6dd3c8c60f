-- What holds of what the lines so far have said.
use Rattle.std.specs.Prelude.{◌≡◌, ℕ, suc, ◌+◌, ◌≤◌, List, [], length, None}
use Rattle.std.specs.List.{AllByRecursion}
use Rattle.sw_flow.specs.declared.place.Place.{Place}
use Rattle.sw_cert.specs.declared.lines.Expected.{Expected}
use Rattle.sw_cert.specs.declared.lines.Expected.TheVariants.{Title, Channels, Numbers, Flows, Places, Nothing}
use Rattle.sw_cert.specs.Grammar.{Fits, IsBlock, Rises}
use Rattle.sw_cert.specs.Reading.{State}

-- what holds of a state by what is expected
abbrev pub Kept : Expected → List ℕ → List (List Place) → List Place → Type 0
Kept Title ns fs ps = (ns ≡ []) × (fs ≡ []) × (ps ≡ [])
Kept Channels ns fs ps = (ns ≡ []) × (fs ≡ []) × (ps ≡ [])
Kept (Numbers k) ns fs ps = (length ns + k ≤ 2048) × (fs ≡ []) × (ps ≡ [])
Kept (Flows k) ns fs ps = (length ns ≤ 2048) × (length fs + k ≤ 8192) × (ps ≡ [])
Kept (Places p k) ns fs ps = (length ns ≤ 2048) × (length fs + suc k ≤ 8192) × (length ps + suc p ≤ 67584)
Kept Nothing ns fs ps = (length ns ≤ 2048) × (length fs ≤ 8192) × (ps ≡ [])

pub record IsSound (d : State) : Type 0 where
  pub kept : Kept d.expected d.numbers d.flows d.open_block
  pub numbers : AllByRecursion (λ v. v ≤ 65535) d.numbers
  pub blocks : AllByRecursion IsBlock d.flows
  pub fits : AllByRecursion Fits d.open_block
  pub rises : Rises None d.open_block
