use Rattle.std.proofs.Common.{◌≡◌, take}
use Rattle.std.specs.Prelude.{fold}
use Rattle.sw_linter.specs.FlowPlaces.{places_of_flow}
use Rattle.sw_linter.specs.Marks.{with_place}
use Rattle.sw_linter.proofs.marks.Marks.note_number.Given as goal

abbrev pub invariant-loop-place : goal.invariant-loop-place
invariant-loop-place l = l.self ≡ fold (with_place l.network) l.initial.self (places_of_flow l.number l.flow (take l.place-index l.place-items))
