use Rattle.std.proofs.Common.{◌≡◌, ◌==◌, string_bytes}
use Rattle.sw_flow.specs.declared.place.Place.{Place}
use Rattle.sw_explain.proofs.First.{NonePasses}
use Rattle.sw_explain.proofs.dot_marks.add_flow_mark.Given as goal

abbrev pub invariant-loop-place : goal.invariant-loop-place
invariant-loop-place l = (string_bytes l.text ≡ string_bytes l.fn.text) × NonePasses (λ (p : Place). p.channel == l.channel) l.places l.place-index
