use Rattle.std.proofs.Common.{ℕ, ◌<◌, List, map, get_or}
use Rattle.sw_flow.specs.declared.place.Place.{Place}
use Rattle.sw_cert.specs.Grammar.{IsBlock}
use Rattle.sw_cert.specs.Reading.{items_of}
use Rattle.sw_cert.proofs.make.are_blocks.Given as goal

abbrev pub invariant-loop-places : goal.invariant-loop-places
invariant-loop-places l = (k : ℕ) (d : List Place) → k < l.places-index → IsBlock (get_or (map items_of l.flows) k d)
