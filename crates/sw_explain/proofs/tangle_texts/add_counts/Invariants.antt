use Rattle.std.proofs.Common.{◌≡◌, ◌++◌, codes, take, string_bytes}
use Rattle.std.specs.Fmt.{decimal}
use Rattle.std.specs.List.{flat_map}
use Rattle.sw_search.specs.declared.tangle.Tangle.{Tangle}
use Rattle.sw_explain.proofs.tangle_texts.add_counts.Given as goal

abbrev pub invariant-loop-tangle : goal.invariant-loop-tangle
invariant-loop-tangle l = string_bytes l.text ≡ string_bytes l.initial.text ++ flat_map (λ (u : Tangle). codes ", " ++ decimal u.channels) (take l.tangle-index l.rest)
