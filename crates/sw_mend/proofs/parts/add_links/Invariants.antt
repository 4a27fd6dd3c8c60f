use Rattle.std.proofs.Common.{◌≡◌, take}
use Rattle.sw_mend.proofs.parts.add_links.Given as goal

abbrev pub invariant-loop-link : goal.invariant-loop-link
invariant-loop-link l = l.builder ≡ record l.initial.builder { links = take l.link l.network.links }
