-- Runs of the small network, found by trying their steps.
-- the state after the steps, which all are possible
use Rattle.std.proofs.Common.{List, [], arith, refl, ◌+◌, ◌∷◌, ◌≡◌, ◌≤◌}
use Rattle.std.specs.Prelude.{replicate, unwrap_or}
use Rattle.sw_machine.proofs.Tries.{tried_all}
use Rattle.sw_machine.specs.Network.{Network}
use Rattle.sw_machine.specs.Sample.{misrouted, of_capacity, sample}
use Rattle.sw_machine.specs.State.{State, empty}
use Rattle.sw_machine.specs.Steps.{Fct, Step}
use Rattle.sw_machine.specs.Tried.{try_steps}
use Rattle.sw_machine.specs.Witnesses.{IsAnswered, IsDiscarded, IsDropped, SendsFcts, commands, discards, replies, strays}
use Rattle.sw_machine.specs.declared.input.InputState.TheVariants.{Idle, Spilling}

abbrev after : Network → State → List Step → State
after net s steps = unwrap_or (try_steps net s steps) s

pub seven_fcts : SendsFcts 4096 7
seven_fcts =
    let net = of_capacity 4096 in
    (after net (empty net) (replicate 7 (Fct 0)), tried_all net (replicate 7 (Fct 0)) (empty net) (after net (empty net) (replicate 7 (Fct 0))) refl, λ p. let few : 56 ≤ 48 = (p.1).few in omega arith)

pub one_fct : SendsFcts 8 1
one_fct =
    let net = of_capacity 8 in
    (after net (empty net) (Fct 0 ∷ []), tried_all net (Fct 0 ∷ []) (empty net) (after net (empty net) (Fct 0 ∷ [])) refl, λ p. let room : 8 + 0 + 8 ≤ 8 = (p.1).room in omega arith)

pub is_discarded : IsDiscarded
is_discarded = record {
  s = after misrouted (empty misrouted) discards;
  run = tried_all misrouted discards (empty misrouted) (after misrouted (empty misrouted) discards) refl;
  idle = refl;
  delivered = refl;
  nothing = refl;
  no_more = λ p. let idle : Idle ≡ Spilling = (p.1).spilling in cc;
}

pub is_dropped : IsDropped
is_dropped = record {
  s = after misrouted (empty misrouted) strays;
  run = tried_all misrouted strays (empty misrouted) (after misrouted (empty misrouted) strays) refl;
  idle = refl;
  delivered = refl;
}

-- the small network's state after both commands
abbrev asked : State
asked = after sample (empty sample) commands

pub is_answered : IsAnswered
is_answered = record {
  mid = asked;
  asked = tried_all sample commands (empty sample) asked refl;
  owed = refl;
  memory = refl;
  s = after sample asked replies;
  answered = tried_all sample replies asked (after sample asked replies) refl;
  settled = refl;
  at_target = ([], refl);
  at_node = ([], refl);
  delivered = refl;
}
