use Rattle.std.proofs.Common.{◌∙◌, ap, length, map, refl, subst, sym}
use Rattle.std.proofs.lemmas.List.Elements.{All-nil}
use Rattle.sw_history.proofs.Kept.{new_is_kept}
use Rattle.sw_config.specs.Entries.{Declaration}
use Rattle.sw_history.proofs.history.History.new.Goals as goal
use Rattle.sw_history.specs.Noted.{noted_step}
use Rattle.sw_load.specs.Laws.{AreDeclared}

pub invariant_of-result : goal.invariant_of-result
invariant_of-result g c =
    let all = ap (λ (d : Declaration). length d.nodes) c.network.ensures.network in
    let is = new_is_kept c.args.net c.args.load.now _ _ c.requires.state c.requires.packets all in
    rw (c.new.ensures.items, c.in-Ok.ensures.begun, c.in-Ok.ensures.unanswered, c.in-Ok.ensures.load) (is, c.in-Ok.ensures.network ∙ c.network.ensures.network, All-nil _)

pub nothing_begun-requires : goal.nothing_begun-requires
nothing_begun-requires g c = subst (λ (d : Declaration). AreDeclared d c.args.load.now) (sym c.network.ensures.network) c.requires.packets

pub returns-in-Ok-clause-network : goal.returns-in-Ok-clause-network
returns-in-Ok-clause-network g c = refl

pub returns-in-Ok-clause-load : goal.returns-in-Ok-clause-load
returns-in-Ok-clause-load g c = c.in-Ok.ensures.load

pub returns-in-Ok-clause-steps : goal.returns-in-Ok-clause-steps
returns-in-Ok-clause-steps g c = ap (map (noted_step c.in-Ok.senders)) c.new.ensures.items
