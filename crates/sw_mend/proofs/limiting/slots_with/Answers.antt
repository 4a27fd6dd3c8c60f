use Rattle.std.proofs.Common.{◌∙◌, IfOk, option_map, subst}
use Rattle.sw_config.specs.Entries.{Declaration}
use Rattle.sw_mend.specs.Limitings.{AreSlots, limited_to}
use Rattle.sw_mend.proofs.MoreSlots.{none_named}
use Rattle.sw_mend.proofs.limiting.slots_with.Goals as goal

pub returns : goal.returns
returns c =
    subst (λ (e : Declaration). IfOk c.more_slots-slots.result (λ o. AreSlots e (option_map (λ v. v.items) o)))
    (c.in_ok-limited.ensures ∙ none_named (limited_to c.args.network.now c.args.most)) c.more_slots-slots.ensures
