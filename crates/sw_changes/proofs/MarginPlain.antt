-- The values of what a free network stands have no floats and are not deep.
use Rattle.std.proofs.Common.{◌+◌, ℕ, List, [], ◌∷◌, All, map}
use Rattle.std.proofs.lemmas.List.Elements.{All-cons, All-nil}
use Rattle.sw_config.specs.Entries.{Declaration}
use Rattle.sw_json.specs.Plain.{IsPlain}
use Rattle.sw_json.proofs.Plain.{count_or_null_plain, count_plain, flag_plain, list_plain, made_plain, no_more, object_plain, text_plain, with_member}
use Rattle.sw_margin.specs.declared.bend.Bend.{Bend}
use Rattle.sw_margin.specs.declared.bend.FlowLimit.{FlowLimit}
use Rattle.sw_changes.specs.MarginValues.{answered_value, flow_limit_value, loss_value, loss_values, stall_value}
use Rattle.sw_changes.specs.MarginValueLaws.{MarginsArePlain}
use Rattle.sw_explain.proofs.NamesPlain.{names_plain}

stall_plain : (d : Declaration) (b : Bend) → IsPlain 2 (stall_value d b)
stall_plain d b = object_plain 1 (with_member flag_plain (with_member text_plain no_more))

answered_plain : (d : Declaration) (b : Bend) → IsPlain 2 (answered_value d b)
answered_plain d b = object_plain 1 (with_member text_plain (with_member flag_plain no_more))

flow_limit_plain : (d : Declaration) (l : FlowLimit) → IsPlain 2 (flow_limit_value d l)
flow_limit_plain d l = object_plain 1 (with_member text_plain (with_member (count_or_null_plain l.most) no_more))

loss_plain : (d : Declaration) (link : ℕ) (flows : List ℕ) → IsPlain 2 (loss_value d link flows)
loss_plain d link flows =
    object_plain 1 (with_member count_plain (with_member text_plain (with_member (names_plain d flows) (with_member text_plain no_more))))

losses_plain : (d : Declaration) (link : ℕ) (losses : List (List ℕ)) → All (IsPlain 2) (loss_values d link losses)
losses_plain d link [] = All-nil (IsPlain 2)
losses_plain d link (flows ∷ losses) =
    All-cons (IsPlain 2) (loss_value d link flows) (loss_values d (link + 1) losses) (loss_plain d link flows) (losses_plain d (link + 1) losses)

pub margins_plain : MarginsArePlain
margins_plain d told =
    object_plain 3 (with_member (made_plain 2 (answered_value d) (answered_plain d) told.answers.items) (with_member text_plain
    (with_member (made_plain 2 (flow_limit_value d) (flow_limit_plain d) told.limits.items) (with_member (list_plain 2 (loss_values d 0 (map (λ flows. flows.items) told.losses.items)) (losses_plain d 0 (map (λ flows. flows.items) told.losses.items)))
    (with_member (made_plain 2 (stall_value d) (stall_plain d) told.stalls.items) no_more)))))
