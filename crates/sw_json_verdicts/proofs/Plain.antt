-- Results that have a text which reads back.
use Rattle.std.proofs.Common.{arith}
use Rattle.std.specs.Prelude.{None, Option, Some}
use Rattle.std.specs.Option.{option_to_list}
use Rattle.sw_flow.specs.declared.fault.RouteFault.{RouteFault}
use Rattle.sw_flow.specs.declared.place.Place.{Place}
use Rattle.sw_json.proofs.Plain.{count_or_null_plain, count_plain, made_plain, no_more, null_plain, object_plain, plain_at_more, text_or_null_plain, text_plain, texts_plain, with_member}
use Rattle.sw_json.specs.PlaceValues.{misrouted_fault_value, place_value}
use Rattle.sw_json.specs.Plain.{IsPlain, PlacesArePlain, VerdictsArePlain}
use Rattle.sw_json_verdicts.specs.Plain.{RefusalsArePlain, ReportsArePlain, RoutesArePlain}
use Rattle.sw_json_verdicts.specs.RouteResults.{fault_or_null}

fault_is_plain : PlacesArePlain → (o : Option (Place × RouteFault)) → IsPlain 2 (fault_or_null o)
fault_is_plain plain None = null_plain
fault_is_plain plain (Some (p, fault)) = plain_at_more 1 2 (misrouted_fault_value p fault) (omega arith) (plain.faults p fault)

pub routes_are_plain : PlacesArePlain → RoutesArePlain
routes_are_plain plain d flow note places fault =
    object_plain 2 (with_member (fault_is_plain plain fault) (with_member text_plain (with_member text_plain
    (with_member (texts_plain 1 (option_to_list note)) (with_member (made_plain 1 (place_value d) (plain.places d) places) no_more)))))

pub refusals_are_plain : RefusalsArePlain
refusals_are_plain r text =
    object_plain 0 (with_member (count_or_null_plain r.channel) (with_member text_plain (with_member (count_or_null_plain r.deleted)
    (with_member (text_or_null_plain r.fault) (with_member (text_or_null_plain r.flow) (with_member text_plain
    (with_member (count_or_null_plain r.line) (with_member (count_or_null_plain r.next) (with_member text_plain no_more)))))))))

pub reports_are_plain : VerdictsArePlain → ReportsArePlain
reports_are_plain plain d lint f =
    object_plain 4 (with_member count_plain (with_member count_plain (with_member count_plain (with_member text_plain (with_member count_plain
    (with_member (texts_plain 3 lint) (with_member count_plain (with_member count_plain (with_member count_plain (with_member count_plain
    (with_member (plain d f.verdict) no_more)))))))))))
