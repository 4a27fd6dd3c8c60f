-- The values of this crate have no floats and are not deep.
use Rattle.std.proofs.Common.{◌≤◌, ◌+◌, ℕ, List, All, Option, arith}
use Rattle.std.specs.List.{zip}
use Rattle.serde_json.specs.Data.{Data}
use Rattle.sw_config.specs.Entries.{Declaration}
use Rattle.sw_search.specs.Cycles.{CauseEntry, ByTarget, ByFlow}
use Rattle.sw_flow.specs.declared.fault.RouteFault.{RouteFault}
use Rattle.sw_flow.specs.declared.place.Place.{Place}
use Rattle.sw_json.specs.AnswerValues.{answer_value, file_fault_value, told_input}
use Rattle.sw_json.specs.FaultValues.{told_fault}
use Rattle.sw_json.specs.FileValues.{audit_value, entry_value, kind_value}
use Rattle.sw_json.specs.Plain.{IsPlain}
use Rattle.sw_json.specs.PlaceValues.{misrouted_fault_value, place_value}
use Rattle.sw_json.specs.VerdictValues.{cause_value, channel_value, verdict_value}
use Rattle.sw_json.proofs.Plain.{count_plain, count_or_null_plain, list_plain, made_plain, no_more, object_plain, plain_at_more, text_or_null_plain, text_plain, texts_plain, with_member}
use Rattle.sw_search.specs.declared.verdict.Verdict.{Verdict}
use Rattle.sw_search.specs.declared.verdict.Verdict.TheVariants.{Misrouted, Cyclic, Free}

-- ---- verdicts

pub cause_plain : (d : Declaration) (cause : CauseEntry) → IsPlain 1 (cause_value d cause)
cause_plain d (ByTarget node) = object_plain 0 (with_member text_plain no_more)
cause_plain d (ByFlow flow places) = object_plain 0 (with_member text_plain no_more)

pub channel_plain : (d : Declaration) (p : ℕ × CauseEntry) → IsPlain 2 (channel_value d p)
channel_plain d p = object_plain 1 (with_member (cause_plain d p.1) (with_member count_plain (with_member text_plain (with_member text_plain no_more))))

pub verdict_plain : (d : Declaration) (v : Verdict) → IsPlain 4 (verdict_value d v)
verdict_plain d (Misrouted i p fault) =
    object_plain 3 (with_member count_plain (with_member text_plain (with_member count_plain (with_member text_plain (with_member text_plain
    (with_member text_plain no_more))))))
verdict_plain d (Cyclic cycle) =
    object_plain 3 (with_member (made_plain 2 (channel_value d) (channel_plain d) (zip cycle.channels cycle.causes)) (with_member text_plain no_more))
verdict_plain d (Free contents) =
    object_plain 3 (with_member text_plain (with_member count_plain (with_member count_plain (with_member count_plain (with_member text_plain
    (with_member count_plain (with_member count_plain (with_member count_plain (with_member count_plain no_more)))))))))

-- ---- faults, places and kinds

pub told_plain : (code : List ℕ) (line column : Option ℕ) (text : List ℕ) (place : Option (List ℕ)) → IsPlain 1 (told_fault code line column text place)
told_plain code line column text place =
    object_plain 0 (with_member text_plain (with_member (count_or_null_plain column) (with_member text_plain (with_member (count_or_null_plain line)
    (with_member text_plain (with_member (text_or_null_plain place) no_more))))))

pub place_plain : (d : Declaration) (p : Place) → IsPlain 1 (place_value d p)
place_plain d p = object_plain 0 (with_member count_plain (with_member count_plain (with_member text_plain (with_member text_plain no_more))))

pub misrouted_plain : (p : Place) (fault : RouteFault) → IsPlain 1 (misrouted_fault_value p fault)
misrouted_plain p fault =
    object_plain 0 (with_member count_plain (with_member text_plain (with_member count_plain (with_member text_plain no_more))))

pub kind_plain : (kind : List ℕ) → IsPlain 1 (kind_value kind)
kind_plain kind = object_plain 0 (with_member text_plain no_more)

-- ---- files and answers

pub entry_plain : (most : ℕ) (bytes : Data) (lint : List (List ℕ)) (path : List ℕ) (digest : Data) (status : ℕ) (verdict : Data)
    → 1 ≤ most → IsPlain most bytes → IsPlain most digest → IsPlain most verdict → IsPlain (most + 1) (entry_value bytes lint path digest status verdict)
entry_plain most bytes lint path digest status verdict some of_bytes of_digest of_verdict =
    object_plain most (with_member of_bytes (with_member (plain_at_more 1 most _ some (texts_plain 0 lint)) (with_member text_plain (with_member of_digest
    (with_member count_plain (with_member of_verdict no_more))))))

pub audit_plain : (most : ℕ) (files : List Data) (toolchain version : List ℕ) → All (IsPlain most) files → IsPlain (most + 2) (audit_value files toolchain version)
audit_plain most files toolchain version all =
    plain_at_more (most + 1 + 1) (most + 2) _ (omega arith)
    (object_plain (most + 1) (with_member (list_plain most files all) (with_member text_plain (with_member text_plain no_more))))

pub input_plain : (bytes : Data) (path : List ℕ) (digest : Data) → IsPlain 0 bytes → IsPlain 0 digest → IsPlain 1 (told_input bytes path digest)
input_plain bytes path digest of_bytes of_digest = object_plain 0 (with_member of_bytes (with_member text_plain (with_member of_digest no_more)))

pub file_fault_plain : (most : ℕ) (path : List ℕ) (fault : Data) → IsPlain most fault → IsPlain (most + 1) (file_fault_value path fault)
file_fault_plain most path fault of_fault = object_plain most (with_member of_fault (with_member text_plain (with_member text_plain no_more)))

pub answer_plain : (most : ℕ) (command : List ℕ) (files : List Data) (found : Data) (status : ℕ) (toolchain version : List ℕ)
    → 1 ≤ most → All (IsPlain 1) files → IsPlain most found → IsPlain (most + 2) (answer_value command files found status toolchain version)
answer_plain most command files found status toolchain version some all of_found =
    plain_at_more (most + 1 + 1) (most + 2) _ (omega arith)
    (object_plain (most + 1) (with_member text_plain (with_member (plain_at_more 2 (most + 1) _ (omega (arith, some)) (list_plain 1 files all))
    (with_member (plain_at_more most (most + 1) _ (omega arith) of_found) (with_member count_plain (with_member text_plain (with_member text_plain no_more)))))))
