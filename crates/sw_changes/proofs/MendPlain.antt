-- The values of what frees a network have no floats and are not deep.
use Rattle.std.proofs.Common.{[], ◌∷◌, ◌++◌, ℕ, List, Option, Some, None, All, arith, map}
use Rattle.std.proofs.lemmas.List.Elements.{All-append, All-cons, All-nil}
use Rattle.serde_json.specs.Data.{Data}
use Rattle.sw_changes.specs.MendTexts.{told_pairs}
use Rattle.sw_changes.specs.declared.mending.Cures.{Cures}
use Rattle.sw_changes.specs.declared.mending.Mending.TheVariants.{Misrouted, Free, Cyclic}
use Rattle.sw_config.specs.Entries.{Declaration}
use Rattle.sw_json.specs.Plain.{IsPlain}
use Rattle.sw_json.proofs.Plain.{count_or_null_plain, count_plain, list_plain, no_more, object_plain, plain_at_more, text_plain, with_member}
use Rattle.sw_json.proofs.PlainValues.{verdict_plain}
use Rattle.sw_mend.specs.declared.change.Change.{Change}
use Rattle.sw_mend.specs.declared.change.Change.TheVariants.{WithoutReply, WithoutReplies, WithoutFlow, WithoutAnswers, WithoutPort, WithoutEntry, WithoutFlowsOf}
use Rattle.sw_mend.specs.declared.change.Pair.{Pair}
use Rattle.sw_mend.specs.declared.change.Trial.{Trial}
use Rattle.sw_mend.specs.declared.change.Trial.TheVariants.{Without, Split}
use Rattle.sw_mend.specs.Limitings.{Limiting}
use Rattle.sw_mend.specs.declared.limiting.TargetSlots.{TargetSlots}
use Rattle.sw_search.specs.declared.verdict.Verdict.TheVariants as verdict
use Rattle.sw_changes.specs.LimitingValues.{limiting_line_words, limiting_values, most_value, most_values, target_slots_value}
use Rattle.sw_changes.specs.MendValues.{change_value, cure_values, limiting_mends, mend_value, mends_value, pair_value, told_mend, trial_value}
use Rattle.sw_changes.specs.MendValueLaws.{MendsArePlain}

change_plain : (d : Declaration) (change : Change) → IsPlain 1 (change_value d change)
change_plain d (WithoutReply flow) = object_plain 0 (with_member text_plain (with_member text_plain no_more))
change_plain d (WithoutReplies from to) = object_plain 0 (with_member text_plain (with_member text_plain (with_member text_plain no_more)))
change_plain d (WithoutFlow flow) = object_plain 0 (with_member text_plain (with_member text_plain no_more))
change_plain d (WithoutAnswers node) = object_plain 0 (with_member text_plain (with_member text_plain no_more))
change_plain d (WithoutPort switch entry port) =
    object_plain 0 (with_member (count_or_null_plain _) (with_member text_plain (with_member (count_or_null_plain _) (with_member count_plain
    (with_member text_plain no_more)))))
change_plain d (WithoutEntry switch entry) =
    object_plain 0 (with_member (count_or_null_plain _) (with_member text_plain (with_member (count_or_null_plain _) (with_member text_plain no_more))))
change_plain d (WithoutFlowsOf node) = object_plain 0 (with_member text_plain (with_member text_plain no_more))

trial_plain : (d : Declaration) (trial : Trial) → IsPlain 1 (trial_value d trial)
trial_plain d (Without change) = change_plain d change
trial_plain d (Split link) = object_plain 0 (with_member text_plain (with_member text_plain (with_member count_plain (with_member text_plain no_more))))

mend_plain : (d : Declaration) (trial : Trial) → IsPlain 3 (mend_value d trial)
mend_plain d trial =
    object_plain 2 (with_member (list_plain 1 (trial_value d trial ∷ []) (All-cons (IsPlain 1) (trial_value d trial) [] (trial_plain d trial) (All-nil (IsPlain 1))))
    (with_member text_plain no_more))

pair_plain : (d : Declaration) (pair : Pair) → IsPlain 3 (pair_value d pair)
pair_plain d pair =
    object_plain 2 (with_member (list_plain 1 (change_value d pair.first ∷ change_value d pair.second ∷ [])
    (All-cons (IsPlain 1) (change_value d pair.first) (change_value d pair.second ∷ []) (change_plain d pair.first)
    (All-cons (IsPlain 1) (change_value d pair.second) [] (change_plain d pair.second) (All-nil (IsPlain 1))))) (with_member text_plain no_more))

each_plain : {A : Type 0} (n : ℕ) (f : A → Data) → ((x : A) → IsPlain n (f x)) → (xs : List A) → All (IsPlain n) (map f xs)
each_plain n f each [] = All-nil (IsPlain n)
each_plain n f each (x ∷ xs) = All-cons (IsPlain n) (f x) (map f xs) (each x) (each_plain n f each xs)

most_plain : (most : Option ℕ) → All (IsPlain 1) (most_values most)
most_plain None = All-nil (IsPlain 1)
most_plain (Some most) =
    All-cons (IsPlain 1) (most_value most) [] (object_plain 0 (with_member text_plain (with_member count_plain no_more))) (All-nil (IsPlain 1))

slots_plain : (d : Declaration) (more : TargetSlots) → IsPlain 1 (target_slots_value d more)
slots_plain d more = object_plain 0 (with_member text_plain (with_member text_plain (with_member count_plain no_more)))

limiting_plain : (d : Declaration) (limiting : Option Limiting) → All (IsPlain 3) (limiting_mends d limiting)
limiting_plain d None = All-nil (IsPlain 3)
limiting_plain d (Some limiting) =
    All-cons (IsPlain 3) (told_mend (limiting_values d limiting) (limiting_line_words d limiting)) []
    (object_plain 2 (with_member (list_plain 1 (limiting_values d limiting)
    (All-append (IsPlain 1) (most_values limiting.most) (map (target_slots_value d) limiting.slots) (most_plain limiting.most)
    (each_plain 1 (target_slots_value d) (slots_plain d) limiting.slots))) (with_member text_plain no_more))) (All-nil (IsPlain 3))

mends_plain : (d : Declaration) (cures : Cures) → IsPlain 5 (mends_value (cure_values d cures))
mends_plain d cures =
    object_plain 4 (with_member text_plain (with_member (list_plain 3 (cure_values d cures)
    (All-append (IsPlain 3) (limiting_mends d cures.limiting)
    (map (mend_value d) cures.changes.items ++ (map (pair_value d) (told_pairs cures) ++ map (mend_value d) cures.units.items)) (limiting_plain d cures.limiting)
    (All-append (IsPlain 3) (map (mend_value d) cures.changes.items) (map (pair_value d) (told_pairs cures) ++ map (mend_value d) cures.units.items)
    (each_plain 3 (mend_value d) (mend_plain d) cures.changes.items)
    (All-append (IsPlain 3) (map (pair_value d) (told_pairs cures)) (map (mend_value d) cures.units.items)
    (each_plain 3 (pair_value d) (pair_plain d) (told_pairs cures))
    (each_plain 3 (mend_value d) (mend_plain d) cures.units.items))))) no_more))

pub mending_plain : MendsArePlain
mending_plain d (Misrouted i p fault) = plain_at_more 4 5 _ (omega arith) (verdict_plain d (verdict.Misrouted i p fault))
mending_plain d Free = object_plain 4 (with_member text_plain no_more)
mending_plain d (Cyclic cures) = mends_plain d cures
