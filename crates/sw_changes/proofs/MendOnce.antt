-- `mend` has one answer, with the status of the text answer.
use Rattle.std.proofs.Common.{◌≡◌, ℕ, Bool, List, ◌++◌, ap, append_assoc, codes, map, refl, sym, [], ◌∷◌}
use Rattle.sw_changes.proofs.OneMending.{one_status, same_pairs}
use Rattle.sw_changes.specs.declared.mending.Mending.{Mending}
use Rattle.sw_changes.specs.declared.mending.Mending.TheVariants.{Misrouted, Free, Cyclic}
use Rattle.sw_changes.specs.MendLaws as text_laws
use Rattle.sw_changes.specs.MendTexts.{change_words, mending_status, mending_text}
use Rattle.sw_changes.specs.Mendings.{IsMending}
use Rattle.sw_config.specs.Entries.{Declaration}
use Rattle.sw_json.proofs.OneObject.{one_object, status_of_lines, value_once}
use Rattle.sw_json.specs.Answering.{read_value}
use Rattle.sw_json.specs.ObjectAnswers.{by_value}
use Rattle.sw_search.specs.declared.verdict.Verdict.TheVariants as verdict
use Rattle.sw_json.specs.VerdictValues.{verdict_value}
use Rattle.sw_changes.specs.MendValueLaws.{MendHasOneAnswer, MendHasStatusOfText, MendTextsAreLines}
use Rattle.sw_changes.specs.MendValues.{limiting_mends, mend_value, mending_value, mends_value, pair_value}

one_value : (d : Declaration) (m n : Mending) → text_laws.IsSameMending m n → mending_value d m ≡ mending_value d n
one_value d (Misrouted i p fault) (Misrouted j q other) same = λ t. verdict_value d (verdict.Misrouted (same.0 t) (same.1 t) (same.2 t))
one_value d Free Free same = refl
one_value d (Cyclic cures) (Cyclic other) same =
    let pairs = same_pairs cures other same in
    λ t. mends_value (limiting_mends d (same.limiting t) ++ (map (mend_value d) (same.changes t) ++ (map (pair_value d) (pairs t) ++ map (mend_value d) (same.units t))))
one_value d m n same = absurd same

module _ (one_mending : text_laws.MendingsAreDetermined) where
  statuses : (pairs : Bool) (d : Declaration) (m n : Mending) → IsMending pairs d m → IsMending pairs d n → mending_status m ≡ mending_status n
  statuses pairs d m n h k = one_status m n (one_mending pairs d m n h k)

  pub mend_has_one_answer : MendHasOneAnswer
  mend_has_one_answer pairs path release given =
      one_object (IsMending pairs) (by_value mending_value mending_status) (codes "mend") path (λ read. read_value path read ∷ []) release
      (λ d. value_once (IsMending pairs) mending_value mending_status (statuses pairs) d (λ m n h k. one_value d m n (one_mending pairs d m n h k))) given

  pub mend_has_status_of_text : MendHasStatusOfText
  mend_has_status_of_text pairs path release given =
      status_of_lines (IsMending pairs) (by_value mending_value mending_status) (codes "mend") path (λ read. read_value path read ∷ []) release mending_status
      (λ d m value status is. is.1) (IsMending pairs) mending_text mending_status (statuses pairs) given

-- ---- the lines

-- a line of a pair, and its LF
ended : (first second : List ℕ) → codes "free" ++ (codes " " ++ (first ++ (codes " " ++ (codes "and" ++ (codes " " ++ (second ++ codes "\n"))))))
    ≡ (codes "free" ++ (codes " " ++ (first ++ (codes " " ++ (codes "and" ++ (codes " " ++ second)))))) ++ codes "\n"
ended first second =
    ap (λ l. codes "free" ++ (codes " " ++ l)) (sym (append_assoc first (codes " " ++ (codes "and" ++ (codes " " ++ second))) (codes "\n")))

pub mend_texts_are_lines : MendTextsAreLines
mend_texts_are_lines = record { limits = λ d limiting. refl; single = λ d change. refl; pairs = λ d pair. ended (change_words d pair.first) (change_words d pair.second) }
