-- `decide` has one answer.
use Rattle.std.proofs.Common.{◌≡◌, ◌∙◌, ℕ, List, [], ◌∷◌, ◌++◌, ap, length, map, refl, sym}
use Rattle.sw_config.specs.Entries.{Declaration}
use Rattle.sw_engine.proofs.LineEnds.{one_in_lines}
use Rattle.sw_cert.specs.Grammar.{spelling}
use Rattle.sw_cert.specs.Text.{Contents}
use Rattle.sw_search.specs.Cycles.{ByFlow, ByTarget, CauseEntry, CycleEntry}
use Rattle.sw_search.specs.Laws.{IsSameCycle, without_places}
use Rattle.sw_search.specs.declared.verdict.Verdict.{Verdict}
use Rattle.sw_search.specs.declared.verdict.Verdict.TheVariants.{Misrouted, Cyclic, Free}
use Rattle.sw_search.specs.Verdicts.{IsVerdict}
use Rattle.sw_search.proofs.Determined.{determined}
use Rattle.sw_output.specs.VerdictTexts.{cycle_line, cycle_lines, cycle_text, cyclic_words, misrouted_words}
use Rattle.sw_output.specs.Lines.{line}
use Rattle.sw_app.specs.Laws.{DecideHasOneAnswer}
use Rattle.sw_app.specs.VerdictAnswers.{IsDecideFinding, decide_lines, decide_status, verdict_status, verdict_text}

-- a cycle's text says nothing of the places that show its causes
without : (d : Declaration) (channels : List ℕ) (causes : List CauseEntry) → cycle_lines d channels causes ≡ cycle_lines d channels (map without_places causes)
without d [] xs = refl
without d (c ∷ cs) [] = refl
without d (c ∷ cs) (ByTarget t ∷ xs) = ap (λ (lines : List ℕ). cycle_line d c (ByTarget t) ++ lines) (without d cs xs)
without d (c ∷ cs) (ByFlow i places ∷ xs) = ap (λ (lines : List ℕ). cycle_line d c (ByFlow i places) ++ lines) (without d cs xs)

same_text : (d : Declaration) (cycle other : CycleEntry) → IsSameCycle cycle other → cycle_text d cycle ≡ cycle_text d other
same_text d cycle other same =
    let lines : cycle_lines d cycle.channels cycle.causes ≡ cycle_lines d other.channels other.causes =
    without d cycle.channels cycle.causes ∙ (λ i. cycle_lines d (same.channels i) (same.causes i)) ∙ sym (without d other.channels other.causes) in
    λ i. line (cyclic_words (length (same.channels i)) ∷ []) ++ lines i

verdict_once : (d : Declaration) (v w : Verdict) → IsVerdict d v → IsVerdict d w → (verdict_text d v ≡ verdict_text d w) × (verdict_status v ≡ verdict_status w)
verdict_once d (Misrouted i p fault) (Misrouted j q other) h k =
    let same = determined d (Misrouted i p fault) (Misrouted j q other) h k in
    ((λ t. line (misrouted_words d (same.0 t) (same.1 t) (same.2 t) ∷ [])), refl)
verdict_once d (Misrouted i p fault) (Cyclic cycle) h k = absurd (determined d (Misrouted i p fault) (Cyclic cycle) h k)
verdict_once d (Misrouted i p fault) (Free contents) h k = absurd (determined d (Misrouted i p fault) (Free contents) h k)
verdict_once d (Cyclic cycle) (Misrouted i p fault) h k = absurd (determined d (Cyclic cycle) (Misrouted i p fault) h k)
verdict_once d (Cyclic cycle) (Free contents) h k = absurd (determined d (Cyclic cycle) (Free contents) h k)
verdict_once d (Free contents) (Misrouted i p fault) h k = absurd (determined d (Free contents) (Misrouted i p fault) h k)
verdict_once d (Free contents) (Cyclic cycle) h k = absurd (determined d (Free contents) (Cyclic cycle) h k)
verdict_once d (Free contents) (Free other) h k =
    let same = determined d (Free contents) (Free other) h k in
    (ap (λ (c : Contents). spelling c.numbers c.places) same, refl)
verdict_once d (Cyclic cycle) (Cyclic other) h k =
    (same_text d cycle other (determined d (Cyclic cycle) (Cyclic other) h k), refl)

pub decide_has_one_answer : DecideHasOneAnswer
decide_has_one_answer = one_in_lines IsDecideFinding decide_lines decide_status (λ d x y h k. verdict_once d x.verdict y.verdict h k)
