-- `report` has one answer.
use Rattle.std.proofs.Common.{◌≡◌, ◌∙◌, ℕ, List, ap, length, map, refl, sym}
use Rattle.std.specs.Prelude.{sum}
use Rattle.sw_config.specs.Entries.{Declaration, all_flows}
use Rattle.sw_engine.proofs.LineEnds.{one_in_lines}
use Rattle.sw_flow.specs.declared.place.Place.{Place}
use Rattle.sw_flow.specs.Places.{IsPlaceList}
use Rattle.sw_cert.specs.Text.{Contents}
use Rattle.sw_search.specs.declared.verdict.Verdict.{Verdict}
use Rattle.sw_search.specs.declared.verdict.Verdict.TheVariants.{Misrouted, Cyclic, Free}
use Rattle.sw_search.specs.Findings.{AreFindings, IsDependencyCount, IsPlaceCount}
use Rattle.sw_search.specs.declared.verdict.Findings.{Findings}
use Rattle.sw_search.specs.Verdicts.{IsVerdict}
use Rattle.sw_search.proofs.Determined.{determined}
use Rattle.sw_flow.proofs.Sorted.{same_places}
use Rattle.sw_search.proofs.Zips.{zip_determined}
use Rattle.sw_output.specs.ReportTexts.{report_text}
use Rattle.sw_output.specs.VerdictTexts.{cyclic_words, free_words, misrouted_words}
use Rattle.sw_app.specs.Laws.{ReportHasOneAnswer}
use Rattle.sw_app.specs.VerdictAnswers.{IsReportFinding, report_lines, verdict_words}
use Rattle.sw_app.proofs.OneCount.{one_count}

words_once : (d : Declaration) (v w : Verdict) → IsVerdict d v → IsVerdict d w → verdict_words d v ≡ verdict_words d w
words_once d (Misrouted i p fault) (Misrouted j q other) h k =
    let same = determined d (Misrouted i p fault) (Misrouted j q other) h k in
    (λ t. misrouted_words d (same.0 t) (same.1 t) (same.2 t))
words_once d (Misrouted i p fault) (Cyclic cycle) h k = absurd (determined d (Misrouted i p fault) (Cyclic cycle) h k)
words_once d (Misrouted i p fault) (Free contents) h k = absurd (determined d (Misrouted i p fault) (Free contents) h k)
words_once d (Cyclic cycle) (Misrouted i p fault) h k = absurd (determined d (Cyclic cycle) (Misrouted i p fault) h k)
words_once d (Cyclic cycle) (Free contents) h k = absurd (determined d (Cyclic cycle) (Free contents) h k)
words_once d (Free contents) (Misrouted i p fault) h k = absurd (determined d (Free contents) (Misrouted i p fault) h k)
words_once d (Free contents) (Cyclic cycle) h k = absurd (determined d (Free contents) (Cyclic cycle) h k)
words_once d (Cyclic cycle) (Cyclic other) h k =
    let same = determined d (Cyclic cycle) (Cyclic other) h k in
    ap (λ (cs : List ℕ). cyclic_words (length cs)) same.channels
words_once d (Free contents) (Free other) h k =
    let same = determined d (Free contents) (Free other) h k in
    ap (λ (c : Contents). free_words c.numbers) same

pub places_once : (d : Declaration) (m n : ℕ) → IsPlaceCount d m → IsPlaceCount d n → m ≡ n
places_once d m n p q =
    let same : p.places ≡ q.places = zip_determined (IsPlaceList d) (λ f xs ys a b. same_places d f xs ys a b) (all_flows d) p.places q.places p.listed q.listed in
    p.counted ∙ (ap (λ (lists : List (List Place)). sum (map length lists)) same ∙ sym q.counted)

pub dependencies_once : (d : Declaration) (m n : ℕ) → IsDependencyCount d m → IsDependencyCount d n → m ≡ n
dependencies_once d m n p q =
    let same = one_count p.pairs q.pairs p.once q.once (λ z here. (q.member z).1 ((p.member z).0 here)) (λ z here. (p.member z).1 ((q.member z).0 here)) in
    p.counted ∙ (same ∙ sym q.counted)

findings_once : (d : Declaration) (f g : Findings) → AreFindings d f → AreFindings d g
    → report_text d f.places f.dependencies (verdict_words d f.verdict) ≡ report_text d g.places g.dependencies (verdict_words d g.verdict)
findings_once d f g h k =
    let places = places_once d f.places g.places h.places k.places in
    let dependencies = dependencies_once d f.dependencies g.dependencies h.dependencies k.dependencies in
    let words = words_once d f.verdict g.verdict h.verdict k.verdict in
    (λ i. report_text d (places i) (dependencies i) (words i))

pub report_has_one_answer : ReportHasOneAnswer
report_has_one_answer = one_in_lines IsReportFinding report_lines (λ _. 0) (λ d x y h k. (findings_once d x.findings y.findings h k, refl))
