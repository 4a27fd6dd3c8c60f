-- From what was judged of each path to the findings of all.
use Rattle.std.proofs.Common.{◌≡◌, ◌∙◌, ℕ, zero, suc, ◌+◌, ◌<◌, ◌≤◌, Bool, true, false, List, [], ◌∷◌, ◌++◌, Some, Option, IfSome, filter, take, get_or, length, map, max, refl, sym, ap, subst, arith, unwrap_or}
use Rattle.std.specs.Borrow.{Bor}
use Rattle.std.specs.Prelude.{slice_get}
use Rattle.std.specs.List.{AllByRecursion, AllZip, enumerate_from, range_with_len, reduce}
use Rattle.std.proofs.lemmas.List.{length-map, length-take, map_more}
use Rattle.std.proofs.lemmas.List.FromFn.{length-range_with_len}
use Rattle.std.proofs.lemmas.Slice.Zip.{AllZip-long}
use Rattle.sw_json_verdicts.specs.AuditAnswers.{AreFindings, numbers_of, numbers_without_flows}
use Rattle.sw_json_verdicts.specs.AuditTexts.{worst}
use Rattle.sw_json_verdicts.specs.Findings.{Finding, IsFinding}
use Rattle.sw_json_verdicts.specs.Judgements.{AreJudged, IsJudgedAt, finding_of, findings_of}
use Rattle.sw_json_verdicts.specs.Stores.{Giving, Keeping}
use Rattle.sw_json_verdicts.specs.declared.judged.Judged.{Judged}
use Rattle.sw_json_verdicts.specs.declared.audit_options.AuditOptions.{AuditOptions}

module _ (Q : ℕ → List ℕ → Finding → Type 0) where
  -- the findings of paths, of which the first has the place a
  record AreFound (a : ℕ) (paths : List (List ℕ)) (fs : List Finding) : Type 0 where
    as_many : length fs ≡ length paths
    found : (i : ℕ) (path : List ℕ) (f : Finding) → slice_get paths i ≡ Some path → slice_get fs i ≡ Some f → Q (a + i) path f

  one_more : (a : ℕ) (p : List ℕ) (ps : List (List ℕ)) (f : Finding) (fs : List Finding) → Q a p f → AreFound (a + 1) ps fs
      → (i : ℕ) (path : List ℕ) (g : Finding) → slice_get (p ∷ ps) i ≡ Some path → slice_get (f ∷ fs) i ≡ Some g → Q (a + i) path g
  one_more a p ps f fs first rest zero path g at there =
      let one : p ≡ path = cc in
      let other : f ≡ g = cc in
      let start : a ≡ a + 0 = omega arith in
      subst (λ (x : Finding). Q (a + 0) path x) other (subst (λ (x : List ℕ). Q (a + 0) x f) one (subst (λ (n : ℕ). Q n p f) start first))
  one_more a p ps f fs first rest (suc i) path g at there =
      let next : a + 1 + i ≡ a + suc i = omega arith in
      subst (λ (n : ℕ). Q n path g) next (rest.found i path g at there)

  module _ (whole : List (List ℕ)) where
    abbrev At : ℕ → Judged → Type 0
    At i j = IfSome (slice_get whole i) (λ path. Q i path (finding_of path j))

    here : (a : ℕ) (p : List ℕ) (ps : List (List ℕ)) (j : Judged) → ((i : ℕ) → slice_get whole (a + i) ≡ slice_get (p ∷ ps) i) → At a j → Q a p (finding_of p j)
    here a p ps j same h =
        let P : Option (List ℕ) → Type 0 = λ o. IfSome o (λ path. Q a path (finding_of path j)) in
        let start : a ≡ a + 0 = omega arith in
        subst P (ap (slice_get whole) start ∙ same 0) h

    behind : (a : ℕ) (p : List ℕ) (ps : List (List ℕ)) → ((i : ℕ) → slice_get whole (a + i) ≡ slice_get (p ∷ ps) i) → (i : ℕ) → slice_get whole (a + 1 + i) ≡ slice_get ps i
    behind a p ps same i = let next : a + 1 + i ≡ a + suc i = omega arith in ap (slice_get whole) next ∙ same (suc i)

    are_found : (a : ℕ) (paths : List (List ℕ)) (all : List Judged) → ((i : ℕ) → slice_get whole (a + i) ≡ slice_get paths i)
        → AllZip At (range_with_len a (length paths)) all → AreFound a paths (findings_of paths all)
    are_found a [] [] same h = record { as_many = refl; found = λ i path f at there. absurd (cc) }
    are_found a [] (j ∷ js) same h = absurd h
    are_found a (p ∷ ps) [] same h = absurd h
    are_found a (p ∷ ps) (j ∷ js) same h =
        let rest = are_found (a + 1) ps js (behind a p ps same) h.1 in
        record {
          as_many = ap suc rest.as_many;
          found = one_more a p ps (finding_of p j) (findings_of ps js) (here a p ps j same h.0) rest;
        }

pub are_findings : (options : AuditOptions) (gives : Giving) (keeps : Keeping) (paths : List (List ℕ)) (all : List Judged)
    → AreJudged options gives keeps paths all → AreFindings options gives keeps paths (findings_of paths all)
are_findings options gives keeps paths all h =
    let Q : ℕ → List ℕ → Finding → Type 0 = λ place path f. IsFinding options gives keeps (place + 1) path f in
    let from_zero : (i : ℕ) → slice_get paths (0 + i) ≡ slice_get paths i = λ i. (let same : 0 + i ≡ i = omega arith in ap (slice_get paths) same) in
    let are = are_found Q paths 0 paths all from_zero h in
    record {
      as_many = are.as_many;
      found = λ i path f at there. (let same : 0 + i ≡ i = omega arith in subst (λ (n : ℕ). Q n path f) same (are.found i path f at there));
    }

-- what holds of each that is found of a path holds of all
pub each_found : (P : Finding → Type 0) (paths : List (List ℕ)) (fs : List Finding) → length fs ≡ length paths
    → ((i : ℕ) (path : List ℕ) (f : Finding) → slice_get paths i ≡ Some path → slice_get fs i ≡ Some f → P f) → AllByRecursion P fs
each_found P [] [] size each = tt
each_found P [] (f ∷ fs) size each = absurd (omega arith)
each_found P (p ∷ ps) [] size each = tt
each_found P (p ∷ ps) (f ∷ fs) size each =
    (each 0 p f refl refl, each_found P ps fs (omega arith) (λ i path g at there. each (suc i) path g at there))

-- what was judged of each place is what was judged of each path
pub are_judged : (options : AuditOptions) (gives : Giving) (keeps : Keeping) (paths : List (Bor (List ℕ))) (all : List Judged)
    → AllZip (IsJudgedAt options gives keeps (map (λ (s : Bor (List ℕ)). s.now) paths)) (range_with_len 0 (length paths)) all
    → AreJudged options gives keeps (map (λ (s : Bor (List ℕ)). s.now) paths) all
are_judged options gives keeps paths all h =
    let texts = map (λ (s : Bor (List ℕ)). s.now) paths in
    subst (λ (n : ℕ). AllZip (IsJudgedAt options gives keeps texts) (range_with_len 0 n) all) (sym (length-map paths (λ (s : Bor (List ℕ)). s.now))) h

-- what holds of the text of a place holds of that place's text among all
pub at_place : {X : Type 0} (f : X → List ℕ) (P : List ℕ → Type 0) (xs : List X) (i : ℕ) (d : X) → i < length xs → P (f (get_or xs i d)) → IfSome (slice_get (map f xs) i) P
at_place f P [] i d lt h = absurd (omega arith)
at_place f P (x ∷ xs) zero d lt h = h
at_place f P (x ∷ xs) (suc i) d lt h = at_place f P xs i d (omega arith) h

-- what holds of the one text holds of all
pub of_only : {X : Type 0} (f : X → List ℕ) (P : List (List ℕ) → Type 0) (xs : List X) (d : X) → 1 ≤ length xs → length xs < 2 → P (f (get_or xs 0 d) ∷ []) → P (map f xs)
of_only f P [] d some few h = absurd (omega arith)
of_only f P (x ∷ []) d some few h = h
of_only f P (x ∷ y ∷ xs) d some few h = absurd (omega arith)

-- ---- the worst status

same_statuses : (paths : List (List ℕ)) (all : List Judged) → length all ≡ length paths
    → map (λ (j : Judged). j.status) all ≡ map (λ (f : Finding). f.status) (findings_of paths all)
same_statuses [] [] size = refl
same_statuses [] (j ∷ js) size = absurd (omega arith)
same_statuses (p ∷ ps) [] size = absurd (omega arith)
same_statuses (p ∷ ps) (j ∷ js) size = ap (λ rest. j.status ∷ rest) (same_statuses ps js (omega arith))

pub is_worst : (options : AuditOptions) (gives : Giving) (keeps : Keeping) (paths : List (List ℕ)) (all : List Judged) → AreJudged options gives keeps paths all
    → unwrap_or (reduce max (map (λ (j : Judged). j.status) all)) 0 ≡ worst (findings_of paths all)
is_worst options gives keeps paths all h =
    let long = AllZip-long (IsJudgedAt options gives keeps paths) (range_with_len 0 (length paths)) all h in
    ap (λ statuses. unwrap_or (reduce max statuses) 0) (same_statuses paths all (long ∙ length-range_with_len 0 (length paths)))

-- ---- networks without flows

same_marks : (paths : List (List ℕ)) (all : List Judged) → length all ≡ length paths
    → map (λ (j : Judged). j.flowless) all ≡ map (λ (f : Finding). f.flowless) (findings_of paths all)
same_marks [] [] size = refl
same_marks [] (j ∷ js) size = absurd (omega arith)
same_marks (p ∷ ps) [] size = absurd (omega arith)
same_marks (p ∷ ps) (j ∷ js) size = ap (λ rest. j.flowless ∷ rest) (same_marks ps js (omega arith))

pub are_numbered : (options : AuditOptions) (gives : Giving) (keeps : Keeping) (paths : List (List ℕ)) (all : List Judged) → AreJudged options gives keeps paths all
    → numbers_of (map (λ (j : Judged). j.flowless) all) ≡ numbers_without_flows (findings_of paths all)
are_numbered options gives keeps paths all h =
    let long = AllZip-long (IsJudgedAt options gives keeps paths) (range_with_len 0 (length paths)) all h in
    ap numbers_of (same_marks paths all (long ∙ length-range_with_len 0 (length paths)))

marks_append : (a : ℕ) (marks : List Bool) (b : Bool) → enumerate_from a (marks ++ b ∷ []) ≡ enumerate_from a marks ++ (a + length marks, b) ∷ []
marks_append a [] b = let same : a ≡ a + 0 = omega arith in ap (λ n. (n, b) ∷ []) same
marks_append a (m ∷ ms) b =
    let same : a + 1 + length ms ≡ a + suc (length ms) = omega arith in
    ap (λ rest. (a, m) ∷ rest) (marks_append (a + 1) ms b ∙ ap (λ n. enumerate_from (a + 1) ms ++ (n, b) ∷ []) same)

filter_append : (xs ys : List (ℕ × Bool)) → filter (λ (e : ℕ × Bool). e.1) (xs ++ ys) ≡ filter (λ (e : ℕ × Bool). e.1) xs ++ filter (λ (e : ℕ × Bool). e.1) ys
filter_append [] ys = refl
filter_append ((n, true) ∷ xs) ys = ap (λ rest. (n, true) ∷ rest) (filter_append xs ys)
filter_append ((n, false) ∷ xs) ys = filter_append xs ys

map_append : (xs ys : List (ℕ × Bool)) → map (λ (e : ℕ × Bool). e.0) (xs ++ ys) ≡ map (λ (e : ℕ × Bool). e.0) xs ++ map (λ (e : ℕ × Bool). e.0) ys
map_append [] ys = refl
map_append (x ∷ xs) ys = ap (λ rest. x.0 ∷ rest) (map_append xs ys)

numbers_push : (marks : List Bool) (b : Bool) → numbers_of (marks ++ b ∷ []) ≡ numbers_of marks ++ map (λ (e : ℕ × Bool). e.0) (filter (λ (e : ℕ × Bool). e.1) ((1 + length marks, b) ∷ []))
numbers_push marks b =
    ap (λ them. map (λ (e : ℕ × Bool). e.0) (filter (λ (e : ℕ × Bool). e.1) them)) (marks_append 1 marks b)
    ∙ ap (map (λ (e : ℕ × Bool). e.0)) (filter_append (enumerate_from 1 marks) ((1 + length marks, b) ∷ []))
    ∙ map_append (filter (λ (e : ℕ × Bool). e.1) (enumerate_from 1 marks)) (filter (λ (e : ℕ × Bool). e.1) ((1 + length marks, b) ∷ []))

marks_push : (all : List Judged) (i : ℕ) (j : Judged) → i < length all → j ≡ get_or all i j
    → map (λ (j : Judged). j.flowless) (take (i + 1) all) ≡ map (λ (j : Judged). j.flowless) (take i all) ++ j.flowless ∷ []
marks_push all i j lt at = map_more (λ (j : Judged). j.flowless) all i j lt ∙ ap (λ (y : Judged). map (λ (j : Judged). j.flowless) (take i all) ++ y.flowless ∷ []) (sym at)

first_marks : (all : List Judged) (i : ℕ) → i ≤ length all → length (map (λ (j : Judged). j.flowless) (take i all)) ≡ i
first_marks all i le = length-map (take i all) (λ (j : Judged). j.flowless) ∙ length-take i all ∙ omega (arith, le)

-- one file more
pub one_marked : (all : List Judged) (i : ℕ) (j : Judged) (mark : Bool) (before : List ℕ) → i < length all → j ≡ get_or all i j → j.flowless ≡ mark
    → before ≡ numbers_of (map (λ (j : Judged). j.flowless) (take i all))
    → before ++ map (λ (e : ℕ × Bool). e.0) (filter (λ (e : ℕ × Bool). e.1) ((i + 1, mark) ∷ [])) ≡ numbers_of (map (λ (j : Judged). j.flowless) (take (i + 1) all))
one_marked all i j mark before lt at is so_far =
    let marks = map (λ (j : Judged). j.flowless) (take i all) in
    let number : i + 1 ≡ 1 + length marks = omega (arith, first_marks all i (omega arith)) in
    (λ t. so_far t ++ map (λ (e : ℕ × Bool). e.0) (filter (λ (e : ℕ × Bool). e.1) ((number t, sym is t) ∷ [])))
    ∙ sym (numbers_push marks j.flowless) ∙ ap numbers_of (sym (marks_push all i j lt at))
