-- What an engine told that read bytes which are at hand.
use Rattle.std.proofs.Common.{◌≡◌, ◌<◌, ◌+◌, ◌⊎◌, ℕ, false, List, [], ◌∷◌, ◌++◌, Option, Some, codes, length, nat_le, inl, inr, sym, ap, ◌∙◌, subst, refl, arith}
use Rattle.std.proofs.lemmas.List.{append-nil, length-append}
use Rattle.std.proofs.lemmas.Bool.Decides.{nat_tests}
use Rattle.sw_output.specs.Lines.{line}
use Rattle.sw_text.specs.Ends.{Answers, AnswersBy, AnswersByTwo, AnswersToTwo, EndsBy, Gives, GivesAll, GivesText, IfShort, OrMemory, Says, limited, most_bytes}
use Rattle.sw_text.specs.declared.write_answer.Ended.{Ended}
use Rattle.sw_text.specs.declared.write_answer.Ended.TheVariants.{Status, ReadFailed, WriteFailed}
use Rattle.sw_app.specs.CheckAnswers.{IsCheckAnswer, IsCheckFinding, check_lines, check_status}
use Rattle.sw_app.specs.ShownDeadlockFree.{AreShownDeadlockFree, ChecksDeadlockFree}
use Rattle.sw_app.specs.declared.check_finding.CheckFinding.{CheckFinding}
use Rattle.sw_app.specs.declared.report_finding.ReportFinding.{ReportFinding}
use Rattle.sw_app.specs.VerdictAnswers.{DecidesDeadlockFree, IsReportAnswer, IsReportFinding, report_lines}
use Rattle.sw_engine.proofs.LineEnds.{in_lines, network_file_in_lines, two_files_in_lines, two_in_lines}
use Rattle.sw_engine.specs.LineAnswers.{memory_line}
use Rattle.sw_engine.specs.Engines as ends
use Rattle.sw_engine.specs.Engines.{AnswersByOne, AnswersInForm, AnswersToOne, AnswersToTwoInForm, EndsByOne}
use Rattle.serde_json.specs.Data.{Data}
use Rattle.sw_config.specs.Entries.{Declaration}
use Rattle.sw_json.proofs.ObjectEnds.{fault_of_two_told, fault_told, finding_of_two_told, finding_told, long_of_two_told, long_told, network_file_as_object, two_files_as_object}
use Rattle.sw_json_verdicts.specs.Release.{Release}
use Rattle.sw_json_verdicts.specs.CheckResults.{IsCheckJson, check_results}
use Rattle.sw_json_verdicts.specs.ReportResults.{IsReportJson, report_results}
use Rattle.sw_json_verdicts.specs.Answering.{Results, memory_text, read_value}
use Rattle.sw_engine.specs.Tellings.{TellsOr}
use Rattle.sw_c.specs.Given.{IsEnded, IsGiven, IsGivenSuch, IsObjectEnded, IsObjectGiven}

-- more bytes than the most are not at most so many
too_many : (n : ℕ) → most_bytes < n → nat_le n most_bytes ≡ false
too_many n more = grind (arith, nat_tests)

longer : (bytes rest : List ℕ) → length bytes ≡ most_bytes + 1 → most_bytes < length (bytes ++ rest)
longer bytes rest e = let whole = length-append bytes rest in omega (arith, whole, e)

-- what was read is all, or a beginning that is already too long
pub read_is : (bytes given rest : List ℕ) → Gives (Some bytes) (Some rest) given → (given ≡ bytes) ⊎ ((length given ≡ most_bytes + 1) × (most_bytes < length bytes))
read_is bytes given rest (all, inl end) = inl (sym (append-nil given) ∙ ap (λ (r : List ℕ). given ++ r) (sym end) ∙ sym all)
read_is bytes given rest (all, inr long) = inr (long, subst (λ (l : List ℕ). most_bytes < length l) (sym all) (longer given rest long))

short : (P : List ℕ → Answers) (bytes given rest : List ℕ) (text : List ℕ) (status : ℕ) → Gives (Some bytes) (Some rest) given → IfShort given (P given) text status → IfShort bytes (P bytes) text status
short P bytes given rest text status read said = elim (read_is bytes given rest read) [
  | inl same ↦ subst (λ (b : List ℕ). IfShort b (P b) text status) same said
  | inr long ↦
      let here : nat_le (length given) most_bytes ≡ false = too_many (length given) (let e = long.0 in omega arith) in
      let there : nat_le (length bytes) most_bytes ≡ false = too_many (length bytes) long.1 in
      let told : Says (line (codes "fault A1 TooLong" ∷ [])) 3 text status = rw here at said in
      rw there told
]

or_short : (P : List ℕ → Answers) (bytes rest text : List ℕ) (status : ℕ) → OrMemory (AnswersBy P (Some bytes) (Some rest)) text status → OrMemory (IfShort bytes (P bytes)) text status
or_short P bytes rest text status (inl answer) = inl (short P bytes answer.0 rest text status answer.1 answer.2)
or_short P bytes rest text status (inr memory) = inr memory

limited_is : (bytes given rest : List ℕ) → Gives (Some bytes) (Some rest) given → limited given ≡ limited bytes
limited_is bytes given rest read = elim (read_is bytes given rest read) [
  | inl same ↦ ap limited same
  | inr long ↦
      let here : nat_le (length given) most_bytes ≡ false = too_many (length given) (let e = long.0 in omega arith) in
      let there : nat_le (length bytes) most_bytes ≡ false = too_many (length bytes) long.1 in
      rw (here, there) refl
]

text_is : (bytes rest : List ℕ) (text : Option (List ℕ)) → GivesText (Some bytes) (Some rest) text → text ≡ limited bytes
text_is bytes rest text gives = gives.2 ∙ limited_is bytes gives.0 rest gives.1

or_limited : (P : AnswersToTwo) (first first_rest second second_rest text : List ℕ) (status : ℕ)
    → OrMemory (AnswersByTwo P (Some first) (Some first_rest) (Some second) (Some second_rest)) text status → OrMemory (P (limited first) (limited second)) text status
or_limited P first first_rest second second_rest text status (inl answer) =
    let one = text_is first first_rest answer.0 answer.2 in
    let other = text_is second second_rest answer.1 answer.3 in
    inl (subst (λ (t : Option (List ℕ)). P (limited first) t text status) other (subst (λ (t : Option (List ℕ)). P t answer.1 text status) one answer.4))
or_limited P first first_rest second second_rest text status (inr memory) = inr memory

-- the same of answers as JSON
abbrev OrObject : Answers → Answers
OrObject P text status = P text status ⊎ Says memory_text 5 text status

or_one : (P : AnswersToOne) (bytes rest text : List ℕ) (status : ℕ) → OrObject (AnswersByOne P (Some bytes) (Some rest)) text status → OrObject (P (limited bytes)) text status
or_one P bytes rest text status (inl answer) = inl (subst (λ (t : Option (List ℕ)). P t text status) (text_is bytes rest answer.0 answer.1) answer.2)
or_one P bytes rest text status (inr memory) = inr memory

or_two : (P : AnswersToTwo) (first first_rest second second_rest text : List ℕ) (status : ℕ)
    → OrObject (AnswersByTwo P (Some first) (Some first_rest) (Some second) (Some second_rest)) text status → OrObject (P (limited first) (limited second)) text status
or_two P first first_rest second second_rest text status (inl answer) =
    let one = text_is first first_rest answer.0 answer.2 in
    let other = text_is second second_rest answer.1 answer.3 in
    inl (subst (λ (t : Option (List ℕ)). P (limited first) t text status) other (subst (λ (t : Option (List ℕ)). P t answer.1 text status) one answer.4))
or_two P first first_rest second second_rest text status (inr memory) = inr memory

read_all : (bytes given rest : List ℕ) → GivesAll (Some bytes) (Some rest) given → given ≡ bytes
read_all bytes given rest (all, end) = sym (append-nil given) ∙ ap (λ (r : List ℕ). given ++ r) (sym end) ∙ sym all

-- what was told is what was given, with its status
moved : (Q : Answers) (text told : List ℕ) (number status : ℕ) → text ≡ told → number ≡ status → Q text number → Q told status
moved Q text told number status same equal may = subst (λ (s : ℕ). Q told s) equal (subst (λ (t : List ℕ). Q t number) same may)

-- the values of the network file alone
abbrev alone : List ℕ → Option (List ℕ) → List Data
alone path given = read_value path given ∷ []

-- the answers of `report` in an object, by what it finds
abbrev report_told : Declaration → ReportFinding → Results
report_told d found = report_results d found.findings

abbrev report_in_object : List ℕ → Release → AnswersToOne
report_in_object path release =
    AnswersInForm IsReportFinding (finding_told IsReportFinding report_told (codes "report") path (alone path) release)
    (fault_told IsReportFinding report_told (codes "report") path (alone path) release)
    (long_told IsReportFinding report_told (codes "report") path (alone path) release)

-- those of `check`
abbrev all_check_results : List ℕ → Option (List ℕ) → Declaration → CheckFinding → Results
all_check_results other second d found = check_results other d found

abbrev check_in_object : List ℕ → List ℕ → Release → AnswersToTwo
check_in_object path other release =
    AnswersToTwoInForm IsCheckFinding (finding_of_two_told IsCheckFinding all_check_results (codes "check") path other release)
    (fault_of_two_told IsCheckFinding all_check_results (codes "check") path other release)
    (long_of_two_told IsCheckFinding all_check_results (codes "check") path other release)

module _ (old text told room new : List ℕ) (count status : ℕ) (none : old ≡ []) (same : told ≡ text) where
  -- the text that was added to nothing
  whole : (added : List ℕ) → text ≡ old ++ added → added ≡ told
  whole added e = sym (same ∙ e ∙ ap (λ (o : List ℕ). o ++ added) none)

  pub given_one : (P : List ℕ → Answers) (bytes rest : List ℕ) (ended : Ended) → EndsBy P (Some bytes) (Some rest) (Some old) (Some text) ended
      → IsEnded ended told room new count status → IsGiven (IfShort bytes (P bytes)) room new count status
  given_one P bytes rest (Status n) ends is = (
    told,
    moved (OrMemory (IfShort bytes (P bytes))) ends.0 told ends.1 status (whole ends.0 ends.3.1) (sym (is.0 ∙ ends.3.0)) (or_short P bytes rest ends.0 ends.1 ends.2),
    is.1,
  )
  given_one P bytes rest ReadFailed ends is = (line (codes "fault memory" ∷ []), inr (refl, is.0), is.1)
  given_one P bytes rest WriteFailed ends is = (line (codes "fault memory" ∷ []), inr (refl, is.0), is.1)

  pub given_two : (P : AnswersToTwo) (first first_rest second second_rest : List ℕ) (ended : Ended)
      → ends.EndsByTwo memory_line P (Some first) (Some first_rest) (Some second) (Some second_rest) (Some old) (Some text) ended
      → IsEnded ended told room new count status → IsGiven (P (limited first) (limited second)) room new count status
  given_two P first first_rest second second_rest (Status n) ends is = (
    told,
    moved (OrMemory (P (limited first) (limited second))) ends.0 told ends.1 status (whole ends.0 ends.3.1) (sym (is.0 ∙ ends.3.0)) (or_limited P first first_rest second second_rest ends.0 ends.1 ends.2),
    is.1,
  )
  given_two P first first_rest second second_rest ReadFailed ends is = (line (codes "fault memory" ∷ []), inr (refl, is.0), is.1)
  given_two P first first_rest second second_rest WriteFailed ends is = (line (codes "fault memory" ∷ []), inr (refl, is.0), is.1)

  pub object_told : (P : Answers) (ended : Ended) → TellsOr memory_text P (Some old) (Some text) ended → IsObjectEnded ended told room new count status → IsObjectGiven P room new count status
  object_told P (Status n) ends is = (told, moved (OrObject P) ends.0 told ends.1 status (whole ends.0 ends.3.1) (sym (is.0 ∙ ends.3.0)) ends.2, is.1)
  object_told P ReadFailed ends is = (memory_text, inr (refl, is.0), is.1)
  object_told P WriteFailed ends is = (memory_text, inr (refl, is.0), is.1)

  pub object_of_one : (P : AnswersToOne) (bytes rest : List ℕ) (ended : Ended) → EndsByOne memory_text P (Some bytes) (Some rest) (Some old) (Some text) ended
      → IsObjectEnded ended told room new count status → IsObjectGiven (P (limited bytes)) room new count status
  object_of_one P bytes rest (Status n) ends is = (
    told,
    moved (OrObject (P (limited bytes))) ends.0 told ends.1 status (whole ends.0 ends.3.1) (sym (is.0 ∙ ends.3.0)) (or_one P bytes rest ends.0 ends.1 ends.2),
    is.1,
  )
  object_of_one P bytes rest ReadFailed ends is = (memory_text, inr (refl, is.0), is.1)
  object_of_one P bytes rest WriteFailed ends is = (memory_text, inr (refl, is.0), is.1)

  pub object_of_two : (P : AnswersToTwo) (first first_rest second second_rest : List ℕ) (ended : Ended)
      → ends.EndsByTwo memory_text P (Some first) (Some first_rest) (Some second) (Some second_rest) (Some old) (Some text) ended
      → IsObjectEnded ended told room new count status → IsObjectGiven (P (limited first) (limited second)) room new count status
  object_of_two P first first_rest second second_rest (Status n) ends is = (
    told,
    moved (OrObject (P (limited first) (limited second))) ends.0 told ends.1 status (whole ends.0 ends.3.1) (sym (is.0 ∙ ends.3.0))
        (or_two P first first_rest second second_rest ends.0 ends.1 ends.2),
    is.1,
  )
  object_of_two P first first_rest second second_rest ReadFailed ends is = (memory_text, inr (refl, is.0), is.1)
  object_of_two P first first_rest second second_rest WriteFailed ends is = (memory_text, inr (refl, is.0), is.1)

  -- ---- of `report`

  pub report_given : (bytes rest : List ℕ) (ended : Ended)
      → EndsByOne memory_line (in_lines IsReportFinding report_lines (λ _. 0)) (Some bytes) (Some rest) (Some old) (Some text) ended
      → IsEnded ended told room new count status → IsGiven (IfShort bytes (IsReportAnswer bytes)) room new count status
  report_given bytes rest ended ends is =
      given_one IsReportAnswer bytes rest ended
      (network_file_in_lines IsReportFinding report_lines (λ _. 0) (Some bytes) (Some rest) (Some old) (Some text) ended ends) is

  -- as an object, of the file of that path
  pub report_object_given : (path : List ℕ) (release : Release) (bytes rest : List ℕ) (ended : Ended)
      → EndsByOne memory_text (report_in_object path release) (Some bytes) (Some rest) (Some old) (Some text) ended
      → IsObjectEnded ended told room new count status → IsObjectGiven (IsReportJson path release (limited bytes)) room new count status
  report_object_given path release bytes rest ended ends is =
      object_of_one (IsReportJson path release) bytes rest ended
      (network_file_as_object IsReportFinding report_told (codes "report") path (alone path) release
      (Some bytes) (Some rest) (Some old) (Some text) ended ends) is

  -- ---- of `check`

  pub check_given : (first first_rest second second_rest : List ℕ) (ended : Ended)
      → ends.EndsByTwo memory_line (two_in_lines IsCheckFinding check_lines check_status) (Some first) (Some first_rest) (Some second) (Some second_rest)
      (Some old) (Some text) ended
      → IsEnded ended told room new count status → IsGiven (IsCheckAnswer (limited first) (limited second)) room new count status
  check_given first first_rest second second_rest ended is =
      given_two IsCheckAnswer first first_rest second second_rest ended
      (two_files_in_lines IsCheckFinding check_lines check_status (Some first) (Some first_rest) (Some second) (Some second_rest) (Some old) (Some text) ended is)

  -- as an object, of the files of these paths
  pub check_object_given : (path other : List ℕ) (release : Release) (first first_rest second second_rest : List ℕ) (ended : Ended)
      → ends.EndsByTwo memory_text (check_in_object path other release) (Some first) (Some first_rest) (Some second) (Some second_rest) (Some old) (Some text) ended
      → IsObjectEnded ended told room new count status → IsObjectGiven (IsCheckJson path other release (limited first) (limited second)) room new count status
  check_object_given path other release first first_rest second second_rest ended is =
      object_of_two (IsCheckJson path other release) first first_rest second second_rest ended
      (two_files_as_object IsCheckFinding all_check_results (codes "check") path other release (Some first) (Some first_rest) (Some second) (Some second_rest)
      (Some old) (Some text) ended is)

  pub object_ended_well : (ended : Ended) → IsObjectEnded ended told room new count status → status ≡ 0 → ended ≡ Status 0
  object_ended_well (Status n) is zero = ap Status (sym is.0 ∙ zero)
  object_ended_well ReadFailed is zero = absurd (let bad : 5 ≡ 0 = sym is.0 ∙ zero in omega arith)
  object_ended_well WriteFailed is zero = absurd (let bad : 5 ≡ 0 = sym is.0 ∙ zero in omega arith)

  pub ended_well : (ended : Ended) → IsEnded ended told room new count status → status ≡ 0 → ended ≡ Status 0
  ended_well (Status n) is zero = ap Status (sym is.0 ∙ zero)
  ended_well ReadFailed is zero = absurd (let bad : 5 ≡ 0 = sym is.0 ∙ zero in omega arith)
  ended_well WriteFailed is zero = absurd (let bad : 5 ≡ 0 = sym is.0 ∙ zero in omega arith)

  -- a certificate that was written was given
  pub shown_given : (bytes rest : List ℕ) (ended : Ended) → IsEnded ended told room new count status → status ≡ 0
      → DecidesDeadlockFree (Some bytes) (Some rest) (Some old) (Some text) → IsGivenSuch (AreShownDeadlockFree bytes) room new count
  shown_given bytes rest (Status n) is zero shown =
      let given = shown.0 in
      let all : given ≡ bytes = read_all bytes given rest shown.1 in
      let written = shown.2 in (
        told,
        subst (λ (t : List ℕ). AreShownDeadlockFree bytes t) (whole written.0 written.2) (subst (λ (b : List ℕ). AreShownDeadlockFree b written.0) all written.1),
        is.1,
      )
  shown_given bytes rest ReadFailed is zero shown = absurd (let bad : 5 ≡ 0 = sym is.0 ∙ zero in omega arith)
  shown_given bytes rest WriteFailed is zero shown = absurd (let bad : 5 ≡ 0 = sym is.0 ∙ zero in omega arith)

-- a certificate that was accepted is one that was given
pub shown_two : (first first_rest second second_rest : List ℕ) → ChecksDeadlockFree (Some first) (Some first_rest) (Some second) (Some second_rest) → AreShownDeadlockFree first second
shown_two first first_rest second second_rest shown =
    let one : shown.0 ≡ first = read_all first shown.0 first_rest shown.1 in
    let other : shown.2.0 ≡ second = read_all second shown.2.0 second_rest shown.2.1 in
    subst (λ (b : List ℕ). AreShownDeadlockFree first b) other (subst (λ (a : List ℕ). AreShownDeadlockFree a shown.2.0) one shown.2.2)
