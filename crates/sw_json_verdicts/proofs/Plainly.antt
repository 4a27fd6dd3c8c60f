-- The object of each finding has a text that reads back.
use Rattle.std.proofs.Common.{◌≡◌, ◌∙◌, ◌≤◌, inl, inr, ℕ, ◌+◌, Bool, true, false, cond, All, List, [], ◌∷◌, map, Result, Ok, Err, IfOk, ap, subst, sym, arith}
use Rattle.std.specs.Prelude.{codes}
use Rattle.std.specs.List.{AllByRecursion, zip}
use Rattle.std.proofs.lemmas.List.Elements.{All-from_recursion, recursion_from_All}
use Rattle.serde_json.specs.Data.{Data, depth}
use Rattle.serde_json.specs.Read.{max_depth}
use Rattle.sw_json_verdicts.specs.AuditAnswers.{AreFindings}
use Rattle.sw_json_verdicts.specs.AuditTexts.{is_told, objects, told}
use Rattle.sw_json_verdicts.specs.Findings.{Finding, IsFinding, IsGivenFinding, IsTextFinding}
use Rattle.sw_json_verdicts.specs.Stores.{Given, whole, too_long, unread, no_memory, Giving, Keeping}
use Rattle.sw_json_verdicts.specs.declared.audit_options.AuditOptions.{AuditOptions}
use Rattle.sw_config.specs.Entries.{Declaration}
use Rattle.sw_file.specs.Network.{network_text}
use Rattle.sw_json.specs.FaultValues.{long_value}
use Rattle.sw_json.specs.FileValues.{audit_value, bare_entry, kind_value, read_entry}
use Rattle.sw_json.specs.Plain.{IsPlain, AuditsArePlain, EntriesArePlain, FaultsArePlain, KindsArePlain, PlainAtMore, VerdictsArePlain}
use Rattle.sw_json.specs.Texts.{ReadsBack, text_of}
use Rattle.sw_json.specs.VerdictValues.{verdict_value}
use Rattle.sw_text.specs.declared.fault.TextFault.{TextFault}
use Rattle.sw_json_verdicts.proofs.Chosen.{each_found}

-- what holds of the values that a finding's object is made of
pub record PlainLaws : Type 0 where
  pub at_more : PlainAtMore
  pub verdicts : VerdictsArePlain
  pub faults : FaultsArePlain
  pub kinds : KindsArePlain
  pub entries : EntriesArePlain

module _ (laws : PlainLaws) where
  bare : (path : List ℕ) (status : ℕ) (verdict value : Data) → IsPlain 1 verdict → value ≡ bare_entry path status verdict → IsPlain 5 value
  bare path status verdict value plain e =
      subst (IsPlain 5) (sym e) (laws.at_more 2 5 (bare_entry path status verdict) (omega arith) (laws.entries 1 path [] [] status verdict (omega arith) plain).1)

  module _ (options : AuditOptions) (json : options.json ≡ true) (keeps : Keeping) (number : ℕ) (path : List ℕ) (f : Finding) where
    of_text : (text : List ℕ) (read : Result Declaration TextFault) → IsTextFinding options keeps number path text read f → IsPlain 5 f.object
    of_text text (Ok d) is =
        let entry = is.object json in
        subst (IsPlain 5) (sym entry.2) (laws.entries 4 path text entry.0 f.status (verdict_value d is.verdict) (omega arith) (laws.verdicts d is.verdict)).0
    of_text text (Err fault) is =
        let entry = is.object json in
        let plain = subst (IsPlain 1) (sym entry.1.2) (laws.faults.of_texts text fault entry.1.0) in
        subst (IsPlain 5) (sym entry.2)
        (laws.at_more 2 5 (read_entry path text [] 3 entry.0) (omega arith) (laws.entries 1 path text [] 3 entry.0 (omega arith) plain).0)

    of_given : (given : Given) → IsGivenFinding options keeps number path given f → IsPlain 5 f.object
    of_given (whole text) is = of_text text (network_text text) is
    of_given too_long is = bare path 3 long_value f.object laws.faults.of_long_texts (is.object json)
    of_given unread is = bare path 6 (kind_value (codes "unread")) f.object (laws.kinds (codes "unread")) (is.object json)
    of_given no_memory is = bare path 5 (kind_value (codes "memory")) f.object (laws.kinds (codes "memory")) (is.object json)

    of_finding : (gives : Giving) → IsFinding options gives keeps number path f → IsPlain 5 f.object
    of_finding gives is = elim is [
      | inl given ↦ of_given given.0 given.2
      | inr memory ↦ of_given no_memory memory
    ]

  pub findings_are_plain : (options : AuditOptions) (gives : Giving) (keeps : Keeping) (paths : List (List ℕ)) (fs : List Finding) → options.json ≡ true
      → AreFindings options gives keeps paths fs → All (λ f. IsPlain 5 f.object) fs
  findings_are_plain options gives keeps paths fs json are =
      All-from_recursion (λ f. IsPlain 5 f.object) fs
      (each_found (λ f. IsPlain 5 f.object) paths fs are.as_many (λ i path f at there. of_finding options json keeps (i + 1) path f gives (are.found i path f at there)))

-- ---- the objects of those that are told

told_one : (b : Bool) (x : List ℕ × Finding) (xs : List (List ℕ × Finding)) → IsPlain 5 x.1.object → AllByRecursion (IsPlain 5) (map (λ (p : List ℕ × Finding). p.1.object) xs)
    → AllByRecursion (IsPlain 5) (map (λ (p : List ℕ × Finding). p.1.object) (cond b (x ∷ xs) xs))
told_one true x xs one rest = (one, rest)
told_one false x xs one rest = rest

told_plain : (quiet : Bool) (paths : List (List ℕ)) (fs : List Finding) → AllByRecursion (λ f. IsPlain 5 f.object) fs → AllByRecursion (IsPlain 5) (objects quiet (zip paths fs))
told_plain quiet [] fs all = tt
told_plain quiet (p ∷ ps) [] all = tt
told_plain quiet (p ∷ ps) (f ∷ fs) all = told_one (is_told quiet f.status) (p, f) (told quiet (zip ps fs)) all.0 (told_plain quiet ps fs all.1)

pub objects_are_plain : (quiet : Bool) (paths : List (List ℕ)) (fs : List Finding) → All (λ f. IsPlain 5 f.object) fs → All (IsPlain 5) (objects quiet (zip paths fs))
objects_are_plain quiet paths fs all =
    All-from_recursion (IsPlain 5) (objects quiet (zip paths fs)) (told_plain quiet paths fs (recursion_from_All (λ f. IsPlain 5 f.object) fs all))

-- ---- the text of a value

pub written : {S E : Type 0} (r : Result S E) (bytes : S → List ℕ) (value told : Data) → value ≡ told → IsPlain 7 told → IfOk r (λ s. bytes s ≡ text_of value)
    → (depth value ≤ max_depth → IfOk r (λ s. ReadsBack value)) → IfOk r (λ s. (bytes s ≡ text_of told) × ReadsBack told)
written (Ok s) bytes value told e plain text back =
    let flat : depth value ≤ max_depth = rw e (omega (arith, plain.flat)) in
    (text ∙ ap text_of e, subst ReadsBack e (back flat))
written (Err none) bytes value told e plain text back = tt

pub audits_plain : AuditsArePlain → (options : AuditOptions) (paths : List (List ℕ)) (fs : List Finding) → All (λ f. IsPlain 5 f.object) fs
    → IsPlain 7 (audit_value (objects options.quiet (zip paths fs)) options.release.toolchain.now options.release.version.now)
audits_plain law options paths fs all =
    law 5 (objects options.quiet (zip paths fs)) options.release.toolchain.now options.release.version.now (objects_are_plain options.quiet paths fs all)
