-- Where the worst status is 0 each network never locks up.
use Rattle.std.proofs.Common.{◌≡◌, ◌∙◌, ℕ, zero, suc, ◌+◌, ◌-◌, ◌<◌, ◌≤◌, inl, inr, Bool, true, false, List, [], ◌∷◌, Result, Ok, Err, Some, length, map, max, refl, sym, ap, subst, arith}
use Rattle.std.specs.Prelude.{codes, slice_get, slice_index}
use Rattle.std.specs.List.{AllByRecursion, fold}
use Rattle.serde_json.specs.Data.{Data}
use Rattle.std.proofs.lemmas.Bool.{cases_lt, false≢true}
use Rattle.std.proofs.lemmas.List.{get_or_default, length-append}
use Rattle.std.proofs.lemmas.List.Elements.{recursion_from_All}
use Rattle.sw_app.specs.ShownDeadlockFree.{IsShownDeadlockFree}
use Rattle.sw_app.proofs.ShownFree.{has_text, shown_free}
use Rattle.sw_json_verdicts.specs.AuditTexts.{worst}
use Rattle.sw_json_verdicts.specs.Findings.{Finding, IsBareFinding, IsFinding, IsGivenFinding, IsStatus, IsTextFinding, IsVerdictEntry, kept_status, verdict_word}
use Rattle.sw_json_verdicts.specs.AuditLaws.{FreeIsShown, IsKeptFree, IsShownFree, ZeroIsFree}
use Rattle.sw_json_verdicts.specs.Names.{certificate_name}
use Rattle.sw_json_verdicts.specs.Stores.{Given, whole, too_long, unread, no_memory, Giving, Keeping}
use Rattle.sw_json_verdicts.specs.declared.audit_options.AuditOptions.{AuditOptions}
use Rattle.sw_cert.specs.Grammar.{spelling}
use Rattle.sw_cert.specs.Text.{Contents, OneSpelling}
use Rattle.sw_config.specs.Entries.{Declaration, all_flows}
use Rattle.sw_config.specs.Valid.{IsValid}
use Rattle.sw_config.proofs.Flows.{length-reply_flows}
use Rattle.sw_file.specs.Laws.{ReadNetworksAreValid}
use Rattle.sw_file.specs.Network.{network_text}
use Rattle.sw_flow.specs.Places.{ends_of}
use Rattle.sw_graph.specs.Laws.{IsAmong}
use Rattle.sw_graph.specs.Levels.{Chain, IsLevel, IsLevels}
use Rattle.sw_graph.proofs.Existence.{stop, stop_first, stop_inside, stop_last}
use Rattle.sw_graph.proofs.Pigeons.{chain_join, pigeons}
use Rattle.sw_json.specs.VerdictValues.{certificate_bytes}
use Rattle.sw_search.specs.Laws.{FreeIsAccepted}
use Rattle.sw_search.specs.Verdicts.{IsFree, IsVerdict, depends}
use Rattle.sw_search.specs.declared.verdict.Verdict.{Verdict}
use Rattle.sw_search.specs.declared.verdict.Verdict.TheVariants.{Misrouted, Cyclic, Free}
use Rattle.sw_search.proofs.Decided.{among}
use Rattle.sw_text.specs.declared.fault.TextFault.{TextFault}
use Rattle.sw_topo.proofs.Converse.{no_fault}

-- ---- levels are fewer than members

module _ (dep : ℕ → ℕ → Type 0) (count : ℕ) (among : IsAmong dep count) (levels : List ℕ) (are : IsLevels dep count levels) where
  -- of two members of a longest chain that are one the later has a chain that is too long
  twice : (c b v i j : ℕ) (h : Chain dep v b c) → c < count → IsLevel dep c v → i < j → j ≤ v → stop dep v b c h i ≡ stop dep v b c h j → ⊥
  twice c b v i j h lt is less within same =
      let at : ℕ = stop dep v b c h i in
      let inside = stop_inside dep count among v b c h i lt in
      let here : IsLevel dep at (slice_index levels at) = are.each at inside in
      let before : Chain dep (v - i) b at = stop_last dep v b c h i (v - i) (omega arith) in
      let high = here.greatest (v - i) b before in
      let behind : Chain dep j at c = subst (λ (x : ℕ). Chain dep j x c) (sym same) (stop_first dep v b c h j within) in
      let whole = chain_join dep (slice_index levels at) j here.reached.0 at c here.reached.1 behind (slice_index levels at + j) refl in
      let most = is.greatest (slice_index levels at + j) here.reached.0 whole in
      omega arith

  pub level_below : (c : ℕ) → c < count → slice_index levels c < count
  level_below c lt =
      let v : ℕ = slice_index levels c in
      let is : IsLevel dep c v = are.each c lt in
      let b : ℕ = is.reached.0 in
      let h : Chain dep v b c = is.reached.1 in
      elim (cases_lt v count) [
        | inl less ↦ less
        | inr long ↦
            let two = pigeons count (stop dep v b c h) (λ k le. stop_inside dep count among v b c h k lt) in
            let less = two.2 in
            let within = two.3 in
            absurd (twice c b v two.0 two.1 h lt is less (omega arith) two.4)
      ]

-- ---- a network that is read and free is shown to be free by its certificate

few_channels : (d : Declaration) → IsValid d → length (ends_of d) ≤ 2048
few_channels d valid = let rules = (no_fault _ valid.sound.wiring).0 valid.sound.faultless in rules.few_links

few_flows : (d : Declaration) → IsValid d → length (all_flows d) ≤ 8192
few_flows d valid = rw length-append (omega (arith, valid.few_flows, length-reply_flows d.flows))

numbers_fit : (d : Declaration) (contents : Contents) → IsValid d → IsFree d contents → AllByRecursion (λ v. v ≤ 65535) contents.numbers
numbers_fit d contents valid free =
    let few = few_channels d valid in
    let size = free.levels.size in
    recursion_from_All (λ v. v ≤ 65535) contents.numbers (λ k e lt.
    let below = level_below (depends d) (length (ends_of d)) (among d valid) contents.numbers free.levels k (omega arith) in
    omega (arith, get_or_default contents.numbers k 0 e lt, below))

pub record ShownLaws : Type 0 where
  pub valid : ReadNetworksAreValid
  pub accepted : FreeIsAccepted
  pub one_text : OneSpelling

module _ (laws : ShownLaws) where
  shown_by : (d : Declaration) (contents : Contents) → IsValid d → IsFree d contents → IsShownDeadlockFree d (certificate_bytes (Free contents))
  shown_by d contents valid free =
      let text = spelling contents.numbers contents.places in
      let has = has_text d contents valid (few_channels d valid) (few_flows d valid) (numbers_fit d contents valid free) free in
      let said = (laws.one_text text contents).1 (refl, has) in
      shown_free d (Free contents) text valid (laws.accepted d contents valid free).1 said refl

  module _ (options : AuditOptions) (gives : Giving) (keeps : Keeping) (number : ℕ) (path : List ℕ) (f : Finding) where
    -- ---- a file that is told as free

    -- the words for verdicts differ in their second letters
    not_free : (word : List ℕ) → (slice_index word 1 ≡ 114 → ⊥) → f.word ≡ word → f.word ≡ codes "free" → ⊥
    not_free word other is e = other (ap (λ (bytes : List ℕ). slice_index bytes 1) (sym is ∙ e))

    bare_not_free : (status : ℕ) (word : List ℕ) (verdict : Data) → (slice_index word 1 ≡ 114 → ⊥) → IsBareFinding options path status word verdict f
        → f.word ≡ codes "free" → IsShownFree options gives keeps number path f
    bare_not_free status word verdict other is e = absurd (not_free word other is.told_word e)

    of_verdict : (text : List ℕ) (d : Declaration) (v : Verdict) → gives path (whole text) → network_text text ≡ Ok d → IsVerdict d v
        → IsStatus options.certificates keeps (certificate_name number path) v f.status → (options.json ≡ true → IsVerdictEntry path text d v f.status f.object)
        → f.word ≡ verdict_word v → f.word ≡ codes "free" → IsShownFree options gives keeps number path f
    of_verdict text d (Misrouted i p fault) given declared is status object word e = absurd (not_free (codes "misrouted") (λ bad. omega (arith, bad)) word e)
    of_verdict text d (Cyclic cycle) given declared is status object word e = absurd (not_free (codes "cyclic") (λ bad. omega (arith, bad)) word e)
    of_verdict text d (Free contents) given declared is status object word e = record {
      text = text;
      given = given;
      network = d;
      declared = declared;
      contents = contents;
      free = is;
      shown = shown_by d contents (laws.valid text d declared) is;
      status = status;
      object = object;
    }

    of_text : (text : List ℕ) (read : Result Declaration TextFault) → gives path (whole text) → network_text text ≡ read
        → IsTextFinding options keeps number path text read f → f.word ≡ codes "free" → IsShownFree options gives keeps number path f
    of_text text (Ok d) given declared is e = of_verdict text d is.verdict given declared is.found is.status is.object is.word e
    of_text text (Err fault) given declared is e = absurd (not_free (codes "fault") (λ bad. omega (arith, bad)) is.word e)

    of_given : (given : Given) → gives path given → IsGivenFinding options keeps number path given f → f.word ≡ codes "free" → IsShownFree options gives keeps number path f
    of_given (whole text) given is e = of_text text (network_text text) given refl is e
    of_given too_long given is e = bare_not_free 3 (codes "fault") _ (λ bad. omega (arith, bad)) is e
    of_given unread given is e = bare_not_free 6 (codes "unread") _ (λ bad. omega (arith, bad)) is e
    of_given no_memory given is e = bare_not_free 5 (codes "memory") _ (λ bad. omega (arith, bad)) is e

    free_shown : IsFinding options gives keeps number path f → f.word ≡ codes "free" → IsShownFree options gives keeps number path f
    free_shown is e = elim is [
      | inl given ↦ of_given given.0 given.1 given.2 e
      | inr memory ↦ bare_not_free 5 (codes "memory") _ (λ bad. omega (arith, bad)) memory e
    ]

    -- ---- status 0 is that of free files alone

    not_zero : (status : ℕ) → (status ≡ 0 → ⊥) → f.status ≡ status → f.status ≡ 0 → f.word ≡ codes "free"
    not_zero status other is e = absurd (other (sym is ∙ e))

    word_of_verdict : (keeping : Bool) (v : Verdict) → IsStatus keeping keeps (certificate_name number path) v f.status → f.word ≡ verdict_word v → f.status ≡ 0 → f.word ≡ codes "free"
    word_of_verdict keeping (Misrouted i p fault) is word e = not_zero 1 (λ bad. omega (arith, bad)) is e
    word_of_verdict keeping (Cyclic cycle) is word e = not_zero 1 (λ bad. omega (arith, bad)) is e
    word_of_verdict keeping (Free contents) is word e = word

    word_of_text : (text : List ℕ) (read : Result Declaration TextFault) → IsTextFinding options keeps number path text read f → f.status ≡ 0 → f.word ≡ codes "free"
    word_of_text text (Ok d) is e = word_of_verdict options.certificates is.verdict is.status is.word e
    word_of_text text (Err fault) is e = not_zero 3 (λ bad. omega (arith, bad)) is.status e

    word_of_given : (given : Given) → IsGivenFinding options keeps number path given f → f.status ≡ 0 → f.word ≡ codes "free"
    word_of_given (whole text) is e = word_of_text text (network_text text) is e
    word_of_given too_long is e = not_zero 3 (λ bad. omega (arith, bad)) is.told_status e
    word_of_given unread is e = not_zero 6 (λ bad. omega (arith, bad)) is.told_status e
    word_of_given no_memory is e = not_zero 5 (λ bad. omega (arith, bad)) is.told_status e

    zero_word : IsFinding options gives keeps number path f → f.status ≡ 0 → f.word ≡ codes "free"
    zero_word is e = elim is [ inl given ↦ word_of_given given.0 given.2 e | inr memory ↦ not_zero 5 (λ bad. omega (arith, bad)) memory.told_status e ]

    kept_whole : (kept : Bool) → kept_status kept ≡ 0 → kept ≡ true
    kept_whole true e = refl
    kept_whole false e = absurd (let bad : 6 ≡ 0 = e in omega (arith, bad))

    kept_by : (keeping : Bool) (contents : Contents) → IsStatus keeping keeps (certificate_name number path) (Free contents) f.status → f.status ≡ 0 → keeping ≡ true
        → keeps (certificate_name number path) (certificate_bytes (Free contents)) true
    kept_by false contents is e asked = absurd (false≢true asked)
    kept_by true contents is e asked =
        subst (keeps (certificate_name number path) (certificate_bytes (Free contents))) (kept_whole is.0 (sym is.2 ∙ e)) is.1

    kept_free : IsFinding options gives keeps number path f → f.status ≡ 0 → IsKeptFree options gives keeps number path f
    kept_free is e =
        let free = free_shown is (zero_word is e) in
        record { free = free; kept = kept_by options.certificates free.contents free.status e }

  pub free_is_shown : (gives : Giving) (keeps : Keeping) → FreeIsShown gives keeps
  free_is_shown gives keeps options number path f is e = free_shown options gives keeps number path f is e

  same_place : (xs : List (List ℕ)) (ys : List Finding) (k : ℕ) (x : List ℕ) → length ys ≡ length xs → slice_get xs k ≡ Some x → (y : Finding) × (slice_get ys k ≡ Some y)
  same_place [] ys k x size at = absurd (cc)
  same_place (a ∷ xs) [] k x size at = absurd (omega arith)
  same_place (a ∷ xs) (y ∷ ys) zero x size at = (y, refl)
  same_place (a ∷ xs) (y ∷ ys) (suc k) x size at = same_place xs ys k x (omega arith) at

  none_of : (a : ℕ) (fs : List Finding) → fold max a (map (λ (x : Finding). x.status) fs) ≡ 0 → (a ≡ 0) × AllByRecursion (λ (x : Finding). x.status ≡ 0) fs
  none_of a [] e = (e, tt)
  none_of a (g ∷ fs) e =
      let rest = none_of (max a g.status) fs e in
      let first = rest.0 in
      (omega arith, (omega arith, rest.1))

  one_of : (fs : List Finding) (k : ℕ) (g : Finding) → AllByRecursion (λ (x : Finding). x.status ≡ 0) fs → slice_get fs k ≡ Some g → g.status ≡ 0
  one_of [] k g all at = absurd (cc)
  one_of (h ∷ fs) zero g all at = let same : h ≡ g = cc in subst (λ (x : Finding). x.status ≡ 0) same all.0
  one_of (h ∷ fs) (suc k) g all at = one_of fs k g all.1 at

  zero_at : (fs : List Finding) (k : ℕ) (g : Finding) → worst fs ≡ 0 → slice_get fs k ≡ Some g → g.status ≡ 0
  zero_at [] k g e at = absurd (cc)
  zero_at (h ∷ fs) k g e at = let rest = none_of h.status fs e in one_of (h ∷ fs) k g (rest.0, rest.1) at

  pub zero_is_free : (gives : Giving) (keeps : Keeping) → ZeroIsFree gives keeps
  zero_is_free gives keeps options paths findings i path are none at =
      let there = same_place paths findings i path are.as_many at in
      (there.0, there.1, kept_free options gives keeps (i + 1) path there.0 (are.found i path there.0 at there.1) (zero_at findings i there.0 none there.1))
