-- A verdict with status 0 has a certificate, which is accepted for a network that never locks up.
use Rattle.std.proofs.Common.{◌≡◌, ℕ, ◌≤◌, List, [], ◌∷◌, arith, length}
use Rattle.std.specs.List.{AllByRecursion, AllZip}
use Rattle.std.proofs.lemmas.List.Elements.{recursion_from_All}
use Rattle.sw_config.specs.Entries.{FlowEntry, Declaration, all_flows}
use Rattle.sw_config.specs.Valid.{IsFlow, IsValid}
use Rattle.sw_flow.specs.declared.place.Place.{Place}
use Rattle.sw_flow.specs.Places.{ends_of, IsPlaceList}
use Rattle.sw_cert.specs.Grammar.{HasText, IsBlock}
use Rattle.sw_cert.specs.Text.{Contents}
use Rattle.sw_cert.proofs.Accepted.{not_refused_is_accepted}
use Rattle.sw_cert.proofs.Headline.{is_free}
use Rattle.sw_cert.specs.Contents.{certificate_of}
use Rattle.sw_search.specs.declared.verdict.Verdict.{Verdict}
use Rattle.sw_search.specs.declared.verdict.Verdict.TheVariants.{Misrouted, Cyclic, Free}
use Rattle.sw_search.specs.Laws.{IsChecked}
use Rattle.sw_search.specs.Verdicts.{IsFree}
use Rattle.sw_search.proofs.Blocks.{all_are_flows, is_block}
use Rattle.sw_search.proofs.Zips.{zip_length}
use Rattle.sw_app.specs.ShownDeadlockFree.{IsShownDeadlockFree}
use Rattle.sw_app.specs.VerdictAnswers.{SaysCertificate, verdict_status}

-- ---- a free network's certificate has a text

all_blocks : (d : Declaration) → length (ends_of d) ≤ 2048 → (flows : List FlowEntry) (lists : List (List Place)) → AllByRecursion (IsFlow d.nodes) flows
    → AllZip (IsPlaceList d) flows lists → AllByRecursion IsBlock lists
all_blocks d few [] [] ok listed = tt
all_blocks d few [] (l ∷ lists) ok listed = absurd listed
all_blocks d few (f ∷ flows) [] ok listed = absurd listed
all_blocks d few (f ∷ flows) (l ∷ lists) ok listed = (is_block d f few ok.0.address l listed.0, all_blocks d few flows lists ok.1 listed.1)

pub has_text : (d : Declaration) (contents : Contents) → IsValid d → length (ends_of d) ≤ 2048 → length (all_flows d) ≤ 8192
    → AllByRecursion (λ v. v ≤ 65535) contents.numbers → IsFree d contents → HasText contents.numbers contents.places
has_text d contents valid few few_flows fit free =
    let same = zip_length (IsPlaceList d) (all_flows d) contents.places free.places in
    let size = free.levels.size in
    record {
      channels = omega arith;
      numbers_fit = fit;
      few = omega arith;
      blocks = all_blocks d few (all_flows d) contents.places (recursion_from_All (IsFlow d.nodes) (all_flows d) (all_are_flows d valid)) free.places;
    }

-- ---- a verdict with status 0

pub shown_free : (d : Declaration) (v : Verdict) (text : List ℕ) → IsValid d → IsChecked d v → SaysCertificate text v → verdict_status v ≡ 0 → IsShownDeadlockFree d text
shown_free d (Misrouted i p fault) text valid checked said none = absurd (let bad : 1 ≡ 0 = none in omega (arith, bad))
shown_free d (Cyclic cycle) text valid checked said none = absurd (let bad : 1 ≡ 0 = none in omega (arith, bad))
shown_free d (Free contents) text valid checked said none =
    let accepted = (not_refused_is_accepted d contents valid).0 checked in
    record { contents = contents; said = said; accepted = accepted; deadlock_free = is_free d (certificate_of contents) valid accepted }
