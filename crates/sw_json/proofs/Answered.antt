-- What is told round a result.
use Rattle.std.proofs.Common.{◌≡◌, ℕ, List, subst, sym}
use Rattle.std.specs.Prelude.{Err, IfOk, IsOkAnd, Ok, Result}
use Rattle.std.specs.declared.alloc.AllocError.{AllocError}
use Rattle.serde_json.specs.Data.{Data}
use Rattle.serde_json.specs.View.{view}
use Rattle.sw_text.specs.declared.answer.ByteAnswer.{ByteAnswer}
use Rattle.sw_json.specs.Texts.{ReadsBack, text_of}
use Rattle.sw_json.specs.declared.files.Release.{Release}
use Rattle.sw_json.specs.Answering.{IsAnswer, IsCommandOutcome, Results, Spells}
use Rattle.sw_json.specs.declared.command_outcome.CommandOutcome.{CommandOutcome}

-- what holds of this value and status
at_outcome : (R : Results) (value result : Data) (number status : ℕ) → IsCommandOutcome value number result status → R value number → R result status
at_outcome R value result number status is h =
    subst (λ (v : Data). R v status) (sym is.0) (subst (λ (n : ℕ). R value n) (sym is.1) h)

-- the answer round what was found is one of the results that this may be
pub with_result : (R : Results) (command : List ℕ) (files : List Data) (release : Release) (found : Result CommandOutcome AllocError) (r : Result ByteAnswer AllocError)
    → IfOk found (λ o. R (view o.result) o.status)
    → IfOk r (λ a. IsOkAnd found (λ o. IsAnswer command files release (IsCommandOutcome (view o.result) o.status) a.text.items a.status))
    → IfOk r (λ a. IsAnswer command files release R a.text.items a.status)
with_result R command files release (Ok o) (Ok a) h (result, is, spelled) = (result, at_outcome R (view o.result) result o.status a.status is h, spelled)
with_result R command files release (Err e) (Ok a) h answered = absurd answered
with_result R command files release found (Err e) h answered = tt

-- the text of a value that is the answer
pub spelled : (value known : Data) (text : List ℕ) → value ≡ known → text ≡ text_of value → ReadsBack value → Spells known text
spelled value known text is said back = subst (λ (v : Data). Spells v text) is (said, back)
