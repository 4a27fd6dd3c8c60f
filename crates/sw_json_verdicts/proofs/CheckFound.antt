-- What `check` finds of a certificate that is refused.
use Rattle.std.proofs.Common.{◌≡◌, ◌∙◌, ℕ, List}
use Rattle.std.specs.Prelude.{Err, IfOk, Ok, Result}
use Rattle.std.specs.declared.alloc.AllocError.{AllocError}
use Rattle.serde_json.specs.View.{view}
use Rattle.sw_json.specs.Answering.{IsCommandOutcome}
use Rattle.sw_json.specs.declared.command_outcome.CommandOutcome.{CommandOutcome}
use Rattle.sw_json_verdicts.specs.CheckResults.{Reason, refused_value}

-- the result for these parts and this text, where they are known
pub known_refusal : (parts reason : Reason) (text words : List ℕ) (r : Result CommandOutcome AllocError) → parts ≡ reason → text ≡ words
    → IfOk r (λ o. IsCommandOutcome (refused_value parts text) 1 (view o.result) o.status) → IfOk r (λ o. IsCommandOutcome (refused_value reason words) 1 (view o.result) o.status)
known_refusal parts reason text words (Ok o) same said is = (is.0 ∙ (λ i. refused_value (same i) (said i)), is.1)
known_refusal parts reason text words (Err e) same said is = is
