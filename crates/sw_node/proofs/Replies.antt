-- Where a reply's address ends.
use Rattle.std.proofs.Common.{◌≡◌, ℕ, ◌≤◌, List, take, drop, length, Option, Some, None, refl, ap, sym, ◌∙◌, arith, length-append}
use Rattle.std.proofs.lemmas.Bool.{true≢false}
use Rattle.std.proofs.lemmas.List.{take_at}
use Rattle.std.specs.Prelude.{is_some}
use Rattle.sw_char.specs.declared.nchar.End.{End}
use Rattle.sw_rmap.specs.Targets.{parted, slots_of}
use Rattle.sw_node.specs.Changes.{with_memory}
use Rattle.sw_node.specs.Node.{config_of}
use Rattle.sw_rmap.specs.Answers.{TargetView, answer}
use Rattle.sw_rmap.specs.Laws.{AnswersByTheWayBack}
use Rattle.sw_rmap.specs.Replies.{reply_to}
use Rattle.sw_rmap.specs.declared.config.TargetConfig.{TargetConfig}

module _ (law : AnswersByTheWayBack) (t : TargetConfig) (memory bytes : List ℕ) (end : End) (way reply : List ℕ) where
  pub address_within : (answer t memory bytes end).0 ≡ Some reply → reply_to bytes ≡ Some way → length way ≤ length reply
  address_within answered back =
      let l = (law t memory bytes end).1 reply way answered back in
      omega (arith, ap (λ (x : List ℕ). length x) l.1, length-append way l.0)

  pub address_is : (answer t memory bytes end).0 ≡ Some reply → reply_to bytes ≡ Some way
      → Some (record { address = take (length way) reply; cargo = drop (length way) reply }) ≡ parted (reply_to bytes) (answer t memory bytes end).0
  address_is answered back =
      let l = (law t memory bytes end).1 reply way answered back in
      let front : take (length way) reply ≡ way = ap (λ (x : List ℕ). take (length way) x) l.1 ∙ take_at way l.0 (length way) refl in
      ap (λ (x : List ℕ). Some (record { address = x; cargo = drop (length way) reply })) front ∙ (rw (back, answered) refl)

-- how long the address of a reply is, and 0 where there is none
abbrev pub way_len : Option (List ℕ) → ℕ
way_len None = 0
way_len (Some way) = length way

pub nothing_parted : (way : Option (List ℕ)) → parted way None ≡ None
nothing_parted None = refl
nothing_parted (Some way) = refl

module _ (law : AnswersByTheWayBack) (t : TargetConfig) (memory bytes : List ℕ) (end : End) (reply : List ℕ) where
  pub within_reply : (way : Option (List ℕ)) → reply_to bytes ≡ way → (answer t memory bytes end).0 ≡ Some reply → way_len way ≤ length reply
  within_reply None back answered = omega arith
  within_reply (Some way) back answered = address_within law t memory bytes end way reply answered back

  pub parted_there : (way : Option (List ℕ)) → reply_to bytes ≡ way → (answer t memory bytes end).0 ≡ Some reply
      → Some (record { address = take (way_len way) reply; cargo = drop (way_len way) reply }) ≡ parted (reply_to bytes) (answer t memory bytes end).0
  parted_there None back answered = absurd (true≢false (sym (ap is_some answered) ∙ (law t memory bytes end).0 ∙ ap is_some back))
  parted_there (Some way) back answered = address_is law t memory bytes end way reply answered back

-- a target keeps its slots
pub slots_same : (target : Option TargetView) (memory : List ℕ) → slots_of (config_of (with_memory target memory)) ≡ slots_of (config_of target)
slots_same None memory = refl
slots_same (Some t) memory = refl
