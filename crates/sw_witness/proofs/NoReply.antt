-- Packets of flows that can't be answered.
use Rattle.std.proofs.Common.{◌≡◌, ℕ, ◌+◌, ◌<◌, ◌≤◌, Bool, true, false, List, [], ◌∷◌, ◌++◌, ◌⊎◌, length, take, drop, Option, Some, None, inl, inr, refl, sym, ap, ◌∙◌, subst, arith}
use Rattle.std.specs.Prelude.{not, ◌==◌, ◌||◌, nat_lt, is_some, slice_get, slice_index, option_and_then, if◌then◌else◌}
use Rattle.std.specs.Option.{option_map_or}
use Rattle.std.proofs.lemmas.Bool.{cases_Bool, ltb-true, and_parts, and_from}
use Rattle.std.proofs.lemmas.List.{get_or_append_left, length-append, length-take}
use Rattle.std.proofs.lemmas.Option.{get_or_from_slice_get, slice_get_within}
use Rattle.sw_rmap.specs.declared.config.TargetConfig.{TargetConfig}
use Rattle.sw_rmap.specs.CommandView.{CommandView}
use Rattle.sw_rmap.specs.Commands.{fields_of, is_command, read}
use Rattle.sw_rmap.specs.Instruction.{reply_address_len}
use Rattle.sw_rmap.specs.Replies.{is_answered, path_of, reply_to, way_back}
use Rattle.sw_config.specs.Entries.{NodeEntry, ReplyEntry, target_of}
use Rattle.sw_machine.specs.DeclaredPackets.{IsRightWay, left_bytes, reply_address, reply_from}
use Rattle.sw_machine.proofs.Headers.{length-path-le}
use Rattle.sw_witness.specs.Laws.{NoneIsAnswered}
use Rattle.sw_witness.specs.Unanswered.{has_other_instruction, has_other_protocol, is_of_answered}

-- ---- a packet that is answered

-- the second byte is RMAP's protocol identifier, the third the instruction of a command that wants a reply, and its reply address field
-- is as long as the path back
record IsAsking (bytes way : List ℕ) : Type 0 where
  protocol : (slice_index bytes 1 == 1) ≡ true
  instruction : is_of_answered (slice_index bytes 2) ≡ true
  path : length way ≤ reply_address_len (slice_index bytes 2) + 1

answered_view : (c : CommandView) (way : List ℕ) → way_back c ≡ Some way → (is_answered c ≡ true) × (way ≡ path_of c ++ c.initiator ∷ [])
answered_view c way is = elim (cases_Bool (is_answered c)) [
  | inl sure ↦
      let same : Some (path_of c ++ c.initiator ∷ []) ≡ Some way = sym (rw sure refl) ∙ is in
      (sure, cc)
  | inr never ↦
      let none : None ≡ Some way = sym (rw never refl) ∙ is in
      absurd cc
]

asking_fields : (bytes way : List ℕ) → is_command bytes ≡ true → way_back (fields_of bytes) ≡ Some way → IsAsking bytes way
unfolding fields_of
asking_fields bytes way sure is =
    let a = answered_view (fields_of bytes) way is in
    let wants = (and_parts _ _ a.0).0 in
    let i : ℕ = slice_index bytes 2 in
    let shorter = length-path-le (take (reply_address_len i) (drop 4 bytes)) in
    let field = length-take (reply_address_len i) (drop 4 bytes) in
    let long = length-append (path_of (fields_of bytes)) ((fields_of bytes).initiator ∷ []) in
    let parts = and_parts _ _ sure in
    let front = and_parts _ _ parts.0 in
    let begun = and_parts _ _ front.0 in
    record {
      protocol = begun.1;
      instruction = and_from _ _ parts.1 wants;
      path = rw a.1 (omega (arith, shorter, field, long));
    }

asking_command : (bytes way : List ℕ) → option_and_then way_back (if is_command bytes then Some (fields_of bytes) else None) ≡ Some way → IsAsking bytes way
asking_command bytes way is = elim (cases_Bool (is_command bytes)) [
  | inl sure ↦ asking_fields bytes way sure (sym (rw sure refl) ∙ is)
  | inr never ↦
      let none : None ≡ Some way = sym (rw never refl) ∙ is in
      absurd cc
]

asking : (bytes way : List ℕ) → reply_to bytes ≡ Some way → IsAsking bytes way
unfolding reply_to read
asking bytes way is = asking_command bytes way is

-- ---- what is left

byte_left : (left cargo : List ℕ) (i b : ℕ) → slice_get left i ≡ Some b → slice_index (left ++ cargo) i ≡ b
byte_left left cargo i b here = get_or_append_left left cargo 0 i (slice_get_within left i b here) ∙ get_or_from_slice_get left i b 0 here

not_both : (b : Bool) → b ≡ true → not b ≡ true → ⊥
not_both true sure never = absurd cc
not_both false sure never = absurd cc

either_true : (a b : Bool) → (a || b) ≡ true → (a ≡ true) ⊎ (b ≡ true)
either_true true b h = inl refl
either_true false b h = inr h

module _ (left cargo : List ℕ) (r : ReplyEntry) (asks : IsAsking (left ++ cargo) (reply_address r)) where
  protocol_is : (o : Option ℕ) → slice_get left 1 ≡ o → option_map_or (λ (byte : ℕ). not (byte == 1)) o false ≡ true → ⊥
  protocol_is None here h = absurd cc
  protocol_is (Some b) here h = not_both (b == 1) (ap (λ (x : ℕ). x == 1) (sym (byte_left left cargo 1 b here)) ∙ asks.protocol) h

  instruction_is : (o : Option ℕ) → slice_get left 2 ≡ o → option_map_or (λ (i : ℕ). not (is_of_answered i) || nat_lt (reply_address_len i) (length r.path)) o false ≡ true → ⊥
  instruction_is None here h = absurd cc
  instruction_is (Some i) here h =
      let same : slice_index (left ++ cargo) 2 ≡ i = byte_left left cargo 2 i here in
      elim (either_true (not (is_of_answered i)) (nat_lt (reply_address_len i) (length r.path)) h) [
        | inl none ↦ not_both (is_of_answered i) (ap is_of_answered (sym same) ∙ asks.instruction) none
        | inr short ↦
            let lt : reply_address_len i < length r.path = ltb-true (reply_address_len i) (length r.path) short in
            let le : length (reply_address r) ≤ reply_address_len i + 1 = subst (λ (x : ℕ). length (reply_address r) ≤ reply_address_len x + 1) same asks.path in
            let long = length-append r.path (r.initiator ∷ []) in
            omega (arith, lt, le, long)
      ]

  never_both : (has_other_protocol left || has_other_instruction left r.path) ≡ true → ⊥
  never_both h = elim (either_true (has_other_protocol left) (has_other_instruction left r.path) h) [
    | inl p ↦ protocol_is (slice_get left 1) refl p
    | inr i ↦ instruction_is (slice_get left 2) refl i
  ]

-- ---- a flow

answered_by : (bytes way : List ℕ) (o : Option TargetConfig) → (if is_some o then reply_to bytes else None) ≡ Some way → reply_to bytes ≡ Some way
answered_by bytes way None is = absurd cc
answered_by bytes way (Some t) is = is

none_by : (nodes : List NodeEntry) (to : ℕ) (left cargo : List ℕ) (reply : Option ReplyEntry)
    → option_map_or (λ (r : ReplyEntry). has_other_protocol left || has_other_instruction left r.path) reply false ≡ true
    → IsRightWay (reply_from nodes to (left ++ cargo)) reply → reply_from nodes to (left ++ cargo) ≡ None
none_by nodes to left cargo reply can (inl none) = none
none_by nodes to left cargo None can (inr none) = none
none_by nodes to left cargo (Some r) can (inr is) =
    let asks = asking (left ++ cargo) (reply_address r) (answered_by (left ++ cargo) (reply_address r) (target_of nodes to) is) in
    absurd (never_both left cargo r asks can)

pub none_is_answered : NoneIsAnswered
none_is_answered nodes f cargo can right = none_by nodes f.to (left_bytes f) cargo f.reply can right
