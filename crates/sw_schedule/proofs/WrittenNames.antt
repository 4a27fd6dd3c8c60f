-- Names are words, and are found again.
use Rattle.std.proofs.Common.{◌≡◌, ◌≢◌, ℕ, zero, suc, ◌<◌, ◌≤◌, Bool, true, false, ◌&&◌, ◌||◌, List, [], ◌∷◌, ◌++◌, length, map, get_or, Some, refl, sym, ap, subst, ◌∙◌, inl, inr, arith, ne_eqb, lt-ltb, length-append, AllPairs}
use Rattle.std.specs.Prelude.{◌==◌, nat_le, position, slice_get}
use Rattle.std.specs.List.{list_all}
use Rattle.std.specs.Option.{option_map_or}
use Rattle.std.specs.Str.{IsAscii, bytes_eq, is_utf8}
use Rattle.std.proofs.lemmas.Bool.{and_parts, cases_Bool, false≢true, lt-leb}
use Rattle.std.proofs.lemmas.List.{length-map}
use Rattle.std.proofs.lemmas.List.Elements.{All-nil, All-cons, All-get_or}
use Rattle.std.proofs.lemmas.List.Sums.{position_or_len_is}
use Rattle.std.proofs.lemmas.Slice.Eq.{bytes_eq-Decides}
use Rattle.std.proofs.lemmas.Str.{IsUtf8-from_ascii, is_utf8-from_IsUtf8}
use Rattle.sw_config.specs.Entries.{Declaration, FlowEntry, NodeEntry, SwitchEntry, flow_names, part_names, reply_flows}
use Rattle.sw_config.specs.Valid.{IsValid}
use Rattle.sw_config.proofs.Positions.{position-in_first}
use Rattle.sw_output.specs.ChannelTexts.{node_name}
use Rattle.sw_output.specs.FlowTexts.{flow_name}
use Rattle.sw_schedule.specs.Lines.{flow_of, node_of}
use Rattle.sw_schedule.specs.Spelling.{IsWord}
use Rattle.sw_schedule.specs.TextLaws.{HasNames}
use Rattle.sw_schedule.proofs.Words.{Free}
use Rattle.sw_text.specs.Names.{is_name, is_name_byte}
use Rattle.sw_topo.proofs.Lists.{third}
use Rattle.sw_text.proofs.NameBytes.{name_byte_is_small}

-- ---- the bytes of a name

no_byte_above : (b : ℕ) → 128 ≤ b → is_name_byte b ≡ false
no_byte_above b ge =
    rw (lt-leb b 122 (omega arith), lt-leb b 90 (omega arith), lt-leb b 57 (omega arith), ne_eqb b 95 (λ e. omega arith), ne_eqb b 45 (λ e. omega arith), ne_eqb b 46 (λ e. omega arith))
    (no_pair (nat_le 97 b) (nat_le 65 b) (nat_le 48 b))
  where
    no_pair : (x y z : Bool) → ((x && false) || (y && false) || (z && false) || false || false || false) ≡ false
    no_pair true true true = refl
    no_pair true true false = refl
    no_pair true false true = refl
    no_pair true false false = refl
    no_pair false true true = refl
    no_pair false true false = refl
    no_pair false false true = refl
    no_pair false false false = refl

byte_is_not : (b c : ℕ) → is_name_byte c ≡ false → is_name_byte b ≡ true → (b == c) ≡ false
byte_is_not b c other h = ne_eqb b c (λ e. false≢true (sym other ∙ ap is_name_byte (sym e) ∙ h))

bytes_free : (c : ℕ) → is_name_byte c ≡ false → (name : List ℕ) → list_all is_name_byte name ≡ true → Free c name
bytes_free c other [] h = All-nil (λ b. (b == c) ≡ false)
bytes_free c other (b ∷ name) h =
    let parts = and_parts (is_name_byte b) (list_all is_name_byte name) h in
    All-cons (λ b. (b == c) ≡ false) b name (byte_is_not b c other parts.0) (bytes_free c other name parts.1)

bytes_ascii : (name : List ℕ) → list_all is_name_byte name ≡ true → IsAscii name
bytes_ascii [] h i = omega arith
bytes_ascii (b ∷ name) h zero = name_byte_is_small b (and_parts (is_name_byte b) (list_all is_name_byte name) h).0
bytes_ascii (b ∷ name) h (suc i) = bytes_ascii name (and_parts (is_name_byte b) (list_all is_name_byte name) h).1 i

bytes_of_name : (name : List ℕ) → is_name name ≡ true → list_all is_name_byte name ≡ true
bytes_of_name name h = third (nat_le 1 (length name)) (nat_le (length name) 32) (list_all is_name_byte name) h

pub name_plain : (name : List ℕ) → is_name name ≡ true → IsWord name
name_plain name h = let bytes = bytes_of_name name h in record { no_space = bytes_free 32 refl name bytes; no_lf = bytes_free 10 refl name bytes }

name_is_text : (name : List ℕ) → is_name name ≡ true → is_utf8 name ≡ true
name_is_text name h = is_utf8-from_IsUtf8 name (IsUtf8-from_ascii name (bytes_ascii name (bytes_of_name name h)))

-- ---- where a name stands

not_same : (x y : List ℕ) → (x ≡ y → ⊥) → bytes_eq y x ≡ false
not_same x y apart = elim (cases_Bool (bytes_eq y x)) [
  | inl t ↦ absurd (apart (sym ((bytes_eq-Decides y x).0 t)))
  | inr f ↦ f
]

found : (names : List (List ℕ)) (n : ℕ) (name : List ℕ) → AllPairs (λ x y. x ≢ y) names → n < length names → get_or names n [] ≡ name → position (bytes_eq name) names ≡ Some n
found names n name apart lt is =
    let first = position_or_len_is (bytes_eq name) names n [] (omega (arith, lt))
    (λ k below. not_same (get_or names k []) name (λ e. apart k n [] below lt (e ∙ sym is)))
    (λ within. (bytes_eq-Decides name (get_or names n [])).1 (sym is)) in
    rw (first, lt-ltb n (length names) lt) refl

node_at : (nodes : List NodeEntry) (n : ℕ) (others : List (List ℕ)) → n < length nodes → get_or (map (λ (e : NodeEntry). e.name) nodes ++ others) n [] ≡ option_map_or (λ (e : NodeEntry). e.name) (slice_get nodes n) []
node_at [] n others lt = absurd (omega (arith, lt))
node_at (e ∷ nodes) zero others lt = refl
node_at (e ∷ nodes) (suc n) others lt = node_at nodes n others (omega (arith, lt))

flow_at : (flows replies : List FlowEntry) (i : ℕ) → i < length flows → get_or (flow_names flows) i [] ≡ option_map_or (λ (f : FlowEntry). f.name) (slice_get (flows ++ replies) i) []
flow_at [] replies i lt = absurd (omega (arith, lt))
flow_at (f ∷ flows) replies zero lt = refl
flow_at (f ∷ flows) replies (suc i) lt = flow_at flows replies i (omega (arith, lt))

module _ (d : Declaration) (valid : IsValid d) (names : HasNames d) where
  few_nodes : (n : ℕ) → n < length d.nodes → n < length (part_names d)
  few_nodes n lt = rw (length-append (map (λ (e : NodeEntry). e.name) d.nodes) (map (λ (s : SwitchEntry). s.name) d.switches), length-map d.nodes (λ (e : NodeEntry). e.name)) (omega (arith, lt))

  node_is_name : (n : ℕ) → n < length d.nodes → is_name (node_name d n) ≡ true
  node_is_name n lt =
      subst (λ name. is_name name ≡ true) (node_at d.nodes n (map (λ (s : SwitchEntry). s.name) d.switches) lt)
      (All-get_or (λ name. is_name name ≡ true) (part_names d) n [] (few_nodes n lt) names.parts)

  pub node_plain : (n : ℕ) → n < length d.nodes → IsWord (node_name d n)
  node_plain n lt = name_plain (node_name d n) (node_is_name n lt)

  pub node_found : (n : ℕ) → n < length d.nodes → node_of d (node_name d n) ≡ Some n
  node_found n lt =
      let at = found (part_names d) n (node_name d n) valid.parts_named (few_nodes n lt) (node_at d.nodes n (map (λ (s : SwitchEntry). s.name) d.switches) lt) in
      let within : n < length (map (λ (e : NodeEntry). e.name) d.nodes) = rw (length-map d.nodes (λ (e : NodeEntry). e.name)) lt in
      let first = position-in_first (bytes_eq (node_name d n)) (map (λ (e : NodeEntry). e.name) d.nodes) (map (λ (s : SwitchEntry). s.name) d.switches) n at within in
      rw (name_is_text (node_name d n) (node_is_name n lt)) first

  few_flows : (i : ℕ) → i < length d.flows → i < length (flow_names d.flows)
  few_flows i lt = rw (length-map d.flows (λ (f : FlowEntry). f.name)) lt

  flow_is_name : (i : ℕ) → i < length d.flows → is_name (flow_name d i) ≡ true
  flow_is_name i lt =
      subst (λ name. is_name name ≡ true) (flow_at d.flows (reply_flows d.flows) i lt)
      (All-get_or (λ name. is_name name ≡ true) (flow_names d.flows) i [] (few_flows i lt) names.flows)

  pub flow_plain : (i : ℕ) → i < length d.flows → IsWord (flow_name d i)
  flow_plain i lt = name_plain (flow_name d i) (flow_is_name i lt)

  pub flow_found : (i : ℕ) → i < length d.flows → flow_of d (flow_name d i) ≡ Some i
  flow_found i lt =
      rw (name_is_text (flow_name d i) (flow_is_name i lt))
      (found (flow_names d.flows) i (flow_name d i) valid.flows_named (few_flows i lt) (flow_at d.flows (reply_flows d.flows) i lt))
