-- The channels that a look names at a switch.
use Rattle.std.proofs.Common.{◌≡◌, ◌^◌, ◌+◌, ◌++◌, ◌∷◌, [], ℕ, ◌<◌, map, filter_map, option_to_list, Bool, true, false, List, Contains, Option, Some, None, is_some, IsBitSet, bit_and, refl, sym, ap, ◌∙◌, ◌⊎◌, inl, inr, ◌↔◌, ◌≤◌, arith}
use Rattle.std.specs.List.{range_with_len, list_any, cons_option}
use Rattle.std.proofs.lemmas.Bool.{cases_eq, eq-eqb, ne_eqb}
use Rattle.std.proofs.lemmas.List.{append_assoc, map-append}
use Rattle.std.proofs.lemmas.List.Elements.{Contains-get_or, filter_map-append}
use Rattle.std.proofs.lemmas.List.Folds.{Any-from_list_any, list_any_none, list_any_at}
use Rattle.sw_config.specs.PlaceEnd.{PlaceEnd}
use Rattle.sw_config.specs.Wiring.{out_of}
use Rattle.sw_config.specs.Look.{Look}
use Rattle.sw_config.specs.Looks.{NamesOutput}
use Rattle.sw_flow.specs.Faults.{output_at, has_output}
use Rattle.sw_flow.specs.Numbers.{outputs, outputs_below}
use Rattle.sw_flow.proofs.Listed.{Contains-filter_map, Contains-from_filter_map}
use Rattle.sw_graph.proofs.Ranges.{range_more}
use Rattle.sw_graph.proofs.Marked.{in_range, from_range}

module _ (ends : List PlaceEnd) (s : ℕ) (look : Look) where
  pub output_at-named : (p e : ℕ) → IsBitSet look.ports p → out_of ends s p ≡ Some e → output_at ends s look p ≡ Some e
  output_at-named p e set linked = rw (ne_eqb (bit_and look.ports (2 ^ p)) 0 set) linked

  pub named-from_output_at : (p e : ℕ) → output_at ends s look p ≡ Some e → IsBitSet look.ports p × (out_of ends s p ≡ Some e)
  named-from_output_at p e h = by (cases_eq (bit_and look.ports (2 ^ p)) 0)
    where
      by : (bit_and look.ports (2 ^ p) ≡ 0) ⊎ (bit_and look.ports (2 ^ p) ≡ 0 → ⊥) → IsBitSet look.ports p × (out_of ends s p ≡ Some e)
      by (inl none) = let bad : None ≡ Some e = rw (eq-eqb (bit_and look.ports (2 ^ p)) 0 none) at h in cc
      by (inr set) = (set, rw (ne_eqb (bit_and look.ports (2 ^ p)) 0 set) at h)

  names : (p e : ℕ) → p < 32 → output_at ends s look p ≡ Some e → NamesOutput ends s look e
  names p e lt h = let n = named-from_output_at p e h in record { port = p; is_port = lt; named = n.0; linked = n.1 }

  pub outputs_are : (e : ℕ) → Contains (outputs ends s look) e ↔ NamesOutput ends s look e
  unfolding outputs
  outputs_are e = (
    λ h. let m = Contains-from_filter_map (output_at ends s look) (range_with_len 0 32) e h in names m.0 e (from_range 32 m.0 m.1) m.2,
    λ n. Contains-filter_map (output_at ends s look) (range_with_len 0 32) n.port e (in_range 32 n.port n.is_port) (output_at-named n.port e n.named n.linked),
  )

  some_output : (p : ℕ) → p < 32 → is_some (output_at ends s look p) ≡ true → (e : ℕ) × NamesOutput ends s look e
  some_output p lt h = by (output_at ends s look p) refl h
    where
      by : (o : Option ℕ) → output_at ends s look p ≡ o → is_some o ≡ true → (e : ℕ) × NamesOutput ends s look e
      by None e bad = cc
      by (Some e) same is = (e, names p e lt same)

  -- some port below n is named and has a channel
  abbrev any_below : ℕ → Bool
  any_below n = list_any (λ p. is_some (output_at ends s look p)) (range_with_len 0 n)

  names_from_any : (n : ℕ) → n ≤ 32 → any_below n ≡ true → (e : ℕ) × NamesOutput ends s look e
  names_from_any n le h =
      let a = Any-from_list_any (λ p. is_some (output_at ends s look p)) (range_with_len 0 n) h in
      let lt : a.1 < n = from_range n a.1 (a.0, a.2, a.3) in
      some_output a.1 (omega arith) a.4

  any_from_port : (n p : ℕ) → p < n → is_some (output_at ends s look p) ≡ true → any_below n ≡ true
  any_from_port n p lt h =
      let c = in_range n p lt in
      list_any_at (λ q. is_some (output_at ends s look q)) (range_with_len 0 n) c.0 p c.1 (rw c.2 h)

  none_from_ports : (n : ℕ) → ((p : ℕ) → p < n → is_some (output_at ends s look p) ≡ false) → any_below n ≡ false
  none_from_ports n none =
      list_any_none (λ q. is_some (output_at ends s look q)) (range_with_len 0 n) (λ k d lt. none _ (from_range n _ (Contains-get_or (range_with_len 0 n) k d lt)))

  pub names-from_has_output : has_output ends s look ≡ true → (e : ℕ) × NamesOutput ends s look e
  unfolding has_output
  names-from_has_output h = names_from_any 32 (omega arith) h

  pub has_output-from_port : (p : ℕ) → p < 32 → is_some (output_at ends s look p) ≡ true → has_output ends s look ≡ true
  unfolding has_output
  has_output-from_port p lt h = any_from_port 32 p lt h

  pub has_output-none : ((p : ℕ) → p < 32 → is_some (output_at ends s look p) ≡ false) → has_output ends s look ≡ false
  unfolding has_output
  has_output-none none = none_from_ports 32 none

  pub has_output-from_names : (e : ℕ) → NamesOutput ends s look e → has_output ends s look ≡ true
  has_output-from_names e n = has_output-from_port n.port n.is_port (ap is_some (output_at-named n.port e n.named n.linked))

  pub outputs_more : (n : ℕ) → outputs_below ends s look (n + 1) ≡ outputs_below ends s look n ++ option_to_list (output_at ends s look n)
  outputs_more n =
      ap (filter_map (output_at ends s look)) (range_more n) ∙ filter_map-append (output_at ends s look) (range_with_len 0 n) (n ∷ []) ∙ ap (λ l. outputs_below ends s look n ++ l) (one (output_at ends s look n))
    where
      one : (o : Option ℕ) → cons_option o [] ≡ option_to_list o
      one None = refl
      one (Some e) = refl

  pub outputs_all : outputs_below ends s look 32 ≡ outputs ends s look
  unfolding outputs
  outputs_all = refl

  -- what the port n gives, behind what those below it gave
  pub pushed_more : (f : ℕ → ℕ) (old before after : List ℕ) (n : ℕ) (o : Option ℕ) → o ≡ output_at ends s look n → before ≡ old ++ map f (outputs_below ends s look n) → after ≡ before ++ map f (option_to_list o) → after ≡ old ++ map f (outputs_below ends s look (n + 1))
  pushed_more f old before after n o at so push =
      push ∙ ap (λ (l : List ℕ). l ++ map f (option_to_list o)) so ∙ append_assoc old (map f (outputs_below ends s look n)) (map f (option_to_list o))
      ∙ ap (λ (l : List ℕ). old ++ l) (sym (map-append f (outputs_below ends s look n) (option_to_list o)))
      ∙ ap (λ (p : Option ℕ). old ++ map f (outputs_below ends s look n ++ option_to_list p)) at
      ∙ ap (λ (l : List ℕ). old ++ map f l) (sym (outputs_more n))
