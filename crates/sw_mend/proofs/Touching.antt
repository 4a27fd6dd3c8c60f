-- Changes that touch nothing of what is used, flow by flow and byte by byte.
use Rattle.std.proofs.Common.{◌≡◌, ◌∙◌, ◌↔◌, ℕ, ◌+◌, ◌*◌, ◌<◌, ◌≤◌, Bool, IsTrue, true, false, List, Some, ap, arith, get_or, inl, inr, length, refl, subst, sym}
use Rattle.std.specs.Prelude.{◌==◌, ◌&&◌, Contains, if◌then◌else◌, nat_le, slice_get, unwrap_or}
use Rattle.std.proofs.lemmas.Bool.{and_parts, cases_Bool, cases_lt, eqb-true, false≢true, leb-true}
use Rattle.std.proofs.lemmas.List.{get_or_default}
use Rattle.std.proofs.lemmas.Option.{same_Some, slice_get-get_or, slice_get_past}
use Rattle.sw_topo.proofs.Lists.{at_front}
use Rattle.sw_route.specs.declared.look.Route.{Route}
use Rattle.sw_route.specs.Looks.{covers}
use Rattle.sw_config.specs.Entries.{Declaration, FlowEntry, all_flows, reply_flows, routes_of}
use Rattle.sw_mend.specs.Changes.{ports_but}
use Rattle.sw_mend.specs.Spared.{IsEntrySpared, IsEntryUnused, SparesLooks, is_used}
use Rattle.sw_mend.specs.declared.change.Change.{Change}
use Rattle.sw_mend.specs.declared.change.Change.TheVariants.{WithoutReply, WithoutReplies, WithoutFlow, WithoutAnswers, WithoutPort, WithoutEntry, WithoutFlowsOf}

-- ---- flows

module _ (d : Declaration) (loses : ℕ → FlowEntry → Bool) where
  -- of those before the i-th none is lost
  abbrev pub NoneLostBelow : List ℕ → ℕ → Type 0
  NoneLostBelow numbers i = (k : ℕ) → k < i → (f : FlowEntry) → slice_get d.flows (get_or numbers k 0) ≡ Some f → loses (get_or numbers k 0) f ≡ false

  pub one_kept : (numbers : List ℕ) (i : ℕ) (flow : FlowEntry) (lost : Bool) → NoneLostBelow numbers i → slice_get (all_flows d) (get_or numbers i 0) ≡ Some flow
      → lost ≡ loses (get_or numbers i 0) flow → lost ≡ false → NoneLostBelow numbers (i + 1)
  one_kept numbers i flow lost so_far at is kept k lt f here =
      elim (cases_lt k i) [
        | inl below ↦ so_far k below f here
        | inr above ↦
            let e : k ≡ i = omega (arith, lt, above) in
            let there : slice_get (all_flows d) (get_or numbers i 0) ≡ Some f =
            at_front d.flows (reply_flows d.flows) (get_or numbers i 0) f (ap (λ j. slice_get d.flows (get_or numbers j 0)) (sym e) ∙ here) in
            let same : flow ≡ f = same_Some flow f (sym at ∙ there) in
            ap (λ j. loses (get_or numbers j 0) f) e ∙ ap (loses (get_or numbers i 0)) (sym same) ∙ sym is ∙ kept
      ]

  pub none_lost : (numbers : List ℕ) (i : ℕ) → length numbers ≤ i → NoneLostBelow numbers i
      → (number : ℕ) (f : FlowEntry) → Contains numbers number → slice_get d.flows number ≡ Some f → loses number f ≡ false
  none_lost numbers i past all number f there at =
      let same : get_or numbers there.0 0 ≡ number = get_or_default numbers there.0 0 number there.1 ∙ there.2 in
      subst (λ (n : ℕ). loses n f ≡ false) same (all there.0 (omega (arith, there.1, past)) f (ap (slice_get d.flows) same ∙ at))

-- ---- bytes of an entry

abbrev pub UnusedBelow : ℕ → List Bool → ℕ → ℕ → Type 0
UnusedBelow first bytes switch end = (byte : ℕ) → first ≤ byte → byte < end → is_used bytes switch byte ≡ false

pub one_unused : (first : ℕ) (bytes : List Bool) (switch byte : ℕ) (used : Bool) → UnusedBelow first bytes switch byte → used ≡ is_used bytes switch byte → used ≡ false
    → UnusedBelow first bytes switch (byte + 1)
one_unused first bytes switch byte used so_far is unused b from lt =
    elim (cases_lt b byte) [
      | inl below ↦ so_far b from below
      | inr above ↦ let e : b ≡ byte = omega (arith, lt, above) in ap (is_used bytes switch) e ∙ sym is ∙ unused
    ]

pub none_used : (route : Route) (bytes : List Bool) (switch end : ℕ) → route.last + 1 ≤ end → UnusedBelow route.first bytes switch end
    → (byte : ℕ) → covers byte route ≡ true → is_used bytes switch byte ≡ false
none_used route bytes switch end past unused byte covered =
    let parts = and_parts (nat_le route.first byte) (nat_le byte route.last) covered in
    let low = leb-true route.first byte parts.0 in
    let high = leb-true byte route.last parts.1 in
    unused byte low (omega (arith, high, past))

pub read_used : (bytes : List Bool) (switch byte n k : ℕ) → n ≡ switch → k ≡ 256 * n + byte → k < length bytes → get_or bytes k false ≡ is_used bytes switch byte
read_used bytes switch byte n k same is lt =
    sym (ap (λ o. unwrap_or o true) (ap (λ m. slice_get bytes (256 * m + byte)) (sym same) ∙ ap (slice_get bytes) (sym is) ∙ slice_get-get_or bytes k false lt))

pub past_used : (bytes : List Bool) (switch byte n k : ℕ) → n ≡ switch → k ≡ 256 * n + byte → length bytes ≤ k → true ≡ is_used bytes switch byte
past_used bytes switch byte n k same is past =
    sym (ap (λ o. unwrap_or o true) (ap (λ m. slice_get bytes (256 * m + byte)) (sym same) ∙ ap (slice_get bytes) (sym is) ∙ slice_get_past bytes k past))

-- ---- entries

other_entry : (bytes : List Bool) (d : Declaration) (s e switch entry byte : ℕ) (r : Route) → IsEntryUnused d s e bytes → slice_get (routes_of d.switches switch) entry ≡ Some r
    → covers byte r ≡ true → is_used bytes switch byte ≡ true → (switch == s && entry == e) ≡ false
other_entry bytes d s e switch entry byte r unused at covered used =
    elim (cases_Bool (switch == s && entry == e)) [
      | inl same ↦
          let both = and_parts (switch == s) (entry == e) same in
          let there : switch ≡ s = eqb-true switch s both.0 in
          let here : entry ≡ e = eqb-true entry e both.1 in
          let never : is_used bytes s byte ≡ false =
          unused byte r ((λ t. slice_get (routes_of d.switches (sym there t)) (sym here t)) ∙ at) covered in
          absurd (false≢true (sym never ∙ ap (λ n. is_used bytes n byte) (sym there) ∙ used))
      | inr other ↦ other
    ]

pub port_spares : (d : Declaration) (change : Change) (bytes : List Bool) (s e p : ℕ) → change ≡ WithoutPort s e p → IsEntryUnused d s e bytes → SparesLooks d change bytes
port_spares d change bytes s e p is unused switch entry byte r at covered used =
    let other = other_entry bytes d s e switch entry byte r unused at covered used in
    subst (λ (c : Change). IsEntrySpared c switch entry) (sym is) (refl, λ set. ap (λ b. if b then ports_but p set else set) other)

pub entry_spares : (d : Declaration) (change : Change) (bytes : List Bool) (s e : ℕ) → change ≡ WithoutEntry s e → IsEntryUnused d s e bytes → SparesLooks d change bytes
entry_spares d change bytes s e is unused switch entry byte r at covered used =
    subst (λ (c : Change). IsEntrySpared c switch entry) (sym is) (other_entry bytes d s e switch entry byte r unused at covered used, λ set. refl)

-- a change of flows takes no entry
pub flows_spare : (change : Change) → ((s e p : ℕ) → change ≡ WithoutPort s e p → ⊥) → ((s e : ℕ) → change ≡ WithoutEntry s e → ⊥) → (switch entry : ℕ) → IsEntrySpared change switch entry
flows_spare (WithoutReply f) port gone switch entry = (refl, λ set. refl)
flows_spare (WithoutReplies from to) port gone switch entry = (refl, λ set. refl)
flows_spare (WithoutFlow f) port gone switch entry = (refl, λ set. refl)
flows_spare (WithoutAnswers n) port gone switch entry = (refl, λ set. refl)
flows_spare (WithoutPort s e p) port gone switch entry = absurd (port s e p refl)
flows_spare (WithoutEntry s e) port gone switch entry = absurd (gone s e refl)
flows_spare (WithoutFlowsOf n) port gone switch entry = (refl, λ set. refl)

-- ---- judged without being made

pub passed_over : (P : Type 0) → (P → ⊥) → (IsTrue false ↔ P)
passed_over P never = (λ told. absurd (false≢true told), λ holds. absurd (never holds))
