-- The greatest number of unanswered commands of a flow.
use Rattle.std.proofs.Common.{◌≡◌, ℕ, suc, ◌+◌, ◌<◌, ◌≤◌, Bool, true, false, List, [], ◌∷◌, Option, Some, None, option_map, refl, sym, ap, ◌∙◌, subst, arith, inl, inr}
use Rattle.std.specs.Prelude.{◌==◌, option_and_then, slice_get, if◌then◌else◌}
use Rattle.std.proofs.lemmas.Bool.{cases_lt, eqb-true}
use Rattle.std.proofs.lemmas.Option.{none-some, same_Some}
use Rattle.sw_config.specs.Entries.{Declaration, FlowEntry, ReplyEntry}
use Rattle.sw_config.specs.Limits.{flow_outstanding}
use Rattle.sw_mend.specs.Changes.{by_number}
use Rattle.sw_mend.specs.Outstanding.{flow_for, flow_with, with_outstanding}
use Rattle.sw_search.specs.Laws.{RoutedAndFree}
use Rattle.sw_search.proofs.Zips.{zip_determined}
use Rattle.sw_margin.specs.declared.bend.FlowLimit.{FlowLimit}
use Rattle.sw_margin.specs.FlowLimits.{IsFlowLimit, IsFreeWith, IsGreatest, IsMost, limited_flows, own_limit}
use Rattle.sw_margin.specs.Laws.{FlowLimitsAreDetermined, UpToTheGreatestFree}

-- ---- one number after the other

-- with one more it is free too
pub free_more : (d : Declaration) (flow own most : ℕ) → ((n : ℕ) → own < n → n ≤ most → IsFreeWith d flow (Some n)) → IsFreeWith d flow (Some (most + 1))
    → (n : ℕ) → own < n → n ≤ most + 1 → IsFreeWith d flow (Some n)
free_more d flow own most all here n lt le =
    elim (cases_lt most n) [
      | inl above ↦ let same : most + 1 ≡ n = omega (arith, above, le) in subst (λ (k : ℕ). IsFreeWith d flow (Some k)) same here
      | inr within ↦ all n lt within
    ]

-- ---- what is told is determined

not_less : (d : Declaration) (flow a b : ℕ) → IsGreatest d flow a → IsGreatest d flow b → a < b → ⊥
not_less d flow a b h k lt =
    let same : h.own ≡ k.own = same_Some h.own k.own (sym h.is_own ∙ k.is_own) in
    h.no_more (omega (arith, lt, k.high)) (k.free (a + 1) (omega (arith, same, h.low)) (omega (arith, lt)))

same_most : (d : Declaration) (flow : ℕ) (a b : Option ℕ) → IsMost d flow a → IsMost d flow b → a ≡ b
same_most d flow None None h k = refl
same_most d flow None (Some b) h k = absurd (k.not_any h)
same_most d flow (Some a) None h k = absurd (h.not_any k)
same_most d flow (Some a) (Some b) h k =
    elim (cases_lt a b) [
      | inl lt ↦ absurd (not_less d flow a b h k lt)
      | inr low ↦ elim (cases_lt b a) [
        | inl lt ↦ absurd (not_less d flow b a k h lt)
        | inr high ↦ let same : a ≡ b = omega (arith, low, high) in ap Some same
      ]
    ]

same_limit : (d : Declaration) (flow : ℕ) (a b : FlowLimit) → IsFlowLimit d flow a → IsFlowLimit d flow b → a ≡ b
same_limit d flow a b h k =
    let flows : a.flow ≡ b.flow = h.0 ∙ sym k.0 in
    let most : a.most ≡ b.most = same_most d flow a.most b.most h.1 k.1 in
    λ t. record { flow = flows t; most = most t }

pub flow_limits_are_determined : FlowLimitsAreDetermined
flow_limits_are_determined d told other h k = zip_determined (IsFlowLimit d) (same_limit d) (limited_flows d) told other h k

-- ---- with its own limit the network is as it was

reply_kept : (own : ℕ) (reply : Option ReplyEntry) → option_and_then (λ (r : ReplyEntry). r.outstanding) reply ≡ Some own
    → option_map (λ (r : ReplyEntry). record r { outstanding = Some own }) reply ≡ reply
reply_kept own None is = absurd (none-some own is)
reply_kept own (Some r) is = λ t. Some (record r { outstanding = sym is t })

flow_kept : (own : ℕ) (f : FlowEntry) → flow_outstanding f ≡ Some own → flow_for (Some own) f ≡ f
flow_kept own f is = ap (λ (o : Option ReplyEntry). record f { reply = o }) (reply_kept own f.reply is)

if_kept : (is : Bool) (f g : FlowEntry) → (is ≡ true → g ≡ f) → (if is then g else f) ≡ f
if_kept true f g same = same refl
if_kept false f g same = refl

all_kept : (flow own k : ℕ) (flows : List FlowEntry) → ((i : ℕ) (f : FlowEntry) → slice_get flows i ≡ Some f → k + i ≡ flow → flow_outstanding f ≡ Some own)
    → by_number (flow_with flow (Some own)) k flows ≡ flows
all_kept flow own k [] each = refl
all_kept flow own k (f ∷ flows) each =
    let first : (if k == flow then flow_for (Some own) f else f) ≡ f =
    if_kept (k == flow) f (flow_for (Some own) f) (λ is. flow_kept own f (each 0 f refl (omega (arith, eqb-true k flow is)))) in
    let rest : by_number (flow_with flow (Some own)) (k + 1) flows ≡ flows = all_kept flow own (k + 1) flows (λ i g here at. each (suc i) g here (omega (arith, at))) in
    λ t. first t ∷ rest t

same_network : (d : Declaration) (flow own : ℕ) → own_limit d flow ≡ Some own → with_outstanding d flow (Some own) ≡ d
same_network d flow own is =
    let each : (i : ℕ) (f : FlowEntry) → slice_get d.flows i ≡ Some f → 0 + i ≡ flow → flow_outstanding f ≡ Some own = λ i f here at.
    let same : i ≡ flow = omega (arith, at) in
    sym (ap (option_and_then flow_outstanding) here) ∙ ap (own_limit d) same ∙ is in
    ap (λ (l : List FlowEntry). record d { flows = l }) (all_kept flow own 0 d.flows each)

pub up_to_the_greatest_free : UpToTheGreatestFree
up_to_the_greatest_free d flow own most n free is greatest low high =
    elim (cases_lt own n) [
      | inl above ↦
          let same : greatest.own ≡ own = same_Some greatest.own own (sym greatest.is_own ∙ is) in
          greatest.free n (omega (arith, above, same)) high
      | inr within ↦
          let same : n ≡ own = omega (arith, within, low) in
          subst (λ (k : ℕ). IsFreeWith d flow (Some k)) (sym same) (subst RoutedAndFree (sym (same_network d flow own is)) free)
    ]
