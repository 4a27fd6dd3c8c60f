-- Flows of one of which another number of commands may be unanswered, and what they keep.
use Rattle.std.proofs.Common.{◌≡◌, ◌≢◌, ℕ, ◌+◌, ◌<◌, ◌≤◌, suc, Bool, true, false, List, [], ◌∷◌, ◌++◌, AllPairs, Option, Some, length, map, option_map, take, refl, sym, ap, ◌∙◌, arith}
use Rattle.std.specs.Prelude.{◌==◌, not, slice_get, if◌then◌else◌}
use Rattle.std.specs.List.{list_any}
use Rattle.std.specs.Str.{bytes_eq}
use Rattle.std.proofs.lemmas.List.{length-take-le, take-map}
use Rattle.sw_config.specs.Entries.{ReplyEntry, FlowEntry, Declaration, flow_names}
use Rattle.sw_mend.specs.Changes.{by_number}
use Rattle.sw_mend.specs.Outstanding.{flow_for, flow_with}
use Rattle.sw_mend.proofs.Fresh.{fresh, named_at}
use Rattle.sw_mend.proofs.LimitedFlows.{by_case}
use Rattle.sw_mend.proofs.Numbered.{one_more}

turned : (is : Bool) (f g : FlowEntry) → (if not is then f else g) ≡ (if is then g else f)
turned true f g = refl
turned false f g = refl

-- what is made of one flow
flow_made : (changed number : ℕ) (most : Option ℕ) (f made : FlowEntry) (stays : Bool) → stays ≡ not (number == changed)
    → made ≡ record f { reply = option_map (λ (r : ReplyEntry). if stays then r else record r { outstanding = most }) f.reply } → flow_with changed most number f ≡ made ∷ []
flow_made changed number most f made stays is same =
    let known : made ≡ (if number == changed then flow_for most f else f) =
    same ∙ by_case most f stays ∙ ap (λ (b : Bool). if b then f else flow_for most f) is ∙ turned (number == changed) f (flow_for most f) in
    ap (λ (g : FlowEntry). g ∷ []) (sym known)

-- one more
pub outstanding_more : (changed : ℕ) (most : Option ℕ) (flows : List FlowEntry) (i : ℕ) (f made : FlowEntry) (stays : Bool) (first old after : Declaration) → slice_get flows i ≡ Some f
    → stays ≡ not (i == changed) → made ≡ record f { reply = option_map (λ (r : ReplyEntry). if stays then r else record r { outstanding = most }) f.reply }
    → old ≡ record first { flows = by_number (flow_with changed most) 0 (take i flows) } → after ≡ record old { flows = old.flows ++ made ∷ [] }
    → after ≡ record first { flows = by_number (flow_with changed most) 0 (take (i + 1) flows) }
outstanding_more changed most flows i f made stays first old after here is same before more =
    let grown : by_number (flow_with changed most) 0 (take i flows) ++ made ∷ [] ≡ by_number (flow_with changed most) 0 (take (i + 1) flows) =
    ap (λ (l : List FlowEntry). by_number (flow_with changed most) 0 (take i flows) ++ l) (sym (flow_made changed i most f made stays is same))
    ∙ sym (one_more (flow_with changed most) i flows f here) in
    more ∙ ap (λ (e : Declaration). record e { flows = e.flows ++ made ∷ [] }) before ∙ ap (λ (l : List FlowEntry). record first { flows = l }) grown

-- ---- names

name_kept : (most : Option ℕ) (f : FlowEntry) (is : Bool) → (if is then flow_for most f else f).name ≡ f.name
name_kept most f true = refl
name_kept most f false = refl

names_kept : (changed : ℕ) (most : Option ℕ) (n : ℕ) (flows : List FlowEntry) → flow_names (by_number (flow_with changed most) n flows) ≡ flow_names flows
names_kept changed most n [] = refl
names_kept changed most n (f ∷ flows) = λ t. name_kept most f (n == changed) t ∷ names_kept changed most (n + 1) flows t

pub fresh_outstanding : (changed : ℕ) (most : Option ℕ) (flows : List FlowEntry) (i : ℕ) (f : FlowEntry) (now : List FlowEntry) → AllPairs (λ x y. x ≢ y) (flow_names flows)
    → slice_get flows i ≡ Some f → now ≡ by_number (flow_with changed most) 0 (take i flows) → list_any (bytes_eq f.name) (flow_names now) ≡ false
fresh_outstanding changed most flows i f now apart here is =
    ap (list_any (bytes_eq f.name)) (ap flow_names is ∙ names_kept changed most 0 (take i flows) ∙ sym (take-map (λ (g : FlowEntry). g.name) i flows))
    ∙ fresh (flow_names flows) i f.name apart (named_at (λ (g : FlowEntry). g.name) flows i f here)

-- ---- as many

as_many : (changed : ℕ) (most : Option ℕ) (n : ℕ) (flows : List FlowEntry) → length (by_number (flow_with changed most) n flows) ≡ length flows
as_many changed most n [] = refl
as_many changed most n (f ∷ flows) = ap suc (as_many changed most (n + 1) flows)

pub few_outstanding : (changed : ℕ) (most : Option ℕ) (flows now : List FlowEntry) (i : ℕ) → i < length flows → length flows ≤ 4096
    → now ≡ by_number (flow_with changed most) 0 (take i flows) → length now < 4096
few_outstanding changed most flows now i lt few is =
    let size : length now ≡ length (take i flows) = ap length is ∙ as_many changed most 0 (take i flows) in
    omega (arith, size, length-take-le i flows (omega arith))
