-- Reply flows: how many there are, what they keep, their names; and the network with one flow more.
use Rattle.std.proofs.Common.{◌≡◌, ℕ, zero, suc, ◌+◌, ◌-◌, ◌*◌, ◌<◌, ◌≤◌, Bool, false, take, List, [], ◌∷◌, ◌++◌, length, Option, Some, None, Result, Ok, Err, option_map, codes, refl, sym, subst, ap, ◌∙◌, inl, inr, arith, length-append, append_assoc, zero-add, All}
use Rattle.std.specs.Prelude.{slice_get, position, OnOk, OnErr}
use Rattle.std.specs.List.{list_any}
use Rattle.std.specs.Str.{bytes_eq}
use Rattle.std.proofs.lemmas.Bool.{cases_Bool, false≢true, or_parts}
use Rattle.std.proofs.lemmas.Slice.Eq.{bytes_eq-Decides}
use Rattle.std.proofs.lemmas.Option.{get_or_from_slice_get, slice_get_within}
use Rattle.std.proofs.lemmas.List.{append_cancel_right, map_push, map-append, length-map, append-nil}
use Rattle.std.proofs.lemmas.List.Elements.{All-push, All-append, All-cons, All-nil, All-head, All-tail, All-get_or}
use Rattle.sw_route.specs.Wiring.{Wiring}
use Rattle.sw_route.specs.Checked.{first_of}
use Rattle.sw_config.specs.Entries.{NodeEntry, LinkEntry, ReplyEntry, FlowEntry, Declaration, flow_names, reply_flow, replies_of, reply_flows, all_flows, capacities}
use Rattle.sw_config.specs.Valid.{IsReply, IsFlow}
use Rattle.sw_config.specs.LimitRows.{LimitRows, AreLimits}
use Rattle.sw_config.specs.Building.{IsNetwork}
use Rattle.sw_config.proofs.Positions.{position-append}
use Rattle.sw_config.proofs.Steps.{named_more}

-- what holds of each element holds of one that is read
pub All-at : {X : Type 0} (P : X → Type 0) (xs : List X) (i : ℕ) (x : X) → slice_get xs i ≡ Some x → All P xs → P x
All-at P xs i x at all = subst P (get_or_from_slice_get xs i x x at) (All-get_or P xs i x (slice_get_within xs i x at) all)

-- past the first list stands the second
pub slice_get-append_right : {X : Type 0} (xs ys : List X) (k : ℕ) → slice_get (xs ++ ys) (length xs + k) ≡ slice_get ys k
slice_get-append_right [] ys k = ap (slice_get ys) (zero-add k)
slice_get-append_right (x ∷ xs) ys k = let e : length (x ∷ xs) + k ≡ suc (length xs + k) = omega arith in rw e (slice_get-append_right xs ys k)

pub in_second : {X : Type 0} (xs ys second : List X) (n i : ℕ) (x : X) → n ≡ length xs → second ≡ ys → n ≤ i → slice_get second (i - n) ≡ Some x → slice_get (xs ++ ys) i ≡ Some x
in_second xs ys second n i x size same past at =
    let split : i ≡ length xs + (i - n) = omega (arith, size, past) in
    ap (slice_get (xs ++ ys)) split ∙ slice_get-append_right xs ys (i - n) ∙ ap (λ l. slice_get l (i - n)) (sym same) ∙ at

-- a place in both that is past the first
pub past_first : {X : Type 0} (xs ys second : List X) (n i : ℕ) → n ≡ length xs → second ≡ ys → i < length (xs ++ ys) → n ≤ i → i - n < length second
past_first xs ys second n i size same within past =
    let total : i < length xs + length ys = rw length-append at within in
    rw same (omega (arith, size, past, total))

few_replies : (f : FlowEntry) (r : Option ReplyEntry) → length (replies_of f r) ≤ 1
few_replies f None = omega arith
few_replies f (Some r) = omega arith

-- there are at most as many reply flows as flows
pub length-reply_flows : (fs : List FlowEntry) → length (reply_flows fs) ≤ length fs
length-reply_flows [] = omega arith
length-reply_flows (f ∷ fs) = rw length-append (omega (arith, few_replies f f.reply, length-reply_flows fs))

pub reply_flows-push : (fs : List FlowEntry) (f : FlowEntry) → reply_flows (fs ++ f ∷ []) ≡ reply_flows fs ++ replies_of f f.reply
reply_flows-push [] f = append-nil (replies_of f f.reply)
reply_flows-push (g ∷ fs) f = rw (reply_flows-push fs f) (sym (append_assoc (replies_of g g.reply) (reply_flows fs) (replies_of f f.reply)))

-- a reply flow of a flow is a flow
pub is_reply_flow : (nodes : List NodeEntry) (f : FlowEntry) (r : ReplyEntry) → Some r ≡ f.reply → IsFlow nodes f → IsFlow nodes (reply_flow f r)
is_reply_flow nodes f r same ok =
    let shape : IsReply nodes f.to r = rw (← same) at ok.reply in
    record {
      from = ok.to;
      to = ok.from;
      address = rw length-append (omega (arith, shape.path));
      left = rw length-append (omega arith);
      reply = tt;
    }

replies_are_flows : (nodes : List NodeEntry) (f : FlowEntry) (r : Option ReplyEntry) → r ≡ f.reply → IsFlow nodes f → All (IsFlow nodes) (replies_of f r)
replies_are_flows nodes f None same ok = All-nil (IsFlow nodes)
replies_are_flows nodes f (Some r) same ok = All-cons (IsFlow nodes) (reply_flow f r) [] (is_reply_flow nodes f r same ok) (All-nil (IsFlow nodes))

pub reply_flows_are_flows : (nodes : List NodeEntry) (fs : List FlowEntry) → All (IsFlow nodes) fs → All (IsFlow nodes) (reply_flows fs)
reply_flows_are_flows nodes [] all = All-nil (IsFlow nodes)
reply_flows_are_flows nodes (f ∷ fs) all =
    All-append (IsFlow nodes) (replies_of f f.reply) (reply_flows fs) (replies_are_flows nodes f f.reply refl (All-head (IsFlow nodes) f fs all)) (reply_flows_are_flows nodes fs (All-tail (IsFlow nodes) f fs all))

unlike : (name other : List ℕ) → bytes_eq name other ≡ false → bytes_eq (name ++ codes "+reply") (other ++ codes "+reply") ≡ false
unlike name other apart =
    elim (cases_Bool (bytes_eq (name ++ codes "+reply") (other ++ codes "+reply"))) [
      | inl same ↦
          let e : name ≡ other = append_cancel_right name other (codes "+reply") ((bytes_eq-Decides (name ++ codes "+reply") (other ++ codes "+reply")).0 same) in
          absurd (false≢true (sym apart ∙ (bytes_eq-Decides name other).1 e))
      | inr other_name ↦ other_name
    ]

new_among : (name : List ℕ) (f : FlowEntry) (r : Option ReplyEntry) (fs : List FlowEntry) → bytes_eq name f.name ≡ false → list_any (bytes_eq (name ++ codes "+reply")) (flow_names (reply_flows fs)) ≡ false
    → list_any (bytes_eq (name ++ codes "+reply")) (flow_names (replies_of f r ++ reply_flows fs)) ≡ false
new_among name f None fs apart rest = rest
new_among name f (Some r) fs apart rest = rw (unlike name f.name apart, rest) refl

pub new_reply_name : (name : List ℕ) (fs : List FlowEntry) → list_any (bytes_eq name) (flow_names fs) ≡ false → list_any (bytes_eq (name ++ codes "+reply")) (flow_names (reply_flows fs)) ≡ false
new_reply_name name [] new = refl
new_reply_name name (f ∷ fs) new =
    let both = or_parts (bytes_eq name f.name) (list_any (bytes_eq name) (flow_names fs)) new in
    new_among name f f.reply fs both.0 (new_reply_name name fs both.1)

reply_name : (f x : FlowEntry) (r : Option ReplyEntry) → x ∷ [] ≡ replies_of f r → x.name ≡ f.name ++ codes "+reply"
reply_name f x None same = absurd cc
reply_name f x (Some r) same = let e : x ≡ reply_flow f r = cc in ap (λ (y : FlowEntry). y.name) e

pub new_reply : (fs : List FlowEntry) (f x : FlowEntry) → x ∷ [] ≡ replies_of f f.reply → list_any (bytes_eq f.name) (flow_names fs) ≡ false → list_any (bytes_eq x.name) (flow_names (reply_flows fs)) ≡ false
new_reply fs f x same new = rw (reply_name f x f.reply same) (new_reply_name f.name fs new)

-- a network with one flow more
pub flow_more : (w : Wiring) (names : List (List ℕ)) (replies : List FlowEntry) (t : LimitRows) (d : Declaration) (f : FlowEntry) (after : List FlowEntry) (rows : LimitRows)
    → IsNetwork w names replies t d → after ≡ replies ++ replies_of f f.reply → AreLimits (record d { flows = d.flows ++ f ∷ [] }) rows → length d.flows < 4096
    → list_any (bytes_eq f.name) (flow_names d.flows) ≡ false → IsFlow d.nodes f → IsNetwork w names after rows (record d { flows = d.flows ++ f ∷ [] })
flow_more w names replies t d f after rows so_far same limits few new ok = record {
  wired = so_far.wired;
  named = so_far.named;
  replied = same ∙ ap (λ x. x ++ replies_of f f.reply) so_far.replied ∙ sym (reply_flows-push d.flows f);
  limited = limits;
  valid = record {
    sound = so_far.valid.sound;
    nodes = so_far.valid.nodes;
    switches = so_far.valid.switches;
    links = so_far.valid.links;
    flows = All-push (IsFlow d.nodes) d.flows f so_far.valid.flows ok;
    few_flows = rw length-append (omega arith);
    parts_named = so_far.valid.parts_named;
    flows_named = rw (map_push (λ (x : FlowEntry). x.name)) (named_more (flow_names d.flows) f.name so_far.valid.flows_named new);
  };
}

-- where a flow's name is found, among the flows and then among the reply flows
pub position-all_flows : (test : List ℕ → Bool) (d : Declaration)
    → position test (flow_names (all_flows d)) ≡ first_of (position test (flow_names d.flows)) (option_map (λ i. length d.flows + i) (position test (flow_names (reply_flows d.flows))))
position-all_flows test d =
    ap (position test) (map-append (λ (x : FlowEntry). x.name) d.flows (reply_flows d.flows)) ∙ position-append test (flow_names d.flows) (flow_names (reply_flows d.flows)) ∙ rw length-map refl

-- the names of flows with one more, or as they were
pub named_flows : {A E : Type 0} (r : Result A E) (names after : List (List ℕ)) (flows added : List FlowEntry) (f : FlowEntry) (text : List ℕ) → names ≡ flow_names flows → text ≡ f.name
    → OnOk r (after ≡ names ++ text ∷ []) → OnErr r (after ≡ names) → OnOk r (added ≡ flows ++ f ∷ []) → OnErr r (added ≡ flows) → after ≡ flow_names added
named_flows (Ok x) names after flows added f text before same named kept listed left = named ∙ rw (listed, map_push (λ (x : FlowEntry). x.name), before, same) refl
named_flows (Err e) names after flows added f text before same named kept listed left = kept ∙ before ∙ ap flow_names (sym left)

-- flows that were refused, after their replies were taken back
first_kept : {X : Type 0} (xs ys : List X) → take (length xs) (xs ++ ys) ≡ xs
first_kept [] ys = refl
first_kept (x ∷ xs) ys = ap (λ l. x ∷ l) (first_kept xs ys)

pub flow_refused : (w : Wiring) (names : List (List ℕ)) (replies more after cut flows : List FlowEntry) (t rows : LimitRows) (n : ℕ) (d : Declaration) → IsNetwork w names replies t d
    → after ≡ replies ++ more → n ≡ length replies → cut ≡ take n after → flows ≡ d.flows → rows ≡ t → IsNetwork w names cut rows (record d { flows = flows })
flow_refused w names replies more after cut flows t rows n d so_far added size shorter kept counted =
    rw (shorter, size, added, first_kept replies more, kept, counted) so_far

-- places in both of two lists
pub within_first : {X : Type 0} (xs ys : List X) (i : ℕ) → i < length xs → i < length (xs ++ ys)
within_first xs ys i lt = rw length-append (omega (arith, lt))

pub within_second : {X : Type 0} (xs ys second : List X) (n i : ℕ) → n ≡ length xs → second ≡ ys → i < length second → n + i < length (xs ++ ys)
within_second xs ys second n i size same lt = let less : i < length ys = rw same at lt in rw length-append (omega (arith, size, less))

-- the capacities of a link's channels
pub capacity_even : (links : List LinkEntry) (i c : ℕ) (l : LinkEntry) → c ≡ 2 * i → slice_get links i ≡ Some l → slice_get (capacities links) c ≡ Some l.buffer_b
capacity_even [] i c l even at = absurd cc
capacity_even (k ∷ links) zero c l even at = let e : c ≡ 0 = omega arith in let same : k ≡ l = cc in rw (e, same) refl
capacity_even (k ∷ links) (suc i) c l even at = let e : c ≡ suc (suc (2 * i)) = omega arith in rw e (capacity_even links i (2 * i) l refl at)

pub capacity_odd : (links : List LinkEntry) (i c : ℕ) (l : LinkEntry) → c ≡ 2 * i + 1 → slice_get links i ≡ Some l → slice_get (capacities links) c ≡ Some l.buffer_a
capacity_odd [] i c l odd at = absurd cc
capacity_odd (k ∷ links) zero c l odd at = let e : c ≡ suc 0 = omega arith in let same : k ≡ l = cc in rw (e, same) refl
capacity_odd (k ∷ links) (suc i) c l odd at = let e : c ≡ suc (suc (2 * i + 1)) = omega arith in rw e (capacity_odd links i (2 * i + 1) l refl at)

-- a network has at most as many reply flows as flows may be declared
pub few_replies_in : {w : Wiring} {names : List (List ℕ)} {replies : List FlowEntry} {t : LimitRows} {d : Declaration} → IsNetwork w names replies t d → length replies ≤ 4096
few_replies_in {d = d} network =
    omega (arith, network.valid.few_flows, length-reply_flows d.flows, ap (λ (xs : List FlowEntry). length xs) network.replied)

module _ (test : List ℕ → Bool) (d : Declaration) where
  pub found_declared : (i : ℕ) → position test (flow_names d.flows) ≡ Some i → position test (flow_names (all_flows d)) ≡ Some i
  found_declared i found = position-all_flows test d ∙ rw found refl

  pub found_reply : (replies : List FlowEntry) (o : Option ℕ) → replies ≡ reply_flows d.flows → position test (flow_names d.flows) ≡ None → position test (flow_names replies) ≡ o
      → position test (flow_names (all_flows d)) ≡ option_map (λ i. length d.flows + i) o
  found_reply replies o same missed found = position-all_flows test d ∙ rw (missed, ← same, found) refl
