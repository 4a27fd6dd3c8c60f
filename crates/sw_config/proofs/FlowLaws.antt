-- The laws of the flows of each network.
use Rattle.std.proofs.Common.{◌≡◌, ◌≢◌, ℕ, zero, suc, ◌+◌, cond, take, List, [], ◌∷◌, ◌++◌, is_some, Option, Some, None, codes, refl, sym, ap, ◌∙◌, arith, length-append, zero-add, All, AllPairs}
use Rattle.std.specs.Prelude.{slice_get}
use Rattle.std.proofs.lemmas.Option.{same_Some}
use Rattle.std.proofs.lemmas.List.{append_cancel_right, map-append}
use Rattle.std.proofs.lemmas.List.Elements.{All-append, All-cons, All-nil, All-head, All-tail}
use Rattle.std.proofs.lemmas.List.Sums.{sum_by-cons}
use Rattle.std.proofs.lemmas.List.Kept.{AllPairs-cons}
use Rattle.sw_config.specs.Entries.{NodeEntry, ReplyEntry, FlowEntry, flow_names, reply_flow, replies_of, reply_flows}
use Rattle.sw_config.specs.Valid.{IsReply, IsFlow}
use Rattle.sw_config.specs.Laws.{replies_before, RepliesFollowInOrder, IsReplyTo, LaterFlowsAreReplies, IsReplyFlow, FlowsAreValid, NamesAreDistinct}
use Rattle.sw_config.proofs.Flows.{slice_get-append_right, reply_flows_are_flows, is_reply_flow}

past_replies : (f : FlowEntry) (r : Option ReplyEntry) (rest : List FlowEntry) (n : ℕ) → slice_get (replies_of f r ++ rest) (cond (is_some r) 1 0 + n) ≡ slice_get rest n
past_replies f None rest n = ap (slice_get rest) (zero-add n)
past_replies f (Some r) rest n = let e : 1 + n ≡ suc n = omega arith in rw e refl

reply_at : (fs : List FlowEntry) (i : ℕ) (f : FlowEntry) (r : ReplyEntry) → slice_get fs i ≡ Some f → f.reply ≡ Some r → slice_get (reply_flows fs) (replies_before fs i) ≡ Some (reply_flow f r)
reply_at [] i f r at has = absurd cc
reply_at (g ∷ fs) zero f r at has = let e : g ≡ f = same_Some g f at in rw (e, has) refl
reply_at (g ∷ fs) (suc i) f r at has =
    ap (slice_get (reply_flows (g ∷ fs))) (sum_by-cons (λ (x : FlowEntry). cond (is_some x.reply) 1 0) g (take i fs)) ∙ past_replies g g.reply (reply_flows fs) (replies_before fs i) ∙ reply_at fs i f r at has

pub follow_in_order : RepliesFollowInOrder
follow_in_order d i f r at has = slice_get-append_right d.flows (reply_flows d.flows) (replies_before d.flows i) ∙ reply_at d.flows i f r at has

-- what replies to a flow of the rest replies to a flow
later : (f : FlowEntry) (fs : List FlowEntry) (g : FlowEntry) → IsReplyTo fs g → IsReplyTo (f ∷ fs) g
later f fs g is = record { number = suc is.number; flow = is.flow; entry = is.entry; declared = is.declared; replies = is.replies; same = is.same }

first_or_later : (f : FlowEntry) (fs : List FlowEntry) (o : Option ReplyEntry) (k : ℕ) (g : FlowEntry) → f.reply ≡ o → ((j : ℕ) → slice_get (reply_flows fs) j ≡ Some g → IsReplyTo fs g)
    → slice_get (replies_of f o ++ reply_flows fs) k ≡ Some g → IsReplyTo (f ∷ fs) g
first_or_later f fs None k g has rec at = later f fs g (rec k at)
first_or_later f fs (Some r) zero g has rec at = record { number = 0; flow = f; entry = r; declared = refl; replies = has; same = sym (same_Some (reply_flow f r) g at) }
first_or_later f fs (Some r) (suc k) g has rec at = later f fs g (rec k at)

pub replies_to : (fs : List FlowEntry) (k : ℕ) (g : FlowEntry) → slice_get (reply_flows fs) k ≡ Some g → IsReplyTo fs g
replies_to [] k g at = absurd cc
replies_to (f ∷ fs) k g at = first_or_later f fs f.reply k g refl (λ j. replies_to fs j g) at

pub are_replies : LaterFlowsAreReplies
are_replies d k g at = replies_to d.flows k g (sym (slice_get-append_right d.flows (reply_flows d.flows) k) ∙ at)

-- each reply flow of valid flows is one
shape : (nodes : List NodeEntry) (f : FlowEntry) (r : Option ReplyEntry) → r ≡ f.reply → IsFlow nodes f → All (IsReplyFlow nodes) (replies_of f r)
shape nodes f None same ok = All-nil (IsReplyFlow nodes)
shape nodes f (Some r) same ok =
    let entry : IsReply nodes f.to r = rw (← same) at ok.reply in
    All-cons (IsReplyFlow nodes) (reply_flow f r) [] (record { flow = is_reply_flow nodes f r same ok; address = rw length-append (omega (arith, entry.path)); left = refl; reply = refl }) (All-nil (IsReplyFlow nodes))

shapes : (nodes : List NodeEntry) (fs : List FlowEntry) → All (IsFlow nodes) fs → All (IsReplyFlow nodes) (reply_flows fs)
shapes nodes [] all = All-nil (IsReplyFlow nodes)
shapes nodes (f ∷ fs) all =
    All-append (IsReplyFlow nodes) (replies_of f f.reply) (reply_flows fs) (shape nodes f f.reply refl (All-head (IsFlow nodes) f fs all)) (shapes nodes fs (All-tail (IsFlow nodes) f fs all))

pub valid_flows : FlowsAreValid
valid_flows d valid = (All-append (IsFlow d.nodes) d.flows (reply_flows d.flows) valid.flows (reply_flows_are_flows d.nodes d.flows valid.flows), shapes d.nodes d.flows valid.flows)

-- what holds of each name with the reply's ending holds of the names of reply flows
reply_names : (P : List ℕ → Type 0) (fs : List FlowEntry) → All (λ f. P (f.name ++ codes "+reply")) fs → All P (flow_names (reply_flows fs))
reply_names P [] all = All-nil P
reply_names P (f ∷ fs) all = by P f f.reply fs (All-head (λ g. P (g.name ++ codes "+reply")) f fs all) (reply_names P fs (All-tail (λ g. P (g.name ++ codes "+reply")) f fs all))
  where
    by : (P : List ℕ → Type 0) (f : FlowEntry) (o : Option ReplyEntry) (fs : List FlowEntry) → P (f.name ++ codes "+reply") → All P (flow_names (reply_flows fs)) → All P (flow_names (replies_of f o ++ reply_flows fs))
    by P f None fs first rest = rest
    by P f (Some r) fs first rest = All-cons P (f.name ++ codes "+reply") (flow_names (reply_flows fs)) first rest

-- a name without a plus sign is no reply flow's
has_plus : (name rest : List ℕ) → All (λ b. b ≢ 43) (name ++ 43 ∷ rest) → ⊥
has_plus [] rest all = All-head (λ b. b ≢ 43) 43 rest all refl
has_plus (b ∷ name) rest all = has_plus name rest (All-tail (λ x. x ≢ 43) b (name ++ 43 ∷ rest) all)

no_reply_name : (name other : List ℕ) → All (λ b. b ≢ 43) name → name ≢ other ++ codes "+reply"
no_reply_name name other plain same = has_plus other (codes "reply") (rw same at plain)

abbrev Apart : List ℕ → List ℕ → Type 0
Apart x y = x ≢ y

-- lists of names, each apart
apart_head : (x : List ℕ) (xs : List (List ℕ)) → AllPairs Apart (x ∷ xs) → All (Apart x) xs
apart_head x xs pairs = λ k d lt. pairs 0 (suc k) d (omega arith) (omega arith)

apart_tail : (x : List ℕ) (xs : List (List ℕ)) → AllPairs Apart (x ∷ xs) → AllPairs Apart xs
apart_tail x xs pairs = λ i j d lt inside. pairs (suc i) (suc j) d (omega arith) (omega arith)

apart_append : (xs ys : List (List ℕ)) → AllPairs Apart xs → AllPairs Apart ys → All (λ x. All (Apart x) ys) xs → AllPairs Apart (xs ++ ys)
apart_append [] ys first second cross = second
apart_append (x ∷ xs) ys first second cross =
    AllPairs-cons Apart x (xs ++ ys) (All-append (Apart x) xs ys (apart_head x xs first) (All-head (λ z. All (Apart z) ys) x xs cross))
    (apart_append xs ys (apart_tail x xs first) second (All-tail (λ z. All (Apart z) ys) x xs cross))

-- names apart stay so with the reply's ending
ended_apart : (name : List ℕ) (fs : List FlowEntry) → All (Apart name) (flow_names fs) → All (λ f. Apart (name ++ codes "+reply") (f.name ++ codes "+reply")) fs
ended_apart name [] all = All-nil (λ (f : FlowEntry). Apart (name ++ codes "+reply") (f.name ++ codes "+reply"))
ended_apart name (f ∷ fs) all =
    All-cons (λ (g : FlowEntry). Apart (name ++ codes "+reply") (g.name ++ codes "+reply")) f fs
    (λ same. All-head (Apart name) f.name (flow_names fs) all (append_cancel_right name f.name (codes "+reply") same))
    (ended_apart name fs (All-tail (Apart name) f.name (flow_names fs) all))

replies_apart : (fs : List FlowEntry) → AllPairs Apart (flow_names fs) → AllPairs Apart (flow_names (reply_flows fs))
replies_apart [] pairs = λ i j d lt inside. absurd (omega arith)
replies_apart (f ∷ fs) pairs =
    by f f.reply fs (reply_names (Apart (f.name ++ codes "+reply")) fs (ended_apart f.name fs (apart_head f.name (flow_names fs) pairs))) (replies_apart fs (apart_tail f.name (flow_names fs) pairs))
  where
    by : (f : FlowEntry) (o : Option ReplyEntry) (fs : List FlowEntry) → All (Apart (f.name ++ codes "+reply")) (flow_names (reply_flows fs)) → AllPairs Apart (flow_names (reply_flows fs))
        → AllPairs Apart (flow_names (replies_of f o ++ reply_flows fs))
    by f None fs first rest = rest
    by f (Some r) fs first rest = AllPairs-cons Apart (f.name ++ codes "+reply") (flow_names (reply_flows fs)) first rest

-- no declared name is a reply flow's
crossed : (fs gs : List FlowEntry) → All (λ f. All (λ b. b ≢ 43) f.name) fs → All (λ x. All (Apart x) (flow_names (reply_flows gs))) (flow_names fs)
crossed [] gs plain = All-nil (λ x. All (Apart x) (flow_names (reply_flows gs)))
crossed (f ∷ fs) gs plain =
    All-cons (λ x. All (Apart x) (flow_names (reply_flows gs))) f.name (flow_names fs)
    (reply_names (Apart f.name) gs (λ k d lt. no_reply_name f.name _ (All-head (λ (g : FlowEntry). All (λ b. b ≢ 43) g.name) f fs plain)))
    (crossed fs gs (All-tail (λ (g : FlowEntry). All (λ b. b ≢ 43) g.name) f fs plain))

pub distinct_names : NamesAreDistinct
distinct_names d valid plain =
    rw map-append (apart_append (flow_names d.flows) (flow_names (reply_flows d.flows)) valid.flows_named (replies_apart d.flows valid.flows_named) (crossed d.flows d.flows plain))
