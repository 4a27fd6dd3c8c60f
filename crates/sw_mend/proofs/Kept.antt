-- Whatever changes take away, the network that is left is a valid one.
use Rattle.std.proofs.Common.{◌≡◌, ◌≢◌, ℕ, ◌+◌, suc, Bool, true, false, List, [], ◌∷◌, ◌++◌, All, AllPairs, Option, None, IfSome, length, map, ap, arith, subst, sym}
use Rattle.std.specs.Prelude.{if◌then◌else◌}
use Rattle.std.proofs.lemmas.List.Elements.{All-append, All-cons, All-head, All-map, All-nil, All-tail}
use Rattle.std.proofs.lemmas.List.Kept.{AllPairs-cons}
use Rattle.sw_route.specs.declared.look.Route.{Route}
use Rattle.sw_route.specs.Looks.{IsRoute, IsTable, overlaps}
use Rattle.sw_topo.specs.Checked.{IsSound}
use Rattle.sw_config.specs.Entries.{NodeEntry, ReplyEntry, FlowEntry, Declaration, flow_names, link_ends, part_names, wiring_of}
use Rattle.sw_config.specs.Valid.{IsFlow, IsReply, IsSwitch, IsValid}
use Rattle.sw_mend.specs.Changes.{by_number, changed_by_all, flow_after_all, route_after_all, switch_after_all}
use Rattle.sw_mend.specs.Laws.{AllKeepValid, ChangesKeepValid}
use Rattle.sw_mend.specs.declared.change.Change.{Change}
use Rattle.sw_mend.proofs.AfterAll.{entry_lost, flow_left, flow_lost, flow_stays, one_alone, reply_lost, route_left, route_stays}
use Rattle.sw_mend.proofs.Fresh.{as_many, few_left, same_names}

-- ---- pairs of a list

pub firsts : {X : Type 0} (R : X → X → Type 0) (x : X) (xs : List X) → AllPairs R (x ∷ xs) → All (R x) xs
firsts R x xs pairs = λ k d lt. pairs 0 (suc k) d (omega arith) (omega arith)

pub rests : {X : Type 0} (R : X → X → Type 0) (x : X) (xs : List X) → AllPairs R (x ∷ xs) → AllPairs R xs
rests R x xs pairs = λ i j d lt low. pairs (suc i) (suc j) d (omega arith) (omega arith)

joined : {X : Type 0} (R : X → X → Type 0) (xs ys : List X) → AllPairs R xs → AllPairs R ys → All (λ x. All (R x) ys) xs → AllPairs R (xs ++ ys)
joined R [] ys p q across = q
joined R (x ∷ xs) ys p q across =
    AllPairs-cons R x (xs ++ ys) (All-append (R x) xs ys (firsts R x xs p) (All-head (λ z. All (R z) ys) x xs across))
    (joined R xs ys (rests R x xs p) q (All-tail (λ z. All (R z) ys) x xs across))

pairs_mapped : {X Y : Type 0} (R : Y → Y → Type 0) (f : X → Y) (xs : List X) → AllPairs (λ x y. R (f x) (f y)) xs → AllPairs R (map f xs)
pairs_mapped R f [] p = λ i j d lt low. absurd (omega (arith, low))
pairs_mapped R f (x ∷ xs) p =
    AllPairs-cons R (f x) (map f xs) (All-map (R (f x)) f xs (firsts (λ a b. R (f a) (f b)) x xs p)) (pairs_mapped R f xs (rests (λ a b. R (f a) (f b)) x xs p))

all_of_map : {X Y : Type 0} (P : Y → Type 0) (f : X → Y) (xs : List X) → All P (map f xs) → All (λ x. P (f x)) xs
all_of_map P f [] all = All-nil (λ x. P (f x))
all_of_map P f (x ∷ xs) all =
    All-cons (λ z. P (f z)) x xs (All-head P (f x) (map f xs) all) (all_of_map P f xs (All-tail P (f x) (map f xs) all))

pairs_of_map : {X Y : Type 0} (R : Y → Y → Type 0) (f : X → Y) (xs : List X) → AllPairs R (map f xs) → AllPairs (λ x y. R (f x) (f y)) xs
pairs_of_map R f [] p = λ i j d lt low. absurd (omega (arith, low))
pairs_of_map R f (x ∷ xs) p =
    AllPairs-cons (λ a b. R (f a) (f b)) x xs (all_of_map (R (f x)) f xs (firsts R (f x) (map f xs) p)) (pairs_of_map R f xs (rests R (f x) (map f xs) p))

-- ---- what is made of elements by their numbers

pub all_if : {B : Type 0} (P : B → Type 0) (gone : Bool) (x : B) → P x → All P (if gone then [] else x ∷ [])
all_if P true x is = All-nil P
all_if P false x is = All-cons P x [] is (All-nil P)

pairs_if : {B : Type 0} (R : B → B → Type 0) (gone : Bool) (x : B) → AllPairs R (if gone then [] else x ∷ [])
pairs_if R true x = λ i j d lt low. absurd (omega (arith, low))
pairs_if R false x = λ i j d lt low. absurd (omega (arith, lt, low))

module _ {A B : Type 0} (make : ℕ → A → List B) where
  pub all_made : (P : B → Type 0) (Q : A → Type 0) → ((k : ℕ) (x : A) → Q x → All P (make k x)) → (n : ℕ) (xs : List A) → All Q xs → All P (by_number make n xs)
  all_made P Q each n [] all = All-nil P
  all_made P Q each n (x ∷ xs) all =
      All-append P (make n x) (by_number make (n + 1) xs) (each n x (All-head Q x xs all)) (all_made P Q each (n + 1) xs (All-tail Q x xs all))

  pairs_made : (R : B → B → Type 0) (Q : A → A → Type 0) → ((k l : ℕ) (x y : A) → Q x y → All (λ u. All (R u) (make l y)) (make k x)) → ((k : ℕ) (x : A) → AllPairs R (make k x))
      → (n : ℕ) (xs : List A) → AllPairs Q xs → AllPairs R (by_number make n xs)
  pairs_made R Q each own n [] pairs = λ i j d lt low. absurd (omega (arith, low))
  pairs_made R Q each own n (x ∷ xs) pairs =
      joined R (make n x) (by_number make (n + 1) xs) (own n x) (pairs_made R Q each own (n + 1) xs (rests Q x xs pairs))
      (λ k d lt. all_made (R _) (Q x) (λ l y is. each n l x y is k d lt) (n + 1) xs (firsts Q x xs pairs))

-- ---- what several changes leave

pub all_flow : (P : FlowEntry → Type 0) (changes : List Change) (n : ℕ) (f : FlowEntry) → P (flow_stays changes n f) → All P (flow_after_all changes n f)
all_flow P changes n f is = subst (All P) (sym (flow_left changes n f)) (all_if P (flow_lost changes n f) (flow_stays changes n f) is)

pairs_flow : (R : FlowEntry → FlowEntry → Type 0) (changes : List Change) (n : ℕ) (f : FlowEntry) → AllPairs R (flow_after_all changes n f)
pairs_flow R changes n f = subst (AllPairs R) (sym (flow_left changes n f)) (pairs_if R (flow_lost changes n f) (flow_stays changes n f))

pub all_route : (P : Route → Type 0) (changes : List Change) (switch k : ℕ) (r : Route) → P (route_stays changes switch k r) → All P (route_after_all changes switch k r)
all_route P changes switch k r is = subst (All P) (sym (route_left changes switch k r)) (all_if P (entry_lost changes switch k) (route_stays changes switch k r) is)

pairs_route : (R : Route → Route → Type 0) (changes : List Change) (switch k : ℕ) (r : Route) → AllPairs R (route_after_all changes switch k r)
pairs_route R changes switch k r =
    subst (AllPairs R) (sym (route_left changes switch k r)) (pairs_if R (entry_lost changes switch k) (route_stays changes switch k r))

-- ---- tables

table_left : (changes : List Change) (switch : ℕ) (routes : List Route) → IsTable routes → IsTable (by_number (route_after_all changes switch) 0 routes)
table_left changes switch routes table = record {
  valid = all_made (route_after_all changes switch) IsRoute IsRoute
      (λ k r is. all_route IsRoute changes switch k r (record { first = is.first; rising = is.rising; last = is.last }))
      0 routes table.valid;
  apart = pairs_made (route_after_all changes switch) (λ r q. overlaps r q ≡ false) (λ r q. overlaps r q ≡ false)
      (λ k l r q is. all_route (λ u. All (λ v. overlaps u v ≡ false) (route_after_all changes switch l q)) changes switch k r
      (all_route (λ v. overlaps r v ≡ false) changes switch l q is))
      (λ k r. pairs_route (λ u v. overlaps u v ≡ false) changes switch k r)
      0 routes table.apart;
}

-- ---- flows

reply_left : (P : ReplyEntry → Type 0) (gone : Bool) (reply : Option ReplyEntry) → IfSome reply P → IfSome (if gone then None else reply) P
reply_left P true reply is = tt
reply_left P false reply is = is

valid_flow : (changes : List Change) (nodes : List NodeEntry) (n : ℕ) (f : FlowEntry) → IsFlow nodes f → IsFlow nodes (flow_stays changes n f)
valid_flow changes nodes n f is = record {
  from = is.from;
  to = is.to;
  address = is.address;
  left = is.left;
  reply = reply_left (IsReply nodes f.to) (reply_lost changes n f) f.reply is.reply;
}

flows_left : (changes : List Change) (nodes : List NodeEntry) (flows : List FlowEntry) → All (IsFlow nodes) flows → All (IsFlow nodes) (by_number (flow_after_all changes) 0 flows)
flows_left changes nodes flows all =
    all_made (flow_after_all changes) (IsFlow nodes) (IsFlow nodes)
    (λ k f is. all_flow (IsFlow nodes) changes k f (valid_flow changes nodes k f is)) 0 flows all

names_left : (changes : List Change) (flows : List FlowEntry) → AllPairs (λ x y. x ≢ y) (flow_names flows) → AllPairs (λ x y. x ≢ y) (flow_names (by_number (flow_after_all changes) 0 flows))
names_left changes flows named =
    pairs_mapped (λ (x y : List ℕ). x ≢ y) (λ (f : FlowEntry). f.name) (by_number (flow_after_all changes) 0 flows)
    (pairs_made (flow_after_all changes) (λ (f g : FlowEntry). f.name ≢ g.name) (λ (f g : FlowEntry). f.name ≢ g.name)
    (λ k l f g is. all_flow (λ (u : FlowEntry). All (λ (v : FlowEntry). u.name ≢ v.name) (flow_after_all changes l g)) changes k f
    (all_flow (λ (v : FlowEntry). f.name ≢ v.name) changes l g is))
    (λ k f. pairs_flow (λ (u v : FlowEntry). u.name ≢ v.name) changes k f)
    0 flows (pairs_of_map (λ (x y : List ℕ). x ≢ y) (λ (f : FlowEntry). f.name) flows named))

-- ---- the whole

-- switches are as many, and nodes and links as they were
pub same_wiring : (changes : List Change) (d : Declaration) → wiring_of (changed_by_all d changes) ≡ wiring_of d
same_wiring changes d = ap (λ n. record { nodes = length d.nodes; switches = n; ends = link_ends d.links }) (as_many changes 0 d.switches)

pub same_part_names : (changes : List Change) (d : Declaration) → part_names (changed_by_all d changes) ≡ part_names d
same_part_names changes d = ap (λ l. map (λ (n : NodeEntry). n.name) d.nodes ++ l) (same_names changes 0 d.switches)

pub all_keep_valid : AllKeepValid
all_keep_valid d changes valid = record {
  sound = subst IsSound (sym (same_wiring changes d)) valid.sound;
  nodes = valid.nodes;
  switches = all_made (switch_after_all changes) IsSwitch IsSwitch (λ k s is. All-cons IsSwitch _ [] (table_left changes k s.routes is) (All-nil IsSwitch)) 0 d.switches valid.switches;
  links = valid.links;
  flows = flows_left changes d.nodes d.flows valid.flows;
  few_flows = omega (arith, few_left changes 0 d.flows, valid.few_flows);
  parts_named = subst (λ (l : List (List ℕ)). AllPairs (λ x y. x ≢ y) l) (sym (same_part_names changes d)) valid.parts_named;
  flows_named = names_left changes d.flows valid.flows_named;
}

pub changes_keep_valid : ChangesKeepValid
changes_keep_valid d change valid = subst IsValid (one_alone d change) (all_keep_valid d (change ∷ []) valid)
