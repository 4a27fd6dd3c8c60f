-- What single changes leave, kind by kind, and what several take away.
use Rattle.std.proofs.Common.{◌≡◌, ◌≢◌, ℕ, ◌+◌, ◌<◌, ◌≤◌, Bool, true, false, List, [], ◌∷◌, ◌++◌, length, Contains, None, ap, arith, inl, inr, refl, subst, sym, ◌∙◌, append_assoc, eq-eqb, filter}
use Rattle.std.specs.Prelude.{◌==◌, ◌&&◌, ◌||◌, IsBitSet, fold, not, if◌then◌else◌}
use Rattle.std.specs.List.{AllZip}
use Rattle.std.proofs.lemmas.Bool.{false≢true, ne_eqb}
use Rattle.std.proofs.lemmas.List.Elements.{All-contains, All-contains_itself, All-filter, filter_passes}
use Rattle.sw_topo.specs.Ports.{ports_of}
use Rattle.sw_topo.proofs.Lists.{and_false, kept}
use Rattle.sw_topo.proofs.PortBits.{port_set_members}
use Rattle.sw_topo.proofs.PortWalk.{ports_listed}
use Rattle.sw_route.specs.declared.look.Route.{Route}
use Rattle.sw_config.specs.Entries.{SwitchEntry, FlowEntry, Declaration}
use Rattle.sw_mend.specs.declared.change.Change.{Change}
use Rattle.sw_mend.specs.declared.change.Change.TheVariants.{WithoutReply, WithoutReplies, WithoutFlow, WithoutAnswers, WithoutPort, WithoutEntry, WithoutFlowsOf}
use Rattle.sw_mend.specs.Changes.{by_number, changed, flow_after, flow_after_all, loses_entry, loses_flow, loses_reply, ports_after, ports_but, route_after, route_after_all, switch_after, switch_after_all}
use Rattle.sw_mend.specs.ChangeLaws.{AreLeft, ChangesCommute, ChangesTakeAway, FlowChangesInWords, IsEntryLeft, IsFlowLeft, IsSwitchLeft, OtherPortsStay, TableChangesInWords, all_unanswered, unanswered}
use Rattle.sw_mend.proofs.PortSets.{same_ports}
use Rattle.sw_mend.proofs.AfterAll.{entry_lost, flow_left, flow_lost, flow_stays, reply_lost, route_left, route_stays}

-- ---- what is made of elements by their numbers

module _ {A B : Type 0} (make : ℕ → A → List B) where
  -- of two lists, one after the other
  in_two : (n : ℕ) (xs ys : List A) → by_number make n (xs ++ ys) ≡ by_number make n xs ++ by_number make (n + length xs) ys
  in_two n [] ys = let e : n ≡ n + 0 = omega arith in ap (λ k. by_number make k ys) e
  in_two n (x ∷ xs) ys =
      let e : n + 1 + length xs ≡ n + length (x ∷ xs) = omega arith in
      ap (λ l. make n x ++ l) (in_two (n + 1) xs ys ∙ ap (λ k. by_number make (n + 1) xs ++ by_number make k ys) e)
      ∙ sym (append_assoc (make n x) (by_number make (n + 1) xs) (by_number make (n + length (x ∷ xs)) ys))

module _ {A : Type 0} (make : ℕ → A → List A) where
  -- those that stay
  stay : (n : ℕ) (xs : List A) → ((k : ℕ) (x : A) → n ≤ k → k < n + length xs → make k x ≡ x ∷ []) → by_number make n xs ≡ xs
  stay n [] each = refl
  stay n (x ∷ xs) each =
      (λ t. each n x (omega arith) (omega arith) t ++ stay (n + 1) xs (λ k y low high. each k y (omega (arith, low)) (omega (arith, high))) t)

  -- where one alone does not
  one_else : (before after : List A) (x : A) → ((k : ℕ) (y : A) → k ≢ length before → make k y ≡ y ∷ []) → by_number make 0 (before ++ x ∷ after) ≡ before ++ (make (length before) x ++ after)
  one_else before after x each =
      let e : 0 + length before ≡ length before = omega arith in
      in_two make 0 before (x ∷ after)
      ∙ ap (λ k. by_number make 0 before ++ by_number make k (x ∷ after)) e
      ∙ (λ t. stay 0 before (λ k y low high. each k y (λ same. omega (arith, same, high))) t
      ++ (make (length before) x ++ stay (length before + 1) after (λ k y low high. each k y (λ same. omega (arith, same, low))) t))

-- ---- tables and flows that stay

module _ (change : Change) where
  tables_stay : ((switch entry : ℕ) (r : Route) → route_after change switch entry r ≡ r ∷ []) → (n : ℕ) (switches : List SwitchEntry) → by_number (switch_after change) n switches ≡ switches
  tables_stay each n [] = refl
  tables_stay each n (s ∷ switches) =
      λ t. record s { routes = stay (route_after change n) 0 s.routes (λ k r low high. each n k r) t } ∷ tables_stay each (n + 1) switches t

  -- flows changed, and no tables
  of_flows : (d : Declaration) (flows : List FlowEntry) → ((switch entry : ℕ) (r : Route) → route_after change switch entry r ≡ r ∷ []) → by_number (flow_after change) 0 d.flows ≡ flows
      → changed d change ≡ record d { flows = flows }
  of_flows d flows each is = λ t. record d { switches = tables_stay each 0 d.switches t; flows = is t }

  -- tables changed, and no flows
  of_tables : (d : Declaration) (switches : List SwitchEntry) → ((k : ℕ) (f : FlowEntry) → flow_after change k f ≡ f ∷ []) → by_number (switch_after change) 0 d.switches ≡ switches
      → changed d change ≡ record d { switches = switches }
  of_tables d switches each is = λ t. record d { switches = is t; flows = stay (flow_after change) 0 d.flows (λ k f low high. each k f) t }

-- ---- changes of flows

silent : (f : FlowEntry) (b : Bool) → record f { reply = if b then None else f.reply } ≡ (if b then unanswered f else f)
silent f true = refl
silent f false = refl

kept_if : {A : Type 0} (b : Bool) (x : A) (xs : List A) → (if b then [] else x ∷ []) ++ xs ≡ (if not b then x ∷ xs else xs)
kept_if true x xs = refl
kept_if false x xs = refl

module _ (from to : ℕ) where
  replies_of_all : (n : ℕ) (flows : List FlowEntry) → by_number (flow_after (WithoutReplies from to)) n flows ≡ all_unanswered (λ f. f.from == from && f.to == to) flows
  replies_of_all n [] = refl
  replies_of_all n (f ∷ flows) = λ t. silent f (f.from == from && f.to == to) t ∷ replies_of_all (n + 1) flows t

module _ (node : ℕ) where
  answers_of_all : (n : ℕ) (flows : List FlowEntry) → by_number (flow_after (WithoutAnswers node)) n flows ≡ all_unanswered (λ f. f.to == node) flows
  answers_of_all n [] = refl
  answers_of_all n (f ∷ flows) = λ t. silent f (f.to == node) t ∷ answers_of_all (n + 1) flows t

  flows_of_all : (n : ℕ) (flows : List FlowEntry) → by_number (flow_after (WithoutFlowsOf node)) n flows ≡ filter (λ f. not (f.from == node || f.to == node)) flows
  flows_of_all n [] = refl
  flows_of_all n (f ∷ flows) =
      kept_if (f.from == node || f.to == node) f (by_number (flow_after (WithoutFlowsOf node)) (n + 1) flows)
      ∙ ap (λ l. if not (f.from == node || f.to == node) then f ∷ l else l) (flows_of_all (n + 1) flows)

pub flow_changes_in_words : FlowChangesInWords
flow_changes_in_words d = record {
  reply = λ before after f is.
      let n : ℕ = length before in
      of_flows (WithoutReply n) d (before ++ unanswered f ∷ after) (λ switch entry r. refl)
      (ap (by_number (flow_after (WithoutReply n)) 0) is
      ∙ one_else (flow_after (WithoutReply n)) before after f (λ k g other. ap (λ (b : Bool). record g { reply = if b then None else g.reply } ∷ []) (ne_eqb k n other))
      ∙ ap (λ (b : Bool). before ++ record f { reply = if b then None else f.reply } ∷ after) (eq-eqb n n refl));
  replies = λ from to. of_flows (WithoutReplies from to) d _ (λ switch entry r. refl) (replies_of_all from to 0 d.flows);
  flow = λ before after f is.
      let n : ℕ = length before in
      of_flows (WithoutFlow n) d (before ++ after) (λ switch entry r. refl)
      (ap (by_number (flow_after (WithoutFlow n)) 0) is
      ∙ one_else (flow_after (WithoutFlow n)) before after f (λ k g other. ap (λ (b : Bool). if b then [] else g ∷ []) (ne_eqb k n other))
      ∙ ap (λ (b : Bool). before ++ ((if b then [] else f ∷ []) ++ after)) (eq-eqb n n refl));
  answers = λ node. of_flows (WithoutAnswers node) d _ (λ switch entry r. refl) (answers_of_all node 0 d.flows);
  flows = λ node. of_flows (WithoutFlowsOf node) d _ (λ switch entry r. refl) (flows_of_all node 0 d.flows);
}

-- ---- changes of tables

-- one entry of one table
module _ (make : ℕ → ℕ → Route → List Route) where
  make_switch : ℕ → SwitchEntry → List SwitchEntry
  make_switch k s = record s { routes = by_number (make k) 0 s.routes } ∷ []

  pub one_table : (before after : List SwitchEntry) (s : SwitchEntry) (above below : List Route) (r : Route) (left : List Route) → s.routes ≡ above ++ r ∷ below
      → ((k e : ℕ) (q : Route) → k ≢ length before → make k e q ≡ q ∷ []) → ((e : ℕ) (q : Route) → e ≢ length above → make (length before) e q ≡ q ∷ [])
      → make (length before) (length above) r ≡ left
      → by_number (λ k (s : SwitchEntry). record s { routes = by_number (make k) 0 s.routes } ∷ []) 0 (before ++ s ∷ after) ≡ before ++ record s { routes = above ++ (left ++ below) } ∷ after
  one_table before after s above below r left is others rest here =
      one_else (λ k (s : SwitchEntry). record s { routes = by_number (make k) 0 s.routes } ∷ []) before after s
      (λ k q other. (λ t. record q { routes = stay (make k) 0 q.routes (λ e p low high. others k e p other) t } ∷ []))
      ∙ ap (λ (l : List Route). before ++ record s { routes = l } ∷ after)
      (ap (by_number (make (length before)) 0) is ∙ one_else (make (length before)) above below r rest ∙ ap (λ l. above ++ (l ++ below)) here)

first_false : (a b : Bool) → a ≡ false → (a && b) ≡ false
first_false a b is = ap (λ c. c && b) is

both_true : (i j : ℕ) → (i == i && j == j) ≡ true
both_true i j = λ t. eq-eqb i i refl t && eq-eqb j j refl t

pub table_changes_in_words : TableChangesInWords
table_changes_in_words d before after s above below r at is =
    let i : ℕ = length before in
    let j : ℕ = length above in
    record {
      entry = of_tables (WithoutEntry i j) d (before ++ record s { routes = above ++ below } ∷ after) (λ k f. refl)
          (ap (by_number (switch_after (WithoutEntry i j)) 0) at
          ∙ one_table (route_after (WithoutEntry i j)) before after s above below r [] is
          (λ k e q other. ap (λ (b : Bool). if b then [] else q ∷ []) (first_false (k == i) (e == j) (ne_eqb k i other)))
          (λ e q other. ap (λ (b : Bool). if b then [] else q ∷ []) (and_false (i == i) (e == j) (ne_eqb e j other)))
          (ap (λ (b : Bool). if b then [] else r ∷ []) (both_true i j)));
      port = λ port. of_tables (WithoutPort i j port) d (before ++ record s { routes = above ++ record r { ports = ports_but port r.ports } ∷ below } ∷ after) (λ k f. refl)
          (ap (by_number (switch_after (WithoutPort i j port)) 0) at
          ∙ one_table (route_after (WithoutPort i j port)) before after s above below r (record r { ports = ports_but port r.ports } ∷ []) is
          (λ k e q other. ap (λ (b : Bool). record q { ports = if b then ports_but port q.ports else q.ports } ∷ []) (first_false (k == i) (e == j) (ne_eqb k i other)))
          (λ e q other. ap (λ (b : Bool). record q { ports = if b then ports_but port q.ports else q.ports } ∷ []) (and_false (i == i) (e == j) (ne_eqb e j other)))
          (ap (λ (b : Bool). record r { ports = if b then ports_but port r.ports else r.ports } ∷ []) (both_true i j)));
    }

-- ---- a set without a port

other_than : ℕ → ℕ → Bool
other_than port p = not (p == port)

pub other_ports_stay : OtherPortsStay
unfolding other_than
other_ports_stay port set p = (
  λ here.
      let listed : Contains (filter (other_than port) (ports_of set)) p = (port_set_members (filter (other_than port) (ports_of set)) p).0 here in
      let was : Contains (ports_of set) p = All-contains (λ y. Contains (ports_of set) y) (filter (other_than port) (ports_of set)) p (All-filter (other_than port) (λ y. Contains (ports_of set) y) (ports_of set) (All-contains_itself (ports_of set))) listed in
      let passes : other_than port p ≡ true = All-contains (λ y. other_than port y ≡ true) (filter (other_than port) (ports_of set)) p (filter_passes (other_than port) (ports_of set)) listed in
      let both = ((ports_listed set).members p).0 was in
      (both.0, both.1, λ same. false≢true (sym (ap not (eq-eqb p port same)) ∙ passes)),
  λ is. (port_set_members (filter (other_than port) (ports_of set)) p).1
      (kept (other_than port) (ports_of set) p (((ports_listed set).members p).1 (is.0, is.1)) (ap not (ne_eqb p port is.2))),
)

-- ---- what several take away

-- what is made of an element is nothing, or one that is as the relation says
record IsOneLeft {A : Type 0} (R : A → A → Type 0) (x : A) (made : List A) : Type 0 where
  gone : Bool
  left : A
  is : made ≡ (if gone then [] else left ∷ [])
  related : R x left

left_more : {A : Type 0} (R : A → A → Type 0) (x y : A) (xs made rest : List A) (gone : Bool) → made ≡ (if gone then [] else y ∷ []) → R x y → AreLeft R xs rest → AreLeft R (x ∷ xs) (made ++ rest)
left_more R x y xs made rest true is related all = inl (subst (AreLeft R xs) (ap (λ l. l ++ rest) (sym is)) all)
left_more R x y xs made rest false is related all = inr (y, rest, ap (λ l. l ++ rest) is, related, all)

module _ {A : Type 0} (R : A → A → Type 0) (make : ℕ → A → List A) (each : (k : ℕ) (x : A) → IsOneLeft R x (make k x)) where
  are_left : (n : ℕ) (xs : List A) → AreLeft R xs (by_number make n xs)
  are_left n [] = refl
  are_left n (x ∷ xs) =
      let one = each n x in
      left_more R x one.left xs (make n x) (by_number make (n + 1) xs) one.gone one.is one.related (are_left (n + 1) xs)

flow_is_left : (f : FlowEntry) (b : Bool) → IsFlowLeft f (record f { reply = if b then None else f.reply })
flow_is_left f true = inr refl
flow_is_left f false = inl refl

fewer_if : (b : Bool) (port set p : ℕ) → IsBitSet (if b then ports_but port set else set) p → IsBitSet set p
fewer_if true port set p here = ((other_ports_stay port set p).0 here).1
fewer_if false port set p here = here

fewer : (change : Change) (switch entry set p : ℕ) → IsBitSet (ports_after change switch entry set) p → IsBitSet set p
fewer (WithoutReply flow) switch entry set p here = here
fewer (WithoutReplies from to) switch entry set p here = here
fewer (WithoutFlow gone) switch entry set p here = here
fewer (WithoutAnswers node) switch entry set p here = here
fewer (WithoutPort at group port) switch entry set p here = fewer_if (switch == at && entry == group) port set p here
fewer (WithoutEntry from gone) switch entry set p here = here
fewer (WithoutFlowsOf node) switch entry set p here = here

all_fewer : (changes : List Change) (switch entry set p : ℕ) → IsBitSet (fold (λ ports change. ports_after change switch entry ports) set changes) p → IsBitSet set p
all_fewer [] switch entry set p here = here
all_fewer (change ∷ changes) switch entry set p here = fewer change switch entry set p (all_fewer changes switch entry (ports_after change switch entry set) p here)

switches_are_left : (changes : List Change) (n : ℕ) (switches : List SwitchEntry) → AllZip IsSwitchLeft switches (by_number (switch_after_all changes) n switches)
switches_are_left changes n [] = tt
switches_are_left changes n (s ∷ switches) = (
  (
    refl,
    are_left IsEntryLeft (route_after_all changes n)
        (λ k r. record {
          gone = entry_lost changes n k;
          left = route_stays changes n k r;
          is = route_left changes n k r;
          related = (refl, λ p here. all_fewer changes n k r.ports p here);
        }) 0 s.routes,
  ),
  switches_are_left changes (n + 1) switches,
)

pub changes_take_away : ChangesTakeAway
changes_take_away d changes = record {
  nodes = refl;
  links = refl;
  switches = switches_are_left changes 0 d.switches;
  flows = are_left IsFlowLeft (flow_after_all changes)
      (λ k f. record {
        gone = flow_lost changes k f;
        left = flow_stays changes k f;
        is = flow_left changes k f;
        related = flow_is_left f (reply_lost changes k f);
      }) 0 d.flows;
}

-- ---- two in either order

either_first : (a b : Bool) → (a || (b || false)) ≡ (b || (a || false))
either_first true true = refl
either_first true false = refl
either_first false true = refl
either_first false false = refl

flow_of_two : (first second : Change) (k : ℕ) (f : FlowEntry) → flow_after_all (first ∷ second ∷ []) k f ≡ flow_after_all (second ∷ first ∷ []) k f
flow_of_two first second k f =
    flow_left (first ∷ second ∷ []) k f
    ∙ (λ t. if either_first (loses_flow first k f) (loses_flow second k f) t then [] else record f { reply = if either_first (loses_reply first k f) (loses_reply second k f) t then None else f.reply } ∷ [])
    ∙ sym (flow_left (second ∷ first ∷ []) k f)

-- what a change takes of a set is a port, or nothing
record TakesPort (change : Change) (switch entry : ℕ) : Type 0 where
  port : ℕ
  taken : Bool
  is : (set : ℕ) → ports_after change switch entry set ≡ (if taken then ports_but port set else set)

takes_port : (change : Change) (switch entry : ℕ) → TakesPort change switch entry
takes_port (WithoutReply flow) switch entry = record { port = 0; taken = false; is = λ set. refl }
takes_port (WithoutReplies from to) switch entry = record { port = 0; taken = false; is = λ set. refl }
takes_port (WithoutFlow gone) switch entry = record { port = 0; taken = false; is = λ set. refl }
takes_port (WithoutAnswers node) switch entry = record { port = 0; taken = false; is = λ set. refl }
takes_port (WithoutPort at group port) switch entry = record { port = port; taken = switch == at && entry == group; is = λ set. refl }
takes_port (WithoutEntry from gone) switch entry = record { port = 0; taken = false; is = λ set. refl }
takes_port (WithoutFlowsOf node) switch entry = record { port = 0; taken = false; is = λ set. refl }

one_way : (p q set x : ℕ) → IsBitSet (ports_but p (ports_but q set)) x → IsBitSet (ports_but q (ports_but p set)) x
one_way p q set x here =
    let outer = (other_ports_stay p (ports_but q set) x).0 here in
    let inner = (other_ports_stay q set x).0 outer.1 in
    (other_ports_stay q (ports_but p set) x).1 (outer.0, (other_ports_stay p set x).1 (inner.0, inner.1, outer.2), inner.2)

but_two : (p q set : ℕ) → ports_but p (ports_but q set) ≡ ports_but q (ports_but p set)
but_two p q set = same_ports (ports_but p (ports_but q set)) (ports_but q (ports_but p set)) (λ x. (one_way p q set x, one_way q p set x))

if_two : (a b : Bool) (p q set : ℕ)
    → (if b then ports_but q (if a then ports_but p set else set) else (if a then ports_but p set else set)) ≡ (if a then ports_but p (if b then ports_but q set else set) else (if b then ports_but q set else set))
if_two true true p q set = but_two q p set
if_two true false p q set = refl
if_two false true p q set = refl
if_two false false p q set = refl

ports_of_two : (first second : Change) (switch entry set : ℕ) → ports_after second switch entry (ports_after first switch entry set) ≡ ports_after first switch entry (ports_after second switch entry set)
ports_of_two first second switch entry set =
    let a = takes_port first switch entry in
    let b = takes_port second switch entry in
    ap (ports_after second switch entry) (a.is set) ∙ b.is (if a.taken then ports_but a.port set else set)
    ∙ if_two a.taken b.taken a.port b.port set
    ∙ sym (ap (ports_after first switch entry) (b.is set) ∙ a.is (if b.taken then ports_but b.port set else set))

route_of_two : (first second : Change) (switch entry : ℕ) (r : Route) → route_after_all (first ∷ second ∷ []) switch entry r ≡ route_after_all (second ∷ first ∷ []) switch entry r
route_of_two first second switch entry r =
    route_left (first ∷ second ∷ []) switch entry r
    ∙ (λ t. if either_first (loses_entry first switch entry) (loses_entry second switch entry) t then [] else record r { ports = ports_of_two first second switch entry r.ports t } ∷ [])
    ∙ sym (route_left (second ∷ first ∷ []) switch entry r)

pub changes_commute : ChangesCommute
changes_commute d first second = λ t. record d {
  switches = by_number (λ n (s : SwitchEntry). record s { routes = by_number (λ e r. route_of_two first second n e r t) 0 s.routes } ∷ []) 0 d.switches;
  flows = by_number (λ n f. flow_of_two first second n f t) 0 d.flows;
}
