-- What several changes leave of an element: it is gone where one of them takes it away, and else it is what each has made of it.
use Rattle.std.proofs.Common.{◌≡◌, ◌∙◌, ◌⊎◌, ◌||◌, ◌&&◌, ℕ, ◌+◌, Bool, true, false, List, [], ◌∷◌, ◌++◌, Option, None, Some, append-nil, ap, inl, inr, refl, sym}
use Rattle.std.specs.Prelude.{◌==◌, flat_map, fold, if◌then◌else◌}
use Rattle.std.specs.List.{list_any}
use Rattle.std.proofs.lemmas.Bool.{eq-eqb}
use Rattle.std.proofs.lemmas.Option.{same_Some}
use Rattle.sw_route.specs.declared.look.Route.{Route}
use Rattle.sw_config.specs.Entries.{Declaration, FlowEntry, ReplyEntry, SwitchEntry}
use Rattle.sw_mend.specs.Changes.{by_number, changed, changed_by_all, flow_after, flow_after_all, flow_kept, loses_entry, loses_flow, loses_reply, ports_after, ports_but, route_after, route_after_all}
use Rattle.sw_mend.specs.declared.change.Change.{Change}
use Rattle.sw_mend.specs.declared.change.Change.TheVariants.{WithoutReply, WithoutReplies, WithoutFlow, WithoutAnswers, WithoutPort, WithoutEntry, WithoutFlowsOf}

-- ---- whether an element is gone, and what is kept of it

abbrev pub flow_lost : List Change → ℕ → FlowEntry → Bool
flow_lost changes number f = list_any (λ change. loses_flow change number f) changes

abbrev pub reply_lost : List Change → ℕ → FlowEntry → Bool
reply_lost changes number f = list_any (λ change. loses_reply change number f) changes

abbrev pub flow_stays : List Change → ℕ → FlowEntry → FlowEntry
flow_stays changes number f = record f { reply = if reply_lost changes number f then None else f.reply }

abbrev pub entry_lost : List Change → ℕ → ℕ → Bool
entry_lost changes switch entry = list_any (λ change. loses_entry change switch entry) changes

abbrev pub route_stays : List Change → ℕ → ℕ → Route → Route
route_stays changes switch entry r = record r { ports = fold (λ ports change. ports_after change switch entry ports) r.ports changes }

-- ---- one change more

-- it is gone by the first change, or by the others from what the first has kept
one_by_one : {A : Type 0} (after : A → List A) (gone more : Bool) (kept left : A) → after kept ≡ (if more then [] else left ∷ [])
    → flat_map after (if gone then [] else kept ∷ []) ≡ (if gone || more then [] else left ∷ [])
one_by_one after true more kept left is = refl
one_by_one after false more kept left is = append-nil (after kept) ∙ is

either_lost : {A : Type 0} (a b : Bool) (o : Option A) → (if b then None else if a then None else o) ≡ (if a || b then None else o)
either_lost true true o = refl
either_lost true false o = refl
either_lost false true o = refl
either_lost false false o = refl

-- whether a change takes a flow or its reply does not depend on the reply
same_flow : (number : ℕ) (f : FlowEntry) (reply : Option ReplyEntry) (change : Change) → loses_flow change number (record f { reply = reply }) ≡ loses_flow change number f
same_flow number f reply (WithoutReply flow) = refl
same_flow number f reply (WithoutReplies from to) = refl
same_flow number f reply (WithoutFlow gone) = refl
same_flow number f reply (WithoutAnswers node) = refl
same_flow number f reply (WithoutPort at group port) = refl
same_flow number f reply (WithoutEntry from gone) = refl
same_flow number f reply (WithoutFlowsOf node) = refl

same_reply : (number : ℕ) (f : FlowEntry) (reply : Option ReplyEntry) (change : Change) → loses_reply change number (record f { reply = reply }) ≡ loses_reply change number f
same_reply number f reply (WithoutReply flow) = refl
same_reply number f reply (WithoutReplies from to) = refl
same_reply number f reply (WithoutFlow gone) = refl
same_reply number f reply (WithoutAnswers node) = refl
same_reply number f reply (WithoutPort at group port) = refl
same_reply number f reply (WithoutEntry from gone) = refl
same_reply number f reply (WithoutFlowsOf node) = refl

pub flow_left : (changes : List Change) (number : ℕ) (f : FlowEntry)
    → flow_after_all changes number f ≡ (if flow_lost changes number f then [] else flow_stays changes number f ∷ [])
flow_left [] number f = refl
flow_left (change ∷ changes) number f =
    let kept : FlowEntry = flow_kept change number f in
    let lost : flow_lost changes number kept ≡ flow_lost changes number f = (λ t. list_any (λ c. same_flow number f kept.reply c t) changes) in
    let silent : reply_lost changes number kept ≡ reply_lost changes number f = (λ t. list_any (λ c. same_reply number f kept.reply c t) changes) in
    let reply : (if reply_lost changes number kept then None else kept.reply) ≡ (if reply_lost (change ∷ changes) number f then None else f.reply) =
    ap (λ (b : Bool). if b then None else kept.reply) silent ∙ either_lost (loses_reply change number f) (reply_lost changes number f) f.reply in
    one_by_one (flow_after_all changes number) (loses_flow change number f) (flow_lost changes number f) kept (flow_stays (change ∷ changes) number f)
    (flow_left changes number kept ∙ (λ t. if lost t then [] else record f { reply = reply t } ∷ []))

pub route_left : (changes : List Change) (switch entry : ℕ) (r : Route)
    → route_after_all changes switch entry r ≡ (if entry_lost changes switch entry then [] else route_stays changes switch entry r ∷ [])
route_left [] switch entry r = refl
route_left (change ∷ changes) switch entry r =
    let kept : Route = record r { ports = ports_after change switch entry r.ports } in
    one_by_one (route_after_all changes switch entry) (loses_entry change switch entry) (entry_lost changes switch entry) kept (route_stays (change ∷ changes) switch entry r)
    (route_left changes switch entry kept)

-- ---- gone, or kept

gone_or_kept : {A : Type 0} (gone : Bool) (left : List A) (x : A) → left ≡ (if gone then [] else x ∷ []) → (left ≡ []) ⊎ (left ≡ x ∷ [])
gone_or_kept true left x is = inl is
gone_or_kept false left x is = inr is

pub flow_cases : (changes : List Change) (number : ℕ) (f : FlowEntry) → (flow_after_all changes number f ≡ []) ⊎ (flow_after_all changes number f ≡ flow_stays changes number f ∷ [])
flow_cases changes number f = gone_or_kept (flow_lost changes number f) (flow_after_all changes number f) (flow_stays changes number f) (flow_left changes number f)

-- what is told of an element that may be gone tells whether it is
told_kept : {A : Type 0} (gone : Bool) (left told : A) → Some told ≡ (if gone then None else Some left) → (gone ≡ false) × (told ≡ left)
told_kept true left told is = absurd cc
told_kept false left told is = (refl, same_Some told left is)

told_gone : {A : Type 0} (gone : Bool) (left : A) → None ≡ (if gone then None else Some left) → gone ≡ true
told_gone true left is = refl
told_gone false left is = absurd cc

-- behind what was there, where it is gone and where it is kept
pub flow_gone : (changes : List Change) (number : ℕ) (f : FlowEntry) (before : List FlowEntry) (told : Option Bool)
    → told ≡ (if flow_lost changes number f then None else Some (reply_lost changes number f)) → told ≡ None → before ≡ before ++ flow_after_all changes number f
flow_gone changes number f before told is none =
    let gone = told_gone (flow_lost changes number f) (reply_lost changes number f) (sym none ∙ is) in
    sym (ap (λ (l : List FlowEntry). before ++ l) (flow_left changes number f ∙ ap (λ (b : Bool). if b then [] else flow_stays changes number f ∷ []) gone) ∙ append-nil before)

pub flow_added : (changes : List Change) (number : ℕ) (f kept : FlowEntry) (before : List FlowEntry) (told : Option Bool) (silent : Bool)
    → told ≡ (if flow_lost changes number f then None else Some (reply_lost changes number f)) → told ≡ Some silent → kept ≡ record f { reply = if silent then None else f.reply }
    → before ++ kept ∷ [] ≡ before ++ flow_after_all changes number f
flow_added changes number f kept before told silent is some same =
    let stays = told_kept (flow_lost changes number f) (reply_lost changes number f) silent (sym some ∙ is) in
    let kept_is : kept ≡ flow_stays changes number f = same ∙ ap (λ (b : Bool). record f { reply = if b then None else f.reply }) stays.1 in
    sym (ap (λ (l : List FlowEntry). before ++ l) (flow_left changes number f ∙ ap (λ (b : Bool). if b then [] else flow_stays changes number f ∷ []) stays.0
    ∙ ap (λ (x : FlowEntry). x ∷ []) (sym kept_is)))

-- an entry of which no ports are told is gone
pub entry_told_gone : (change : Change) (switch entry ports : ℕ) (told : Option ℕ)
    → told ≡ (if loses_entry change switch entry then None else Some (ports_after change switch entry ports)) → told ≡ None → loses_entry change switch entry ≡ true
entry_told_gone change switch entry ports told is none = told_gone (loses_entry change switch entry) (ports_after change switch entry ports) (sym none ∙ is)

-- a port of it is gone
pub port_told_gone : (change : Change) (switch entry set at group port left : ℕ) → change ≡ WithoutPort at group port → switch ≡ at → entry ≡ group → left ≡ ports_but port set
    → Some left ≡ (if loses_entry change switch entry then None else Some (ports_after change switch entry set))
port_told_gone change switch entry set at group port left is here also same =
    let both : (switch == at && entry == group) ≡ true = λ t. eq-eqb switch at here t && eq-eqb entry group also t in
    ap Some (same ∙ ap (λ (b : Bool). if b then ports_but port set else set) (sym both))
    ∙ ap (λ (made : Change). if loses_entry made switch entry then None else Some (ports_after made switch entry set)) (sym is)

pub route_gone : (changes : List Change) (switch entry : ℕ) (r : Route) (before : List Route) → true ≡ entry_lost changes switch entry
    → before ≡ before ++ route_after_all changes switch entry r
route_gone changes switch entry r before gone =
    sym (ap (λ (l : List Route). before ++ l) (route_left changes switch entry r ∙ ap (λ (b : Bool). if b then [] else route_stays changes switch entry r ∷ []) (sym gone)) ∙ append-nil before)

pub route_added : (changes : List Change) (switch entry : ℕ) (r : Route) (ports : ℕ) (before : List Route) → false ≡ entry_lost changes switch entry
    → ports ≡ fold (λ ports change. ports_after change switch entry ports) r.ports changes
    → before ++ record r { ports = ports } ∷ [] ≡ before ++ route_after_all changes switch entry r
route_added changes switch entry r ports before stays same =
    sym (ap (λ (l : List Route). before ++ l) (route_left changes switch entry r ∙ ap (λ (b : Bool). if b then [] else route_stays changes switch entry r ∷ []) (sym stays)
    ∙ ap (λ (n : ℕ). record r { ports = n } ∷ []) (sym same)))

-- ---- one change alone, and none

same_list : {A : Type 0} (xs : List A) → flat_map (λ (x : A). x ∷ []) xs ≡ xs
same_list [] = refl
same_list (x ∷ xs) = ap (λ l. x ∷ l) (same_list xs)

pub one_alone : (d : Declaration) (change : Change) → changed_by_all d (change ∷ []) ≡ changed d change
one_alone d change = λ t. record d {
  switches = by_number (λ n (s : SwitchEntry). record s { routes = by_number (λ e r. same_list (route_after change n e r) t) 0 s.routes } ∷ []) 0 d.switches;
  flows = by_number (λ n f. same_list (flow_after change n f) t) 0 d.flows;
}

pub same_by_number : {A : Type 0} (n : ℕ) (xs : List A) → by_number (λ k (x : A). x ∷ []) n xs ≡ xs
same_by_number n [] = refl
same_by_number n (x ∷ xs) = ap (λ l. x ∷ l) (same_by_number (n + 1) xs)

pub same_tables : (n : ℕ) (switches : List SwitchEntry) → by_number (λ k (s : SwitchEntry). record s { routes = by_number (λ e (r : Route). r ∷ []) 0 s.routes } ∷ []) n switches ≡ switches
same_tables n [] = refl
same_tables n (s ∷ switches) = λ t. record s { routes = same_by_number 0 s.routes t } ∷ same_tables (n + 1) switches t

pub none_made : (d : Declaration) → changed_by_all d [] ≡ d
none_made d = λ t. record d { switches = same_tables 0 d.switches t; flows = same_by_number 0 d.flows t }
