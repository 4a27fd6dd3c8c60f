-- What is being put together, one entry on.
use Rattle.std.proofs.Common.{◌≡◌, ◌≢◌, ℕ, ◌+◌, ◌*◌, ◌<◌, ◌≤◌, false, List, [], ◌∷◌, ◌++◌, length, get_or, Result, Ok, Err, refl, sym, subst, ap, ◌∙◌, arith, length-append, append_assoc, AllPairs}
use Rattle.std.specs.Prelude.{OnErr}
use Rattle.std.specs.List.{list_any}
use Rattle.std.specs.Str.{bytes_eq}
use Rattle.std.proofs.lemmas.Bool.{false≢true}
use Rattle.std.proofs.lemmas.Slice.Eq.{bytes_eq-Decides}
use Rattle.std.proofs.lemmas.List.{map_push, append-nil}
use Rattle.std.proofs.lemmas.List.Folds.{list_any_at}
use Rattle.std.proofs.lemmas.List.Elements.{All-push, All-append, All-weaker, All-cons, All-nil}
use Rattle.std.proofs.lemmas.List.Quantifiers.{all_pairs_push}
use Rattle.sw_route.specs.PlaceEnd.{PlaceEnd}
use Rattle.sw_route.specs.PlaceEnd.TheVariants.{Node, Switch}
use Rattle.sw_route.specs.Wiring.{Wiring}
use Rattle.sw_route.specs.Checked.{IsIn}
use Rattle.sw_config.specs.Entries.{NodeEntry, SwitchEntry, LinkEntry, Declaration, part_names, link_ends}
use Rattle.sw_config.specs.Valid.{IsNode, IsSwitch, IsLink}
use Rattle.sw_config.specs.Building.{IsBuilder}

-- a name that no test finds is apart from each
pub apart : (names : List (List ℕ)) (name : List ℕ) → list_any (bytes_eq name) names ≡ false → (k : ℕ) (d : List ℕ) → k < length names → get_or names k d ≢ name
apart names name absent k d lt same =
    false≢true (sym absent ∙ list_any_at (bytes_eq name) names k d lt ((bytes_eq-Decides name (get_or names k d)).1 (sym same)))

-- names that are apart stay so with a new one
pub named_more : (names : List (List ℕ)) (name : List ℕ) → AllPairs (λ x y. x ≢ y) names → list_any (bytes_eq name) names ≡ false → AllPairs (λ x y. x ≢ y) (names ++ name ∷ [])
named_more names name before absent = all_pairs_push (λ x y. x ≢ y) names name before (apart names name absent)

-- what holds, holds on an error
pub on_err : {A E : Type 0} (r : Result A E) (P : Type 0) → P → OnErr r P
on_err (Ok x) P holds = tt
on_err (Err e) P holds = holds

abbrev In : Declaration → PlaceEnd → Type 0
In d = IsIn (length d.nodes) (length d.switches)

-- an end in a network is in one with more parts
pub stays_in : (n s m t : ℕ) → n ≤ m → s ≤ t → (e : PlaceEnd) → IsIn n s e → IsIn m t e
stays_in n s m t more_n more_s (Node k) lt = omega arith
stays_in n s m t more_n more_s (Switch k p) in' = (omega arith, in'.1)

pub length-link_ends : (links : List LinkEntry) → length (link_ends links) ≡ 2 * length links
length-link_ends [] = refl
length-link_ends (l ∷ links) = omega (arith, length-link_ends links)

pub link_ends-push : (links : List LinkEntry) (l : LinkEntry) → link_ends (links ++ l ∷ []) ≡ link_ends links ++ l.a ∷ l.b ∷ []
link_ends-push [] l = refl
link_ends-push (k ∷ links) l = ap (λ x. k.a ∷ k.b ∷ x) (link_ends-push links l)

module _ (w : Wiring) (names : List (List ℕ)) (d : Declaration) (so_far : IsBuilder w names d) where
  pub node_more : (n : NodeEntry) → d.switches ≡ [] → length d.nodes < 1024 → IsNode n → list_any (bytes_eq n.name) (part_names d) ≡ false
      → IsBuilder (record w { nodes = w.nodes + 1 }) (names ++ n.name ∷ []) (record d { nodes = d.nodes ++ n ∷ [] })
  node_more n first few ok absent =
      let named : part_names (record d { nodes = d.nodes ++ n ∷ [] }) ≡ part_names d ++ n.name ∷ [] =
      rw (first, append-nil, append-nil, map_push (λ (x : NodeEntry). x.name)) refl in
      record {
        wired = rw (so_far.wired, length-append) refl;
        named = rw (named, so_far.named) refl;
        draft = record {
          few_nodes = rw length-append (omega arith);
          few_switches = so_far.draft.few_switches;
          inside = All-weaker (In d) (In (record d { nodes = d.nodes ++ n ∷ [] }))
              (λ e. stays_in (length d.nodes) (length d.switches) (length (d.nodes ++ n ∷ [])) (length d.switches) (rw length-append (omega arith)) (omega arith) e)
              (link_ends d.links) so_far.draft.inside;
          nodes = All-push IsNode d.nodes n so_far.draft.nodes ok;
          switches = so_far.draft.switches;
          links = so_far.draft.links;
          parts_named = rw named (named_more (part_names d) n.name so_far.draft.parts_named absent);
        };
      }

  pub switch_more : (s : SwitchEntry) → length d.switches < 512 → IsSwitch s → list_any (bytes_eq s.name) (part_names d) ≡ false
      → IsBuilder (record w { switches = w.switches + 1 }) (names ++ s.name ∷ []) (record d { switches = d.switches ++ s ∷ [] })
  switch_more s few ok absent =
      let named : part_names (record d { switches = d.switches ++ s ∷ [] }) ≡ part_names d ++ s.name ∷ [] =
      rw (map_push (λ (x : SwitchEntry). x.name), append_assoc) refl in
      record {
        wired = rw (so_far.wired, length-append) refl;
        named = rw (named, so_far.named) refl;
        draft = record {
          few_nodes = so_far.draft.few_nodes;
          few_switches = rw length-append (omega arith);
          inside = All-weaker (In d) (In (record d { switches = d.switches ++ s ∷ [] }))
              (λ e. stays_in (length d.nodes) (length d.switches) (length d.nodes) (length (d.switches ++ s ∷ [])) (omega arith) (rw length-append (omega arith)) e)
              (link_ends d.links) so_far.draft.inside;
          nodes = so_far.draft.nodes;
          switches = All-push IsSwitch d.switches s so_far.draft.switches ok;
          links = so_far.draft.links;
          parts_named = rw named (named_more (part_names d) s.name so_far.draft.parts_named absent);
        };
      }

  pub link_more : (l : LinkEntry) → In d l.a → In d l.b → IsLink l
      → IsBuilder (record w { ends = w.ends ++ l.a ∷ l.b ∷ [] }) names (record d { links = d.links ++ l ∷ [] })
  link_more l a_in b_in ok = record {
    wired = rw (so_far.wired, link_ends-push d.links l) refl;
    named = so_far.named;
    draft = record {
      few_nodes = so_far.draft.few_nodes;
      few_switches = so_far.draft.few_switches;
      inside = rw (link_ends-push d.links l) (All-append (In d) (link_ends d.links) (l.a ∷ l.b ∷ []) so_far.draft.inside
          (All-cons (In d) l.a (l.b ∷ []) a_in (All-cons (In d) l.b [] b_in (All-nil (In d)))));
      nodes = so_far.draft.nodes;
      switches = so_far.draft.switches;
      links = All-push IsLink d.links l so_far.draft.links ok;
      parts_named = so_far.draft.parts_named;
    };
  }

  -- the same, of what was added
  pub node_added : (after : Wiring) (keys : List (List ℕ)) (nodes : List NodeEntry) (n : NodeEntry) (text : List ℕ) → after ≡ record w { nodes = w.nodes + 1 } → keys ≡ names ++ n.name ∷ []
      → nodes ≡ d.nodes ++ record n { name = text } ∷ [] → text ≡ n.name → d.switches ≡ [] → length d.nodes < 1024 → IsNode n → list_any (bytes_eq n.name) (part_names d) ≡ false
      → IsBuilder after keys (record d { nodes = nodes })
  node_added after keys nodes n text counted named listed of_text first few ok absent = rw (counted, named, listed, of_text) (node_more n first few ok absent)

  pub switch_added : (after : Wiring) (keys : List (List ℕ)) (switches : List SwitchEntry) (s entry : SwitchEntry) → after ≡ record w { switches = w.switches + 1 } → keys ≡ names ++ s.name ∷ []
      → switches ≡ d.switches ++ entry ∷ [] → entry ≡ s → length d.switches < 512 → IsSwitch entry → list_any (bytes_eq s.name) (part_names d) ≡ false
      → IsBuilder after keys (record d { switches = switches })
  switch_added after keys switches s entry counted named listed made few ok absent =
      rw (counted, named, listed, made) (switch_more s few (subst IsSwitch made ok) absent)

  pub link_added : (after : Wiring) (before links : List LinkEntry) (l : LinkEntry) → after ≡ record w { ends = w.ends ++ l.a ∷ l.b ∷ [] } → before ≡ d.links → links ≡ before ++ l ∷ [] → In d l.a → In d l.b → IsLink l
      → IsBuilder after names (record d { links = links })
  link_added after before links l joined kept listed a_in b_in ok = rw (joined, listed, kept) (link_more l a_in b_in ok)

  -- what was refused changes nothing
  pub node_refused : (keys : List (List ℕ)) (nodes : List NodeEntry) → keys ≡ names → nodes ≡ d.nodes → IsBuilder w keys (record d { nodes = nodes })
  node_refused keys nodes same kept = rw (same, kept) so_far

  pub switch_refused : (keys : List (List ℕ)) (switches : List SwitchEntry) → keys ≡ names → switches ≡ d.switches → IsBuilder w keys (record d { switches = switches })
  switch_refused keys switches same kept = rw (same, kept) so_far

  pub link_refused : (after : Wiring) (links : List LinkEntry) → after ≡ w → links ≡ d.links → IsBuilder after names (record d { links = links })
  link_refused after links same kept = rw (same, kept) so_far

  -- an end in the declaration is one in the wiring
  pub end_inside : (e : PlaceEnd) → In d e → IsIn w.nodes w.switches e
  end_inside e in' = subst (λ v. IsIn v.nodes v.switches e) (sym so_far.wired) in'
