-- The channels that are named are the network's.
use Rattle.std.proofs.Common.{ℕ, ◌<◌, List, [], ◌∷◌, All, length, sym, subst}
use Rattle.std.specs.List.{AllZip}
use Rattle.std.proofs.lemmas.List.Elements.{All-cons, All-head, All-nil, All-tail}
use Rattle.sw_config.specs.Entries.{Declaration, FlowEntry}
use Rattle.sw_config.specs.Valid.{IsValid}
use Rattle.sw_search.specs.Explanations.{GoesWrong, IsTangled}
use Rattle.sw_search.specs.Tangles.{IsTangle}
use Rattle.sw_search.specs.declared.tangle.Tangle.{Tangle}
use Rattle.sw_flow.proofs.Stepping.{places_are_in}
use Rattle.sw_flow.specs.Places.{IsPlace, ends_of}
use Rattle.sw_flow.specs.Places.IsPlace.{start, next}
use Rattle.sw_flow.specs.Ways.{GoesFromStart, GoesOver}
use Rattle.sw_flow.specs.declared.fault.RouteFault.{RouteFault}
use Rattle.sw_flow.specs.declared.place.Place.{Place}
use Rattle.sw_graph.specs.Laws.{IsChain, IsCycle}
use Rattle.sw_graph.specs.Components.{IsComponent}
use Rattle.sw_graph.specs.declared.component.Component.{Component}
use Rattle.sw_search.specs.Verdicts.{depends}
use Rattle.sw_search.proofs.Waits.{waits_within}
use Rattle.sw_explain.specs.ExplainTexts.{AreOnChannels, IsOfChannels}

module _ (d : Declaration) where
  abbrev OnChannel : Place → Type 0
  OnChannel p = p.channel < length (ends_of d)

  goes_over : (f : FlowEntry) (p : Place) (ps : List Place) → IsPlace d f p.channel p.deleted → GoesOver d f p ps → All OnChannel ps
  goes_over f p [] here g = All-nil OnChannel
  goes_over f p (q ∷ qs) here g =
      let there : IsPlace d f q.channel q.deleted = next here g.0 in
      All-cons OnChannel q qs (places_are_in d f q.channel q.deleted there).0 (goes_over f q qs there g.1)

  pub from_start : (f : FlowEntry) (ps : List Place) → GoesFromStart d f ps → All OnChannel ps
  from_start f [] g = absurd g
  from_start f (p ∷ ps) g =
      let here : IsPlace d f p.channel p.deleted = subst (λ (k : ℕ). IsPlace d f p.channel k) (sym g.0.1) (start g.0.0) in
      All-cons OnChannel p ps (places_are_in d f p.channel p.deleted here).0 (goes_over f p ps here g.1)

  pub way_within : (i : ℕ) (place : Place) (fault : RouteFault) (ps : List Place) → GoesWrong d i place fault ps → AreOnChannels d ps
  way_within i place fault ps h = from_start h.misrouted.flow ps h.way.goes

  module _ (valid : IsValid d) where
    abbrev Inside : ℕ → Type 0
    Inside c = c < length (ends_of d)

    chain_within : (c : ℕ) (cs : List ℕ) (e : ℕ) → IsChain (depends d) c cs e → All Inside (c ∷ cs)
    chain_within c [] e h = All-cons Inside c [] (waits_within d valid c e h) (All-nil Inside)
    chain_within c (x ∷ xs) e h = All-cons Inside c (x ∷ xs) (waits_within d valid c x h.0) (chain_within x xs e h.1)

    cycle_within : (cycle : List ℕ) → IsCycle (depends d) cycle → All Inside cycle
    cycle_within [] h = absurd h
    cycle_within (c ∷ cs) h = chain_within c cs c h

    of_channels : (component : Component) (t : Tangle) → IsComponent (depends d) component → IsTangle d component t → IsOfChannels d t
    of_channels component t p is = record {
      within = subst (All Inside) (sym is.cycle) (cycle_within component.cycle.items p.shortest.closed);
      caused = is.chosen.one_each;
      made = is.flows.size;
    }

    each_of_channels : (components : List Component) (ts : List Tangle) → AllZip (IsTangle d) components ts → All (IsComponent (depends d)) components → All (IsOfChannels d) ts
    each_of_channels [] [] h all = All-nil (IsOfChannels d)
    each_of_channels [] (t ∷ ts) h all = absurd h
    each_of_channels (p ∷ ps) [] h all = absurd h
    each_of_channels (p ∷ ps) (t ∷ ts) h all =
        All-cons (IsOfChannels d) t ts (of_channels p t (All-head (IsComponent (depends d)) p ps all) h.0)
        (each_of_channels ps ts h.1 (All-tail (IsComponent (depends d)) p ps all))

    pub tangled_within : (ts : List Tangle) → IsTangled d ts → All (IsOfChannels d) ts
    tangled_within ts h = each_of_channels h.are.components ts h.are.told h.are.are.each
