-- A document is a network exactly where it is as the words say.
use Rattle.std.proofs.Common.{◌≡◌, ◌≢◌, ℕ, ◌≤◌, List, [], ◌∷◌, ◌++◌, map, length, Option, Some, None, Result, Ok, Err, AllPairs, refl, sym, subst, ap, ◌∙◌, arith, inl, inr, append_assoc}
use Rattle.std.specs.Prelude.{nat_le, if◌then◌else◌}
use Rattle.std.proofs.lemmas.Bool.{cases_lt, leb-true, le-leb}
use Rattle.std.proofs.lemmas.List.{append-nil, map_push, length-append, get_or_append_left}
use Rattle.toml.specs.Data.{Members}
use Rattle.sw_topo.specs.declared.limits.TheConstants.{MAX_NODES, MAX_SWITCHES, MAX_LINKS, MAX_FLOWS}
use Rattle.sw_topo.specs.declared.fault.Limit.TheVariants.{Nodes, Switches, Links}
use Rattle.sw_topo.specs.declared.fault.TopoFault.{TopoFault}
use Rattle.sw_topo.specs.declared.fault.TopoFault.TheVariants.{TooMany}
use Rattle.sw_topo.specs.Checked.{fault_of}
use Rattle.sw_config.specs.Entries.{NodeEntry, SwitchEntry, LinkEntry, FlowEntry, Declaration, empty, part_names, flow_names, wiring_of}
use Rattle.sw_text.specs.declared.keys.Key.{Key}
use Rattle.sw_text.specs.declared.keys.Key.TheVariants.{Version as VersionKey, Node, Switch, Link, Flow}
use Rattle.sw_text.specs.declared.keys.Section.TheVariants as section
use Rattle.sw_text.specs.declared.keys.Version.{Version}
use Rattle.sw_text.specs.declared.keys.Version.TheVariants.{One, Two, Three}
use Rattle.sw_text.specs.declared.fault.KeyFault.TheVariants.{OutOfRange}
use Rattle.sw_text.specs.declared.fault.TextFault.{TextFault}
use Rattle.sw_text.specs.declared.fault.TextFault.TheVariants as fault
use Rattle.sw_text.specs.Gives.{◌>>=◌, walk}
use Rattle.sw_text.specs.Table.{only_known, number_at, tables_or_none}
use Rattle.sw_text.specs.Document.{document_of}
use Rattle.sw_text.specs.KeyLaws.{HasOnly}
use Rattle.sw_text.specs.SectionKeys.{document_keys}
use Rattle.sw_file.specs.Nodes.{node_of, next_node}
use Rattle.sw_file.specs.Switches.{switch_of, next_switch}
use Rattle.sw_file.specs.Links.{link_of, next_link}
use Rattle.sw_file.specs.FlowTables.{flow_of, next_flow}
use Rattle.sw_file.specs.Network.{version_numbered, version_of, entries, with_nodes, with_switches, with_links, with_parts, wired, with_flows, network_of, network_text}
use Rattle.sw_file.specs.Values.{IsNumber, Has, HasTables}
use Rattle.sw_file.specs.Tables.{IsNodeTable, IsSwitchTable, IsLinkTable, IsFlowTable, version_number, IsNetworkTable, IsNetworkText}
use Rattle.sw_file.specs.Laws.{NetworksAreReadExactly}
use Rattle.sw_file.proofs.Entries.{after_links}
use Rattle.sw_file.proofs.Known.{well, passed}
use Rattle.sw_file.proofs.Values.{has_number, has_number_it, has_tables, tables_is, joined, parted}
use Rattle.sw_file.proofs.Walked.{as_long, walked, walks}
use Rattle.sw_file.proofs.Tables.{passes, is_node, node_is}
use Rattle.sw_file.proofs.SwitchTables.{is_switch, switch_is}
use Rattle.sw_file.proofs.LinkTables.{is_link, link_is}
use Rattle.sw_file.proofs.FlowTables.{is_flow, flow_is}
use Rattle.sw_text.proofs.Results.{bind_ok, test_passed}

-- names that differ, without those after them
pairs_start : (xs ys : List (List ℕ)) → AllPairs (λ x y. x ≢ y) (xs ++ ys) → AllPairs (λ x y. x ≢ y) (xs ++ [])
pairs_start xs ys pairs = subst (AllPairs (λ x y. x ≢ y)) (sym (append-nil xs)) (λ i j d lt inside same.
    pairs i j d lt (rw length-append (omega (arith, inside))) (get_or_append_left xs ys d i (omega (arith, lt, inside)) ∙ same ∙ sym (get_or_append_left xs ys d j inside)))

-- the version
number_of_version : (n : ℕ) → 1 ≤ n → n ≤ 3 → n ≡ version_number (version_numbered n)
number_of_version n least most =
    elim (cases_lt n 2) [
      | inl below ↦ let one : n ≡ 1 = omega arith in subst (λ m. m ≡ version_number (version_numbered m)) (sym one) refl
      | inr above ↦
          elim (cases_lt n 3) [
            | inl under ↦ let two : n ≡ 2 = omega arith in subst (λ m. m ≡ version_number (version_numbered m)) (sym two) refl
            | inr past ↦ let three : n ≡ 3 = omega arith in subst (λ m. m ≡ version_number (version_numbered m)) (sym three) refl
          ]
    ]

pub has_version : (ms : Members) (version : Version) → version_of ms ≡ Ok version → HasOnly document_keys ms × Has (IsNumber 1 3) VersionKey ms (version_number version)
unfolding version_of
has_version ms version h =
    well (only_known section.Document document_keys ms) version (λ f is. rw is at h) (λ u keys.
    well (number_at section.Document VersionKey 1 3 ms) version (λ f is. rw (keys, is) at h) (λ n at_n.
    let made : Ok (version_numbered n) ≡ Ok version = rw (keys, at_n) at h in
    let same : version_numbered n ≡ version = cc in
    let is = has_number section.Document VersionKey ms 1 3 n at_n in
    (passed section.Document document_keys ms u keys, subst (Has (IsNumber 1 3) VersionKey ms) (number_of_version n is.is.least is.is.most ∙ ap version_number same) is)))

pub version_is : (ms : Members) (version : Version) → HasOnly document_keys ms → Has (IsNumber 1 3) VersionKey ms (version_number version) → version_of ms ≡ Ok version
unfolding version_of
version_is ms One keys is = rw (passes section.Document document_keys ms keys, has_number_it section.Document VersionKey ms 1 3 1 is) refl
version_is ms Two keys is = rw (passes section.Document document_keys ms keys, has_number_it section.Document VersionKey ms 1 3 2 is) refl
version_is ms Three keys is = rw (passes section.Document document_keys ms keys, has_number_it section.Document VersionKey ms 1 3 3 is) refl

-- a list that is not too long
has_entries : (key : Key) (most : ℕ) (over : TextFault) (ms : Members) (ts : List Members) → entries key most over ms ≡ Ok ts → (tables_or_none section.Document key ms ≡ Ok ts) × (length ts ≤ most)
has_entries key most over ms ts h =
    let read = bind_ok (tables_or_none section.Document key ms) (λ xs. if nat_le (length xs) most then Ok xs else Err over) ts h in
    let fits = test_passed (nat_le (length read.0) most) read.0 ts over read.2 in
    (read.1 ∙ ap Ok fits.1, subst (λ (l : List Members). length l ≤ most) fits.1 (leb-true (length read.0) most fits.0))

entries_are : (key : Key) (most : ℕ) (over : TextFault) (ms : Members) (ts : List Members) → tables_or_none section.Document key ms ≡ Ok ts → length ts ≤ most → entries key most over ms ≡ Ok ts
entries_are key most over ms ts is few = rw (is, le-leb (length ts) most few) refl

abbrev Differ : List ℕ → List ℕ → Type 0
Differ x y = x ≢ y

abbrev parts : List NodeEntry → List SwitchEntry → List LinkEntry → List FlowEntry → Declaration
parts ns ss ls fs = record { nodes = ns; switches = ss; links = ls; flows = fs }

-- the nodes
module _ (version : Version) where
  abbrev nodes_only : List NodeEntry → Declaration
  nodes_only ns = parts ns [] [] []

  abbrev read_node : ℕ → List NodeEntry → Members → Result NodeEntry TextFault
  read_node i es = node_of version i (part_names (nodes_only es))

  node_steps : (i : ℕ) (es : List NodeEntry) (x : Members) → next_node version i (nodes_only es) x ≡ (read_node i es x >>= λ e. Ok (nodes_only (es ++ e ∷ [])))
  unfolding next_node
  node_steps i es x = refl

  one_node_more : (es : List NodeEntry) (e : NodeEntry) → part_names (nodes_only (es ++ e ∷ [])) ≡ part_names (nodes_only es) ++ e.name ∷ []
  one_node_more es e = rw (append-nil, append-nil, map_push (λ (x : NodeEntry). x.name)) refl

  has_nodes : (ms : Members) (t : Declaration) → with_nodes version empty ms ≡ Ok t
      → (ns : List NodeEntry) × (t ≡ nodes_only ns) × HasTables (IsNodeTable version) Node ms ns × (length ns ≤ MAX_NODES) × AllPairs Differ (part_names (nodes_only ns))
  unfolding with_nodes
  has_nodes ms t h =
      let ts = bind_ok (entries Node MAX_NODES (fault.Topology (TooMany Nodes)) ms) (λ tables. walk (next_node version) empty tables) t h in
      let fits = has_entries Node MAX_NODES (fault.Topology (TooMany Nodes)) ms ts.0 ts.1 in
      let w = walked (next_node version) read_node nodes_only (IsNodeTable version) (λ e. e.name) (λ es. part_names (nodes_only es)) Differ node_steps one_node_more
      (λ i es x e. is_node version i (part_names (nodes_only es)) x e) 0 [] ts.0 t ts.2 (λ a b d lt inside. absurd (omega arith)) in
      (w.0, w.1, joined section.Document Node ms (IsNodeTable version) ts.0 w.0 (has_tables section.Document Node ms ts.0 fits.0) w.2, omega (arith, fits.1, as_long (IsNodeTable version) ts.0 w.0 w.2), w.3)

  nodes_are : (ms : Members) (ns : List NodeEntry) → HasTables (IsNodeTable version) Node ms ns → length ns ≤ MAX_NODES → AllPairs Differ (part_names (nodes_only ns)) → with_nodes version empty ms ≡ Ok (nodes_only ns)
  unfolding with_nodes
  nodes_are ms ns is few pairs =
      let ts = parted section.Document Node ms (IsNodeTable version) ns is in
      rw (entries_are Node MAX_NODES (fault.Topology (TooMany Nodes)) ms ts.0 (tables_is section.Document Node ms ts.0 ts.1) (omega (arith, few, as_long (IsNodeTable version) ts.0 ns ts.2)))
      (walks (next_node version) read_node nodes_only (IsNodeTable version) (λ e. e.name) (λ es. part_names (nodes_only es)) Differ node_steps one_node_more
      (λ i es x e. node_is version i (part_names (nodes_only es)) x e) 0 [] ts.0 ns ts.2 pairs)

  -- the switches
  module _ (ns : List NodeEntry) where
    abbrev with_those : List SwitchEntry → Declaration
    with_those ss = parts ns ss [] []

    abbrev read_switch : ℕ → List SwitchEntry → Members → Result SwitchEntry TextFault
    read_switch i es = switch_of version i (part_names (with_those es))

    switch_steps : (i : ℕ) (es : List SwitchEntry) (x : Members) → next_switch version i (with_those es) x ≡ (read_switch i es x >>= λ e. Ok (with_those (es ++ e ∷ [])))
    unfolding next_switch
    switch_steps i es x = refl

    one_switch_more : (es : List SwitchEntry) (e : SwitchEntry) → part_names (with_those (es ++ e ∷ [])) ≡ part_names (with_those es) ++ e.name ∷ []
    one_switch_more es e = rw (map_push (λ (x : SwitchEntry). x.name), append_assoc) refl

    has_switches : (ms : Members) (t : Declaration) → with_switches version (nodes_only ns) ms ≡ Ok t → AllPairs Differ (part_names (nodes_only ns))
        → (ss : List SwitchEntry) × (t ≡ with_those ss) × HasTables (IsSwitchTable version) Switch ms ss × (length ss ≤ MAX_SWITCHES) × AllPairs Differ (part_names (with_those ss))
    unfolding with_switches
    has_switches ms t h before =
        let ts = bind_ok (entries Switch MAX_SWITCHES (fault.Topology (TooMany Switches)) ms) (λ tables. walk (next_switch version) (nodes_only ns) tables) t h in
        let fits = has_entries Switch MAX_SWITCHES (fault.Topology (TooMany Switches)) ms ts.0 ts.1 in
        let w = walked (next_switch version) read_switch with_those (IsSwitchTable version) (λ e. e.name) (λ es. part_names (with_those es)) Differ switch_steps one_switch_more
        (λ i es x e. is_switch version i (part_names (with_those es)) x e) 0 [] ts.0 t ts.2 before in
        (w.0, w.1, joined section.Document Switch ms (IsSwitchTable version) ts.0 w.0 (has_tables section.Document Switch ms ts.0 fits.0) w.2, omega (arith, fits.1, as_long (IsSwitchTable version) ts.0 w.0 w.2), w.3)

    switches_are : (ms : Members) (ss : List SwitchEntry) → HasTables (IsSwitchTable version) Switch ms ss → length ss ≤ MAX_SWITCHES → AllPairs Differ (part_names (with_those ss)) → with_switches version (nodes_only ns) ms ≡ Ok (with_those ss)
    unfolding with_switches
    switches_are ms ss is few pairs =
        let ts = parted section.Document Switch ms (IsSwitchTable version) ss is in
        rw (entries_are Switch MAX_SWITCHES (fault.Topology (TooMany Switches)) ms ts.0 (tables_is section.Document Switch ms ts.0 ts.1) (omega (arith, few, as_long (IsSwitchTable version) ts.0 ss ts.2)))
        (walks (next_switch version) read_switch with_those (IsSwitchTable version) (λ e. e.name) (λ es. part_names (with_those es)) Differ switch_steps one_switch_more
        (λ i es x e. switch_is version i (part_names (with_those es)) x e) 0 [] ts.0 ss ts.2 pairs)

    -- the links
    module _ (ss : List SwitchEntry) where
      abbrev linked : List LinkEntry → Declaration
      linked ls = parts ns ss ls []

      abbrev IsItsLink : Members → LinkEntry → Type 0
      IsItsLink = IsLinkTable version (length ns) (part_names (with_those ss))

      abbrev read_link : ℕ → List LinkEntry → Members → Result LinkEntry TextFault
      read_link i es = link_of version i (length ns) (part_names (with_those ss))

      link_steps : (i : ℕ) (es : List LinkEntry) (x : Members) → next_link version i (linked es) x ≡ (read_link i es x >>= λ e. Ok (linked (es ++ e ∷ [])))
      unfolding next_link
      link_steps i es x = refl

      abbrev unit_of : LinkEntry → Unit {0}
      unit_of e = tt

      has_links : (ms : Members) (t : Declaration) → with_links version (with_those ss) ms ≡ Ok t → (ls : List LinkEntry) × (t ≡ linked ls) × HasTables IsItsLink Link ms ls × (length ls ≤ MAX_LINKS)
      unfolding with_links
      has_links ms t h =
          let ts = bind_ok (entries Link MAX_LINKS (fault.Topology (TooMany Links)) ms) (λ tables. walk (next_link version) (with_those ss) tables) t h in
          let fits = has_entries Link MAX_LINKS (fault.Topology (TooMany Links)) ms ts.0 ts.1 in
          let w = walked (next_link version) read_link linked IsItsLink unit_of (map unit_of) (λ x y. Unit {0}) link_steps (map_push unit_of)
          (λ i es x e well. (is_link version i (length ns) (part_names (with_those ss)) x e well, λ k d lt. tt)) 0 [] ts.0 t ts.2 (λ a b d lt inside. tt) in
          (w.0, w.1, joined section.Document Link ms IsItsLink ts.0 w.0 (has_tables section.Document Link ms ts.0 fits.0) w.2, omega (arith, fits.1, as_long IsItsLink ts.0 w.0 w.2))

      links_are : (ms : Members) (ls : List LinkEntry) → HasTables IsItsLink Link ms ls → length ls ≤ MAX_LINKS → with_links version (with_those ss) ms ≡ Ok (linked ls)
      unfolding with_links
      links_are ms ls is few =
          let ts = parted section.Document Link ms IsItsLink ls is in
          rw (entries_are Link MAX_LINKS (fault.Topology (TooMany Links)) ms ts.0 (tables_is section.Document Link ms ts.0 ts.1) (omega (arith, few, as_long IsItsLink ts.0 ls ts.2)))
          (walks (next_link version) read_link linked IsItsLink unit_of (map unit_of) (λ x y. Unit {0}) link_steps (map_push unit_of)
          (λ i es x e is free. link_is version i (length ns) (part_names (with_those ss)) x e is) 0 [] ts.0 ls ts.2 (λ a b d lt inside. tt))

-- the flows
module _ (version : Version) (ns : List NodeEntry) (ss : List SwitchEntry) (ls : List LinkEntry) where
  abbrev all_of_it : List FlowEntry → Declaration
  all_of_it fs = parts ns ss ls fs

  abbrev read_flow : ℕ → List FlowEntry → Members → Result FlowEntry TextFault
  read_flow i es = flow_of version i ns (flow_names es)

  flow_steps : (i : ℕ) (es : List FlowEntry) (x : Members) → next_flow version i (all_of_it es) x ≡ (read_flow i es x >>= λ e. Ok (all_of_it (es ++ e ∷ [])))
  unfolding next_flow
  flow_steps i es x = refl

  one_flow_more : (es : List FlowEntry) (e : FlowEntry) → flow_names (es ++ e ∷ []) ≡ flow_names es ++ e.name ∷ []
  one_flow_more es e = map_push (λ (x : FlowEntry). x.name) es e

  has_flows : (ms : Members) (t : Declaration) → with_flows version (all_of_it []) ms ≡ Ok t
      → (fs : List FlowEntry) × (t ≡ all_of_it fs) × HasTables (IsFlowTable version ns) Flow ms fs × (length fs ≤ MAX_FLOWS) × AllPairs Differ (flow_names fs)
  unfolding with_flows
  has_flows ms t h =
      let ts = bind_ok (entries Flow MAX_FLOWS (fault.Key OutOfRange section.Document Flow) ms) (λ tables. walk (next_flow version) (all_of_it []) tables) t h in
      let fits = has_entries Flow MAX_FLOWS (fault.Key OutOfRange section.Document Flow) ms ts.0 ts.1 in
      let w = walked (next_flow version) read_flow all_of_it (IsFlowTable version ns) (λ e. e.name) flow_names Differ flow_steps one_flow_more
      (λ i es x e. is_flow version i ns (flow_names es) x e) 0 [] ts.0 t ts.2 (λ a b d lt inside. absurd (omega arith)) in
      (w.0, w.1, joined section.Document Flow ms (IsFlowTable version ns) ts.0 w.0 (has_tables section.Document Flow ms ts.0 fits.0) w.2, omega (arith, fits.1, as_long (IsFlowTable version ns) ts.0 w.0 w.2), w.3)

  flows_are : (ms : Members) (fs : List FlowEntry) → HasTables (IsFlowTable version ns) Flow ms fs → length fs ≤ MAX_FLOWS → AllPairs Differ (flow_names fs) → with_flows version (all_of_it []) ms ≡ Ok (all_of_it fs)
  unfolding with_flows
  flows_are ms fs is few pairs =
      let ts = parted section.Document Flow ms (IsFlowTable version ns) fs is in
      rw (entries_are Flow MAX_FLOWS (fault.Key OutOfRange section.Document Flow) ms ts.0 (tables_is section.Document Flow ms ts.0 ts.1) (omega (arith, few, as_long (IsFlowTable version ns) ts.0 fs ts.2)))
      (walks (next_flow version) read_flow all_of_it (IsFlowTable version ns) (λ e. e.name) flow_names Differ flow_steps one_flow_more
      (λ i es x e. flow_is version i ns (flow_names es) x e) 0 [] ts.0 fs ts.2 pairs)

-- how the parts are joined
has_joined : (d n : Declaration) (o : Option TopoFault) → fault_of (wiring_of d) ≡ o → wired d ≡ Ok n → (n ≡ d) × (fault_of (wiring_of d) ≡ None)
has_joined d n None is h = let e : Ok d ≡ Ok n = rw is at h in (cc, is)
has_joined d n (Some f) is h = let e : Err (fault.Topology f) ≡ Ok n = rw is at h in absurd cc

abbrev after_nodes : Version → Members → Declaration → Result Declaration TextFault
after_nodes version ms d = with_switches version d ms >>= λ switches. with_links version switches ms

is_document : (version : Version) (ms : Members) (d : Declaration) → version_of ms ≡ Ok version → (with_parts version empty ms >>= after_links version ms) ≡ Ok d → IsNetworkTable version ms d
unfolding with_parts
is_document version ms d at_version h =
    let whole = bind_ok (with_parts version empty ms) (after_links version ms) d h in
    let first = bind_ok (with_nodes version empty ms) (after_nodes version ms) whole.0 whole.1 in
    let ns = has_nodes version ms first.0 first.1 in
    let second = bind_ok (with_switches version (nodes_only version ns.0) ms) (λ switches. with_links version switches ms) whole.0 (subst (λ x. after_nodes version ms x ≡ Ok whole.0) ns.1 first.2) in
    let ss = has_switches version ns.0 ms second.0 second.1 ns.4 in
    let ls = has_links version ns.0 ss.0 ms whole.0 (subst (λ x. with_links version x ms ≡ Ok whole.0) ss.1 second.2) in
    let made : Declaration = parts ns.0 ss.0 ls.0 [] in
    let third = bind_ok (wired made) (λ n. with_flows version n ms) d (subst (λ x. after_links version ms x ≡ Ok d) ls.1 whole.2) in
    let whole_one = has_joined made third.0 (fault_of (wiring_of made)) refl third.1 in
    let fs = has_flows version ns.0 ss.0 ls.0 ms d (subst (λ x. with_flows version x ms ≡ Ok d) whole_one.0 third.2) in
    let document = has_version ms version at_version in
    subst (IsNetworkTable version ms) (sym fs.1) (record {
      keys = document.0;
      versioned = document.1;
      nodes = ns.2;
      switches = ss.2;
      links = ls.2;
      flows = fs.2;
      few_nodes = ns.3;
      few_switches = ss.3;
      few_links = ls.3;
      few_flows = fs.3;
      parts_named = ss.4;
      flows_named = fs.4;
      joined = whole_one.1;
    })

pub is_network : (ms : Members) (d : Declaration) → network_of ms ≡ Ok d → (version : Version) × IsNetworkTable version ms d
unfolding network_of
is_network ms d h =
    let v = bind_ok (version_of ms) (λ version. with_parts version empty ms >>= after_links version ms) d h in
    (v.0, is_document v.0 ms d v.1 v.2)

parts_are : (version : Version) (ms : Members) (d : Declaration) → IsNetworkTable version ms d → with_parts version empty ms ≡ Ok (parts d.nodes d.switches d.links [])
unfolding with_parts
parts_are version ms d is =
    let before : AllPairs Differ (part_names (parts d.nodes [] [] [])) = pairs_start (map (λ (n : NodeEntry). n.name) d.nodes) (map (λ (s : SwitchEntry). s.name) d.switches) is.parts_named in
    rw (
      nodes_are version ms d.nodes is.nodes is.few_nodes before,
      switches_are version d.nodes ms d.switches is.switches is.few_switches is.parts_named,
    ) (links_are version d.nodes d.switches ms d.links is.links is.few_links)

pub document_is : (version : Version) (ms : Members) (d : Declaration) → IsNetworkTable version ms d → network_of ms ≡ Ok d
unfolding network_of
document_is version ms d is =
    rw (version_is ms version is.keys is.versioned, parts_are version ms d is, is.joined) (flows_are version d.nodes d.switches d.links ms d.flows is.flows is.few_flows is.flows_named)

is_text : (bytes : List ℕ) (d : Declaration) → network_text bytes ≡ Ok d → IsNetworkText bytes d
is_text bytes d h =
    let table = bind_ok (document_of bytes) network_of d h in
    let network = is_network table.0 d table.2 in
    record { table = table.0; document = table.1; version = network.0; network = network.1 }

text_is_network : (bytes : List ℕ) (d : Declaration) → IsNetworkText bytes d → network_text bytes ≡ Ok d
text_is_network bytes d is = rw is.document (document_is is.version is.table d is.network)

pub networks_are_read_exactly : NetworksAreReadExactly
networks_are_read_exactly bytes d = (is_text bytes d, text_is_network bytes d)
