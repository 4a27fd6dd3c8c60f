-- Each entry of a network is what the table of its number declares.
use Rattle.std.proofs.Common.{◌≡◌, ℕ, ◌+◌, List, [], ◌∷◌, ◌++◌, length, take, nat_le, Option, Some, None, Result, Ok, Err, refl, sym, ap, ◌∙◌, arith, inl, inr, append_assoc}
use Rattle.std.specs.List.{fold}
use Rattle.std.specs.Prelude.{if◌then◌else◌}
use Rattle.std.proofs.lemmas.Bool.{cases_Bool}
use Rattle.std.proofs.lemmas.List.{append-nil}
use Rattle.toml.specs.Data.{Members}
use Rattle.sw_topo.specs.declared.limits.TheConstants.{MAX_NODES, MAX_SWITCHES, MAX_LINKS, MAX_FLOWS}
use Rattle.sw_topo.specs.declared.fault.Limit.TheVariants.{Nodes, Switches, Links}
use Rattle.sw_topo.specs.declared.fault.TopoFault.{TopoFault}
use Rattle.sw_topo.specs.declared.fault.TopoFault.TheVariants.{TooMany}
use Rattle.sw_topo.specs.Checked.{fault_of}
use Rattle.sw_config.specs.Entries.{NodeEntry, SwitchEntry, LinkEntry, FlowEntry, Declaration, empty, part_names, flow_names, wiring_of}
use Rattle.sw_text.specs.declared.keys.Key.{Key}
use Rattle.sw_text.specs.declared.keys.Key.TheVariants.{Node, Switch, Link, Flow}
use Rattle.sw_text.specs.declared.keys.Section.TheVariants as section
use Rattle.sw_text.specs.declared.keys.Version.{Version}
use Rattle.sw_text.specs.declared.fault.KeyFault.TheVariants.{OutOfRange}
use Rattle.sw_text.specs.declared.fault.TextFault.{TextFault}
use Rattle.sw_text.specs.declared.fault.TextFault.TheVariants as fault
use Rattle.sw_text.specs.Gives.{◌>>=◌, walk}
use Rattle.sw_text.specs.Table.{tables_or_none}
use Rattle.sw_file.specs.Nodes.{node_of, next_node}
use Rattle.sw_file.specs.Switches.{switch_of, next_switch}
use Rattle.sw_file.specs.Links.{link_of, next_link}
use Rattle.sw_file.specs.FlowTables.{flow_of, next_flow}
use Rattle.sw_file.specs.Network.{version_of, entries, with_nodes, with_switches, with_links, with_parts, wired, with_flows, network_of}
use Rattle.sw_file.specs.Laws.{Declares, IsDeclaredBy, ReadsEachEntry}
use Rattle.sw_file.proofs.Grown.{grown_from, as_many, entry_at}
use Rattle.sw_text.proofs.Results.{bind_ok}

-- one more of each kind
abbrev add_node : Declaration → NodeEntry → Declaration
add_node d e = record d { nodes = d.nodes ++ e ∷ [] }

abbrev add_switch : Declaration → SwitchEntry → Declaration
add_switch d e = record d { switches = d.switches ++ e ∷ [] }

abbrev add_link : Declaration → LinkEntry → Declaration
add_link d e = record d { links = d.links ++ e ∷ [] }

abbrev add_flow : Declaration → FlowEntry → Declaration
add_flow d e = record d { flows = d.flows ++ e ∷ [] }

add_nodes : (d : Declaration) (es : List NodeEntry) → fold add_node d es ≡ record d { nodes = d.nodes ++ es }
add_nodes d [] = ap (λ l. record d { nodes = l }) (sym (append-nil d.nodes))
add_nodes d (e ∷ es) = add_nodes (add_node d e) es ∙ ap (λ l. record d { nodes = l }) (append_assoc d.nodes (e ∷ []) es)

add_switches : (d : Declaration) (es : List SwitchEntry) → fold add_switch d es ≡ record d { switches = d.switches ++ es }
add_switches d [] = ap (λ l. record d { switches = l }) (sym (append-nil d.switches))
add_switches d (e ∷ es) = add_switches (add_switch d e) es ∙ ap (λ l. record d { switches = l }) (append_assoc d.switches (e ∷ []) es)

add_links : (d : Declaration) (es : List LinkEntry) → fold add_link d es ≡ record d { links = d.links ++ es }
add_links d [] = ap (λ l. record d { links = l }) (sym (append-nil d.links))
add_links d (e ∷ es) = add_links (add_link d e) es ∙ ap (λ l. record d { links = l }) (append_assoc d.links (e ∷ []) es)

add_flows : (d : Declaration) (es : List FlowEntry) → fold add_flow d es ≡ record d { flows = d.flows ++ es }
add_flows d [] = ap (λ l. record d { flows = l }) (sym (append-nil d.flows))
add_flows d (e ∷ es) = add_flows (add_flow d e) es ∙ ap (λ l. record d { flows = l }) (append_assoc d.flows (e ∷ []) es)

-- the tables of a list that is not too long
listed : (key : Key) (most : ℕ) (over : TextFault) (ms : Members) (tables : List Members) → entries key most over ms ≡ Ok tables → tables_or_none section.Document key ms ≡ Ok tables
listed key most over ms tables well =
    let parts = bind_ok (tables_or_none section.Document key ms) (λ ts. if nat_le (length ts) most then Ok ts else Err over) tables well in
    elim (cases_Bool (nat_le (length parts.0) most)) [
      | inl few ↦ let same : parts.0 ≡ tables = (let e : Ok parts.0 ≡ Ok tables = rw few at parts.2 in cc) in rw same at parts.1
      | inr many ↦ (let e : Err over ≡ Ok tables = rw many at parts.2 in absurd cc)
    ]

abbrev read_node : Version → ℕ → Declaration → Members → Result NodeEntry TextFault
read_node version i s = node_of version i (part_names s)

node_steps : (version : Version) (i : ℕ) (s : Declaration) (x : Members) → next_node version i s x ≡ (node_of version i (part_names s) x >>= λ e. Ok (add_node s e))
unfolding next_node
node_steps version i s x = refl

node_stage : (version : Version) (ms : Members) (d t : Declaration) → with_nodes version d ms ≡ Ok t
    → (es : List NodeEntry) × (t ≡ record d { nodes = d.nodes ++ es }) × Declares Node ms (λ i. node_of version i (part_names (record d { nodes = d.nodes ++ take i es }))) es
unfolding with_nodes
node_stage version ms d t well =
    let parts = bind_ok (entries Node MAX_NODES (fault.Topology (TooMany Nodes)) ms) (λ tables. walk (next_node version) d tables) t well in
    let grown = grown_from (next_node version) (read_node version) add_node (node_steps version) 0 d t parts.0 parts.2 in (
      grown.0,
      grown.1 ∙ add_nodes d grown.0,
      record {
        tables = parts.0;
        listed = listed Node MAX_NODES (fault.Topology (TooMany Nodes)) ms parts.0 parts.1;
        as_many = as_many (next_node version) (read_node version) add_node (node_steps version) 0 d parts.0 grown.0 grown.2;
        each = λ i x e here there.
            let z : 0 + i ≡ i = omega arith in
            let at : read_node version (0 + i) (fold add_node d (take i grown.0)) x ≡ Ok e = entry_at (next_node version) (read_node version) add_node (node_steps version) 0 d parts.0 grown.0 grown.2 i x e here there in
            rw (z, add_nodes d (take i grown.0)) at at;
      },
    )

abbrev read_switch : Version → ℕ → Declaration → Members → Result SwitchEntry TextFault
read_switch version i s = switch_of version i (part_names s)

switch_steps : (version : Version) (i : ℕ) (s : Declaration) (x : Members) → next_switch version i s x ≡ (switch_of version i (part_names s) x >>= λ e. Ok (add_switch s e))
unfolding next_switch
switch_steps version i s x = refl

switch_stage : (version : Version) (ms : Members) (d t : Declaration) → with_switches version d ms ≡ Ok t
    → (es : List SwitchEntry) × (t ≡ record d { switches = d.switches ++ es }) × Declares Switch ms (λ i. switch_of version i (part_names (record d { switches = d.switches ++ take i es }))) es
unfolding with_switches
switch_stage version ms d t well =
    let parts = bind_ok (entries Switch MAX_SWITCHES (fault.Topology (TooMany Switches)) ms) (λ tables. walk (next_switch version) d tables) t well in
    let grown = grown_from (next_switch version) (read_switch version) add_switch (switch_steps version) 0 d t parts.0 parts.2 in (
      grown.0,
      grown.1 ∙ add_switches d grown.0,
      record {
        tables = parts.0;
        listed = listed Switch MAX_SWITCHES (fault.Topology (TooMany Switches)) ms parts.0 parts.1;
        as_many = as_many (next_switch version) (read_switch version) add_switch (switch_steps version) 0 d parts.0 grown.0 grown.2;
        each = λ i x e here there.
            let z : 0 + i ≡ i = omega arith in
            let at : read_switch version (0 + i) (fold add_switch d (take i grown.0)) x ≡ Ok e = entry_at (next_switch version) (read_switch version) add_switch (switch_steps version) 0 d parts.0 grown.0 grown.2 i x e here there in
            rw (z, add_switches d (take i grown.0)) at at;
      },
    )

abbrev read_link : Version → ℕ → Declaration → Members → Result LinkEntry TextFault
read_link version i s = link_of version i (length s.nodes) (part_names s)

link_steps : (version : Version) (i : ℕ) (s : Declaration) (x : Members) → next_link version i s x ≡ (link_of version i (length s.nodes) (part_names s) x >>= λ e. Ok (add_link s e))
unfolding next_link
link_steps version i s x = refl

link_stage : (version : Version) (ms : Members) (d t : Declaration) → with_links version d ms ≡ Ok t
    → (es : List LinkEntry) × (t ≡ record d { links = d.links ++ es }) × Declares Link ms (λ i. link_of version i (length d.nodes) (part_names d)) es
unfolding with_links
link_stage version ms d t well =
    let parts = bind_ok (entries Link MAX_LINKS (fault.Topology (TooMany Links)) ms) (λ tables. walk (next_link version) d tables) t well in
    let grown = grown_from (next_link version) (read_link version) add_link (link_steps version) 0 d t parts.0 parts.2 in (
      grown.0,
      grown.1 ∙ add_links d grown.0,
      record {
        tables = parts.0;
        listed = listed Link MAX_LINKS (fault.Topology (TooMany Links)) ms parts.0 parts.1;
        as_many = as_many (next_link version) (read_link version) add_link (link_steps version) 0 d parts.0 grown.0 grown.2;
        each = λ i x e here there.
            let z : 0 + i ≡ i = omega arith in
            let at : read_link version (0 + i) (fold add_link d (take i grown.0)) x ≡ Ok e = entry_at (next_link version) (read_link version) add_link (link_steps version) 0 d parts.0 grown.0 grown.2 i x e here there in
            rw (z, add_links d (take i grown.0)) at at;
      },
    )

abbrev read_flow : Version → ℕ → Declaration → Members → Result FlowEntry TextFault
read_flow version i s = flow_of version i s.nodes (flow_names s.flows)

flow_steps : (version : Version) (i : ℕ) (s : Declaration) (x : Members) → next_flow version i s x ≡ (flow_of version i s.nodes (flow_names s.flows) x >>= λ e. Ok (add_flow s e))
unfolding next_flow
flow_steps version i s x = refl

flow_stage : (version : Version) (ms : Members) (d t : Declaration) → with_flows version d ms ≡ Ok t
    → (es : List FlowEntry) × (t ≡ record d { flows = d.flows ++ es }) × Declares Flow ms (λ i. flow_of version i d.nodes (flow_names (d.flows ++ take i es))) es
unfolding with_flows
flow_stage version ms d t well =
    let parts = bind_ok (entries Flow MAX_FLOWS (fault.Key OutOfRange section.Document Flow) ms) (λ tables. walk (next_flow version) d tables) t well in
    let grown = grown_from (next_flow version) (read_flow version) add_flow (flow_steps version) 0 d t parts.0 parts.2 in (
      grown.0,
      grown.1 ∙ add_flows d grown.0,
      record {
        tables = parts.0;
        listed = listed Flow MAX_FLOWS (fault.Key OutOfRange section.Document Flow) ms parts.0 parts.1;
        as_many = as_many (next_flow version) (read_flow version) add_flow (flow_steps version) 0 d parts.0 grown.0 grown.2;
        each = λ i x e here there.
            let z : 0 + i ≡ i = omega arith in
            let at : read_flow version (0 + i) (fold add_flow d (take i grown.0)) x ≡ Ok e = entry_at (next_flow version) (read_flow version) add_flow (flow_steps version) 0 d parts.0 grown.0 grown.2 i x e here there in
            rw (z, add_flows d (take i grown.0)) at at;
      },
    )

wired_same : (d n : Declaration) (o : Option TopoFault) → fault_of (wiring_of d) ≡ o → wired d ≡ Ok n → n ≡ d
wired_same d n None is well = let e : Ok d ≡ Ok n = rw is at well in cc
wired_same d n (Some f) is well = let e : Err (fault.Topology f) ≡ Ok n = rw is at well in absurd cc

-- what is read after the links, after the switches and after the nodes
abbrev pub after_links : Version → Members → Declaration → Result Declaration TextFault
after_links version ms d = wired d >>= λ n. with_flows version n ms

abbrev after_switches : Version → Members → Declaration → Result Declaration TextFault
after_switches version ms d = with_links version d ms >>= after_links version ms

abbrev after_nodes : Version → Members → Declaration → Result Declaration TextFault
after_nodes version ms d = with_switches version d ms >>= after_switches version ms

-- the parts are read one kind after another
parts_first : (ms : Members) (version : Version) (d : Declaration) → (with_parts version empty ms >>= after_links version ms) ≡ Ok d → (with_nodes version empty ms >>= after_nodes version ms) ≡ Ok d
unfolding with_parts
parts_first ms version d well =
    let a = bind_ok (with_parts version empty ms) (after_links version ms) d well in
    let b = bind_ok (with_nodes version empty ms) (λ nodes. with_switches version nodes ms >>= λ switches. with_links version switches ms) a.0 a.1 in
    let c = bind_ok (with_switches version b.0 ms) (λ switches. with_links version switches ms) a.0 b.2 in
    rw (b.1, c.1, c.2) a.2

declared_by : (ms : Members) (version : Version) (d : Declaration) → version_of ms ≡ Ok version → (with_nodes version empty ms >>= after_nodes version ms) ≡ Ok d → IsDeclaredBy ms version d
declared_by ms version d versioned well =
    let a = bind_ok (with_nodes version empty ms) (after_nodes version ms) d well in
    let ns = node_stage version ms empty a.0 a.1 in
    let first : Declaration = record { nodes = ns.0; switches = []; links = []; flows = [] } in
    let from_nodes : after_nodes version ms first ≡ Ok d = rw ns.1 at a.2 in
    let b = bind_ok (with_switches version first ms) (after_switches version ms) d from_nodes in
    let ss = switch_stage version ms first b.0 b.1 in
    let second : Declaration = record { nodes = ns.0; switches = ss.0; links = []; flows = [] } in
    let from_switches : after_switches version ms second ≡ Ok d = rw ss.1 at b.2 in
    let c = bind_ok (with_links version second ms) (after_links version ms) d from_switches in
    let ls = link_stage version ms second c.0 c.1 in
    let third : Declaration = record { nodes = ns.0; switches = ss.0; links = ls.0; flows = [] } in
    let from_links : after_links version ms third ≡ Ok d = rw ls.1 at c.2 in
    let e = bind_ok (wired third) (λ n. with_flows version n ms) d from_links in
    let same : e.0 ≡ third = wired_same third e.0 (fault_of (wiring_of third)) refl e.1 in
    let joined : with_flows version third ms ≡ Ok d = rw same at e.2 in
    let fs = flow_stage version ms third d joined in
    rw fs.1 record { versioned = versioned; nodes = ns.2; switches = ss.2; links = ls.2; flows = fs.2 }

pub reads_each_entry : ReadsEachEntry
unfolding network_of
reads_each_entry ms d well =
    let v = bind_ok (version_of ms) (λ version. with_parts version empty ms >>= after_links version ms) d well in
    (v.0, declared_by ms v.0 d v.1 (parts_first ms v.0 d v.2))
