-- The network that a migrated tree declares.
use Rattle.std.proofs.Common.{◌≡◌, ℕ, zero, suc, true, false, pos, nat_le, List, [], ◌∷◌, map, length, Option, Some, None, Ok, Err, nat_cmp, refl, sym, ap, ◌∙◌, inl, inr, subst}
use Rattle.std.specs.Prelude.{if◌then◌else◌}
use Rattle.std.specs.List.{AllZip}
use Rattle.std.specs.Ordering.{is_eq}
use Rattle.std.specs.Cmp.Lexicographic.{slice_cmp}
use Rattle.std.proofs.lemmas.Bool.{cases_Bool}
use Rattle.toml.specs.Data.{Data, integer, Members, get_member}
use Rattle.sw_topo.specs.declared.limits.TheConstants.{MAX_NODES, MAX_SWITCHES, MAX_LINKS, MAX_FLOWS}
use Rattle.sw_topo.specs.declared.fault.Limit.TheVariants.{Nodes, Switches, Links}
use Rattle.sw_topo.specs.declared.fault.TopoFault.{TopoFault}
use Rattle.sw_topo.specs.declared.fault.TopoFault.TheVariants.{TooMany}
use Rattle.sw_topo.specs.Checked.{fault_of}
use Rattle.sw_config.specs.Entries.{SwitchEntry, Declaration, empty, wiring_of, look_at}
use Rattle.sw_text.specs.declared.keys.Key.{Key}
use Rattle.sw_text.specs.declared.keys.Key.TheVariants.{Version as VersionKey, Node, Switch, Link, Flow}
use Rattle.sw_text.specs.declared.keys.Section.TheVariants.{Document}
use Rattle.sw_text.specs.declared.keys.Version.TheVariants.{One, Two}
use Rattle.sw_text.specs.declared.fault.KeyFault.TheVariants.{OutOfRange}
use Rattle.sw_text.specs.declared.fault.TextFault.{TextFault}
use Rattle.sw_text.specs.declared.fault.TextFault.TheVariants as fault
use Rattle.sw_text.specs.Keys.{key_text}
use Rattle.sw_text.specs.Gives.{◌>>=◌, walk, each}
use Rattle.sw_text.specs.Table.{is_known, only_known, number_at, tables_or_none}
use Rattle.sw_text.specs.KeyLaws.{HasOnly}
use Rattle.sw_text.specs.SectionKeys.{document_keys}
use Rattle.sw_file.specs.Nodes.{next_node}
use Rattle.sw_file.specs.Switches.{next_switch}
use Rattle.sw_file.specs.Links.{next_link}
use Rattle.sw_file.specs.FlowTables.{next_flow}
use Rattle.sw_file.specs.Network.{version_of, entries, with_nodes, with_switches, with_links, with_parts, wired, with_flows, network_of}
use Rattle.sw_file.specs.Tree.{array_of, with_key, with_tables, merged_switch, new_switches, migrated}
use Rattle.sw_file.specs.Migration.{IsSameNetwork}
use Rattle.sw_file.proofs.Known.{passed}
use Rattle.sw_file.proofs.Tables.{passes}
use Rattle.sw_file.proofs.PutMembers.{get_other, get_same, only_put}
use Rattle.sw_file.proofs.RowEntries.{ok_same}
use Rattle.sw_file.proofs.NewTables.{without, within, new_tables}
use Rattle.sw_file.proofs.NewParts.{IsSameSwitch, same_names, Alike, Steps, node_step, link_step, flow_step, walk_alike, walk_switches}
use Rattle.sw_text.proofs.Results.{bind_ok}

abbrev pub version_two : Members → Members
version_two ms = with_key VersionKey (integer (pos 2)) ms

-- the migrated tree, with these switches
abbrev pub new_tree : List Members → Members → Members
new_tree tables ms = with_tables Switch tables (version_two ms)

list_other : (key : Key) (ts : List Members) (ms : Members) (name : List ℕ) (o : Option Data) → get_member (key_text key) ms ≡ o → is_eq (slice_cmp nat_cmp name (key_text key)) ≡ false → get_member name (with_tables key ts ms) ≡ get_member name ms
list_other key ts ms name None there off = ap (get_member name) (without key ts ms there)
list_other key ts ms name (Some d) there off = ap (get_member name) (within key ts ms d there) ∙ get_other name (key_text key) (array_of ts) ms off

-- a member that is neither the version nor the switches stays
kept : (ts : List Members) (ms : Members) (name : List ℕ) → is_eq (slice_cmp nat_cmp name (key_text Switch)) ≡ false → is_eq (slice_cmp nat_cmp name (key_text VersionKey)) ≡ false → get_member name (new_tree ts ms) ≡ get_member name ms
kept ts ms name off_switch off_version =
    list_other Switch ts (version_two ms) name (get_member (key_text Switch) (version_two ms)) refl off_switch ∙ get_other name (key_text VersionKey) (integer (pos 2)) ms off_version

only_list : (keys : List Key) (key : Key) (ts : List Members) (ms : Members) (o : Option Data) → get_member (key_text key) ms ≡ o → HasOnly keys ms → HasOnly keys (with_tables key ts ms)
only_list keys key ts ms None there only = rw (without key ts ms there) only
only_list keys key ts ms (Some d) there only =
    let known : is_known keys (key_text key) ≡ true = only (key_text key) (rw there refl) in
    subst (HasOnly keys) (sym (within key ts ms d there)) (only_put keys (key_text key) (array_of ts) ms known only)

version_from : (ms : Members) → HasOnly document_keys ms → number_at Document VersionKey 1 3 ms ≡ Ok 2 → version_of ms ≡ Ok Two
unfolding version_of
version_from ms only read = rw (passes Document document_keys ms only, read) refl

number_two : (ms : Members) → get_member (key_text VersionKey) ms ≡ Some (integer (pos 2)) → number_at Document VersionKey 1 3 ms ≡ Ok 2
number_two ms there = rw there refl

-- the migrated document is of version 2
new_version : (ts : List Members) (ms : Members) → HasOnly document_keys ms → version_of (new_tree ts ms) ≡ Ok Two
new_version ts ms only =
    let two = version_two ms in
    version_from (new_tree ts ms) (only_list document_keys Switch ts two (get_member (key_text Switch) two) refl (only_put document_keys (key_text VersionKey) (integer (pos 2)) ms refl only))
    (number_two (new_tree ts ms) (list_other Switch ts two (key_text VersionKey) (get_member (key_text Switch) two) refl refl ∙ get_same (key_text VersionKey) (integer (pos 2)) ms))

entries_same : (key : Key) (most : ℕ) (over : TextFault) (ms ns : Members) → get_member (key_text key) ns ≡ get_member (key_text key) ms → entries key most over ns ≡ entries key most over ms
entries_same key most over ms ns same = rw same refl

itself : Alike empty empty
itself = record { nodes = refl; links = refl; flows = refl; switches = tt }

nodes_same : (ms ns : Members) (d : Declaration) → get_member (key_text Node) ns ≡ get_member (key_text Node) ms → with_nodes Two d ns ≡ with_nodes Two d ms
unfolding with_nodes
nodes_same ms ns d same = rw same refl

links_same : (ms ns : Members) (d : Declaration) → get_member (key_text Link) ns ≡ get_member (key_text Link) ms → with_links Two d ns ≡ with_links Two d ms
unfolding with_links
links_same ms ns d same = rw same refl

flows_same : (ms ns : Members) (d : Declaration) → get_member (key_text Flow) ns ≡ get_member (key_text Flow) ms → with_flows Two d ns ≡ with_flows Two d ms
unfolding with_flows
flows_same ms ns d same = rw same refl

over_nodes : TextFault
over_nodes = fault.Topology (TooMany Nodes)

over_links : TextFault
over_links = fault.Topology (TooMany Links)

over_flows : TextFault
over_flows = fault.Key OutOfRange Document Flow

nodes_from : (ms : Members) (ts : List Members) (d n : Declaration) → entries Node MAX_NODES over_nodes ms ≡ Ok ts → walk (next_node Two) d ts ≡ Ok n → with_nodes Two d ms ≡ Ok n
unfolding with_nodes over_nodes
nodes_from ms ts d n listed walked = rw listed walked

nodes_two : (ms : Members) (d : Declaration) → with_nodes One empty ms ≡ Ok d → Steps (with_nodes Two empty ms) d
unfolding with_nodes over_nodes
nodes_two ms d well =
    let a = bind_ok (entries Node MAX_NODES over_nodes ms) (λ tables. walk (next_node One) empty tables) d well in
    let s = walk_alike (next_node One) (next_node Two) node_step 0 empty empty a.0 d itself a.2 in
    record { next = s.next; is = nodes_from ms a.0 empty s.next a.1 s.is; alike = s.alike }

links_from : (ms : Members) (ts : List Members) (d n : Declaration) → entries Link MAX_LINKS over_links ms ≡ Ok ts → walk (next_link Two) d ts ≡ Ok n → with_links Two d ms ≡ Ok n
unfolding with_links over_links
links_from ms ts d n listed walked = rw listed walked

links_two : (d e : Declaration) (ms : Members) (n : Declaration) → Alike d e → with_links One d ms ≡ Ok n → Steps (with_links Two e ms) n
unfolding with_links over_links
links_two d e ms n alike well =
    let a = bind_ok (entries Link MAX_LINKS over_links ms) (λ tables. walk (next_link One) d tables) n well in
    let s = walk_alike (next_link One) (next_link Two) link_step 0 d e a.0 n alike a.2 in
    record { next = s.next; is = links_from ms a.0 e s.next a.1 s.is; alike = s.alike }

flows_from : (ms : Members) (ts : List Members) (d n : Declaration) → entries Flow MAX_FLOWS over_flows ms ≡ Ok ts → walk (next_flow Two) d ts ≡ Ok n → with_flows Two d ms ≡ Ok n
unfolding with_flows over_flows
flows_from ms ts d n listed walked = rw listed walked

flows_two : (d e : Declaration) (ms : Members) (n : Declaration) → Alike d e → with_flows One d ms ≡ Ok n → Steps (with_flows Two e ms) n
unfolding with_flows over_flows
flows_two d e ms n alike well =
    let a = bind_ok (entries Flow MAX_FLOWS over_flows ms) (λ tables. walk (next_flow One) d tables) n well in
    let s = walk_alike (next_flow One) (next_flow Two) flow_step 0 d e a.0 n alike a.2 in
    record { next = s.next; is = flows_from ms a.0 e s.next a.1 s.is; alike = s.alike }

-- a list that is not too long
pub entries_parts : (key : Key) (most : ℕ) (over : TextFault) (ms : Members) (ts : List Members) → entries key most over ms ≡ Ok ts → (tables_or_none Document key ms ≡ Ok ts) × (nat_le (length ts) most ≡ true)
entries_parts key most over ms ts well =
    let a = bind_ok (tables_or_none Document key ms) (λ tables. if nat_le (length tables) most then Ok tables else Err over) ts well in
    elim (cases_Bool (nat_le (length a.0) most)) [
      | inl few ↦ let same : a.0 ≡ ts = ok_same a.0 ts (rw few at a.2) in (subst (λ x. tables_or_none Document key ms ≡ Ok x) same a.1, subst (λ x. nat_le (length x) most ≡ true) same few)
      | inr many ↦ let e : Err over ≡ Ok ts = rw many at a.2 in absurd cc
    ]

entries_from : (key : Key) (most : ℕ) (over : TextFault) (ms : Members) (ts : List Members) → tables_or_none Document key ms ≡ Ok ts → nat_le (length ts) most ≡ true → entries key most over ms ≡ Ok ts
entries_from key most over ms ts listed few = rw (listed, few) refl

empty_list : (key : Key) (ms : Members) → get_member (key_text key) ms ≡ None → tables_or_none Document key ms ≡ Ok []
empty_list key ms none = rw none refl

-- the list of switches is the merged tables
switch_list : (ms : Members) (ts us : List Members) (o : Option Data) → get_member (key_text Switch) ms ≡ o → tables_or_none Document Switch ms ≡ Ok ts → each merged_switch ts ≡ Ok us → tables_or_none Document Switch (new_tree us ms) ≡ Ok us
switch_list ms ts us None there listed merged =
    let two : get_member (key_text Switch) (version_two ms) ≡ None = get_other (key_text Switch) (key_text VersionKey) (integer (pos 2)) ms refl ∙ there in
    let none : [] ≡ ts = ok_same [] ts (sym (empty_list Switch ms there) ∙ listed) in
    let none_merged : [] ≡ us = ok_same [] us (subst (λ x. each merged_switch x ≡ Ok us) (sym none) merged) in
    ap (tables_or_none Document Switch) (without Switch us (version_two ms) two) ∙ empty_list Switch (version_two ms) two ∙ ap Ok none_merged
switch_list ms ts us (Some d) there listed merged =
    let two : get_member (key_text Switch) (version_two ms) ≡ Some d = get_other (key_text Switch) (key_text VersionKey) (integer (pos 2)) ms refl ∙ there in
    ap (tables_or_none Document Switch) (within Switch us (version_two ms) d two) ∙ new_tables Document Switch us (version_two ms)

-- the switches of the migrated tree
record NewSwitches (e : Declaration) (ms : Members) (n : Declaration) : Type 0 where
  tables : List Members
  next : Declaration
  switches : new_switches ms ≡ Ok tables
  read : with_switches Two e (new_tree tables ms) ≡ Ok next
  alike : Alike n next

switches_as : (ms : Members) (ts us : List Members) → tables_or_none Document Switch ms ≡ Ok ts → each merged_switch ts ≡ Ok us → new_switches ms ≡ Ok us
unfolding new_switches
switches_as ms ts us listed merged = rw listed merged

switches_two : (d e : Declaration) (ms : Members) (n : Declaration) → Alike d e → with_switches One d ms ≡ Ok n → NewSwitches e ms n
unfolding with_switches
switches_two d e ms n alike well =
    let over = fault.Topology (TooMany Switches) in
    let a = bind_ok (entries Switch MAX_SWITCHES over ms) (λ tables. walk (next_switch One) d tables) n well in
    let parts = entries_parts Switch MAX_SWITCHES over ms a.0 a.1 in
    let m = walk_switches 0 d e a.0 n alike a.2 in
    let listed = switch_list ms a.0 m.tables (get_member (key_text Switch) ms) refl parts.0 m.merged in
    let few : nat_le (length m.tables) MAX_SWITCHES ≡ true = rw m.as_many parts.1 in
    record {
      tables = m.tables;
      next = m.next;
      switches = switches_as ms a.0 m.tables parts.0 m.merged;
      read = rw (entries_from Switch MAX_SWITCHES over (new_tree m.tables ms) m.tables listed few) m.walked;
      alike = m.alike;
    }

same_count : (ss ts : List SwitchEntry) → AllZip IsSameSwitch ss ts → length ts ≡ length ss
same_count [] [] all = refl
same_count [] (t ∷ ts) all = absurd all
same_count (s ∷ ss) [] all = absurd all
same_count (s ∷ ss) (t ∷ ts) all = ap suc (same_count ss ts all.1)

same_wiring : (d e : Declaration) → Alike d e → wiring_of e ≡ wiring_of d
same_wiring d e alike = rw (alike.nodes, alike.links, same_count d.switches e.switches alike.switches) refl

wired_parts : (d n : Declaration) (o : Option TopoFault) → fault_of (wiring_of d) ≡ o → wired d ≡ Ok n → (d ≡ n) × (fault_of (wiring_of d) ≡ None)
wired_parts d n None is well = (ok_same d n (rw is at well), is)
wired_parts d n (Some f) is well = let e : Err (fault.Topology f) ≡ Ok n = rw is at well in absurd cc

wired_from : (d : Declaration) → fault_of (wiring_of d) ≡ None → wired d ≡ Ok d
wired_from d none = rw none refl

-- the migrated tree, and its network
pub record IsMigratedTree (ms : Members) (old : Declaration) : Type 0 where
  pub tables : List Members
  pub new : Declaration
  pub switches : new_switches ms ≡ Ok tables
  pub version : version_of (new_tree tables ms) ≡ Ok Two
  pub declared : network_of (new_tree tables ms) ≡ Ok new
  pub alike : Alike old new

parts_from : (ms : Members) (a b c : Declaration) → with_nodes Two empty ms ≡ Ok a → with_switches Two a ms ≡ Ok b → with_links Two b ms ≡ Ok c → with_parts Two empty ms ≡ Ok c
unfolding with_parts
parts_from ms a b c nodes switches links = rw (nodes, switches, links) refl

network_from : (ms : Members) (c d : Declaration) → version_of ms ≡ Ok Two → with_parts Two empty ms ≡ Ok c → wired c ≡ Ok c → with_flows Two c ms ≡ Ok d → network_of ms ≡ Ok d
unfolding network_of
network_from ms c d version parts joined flows = rw (version, parts, joined) flows

-- what is read of the parts of the old tree
pub old_parts : (ms : Members) (c : Declaration) → with_parts One empty ms ≡ Ok c → (a : Declaration) × (b : Declaration) × (with_nodes One empty ms ≡ Ok a) × (with_switches One a ms ≡ Ok b) × (with_links One b ms ≡ Ok c)
unfolding with_parts
old_parts ms c well =
    let a = bind_ok (with_nodes One empty ms) (λ nodes. with_switches One nodes ms >>= λ switches. with_links One switches ms) c well in
    let b = bind_ok (with_switches One a.0 ms) (λ switches. with_links One switches ms) c a.2 in
    (a.0, b.0, a.1, b.1, b.2)

pub old_network : (ms : Members) (d : Declaration) → network_of ms ≡ Ok d → version_of ms ≡ Ok One → (c : Declaration) × (with_parts One empty ms ≡ Ok c) × (fault_of (wiring_of c) ≡ None) × (with_flows One c ms ≡ Ok d)
unfolding network_of
old_network ms d well version =
    let after : (with_parts One empty ms >>= λ parts. wired parts >>= λ network. with_flows One network ms) ≡ Ok d = rw version at well in
    let a = bind_ok (with_parts One empty ms) (λ parts. wired parts >>= λ network. with_flows One network ms) d after in
    let b = bind_ok (wired a.0) (λ network. with_flows One network ms) d a.2 in
    let w = wired_parts a.0 b.0 (fault_of (wiring_of a.0)) refl b.1 in
    (a.0, a.1, w.1, subst (λ x. with_flows One x ms ≡ Ok d) (sym w.0) b.2)

pub version_keys : (ms : Members) → version_of ms ≡ Ok One → HasOnly document_keys ms
unfolding version_of
version_keys ms version =
    let a = bind_ok (only_known Document document_keys ms) _ One version in
    passed Document document_keys ms a.0 a.1

pub migrated_tree : (ms : Members) (d : Declaration) → network_of ms ≡ Ok d → version_of ms ≡ Ok One → IsMigratedTree ms d
migrated_tree ms d well version =
    let (c, parts, faultless, flows) = old_network ms d well version in
    let (a, b, nodes, switches, links) = old_parts ms c parts in
    let ns = nodes_two ms a nodes in
    let ss = switches_two a ns.next ms b ns.alike switches in
    let ls = links_two b ss.next ms c ss.alike links in
    let fs = flows_two c ls.next ms d ls.alike flows in
    let tree = new_tree ss.tables ms in
    let joined : fault_of (wiring_of ls.next) ≡ None = ap fault_of (same_wiring c ls.next ls.alike) ∙ faultless in
    let version' = new_version ss.tables ms (version_keys ms version) in
    let nodes' = nodes_same ms tree empty (kept ss.tables ms (key_text Node) refl refl) ∙ ns.is in
    let links' = links_same ms tree ss.next (kept ss.tables ms (key_text Link) refl refl) ∙ ls.is in
    let flows' = flows_same ms tree ls.next (kept ss.tables ms (key_text Flow) refl refl) ∙ fs.is in
    record {
      tables = ss.tables;
      new = fs.next;
      switches = ss.switches;
      version = version';
      declared = network_from tree ls.next fs.next version' (parts_from tree ns.next ss.next ls.next nodes' ss.read links') (wired_from ls.next joined) flows';
      alike = fs.alike;
    }

same_policies : (ss ts : List SwitchEntry) → AllZip IsSameSwitch ss ts → map (λ s. s.arbitration) ts ≡ map (λ s. s.arbitration) ss
same_policies [] [] all = refl
same_policies [] (t ∷ ts) all = absurd all
same_policies (s ∷ ss) [] all = absurd all
same_policies (s ∷ ss) (t ∷ ts) all = rw (all.0.arbitration, same_policies ss ts all.1) refl

same_looks : (ss ts : List SwitchEntry) → AllZip IsSameSwitch ss ts → (s byte : ℕ) → look_at ts s byte ≡ look_at ss s byte
same_looks [] [] all s byte = refl
same_looks [] (t ∷ ts) all s byte = absurd all
same_looks (x ∷ ss) [] all s byte = absurd all
same_looks (x ∷ ss) (t ∷ ts) all zero byte = all.0.looks byte
same_looks (x ∷ ss) (t ∷ ts) all (suc s) byte = same_looks ss ts all.1 s byte

pub same_network : (d e : Declaration) → Alike d e → IsSameNetwork d e
same_network d e alike = record {
  nodes = alike.nodes;
  links = alike.links;
  flows = alike.flows;
  names = same_names d.switches e.switches alike.switches;
  policies = same_policies d.switches e.switches alike.switches;
  looks = same_looks d.switches e.switches alike.switches;
}

pub migrated_is : (ms : Members) (tables : List Members) → new_switches ms ≡ Ok tables → migrated ms ≡ Ok (new_tree tables ms)
unfolding migrated
migrated_is ms tables switches = rw switches refl
