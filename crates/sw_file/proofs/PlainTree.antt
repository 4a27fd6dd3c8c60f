-- The tree of a network file is plain, and so is the migrated one.
use Rattle.std.proofs.Common.{◌≡◌, ℕ, suc, ◌≤◌, true, pos, List, [], ◌∷◌, map, length, Option, Some, None, Result, Ok, refl, sym, ap, inl, inr, arith, subst}
use Rattle.std.specs.Prelude.{fold, ◌==◌}
use Rattle.std.specs.List.{AllByRecursion}
use Rattle.std.proofs.lemmas.Bool.{cases_Bool}
use Rattle.toml.specs.Data.{Data, integer, table, Members, get_member, members_are_sorted}
use Rattle.toml.specs.View.{items_of}
use Rattle.sw_topo.specs.declared.limits.TheConstants.{MAX_NODES, MAX_SWITCHES, MAX_LINKS, MAX_FLOWS}
use Rattle.sw_topo.specs.declared.fault.Limit.TheVariants.{Nodes, Switches, Links}
use Rattle.sw_topo.specs.declared.fault.TopoFault.TheVariants.{TooMany}
use Rattle.sw_config.specs.Entries.{Declaration, part_names, flow_names, empty}
use Rattle.sw_text.specs.declared.keys.Key.{Key}
use Rattle.sw_text.specs.declared.keys.Key.TheVariants.{Version as VersionKey, Node, Switch, Link, Flow, Last, Route, Address, Ports, Delete}
use Rattle.sw_text.specs.declared.keys.Section.TheVariants.{Document}
use Rattle.sw_text.specs.declared.keys.Version.{Version}
use Rattle.sw_text.specs.declared.keys.Version.TheVariants.{One}
use Rattle.sw_text.specs.declared.fault.KeyFault.TheVariants.{OutOfRange}
use Rattle.sw_text.specs.declared.fault.TextFault.{TextFault}
use Rattle.sw_text.specs.declared.fault.TextFault.TheVariants as fault
use Rattle.sw_text.specs.Keys.{key_text}
use Rattle.sw_text.specs.Gives.{◌>>=◌, walk_from, walk, each}
use Rattle.sw_text.specs.Table.{only_known, number_at, numbers_at, tables_or_none, flag_or_false}
use Rattle.sw_text.specs.SectionKeys.{document_keys}
use Rattle.sw_file.specs.Nodes.{node_of, next_node}
use Rattle.sw_file.specs.Switches.{switch_of, next_switch}
use Rattle.sw_file.specs.Links.{link_of, next_link}
use Rattle.sw_file.specs.FlowTables.{flow_of, next_flow}
use Rattle.sw_file.specs.Network.{version_of, entries, with_nodes, with_switches, with_links, with_flows, network_of}
use Rattle.sw_file.specs.Rows.{Entry, Row, goes_on, after, rows}
use Rattle.sw_file.specs.Tree.{array_of, with_tables, entry_of, row_table, merged_switch, new_switches}
use Rattle.sw_file.proofs.RowEntries.{ok_same}
use Rattle.sw_file.proofs.NewTables.{without, within}
use Rattle.sw_file.proofs.NewNetwork.{version_two, new_tree, entries_parts, old_parts, old_network, version_keys}
use Rattle.sw_file.proofs.Plain.{Plain, PlainMembers, Holds, plain_more, known_plain, put_plain, tables_plain, plain_array}
use Rattle.sw_file.proofs.PlainReaders.{number_plain, tables_sorted, tables_hold, tables_inner}
use Rattle.sw_file.proofs.PlainEntries.{node_plain, switch_plain, link_plain, flow_plain}
use Rattle.sw_text.proofs.Results.{bind_ok}

abbrev InOrder : Members → Type 0
InOrder t = members_are_sorted t ≡ true

-- where each step reads a table as P says, all tables of a walk are so
all_read : (step : ℕ → Declaration → Members → Result Declaration TextFault) (P : Members → Type 0) → ((i : ℕ) (d n : Declaration) (t : Members) → step i d t ≡ Ok n → InOrder t → P t)
    → (k : ℕ) (d n : Declaration) (ts : List Members) → walk_from step k d ts ≡ Ok n → AllByRecursion InOrder ts → AllByRecursion P ts
all_read step P so k d n [] well sorted = tt
all_read step P so k d n (t ∷ ts) well sorted =
    let a = bind_ok (step k d t) (λ x. walk_from step (suc k) x ts) n well in
    (so k d a.0 t a.1 sorted.0, all_read step P so (suc k) a.0 n ts a.2 sorted.1)

node_read : (i : ℕ) (d n : Declaration) (t : Members) → next_node One i d t ≡ Ok n → InOrder t → PlainMembers 1 t
unfolding next_node
node_read i d n t well sorted =
    let a = bind_ok (node_of One i (part_names d) t) _ n well in
    node_plain i (part_names d) t a.0 a.1 sorted

switch_read : (i : ℕ) (d n : Declaration) (t : Members) → next_switch One i d t ≡ Ok n → InOrder t → PlainMembers 3 t
unfolding next_switch
switch_read i d n t well sorted =
    let a = bind_ok (switch_of One i (part_names d) t) _ n well in
    switch_plain i (part_names d) t a.0 a.1 sorted

link_read : (i : ℕ) (d n : Declaration) (t : Members) → next_link One i d t ≡ Ok n → InOrder t → PlainMembers 0 t
unfolding next_link
link_read i d n t well sorted =
    let a = bind_ok (link_of One i (length d.nodes) (part_names d) t) _ n well in
    link_plain i (length d.nodes) (part_names d) t a.0 a.1 sorted

flow_read : (i : ℕ) (d n : Declaration) (t : Members) → next_flow One i d t ≡ Ok n → InOrder t → PlainMembers 2 t
unfolding next_flow
flow_read i d n t well sorted =
    let a = bind_ok (flow_of One i d.nodes (flow_names d.flows) t) _ n well in
    flow_plain i d.nodes (flow_names d.flows) t a.0 a.1 sorted

holds_more : (n m : ℕ) (ms : Members) (name : List ℕ) → n ≤ m → Holds n ms name → Holds m ms name
holds_more n m ms name le holds = λ d there. plain_more n m d le (holds d there)

list_holds : (step : ℕ → Declaration → Members → Result Declaration TextFault) (n : ℕ) → ((i : ℕ) (d e : Declaration) (t : Members) → step i d t ≡ Ok e → InOrder t → PlainMembers n t)
    → (key : Key) (most : ℕ) (over : TextFault) (ms : Members) (d e : Declaration) → (entries key most over ms >>= λ tables. walk step d tables) ≡ Ok e → InOrder ms → Holds (suc (suc n)) ms (key_text key)
list_holds step n so key most over ms d e well sorted =
    let a = bind_ok (entries key most over ms) (λ tables. walk step d tables) e well in
    let listed = (entries_parts key most over ms a.0 a.1).0 in
    tables_hold n Document key ms a.0 listed (all_read step (PlainMembers n) so 0 d e a.0 a.2 (tables_sorted Document key ms a.0 listed sorted))

nodes_hold : (ms : Members) (d e : Declaration) → with_nodes One d ms ≡ Ok e → InOrder ms → Holds 3 ms (key_text Node)
unfolding with_nodes
nodes_hold ms d e well sorted = list_holds (next_node One) 1 node_read Node MAX_NODES (fault.Topology (TooMany Nodes)) ms d e well sorted

switches_hold : (ms : Members) (d e : Declaration) → with_switches One d ms ≡ Ok e → InOrder ms → Holds 5 ms (key_text Switch)
unfolding with_switches
switches_hold ms d e well sorted = list_holds (next_switch One) 3 switch_read Switch MAX_SWITCHES (fault.Topology (TooMany Switches)) ms d e well sorted

links_hold : (ms : Members) (d e : Declaration) → with_links One d ms ≡ Ok e → InOrder ms → Holds 2 ms (key_text Link)
unfolding with_links
links_hold ms d e well sorted = list_holds (next_link One) 0 link_read Link MAX_LINKS (fault.Topology (TooMany Links)) ms d e well sorted

flows_hold : (ms : Members) (d e : Declaration) → with_flows One d ms ≡ Ok e → InOrder ms → Holds 4 ms (key_text Flow)
unfolding with_flows
flows_hold ms d e well sorted = list_holds (next_flow One) 2 flow_read Flow MAX_FLOWS (fault.Key OutOfRange Document Flow) ms d e well sorted

version_holds : (n : ℕ) (ms : Members) (v : Version) → version_of ms ≡ Ok v → Holds n ms (key_text VersionKey)
unfolding version_of
version_holds n ms v well =
    let a = bind_ok (only_known Document document_keys ms) _ v well in
    let b = bind_ok (number_at Document VersionKey 1 3 ms) _ v a.2 in
    number_plain n Document VersionKey 1 3 ms b.0 b.1

-- the tree of a network of version 1 is plain
pub tree_plain : (ms : Members) (d : Declaration) → network_of ms ≡ Ok d → version_of ms ≡ Ok One → InOrder ms → PlainMembers 5 ms
tree_plain ms d well version sorted =
    let (c, parts, faultless, flows) = old_network ms d well version in
    let (a, b, nodes, switches, links) = old_parts ms c parts in
    known_plain 5 document_keys ms (version_keys ms version) sorted (
      version_holds 5 ms One version,
      (
        holds_more 3 5 ms (key_text Node) (omega arith) (nodes_hold ms empty a nodes sorted),
        (
          switches_hold ms a b switches sorted,
          (
            holds_more 2 5 ms (key_text Link) (omega arith) (links_hold ms b c links sorted),
            (holds_more 4 5 ms (key_text Flow) (omega arith) (flows_hold ms c d flows sorted), tt),
          ),
        ),
      ),
    )

-- ---- the migrated tree

entry_table : (t : Members) (e : Entry) → entry_of t ≡ Ok e → t ≡ e.table
unfolding entry_of
entry_table t e well =
    let a = bind_ok (number_at Document Address 32 254 t) _ e well in
    let b = bind_ok (numbers_at Document Ports 31 t) _ e a.2 in
    let c = bind_ok (flag_or_false Document Delete t) _ e b.2 in
    ap (λ x. x.table) (ok_same (record { table = t; address = a.0; ports = b.0; delete = c.0 }) e c.2)

entries_plain : (ts : List Members) (es : List Entry) → each entry_of ts ≡ Ok es → AllByRecursion (PlainMembers 1) ts → AllByRecursion (λ e. PlainMembers 1 e.table) es
entries_plain [] es well all = subst (AllByRecursion (λ e. PlainMembers 1 e.table)) (ok_same [] es well) tt
entries_plain (t ∷ ts) es well all =
    let a = bind_ok (entry_of t) (λ e. each entry_of ts >>= λ rest. Ok (e ∷ rest)) es well in
    let b = bind_ok (each entry_of ts) (λ rest. Ok (a.0 ∷ rest)) es a.2 in
    subst (AllByRecursion (λ e. PlainMembers 1 e.table)) (ok_same (a.0 ∷ b.0) es b.2) (subst (PlainMembers 1) (entry_table t a.0 a.1) all.0, entries_plain ts b.0 b.1 all.1)

abbrev FirstPlain : Row → Type 0
FirstPlain r = PlainMembers 1 r.first.table

after_plain : (rs : List Row) (e : Entry) → AllByRecursion FirstPlain rs → PlainMembers 1 e.table → AllByRecursion FirstPlain (after rs e)
after_plain [] e all here = (here, tt)
after_plain (r ∷ []) e all here =
    elim (cases_Bool (goes_on r e)) [
      | inl on ↦ rw on (all.0, tt)
      | inr off ↦ rw off (all.0, (here, tt))
    ]
after_plain (r ∷ s ∷ rs) e all here = (all.0, after_plain (s ∷ rs) e all.1 here)

all_plain : (rs : List Row) (es : List Entry) → AllByRecursion FirstPlain rs → AllByRecursion (λ e. PlainMembers 1 e.table) es → AllByRecursion FirstPlain (fold after rs es)
all_plain rs [] done all = done
all_plain rs (e ∷ es) done all = all_plain (after rs e) es (after_plain rs e done all.0) all.1

number_itself : (n m : ℕ) → Plain n (integer (pos m))
number_itself n m = record { shallow = omega arith; valid = refl }

row_plain : (r : Row) → FirstPlain r → PlainMembers 1 (row_table r)
row_plain r first =
    elim (cases_Bool (r.first.address == r.last)) [
      | inl same ↦ rw same first
      | inr more ↦ rw more (put_plain 1 (key_text Last) (integer (pos r.last)) r.first.table (number_itself 1 r.last) first)
    ]

row_tables_plain : (rs : List Row) → AllByRecursion FirstPlain rs → AllByRecursion (PlainMembers 1) (map row_table rs)
row_tables_plain [] all = tt
row_tables_plain (r ∷ rs) all = (row_plain r all.0, row_tables_plain rs all.1)

in_place_at : (n : ℕ) (key : Key) (ts : List Members) (ms : Members) (o : Option Data) → get_member (key_text key) ms ≡ o → AllByRecursion (PlainMembers n) ts → PlainMembers (suc (suc n)) ms → PlainMembers (suc (suc n)) (with_tables key ts ms)
in_place_at n key ts ms None there all plain = subst (PlainMembers (suc (suc n))) (sym (without key ts ms there)) plain
in_place_at n key ts ms (Some d) there all plain =
    subst (PlainMembers (suc (suc n))) (sym (within key ts ms d there)) (put_plain (suc (suc n)) (key_text key) (array_of ts) ms (plain_array (suc n) (items_of (map table ts)) (tables_plain n ts all)) plain)

merged_plain : (t u : Members) → merged_switch t ≡ Ok u → PlainMembers 3 t → PlainMembers 3 u
unfolding merged_switch
merged_plain t u well plain =
    let a = bind_ok (tables_or_none Document Route t) _ u well in
    let b = bind_ok (each entry_of a.0) _ u a.2 in
    let first = all_plain [] b.0 tt (entries_plain a.0 b.0 b.1 (tables_inner 1 Document Route t a.0 a.1 plain)) in
    subst (PlainMembers 3) (ok_same (with_tables Route (map row_table (rows b.0)) t) u b.2) (in_place_at 1 Route (map row_table (rows b.0)) t (get_member (key_text Route) t) refl (row_tables_plain (rows b.0) first) plain)

switches_plain : (ts us : List Members) → each merged_switch ts ≡ Ok us → AllByRecursion (PlainMembers 3) ts → AllByRecursion (PlainMembers 3) us
switches_plain [] us well all = subst (AllByRecursion (PlainMembers 3)) (ok_same [] us well) tt
switches_plain (t ∷ ts) us well all =
    let a = bind_ok (merged_switch t) (λ x. each merged_switch ts >>= λ rest. Ok (x ∷ rest)) us well in
    let b = bind_ok (each merged_switch ts) (λ rest. Ok (a.0 ∷ rest)) us a.2 in
    subst (AllByRecursion (PlainMembers 3)) (ok_same (a.0 ∷ b.0) us b.2) (merged_plain t a.0 a.1 all.0, switches_plain ts b.0 b.1 all.1)

pub new_tree_plain : (ms : Members) (us : List Members) → new_switches ms ≡ Ok us → PlainMembers 5 ms → PlainMembers 5 (new_tree us ms)
unfolding new_switches
new_tree_plain ms us well plain =
    let a = bind_ok (tables_or_none Document Switch ms) (λ tables. each merged_switch tables) us well in
    in_place_at 3 Switch us (version_two ms) (get_member (key_text Switch) (version_two ms)) refl (switches_plain a.0 us a.2 (tables_inner 3 Document Switch ms a.0 a.1 plain)) (put_plain 5 (key_text VersionKey) (integer (pos 2)) ms (number_itself 5 2) plain)
