-- What was read as of version 1 and is unchanged reads the same as of version 2.
use Rattle.std.proofs.Common.{◌≡◌, ℕ, suc, List, [], ◌∷◌, ◌++◌, map, length, Result, Ok, refl, ap, subst}
use Rattle.std.specs.List.{AllZip}
use Rattle.toml.specs.Data.{Members}
use Rattle.sw_route.specs.Looks.{look_of}
use Rattle.sw_config.specs.Entries.{SwitchEntry, Declaration, part_names, flow_names}
use Rattle.sw_text.specs.declared.keys.Version.TheVariants.{One, Two}
use Rattle.sw_text.specs.declared.fault.TextFault.{TextFault}
use Rattle.sw_text.specs.Gives.{walk_from, each}
use Rattle.sw_file.specs.Nodes.{node_of, next_node}
use Rattle.sw_file.specs.Switches.{switch_of, next_switch}
use Rattle.sw_file.specs.Links.{link_of, next_link}
use Rattle.sw_file.specs.FlowTables.{flow_of, next_flow}
use Rattle.sw_file.specs.Tree.{merged_switch}
use Rattle.sw_file.proofs.RowEntries.{ok_same}
use Rattle.sw_file.proofs.NewSwitches.{merged_read}
use Rattle.sw_file.proofs.Raised.{two_after_one, node_later, link_later, flow_later}
use Rattle.sw_text.proofs.Results.{bind_ok}

-- the same name, the same policy, and each byte names the same
pub record IsSameSwitch (s t : SwitchEntry) : Type 0 where
  pub name : t.name ≡ s.name
  pub arbitration : t.arbitration ≡ s.arbitration
  pub looks : (byte : ℕ) → look_of t.routes byte ≡ look_of s.routes byte

-- the same but for the entries of routing tables
pub record Alike (d e : Declaration) : Type 0 where
  pub nodes : e.nodes ≡ d.nodes
  pub links : e.links ≡ d.links
  pub flows : e.flows ≡ d.flows
  pub switches : AllZip IsSameSwitch d.switches e.switches

pub same_names : (ss ts : List SwitchEntry) → AllZip IsSameSwitch ss ts → map (λ s. s.name) ts ≡ map (λ s. s.name) ss
same_names [] [] all = refl
same_names [] (t ∷ ts) all = absurd all
same_names (s ∷ ss) [] all = absurd all
same_names (s ∷ ss) (t ∷ ts) all = rw (all.0.name, same_names ss ts all.1) refl

pub same_parts : (d e : Declaration) → Alike d e → part_names e ≡ part_names d
same_parts d e alike = rw (alike.nodes, same_names d.switches e.switches alike.switches) refl

one_switch_more : (ss ts : List SwitchEntry) (s t : SwitchEntry) → AllZip IsSameSwitch ss ts → IsSameSwitch s t → AllZip IsSameSwitch (ss ++ s ∷ []) (ts ++ t ∷ [])
one_switch_more [] [] s t all same = (same, tt)
one_switch_more [] (y ∷ ts) s t all same = absurd all
one_switch_more (x ∷ ss) [] s t all same = absurd all
one_switch_more (x ∷ ss) (y ∷ ts) s t all same = (all.0, one_switch_more ss ts s t all.1 same)

-- what the other version's step gives
pub record Steps (r : Result Declaration TextFault) (d : Declaration) : Type 0 where
  pub next : Declaration
  pub is : r ≡ Ok next
  pub alike : Alike d next

pub node_step : (i : ℕ) (d e : Declaration) (t : Members) (n : Declaration) → Alike d e → next_node One i d t ≡ Ok n → Steps (next_node Two i e t) n
unfolding next_node
node_step i d e t n alike well =
    let a = bind_ok (node_of One i (part_names d) t) _ n well in
    let read : node_of Two i (part_names e) t ≡ Ok a.0 = rw (same_parts d e alike) (node_later One Two two_after_one i (part_names d) t a.0 a.1) in
    record {
      next = record e { nodes = e.nodes ++ a.0 ∷ [] };
      is = rw read refl;
      alike = subst (λ x. Alike x (record e { nodes = e.nodes ++ a.0 ∷ [] })) (ok_same (record d { nodes = d.nodes ++ a.0 ∷ [] }) n a.2)
          (record { nodes = ap (λ l. l ++ a.0 ∷ []) alike.nodes; links = alike.links; flows = alike.flows; switches = alike.switches });
    }

pub link_step : (i : ℕ) (d e : Declaration) (t : Members) (n : Declaration) → Alike d e → next_link One i d t ≡ Ok n → Steps (next_link Two i e t) n
unfolding next_link
link_step i d e t n alike well =
    let a = bind_ok (link_of One i (length d.nodes) (part_names d) t) _ n well in
    let read : link_of Two i (length e.nodes) (part_names e) t ≡ Ok a.0 = rw (same_parts d e alike, alike.nodes) (link_later One Two two_after_one i (length d.nodes) (part_names d) t a.0 a.1) in
    record {
      next = record e { links = e.links ++ a.0 ∷ [] };
      is = rw read refl;
      alike = subst (λ x. Alike x (record e { links = e.links ++ a.0 ∷ [] })) (ok_same (record d { links = d.links ++ a.0 ∷ [] }) n a.2)
          (record { nodes = alike.nodes; links = ap (λ l. l ++ a.0 ∷ []) alike.links; flows = alike.flows; switches = alike.switches });
    }

pub flow_step : (i : ℕ) (d e : Declaration) (t : Members) (n : Declaration) → Alike d e → next_flow One i d t ≡ Ok n → Steps (next_flow Two i e t) n
unfolding next_flow
flow_step i d e t n alike well =
    let a = bind_ok (flow_of One i d.nodes (flow_names d.flows) t) _ n well in
    let read : flow_of Two i e.nodes (flow_names e.flows) t ≡ Ok a.0 = rw (alike.nodes, alike.flows) (flow_later One Two two_after_one i d.nodes (flow_names d.flows) t a.0 a.1) in
    record {
      next = record e { flows = e.flows ++ a.0 ∷ [] };
      is = rw read refl;
      alike = subst (λ x. Alike x (record e { flows = e.flows ++ a.0 ∷ [] })) (ok_same (record d { flows = d.flows ++ a.0 ∷ [] }) n a.2)
          (record { nodes = alike.nodes; links = alike.links; flows = ap (λ l. l ++ a.0 ∷ []) alike.flows; switches = alike.switches });
    }

-- a walk over unchanged tables
pub walk_alike : (one two : ℕ → Declaration → Members → Result Declaration TextFault) → ((i : ℕ) (d e : Declaration) (t : Members) (n : Declaration) → Alike d e → one i d t ≡ Ok n → Steps (two i e t) n)
    → (k : ℕ) (d e : Declaration) (ts : List Members) (n : Declaration) → Alike d e → walk_from one k d ts ≡ Ok n → Steps (walk_from two k e ts) n
walk_alike one two step k d e [] n alike well = record { next = e; is = refl; alike = subst (λ x. Alike x e) (ok_same d n well) alike }
walk_alike one two step k d e (t ∷ ts) n alike well =
    let a = bind_ok (one k d t) (λ x. walk_from one (suc k) x ts) n well in
    let here = step k d e t a.0 alike a.1 in
    let rest = walk_alike one two step (suc k) a.0 here.next ts n here.alike a.2 in
    record { next = rest.next; is = rw here.is rest.is; alike = rest.alike }

-- the walk over the merged tables of switches
pub record Merges (k : ℕ) (e : Declaration) (ts : List Members) (n : Declaration) : Type 0 where
  pub tables : List Members
  pub next : Declaration
  pub merged : each merged_switch ts ≡ Ok tables
  pub as_many : length tables ≡ length ts
  pub walked : walk_from (next_switch Two) k e tables ≡ Ok next
  pub alike : Alike n next

switch_step : (i : ℕ) (d : Declaration) (t : Members) (n : Declaration) → next_switch One i d t ≡ Ok n → (s : SwitchEntry) × (switch_of One i (part_names d) t ≡ Ok s) × (record d { switches = d.switches ++ s ∷ [] } ≡ n)
unfolding next_switch
switch_step i d t n well =
    let a = bind_ok (switch_of One i (part_names d) t) _ n well in
    (a.0, a.1, ok_same (record d { switches = d.switches ++ a.0 ∷ [] }) n a.2)

switch_added : (i : ℕ) (e : Declaration) (t : Members) (s : SwitchEntry) → switch_of Two i (part_names e) t ≡ Ok s → next_switch Two i e t ≡ Ok (record e { switches = e.switches ++ s ∷ [] })
unfolding next_switch
switch_added i e t s read = rw read refl

pub walk_switches : (k : ℕ) (d e : Declaration) (ts : List Members) (n : Declaration) → Alike d e → walk_from (next_switch One) k d ts ≡ Ok n → Merges k e ts n
walk_switches k d e [] n alike well = record { tables = []; next = e; merged = refl; as_many = refl; walked = refl; alike = subst (λ x. Alike x e) (ok_same d n well) alike }
walk_switches k d e (t ∷ ts) n alike well =
    let a = bind_ok (next_switch One k d t) (λ x. walk_from (next_switch One) (suc k) x ts) n well in
    let s = switch_step k d t a.0 a.1 in
    let m = merged_read k (part_names d) t s.0 s.1 in
    let next : Declaration = record e { switches = e.switches ++ m.entry ∷ [] } in
    let read : switch_of Two k (part_names e) m.table ≡ Ok m.entry = rw (same_parts d e alike) m.read in
    let grown : Alike (record d { switches = d.switches ++ s.0 ∷ [] }) next = record { nodes = alike.nodes; links = alike.links; flows = alike.flows; switches = one_switch_more d.switches e.switches s.0 m.entry alike.switches (record { name = m.name; arbitration = m.arbitration; looks = m.looks }) } in
    let rest = walk_switches (suc k) a.0 next ts n (subst (λ x. Alike x next) s.2 grown) a.2 in
    record {
      tables = m.table ∷ rest.tables;
      next = rest.next;
      merged = rw (m.merged, rest.merged) refl;
      as_many = ap suc rest.as_many;
      walked = rw (switch_added k e m.table m.entry read) rest.walked;
      alike = rest.alike;
    }
