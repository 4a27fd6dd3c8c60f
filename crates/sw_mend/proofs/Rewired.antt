-- The network in which a node is split: where it can't be one, and its parts.
use Rattle.std.proofs.Common.{◌≡◌, ℕ, ◌<◌, ◌≤◌, Bool, true, List, [], ◌∷◌, ◌++◌, length, ap, arith, sym, ◌∙◌, ◌+◌, Option, append-nil, false, map, None}
use Rattle.std.specs.List.{list_any}
use Rattle.std.specs.Str.{bytes_eq}
use Rattle.std.proofs.lemmas.Bool.{false≢true, or_parts}
use Rattle.std.proofs.lemmas.List.Folds.{list_any-append}
use Rattle.sw_rmap.specs.declared.config.TargetConfig.{TargetConfig}
use Rattle.sw_topo.proofs.Converse.{no_fault}
use Rattle.sw_config.specs.Entries.{Declaration, NodeEntry, SwitchEntry, empty, part_names, target_of, wiring_of}
use Rattle.sw_config.specs.Valid.{IsValid}
use Rattle.sw_mend.specs.Changes.{by_number, made_at, switch_after_all}
use Rattle.sw_mend.specs.Splits.{own_link, split, target_part}
use Rattle.sw_mend.specs.declared.change.TargetLink.{TargetLink}
use Rattle.sw_mend.proofs.AfterAll.{same_tables}
use Rattle.sw_mend.proofs.Named.{IsOwnName, one_node_more, own_name_absent, own_node}

-- its name is taken
pub taken : (d : Declaration) (link : TargetLink) (name : List ℕ) (b : Bool) → link.node < length d.nodes → IsOwnName d.nodes link.node name
    → b ≡ list_any (bytes_eq name) (part_names d) → b ≡ true → IsValid (split d link) → ⊥
taken d link name b lt named is found valid = false≢true (sym (own_name_absent d link.node name lt named valid.parts_named) ∙ sym is ∙ found)

-- there are as many nodes as there may be
pub full : (d : Declaration) (link : TargetLink) → link.node < length d.nodes → 1024 ≤ length d.nodes → IsValid (split d link) → ⊥
full d link lt many valid =
    let few : length (d.nodes ++ made_at target_part d.nodes link.node) ≤ 1024 = ((no_fault (wiring_of (split d link)) valid.sound.wiring).0 valid.sound.faultless).few_nodes in
    omega (arith, few, many, one_node_more d.nodes link.node lt)

-- the nodes with the own one
pub own_node_built : (d old now : Declaration) (node : ℕ) (name : List ℕ) (target : Option TargetConfig) → node < length d.nodes → IsOwnName d.nodes node name
    → target ≡ target_of d.nodes node → old ≡ record empty { nodes = d.nodes } → now ≡ record old { nodes = old.nodes ++ record { name = name; target = target; outstanding = None } ∷ [] }
    → now ≡ record empty { nodes = d.nodes ++ made_at target_part d.nodes node }
own_node_built d old now node name target lt named answers before more =
    more ∙ ap (λ (e : Declaration). record e { nodes = e.nodes ++ record { name = name; target = target; outstanding = None } ∷ [] }) before
    ∙ ap (λ (l : List NodeEntry). record empty { nodes = d.nodes ++ l }) (sym (own_node d.nodes node name target lt named answers))

-- those alone
pub only_nodes : (now : Declaration) (nodes : List NodeEntry) → now ≡ record empty { nodes = nodes } → now ≡ record empty { nodes = now.nodes }
only_nodes now nodes is = is ∙ ap (λ (l : List NodeEntry). record empty { nodes = l }) (sym (ap (λ (e : Declaration). e.nodes) is))

-- a name of no part is a name of no node
pub no_node_named : (d now : Declaration) (name : List ℕ) → now ≡ record empty { nodes = d.nodes } → list_any (bytes_eq name) (part_names d) ≡ false
    → list_any (bytes_eq name) (part_names now) ≡ false
no_node_named d now name is absent =
    let nodes : List (List ℕ) = map (λ (n : NodeEntry). n.name) d.nodes in
    let switches : List (List ℕ) = map (λ (s : SwitchEntry). s.name) d.switches in
    let first = or_parts (list_any (bytes_eq name) nodes) (list_any (bytes_eq name) switches) (sym (list_any-append (bytes_eq name) nodes switches) ∙ absent) in
    ap (λ (e : Declaration). list_any (bytes_eq name) (part_names e)) is ∙ ap (list_any (bytes_eq name)) (append-nil nodes) ∙ first.0

pub count_with_own : (d with_nodes : Declaration) (nodes : List NodeEntry) (node : ℕ) → node < length d.nodes
    → with_nodes ≡ record empty { nodes = d.nodes ++ made_at target_part d.nodes node } → nodes ≡ with_nodes.nodes → length nodes ≡ length d.nodes + 1
count_with_own d with_nodes nodes node lt is same = ap length (same ∙ ap (λ (e : Declaration). e.nodes) is) ∙ one_node_more d.nodes node lt

-- the switches as they were
pub same_switches : (d now : Declaration) (nodes : List NodeEntry) → now ≡ record empty { nodes = nodes; switches = by_number (switch_after_all []) 0 d.switches }
    → now ≡ record empty { nodes = nodes; switches = d.switches }
same_switches d now nodes is = is ∙ ap (λ (l : List SwitchEntry). record empty { nodes = nodes; switches = l }) (same_tables 0 d.switches)

-- all parts, one after the other
pub parts_split : (d with_nodes with_switches with_links now : Declaration) (link : TargetLink) (node : ℕ)
    → with_nodes ≡ record empty { nodes = d.nodes ++ made_at target_part d.nodes link.node }
    → with_switches ≡ record empty { nodes = with_nodes.nodes; switches = by_number (switch_after_all []) 0 d.switches }
    → with_links ≡ record with_switches { links = d.links } → node ≡ length d.nodes
    → now ≡ record with_links { links = with_links.links ++ own_link node link ∷ [] } → now ≡ record (split d link) { flows = [] }
parts_split d with_nodes with_switches with_links now link node nodes switches links is last =
    let all : with_links ≡ record empty { nodes = d.nodes ++ made_at target_part d.nodes link.node; switches = d.switches; links = d.links } =
    links ∙ ap (λ (e : Declaration). record e { links = d.links }) (same_switches d with_switches with_nodes.nodes switches
    ∙ ap (λ (e : Declaration). record empty { nodes = e.nodes; switches = d.switches }) nodes) in
    last ∙ (λ t. record (all t) { links = (all t).links ++ own_link (is t) link ∷ [] })
