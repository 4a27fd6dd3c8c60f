-- A network of version 2 is one of version 3 by its number alone.
use Rattle.std.proofs.Common.{◌≡◌, false, pos, [], length, nat_cmp, refl, sym, ◌∙◌, arith, inl, inr, subst}
use Rattle.std.specs.Ordering.{is_eq}
use Rattle.std.specs.Cmp.Lexicographic.{slice_cmp}
use Rattle.toml.specs.Data.{Data, integer, Members, get_member}
use Rattle.sw_config.specs.Entries.{Declaration, part_names}
use Rattle.sw_text.specs.declared.keys.Key.{Key}
use Rattle.sw_text.specs.declared.keys.Key.TheVariants.{Version as VersionKey, Node, Switch, Link, Flow}
use Rattle.sw_text.specs.declared.keys.Version.TheVariants.{Two, Three}
use Rattle.sw_text.specs.Keys.{key_text}
use Rattle.sw_text.specs.SectionKeys.{document_keys}
use Rattle.sw_file.specs.Values.{HasOr}
use Rattle.sw_file.specs.Tables.{IsNodeTable, IsSwitchTable, IsLinkTable, IsFlowTable, IsNetworkTable}
use Rattle.sw_file.specs.Laws.{as_version_three, VersionTwoIsKept}
use Rattle.sw_file.proofs.PutMembers.{get_other, get_same, only_put}
use Rattle.sw_file.proofs.RowEntries.{ok_same}
use Rattle.sw_file.proofs.Documents.{is_network, version_is, document_is}
use Rattle.sw_file.proofs.Raised.{three_after_two, each_table, node_raised, switch_raised, link_raised, flow_raised}

-- what stands at a key stands there in another table, where it has the same member there
moved : {A : Type 0} (Is : Data → A → Type 0) (default : A) (key : Key) (ms ns : Members) (a : A) → get_member (key_text key) ns ≡ get_member (key_text key) ms → HasOr Is default key ms a → HasOr Is default key ns a
moved Is default key ms ns a same (inl h) = inl (record { value = h.value; stands = same ∙ h.stands; is = h.is })
moved Is default key ms ns a same (inr out) = inr (same ∙ out.0, out.1)

-- a member that is not the version stays
kept : (ms : Members) (key : Key) → is_eq (slice_cmp nat_cmp (key_text key) (key_text VersionKey)) ≡ false → get_member (key_text key) (as_version_three ms) ≡ get_member (key_text key) ms
kept ms key off = get_other (key_text key) (key_text VersionKey) (integer (pos 3)) ms off

-- the words of the document, with the new number
renumbered : (ms : Members) (d : Declaration) → IsNetworkTable Two ms d → IsNetworkTable Three (as_version_three ms) d
renumbered ms d is =
    let ns = as_version_three ms in
    let later = three_after_two in
    record {
      keys = only_put document_keys (key_text VersionKey) (integer (pos 3)) ms refl is.keys;
      versioned = record { value = integer (pos 3); stands = get_same (key_text VersionKey) (integer (pos 3)) ms; is = record { whole = refl; least = omega arith; most = omega arith } };
      nodes = moved _ [] Node ms ns d.nodes (kept ms Node refl) (each_table (IsNodeTable Two) (IsNodeTable Three) (node_raised Two Three later) Node ms d.nodes is.nodes);
      switches = moved _ [] Switch ms ns d.switches (kept ms Switch refl) (each_table (IsSwitchTable Two) (IsSwitchTable Three) (switch_raised Two Three later) Switch ms d.switches is.switches);
      links = moved _ [] Link ms ns d.links (kept ms Link refl)
          (each_table (IsLinkTable Two (length d.nodes) (part_names d)) (IsLinkTable Three (length d.nodes) (part_names d)) (link_raised Two Three later (length d.nodes) (part_names d)) Link ms d.links is.links);
      flows = moved _ [] Flow ms ns d.flows (kept ms Flow refl) (each_table (IsFlowTable Two d.nodes) (IsFlowTable Three d.nodes) (flow_raised Two Three later d.nodes) Flow ms d.flows is.flows);
      few_nodes = is.few_nodes;
      few_switches = is.few_switches;
      few_links = is.few_links;
      few_flows = is.few_flows;
      parts_named = is.parts_named;
      flows_named = is.flows_named;
      joined = is.joined;
    }

pub version_two_is_kept : VersionTwoIsKept
version_two_is_kept ms d versioned declared =
    let read = is_network ms d declared in
    let two : read.0 ≡ Two = ok_same read.0 Two (sym (version_is ms read.0 read.1.keys read.1.versioned) ∙ versioned) in
    let is = renumbered ms d (subst (λ v. IsNetworkTable v ms d) two read.1) in
    (version_is (as_version_three ms) Three is.keys is.versioned, document_is Three (as_version_three ms) d is)
