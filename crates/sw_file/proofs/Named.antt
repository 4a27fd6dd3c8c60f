-- The names of a network that is read.
use Rattle.std.proofs.Common.{◌≡◌, ◌≢◌, ℕ, true, false, List, map, length, get_or, All, sym, ap, ◌∙◌}
use Rattle.std.specs.Prelude.{nat_le}
use Rattle.std.specs.List.{list_all}
use Rattle.std.proofs.lemmas.Bool.{false≢true}
use Rattle.std.proofs.lemmas.List.Folds.{list_all_at}
use Rattle.std.proofs.lemmas.List.Elements.{All-append, All-map, All-weaker}
use Rattle.toml.specs.Data.{Members}
use Rattle.sw_config.specs.Entries.{NodeEntry, SwitchEntry, FlowEntry, Declaration}
use Rattle.sw_config.proofs.FlowLaws.{distinct_names}
use Rattle.sw_text.specs.declared.keys.Version.{Version}
use Rattle.sw_text.specs.Names.{is_name_byte, is_name}
use Rattle.sw_file.specs.Tables.{IsNodeTable, IsSwitchTable, IsFlowTable, IsNetworkTable}
use Rattle.sw_file.specs.Laws.{HasNames, ReadNamesAreNames}
use Rattle.sw_file.proofs.Documents.{networks_are_read_exactly}
use Rattle.sw_file.proofs.Valid.{of_each, network_valid}
use Rattle.sw_topo.proofs.Lists.{third}

abbrev IsName : List ℕ → Type 0
IsName name = is_name name ≡ true

-- no name has a plus sign
without_plus : (name : List ℕ) → IsName name → All (λ b. b ≢ 43) name
without_plus name is = λ k d lt plus.
    let fails : is_name_byte (get_or name k d) ≡ false = ap is_name_byte plus in
    let spelled : list_all is_name_byte name ≡ true = third (nat_le 1 (length name)) (nat_le (length name) 32) (list_all is_name_byte name) is in
    false≢true (sym (list_all_at is_name_byte name k d lt fails) ∙ spelled)

has_names : (version : Version) (ms : Members) (d : Declaration) → IsNetworkTable version ms d → HasNames d
has_names version ms d is =
    let nodes : All (λ (n : NodeEntry). IsName n.name) d.nodes = of_each (IsNodeTable version) (λ n. IsName n.name) (λ t n table. table.named.form) _ ms d.nodes is.nodes in
    let switches : All (λ (s : SwitchEntry). IsName s.name) d.switches = of_each (IsSwitchTable version) (λ s. IsName s.name) (λ t s table. table.named.form) _ ms d.switches is.switches in
    let flows : All (λ (f : FlowEntry). IsName f.name) d.flows = of_each (IsFlowTable version d.nodes) (λ f. IsName f.name) (λ t f table. table.named.form) _ ms d.flows is.flows in
    record {
      parts = All-append IsName (map (λ (n : NodeEntry). n.name) d.nodes) (map (λ (s : SwitchEntry). s.name) d.switches)
          (All-map IsName (λ (n : NodeEntry). n.name) d.nodes nodes) (All-map IsName (λ (s : SwitchEntry). s.name) d.switches switches);
      flows = All-map IsName (λ (f : FlowEntry). f.name) d.flows flows;
      apart = distinct_names d (network_valid version ms d is)
          (All-weaker (λ (f : FlowEntry). IsName f.name) (λ (f : FlowEntry). All (λ b. b ≢ 43) f.name) (λ f is. without_plus f.name is) d.flows flows);
    }

pub read_names_are_names : ReadNamesAreNames
read_names_are_names bytes d h =
    let text = (networks_are_read_exactly bytes d).0 h in
    has_names text.version text.table d text.network
