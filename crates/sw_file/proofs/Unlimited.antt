-- A network of version 1 or 2 has no limits on unanswered commands.
use Rattle.std.proofs.Common.{◌≡◌, ◌≢◌, ◌∙◌, ℕ, false, List, Option, Some, None, ap, get_or, refl, subst, sym}
use Rattle.std.specs.Prelude.{is_some}
use Rattle.std.proofs.lemmas.Bool.{false≢true}
use Rattle.std.proofs.lemmas.Option.{slice_get-get_or}
use Rattle.toml.specs.Data.{Members}
use Rattle.sw_config.specs.Entries.{NodeEntry, ReplyEntry, FlowEntry, Declaration, all_flows}
use Rattle.sw_config.specs.Limits.{HasNoLimits, flow_outstanding}
use Rattle.sw_config.proofs.Limits.{unlimited_number}
use Rattle.sw_text.specs.declared.keys.Key.{Key}
use Rattle.sw_text.specs.declared.keys.Key.TheVariants.{Node, Flow, Reply, Outstanding}
use Rattle.sw_text.specs.declared.keys.Version.{Version}
use Rattle.sw_text.specs.declared.keys.Version.TheVariants.{One, Two, Three}
use Rattle.sw_text.specs.KeyLaws.{HasOnly}
use Rattle.sw_text.specs.Keys.{key_text}
use Rattle.sw_text.specs.Table.{is_known}
use Rattle.sw_text.specs.SectionKeys.{node_keys, reply_keys}
use Rattle.sw_file.specs.Values.{HasIfAny, IsTableOf}
use Rattle.sw_file.specs.Tables.{HasOutstanding, IsFlowTable, IsNodeTable, IsReplyTable, IsNetworkTable}
use Rattle.sw_file.specs.Laws.{OlderFilesAreUnlimited}
use Rattle.sw_file.proofs.Documents.{is_network, version_is}
use Rattle.sw_file.proofs.RowEntries.{ok_same}
use Rattle.sw_file.proofs.Valid.{of_each}

-- nothing stands at a key that a table may not have
never : (keys : List Key) (ms : Members) (o : Option ℕ) → is_known keys (key_text Outstanding) ≡ false → HasOnly keys ms → HasOutstanding ms o → o ≡ None
never keys ms None unknown only has = refl
never keys ms (Some n) unknown only has = absurd (false≢true (sym unknown ∙ only (key_text Outstanding) (ap is_some has.stands)))

node_unknown : (version : Version) → version ≢ Three → is_known (node_keys version) (key_text Outstanding) ≡ false
node_unknown One old = refl
node_unknown Two old = refl
node_unknown Three old = absurd (old refl)

reply_unknown : (version : Version) → version ≢ Three → is_known (reply_keys version) (key_text Outstanding) ≡ false
reply_unknown One old = refl
reply_unknown Two old = refl
reply_unknown Three old = absurd (old refl)

module _ (version : Version) (old : version ≢ Three) where
  node : (ms : Members) (n : NodeEntry) → IsNodeTable version ms n → n.outstanding ≡ None
  node ms n is = never (node_keys version) ms n.outstanding (node_unknown version old) is.keys is.outstanding

  flow : (nodes : List NodeEntry) (ms : Members) (f : FlowEntry) → IsFlowTable version nodes ms f → flow_outstanding f ≡ None
  flow nodes ms f is = by f.reply is.reply
    where
      by : (o : Option ReplyEntry) → HasIfAny (IsTableOf (IsReplyTable version)) Reply ms o → flow_outstanding (record f { reply = o }) ≡ None
      by None has = refl
      by (Some r) has = let table = has.is.is in never (reply_keys version) has.is.members r.outstanding (reply_unknown version old) table.keys table.outstanding

  none : (ms : Members) (d : Declaration) → IsNetworkTable version ms d → HasNoLimits d
  none ms d is = record {
    nodes = of_each (IsNodeTable version) (λ (n : NodeEntry). n.outstanding ≡ None) node Node ms d.nodes is.nodes;
    flows = of_each (IsFlowTable version d.nodes) (λ (f : FlowEntry). flow_outstanding f ≡ None) (flow d.nodes) Flow ms d.flows is.flows;
  }

pub older_files_are_unlimited : OlderFilesAreUnlimited
older_files_are_unlimited ms version d versioned old declared =
    let read = is_network ms d declared in
    let same : read.0 ≡ version = ok_same read.0 version (sym (version_is ms read.0 read.1.keys read.1.versioned) ∙ versioned) in
    let none = none version old ms d (subst (λ v. IsNetworkTable v ms d) same read.1) in
    record { none = none; flows = λ i f lt. unlimited_number d none i (get_or (all_flows d) i f) (slice_get-get_or (all_flows d) i f lt) }
