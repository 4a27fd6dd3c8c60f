use Rattle.std.proofs.Common.{rules, ◌≡◌, string_bytes, ◌∙◌, ap, codes}
use Rattle.hex.specs.Hex.{encode_upper}
use Rattle.toml.specs.Data.{Data, member, no_members, string}
use Rattle.toml.specs.View.{members_view}
use Rattle.toml.proofs.Views.{view-String}
use Rattle.sw_app_rmap.proofs.Tables.{flow_put}
use Rattle.sw_app_rmap.proofs.entry_texts.entry_table.Goals as goal

pub returns : goal.returns
returns c =
    let named : string_bytes c.in_ok-key.key ≡ codes "flow" = search rules in
    let pairs : Data = string (encode_upper c.args.cargo.now) in
    let digits : string_bytes c.in_ok-pairs.pairs ≡ encode_upper c.args.cargo.now = search rules in
    let text : string_bytes c.in_ok-value.value ≡ c.args.name.now = search rules in
    let es : c.insert.new.self.entries ≡ _ = c.in_ok-insert.ensures.entries in
    ap members_view es
    ∙ flow_put c.in_ok-table.table.entries c.in_ok-key.key _ pairs (c.in_ok-table.ensures ∙ ap (λ (x : Data). member (codes "cargo") x no_members) (view-String c.in_ok-pairs.pairs ∙ ap string digits)) named
    ∙ ap (λ (x : Data). member (codes "cargo") pairs (member (codes "flow") x no_members)) (view-String c.in_ok-value.value ∙ ap string text)
