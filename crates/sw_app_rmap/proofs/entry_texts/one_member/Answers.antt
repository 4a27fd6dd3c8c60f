use Rattle.std.proofs.Common.{rules, ◌≡◌, string_bytes, ◌∙◌, ap}
use Rattle.toml.specs.View.{members_view}
use Rattle.sw_text.specs.Keys.{key_text}
use Rattle.sw_app_rmap.proofs.Tables.{first_put}
use Rattle.sw_app_rmap.proofs.entry_texts.one_member.Goals as goal

pub returns : goal.returns
returns c =
    let named : string_bytes c.in_ok-name.name ≡ key_text c.args.key = search rules in
    let es : c.insert.new.self.entries ≡ _ = c.in_ok-insert.ensures.entries in
    ap members_view es ∙ first_put c.new-table.result.entries c.in_ok-name.name c.args.value (key_text c.args.key) c.new-table.ensures.empty named
