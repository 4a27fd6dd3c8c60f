use Rattle.std.proofs.Common.{rules, ◌≡◌, string_bytes, ◌∙◌, ap}
use Rattle.toml.specs.View.{view, table_view, members_view}
use Rattle.sw_text.specs.Keys.{key_text}
use Rattle.sw_file.specs.Tree.{put}
use Rattle.sw_file.proofs.Puts.{inserted}
use Rattle.sw_file.proofs.tree.put.Goals as goal

pub returns : goal.returns
returns c =
    let named : string_bytes c.in_ok-name.name ≡ key_text c.args.key = search rules in
    let es : c.insert.new.self.entries ≡ _ = c.in_ok-insert.ensures.entries in
    ap members_view es ∙ inserted c.args.table.now.entries c.in_ok-name.name c.args.value ∙ ap (λ name. put name (view c.args.value) (table_view c.args.table.now)) named
