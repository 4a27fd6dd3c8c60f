use Rattle.std.proofs.Common.{◌≡◌, true, false, refl, ap, ◌∙◌, sym}
use Rattle.std.specs.Prelude.{is_some}
use Rattle.toml.specs.Data.{array, get_member}
use Rattle.toml.specs.declared.value.Value.{Array}
use Rattle.toml.specs.View.{view, items_of, table_view}
use Rattle.toml.proofs.Views.{view-Array}
use Rattle.sw_text.specs.Keys.{key_text}
use Rattle.sw_file.specs.Tree.{array_of}
use Rattle.sw_file.proofs.Puts.{contains}
use Rattle.sw_file.proofs.tree.put_tables.Goals as goal

pub returns : goal.returns
returns c = λ listed is.
    let there : is_some (get_member (key_text c.args.key) (table_view c.args.table.now)) ≡ true = rw (← c.text.ensures) (sym (sym c.if-not-contains_key.false ∙ c.contains_key.ensures ∙ contains c.text.result.now c.args.table.now.entries)) in
    let value : view (Array c.args.tables) ≡ array_of listed = view-Array c.args.tables ∙ ap (λ ds. array (items_of ds)) is in
    rw there (rw value at c.put.ensures)

pub returns-then-not-contains_key : goal.returns-then-not-contains_key
returns-then-not-contains_key c = λ listed is.
    let absent : is_some (get_member (key_text c.args.key) (table_view c.args.table.now)) ≡ false = rw (← c.text.ensures) (sym (sym c.if-not-contains_key.true ∙ c.contains_key.ensures ∙ contains c.text.result.now c.args.table.now.entries)) in
    rw absent refl
