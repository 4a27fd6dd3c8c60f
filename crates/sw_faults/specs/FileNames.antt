-- The names of the entries of a document.
use Rattle.std.specs.Prelude.{ℕ, List, flat_map, option_to_list}
use Rattle.toml.specs.Data.{Members}
use Rattle.sw_text.specs.declared.keys.Key.{Key}
use Rattle.sw_text.specs.declared.keys.Key.TheVariants.{Name}
use Rattle.sw_faults.specs.Entries.{tables_of, text_in}

-- the names in tables, in their order
abbrev pub each_name : List Members → List (List ℕ)
each_name tables = flat_map (λ t. option_to_list (text_in Name t)) tables

-- the names of a list of the document
abbrev pub names_of : Key → Members → List (List ℕ)
names_of list document = each_name (tables_of list document)
