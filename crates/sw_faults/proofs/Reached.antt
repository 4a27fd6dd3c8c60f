-- The table at a place of a list, by what was read on the way to it.
use Rattle.std.proofs.Common.{◌≡◌, ◌∙◌, ℕ, List, None, Option, Some, ap, refl}
use Rattle.std.specs.Option.{option_and_then}
use Rattle.toml.specs.Data.{Data, Members, as_table, at, get_member}
use Rattle.sw_text.specs.declared.keys.Key.{Key}
use Rattle.sw_text.specs.Keys.{key_text}
use Rattle.sw_faults.specs.Lookup.{entry_of, inner_of}

at_once : (n : ℕ) (list : Option Data) → option_and_then (λ v. option_and_then as_table (at n v)) list ≡ option_and_then as_table (option_and_then (at n) list)
at_once n None = refl
at_once n (Some list) = refl

by_list : (key : Key) (n : ℕ) (table : Option Members)
    → option_and_then (λ v. option_and_then as_table (at n v)) (option_and_then (get_member (key_text key)) table) ≡ option_and_then (entry_of key n) table
by_list key n None = refl
by_list key n (Some table) = at_once n (get_member (key_text key) table)

-- where there is this list, or none
pub entry_by : (key : Key) (n : ℕ) (name : List ℕ) (table : Option Members) (list : Option Data) (entry : Option Members) → name ≡ key_text key
    → list ≡ option_and_then (get_member name) table → entry ≡ option_and_then (λ v. option_and_then as_table (at n v)) list
    → entry ≡ option_and_then (entry_of key n) table
entry_by key n name table list entry named read is =
    is ∙ ap (option_and_then (λ v. option_and_then as_table (at n v))) (read ∙ ap (λ k. option_and_then (get_member k) table) named) ∙ by_list key n table

by_member : (key : Key) (table : Option Members) → option_and_then as_table (option_and_then (get_member (key_text key)) table) ≡ option_and_then (inner_of key) table
by_member key None = refl
by_member key (Some table) = refl

-- the same of the table at a key
pub inner_by : (key : Key) (name : List ℕ) (table : Option Members) (value : Option Data) (inner : Option Members) → name ≡ key_text key
    → value ≡ option_and_then (get_member name) table → inner ≡ option_and_then as_table value → inner ≡ option_and_then (inner_of key) table
inner_by key name table value inner named read is =
    is ∙ ap (option_and_then as_table) (read ∙ ap (λ k. option_and_then (get_member k) table) named) ∙ by_member key table
