-- Tests of a list, as a loop goes along it.
use Rattle.std.proofs.Common.{◌≡◌, ◌∙◌, ◌+◌, ◌<◌, ◌≤◌, ℕ, List, Bool, true, false, get_or, length, take, ap, sym, ◌||◌, ◌&&◌}
use Rattle.std.specs.Str.{bytes_eq}
use Rattle.std.specs.List.{list_all}
use Rattle.std.proofs.lemmas.List.{take_all}
use Rattle.std.proofs.lemmas.List.Folds.{list_any_at, list_any_more, list_all_at, list_all_more}
use Rattle.sw_text.specs.declared.keys.Key.{Key}
use Rattle.sw_text.specs.Keys.{key_text}
use Rattle.sw_text.specs.Names.{is_name_byte}
use Rattle.sw_text.specs.Table.{is_known}

module _ (known : List Key) (name : List ℕ) (i : ℕ) where
  -- the key at i is written so, or is not
  module _ (d : Key) (text : List ℕ) (b : Bool) (lt : i < length known) (is : text ≡ key_text (get_or known i d)) (same : b ≡ bytes_eq text name) where
    test_is : bytes_eq (key_text (get_or known i d)) name ≡ b
    test_is = ap (λ t. bytes_eq t name) (sym is) ∙ sym same

    pub key_is : b ≡ true → true ≡ is_known known name
    key_is met = sym (list_any_at (λ k. bytes_eq (key_text k) name) known i d lt (test_is ∙ met))

    pub other_key : is_known (take i known) name ≡ false → b ≡ false → is_known (take (i + 1) known) name ≡ false
    other_key none missed = list_any_more (λ k. bytes_eq (key_text k) name) known i d lt ∙ (λ t. none t || (test_is ∙ missed) t)

  pub no_key_is : length known ≤ i → is_known (take i known) name ≡ false → false ≡ is_known known name
  no_key_is past none = sym none ∙ ap (λ ks. is_known ks name) (take_all i known past)

module _ (text bytes : List ℕ) (same : bytes ≡ text) (i : ℕ) where
  -- the byte at i may stand in a name, or may not
  module _ (d : ℕ) (b : Bool) (lt : i < length bytes) (is : b ≡ is_name_byte (get_or bytes i d)) where
    pub byte_passes : list_all is_name_byte (take i bytes) ≡ true → b ≡ true → list_all is_name_byte (take (i + 1) bytes) ≡ true
    byte_passes so_far passes = list_all_more is_name_byte bytes i d lt ∙ (λ t. so_far t && (sym is ∙ passes) t)

    pub byte_fails : b ≡ false → false ≡ list_all is_name_byte text
    byte_fails fails = sym (list_all_at is_name_byte bytes i d lt (sym is ∙ fails)) ∙ ap (list_all is_name_byte) same

  pub bytes_pass : length bytes ≤ i → list_all is_name_byte (take i bytes) ≡ true → true ≡ list_all is_name_byte text
  bytes_pass past so_far = sym so_far ∙ ap (list_all is_name_byte) (take_all i bytes past ∙ same)
