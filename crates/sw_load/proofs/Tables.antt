-- A document is read as its tables are, one after another.
use Rattle.std.proofs.Common.{◌≡◌, ◌≤◌, ◌<◌, ℕ, List, [], Ok, Some, ap, get_or, length, map, refl, subst, sym, take, ◌∙◌}
use Rattle.std.proofs.lemmas.Bool.{le-leb}
use Rattle.std.proofs.lemmas.List.{length-map, take_all}
use Rattle.toml.specs.Data.{Members}
use Rattle.sw_load.specs.Cargo.{bytes_of, cargo_of, without_spaces}
use Rattle.sw_load.specs.Load.{LoadEntry, cargo_at, document_keys, load_of, next_packet}
use Rattle.sw_config.specs.Entries.{Declaration}
use Rattle.sw_text.proofs.Walks.{walk_done, walk_fails}
use Rattle.sw_text.specs.Gives.{FileFault, Fails, walk}
use Rattle.sw_text.specs.Table.{only_known, tables_or_none, text_at}
use Rattle.sw_text.specs.declared.keys.Key.TheVariants.{Cargo, Packet}
use Rattle.sw_text.specs.declared.keys.Section.{Section}
use Rattle.sw_text.specs.declared.keys.Section.TheVariants as section

module _ {X : Type 0} (f : X → Members) (d : Declaration) (s : Section) (ms : Members) (own xs : List X) (count : ℕ) (document : s ≡ section.Document)
    (listed : tables_or_none s Packet ms ≡ Ok (map f own)) (many : count ≡ length own) (few : count ≤ 4096) (same : xs ≡ own) where
  as_tables : only_known s document_keys ms ≡ Ok tt → load_of d ms ≡ walk (next_packet d) [] (map f xs)
  unfolding load_of
  as_tables known =
      let k = rw document at known in
      let t = rw document at listed in
      let long : length (map f own) ≤ 4096 = rw length-map (subst (λ n. n ≤ 4096) many few) in
      rw (k, t, le-leb (length (map f own)) 4096 long, same) refl

  pub load_read : (i : ℕ) (load : List LoadEntry) → only_known s document_keys ms ≡ Ok tt → walk (next_packet d) [] (take i (map f xs)) ≡ Ok load → length xs ≤ i
      → load_of d ms ≡ Ok load
  load_read i load known so_far past = as_tables known ∙ walk_done (next_packet d) f [] xs i load so_far past

  pub load_fails : (i : ℕ) (load : List LoadEntry) (x : X) (e : FileFault) → only_known s document_keys ms ≡ Ok tt → walk (next_packet d) [] (take i (map f xs)) ≡ Ok load
      → i < length xs → x ≡ get_or xs i x → Fails e (next_packet d i load (f x)) → Fails e (load_of d ms)
  load_fails i load x e known so_far lt at here = subst (Fails e) (sym (as_tables known)) (walk_fails (next_packet d) f [] xs i load x e so_far lt at here)

-- a packet's cargo is what its text without spaces spells
pub cargo_found : (index : ℕ) (s : Section) (ms : Members) (text spelled bare lent : List ℕ) (i : ℕ) (bytes : List ℕ) → s ≡ section.Packet index → text_at s Cargo ms ≡ Ok text → spelled ≡ text
    → bare ≡ without_spaces (take i spelled) → length spelled ≤ i → lent ≡ bare → Some bytes ≡ bytes_of lent → cargo_at index ms ≡ Ok bytes
unfolding cargo_at cargo_of
cargo_found index s ms text spelled bare lent i bytes place found same is past borrowed read =
    let at = rw place at found in
    let whole : bytes_of (without_spaces text) ≡ Some bytes =
    ap (λ l. bytes_of (without_spaces l)) (sym same ∙ sym (take_all i spelled past)) ∙ ap (λ l. bytes_of l) (sym is ∙ sym borrowed) ∙ sym read in
    rw (at, whole) refl
