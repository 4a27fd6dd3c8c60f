-- A loop over the tables of one of the document's lists.
use Rattle.std.proofs.Common.{◌≡◌, ℕ, ◌≤◌, ◌<◌, List, map, length, take, get_or, Result, Ok, Err, refl}
use Rattle.std.proofs.lemmas.Bool.{le-leb, lt-leb}
use Rattle.std.proofs.lemmas.List.{length-map}
use Rattle.std.specs.Prelude.{IsErrAnd}
use Rattle.toml.specs.Data.{Members}
use Rattle.sw_topo.specs.declared.fault.Limit.{Limit}
use Rattle.sw_topo.specs.declared.fault.TopoFault.TheVariants.{TooMany}
use Rattle.sw_text.specs.declared.keys.Key.{Key}
use Rattle.sw_text.specs.declared.keys.Section.{Section}
use Rattle.sw_text.specs.declared.keys.Section.TheVariants.{Document}
use Rattle.sw_text.specs.Table.{tables_or_none}
use Rattle.sw_text.specs.declared.fault.TextFault.{TextFault}
use Rattle.sw_text.specs.declared.fault.TextFault.TheVariants as fault
use Rattle.sw_text.specs.Gives.{◌>>=◌, FileFault, Fails, Gives, walk, each}
use Rattle.sw_text.proofs.Walks.{walk_fails, walk_done, each_fails}
use Rattle.sw_file.specs.Network.{entries}
use Rattle.sw_file.specs.Lists.{list_key, most_parts}

module _ {S X Y : Type 0} (step : ℕ → S → Y → Result S TextFault) (f : X → Y) (tables : Result (List Y) TextFault) (listed items : List X) (read : tables ≡ Ok (map f listed)) (same : items ≡ listed) where
  -- the entry at i fails, and with it the loop
  pub list_fails : {T : Type 0} (view : T → S) (s : S) (i : ℕ) (t : S) (x : X) (e : FileFault) (result : Result T FileFault) → IsErrAnd result (λ y. y ≡ e) → walk step s (take i (map f items)) ≡ Ok t → i < length items → x ≡ get_or items i x
      → Fails e (step i t (f x)) → Gives view result (tables >>= λ ts. walk step s ts)
  list_fails view s i t x e (Ok y) failed so_far lt at here = absurd failed
  list_fails view s i t x e (Err y) failed so_far lt at here = rw (failed, read, ← same) (walk_fails step f s items i t x e so_far lt at here)

  -- all entries were read
  pub list_done : (s : S) (i : ℕ) (t : S) → walk step s (take i (map f items)) ≡ Ok t → length items ≤ i → (tables >>= λ ts. walk step s ts) ≡ Ok t
  list_done s i t so_far le = rw (read, ← same) (walk_done step f s items i t so_far le)

-- the list of parts was read by its key and its limit
pub read_so : (limit : Limit) (key : Key) (most : ℕ) (ms : Members) (r : Result (List Members) TextFault) → key ≡ list_key limit → most ≡ most_parts limit
    → entries key most (fault.Topology (TooMany limit)) ms ≡ r → entries (list_key limit) (most_parts limit) (fault.Topology (TooMany limit)) ms ≡ r
read_so limit key most ms r key_is most_is read = rw (← key_is, ← most_is) read

module _ {A X Y : Type 0} (one : Y → Result A TextFault) (f : X → Y) (tables : Result (List Y) TextFault) (listed items : List X) (read : tables ≡ Ok (map f listed)) (same : items ≡ listed) where
  -- what is read of the entry at i fails, and with it what is read of each
  pub each_list_fails : {T : Type 0} (view : T → List A) (i : ℕ) (done : List A) (x : X) (e : FileFault) (result : Result T FileFault) → IsErrAnd result (λ y. y ≡ e) → each one (take i (map f items)) ≡ Ok done → i < length items → x ≡ get_or items i x
      → Fails e (one (f x)) → Gives view result (tables >>= λ ts. each one ts)
  each_list_fails view i done x e (Ok y) failed so_far lt at here = absurd failed
  each_list_fails view i done x e (Err y) failed so_far lt at here = rw (failed, read, ← same) (each_fails one f items i done x e so_far lt at here)

-- the tables of a list were read and counted
module _ {X : Type 0} (f : X → Members) (s : Section) (key : Key) (most : ℕ) (over : TextFault) (ms : Members) (items : List X) (count : ℕ) (same : s ≡ Document) (read : tables_or_none s key ms ≡ Ok (map f items)) (counted : count ≡ length items) where
  pub entries_read : count ≤ most → entries key most over ms ≡ Ok (map f items)
  entries_read few = rw (← same, read, length-map, ← counted, le-leb count most few) refl

  pub entries_over : most < count → entries key most over ms ≡ Err over
  entries_over many = rw (← same, read, length-map, ← counted, lt-leb count most many) refl
