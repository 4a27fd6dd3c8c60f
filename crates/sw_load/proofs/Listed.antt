-- A load that was read has an entry for each table, and declared packets.
use Rattle.std.proofs.Common.{arith, zero, suc, ◌≡◌, ◌+◌, ◌∙◌, ◌++◌, ◌∷◌, [], ℕ, Bool, true, false, List, All, take, refl, sym, ap, subst, append_assoc}
use Rattle.std.specs.Prelude.{Err, Ok, Result, Some, slice_get, if◌then◌else◌, nat_le, length}
use Rattle.std.proofs.lemmas.List.{append-nil}
use Rattle.std.proofs.lemmas.List.Elements.{All-append, All-nil}
use Rattle.toml.specs.Data.{Members}
use Rattle.sw_char.specs.declared.nchar.End.{End}
use Rattle.sw_load.specs.Laws.{IsListedBy, ReadsEachEntry, AreDeclared, ListedAreDeclared}
use Rattle.sw_machine.proofs.Declared.{declared_packets_pass}
use Rattle.sw_text.specs.SectionKeys.{packet_keys}
use Rattle.sw_load.specs.Load.{LoadEntry, cargo_at, count_at, document_keys, flow_at, load_of, marker_at, next_packet, packet_count, packet_of}
use Rattle.sw_machine.specs.DeclaredPackets.{IsDeclaredPacket, is_declared_packet}
use Rattle.sw_config.specs.Entries.{Declaration}
use Rattle.sw_text.specs.Document.{document_of}
use Rattle.sw_text.specs.Table.{only_known, tables_or_none}
use Rattle.sw_text.specs.declared.fault.KeyFault.TheVariants.{OutOfRange}
use Rattle.sw_text.specs.declared.fault.TextFault.TheVariants as fault
use Rattle.sw_text.specs.declared.keys.Key.TheVariants.{Packet}
use Rattle.sw_text.specs.declared.keys.Section.TheVariants as section
use Rattle.sw_text.specs.Gives.{◌>>=◌, walk_from}
use Rattle.sw_text.specs.declared.fault.TextFault.{TextFault}
use Rattle.sw_text.proofs.Results.{bind_ok, test_passed}

if_chosen : {A : Type 0} (test : Bool) (r : Result A TextFault) (b : A) (e : TextFault) → (if test then r else Err e) ≡ Ok b → r ≡ Ok b
if_chosen true r b e h = h
if_chosen false r b e h = absurd cc

only : {X : Type 0} (P : X → Type 0) (x : X) → P x → All P (x ∷ [])
only P x p zero d lt = p
only P x p (suc k) d lt = absurd (omega arith)

module _ (d : Declaration) where
  abbrev entry : ℕ → ℕ → List ℕ → End → ℕ → Result LoadEntry TextFault
  entry i flow cargo marker count = if is_declared_packet d flow cargo then Ok (record { flow = flow; cargo = cargo; marker = marker; count = count }) else Err (fault.NotInFlow i)

  abbrev from_marker : ℕ → List LoadEntry → Members → ℕ → List ℕ → End → Result LoadEntry TextFault
  from_marker i load ms flow cargo marker = count_at i (packet_count load) ms >>= λ count. entry i flow cargo marker count

  abbrev from_cargo : ℕ → List LoadEntry → Members → ℕ → List ℕ → Result LoadEntry TextFault
  from_cargo i load ms flow cargo = marker_at i ms >>= λ marker. from_marker i load ms flow cargo marker

  abbrev from_flow : ℕ → List LoadEntry → Members → ℕ → Result LoadEntry TextFault
  from_flow i load ms flow = cargo_at i ms >>= λ cargo. from_cargo i load ms flow cargo

  -- a packet's cargo is what its table has there, and the packet is declared
  pub one_is_read : (i : ℕ) (load : List LoadEntry) (ms : Members) (p : LoadEntry) → packet_of i d load ms ≡ Ok p
      → (cargo_at i ms ≡ Ok p.cargo) × IsDeclaredPacket d p.flow p.cargo
  unfolding packet_of
  one_is_read i load ms p h =
      let a = bind_ok (only_known (section.Packet i) packet_keys ms) (λ known. flow_at i d.flows ms >>= λ flow. from_flow i load ms flow) p h in
      let flow = bind_ok (flow_at i d.flows ms) (λ flow. from_flow i load ms flow) p a.2 in
      let cargo = bind_ok (cargo_at i ms) (λ cargo. from_cargo i load ms flow.0 cargo) p flow.2 in
      let marker = bind_ok (marker_at i ms) (λ marker. from_marker i load ms flow.0 cargo.0 marker) p cargo.2 in
      let count = bind_ok (count_at i (packet_count load) ms) (λ count. entry i flow.0 cargo.0 marker.0 count) p marker.2 in
      let last = test_passed (is_declared_packet d flow.0 cargo.0) (record { flow = flow.0; cargo = cargo.0; marker = marker.0; count = count.0 }) p (fault.NotInFlow i) count.2 in
      let is = (declared_packets_pass d flow.0 cargo.0).0 last.0 in
      subst (λ (q : LoadEntry). (cargo_at i ms ≡ Ok q.cargo) × IsDeclaredPacket d q.flow q.cargo) last.1 (cargo.1, is)

  next_is_declared : (i : ℕ) (load : List LoadEntry) (ms : Members) (more : List LoadEntry) → next_packet d i load ms ≡ Ok more → AreDeclared d load → AreDeclared d more
  unfolding next_packet
  next_is_declared i load ms more h all =
      let a = bind_ok (packet_of i d load ms) (λ packet. Ok (load ++ packet ∷ [])) more h in
      let is = a.2 in
      let e : load ++ a.0 ∷ [] ≡ more = cc in
      let P : LoadEntry → Type 0 = λ p. IsDeclaredPacket d p.flow p.cargo in
      subst (AreDeclared d) e (All-append P load (a.0 ∷ []) all (only P a.0 (one_is_read i load ms a.0 a.1).1))

  walk_is_declared : (i : ℕ) (load : List LoadEntry) (tables : List Members) (more : List LoadEntry) → walk_from (next_packet d) i load tables ≡ Ok more → AreDeclared d load → AreDeclared d more
  walk_is_declared i load [] more h all = let e : load ≡ more = cc in subst (AreDeclared d) e all
  walk_is_declared i load (ms ∷ tables) more h all =
      let a = bind_ok (next_packet d i load ms) (λ next. walk_from (next_packet d) (suc i) next tables) more h in
      walk_is_declared (suc i) a.0 tables more a.2 (next_is_declared i load ms a.0 a.1 all)

  -- entry i is what table i declares, from number k on and behind these entries
  abbrev Each : ℕ → List LoadEntry → List Members → List LoadEntry → Type 0
  Each k load tables rest = (i : ℕ) (ms : Members) (p : LoadEntry) → slice_get tables i ≡ Some ms → slice_get rest i ≡ Some p → packet_of (k + i) d (load ++ take i rest) ms ≡ Ok p

  one_first : (k : ℕ) (load : List LoadEntry) (x : Members) (y : LoadEntry) (tables : List Members) (rest : List LoadEntry) → packet_of k d load x ≡ Ok y → Each (suc k) (load ++ y ∷ []) tables rest
      → Each k load (x ∷ tables) (y ∷ rest)
  one_first k load x y tables rest first later zero ms p here there =
      let z : k + 0 ≡ k = omega arith in
      let same : x ≡ ms = cc in
      let alike : y ≡ p = cc in
      rw (z, append-nil, ← same, ← alike) first
  one_first k load x y tables rest first later (suc i) ms p here there =
      let shifted : k + suc i ≡ suc k + i = omega arith in
      rw (shifted, ← append_assoc load (y ∷ []) (take i rest)) (later i ms p here there)

  one_more : (k : ℕ) (load : List LoadEntry) (ms : Members) (more : List LoadEntry) → next_packet d k load ms ≡ Ok more → (p : LoadEntry) × (packet_of k d load ms ≡ Ok p) × (load ++ p ∷ [] ≡ more)
  unfolding next_packet
  one_more k load ms more h =
      let a = bind_ok (packet_of k d load ms) (λ packet. Ok (load ++ packet ∷ [])) more h in
      let given : Ok (load ++ a.0 ∷ []) ≡ Ok more = a.2 in
      (a.0, a.1, cc)

  walked : (k : ℕ) (load : List LoadEntry) (tables : List Members) (more : List LoadEntry) → walk_from (next_packet d) k load tables ≡ Ok more
      → (rest : List LoadEntry) × (more ≡ load ++ rest) × (length rest ≡ length tables) × Each k load tables rest
  walked k load [] more h = let here : load ≡ more = cc in ([], sym here ∙ sym (append-nil load), refl, λ i ms p at. absurd cc)
  walked k load (ms ∷ tables) more h =
      let a = bind_ok (next_packet d k load ms) (λ next. walk_from (next_packet d) (suc k) next tables) more h in
      let one = one_more k load ms a.0 a.1 in
      let rest = walked (suc k) (load ++ one.0 ∷ []) tables more (subst (λ l. walk_from (next_packet d) (suc k) l tables ≡ Ok more) (sym one.2) a.2) in
      (one.0 ∷ rest.0, rest.1 ∙ append_assoc load (one.0 ∷ []) rest.0, ap suc rest.2, one_first k load ms one.0 tables rest.0 one.1 rest.3)

  -- the tables that a load is read from
  from_tables : (ms : Members) (load : List LoadEntry) → load_of d ms ≡ Ok load → (tables : List Members) × (tables_or_none section.Document Packet ms ≡ Ok tables) × (walk_from (next_packet d) 0 [] tables ≡ Ok load)
  unfolding load_of
  from_tables ms load h =
      let known = bind_ok (only_known section.Document document_keys ms) (λ known. tables_or_none section.Document Packet ms >>= λ tables. if nat_le (length tables) 4096 then walk_from (next_packet d) 0 [] tables else Err (fault.Key OutOfRange section.Document Packet)) load h in
      let tables = bind_ok (tables_or_none section.Document Packet ms) (λ tables. if nat_le (length tables) 4096 then walk_from (next_packet d) 0 [] tables else Err (fault.Key OutOfRange section.Document Packet)) load known.2 in
      (tables.0, tables.1, if_chosen (nat_le (length tables.0) 4096) (walk_from (next_packet d) 0 [] tables.0) load (fault.Key OutOfRange section.Document Packet) tables.2)

pub reads_each_entry : ReadsEachEntry
reads_each_entry d ms load h =
    let from = from_tables d ms load h in
    let w = walked d 0 [] from.0 load from.2 in
    subst (IsListedBy d ms) (sym w.1) (record {
      tables = from.0;
      listed = from.1;
      as_many = w.2;
      each = λ i table entry here there. let z : 0 + i ≡ i = omega arith in let at = w.3 i table entry here there in rw z at at;
    })

pub listed_are_declared : ListedAreDeclared
listed_are_declared d bytes load h =
    let ms = bind_ok (document_of bytes) (λ ms. load_of d ms) load h in
    let from = from_tables d ms.0 load ms.2 in
    walk_is_declared d 0 [] from.0 load from.2 (All-nil (λ p. IsDeclaredPacket d p.flow p.cargo))
