-- The table of a packet's entry is read back as a load of that packet.
use Rattle.std.proofs.Common.{◌≡◌, ℕ, ◌/◌, ◌%◌, ◌<◌, ◌≤◌, true, List, [], ◌∷◌, length, Some, refl, inl, arith, suc}
use Rattle.std.specs.Prelude.{Ok, slice_index, position}
use Rattle.std.specs.Str.{bytes_eq}
use Rattle.hex.specs.Hex.{encode_upper, encode_with}
use Rattle.sw_char.specs.declared.nchar.End.TheVariants.{Eop}
use Rattle.sw_config.specs.Entries.{Declaration, flow_names}
use Rattle.sw_text.specs.Document.{document_of}
use Rattle.sw_machine.specs.DeclaredPackets.{IsDeclaredPacket, is_declared_packet}
use Rattle.sw_machine.proofs.Declared.{declared_packets_pass}
use Rattle.sw_load.specs.Cargo.{CargoIsRead, cargo_of, without_spaces}
use Rattle.sw_load.proofs.Digits.{IsBytes, are_pairs, digit_right}
use Rattle.sw_load.specs.Load.{LoadEntry, cargo_at, count_at, flow_at, load_of, load_text, marker_at, next_packet, packet_of}
use Rattle.sw_app_rmap.specs.EntryTexts.{entry_table, load_table}
use Rattle.sw_app_rmap.specs.RmapAnswers as answers

-- ---- the digits of bytes

spaceless : (bytes : List ℕ) → IsBytes bytes → without_spaces (encode_upper bytes) ≡ encode_upper bytes
unfolding encode_with
spaceless [] h = refl
spaceless (b ∷ bytes) h =
    let high = digit_right (b / 16) (omega (arith, h.0)) in
    let low = digit_right (b % 16) (omega arith) in
    rw (high.no_space, low.no_space, spaceless bytes h.1) refl

-- the text of a cargo is read as its bytes
cargo_read : CargoIsRead → (cargo : List ℕ) → IsBytes cargo → 1 ≤ length cargo → length cargo ≤ 4096 → cargo_of (encode_upper cargo) ≡ Some cargo
cargo_read cargo_is_read cargo h some few = (cargo_is_read (encode_upper cargo) cargo).1 (inl (rw (spaceless cargo h) (record { pairs = are_pairs cargo h; some = some; few = few })))

-- ---- the entry

module _ (d : Declaration) (name : List ℕ) (i : ℕ) (cargo : List ℕ) where
  abbrev entry : LoadEntry
  entry = record { flow = i; cargo = cargo; marker = Eop; count = 1 }

  flow_read : position (bytes_eq name) (flow_names d.flows) ≡ Some i → flow_at 0 d.flows (entry_table name cargo) ≡ Ok i
  unfolding flow_at
  flow_read named = rw named refl

  text_read : cargo_of (encode_upper cargo) ≡ Some cargo → cargo_at 0 (entry_table name cargo) ≡ Ok cargo
  unfolding cargo_at
  text_read read = rw read refl

  marker_read : marker_at 0 (entry_table name cargo) ≡ Ok Eop
  unfolding marker_at
  marker_read = refl

  count_read : count_at 0 0 (entry_table name cargo) ≡ Ok 1
  unfolding count_at
  count_read = refl

  packet_read : flow_at 0 d.flows (entry_table name cargo) ≡ Ok i → cargo_at 0 (entry_table name cargo) ≡ Ok cargo → is_declared_packet d i cargo ≡ true → packet_of 0 d [] (entry_table name cargo) ≡ Ok entry
  unfolding packet_of
  packet_read flow text declared = rw (flow, text, marker_read, count_read, declared) refl

  next_read : packet_of 0 d [] (entry_table name cargo) ≡ Ok entry → next_packet d 0 [] (entry_table name cargo) ≡ Ok (entry ∷ [])
  unfolding next_packet
  next_read packet = rw packet refl

  load_read : next_packet d 0 [] (entry_table name cargo) ≡ Ok (entry ∷ []) → load_of d (load_table name cargo) ≡ Ok (entry ∷ [])
  unfolding load_of
  load_read next = rw next refl

-- a text of the entry's table is read back
pub reads_back : CargoIsRead → (d : Declaration) (name : List ℕ) (i : ℕ) (cargo text : List ℕ) → position (bytes_eq name) (flow_names d.flows) ≡ Some i → IsDeclaredPacket d i cargo → IsBytes cargo → length cargo ≤ 4096
    → document_of text ≡ Ok (load_table name cargo) → load_text d text ≡ Ok (answers.load_of (record { flow = i; cargo = cargo }))
reads_back cargo_is_read d name i cargo text named declared bytes few document =
    let flow = flow_read d name i cargo named in
    let cargo_text = text_read d name i cargo (cargo_read cargo_is_read cargo bytes declared.some few) in
    let packet = packet_read d name i cargo flow cargo_text ((declared_packets_pass d i cargo).1 declared) in
    let load = load_read d name i cargo (next_read d name i cargo packet) in
    rw document load

-- what a slice of bytes has
pub are_bytes : (bytes : List ℕ) → ((k : ℕ) → slice_index bytes k < 256) → IsBytes bytes
are_bytes [] h = tt
are_bytes (b ∷ bytes) h = (h 0, are_bytes bytes (λ k. h (suc k)))
