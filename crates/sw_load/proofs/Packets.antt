-- The packets of a load, and what the machine's network has for one of them.
use Rattle.std.proofs.Common.{◌≡◌, ◌<◌, ◌≤◌, ℕ, ◌+◌, ◌*◌, ◌++◌, ◌∷◌, [], List, get_or, length, map, take, ap, sym, ◌∙◌, refl, arith}
use Rattle.std.specs.Prelude.{Some, replicate, slice_get, sum_by}
use Rattle.std.specs.Option.{option_map_or}
use Rattle.std.proofs.lemmas.List.{length-replicate, length-map, length-append}
use Rattle.std.proofs.lemmas.List.Concat.{flat_map-cons}
use Rattle.std.proofs.lemmas.List.Folds.{sum_by-replicate}
use Rattle.std.proofs.lemmas.List.Sums.{sum_by-append, sum_by-cons, sum_by_more}
use Rattle.std.proofs.lemmas.Nat.{mul-le}
use Rattle.sw_char.specs.declared.nchar.End.{End}
use Rattle.sw_char.specs.declared.nchar.NChar.TheVariants.{Data}
use Rattle.sw_load.specs.History.{packet_of, packets_of}
use Rattle.sw_load.specs.Load.{LoadEntry, packet_count}
use Rattle.sw_machine.specs.DeclaredPackets.{left_bytes}
use Rattle.sw_machine.specs.Begun.{Begun, length_with_reply}
use Rattle.sw_machine.specs.Network.{Network, form}
use Rattle.sw_machine.specs.Network as machine
use Rattle.sw_machine.specs.Packets.{marker_of}
use Rattle.sw_machine.specs.Model.{network_of}
use Rattle.sw_machine.specs.Rmap.{answered_to}
use Rattle.sw_machine.specs.Targets.{longest_reply}
use Rattle.sw_config.specs.Entries.{Declaration, FlowEntry, all_flows, target_of}

-- one entry more of a load whose packets each have at most so much weight
pub weighed_more : (weight : LoadEntry → ℕ) (load : List LoadEntry) (i : ℕ) (p : LoadEntry) (sum : ℕ) → i < length load → p ≡ get_or load i p → weight p ≤ 67108864 → sum ≡ sum_by (λ q. q.count * weight q) (take i load)
    → sum ≤ packet_count (take i load) * 67108864
    → (sum + p.count * weight p ≡ sum_by (λ q. q.count * weight q) (take (i + 1) load)) × (sum + p.count * weight p ≤ packet_count (take (i + 1) load) * 67108864)
weighed_more weight load i p sum lt here small is few =
    let weighed : LoadEntry → ℕ = λ q. q.count * weight q in
    let more = sum_by_more weighed load i p lt ∙ ap (λ q. sum_by weighed (take i load) + weighed q) (sym here) in
    let counted = sum_by_more (λ (q : LoadEntry). q.count) load i p lt ∙ ap (λ (q : LoadEntry). packet_count (take i load) + q.count) (sym here) in
    let large = mul-le p.count (weight p) p.count 67108864 (omega arith) small in
    (omega (arith, more, is), omega (arith, counted, few, large))

pub sum-packets : (f : Begun → ℕ) (load : List LoadEntry) → sum_by f (packets_of load) ≡ sum_by (λ p. p.count * f (packet_of p)) load
sum-packets f [] = refl
sum-packets f (p ∷ load) =
    let e = ap (sum_by f) (flat_map-cons (λ (q : LoadEntry). replicate q.count (packet_of q)) p load) in
    let a = sum_by-append f (replicate p.count (packet_of p)) (packets_of load) in
    let r = sum_by-replicate f p.count (packet_of p) in
    let later = sum-packets f load in
    let c = sum_by-cons (λ (q : LoadEntry). q.count * f (packet_of q)) p load in
    omega arith

pub length-packets : (load : List LoadEntry) → length (packets_of load) ≡ packet_count load
length-packets [] = refl
length-packets (p ∷ load) =
    let e = ap (λ (l : List Begun). length l) (flat_map-cons (λ (q : LoadEntry). replicate q.count (packet_of q)) p load) in
    let a = length-append (replicate p.count (packet_of p)) (packets_of load) in
    let r = length-replicate p.count (packet_of p) in
    let later = length-packets load in
    let c = sum_by-cons (λ (q : LoadEntry). q.count) p load in
    omega arith

pub length-form : (net : Network) (i : ℕ) (cargo : List ℕ) (end : End) → length (form net i 0 cargo end) ≡ length (net.flow i).address + (length cargo + 1)
length-form net i cargo end =
    let address = (net.flow i).address in
    let a = length-append (map Data address) (map Data cargo ++ marker_of end ∷ []) in
    let b = length-append (map Data cargo) (marker_of end ∷ []) in
    let m = length-map address Data in
    let k = length-map cargo Data in
    omega arith

-- what the machine's network has for a packet of a declared flow
pub length_with_reply-entry : (d : Declaration) (p : LoadEntry) (e : FlowEntry) → slice_get (all_flows d) p.flow ≡ Some e
    → length_with_reply (network_of d) (packet_of p) ≡ length e.address + (length p.cargo + 1) + option_map_or (λ address. length address + (longest_reply (target_of d.nodes e.to) + 1)) (answered_to (target_of d.nodes e.to) (left_bytes e ++ p.cargo)) 0
unfolding network_of
length_with_reply-entry d p e at =
    let sent = length-form (network_of d) p.flow p.cargo p.marker in
    ap (λ (m : ℕ). m + option_map_or (λ address. length address + ((network_of d).longest ((network_of d).flow p.flow).to + 1)) ((network_of d).reply_to ((network_of d).flow p.flow).to (machine.left_bytes (network_of d) p.flow p.cargo)) 0) sent ∙ rw at refl

pub same-limit : (a b c d m n : ℕ) → a ≡ b → c ≡ d → m ≡ n → a + c * (14 + 5 * m) + 1 ≡ b + d * (14 + 5 * n) + 1
same-limit a b c d m n packets channels characters = cc
