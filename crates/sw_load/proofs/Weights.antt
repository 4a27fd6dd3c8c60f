-- What an entry's packets weigh, where its flow and its node's row stand, and which numbers fit.
use Rattle.std.proofs.Common.{◌≡◌, ◌≤◌, ◌<◌, ◌+◌, ◌*◌, ◌∷◌, [], ℕ, zero, suc, List, Fits, ap, arith, get_or, length, length-append, subst, sym, take, w64}
use Rattle.std.proofs.lemmas.List.Elements.{All-get_or}
use Rattle.std.proofs.lemmas.List.Sums.{sum_by-cons}
use Rattle.std.proofs.lemmas.Nat.{mul-le}
use Rattle.std.proofs.lemmas.Option.{slice_get_within}
use Rattle.sw_config.specs.Entries.{Declaration, all_flows, reply_flows}
use Rattle.sw_load.proofs.Sends.{read_at}
use Rattle.sw_load.specs.Laws.{AreDeclared}
use Rattle.sw_load.specs.Load.{LoadEntry, packet_count}
use Rattle.sw_machine.specs.DeclaredPackets.{IsDeclaredPacket}

pub weighs : (w address cargo reply a k r f : ℕ) → w ≡ address + (cargo + 1) + reply → a ≡ address → k ≡ cargo → r ≡ reply → f ≡ r → a + k + 1 + f ≡ w
weighs w address cargo reply a k r f whole sent left told wide = omega (arith, whole, sent, left, told, wide)

pub weighs_little : (w address cargo reply r : ℕ) → w ≡ address + (cargo + 1) + reply → address ≤ 32 → cargo ≤ 33554432 → r ≡ reply → r ≤ 65562 → w ≤ 67108864
weighs_little w address cargo reply r whole short few told low = omega (arith, whole, short, few, told, low)

pub ends_at : (counter end nodes : ℕ) → end ≡ nodes → end ≤ counter → counter ≤ end → counter ≡ nodes
ends_at counter end nodes count past low = omega (arith, count, past, low)

pub row_inside : {A : Type 0} (n from nodes : ℕ) (rows seen : List A) → n ≡ from → from < nodes → length rows ≡ nodes → seen ≡ rows → n < length seen
row_inside n from nodes rows seen is inside size same = let e = ap length same in omega (arith, is, inside, size, e)

-- an entry that is read is a declared packet, and the number of its flow is one of the network's flows
module _ (d : Declaration) (load items : List LoadEntry) (i : ℕ) (p : LoadEntry) (all : AreDeclared d load) (same : items ≡ load) (lt : i < length items) (here : p ≡ get_or items i p) where
  pub declared_at : IsDeclaredPacket d p.flow p.cargo
  declared_at =
      let read = read_at items load i p same lt here in
      let P : LoadEntry → Type 0 = λ q. IsDeclaredPacket d q.flow q.cargo in
      subst P (sym read.1) (All-get_or P load i p read.0 all)

  pub flow_inside : (n : ℕ) → n ≡ p.flow → n < length (all_flows d)
  flow_inside n is =
      let declared = declared_at in
      let low : p.flow < length d.flows = slice_get_within d.flows p.flow declared.entry declared.declared in
      let whole = length-append d.flows (reply_flows d.flows) in
      omega (arith, low, whole, is)

-- the first entries of a load have no more packets than the load
few_taken : (load : List LoadEntry) (i : ℕ) → packet_count (take i load) ≤ packet_count load
few_taken [] zero = omega arith
few_taken [] (suc i) = omega arith
few_taken (p ∷ load) zero = omega arith
few_taken (p ∷ load) (suc i) =
    let r = few_taken load i in
    let a = sum_by-cons (λ (q : LoadEntry). q.count) p (take i load) in
    let b = sum_by-cons (λ (q : LoadEntry). q.count) p load in
    omega (arith, r, a, b)

pub little : (address cargo a k r f : ℕ) → a ≡ address → address ≤ 32 → k ≡ cargo → cargo ≤ 33554432 → f ≡ r → r ≤ 65562 → a + k + 1 + f ≤ 67108864
little address cargo a k r f sent short left few wide low = omega (arith, sent, short, left, few, wide, low)

-- the characters of a load, and what the limit makes of them, are numbers of 64 bits
module _ (load : List LoadEntry) (i total characters : ℕ) (same : total ≡ packet_count load) (most : total ≤ 65536) (low : characters ≤ packet_count (take i load) * 67108864) where
  few_characters : characters ≤ 4398046511104
  few_characters = let taken = few_taken load i in omega (arith, same, most, low, taken)

  pub more_fit : (n m w : ℕ) → n ≡ m → m < 65536 → w ≤ 67108864 → Fits w64 (characters + n * w)
  more_fit n m w is lt small =
      let few = few_characters in
      let large = mul-le n w 65535 67108864 (omega (arith, is, lt)) small in
      omega (arith, few, large)

  pub five_fit : Fits w64 (5 * characters)
  five_fit = let few = few_characters in omega (arith, few)

  pub sum_fits : Fits w64 (14 + 5 * characters)
  sum_fits = let few = few_characters in omega (arith, few)

  steps_few : (n m : ℕ) → n ≡ m → m < 65536 → n * (14 + 5 * characters) ≤ 65535 * 21990232555534
  steps_few n m is lt = let few = few_characters in mul-le n (14 + 5 * characters) 65535 21990232555534 (omega (arith, is, lt)) (omega (arith, few))

  pub steps_fit : (n m : ℕ) → n ≡ m → m < 65536 → Fits w64 (n * (14 + 5 * characters))
  steps_fit n m is lt = let few = steps_few n m is lt in omega (arith, few)

  pub limit_fits : (p n m : ℕ) → p ≡ total → n ≡ m → m < 65536 → Fits w64 (p + n * (14 + 5 * characters))
  limit_fits p n m packets is lt = let few = steps_few n m is lt in omega (arith, few, packets, most)
