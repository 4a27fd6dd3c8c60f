-- Which FCTs may follow, by the numbers of a cell.
use Rattle.std.proofs.Common.{◌≡◌, ◌∙◌, ℕ, zero, suc, ◌+◌, ◌-◌, ◌<◌, ◌≤◌, Some, List, length, [], ◌∷◌, map, filter, Bool, true, false, refl, sym, ap, subst, arith, cond}
use Rattle.std.specs.List.{range_with_len}
use Rattle.std.specs.Prelude.{IsSome, find, nat_eq, option_map, slice_get}
use Rattle.std.proofs.lemmas.Bool.{eq-eqb, eqb-true}
use Rattle.sw_cell.specs.Places.{machine_cell}
use Rattle.sw_cell.specs.declared.cell.CellId.{CellId}
use Rattle.sw_history.proofs.Follows.{follows_where_possible}
use Rattle.sw_journal.proofs.Told.{at_its_cell, received_ends, reverse_back, same_itself}
use Rattle.sw_journal.specs.Cells.{end_numbers, ends_at, same_cell}
use Rattle.sw_journal.specs.Laws.{HasNumbers, IsByNumbers, OfNowCells}
use Rattle.sw_load.specs.History.{packets_of}
use Rattle.sw_machine.specs.Network.{Cell, Network, reverse_of}
use Rattle.sw_machine.specs.State.{State, after_fct}
use Rattle.sw_machine.specs.Steps.{Fct}
use Rattle.sw_machine.specs.Model.{network_of}
use Rattle.sw_net.specs.Numbers.{numbers_at}
use Rattle.sw_net.specs.declared.numbers.Numbers.{Numbers}

-- ---- numbers of a list

abbrev Of : Type 0
Of = ℕ × Numbers

module _ (f : ℕ → Numbers) (e : ℕ) where
  abbrev numbers_of : List ℕ → List Of
  numbers_of es = map (λ c. (c, f c)) es

  -- what is found for e is e's, and e is listed
  abbrev IsOwn : List ℕ → Numbers → Type 0
  IsOwn es n = ((k : ℕ) × (slice_get es k ≡ Some e)) × (n ≡ f e)

  own_by : (x : ℕ) (es : List ℕ) (n : Numbers) → (end_numbers (numbers_of es) e ≡ Some n → IsOwn es n) → (b : Bool) → nat_eq x e ≡ b
      → option_map (λ (p : Of). p.1) (cond b (Some (x, f x)) (find (λ (p : Of). nat_eq p.0 e) (numbers_of es))) ≡ Some n → IsOwn (x ∷ es) n
  own_by x es n later true same found =
      let here : x ≡ e = eqb-true x e same in
      let gives : f x ≡ n = cc in
      ((zero, ap Some here), sym gives ∙ ap f here)
  own_by x es n later false other found = let it = later found in ((suc it.0.0, it.0.1), it.1)

  own : (es : List ℕ) (n : Numbers) → end_numbers (numbers_of es) e ≡ Some n → IsOwn es n
  own [] n is = absurd cc
  own (x ∷ es) n is = own_by x es n (own es n) (nat_eq x e) refl is

  -- a listed one is found
  listed_by : (x : ℕ) (es : List ℕ) → ((k : ℕ) → slice_get es k ≡ Some e → IsSome (end_numbers (numbers_of es) e)) → (b : Bool) → nat_eq x e ≡ b → (k : ℕ) → slice_get (x ∷ es) k ≡ Some e
      → IsSome (option_map (λ (p : Of). p.1) (cond b (Some (x, f x)) (find (λ (p : Of). nat_eq p.0 e) (numbers_of es))))
  listed_by x es later true same k at = refl
  listed_by x es later false other zero at =
      let here : x ≡ e = cc in
      let bad : false ≡ true = sym other ∙ eq-eqb x e here in
      absurd cc
  listed_by x es later false other (suc k) at = later k at

  listed : (es : List ℕ) (k : ℕ) → slice_get es k ≡ Some e → IsSome (end_numbers (numbers_of es) e)
  listed [] k at = absurd cc
  listed (x ∷ es) k at = listed_by x es (listed es) (nat_eq x e) refl k at

-- ---- link ends of a cell

module _ (p : ℕ → Bool) where
  kept_after : (a : ℕ) (rest : List ℕ) (b : Bool) (x : ℕ) → (k : ℕ) × (slice_get rest k ≡ Some x) → (k : ℕ) × (slice_get (cond b (a ∷ rest) rest) k ≡ Some x)
  kept_after a rest true x at = (suc at.0, at.1)
  kept_after a rest false x at = at

  -- what is in the range and passes is kept
  kept : (a n x : ℕ) → p (a + x) ≡ true → x < n → (k : ℕ) × (slice_get (filter p (range_with_len a n)) k ≡ Some (a + x))
  kept a zero x passes lt = absurd (omega arith)
  kept a (suc n) zero passes lt =
      let same : a + 0 ≡ a = omega arith in
      let here : p a ≡ true = ap p (sym same) ∙ passes in
      (zero, ap (λ (b : Bool). slice_get (cond b (a ∷ filter p (range_with_len (a + 1) n)) (filter p (range_with_len (a + 1) n))) zero) here ∙ ap Some (sym same))
  kept a (suc n) (suc x) passes lt =
      let same : a + suc x ≡ a + 1 + x = omega arith in
      let later = kept (a + 1) n x (ap p (sym same) ∙ passes) (omega arith) in
      kept_after a (filter p (range_with_len (a + 1) n)) (p a) (a + suc x) (later.0, later.1 ∙ ap Some (sym same))

-- each link end of the cell is listed
at_cell : (net : Network) (id : CellId) (e : ℕ) → e < net.channels → net.start_of e ≡ machine_cell id → (k : ℕ) × (slice_get (ends_at net id) k ≡ Some e)
at_cell net id e lt at =
    let p : ℕ → Bool = λ c. same_cell (net.start_of c) (machine_cell id) in
    let zeroed : 0 + e ≡ e = omega arith in
    let passes : p (0 + e) ≡ true = ap p zeroed ∙ ap (λ (c : Cell). same_cell c (machine_cell id)) at ∙ same_itself (machine_cell id) in
    let it = kept p 0 net.channels e passes lt in
    (it.0, it.1 ∙ ap Some zeroed)

-- ---- the laws

-- the numbers of link end e, where channel c ends there
abbrev of_channel : Network → State → ℕ → ℕ → Numbers
of_channel net s e c = record { credit = s.credit e; outstanding = s.outstanding c; room = net.capacity c - length (s.buffer c) - s.outstanding c }

pub decided : OfNowCells IsByNumbers
decided j ok cell now c n is =
    let net = network_of j.declared in
    let s = ok.state in
    let e = reverse_of c in
    let found = own (numbers_at net s) e (ends_at net cell.id) n (ap (λ (ends : List Of). end_numbers ends e) (sym (now.ends s ok.history)) ∙ is) in
    let place = at_its_cell net ok.network cell.id found.0.0 e found.0.1 in
    let back = received_ends net ok.network e place.0 in
    let there : c < net.channels = subst (λ (d : ℕ). d < net.channels) (reverse_back c) back.0 in
    let ends : net.end_of c ≡ machine_cell cell.id = ap net.end_of (sym (reverse_back c)) ∙ back.1 ∙ place.1 in
    let follows = follows_where_possible net (packets_of j.load) j.history s ok.history (Fct c) in
    let numbers : n ≡ of_channel net s e c = found.1 ∙ ap (of_channel net s e) (reverse_back c) in
    let room_is : n.room ≡ net.capacity c - length (s.buffer c) - s.outstanding c = ap (λ (m : Numbers). m.room) numbers in
    let outstanding_is : n.outstanding ≡ s.outstanding c = ap (λ (m : Numbers). m.outstanding) numbers in (
      λ may.
          let leads = (follows.0 may.1).0.1 in
          let room : s.outstanding c + length (s.buffer c) + 8 ≤ net.capacity c = leads.room in
          let few : s.outstanding c ≤ 48 = leads.few in
          (omega (arith, room, room_is), omega (arith, few, outstanding_is)),
      λ h.
          let room : 8 ≤ n.room = h.0 in
          let few : n.outstanding ≤ 48 = h.1 in
          (ends, follows.1 ((after_fct s c, record { in_net = there; room = omega (arith, room, room_is); few = omega (arith, few, outstanding_is); after = refl }), tt, tt)),
    )

pub known : OfNowCells HasNumbers
known j ok cell now c may =
    let net = network_of j.declared in
    let s = ok.state in
    let e = reverse_of c in
    let follows = follows_where_possible net (packets_of j.load) j.history s ok.history (Fct c) in
    let possible = (follows.0 may.1).0 in
    let there = ok.network.reversed c possible.1.in_net in
    let place = at_cell net cell.id e there.0 (there.1 ∙ may.0) in
    subst (λ (ends : List Of). IsSome (end_numbers ends e)) (sym (now.ends s ok.history)) (listed (numbers_at net s) e (ends_at net cell.id) place.0 place.1)
