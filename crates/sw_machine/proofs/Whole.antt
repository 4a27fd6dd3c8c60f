-- What came out at a node are left forms of packets that were begun.
use Rattle.std.proofs.Common.{Bool, List, [], ap, append-nil, append_assoc, arith, count_by, drop, eq-eqb, false, filter, length, map, nat_eq, ne_eqb, refl, subst, suc, sym, true, zero, ℕ, ⊎_elim, ◌++◌, ◌+◌, ◌-◌, ◌<◌, ◌∙◌, ◌∷◌, ◌≡◌, ◌≤◌}
use Rattle.std.proofs.lemmas.Bool.{cases_eq}
use Rattle.std.specs.List.{AllByRecursion}
use Rattle.std.specs.Prelude.{if◌then◌else◌, ◌&&◌}
use Rattle.sw_char.specs.declared.nchar.NChar.{NChar}
use Rattle.sw_char.specs.declared.nchar.NChar.TheVariants.{Data}
use Rattle.sw_machine.proofs.Balance.{among, begun_of, count_cons, total_same, total_zero}
use Rattle.sw_machine.proofs.Cuts.{cuts, front_of, no_cons, no_packet_in, packet_is, same_front}
use Rattle.sw_machine.proofs.Faults.{at_node}
use Rattle.sw_machine.proofs.Ghost.{Entry, Fed, Ghost, Holds, InputIs, Inv, IsEntry, flat}
use Rattle.sw_machine.proofs.Lists.{bytes_of, flat_chars, form_is, packet_of, whole_cons}
use Rattle.sw_machine.proofs.Runs.{reached_of}
use Rattle.sw_machine.specs.Begun.{AllComesOut, Begun, ComesOutWhole, left_form, sent_to}
use Rattle.sw_machine.specs.Certificate.{Certificate, IsAccepted, number}
use Rattle.sw_machine.specs.Network.{AtNode, AtSwitch, Cell, IsNetwork, Network, left_bytes}
use Rattle.sw_machine.specs.Packets.{Packet, chars, chars_of}
use Rattle.sw_machine.specs.Runs.{total, undelivered}
use Rattle.sw_rmap.specs.Owing.{length_pending}
use Rattle.sw_machine.specs.State.{State}
use Rattle.std.proofs.lemmas.List.{nil_from_length}

-- a part is at most the sum
pub part_below : (n : ℕ) (f : ℕ → ℕ) (k : ℕ) → k < n → f k ≤ total n f
part_below zero f k lt = absurd (omega arith)
part_below (suc n) f k lt = ⊎_elim (λ e. let same = ap f e in omega arith) (λ ne. let r = part_below n f k (omega arith) in omega arith) (cases_eq k n)

-- counting what each element gives
count_map : {A B : Type 0} (test : B → Bool) (f : A → B) (xs : List A) → count_by test (map f xs) ≡ count_by (λ x. test (f x)) xs
count_map test f [] = refl
count_map test f (x ∷ xs) =
    let r = count_map test f xs in
    let a = count_cons test (f x) (map f xs) in
    let b = count_cons (λ x. test (f x)) x xs in
    omega arith

-- the whole packets of a front are the first packets of the list
front_counts : (test : Packet → Bool) (ps qs : List Packet) (l : List NChar) → chars ps ++ l ≡ chars qs → count_by test ps ≤ count_by test qs
front_counts test [] qs l e = omega arith
front_counts test (p ∷ ps) [] l e = absurd (no_packet_in p (chars ps ++ l) (sym (append_assoc (chars_of p) (chars ps) l) ∙ e))
front_counts test (p ∷ ps) (q ∷ qs) l e =
    let f = same_front p.bytes q.bytes p.end q.end (chars ps ++ l) (chars qs ++ []) (sym (front_of p ps l) ∙ e ∙ sym (append-nil (chars (q ∷ qs))) ∙ front_of q qs []) in
    let r = front_counts test ps qs l (f.2 ∙ append-nil (chars qs)) in
    let one : count_by test (p ∷ []) ≡ count_by test (q ∷ []) = ap (λ q. count_by test (q ∷ [])) (packet_is p q f.0 f.1) in
    let a = count_cons test p ps in
    let b = count_cons test q qs in
    omega arith

-- whether a packet goes to n with a left form that passes
abbrev pub goes_to : Network → ℕ → (Packet → Bool) → Begun → Bool
goes_to net n test b = nat_eq (net.flow b.flow).to n && test (left_form net b)

sent_if : (net : Network) (n : ℕ) (test : Packet → Bool) (b : Begun) (begun : List Begun) (t : Bool) → count_by test (map (left_form net) (if t then b ∷ begun else begun)) ≡ (if (t && test (left_form net b)) then 1 else 0) + count_by test (map (left_form net) begun)
sent_if net n test b begun true = let c = count_cons test (left_form net b) (map (left_form net) begun) in omega arith
sent_if net n test b begun false = omega arith

pub count_sent : (net : Network) (n : ℕ) (test : Packet → Bool) (begun : List Begun) → count_by test (sent_to net n begun) ≡ count_by (goes_to net n test) begun
count_sent net n test [] = refl
count_sent net n test (b ∷ begun) =
    let h = count_sent net n test begun in
    let a = sent_if net n test b (filter (λ b. nat_eq (net.flow b.flow).to n) begun) (nat_eq (net.flow b.flow).to n) in
    let c = count_cons (goes_to net n test) b begun in
    omega arith

-- the whole packets of a list of packets are these
whole_counts : (net : Network) (test : Packet → Bool) (ps : List Packet) (bytes : List ℕ) (es : List Entry) → chars ps ++ map Data bytes ≡ flat net es → count_by test ps ≡ count_by (λ e. test (packet_of net e)) es
whole_counts net test ps bytes es e =
    let same = cuts ps (map (packet_of net) es) bytes [] (e ∙ flat_chars net es ∙ sym (append-nil (chars (map (packet_of net) es)))) in
    ap (count_by test) same.0 ∙ count_map test (packet_of net) es

-- a sum with one part
only_part : (n : ℕ) (f : ℕ → ℕ) (k : ℕ) → k < n → ((j : ℕ) → j < n → (j ≡ k → ⊥) → f j ≡ 0) → total n f ≡ f k
only_part zero f k lt h = absurd (omega arith)
only_part (suc n) f k lt h = ⊎_elim
    (λ e.
    let z = total_same n f (λ j. 0) (λ j lj. h j (omega arith) (omega arith)) in
    let zero = total_zero n in
    let same = ap f e in
    omega arith)
    (λ ne. let r = only_part n f k (omega arith) (λ j lj nj. h j (omega arith) nj) in let z = h n (omega arith) (λ e. ne (sym e)) in omega arith)
    (cases_eq k n)

pub zero_part : (n : ℕ) (f : ℕ → ℕ) (k : ℕ) → k < n → total n f ≡ 0 → f k ≡ 0
zero_part n f k lt z = let p = part_below n f k lt in omega arith

no_front : (a b : List NChar) → a ++ b ≡ [] → a ≡ []
no_front [] b e = refl
no_front (x ∷ a) b e = absurd (no_cons x (a ++ b) e)

no_flat : (net : Network) (es : List Entry) → flat net es ≡ [] → es ≡ []
no_flat net [] e = refl
no_flat net (x ∷ es) e = absurd (no_packet_in (packet_of net x) (flat net es) (ap (λ l. l ++ flat net es) (sym (form_is net x)) ∙ e))

module _ (net : Network) (cert : Certificate) (ok : IsNetwork net) (acc : IsAccepted net cert) where
  -- what came to n went to n, with its left form
  pub is_left : (n : ℕ) (e : Entry) → n < net.nodes → IsEntry net cert (net.into n) e → ((net.flow e.flow).to ≡ n) × (packet_of net e ≡ left_form net (begun_of e))
  is_left n e ln valid =
      let i = e.flow in
      let place = at_node net cert acc i (net.into n) e.deleted n valid.carried.in_flows valid.listed (ok.into_ends n ln).1 in
      let k : e.deleted ≡ length (net.flow i).address - (net.flow i).left = (let p = place.1 in omega arith) in
      let left : bytes_of net e ≡ left_bytes net i e.cargo = ap (λ k. drop k (net.flow i).address ++ e.cargo) k in
      (sym place.0, ap (λ b. record { bytes = b; end = e.end }) left)

  came_counts : (n : ℕ) (test : Packet → Bool) (es : List Entry) → n < net.nodes → AllByRecursion (IsEntry net cert (net.into n)) es → count_by (λ e. test (packet_of net e)) es ≡ among (goes_to net n test) es
  came_counts n test [] ln all = refl
  came_counts n test (e ∷ es) ln all =
      let h = came_counts n test es ln all.1 in
      let l = is_left n e ln all.0 in
      let goes : goes_to net n test (begun_of e) ≡ test (left_form net (begun_of e)) = rw (eq-eqb (net.flow e.flow).to n l.0) refl in
      let one : count_by (λ e. test (packet_of net e)) (e ∷ []) ≡ among (goes_to net n test) (e ∷ []) = ap (λ t. 0 + (if t then 1 else 0)) (ap test l.1 ∙ sym goes) in
      let a = count_cons (λ e. test (packet_of net e)) e es in
      let b = count_cons (λ e. goes_to net n test (begun_of e)) e es in
      omega arith

  pub comes_out_whole : ComesOutWhole net
  comes_out_whole steps begun s r n ln ps out test =
      let rest = out.0 in
      let cut = out.1 in
      let k = reached_of net cert ok acc steps s begun r in
      let g = k.0 in
      let node = k.1.nodes n ln in
      let content : chars ps ++ (map Data rest ++ g.rest (net.into n)) ≡ flat net (g.came n) = sym (append_assoc (chars ps) (map Data rest) (g.rest (net.into n))) ∙ ap (λ l. l ++ g.rest (net.into n)) (sym cut) ∙ node.content in
      let a = front_counts test ps (map (packet_of net) (g.came n)) (map Data rest ++ g.rest (net.into n)) (content ∙ flat_chars net (g.came n)) in
      let m = count_map test (packet_of net) (g.came n) in
      let b = came_counts n test (g.came n) ln node.all_came in
      let c = part_below net.nodes (λ m. among (goes_to net n test) (g.came m)) n ln in
      let d = k.2 (goes_to net n test) in
      let e = count_sent net n test begun in
      omega arith

  -- what came to another node did not go to n
  came_elsewhere : (n m : ℕ) (test : Packet → Bool) (es : List Entry) → m < net.nodes → (m ≡ n → ⊥) → AllByRecursion (IsEntry net cert (net.into m)) es → among (goes_to net n test) es ≡ 0
  came_elsewhere n m test [] lm ne all = refl
  came_elsewhere n m test (e ∷ es) lm ne all =
      let h = came_elsewhere n m test es lm ne all.1 in
      let l = is_left m e lm all.0 in
      let goes : goes_to net n test (begun_of e) ≡ false = rw (ne_eqb (net.flow e.flow).to n (λ same. ne (sym l.0 ∙ same))) refl in
      let one : among (goes_to net n test) (e ∷ []) ≡ 0 = ap (λ t. 0 + (if t then 1 else 0)) goes in
      let b = count_cons (λ e. goes_to net n test (begun_of e)) e es in
      omega arith

  module _ (s : State) (g : Ghost) (inv : Inv net cert s g) (none : undelivered net s ≡ 0) where
    empty_channel : (c : ℕ) → c < net.channels → (s.buffer c ≡ []) × (s.wire c ≡ [])
    empty_channel c lt =
        let z = zero_part net.channels (λ c. length (s.buffer c) + length (s.wire c)) c lt (omega arith) in
        (nil_from_length (s.buffer c) (omega arith), nil_from_length (s.wire c) (omega arith))

    nothing_to_send : (n : ℕ) → n < net.nodes → s.to_send n ≡ []
    nothing_to_send n lt =
        let z = zero_part net.nodes (λ n. length (s.to_send n) + length_pending (s.pending n)) n lt (omega arith) in
        nil_from_length (s.to_send n) (omega arith)

    -- nothing comes to any channel
    nothing_comes : (n c : ℕ) → c < net.channels → number cert c < n → g.coming c ≡ []
    nothing_comes zero c lt ln = absurd (omega arith)
    nothing_comes (suc n) c lt ln = by_start (net.start_of c) refl (inv.fed c lt) (nothing_comes n)
      where
        by_start : (p : Cell) → net.start_of c ≡ p → Fed net s.to_send s.input g.coming c p → ((b : ℕ) → b < net.channels → number cert b < n → g.coming b ≡ []) → g.coming c ≡ []
        by_start (AtNode m) at f below = f ∙ nothing_to_send m (ok.starts_at_node c m lt at).0
        by_start (AtSwitch w) at f below = ⊎_elim (λ e. e) (λ h.
            let b = h.0 in
            let lb = h.1 in
            let held : Holds net cert g.rest g.coming b c = subst (InputIs net cert g.rest g.coming b) h.2 (inv.inputs b lb) in
            let up = held.rising in
            let e = empty_channel b lb in
            let e0 = e.0 in
            let e1 = e.1 in
            let comes = below b lb (omega arith) in
            let content = (inv.streams b lb).content in
            let all : g.rest b ++ flat net (g.queue b) ≡ [] = cc in
            absurd (whole_cons (g.rest b) held.whole (no_front (g.rest b) (flat net (g.queue b)) all))) f

    nothing_left : (c : ℕ) → c < net.channels → (g.rest c ≡ []) × (g.queue c ≡ [])
    nothing_left c lt =
        let e = empty_channel c lt in
        let e0 = e.0 in
        let e1 = e.1 in
        let comes = nothing_comes (suc (number cert c)) c lt (omega arith) in
        let content = (inv.streams c lt).content in
        let all : g.rest c ++ flat net (g.queue c) ≡ [] = cc in
        let front = no_front (g.rest c) (flat net (g.queue c)) all in
        (front, no_flat net (g.queue c) (ap (λ l. l ++ flat net (g.queue c)) (sym front) ∙ all))

  pub all_comes_out : AllComesOut net
  all_comes_out steps begun s r none n ln ps out test =
      let rest = out.0 in
      let cut = out.1 in
      let k = reached_of net cert ok acc steps s begun r in
      let g = k.0 in
      let inv = k.1 in
      let node = inv.nodes n ln in
      let left = nothing_left s g inv none (net.into n) (ok.into_ends n ln).0 in
      let content : chars ps ++ map Data rest ≡ flat net (g.came n) = sym cut ∙ sym (append-nil (s.taken n)) ∙ ap (λ l. s.taken n ++ l) (sym left.0) ∙ node.content in
      let a = whole_counts net test ps rest (g.came n) content in
      let b = came_counts n test (g.came n) ln node.all_came in
      let c = only_part net.nodes (λ m. among (goes_to net n test) (g.came m)) n ln (λ m lm ne. came_elsewhere n m test (g.came m) lm ne (inv.nodes m lm).all_came) in
      let q = total_same net.channels (λ c. among (goes_to net n test) (g.queue c)) (λ c. 0) (λ c lc. ap (among (goes_to net n test)) (nothing_left s g inv none c lc).1) in
      let z = total_zero net.channels in
      let d = k.2 (goes_to net n test) in
      let e = count_sent net n test begun in
      omega arith
