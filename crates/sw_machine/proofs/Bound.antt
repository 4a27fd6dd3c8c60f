-- A run of an accepted network is bounded.
use Rattle.std.proofs.Common.{Bool, List, [], ap, arith, eq-eqb, false, le-ltb, length, lt-ltb, ltb-true, map, nat_lt, ne_eqb, refl, subst, suc, sym, true, zero, ℕ, ⊎_elim, ◌*◌, ◌++◌, ◌+◌, ◌-◌, ◌<◌, ◌∙◌, ◌∷◌, ◌≡◌, ◌≤◌}
use Rattle.std.proofs.lemmas.Bool.{cases_Bool, cases_eq}
use Rattle.std.proofs.lemmas.List.{length_push}
use Rattle.std.proofs.lemmas.List.Sums.{sum_by-append}
use Rattle.std.specs.Prelude.{if◌then◌else◌}
use Rattle.sw_char.specs.declared.nchar.NChar.{NChar}
use Rattle.sw_char.specs.declared.nchar.NChar.TheVariants.{Data, Eep, Eop}
use Rattle.sw_machine.proofs.Balance.{reply_is, total_same, total_zero}
use Rattle.sw_machine.proofs.Credit.{empty_credit, step_numbers}
use Rattle.sw_machine.proofs.Ghost.{Ghost, Holds, InputIs, Inv}
use Rattle.sw_machine.proofs.Lists.{put_here, put_there}
use Rattle.sw_machine.proofs.Moves.{node_or_switch}
use Rattle.sw_machine.proofs.RunLists.{cost, moves_cons}
use Rattle.sw_machine.proofs.Runs.{empty_inv, never_drops, none, step_keeps}
use Rattle.sw_machine.specs.Begun.{Begins, Begun, IsBounded, RunOf, characters, length_begun, moves}
use Rattle.sw_machine.specs.Certificate.{Certificate, IsAccepted, number}
use Rattle.sw_machine.specs.Credit.{HasCredit}
use Rattle.sw_machine.specs.Network.{IsNetwork, Network, form}
use Rattle.sw_rmap.specs.Owing.{PendingReply, reply_packet}
use Rattle.sw_machine.specs.Runs.{total}
use Rattle.sw_machine.specs.State.{State, after_accept, after_arrive, after_begin, after_emit, after_fct, after_fct_in, after_forward, after_grant, after_reply, empty, input_after, put}
use Rattle.sw_machine.specs.Steps.{Accept, Arrive, Begin, Drop, Emit, Fct, FctIn, Forward, Grant, Leads, Reply, Spill, Step}
use Rattle.sw_machine.specs.declared.input.InputState.{InputState}
use Rattle.sw_machine.specs.declared.input.InputState.TheVariants.{Held, Idle, Spilling}

pub total_le : (n : ℕ) (f g : ℕ → ℕ) → ((k : ℕ) → k < n → f k ≤ g k) → total n f ≤ total n g
total_le zero f g h = omega arith
total_le (suc n) f g h = let r = total_le n f g (λ k lt. h k (omega arith)) in let e = h n (omega arith) in omega arith

total_lt : (n : ℕ) (f g : ℕ → ℕ) (c : ℕ) → c < n → f c < g c → ((k : ℕ) → k < n → f k ≤ g k) → total n f < total n g
total_lt zero f g c lt less h = absurd (omega arith)
total_lt (suc n) f g c lt less h = ⊎_elim
    (λ e. let r = total_le n f g (λ k lk. h k (omega arith)) in let fe = ap f e in let ge = ap g e in omega arith)
    (λ ne. let r = total_lt n f g c (omega arith) less (λ k lk. h k (omega arith)) in let e = h n (omega arith) in omega arith)
    (cases_eq c n)

total_ones : (n : ℕ) → total n (λ k. 1) ≡ n
total_ones zero = refl
total_ones (suc n) = let r = total_ones n in omega arith

-- one part changes
total_change : (n : ℕ) (f g : ℕ → ℕ) (c : ℕ) → c < n → ((k : ℕ) → k < n → (k ≡ c → ⊥) → g k ≡ f k) → total n g + f c ≡ total n f + g c
total_change zero f g c lt h = absurd (omega arith)
total_change (suc n) f g c lt h = ⊎_elim
    (λ e. let same = total_same n g f (λ k lk. h k (omega arith) (omega arith)) in let fe = ap f e in let ge = ap g e in omega arith)
    (λ ne. let r = total_change n f g c (omega arith) (λ k lk nk. h k (omega arith) nk) in let e = h n (omega arith) (λ e. ne (sym e)) in omega arith)
    (cases_eq c n)

total_at : {A : Type 0} (n : ℕ) (w : ℕ → A → ℕ) (f : ℕ → A) (c : ℕ) (x : A) → c < n → total n (λ k. w k (put f c x k)) + w c (f c) ≡ total n (λ k. w k (f k)) + w c x
total_at n w f c x lt =
    let r = total_change n (λ k. w k (f k)) (λ k. w k (put f c x k)) c lt (λ k lk ne. ap (w k) (put_there f c x k ne)) in
    let here : w c (put f c x c) ≡ w c x = ap (w c) (put_here f c x) in
    omega arith

-- a buffer whose front is passed on
held_weight : ℕ → List NChar → ℕ
held_weight r [] = 0
held_weight r (Data b ∷ l) = 40 * r + 6 + held_weight r l
held_weight r (Eop ∷ l) = 40 * r + 6 + (40 * r + 14) * length l
held_weight r (Eep ∷ l) = 40 * r + 6 + (40 * r + 14) * length l

buffer_weight : ℕ → InputState → List NChar → ℕ
buffer_weight r Idle l = (40 * r + 14) * length l
buffer_weight r (Held d) l = held_weight r l
buffer_weight r Spilling l = (40 * r + 14) * length l

held_below : (r : ℕ) (l : List NChar) → held_weight r l ≤ (40 * r + 14) * length l
unfolding held_weight
held_below r [] = omega arith
held_below r (Data b ∷ l) = let h = held_below r l in omega arith
held_below r (Eop ∷ l) = omega arith
held_below r (Eep ∷ l) = omega arith

held_push : (r : ℕ) (l : List NChar) (x : NChar) → held_weight r (l ++ x ∷ []) ≤ held_weight r l + (40 * r + 14)
unfolding held_weight
held_push r [] (Data b) = omega arith
held_push r [] Eop = omega arith
held_push r [] Eep = omega arith
held_push r (Data b ∷ l) x = let h = held_push r l x in omega arith
held_push r (Eop ∷ l) x = let h = length_push l x in omega (arith, ap (λ k. (40 * r + 14) * k) h)
held_push r (Eep ∷ l) x = let h = length_push l x in omega (arith, ap (λ k. (40 * r + 14) * k) h)

buffer_push : (r : ℕ) (i : InputState) (l : List NChar) (x : NChar) → buffer_weight r i (l ++ x ∷ []) ≤ buffer_weight r i l + (40 * r + 14)
unfolding buffer_weight
buffer_push r Idle l x = let h = length_push l x in omega (arith, ap (λ k. (40 * r + 14) * k) h)
buffer_push r (Held d) l x = held_push r l x
buffer_push r Spilling l x = let h = length_push l x in omega (arith, ap (λ k. (40 * r + 14) * k) h)

-- a character is passed on
buffer_pass : (r d : ℕ) (x : NChar) (l : List NChar) → buffer_weight r (input_after x (Held d)) l + (40 * r + 6) ≡ buffer_weight r (Held d) (x ∷ l)
unfolding buffer_weight held_weight
buffer_pass r d (Data b) l = omega arith
buffer_pass r d Eop l = omega arith
buffer_pass r d Eep l = omega arith

-- an input is granted
buffer_grant : (r d h : ℕ) (l : List NChar) (b : Bool) → buffer_weight r (Held d) (if b then l else Data h ∷ l) + 8 ≤ buffer_weight r Idle (Data h ∷ l)
unfolding buffer_weight held_weight
buffer_grant r d h l true = let k = held_below r l in omega arith
buffer_grant r d h l false = let k = held_below r l in omega arith

idle_weight : (r : ℕ) (l : List NChar) → buffer_weight r Idle l ≡ (40 * r + 14) * length l
unfolding buffer_weight
idle_weight r l = refl

module _ (net : Network) (cert : Certificate) where
  is_lesser : ℕ → ℕ → ℕ
  is_lesser c k = if nat_lt (number cert k) (number cert c) then 1 else 0

  -- how many channels have lesser numbers
  lesser : ℕ → ℕ
  lesser c = total net.channels (is_lesser c)

  -- how many more could follow c
  pub room : ℕ → ℕ
  room c = net.channels - (lesser c + 1)

  is_lesser_one : (c k : ℕ) → is_lesser c k ≤ 1
  unfolding is_lesser
  is_lesser_one c k = ⊎_elim (λ e. rw e (omega arith)) (λ e. rw e (omega arith)) (cases_Bool (nat_lt (number cert k) (number cert c)))

  not_lesser : (c : ℕ) → is_lesser c c ≡ 0
  unfolding is_lesser
  not_lesser c = rw (le-ltb (number cert c) (number cert c) (omega arith)) refl

  is_lesser_at : (c k : ℕ) → number cert k < number cert c → is_lesser c k ≡ 1
  unfolding is_lesser
  is_lesser_at c k lt = rw (lt-ltb (number cert k) (number cert c) lt) refl

  is_lesser_up : (c d k : ℕ) → number cert c < number cert d → is_lesser c k ≤ is_lesser d k
  unfolding is_lesser
  is_lesser_up c d k lt = ⊎_elim
      (λ e. let l = ltb-true (number cert k) (number cert c) e in rw (e, lt-ltb (number cert k) (number cert d) (omega arith)) (omega arith))
      (λ e. rw e (omega arith))
      (cases_Bool (nat_lt (number cert k) (number cert c)))

  lesser_below : (c : ℕ) → c < net.channels → lesser c < net.channels
  unfolding lesser
  lesser_below c lt =
      let zero = not_lesser c in
      let r = total_lt net.channels (is_lesser c) (λ k. 1) c lt (omega arith) (λ k lk. is_lesser_one c k) in
      let ones = total_ones net.channels in
      omega arith

  lesser_up : (c d : ℕ) → c < net.channels → number cert c < number cert d → lesser c < lesser d
  unfolding lesser
  lesser_up c d lt up =
      let zero = not_lesser c in
      let one = is_lesser_at d c up in
      total_lt net.channels (is_lesser c) (is_lesser d) c lt (omega arith) (λ k lk. is_lesser_up c d k up)

  room_below : (c : ℕ) → c < net.channels → room c < net.channels
  unfolding room
  room_below c lt = omega arith

  room_falls : (c d : ℕ) → c < net.channels → d < net.channels → number cert c < number cert d → room d < room c
  unfolding room
  room_falls c d lc ld up = let a = lesser_below d ld in let b = lesser_up c d lc up in omega arith

  abbrev of_outstanding : State → ℕ
  of_outstanding s = total net.channels (λ c. 2 * (56 - s.outstanding c))

  abbrev of_fcts : State → ℕ
  of_fcts s = total net.channels (λ c. 8 * s.fcts c)

  abbrev of_wires : State → ℕ
  of_wires s = total net.channels (λ c. (40 * room c + 24) * length (s.wire c))

  abbrev of_buffers : State → ℕ
  of_buffers s = total net.channels (λ c. buffer_weight (room c) (s.input c) (s.buffer c))

  abbrev of_sending : State → ℕ
  of_sending s = total net.nodes (λ n. (40 * room (net.out n) + 32) * length (s.to_send n))

  -- what the steps wear down, in eighths
  abbrev measure : State → ℕ
  measure s = of_outstanding s + of_fcts s + of_wires s + of_buffers s + of_sending s

  fct_falls : (s : State) (c : ℕ) → c < net.channels → s.outstanding c ≤ 48 → measure (after_fct s c) + 8 ≤ measure s
  fct_falls s c lt few =
      let a : of_outstanding (after_fct s c) + 2 * (56 - s.outstanding c) ≡ of_outstanding s + 2 * (56 - (s.outstanding c + 8)) = total_at net.channels (λ k o. 2 * (56 - o)) s.outstanding c (s.outstanding c + 8) lt in
      let b : of_fcts (after_fct s c) + 8 * s.fcts c ≡ of_fcts s + 8 * (s.fcts c + 1) = total_at net.channels (λ k o. 8 * o) s.fcts c (s.fcts c + 1) lt in
      omega arith

  fct_in_falls : (s : State) (c left : ℕ) → c < net.channels → s.fcts c ≡ suc left → measure (after_fct_in s c left) + 8 ≤ measure s
  fct_in_falls s c left lt is =
      let b : of_fcts (after_fct_in s c left) + 8 * s.fcts c ≡ of_fcts s + 8 * left = total_at net.channels (λ k o. 8 * o) s.fcts c left lt in
      omega arith

  arrive_falls : (s : State) (c : ℕ) (first : NChar) (rest : List NChar) → c < net.channels → s.wire c ≡ first ∷ rest → 0 < s.outstanding c → s.outstanding c ≤ 56 → measure (after_arrive s c first rest) + 8 ≤ measure s
  arrive_falls s c first rest lt is some few =
      let t = after_arrive s c first rest in
      let r = room c in
      let a : of_outstanding t + 2 * (56 - s.outstanding c) ≡ of_outstanding s + 2 * (56 - (s.outstanding c - 1)) = total_at net.channels (λ k o. 2 * (56 - o)) s.outstanding c (s.outstanding c - 1) lt in
      let b : of_wires t + (40 * r + 24) * length (s.wire c) ≡ of_wires s + (40 * r + 24) * length rest = total_at net.channels (λ k l. (40 * room k + 24) * length l) s.wire c rest lt in
      let w : (40 * r + 24) * length (s.wire c) ≡ (40 * r + 24) * suc (length rest) = ap (λ l. (40 * r + 24) * length l) is in
      let d : of_buffers t + buffer_weight r (s.input c) (s.buffer c) ≡ of_buffers s + buffer_weight r (s.input c) (s.buffer c ++ first ∷ []) = total_at net.channels (λ k l. buffer_weight (room k) (s.input k) l) s.buffer c (s.buffer c ++ first ∷ []) lt in
      let p = buffer_push r (s.input c) (s.buffer c) first in
      omega arith

  -- the input and the buffer of c change
  buffer_change : (s : State) (c : ℕ) (i : InputState) (l : List NChar) → c < net.channels → total net.channels (λ k. buffer_weight (room k) (put s.input c i k) (put s.buffer c l k)) + buffer_weight (room c) (s.input c) (s.buffer c) ≡ of_buffers s + buffer_weight (room c) i l
  buffer_change s c i l lt =
      let r = total_change net.channels (λ k. buffer_weight (room k) (s.input k) (s.buffer k)) (λ k. buffer_weight (room k) (put s.input c i k) (put s.buffer c l k)) c lt (λ k lk ne. rw (ne_eqb k c ne) refl) in
      let here : buffer_weight (room c) (put s.input c i c) (put s.buffer c l c) ≡ buffer_weight (room c) i l = rw (eq-eqb c c refl) refl in
      omega arith

  grant_falls : (s : State) (d c h : ℕ) (rest : List NChar) (b : Bool) → c < net.channels → s.input c ≡ Idle → s.buffer c ≡ Data h ∷ rest → measure (after_grant s d c (if b then rest else Data h ∷ rest)) + 8 ≤ measure s
  grant_falls s d c h rest b lt idle front =
      let a = buffer_change s c (Held d) (if b then rest else Data h ∷ rest) lt in
      let old : buffer_weight (room c) (s.input c) (s.buffer c) ≡ buffer_weight (room c) Idle (Data h ∷ rest) = ap (λ i. buffer_weight (room c) i (s.buffer c)) idle ∙ ap (buffer_weight (room c) Idle) front in
      let g = buffer_grant (room c) d h rest b in
      omega arith

  forward_falls : (s : State) (c d : ℕ) (first : NChar) (rest : List NChar) (left : ℕ) → c < net.channels → d < net.channels → number cert c < number cert d → s.input c ≡ Held d → s.buffer c ≡ first ∷ rest → measure (after_forward s c d first rest left) + 8 ≤ measure s
  forward_falls s c d first rest left lc ld up held front =
      let t = after_forward s c d first rest left in
      let a = buffer_change s c (input_after first (Held d)) rest lc in
      let old : buffer_weight (room c) (s.input c) (s.buffer c) ≡ buffer_weight (room c) (Held d) (first ∷ rest) = ap (λ i. buffer_weight (room c) i (s.buffer c)) held ∙ ap (buffer_weight (room c) (Held d)) front in
      let p = buffer_pass (room c) d first rest in
      let falls = room_falls c d lc ld up in
      let b : of_wires t + (40 * room d + 24) * length (s.wire d) ≡ of_wires s + (40 * room d + 24) * length (s.wire d ++ first ∷ []) = total_at net.channels (λ k l. (40 * room k + 24) * length l) s.wire d (s.wire d ++ first ∷ []) ld in
      let w : (40 * room d + 24) * length (s.wire d ++ first ∷ []) ≡ (40 * room d + 24) * (length (s.wire d) + 1) = ap (λ k. (40 * room d + 24) * k) (length_push (s.wire d) first) in
      omega arith

  emit_falls : (s : State) (n : ℕ) (first : NChar) (rest : List NChar) (left : ℕ) → n < net.nodes → net.out n < net.channels → s.to_send n ≡ first ∷ rest → measure (after_emit net s n first rest left) + 8 ≤ measure s
  emit_falls s n first rest left ln lt is =
      let t = after_emit net s n first rest left in
      let c = net.out n in
      let r = room c in
      let a : of_sending t + (40 * r + 32) * length (s.to_send n) ≡ of_sending s + (40 * r + 32) * length rest = total_at net.nodes (λ k l. (40 * room (net.out k) + 32) * length l) s.to_send n rest ln in
      let v : (40 * r + 32) * length (s.to_send n) ≡ (40 * r + 32) * suc (length rest) = ap (λ l. (40 * r + 32) * length l) is in
      let b : of_wires t + (40 * r + 24) * length (s.wire c) ≡ of_wires s + (40 * r + 24) * length (s.wire c ++ first ∷ []) = total_at net.channels (λ k l. (40 * room k + 24) * length l) s.wire c (s.wire c ++ first ∷ []) lt in
      let w : (40 * r + 24) * length (s.wire c ++ first ∷ []) ≡ (40 * r + 24) * (length (s.wire c) + 1) = ap (λ k. (40 * r + 24) * k) (length_push (s.wire c) first) in
      omega arith

  accept_falls : (s : State) (n : ℕ) (bytes : List ℕ) (first : NChar) (rest : List NChar) → net.into n < net.channels → s.input (net.into n) ≡ Idle → s.buffer (net.into n) ≡ first ∷ rest → measure (after_accept net s n bytes first rest) + 8 ≤ measure s
  accept_falls s n bytes first rest lt idle front =
      let t = after_accept net s n bytes first rest in
      let c = net.into n in
      let d : of_buffers t + buffer_weight (room c) (s.input c) (s.buffer c) ≡ of_buffers s + buffer_weight (room c) (s.input c) rest = total_at net.channels (λ k l. buffer_weight (room k) (s.input k) l) s.buffer c rest lt in
      let old : buffer_weight (room c) (s.input c) (s.buffer c) ≡ buffer_weight (room c) Idle (first ∷ rest) = ap (λ i. buffer_weight (room c) i (s.buffer c)) idle ∙ ap (buffer_weight (room c) Idle) front in
      let new : buffer_weight (room c) (s.input c) rest ≡ buffer_weight (room c) Idle rest = ap (λ i. buffer_weight (room c) i rest) idle in
      let w1 = idle_weight (room c) (first ∷ rest) in
      let w2 = idle_weight (room c) rest in
      omega arith

  -- a packet that is begun adds at most so much
  send_adds : (s : State) (n : ℕ) (l : List NChar) → n < net.nodes → net.out n < net.channels → s.to_send n ≡ [] → measure (after_begin s n l) + 8 * length l ≤ measure s + 40 * (net.channels * length l)
  send_adds s n l ln lt free =
      let t = after_begin s n l in
      let r = room (net.out n) in
      let a : of_sending t + (40 * r + 32) * length (s.to_send n) ≡ of_sending s + (40 * r + 32) * length l = total_at net.nodes (λ k x. (40 * room (net.out k) + 32) * length x) s.to_send n l ln in
      let v : (40 * r + 32) * length (s.to_send n) ≡ (40 * r + 32) * 0 = ap (λ x. (40 * r + 32) * length x) free in
      let under = room_below (net.out n) lt in
      let below : r + 1 ≤ net.channels = omega arith in
      let product : (r + 1) * length l ≤ net.channels * length l = grind (arith, below) in
      omega arith

  module _ (ok : IsNetwork net) (acc : IsAccepted net cert) where
    node_idle : (g : Ghost) (n : ℕ) → n < net.nodes → (i : InputState) → InputIs net cert g.rest g.coming (net.into n) i → i ≡ Idle
    node_idle g n ln Idle h = refl
    node_idle g n ln (Held d) h = absurd (node_or_switch net cert ok acc n h.switch (net.end_of (net.into n)) (ok.into_ends n ln).1 h.ends)
    node_idle g n ln Spilling h = absurd h

    step_falls : (s : State) (g : Ghost) (step : Step) (t : State) (begun : List Begun) → Leads net s step t → Begins net s step begun → Inv net cert s g → HasCredit net s → measure t + 8 * cost step ≤ measure s + 40 * (net.channels * characters net begun)
    step_falls s g (Fct c) t begun h b inv num = let e = ap measure h.after in let f = fct_falls s c h.in_net h.few in omega arith
    step_falls s g (FctIn c) t begun h b inv num = let e = ap measure h.after in let f = fct_in_falls s c h.remaining h.in_net h.under_way in omega arith
    step_falls s g (Arrive c) t begun h b inv num =
        let e = ap measure h.after in
        let n = num.at c h.in_net in
        let equation = n.equation in
        let few = n.few in
        let l : length (s.wire c) ≡ suc (length h.rest) = ap length h.on_wire in
        let f = arrive_falls s c h.first h.rest h.in_net h.on_wire (omega arith) few in
        omega arith
    step_falls s g (Grant d c) t begun h b inv num = let e = ap measure h.after in let f = grant_falls s d c h.h h.rest (net.deletes h.switch h.h) h.in_net h.idle h.front in omega arith
    step_falls s g (Drop c) t begun h b inv num = absurd (never_drops net cert ok acc s g c h.switch h.first h.rest t h.in_net h.at h.idle h.front h.after inv)
    step_falls s g (Forward c) t begun h b inv num =
        let e = ap measure h.after in
        let held : Holds net cert g.rest g.coming c h.d = subst (InputIs net cert g.rest g.coming c) h.held (inv.inputs c h.in_net) in
        let f = forward_falls s c h.d h.first h.rest h.remaining h.in_net held.in_net held.rising h.held h.front in
        omega arith
    step_falls s g (Spill c) t begun h b inv num = absurd (subst (InputIs net cert g.rest g.coming c) h.spilling (inv.inputs c h.in_net))
    step_falls s g (Begin f cargo end) t begun h b inv num =
        let e = ap measure h.after in
        let n = (net.flow f).from in
        let lf : f < net.flows = (let a = h.declared.declared in let b = ok.flows_declared in omega arith) in
        let ln = (ok.flow_ends f lf).0 in
        let a = send_adds s n (form net f 0 cargo end) ln (ok.out_starts n ln).0 h.sends_nothing in
        let c : net.channels * characters net begun ≡ net.channels * (0 + length (form net f 0 cargo end)) = ap (λ l. net.channels * characters net l) b in
        omega arith
    step_falls s g (Emit n) t begun h b inv num = let e = ap measure h.after in let f = emit_falls s n h.first h.rest h.remaining h.in_net (ok.out_starts n h.in_net).0 h.sending in omega arith
    step_falls s g (Accept n) t begun h b inv num =
        let e = ap measure h.after in
        let lc = (ok.into_ends n h.in_net).0 in
        let f = accept_falls s n h.bytes h.first h.rest lc (node_idle g n h.in_net (s.input (net.into n)) (inv.inputs (net.into n) lc)) h.front in
        omega arith
    step_falls s g (Reply n) t begun h b inv num =
        let e = ap measure h.after in
        let p = b.0 in
        let r = b.1 in
        let both : h.reply ∷ h.others ≡ r.reply ∷ r.others = sym h.waits ∙ r.waits in
        let same : h.reply ≡ r.reply = cc in
        let is : reply_packet h.reply ≡ form net p.flow 0 p.cargo p.end = reply_is net h.reply p.flow p.cargo p.end (ap (λ (a : PendingReply). a.address) same ∙ r.goes) (ap (λ (a : PendingReply). a.cargo) same ∙ sym r.cargo) r.end in
        let a = send_adds s n (reply_packet h.reply) h.in_net (ok.out_starts n h.in_net).0 h.sends_nothing in
        let after : measure (after_reply s n h.reply h.others) ≡ measure (after_begin s n (reply_packet h.reply)) = refl in
        let some = length_push (map Data (h.reply.address ++ h.reply.cargo)) Eop in
        let c : net.channels * characters net begun ≡ net.channels * (0 + length (form net p.flow 0 p.cargo p.end)) = ap (λ l. net.channels * characters net l) b.2 in
        let d : net.channels * length (reply_packet h.reply) ≡ net.channels * length (form net p.flow 0 p.cargo p.end) = ap (λ l. net.channels * length l) is in
        omega arith

    characters_append : (a b : List Begun) → characters net (a ++ b) ≡ characters net a + characters net b
    characters_append a b = sum_by-append (length_begun net) a b

    run_falls : (steps : List Step) (s : State) (g : Ghost) (t : State) (begun : List Begun) → RunOf net s steps begun t → Inv net cert s g → HasCredit net s → measure t + 8 * moves steps ≤ measure s + 40 * (net.channels * characters net begun)
    run_falls [] s g t begun r inv num = let e = ap measure r.1 in omega arith
    run_falls (step ∷ steps) s g t begun r inv num =
        let k = step_keeps net cert ok acc s g step r.0 r.1 r.3 r.4 inv in
        let f = step_falls s g step r.0 r.1 r.3 r.4 inv num in
        let l = run_falls steps r.0 k.ghost t r.2 r.6 k.inv (step_numbers net s step r.0 r.3 num) in
        let m = moves_cons step steps in
        let c : net.channels * characters net begun ≡ net.channels * (characters net r.1 + characters net r.2) = ap (λ l. net.channels * characters net l) r.5 ∙ ap (λ k. net.channels * k) (characters_append r.1 r.2) in
        omega arith

    total_const : (n k : ℕ) → total n (λ c. k) ≡ n * k
    total_const zero k = omega arith
    total_const (suc n) k = let r = total_const n k in omega arith

    empty_measure : measure (empty net) ≡ 112 * net.channels
    empty_measure =
        let a = total_const net.channels 112 in
        let b : total net.channels (λ c. 0) ≡ 0 = total_zero net.channels in
        let w : total net.channels (λ c. (40 * room c + 24) * 0) ≡ 0 = total_same net.channels (λ c. (40 * room c + 24) * 0) (λ c. 0) (λ k lt. omega arith) ∙ b in
        let f : total net.channels (λ c. buffer_weight (room c) Idle []) ≡ 0 = total_same net.channels (λ c. buffer_weight (room c) Idle []) (λ c. 0) (λ k lt. let i = idle_weight (room k) [] in omega arith) ∙ b in
        let z : total net.nodes (λ n. (40 * room (net.out n) + 32) * 0) ≡ 0 = total_same net.nodes (λ n. (40 * room (net.out n) + 32) * 0) (λ c. 0) (λ k lt. omega arith) ∙ total_zero net.nodes in
        omega arith

    pub is_bounded : IsBounded net
    is_bounded steps begun s r =
        let f = run_falls steps (empty net) (none net cert ok acc) s begun r (empty_inv net cert ok acc) (empty_credit net ok) in
        let e = empty_measure in
        omega arith
