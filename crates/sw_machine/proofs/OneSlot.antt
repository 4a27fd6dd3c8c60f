-- With one slot everywhere the machine is the one with one pending reply and a flag.
use Rattle.std.proofs.Common.{List, None, Option, Some, [], ap, arith, is_some, le-ltb, length, lt-ltb, nat_lt, refl, suc, sym, ℕ, ⊎_elim, ◌++◌, ◌+◌, ◌<◌, ◌∙◌, ◌∷◌, ◌≡◌, ◌≤◌}
use Rattle.std.proofs.Math.Path.{fun_ext}
use Rattle.std.proofs.lemmas.Bool.{cases_eq}
use Rattle.std.proofs.lemmas.Bool.Decides.{nat_tests}
use Rattle.sw_char.specs.declared.nchar.NChar.{NChar}
use Rattle.sw_char.specs.declared.nchar.NChar.TheVariants.{Data, Eep, Eop}
use Rattle.sw_machine.proofs.Cuts.{cons_tail}
use Rattle.sw_machine.proofs.Lists.{put_here, put_there}
use Rattle.sw_machine.proofs.Owed.{AsMany, OneMore, Owing, reached_holds}
use Rattle.sw_machine.specs.Network.{Network}
use Rattle.sw_rmap.specs.Owing.{owed_after, owed_with, pending_with, PendingReply, reply_packet}
use Rattle.sw_machine.specs.OneSlot.{DropsOne, IsOneReply, LeadsOne, OneReplyState, answering_after, first_of_list, one_reply}
use Rattle.sw_machine.specs.Owed.{last_beginning}
use Rattle.sw_machine.specs.Runs.{IsReached}
use Rattle.sw_machine.specs.State.{State, after_accept, after_drop_byte, after_drop_marker, after_emit, after_reply, memory_at, put, reply_at}
use Rattle.sw_machine.specs.Steps.{Accept, Arrive, Begin, Drop, Drops, Emit, Fct, FctIn, Forward, Grant, Leads, Reply, Spill, Step}
use Rattle.std.proofs.lemmas.List.{nil_from_length}

none_first : (l : List PendingReply) → first_of_list l ≡ None → l ≡ []
none_first [] e = refl
none_first (r ∷ l) e = absurd (cc)

one_first : (l : List PendingReply) (r : PendingReply) → length l ≤ 1 → first_of_list l ≡ Some r → l ≡ r ∷ []
one_first [] r few e = absurd (cc)
one_first (x ∷ []) r few e = let is : x ≡ r = cc in ap (λ x. x ∷ []) is
one_first (x ∷ y ∷ l) r few e = absurd (omega arith)

-- what is put in and then seen is what is seen and then put in
put_seen : {A B : Type 0} (f : ℕ → A) (n : ℕ) (x : A) (see : A → B) (y : B) → see x ≡ y → (λ m. see (put f n x m)) ≡ put (λ m. see (f m)) n y
put_seen f n x see y e = fun_ext (λ m. ⊎_elim
    (λ same. ap (λ k. see (put f n x k)) same ∙ ap see (put_here f n x) ∙ e ∙ sym (put_here (λ m. see (f m)) n y) ∙ ap (put (λ m. see (f m)) n y) (sym same))
    (λ ne. ap see (put_there f n x m ne) ∙ sym (put_there (λ m. see (f m)) n y m ne))
    (cases_eq m n))

module _ (net : Network) (one : (n : ℕ) → n < net.nodes → net.slots n ≡ 1) (s : State) (reached : IsReached net s) where
  -- a node owes at most one reply, and no less than are pending
  owes : (n : ℕ) → n < net.nodes → (length (s.pending n) ≤ s.owed n) × (s.owed n ≤ 1)
  owes n ln =
      let h = reached_holds net n reached.0 s reached.1 in
      let slot = one n ln in
      let w = h.within in
      (enough h.owing, omega arith)
    where
      enough : Owing net n (last_beginning net n reached.0) (s.to_send n) (s.pending n) (s.owed n) → length (s.pending n) ≤ s.owed n
      enough (OneMore l some e) = omega arith
      enough (AsMany l e) = omega arith

  still_answers : (rest : List NChar) (pending : List PendingReply) (owed : ℕ) → length pending ≤ owed → nat_lt 0 (owed_after rest pending owed) ≡ answering_after rest (first_of_list pending) (nat_lt 0 owed)
  still_answers (x ∷ rest) pending owed le = refl
  still_answers [] [] owed le = refl
  still_answers [] (r ∷ pending) owed le = lt-ltb 0 (suc (length pending)) (omega arith) ∙ sym (lt-ltb 0 owed (omega arith))

  emitted : (n : ℕ) (first : NChar) (rest : List NChar) (remaining : ℕ) → n < net.nodes → one_reply (after_emit net s n first rest remaining) ≡ record (one_reply s) { to_send = put s.to_send n rest; wire = put s.wire (net.out n) (s.wire (net.out n) ++ first ∷ []); credit = put s.credit (net.out n) remaining; answering = put (one_reply s).answering n (answering_after rest ((one_reply s).pending n) ((one_reply s).answering n)) }
  emitted n first rest remaining ln =
      let o = owes n ln in
      ap (λ f. record (one_reply (after_emit net s n first rest remaining)) { answering = f })
      (put_seen s.owed n (owed_after rest (s.pending n) (s.owed n)) (nat_lt 0) (answering_after rest (first_of_list (s.pending n)) (nat_lt 0 (s.owed n))) (still_answers rest (s.pending n) (s.owed n) o.0))

  now_first : (pending : List PendingReply) (o : Option PendingReply) → pending ≡ [] → first_of_list (pending_with pending o) ≡ o
  now_first [] None e = refl
  now_first [] (Some r) e = refl
  now_first (x ∷ pending) o e = absurd (cc)

  now_owes : (owed : ℕ) (o : Option PendingReply) → owed ≡ 0 → nat_lt 0 (owed_with owed o) ≡ is_some o
  now_owes owed None e = le-ltb 0 owed (omega arith)
  now_owes owed (Some r) e = lt-ltb 0 (owed + 1) (omega arith)

  accepted : (n : ℕ) (bytes : List ℕ) (first : NChar) (rest : List NChar) → s.owed n ≡ 0 → n < net.nodes → one_reply (after_accept net s n bytes first rest) ≡ record (one_reply s) { buffer = put s.buffer (net.into n) rest; taken = put s.taken n (s.taken n ++ first ∷ []); memory = put s.memory n (memory_at net n (s.memory n) bytes first); pending = put (one_reply s).pending n (reply_at net n (s.memory n) bytes first); answering = put (one_reply s).answering n (is_some (reply_at net n (s.memory n) bytes first)) }
  accepted n bytes first rest none ln =
      let o = owes n ln in
      let r = reply_at net n (s.memory n) bytes first in
      let u = one_reply (after_accept net s n bytes first rest) in
      let p = put_seen s.pending n (pending_with (s.pending n) r) first_of_list r (now_first (s.pending n) r (nil_from_length (s.pending n) (let le = o.0 in omega arith))) in
      let a = put_seen s.owed n (owed_with (s.owed n) r) (nat_lt 0) (is_some r) (now_owes (s.owed n) r none) in
      ap (λ f. record u { pending = f }) p ∙ ap (λ f. record u { pending = put (one_reply s).pending n r; answering = f }) a

  replied : (n : ℕ) (reply : PendingReply) → one_reply (after_reply s n reply []) ≡ record (one_reply s) { to_send = put s.to_send n (reply_packet reply); pending = put (one_reply s).pending n None }
  replied n reply = ap (λ f. record (one_reply (after_reply s n reply [])) { pending = f }) (put_seen s.pending n [] first_of_list None refl)

  drops_there : (c switch : ℕ) (first : NChar) (rest : List NChar) (t : State) → Drops net s c switch first rest t → DropsOne net (one_reply s) c switch first rest (one_reply t)
  drops_there c switch (Data b) rest t d = (d.0, ap one_reply d.1)
  drops_there c switch Eop rest t d = ap one_reply d
  drops_there c switch Eep rest t d = ap one_reply d

  drops_back : (c switch : ℕ) (first : NChar) (rest : List NChar) (p : OneReplyState) → DropsOne net (one_reply s) c switch first rest p → (t : State) × Drops net s c switch first rest t × (one_reply t ≡ p)
  drops_back c switch (Data b) rest p d = (after_drop_byte s c, (d.0, refl), sym d.1)
  drops_back c switch Eop rest p d = (after_drop_marker s c rest, refl, sym d)
  drops_back c switch Eep rest p d = (after_drop_marker s c rest, refl, sym d)

  there : (step : Step) (t : State) → Leads net s step t → LeadsOne net (one_reply s) step (one_reply t)
  there (Fct c) t h = record { in_net = h.in_net; room = h.room; few = h.few; after = ap one_reply h.after }
  there (FctIn c) t h = record { in_net = h.in_net; remaining = h.remaining; under_way = h.under_way; after = ap one_reply h.after }
  there (Arrive c) t h = record { in_net = h.in_net; first = h.first; rest = h.rest; on_wire = h.on_wire; after = ap one_reply h.after }
  there (Grant d c) t h = record { in_net = h.in_net; switch = h.switch; at = h.at; idle = h.idle; h = h.h; rest = h.rest; front = h.front; named = h.named; not_held = h.not_held; after = ap one_reply h.after }
  there (Drop c) t h = record { in_net = h.in_net; switch = h.switch; at = h.at; idle = h.idle; first = h.first; rest = h.rest; front = h.front; after = drops_there c h.switch h.first h.rest t h.after }
  there (Forward c) t h = record { in_net = h.in_net; d = h.d; held = h.held; first = h.first; rest = h.rest; front = h.front; remaining = h.remaining; credit = h.credit; after = ap one_reply h.after }
  there (Spill c) t h = record { in_net = h.in_net; spilling = h.spilling; first = h.first; rest = h.rest; front = h.front; after = ap one_reply h.after }
  there (Begin f cargo end) t h = record { declared = h.declared; sends_nothing = h.sends_nothing; none_pending = ap first_of_list h.none_pending; after = ap one_reply h.after }
  there (Emit n) t h = record { in_net = h.in_net; first = h.first; rest = h.rest; sending = h.sending; remaining = h.remaining; credit = h.credit; after = ap one_reply h.after ∙ emitted n h.first h.rest h.remaining h.in_net }
  there (Accept n) t h =
      let slot = one n h.in_net in
      let less = h.owes_less in
      let none : s.owed n ≡ 0 = omega arith in
      record { in_net = h.in_net; answers_not = le-ltb 0 (s.owed n) (omega arith); first = h.first; rest = h.rest; front = h.front; packets = h.packets; bytes = h.bytes; cut = h.cut; after = ap one_reply h.after ∙ accepted n h.bytes h.first h.rest none h.in_net }
  there (Reply n) t h =
      let o = owes n h.in_net in
      let le = o.0 in
      let few = o.1 in
      let waits = one_first (s.pending n) h.reply (omega arith) (ap first_of_list h.waits) in
      let both : h.reply ∷ h.others ≡ h.reply ∷ [] = sym h.waits ∙ waits in
      record { in_net = h.in_net; reply = h.reply; waits = ap first_of_list h.waits; sends_nothing = h.sends_nothing; after = ap one_reply h.after ∙ ap (λ l. one_reply (after_reply s n h.reply l)) (cons_tail h.reply h.reply h.others [] both) ∙ replied n h.reply }

  back : (step : Step) (p : OneReplyState) → LeadsOne net (one_reply s) step p → (t : State) × Leads net s step t × (one_reply t ≡ p)
  back (Fct c) p h = (_, record { in_net = h.in_net; room = h.room; few = h.few; after = refl }, sym h.after)
  back (FctIn c) p h = (_, record { in_net = h.in_net; remaining = h.remaining; under_way = h.under_way; after = refl }, sym h.after)
  back (Arrive c) p h = (_, record { in_net = h.in_net; first = h.first; rest = h.rest; on_wire = h.on_wire; after = refl }, sym h.after)
  back (Grant d c) p h = (_, record { in_net = h.in_net; switch = h.switch; at = h.at; idle = h.idle; h = h.h; rest = h.rest; front = h.front; named = h.named; not_held = h.not_held; after = refl }, sym h.after)
  back (Drop c) p h =
      let d = drops_back c h.switch h.first h.rest p h.after in
      (d.0, record { in_net = h.in_net; switch = h.switch; at = h.at; idle = h.idle; first = h.first; rest = h.rest; front = h.front; after = d.1 }, d.2)
  back (Forward c) p h = (_, record { in_net = h.in_net; d = h.d; held = h.held; first = h.first; rest = h.rest; front = h.front; remaining = h.remaining; credit = h.credit; after = refl }, sym h.after)
  back (Spill c) p h = (_, record { in_net = h.in_net; spilling = h.spilling; first = h.first; rest = h.rest; front = h.front; after = refl }, sym h.after)
  back (Begin f cargo end) p h = (_, record { declared = h.declared; sends_nothing = h.sends_nothing; none_pending = none_first (s.pending (net.flow f).from) h.none_pending; after = refl }, sym h.after)
  back (Emit n) p h = (after_emit net s n h.first h.rest h.remaining, record { in_net = h.in_net; first = h.first; rest = h.rest; sending = h.sending; remaining = h.remaining; credit = h.credit; after = refl }, emitted n h.first h.rest h.remaining h.in_net ∙ sym h.after)
  back (Accept n) p h =
      let slot = one n h.in_net in
      let none : s.owed n ≡ 0 = grind (arith, nat_tests, h.answers_not) in
      (after_accept net s n h.bytes h.first h.rest, record { in_net = h.in_net; owes_less = omega arith; first = h.first; rest = h.rest; front = h.front; packets = h.packets; bytes = h.bytes; cut = h.cut; after = refl }, accepted n h.bytes h.first h.rest none h.in_net ∙ sym h.after)
  back (Reply n) p h =
      let o = owes n h.in_net in
      let le = o.0 in
      let few = o.1 in
      (after_reply s n h.reply [], record { in_net = h.in_net; reply = h.reply; others = []; waits = one_first (s.pending n) h.reply (omega arith) h.waits; sends_nothing = h.sends_nothing; after = refl }, replied n h.reply ∙ sym h.after)

  pub is_one_reply : (step : Step) → IsOneReply net s step
  is_one_reply step = record { there = there step; back = back step }
