-- What a node owes: the replies that wait, and the one that it sends.
use Rattle.std.proofs.Common.{List, None, Option, Some, [], ap, append-nil, append_assoc, arith, eq-eqb, find, length, map, ne_eqb, refl, subst, sym, ℕ, ⊎_elim, ◌++◌, ◌+◌, ◌<◌, ◌∙◌, ◌∷◌, ◌≡◌, ◌≢◌, ◌≤◌}
use Rattle.std.proofs.lemmas.Bool.{cases_eq}
use Rattle.std.proofs.lemmas.List.{length_push, reverse-append}
use Rattle.std.specs.Prelude.{if◌then◌else◌}
use Rattle.sw_char.specs.declared.nchar.End.{End}
use Rattle.sw_char.specs.declared.nchar.NChar.{NChar}
use Rattle.sw_char.specs.declared.nchar.NChar.TheVariants.{Data, Eep, Eop}
use Rattle.sw_machine.proofs.Cuts.{no_cons}
use Rattle.sw_machine.proofs.Lists.{put_here}
use Rattle.sw_machine.specs.Network.{Network, form}
use Rattle.sw_rmap.specs.Owing.{owed_after, owed_with, pending_with, PendingReply, reply_packet}
use Rattle.sw_machine.specs.Owed.{IsSendingReply, Owes, Settles, begins_at, last_beginning}
use Rattle.sw_machine.specs.Runs.{Run}
use Rattle.sw_machine.specs.State.{State, after_begin, empty, reply_at}
use Rattle.sw_machine.specs.Steps.{Accept, Arrive, Begin, Drop, Drops, Emit, Fct, FctIn, Forward, Grant, Leads, Reply, Spill, Step}

module _ (net : Network) (n : ℕ) where
  -- the last beginning at n, a step later
  abbrev next : Option Step → Step → Option Step
  next last step = if begins_at net n step then Some step else last

  pub last_push : (steps : List Step) (step : Step) → last_beginning net n (steps ++ step ∷ []) ≡ next (last_beginning net n steps) step
  last_push steps step = ap (find (begins_at net n)) (reverse-append steps (step ∷ []))

  pub data Owing (last : Option Step) (to_send : List NChar) (pending : List PendingReply) (owed : ℕ) : Type 0 where
    OneMore : last ≡ Some (Reply n) → to_send ≢ [] → owed ≡ length pending + 1 → Owing last to_send pending owed
    AsMany : (last ≡ Some (Reply n) → to_send ≡ []) → owed ≡ length pending → Owing last to_send pending owed

  pub record Holding (last : Option Step) (to_send : List NChar) (pending : List PendingReply) (owed : ℕ) : Type 0 where
    pub within : owed ≤ net.slots n
    pub owing : Owing last to_send pending owed

  abbrev pub HoldingAt : Option Step → State → Type 0
  HoldingAt last s = Holding last (s.to_send n) (s.pending n) (s.owed n)

  no_begin_is_reply : (f : ℕ) (cargo : List ℕ) (end : End) → Some (Begin f cargo end) ≡ Some (Reply n) → ⊥
  no_begin_is_reply f cargo end e = cc

  begun : (last : Option Step) (to_send more : List NChar) (pending : List PendingReply) (owed f : ℕ) (cargo : List ℕ) (end : End) → to_send ≡ [] → Holding last to_send pending owed → Holding (Some (Begin f cargo end)) more pending owed
  begun last to_send more pending owed f cargo end nothing h = record { within = h.within; owing = waits h.owing }
    where
      waits : Owing last to_send pending owed → Owing (Some (Begin f cargo end)) more pending owed
      waits (OneMore l some e) = absurd (some nothing)
      waits (AsMany l e) = AsMany (λ same. absurd (no_begin_is_reply f cargo end same)) e

  replied : (last : Option Step) (to_send : List NChar) (r : PendingReply) (others : List PendingReply) (owed : ℕ) → to_send ≡ [] → Holding last to_send (r ∷ others) owed → Holding (Some (Reply n)) (reply_packet r) others owed
  replied last to_send r others owed nothing h = record { within = h.within; owing = sends h.owing }
    where
      some : (bytes : List ℕ) → map Data bytes ++ Eop ∷ [] ≢ []
      some [] e = no_cons Eop [] e
      some (b ∷ bytes) e = no_cons (Data b) (map Data bytes ++ Eop ∷ []) e

      sends : Owing last to_send (r ∷ others) owed → Owing (Some (Reply n)) (reply_packet r) others owed
      sends (OneMore l more e) = absurd (more nothing)
      sends (AsMany l e) = OneMore refl (some (r.address ++ r.cargo)) (omega arith)

  emitted : (last : Option Step) (first : NChar) (rest : List NChar) (pending : List PendingReply) (owed : ℕ) → Holding last (first ∷ rest) pending owed → Holding last rest pending (owed_after rest pending owed)
  emitted last first (x ∷ rest) pending owed h = record { within = h.within; owing = goes_on h.owing }
    where
      goes_on : Owing last (first ∷ x ∷ rest) pending owed → Owing last (x ∷ rest) pending owed
      goes_on (OneMore l some e) = OneMore l (no_cons x rest) e
      goes_on (AsMany l e) = AsMany (λ is. absurd (no_cons first (x ∷ rest) (l is))) e
  emitted last first [] pending owed h = record { within = under h.owing; owing = AsMany (λ is. refl) refl }
    where
      under : Owing last (first ∷ []) pending owed → length pending ≤ net.slots n
      under (OneMore l some e) = let w = h.within in omega arith
      under (AsMany l e) = let w = h.within in omega arith

  accepted : (last : Option Step) (to_send : List NChar) (pending : List PendingReply) (owed : ℕ) (o : Option PendingReply) → owed < net.slots n → Holding last to_send pending owed → Holding last to_send (pending_with pending o) (owed_with owed o)
  accepted last to_send pending owed None less h = h
  accepted last to_send pending owed (Some r) less h = record { within = omega arith; owing = more h.owing }
    where
      more : Owing last to_send pending owed → Owing last to_send (pending ++ r ∷ []) (owed + 1)
      more (OneMore l some e) = OneMore l some (let p = length_push pending r in omega arith)
      more (AsMany l e) = AsMany l (let p = length_push pending r in omega arith)

  dropped : (last : Option Step) (s : State) (c switch : ℕ) (first : NChar) (rest : List NChar) (t : State) → Drops net s c switch first rest t → HoldingAt last s → HoldingAt last t
  dropped last s c switch (Data b) rest t d h = subst (HoldingAt last) (sym d.1) h
  dropped last s c switch Eop rest t d h = subst (HoldingAt last) (sym d) h
  dropped last s c switch Eep rest t d h = subst (HoldingAt last) (sym d) h

  step_holds : (last : Option Step) (s : State) (step : Step) (t : State) → Leads net s step t → HoldingAt last s → HoldingAt (next last step) t
  step_holds last s (Fct c) t h i = subst (HoldingAt last) (sym h.after) i
  step_holds last s (FctIn c) t h i = subst (HoldingAt last) (sym h.after) i
  step_holds last s (Arrive c) t h i = subst (HoldingAt last) (sym h.after) i
  step_holds last s (Grant d c) t h i = subst (HoldingAt last) (sym h.after) i
  step_holds last s (Drop c) t h i = dropped last s c h.switch h.first h.rest t h.after i
  step_holds last s (Forward c) t h i = subst (HoldingAt last) (sym h.after) i
  step_holds last s (Spill c) t h i = subst (HoldingAt last) (sym h.after) i
  step_holds last s (Begin f cargo end) t h i =
      let m = (net.flow f).from in
      let u = after_begin s m (form net f 0 cargo end) in
      subst (HoldingAt (next last (Begin f cargo end))) (sym h.after) (⊎_elim
      (λ same. rw (eq-eqb m n same, eq-eqb n m (sym same)) (begun last (s.to_send n) (form net f 0 cargo end) (s.pending n) (s.owed n) f cargo end (ap s.to_send (sym same) ∙ h.sends_nothing) i))
      (λ ne. rw (ne_eqb m n ne, ne_eqb n m (λ e. ne (sym e))) i)
      (cases_eq m n))
  step_holds last s (Emit m) t h i = subst (HoldingAt last) (sym h.after) (⊎_elim
      (λ same. rw (eq-eqb n m (sym same)) (subst (λ m. Holding last h.rest (s.pending n) (owed_after h.rest (s.pending m) (s.owed m))) (sym same)
      (emitted last h.first h.rest (s.pending n) (s.owed n) (subst (λ l. Holding last l (s.pending n) (s.owed n)) (ap s.to_send (sym same) ∙ h.sending) i))))
      (λ ne. rw (ne_eqb n m (λ e. ne (sym e))) i)
      (cases_eq m n))
  step_holds last s (Accept m) t h i = subst (HoldingAt last) (sym h.after) (⊎_elim
      (λ same. rw (eq-eqb n m (sym same)) (subst (λ m. Holding last (s.to_send n) (pending_with (s.pending m) (reply_at net m (s.memory m) h.bytes h.first)) (owed_with (s.owed m) (reply_at net m (s.memory m) h.bytes h.first))) (sym same)
      (accepted last (s.to_send n) (s.pending n) (s.owed n) (reply_at net n (s.memory n) h.bytes h.first) (subst (λ m. s.owed m < net.slots m) same h.owes_less) i)))
      (λ ne. rw (ne_eqb n m (λ e. ne (sym e))) i)
      (cases_eq m n))
  step_holds last s (Reply m) t h i = subst (HoldingAt (next last (Reply m))) (sym h.after) (⊎_elim
      (λ same. rw (eq-eqb m n same, eq-eqb n m (sym same)) (subst (λ k. Holding (Some (Reply k)) (reply_packet h.reply) h.others (s.owed n)) (sym same)
      (replied last (s.to_send n) h.reply h.others (s.owed n) (ap s.to_send (sym same) ∙ h.sends_nothing) (subst (λ p. Holding last (s.to_send n) p (s.owed n)) (ap s.pending (sym same) ∙ h.waits) i))))
      (λ ne. rw (ne_eqb m n ne, ne_eqb n m (λ e. ne (sym e))) i)
      (cases_eq m n))

  run_holds : (before steps : List Step) (s t : State) → Run net s steps t → HoldingAt (last_beginning net n before) s → HoldingAt (last_beginning net n (before ++ steps)) t
  run_holds before [] s t r h = subst (λ l. HoldingAt (last_beginning net n l) t) (sym (append-nil before)) (subst (HoldingAt (last_beginning net n before)) (sym r) h)
  run_holds before (step ∷ steps) s t r h =
      let one = step_holds (last_beginning net n before) s step r.0 r.1 h in
      subst (λ l. HoldingAt (last_beginning net n l) t) (append_assoc before (step ∷ []) steps)
      (run_holds (before ++ step ∷ []) steps r.0 t r.2 (subst (λ l. HoldingAt l r.0) (sym (last_push before step)) one))

  pub reached_holds : (steps : List Step) (s : State) → Run net (empty net) steps s → HoldingAt (last_beginning net n steps) s
  reached_holds steps s r = run_holds [] steps (empty net) s r (record { within = omega arith; owing = AsMany (λ e. refl) refl })

  owes_of : (steps : List Step) (s : State) → s.owed n ≤ net.slots n → Owing (last_beginning net n steps) (s.to_send n) (s.pending n) (s.owed n) → Owes net n steps s
  owes_of steps s within (OneMore l some e) = record { within = within; sending = λ r. e; waiting = λ no. absurd (no (record { last = l; sending = some })) }
  owes_of steps s within (AsMany l e) = record { within = within; sending = λ r. absurd (r.sending (l r.last)); waiting = λ no. e }

  pub owes : (steps : List Step) (s : State) → Run net (empty net) steps s → Owes net n steps s
  owes steps s r = let h = reached_holds steps s r in owes_of steps s h.within h.owing

  settled : (steps : List Step) (s : State) (rest : List NChar) → Owes net n steps s → (IsSendingReply net n steps s → rest ≡ [] → s.owed n ≡ owed_after rest (s.pending n) (s.owed n) + 1) × ((IsSendingReply net n steps s → rest ≡ [] → ⊥) → owed_after rest (s.pending n) (s.owed n) ≡ s.owed n)
  settled steps s [] o = (λ sends e. o.sending sends, λ no. sym (o.waiting (λ sends. no sends refl)))
  settled steps s (x ∷ rest) o = (λ sends e. absurd (no_cons x rest e), λ no. refl)

  pub settles : (steps : List Step) (s : State) → Run net (empty net) steps s → (t : State) → Leads net s (Emit n) t → Settles net n steps s t
  settles steps s r t h =
      let o = settled steps s h.rest (owes steps s r) in
      let sent : t.to_send n ≡ h.rest = ap (λ (u : State). u.to_send n) h.after ∙ put_here s.to_send n h.rest in
      let owed : t.owed n ≡ owed_after h.rest (s.pending n) (s.owed n) = ap (λ (u : State). u.owed n) h.after ∙ put_here s.owed n (owed_after h.rest (s.pending n) (s.owed n)) in
      record {
        last = λ sends e. o.0 sends (sym sent ∙ e) ∙ ap (λ k. k + 1) (sym owed);
        other = λ no. owed ∙ o.1 (λ sends e. no sends (sent ∙ e));
      }
