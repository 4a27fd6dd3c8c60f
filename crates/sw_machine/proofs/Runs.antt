-- Each reached state of an accepted network has packets behind its characters, so it goes on.
use Rattle.std.proofs.Common.{Bool, List, None, [], ap, arith, count_by, drop, false, inl, map, refl, slice_index, subst, sym, true, ℕ, ◌++◌, ◌+◌, ◌<◌, ◌∙◌, ◌∷◌, ◌≡◌, ◌≢◌}
use Rattle.std.specs.List.{AllByRecursion}
use Rattle.std.specs.Prelude.{if◌then◌else◌}
use Rattle.sw_char.specs.declared.nchar.End.TheVariants.{Eop as ByEop}
use Rattle.sw_char.specs.declared.nchar.NChar.{NChar}
use Rattle.sw_char.specs.declared.nchar.NChar.TheVariants.{Data, Eep, Eop}
use Rattle.sw_machine.proofs.Balance.{Balance, all_of, count_append, grant_balance, open_balance, reply_is, same_balance, send_balance, total_zero}
use Rattle.sw_machine.proofs.Credit.{reached_numbers}
use Rattle.sw_machine.proofs.Cuts.{no_cons}
use Rattle.sw_machine.proofs.Faults.{at_switch}
use Rattle.sw_machine.proofs.Ghost.{Entry, Fed, Ghost, Holds, InputIs, Inv, IsEntry, Waits, accept_ghost, emit_ghost, flat, form_of, forward_ghost, grant_ghost, open_ghost, passed_on, send_ghost}
use Rattle.sw_machine.proofs.Lists.{drop_byte, next_of, put_here, whole_cons, whole_form}
use Rattle.sw_machine.proofs.Moves.{accept_keeps, arrive_keeps, begin_keeps, emit_keeps, fct_in_keeps, fct_keeps, forward_keeps, grant_keeps, grants_on, heads, idle_rest, open_keeps, reply_keeps}
use Rattle.sw_machine.proofs.Progress.{HaveSlots, goes_on}
use Rattle.sw_machine.specs.Begun.{Begins, Begun, RunOf}
use Rattle.sw_machine.specs.Certificate.{Certificate, IsAccepted, IsListed}
use Rattle.sw_machine.specs.Network.{AnsweredBy, AtNode, AtSwitch, Cell, IsNetwork, Network, left_bytes}
use Rattle.sw_rmap.specs.Owing.{PendingReply, reply_packet}
use Rattle.sw_machine.specs.Packets.{IsCut, Packet, is_marker, marker_of}
use Rattle.sw_machine.specs.Runs.{GoesOn, IsReached, Run, undelivered}
use Rattle.sw_machine.specs.State.{State, after_accept, after_arrive, after_begin, after_emit, after_fct, after_fct_in, after_forward, after_grant, after_reply, empty}
use Rattle.sw_machine.specs.Steps.{Accept, Arrive, Begin, Drop, Drops, Emit, Fct, FctIn, Forward, Grant, Leads, Reply, Spill, Step}
use Rattle.sw_machine.specs.declared.input.InputState.TheVariants.{Idle}

module _ (net : Network) (cert : Certificate) (ok : IsNetwork net) (acc : IsAccepted net cert) where
  -- the packets behind t's characters are those of g and these
  pub record Kept (g : Ghost) (begun : List Begun) (t : State) : Type 0 where
    pub ghost : Ghost
    pub inv : Inv net cert t ghost
    pub balance : Balance net g begun ghost

  keep : (g : Ghost) (begun : List Begun) (t u : State) (g2 : Ghost) → t ≡ u → Inv net cert u g2 → Balance net g begun g2 → Kept g begun t
  keep g begun t u g2 e inv b = record { ghost = g2; inv = subst (λ s. Inv net cert s g2) (sym e) inv; balance = b }

  front_is : (s : State) (g : Ghost) (c switch : ℕ) (first : NChar) (rest : List NChar) → c < net.channels → net.end_of c ≡ AtSwitch switch → s.input c ≡ Idle → s.buffer c ≡ first ∷ rest → Inv net cert s g → first ∷ (rest ++ (s.wire c ++ g.coming c)) ≡ flat net (g.queue c)
  front_is s g c switch first rest lt at idle front inv =
      ap (λ b. b ++ (s.wire c ++ g.coming c)) (sym front) ∙ (inv.streams c lt).content ∙ ap (λ l. l ++ flat net (g.queue c)) (idle_rest net cert ok acc s g c switch lt at idle inv)

  -- a packet at a switch begins with a byte
  no_marker : (c switch : ℕ) (more : List NChar) (m : NChar) → is_marker m ≡ true → (q : List Entry) → net.end_of c ≡ AtSwitch switch → AllByRecursion (IsEntry net cert c) q → m ∷ more ≡ flat net q → ⊥
  no_marker c switch more m is [] at all e = no_cons m more e
  no_marker c switch more m is (x ∷ q) at all e =
      let place = at_switch net cert acc x.flow c x.deleted _ all.0.carried.in_flows all.0.listed at in
      let address = (net.flow x.flow).address in
      let tail = (map Data (drop (x.deleted + 1) address) ++ (map Data x.cargo ++ marker_of x.end ∷ [])) ++ flat net q in
      let front : m ∷ more ≡ Data (slice_index address x.deleted) ∷ tail = e ∙ ap (λ l. (map Data l ++ (map Data x.cargo ++ marker_of x.end ∷ [])) ++ flat net q) (drop_byte address x.deleted place.0) in
      let same : m ≡ Data (slice_index address x.deleted) = cc in
      let bad : is_marker m ≡ false = ap is_marker same in
      cc

  -- nothing is dropped
  pub never_drops : (s : State) (g : Ghost) (c switch : ℕ) (first : NChar) (rest : List NChar) (t : State) → c < net.channels → net.end_of c ≡ AtSwitch switch → s.input c ≡ Idle → s.buffer c ≡ first ∷ rest → Drops net s c switch first rest t → Inv net cert s g → ⊥
  never_drops s g c switch (Data h) rest t lt at idle front d inv =
      let r = heads net cert ok acc c switch h (rest ++ (s.wire c ++ g.coming c)) (g.queue c) at (inv.streams c lt).queued (front_is s g c switch (Data h) rest lt at idle front inv) in
      let e = r.0 in
      let hd = r.2 in
      let place = at_switch net cert acc e.flow c e.deleted _ hd.valid.carried.in_flows hd.valid.listed at in
      place.1 (ap (net.look switch) (sym hd.byte) ∙ d.0)
  never_drops s g c switch Eop rest t lt at idle front d inv = no_marker c switch (rest ++ (s.wire c ++ g.coming c)) Eop refl (g.queue c) at (inv.streams c lt).queued (front_is s g c switch Eop rest lt at idle front inv)
  never_drops s g c switch Eep rest t lt at idle front d inv = no_marker c switch (rest ++ (s.wire c ++ g.coming c)) Eep refl (g.queue c) at (inv.streams c lt).queued (front_is s g c switch Eep rest lt at idle front inv)

  accept_next : (s : State) (g0 g : Ghost) (n : ℕ) (t : State) (begun : List Begun) (ln : n < net.nodes) (ps : List Packet) (bytes : List ℕ) (first : NChar) (rest : List NChar) → IsCut (s.taken n) ps bytes → s.buffer (net.into n) ≡ first ∷ rest → t ≡ after_accept net s n bytes first rest → Inv net cert s g → g.rest (net.into n) ≢ [] → Balance net g0 begun g → Kept g0 begun t
  accept_next s g0 g n t begun ln ps bytes first rest cut front after inv some balance =
      let c = net.into n in
      let next = next_of first (rest ++ (s.wire c ++ g.coming c)) (g.rest c) (flat net (g.queue c)) some (ap (λ b. b ++ (s.wire c ++ g.coming c)) (sym front) ∙ (inv.streams c (ok.into_ends n ln).0).content) in
      keep g0 begun t (after_accept net s n bytes first rest) (accept_ghost net g n next.tail) after (accept_keeps net cert ok acc s g n ps bytes first rest next.tail ln cut front next.is inv) (record { adds = balance.adds })

  accept : (s : State) (g : Ghost) (n : ℕ) (t : State) (begun : List Begun) → begun ≡ [] → (ln : n < net.nodes) (ps : List Packet) (bytes : List ℕ) (first : NChar) (rest : List NChar) → IsCut (s.taken n) ps bytes → s.buffer (net.into n) ≡ first ∷ rest → t ≡ after_accept net s n bytes first rest → Inv net cert s g → (l : List NChar) → g.rest (net.into n) ≡ l → (q : List Entry) → g.queue (net.into n) ≡ q → Kept g begun t
  accept s g n t begun b ln ps bytes first rest cut front after inv (x ∷ l) el q eq = accept_next s g g n t begun ln ps bytes first rest cut front after inv (λ none. no_cons x l (sym el ∙ none)) (same_balance net g begun b)
  accept s g n t begun b ln ps bytes first rest cut front after inv [] el [] eq =
      let c = net.into n in
      absurd (no_cons first (rest ++ (s.wire c ++ g.coming c)) (ap (λ b. b ++ (s.wire c ++ g.coming c)) (sym front) ∙ (inv.streams c (ok.into_ends n ln).0).content ∙ ap (λ l. l ++ flat net (g.queue c)) el ∙ ap (flat net) eq))
  accept s g n t begun b ln ps bytes first rest cut front after inv [] el (e ∷ es) eq =
      accept_next s g (open_ghost net g n e es) n t begun ln ps bytes first rest cut front after (open_keeps net cert ok acc s g n e es ln el eq inv)
      (λ none. whole_cons (form_of net e) (whole_form net e) (sym (put_here g.rest (net.into n) (form_of net e)) ∙ none))
      (open_balance net g n e es begun ln (ok.into_ends n ln).0 eq b)

  pub waits_at : (s : State) (g : Ghost) (n : ℕ) (r : PendingReply) (others : List PendingReply) → n < net.nodes → s.pending n ≡ r ∷ others → Inv net cert s g → Waits net n r
  waits_at s g n r others ln waits inv = (subst (AllByRecursion (Waits net n)) waits (inv.nodes n ln).waits).0

  -- a step begins some packets
  begins : (s : State) (g : Ghost) (step : Step) (t : State) → Leads net s step t → Inv net cert s g → (begun : List Begun) × Begins net s step begun
  begins s g (Begin f cargo end) t h inv = (record { flow = f; cargo = cargo; end = end } ∷ [], refl)
  begins s g (Reply n) t h inv =
      let w = waits_at s g n h.reply h.others h.in_net h.waits inv in
      let b : Begun = record { flow = w.flow; cargo = h.reply.cargo; end = ByEop } in
      (b ∷ [], (b, record { asked = w.asked; in_flows = w.in_flows; by = w.by; at = w.at; reply = h.reply; others = h.others; waits = h.waits; goes = w.goes; cargo = refl; end = refl }, refl))
  begins s g (Fct c) t h inv = ([], refl)
  begins s g (FctIn c) t h inv = ([], refl)
  begins s g (Arrive c) t h inv = ([], refl)
  begins s g (Grant d c) t h inv = ([], refl)
  begins s g (Drop c) t h inv = ([], refl)
  begins s g (Forward c) t h inv = ([], refl)
  begins s g (Spill c) t h inv = ([], refl)
  begins s g (Emit n) t h inv = ([], refl)
  begins s g (Accept n) t h inv = ([], refl)

  pub step_keeps : (s : State) (g : Ghost) (step : Step) (t : State) (begun : List Begun) → Leads net s step t → Begins net s step begun → Inv net cert s g → Kept g begun t
  step_keeps s g (Fct c) t begun h b inv = keep g begun t (after_fct s c) g h.after (fct_keeps net cert ok acc s g c inv) (same_balance net g begun b)
  step_keeps s g (FctIn c) t begun h b inv = keep g begun t (after_fct_in s c h.remaining) g h.after (fct_in_keeps net cert ok acc s g c h.remaining inv) (same_balance net g begun b)
  step_keeps s g (Arrive c) t begun h b inv = keep g begun t (after_arrive s c h.first h.rest) g h.after (arrive_keeps net cert ok acc s g c h.first h.rest h.on_wire inv) (same_balance net g begun b)
  step_keeps s g (Grant d c) t begun h b inv =
      let r = heads net cert ok acc c h.switch h.h (h.rest ++ (s.wire c ++ g.coming c)) (g.queue c) h.at (inv.streams c h.in_net).queued (front_is s g c h.switch (Data h.h) h.rest h.in_net h.at h.idle h.front inv) in
      let starts = ok.look_starts h.switch h.h d h.named in
      let kept = grant_keeps net cert ok acc s g d c h.switch h.h h.rest r.0 r.1 h.in_net h.at h.idle h.front h.named h.not_held r.2 inv in
      let differ : d ≡ c → ⊥ = λ e. grants_on net cert ok acc s g c d h.switch h.h r.0 r.1 (h.rest ++ (s.wire c ++ g.coming c)) h.at h.named r.2 e in
      keep g begun t (after_grant s d c (if net.deletes h.switch h.h then h.rest else Data h.h ∷ h.rest)) (grant_ghost net g d c (passed_on net h.switch r.0) r.1) h.after kept
      (grant_balance net g d c r.0 (passed_on net h.switch r.0) r.1 begun h.in_net starts.0 differ (r.2).is refl b)
  step_keeps s g (Drop c) t begun h b inv = absurd (never_drops s g c h.switch h.first h.rest t h.in_net h.at h.idle h.front h.after inv)
  step_keeps s g (Forward c) t begun h b inv =
      let held : Holds net cert g.rest g.coming c h.d = subst (InputIs net cert g.rest g.coming c) h.held (inv.inputs c h.in_net) in
      let next = next_of h.first (h.rest ++ (s.wire c ++ g.coming c)) (g.rest c) (flat net (g.queue c)) (whole_cons (g.rest c) held.whole) (ap (λ b. b ++ (s.wire c ++ g.coming c)) (sym h.front) ∙ (inv.streams c h.in_net).content) in
      keep g begun t (after_forward s c h.d h.first h.rest h.remaining) (forward_ghost g c h.d next.tail) h.after (forward_keeps net cert ok acc s g c h.d h.first h.rest h.remaining next.tail h.in_net h.held h.front next.is inv) (record { adds = (same_balance net g begun b).adds })
  step_keeps s g (Spill c) t begun h b inv = absurd (subst (InputIs net cert g.rest g.coming c) h.spilling (inv.inputs c h.in_net))
  step_keeps s g (Begin f cargo end) t begun h b inv =
      let e : Entry = record { flow = f; deleted = 0; cargo = cargo; end = end } in
      let n = (net.flow f).from in
      let lf : f < net.flows = (let a = h.declared.declared in let b = ok.flows_declared in omega arith) in
      let ln = (ok.flow_ends f lf).0 in
      keep g begun t (after_begin s n (form_of net e)) (send_ghost net g n e) h.after
      (begin_keeps net cert ok acc s g n e ln h.sends_nothing (record { carried = record { in_flows = lf; answered = h.declared.answered; command = h.declared.command }; listed = acc.starts f lf }) inv)
      (send_balance net g n e begun (ok.out_starts n ln).0 b)
  step_keeps s g (Emit n) t begun h b inv = keep g begun t (after_emit net s n h.first h.rest h.remaining) (emit_ghost net g n h.rest) h.after (emit_keeps net cert ok acc s g n h.first h.rest h.remaining h.in_net h.sending inv) (record { adds = (same_balance net g begun b).adds })
  step_keeps s g (Accept n) t begun h b inv = accept s g n t begun b h.in_net h.packets h.bytes h.first h.rest h.cut h.front h.after inv (g.rest (net.into n)) refl (g.queue (net.into n)) refl
  step_keeps s g (Reply n) t begun h b inv =
      let w = waits_at s g n h.reply h.others h.in_net h.waits inv in
      let p = b.0 in
      let r = b.1 in
      let j = p.flow in
      let e : Entry = record { flow = j; deleted = 0; cargo = p.cargo; end = p.end } in
      let flow = ok.reply_flow r.asked j r.in_flows r.by in
      let both : h.reply ∷ h.others ≡ r.reply ∷ r.others = sym h.waits ∙ r.waits in
      let same : h.reply ≡ r.reply = cc in
      let goes : h.reply.address ≡ (net.flow j).address = ap (λ (a : PendingReply). a.address) same ∙ r.goes in
      let cargo : h.reply.cargo ≡ p.cargo = ap (λ (a : PendingReply). a.cargo) same ∙ sym r.cargo in
      let end = ok.answers.replies_end r.asked j n w.memory w.bytes h.reply w.end r.in_flows h.in_net r.by w.answer goes in
      let end2 = subst (λ k. net.reply_to (net.flow j).to (left_bytes net j k) ≡ None) cargo end in
      let is : reply_packet h.reply ≡ form_of net e = reply_is net h.reply p.flow p.cargo p.end goes cargo r.end in
      keep g begun t (after_reply s n h.reply h.others) (send_ghost net g n e) h.after
      (reply_keeps net cert ok acc s g n e h.reply h.others h.waits is h.in_net h.sends_nothing
      (record { carried = record { in_flows = flow.in_flows; answered = subst (AnsweredBy net j) (sym end2) tt; command = λ limited. let low = ok.limited_flow j limited in let high = flow.after_declared in absurd (omega arith) }; listed = subst (λ k. IsListed cert j (net.out k) 0) (flow.from ∙ r.at) (acc.starts j flow.in_flows) }) inv)
      (send_balance net g n e begun (ok.out_starts n h.in_net).0 b.2)

  run_keeps : (steps : List Step) (s : State) (g : Ghost) (t : State) → Run net s steps t → Inv net cert s g → (g2 : Ghost) × Inv net cert t g2
  run_keeps [] s g t r inv = (g, subst (λ s. Inv net cert s g) (sym r) inv)
  run_keeps (step ∷ steps) s g t r inv =
      let b = begins s g step r.0 r.1 inv in
      let k = step_keeps s g step r.0 b.0 r.1 b.1 inv in
      run_keeps steps r.0 k.ghost t r.2 k.inv

  pub run_of_keeps : (steps : List Step) (s : State) (g : Ghost) (t : State) (begun : List Begun) → RunOf net s steps begun t → Inv net cert s g → Kept g begun t
  run_of_keeps [] s g t begun r inv = keep g begun t s g r.1 inv (same_balance net g begun r.0)
  run_of_keeps (step ∷ steps) s g t begun r inv =
      let k = step_keeps s g step r.0 r.1 r.3 r.4 inv in
      let l = run_of_keeps steps r.0 k.ghost t r.2 r.6 k.inv in
      record {
        ghost = l.ghost;
        inv = l.inv;
        balance = record {
          adds = λ test.
              let a = k.balance.adds test in
              let b = l.balance.adds test in
              let both : count_by test begun ≡ count_by test r.1 + count_by test r.2 = ap (count_by test) r.5 ∙ count_append test r.1 r.2 in
              omega arith;
        };
      }

  -- under a certificate each run begins some packets
  pub run_begins : (steps : List Step) (s : State) (g : Ghost) (t : State) → Run net s steps t → Inv net cert s g → (begun : List Begun) × RunOf net s steps begun t
  run_begins [] s g t r inv = ([], (refl, r))
  run_begins (step ∷ steps) s g t r inv =
      let b = begins s g step r.0 r.1 inv in
      let k = step_keeps s g step r.0 b.0 r.1 b.1 inv in
      let l = run_begins steps r.0 k.ghost t r.2 k.inv in
      (b.0 ++ l.0, (r.0, b.0, l.0, r.1, b.1, refl, l.1))

  abbrev pub none : Ghost
  none = record { rest = λ c. []; coming = λ c. []; queue = λ c. []; came = λ n. [] }

  fed_none : (c : ℕ) (p : Cell) → Fed net (empty net).to_send (empty net).input (λ k. []) c p
  fed_none c (AtNode n) = refl
  fed_none c (AtSwitch w) = inl refl

  pub empty_inv : Inv net cert (empty net) none
  empty_inv = record {
    streams = λ c lt. record { content = refl; queued = tt; ends = tt };
    inputs = λ c lt. λ switch at. refl;
    one = λ b c d lb lc hb hc. absurd (cc);
    fed = λ c lt. fed_none c (net.start_of c);
    nodes = λ n lt. record { content = refl; all_came = tt; asked = λ a. absurd (omega arith); busy = λ a. absurd (omega arith); waits = tt };
  }

  pub reached_inv : (s : State) → IsReached net s → (g : Ghost) × Inv net cert s g
  reached_inv s r = run_keeps r.0 (empty net) none s r.1 empty_inv

  -- it goes on where each node that always takes has a slot for what comes
  pub goes_on_where : (s : State) → IsReached net s → HaveSlots net s → 0 < undelivered net s → GoesOn net s
  goes_on_where s r have some = let k = reached_inv s r in goes_on net cert s k.0 ok acc (reached_numbers net ok s r) k.1 have some

  pub reached_of : (steps : List Step) (s : State) (begun : List Begun) → RunOf net (empty net) steps begun s → (g : Ghost) × Inv net cert s g × ((test : Begun → Bool) → all_of net test g ≡ count_by test begun)
  reached_of steps s begun r =
      let k = run_of_keeps steps (empty net) none s begun r empty_inv in
      (k.ghost, k.inv, λ test. let a = k.balance.adds test in let z1 = total_zero net.channels in let z2 = total_zero net.nodes in omega arith)
