-- Each step keeps what stands behind the characters.
use Rattle.std.proofs.Common.{Bool, Contains, List, None, Option, Some, [], ap, append-nil, append_assoc, arith, drop, eq-eqb, false, inl, inr, length, map, ne_eqb, refl, slice_index, subst, sym, true, ℕ, ⊎_elim, ◌++◌, ◌+◌, ◌-◌, ◌<◌, ◌∙◌, ◌∷◌, ◌≡◌, ◌≢◌}
use Rattle.std.proofs.lemmas.Bool.{cases_eq}
use Rattle.std.specs.List.{AllByRecursion}
use Rattle.std.specs.Prelude.{if◌then◌else◌}
use Rattle.sw_char.specs.declared.nchar.End.{End}
use Rattle.sw_char.specs.declared.nchar.End.TheVariants.{Eep as ByEep, Eop as ByEop}
use Rattle.sw_char.specs.declared.nchar.NChar.{NChar}
use Rattle.sw_char.specs.declared.nchar.NChar.TheVariants.{Data, Eep, Eop}
use Rattle.sw_machine.proofs.Cuts.{cons_tail, no_cons}
use Rattle.sw_machine.proofs.Faults.{at_node, at_switch, follows}
use Rattle.sw_machine.proofs.Ghost.{Entry, Fed, FedAt, Ghost, Heads, Holds, InputAt, InputIs, Inv, IsEntry, IsRest, IsWhole, NodeAt, Stream, StreamAt, Waits, accept_ghost, emit_ghost, flat, form_of, forward_ghost, grant_ghost, open_ghost, passed_on, send_ghost}
use Rattle.sw_machine.proofs.Lists.{all_push, bytes_of, completed, drop_byte, each_at, flat_push, more_comes, put_here, put_there, rest_after, rest_of_whole, whole_cons, whole_form}
use Rattle.sw_machine.proofs.Networks.{reply_goes}
use Rattle.sw_machine.specs.Certificate.{Certificate, IsAccepted, number}
use Rattle.sw_machine.specs.Network.{AnsweredBy, AtNode, AtSwitch, Cell, IsNetwork, Network, left_bytes}
use Rattle.sw_rmap.specs.Owing.{owed_after, owed_with, pending_with, PendingReply, reply_packet}
use Rattle.sw_machine.specs.Owed.{IsAsked}
use Rattle.sw_machine.specs.Packets.{IsCut, Packet, marker_of}
use Rattle.sw_machine.specs.State.{State, after_accept, after_arrive, after_begin, after_emit, after_fct, after_fct_in, after_forward, after_grant, after_reply, input_after, put, reply_at}
use Rattle.sw_machine.specs.declared.input.InputState.{InputState}
use Rattle.sw_machine.specs.declared.input.InputState.TheVariants.{Held, Idle, Spilling}

module _ (net : Network) (cert : Certificate) (ok : IsNetwork net) (acc : IsAccepted net cert) where
  -- only credit and FCTs
  pub fct_keeps : (s : State) (g : Ghost) (c : ℕ) → Inv net cert s g → Inv net cert (after_fct s c) g
  fct_keeps s g c inv = record { streams = inv.streams; inputs = inv.inputs; one = inv.one; fed = inv.fed; nodes = inv.nodes }

  pub fct_in_keeps : (s : State) (g : Ghost) (c left : ℕ) → Inv net cert s g → Inv net cert (after_fct_in s c left) g
  fct_in_keeps s g c left inv = record { streams = inv.streams; inputs = inv.inputs; one = inv.one; fed = inv.fed; nodes = inv.nodes }

  pub arrive_keeps : (s : State) (g : Ghost) (c : ℕ) (first : NChar) (rest : List NChar) → s.wire c ≡ first ∷ rest → Inv net cert s g → Inv net cert (after_arrive s c first rest) g
  arrive_keeps s g c first rest on_wire inv = record {
    streams = each_at (StreamAt net cert (after_arrive s c first rest) g) net.channels c
        (λ lt. let old = inv.streams c lt in record {
          content = rw (eq-eqb c c refl) (append_assoc (s.buffer c) (first ∷ []) (rest ++ g.coming c) ∙ ap (λ w. s.buffer c ++ (w ++ g.coming c)) (sym on_wire) ∙ old.content);
          queued = old.queued;
          ends = old.ends;
        })
        (λ k lt ne. rw (ne_eqb k c ne) (inv.streams k lt));
    inputs = inv.inputs;
    one = inv.one;
    fed = inv.fed;
    nodes = inv.nodes;
  }

  -- a channel that starts at a node starts at no switch
  pub node_or_switch : (n w : ℕ) (p : Cell) → p ≡ AtNode n → p ≡ AtSwitch w → ⊥
  node_or_switch n w p a b = cc

  held_not_out : (s : State) (g : Ghost) (n k d : ℕ) → n < net.nodes → Holds net cert g.rest g.coming k d → d ≡ net.out n → ⊥
  held_not_out s g n k d lt h e = node_or_switch n h.switch (net.start_of d) (ap net.start_of e ∙ (ok.out_starts n lt).1) h.starts

  -- what an input is does not hang on channels that it does not hold
  other_coming : (rest coming more : ℕ → List NChar) (k : ℕ) (i : InputState) → ((d : ℕ) → i ≡ Held d → Holds net cert rest coming k d → coming d ≡ more d) → InputIs net cert rest coming k i → InputIs net cert rest more k i
  other_coming rest coming more k Idle same h = h
  other_coming rest coming more k (Held d) same h = record { in_net = h.in_net; same = h.same ∙ same d refl h; whole = h.whole; rising = h.rising; switch = h.switch; ends = h.ends; starts = h.starts }
  other_coming rest coming more k Spilling same h = h

  sends_inputs : (s : State) (g : Ghost) (n : ℕ) (l : List NChar) → n < net.nodes → Inv net cert s g → (k : ℕ) → k < net.channels → InputIs net cert g.rest (put g.coming (net.out n) l) k (s.input k)
  sends_inputs s g n l ln inv k lt =
      other_coming g.rest g.coming (put g.coming (net.out n) l) k (s.input k)
      (λ d e h. sym (put_there g.coming (net.out n) l d (held_not_out s g n k d ln h)))
      (inv.inputs k lt)

  other_fed : (input : ℕ → InputState) (to_send more : ℕ → List NChar) (coming coming2 : ℕ → List NChar) (k : ℕ) (p : Cell) → coming2 k ≡ coming k → ((m : ℕ) → p ≡ AtNode m → to_send m ≡ more m) → Fed net to_send input coming k p → Fed net more input coming2 k p
  other_fed input to_send more coming coming2 k (AtNode m) e same f = e ∙ f ∙ same m refl
  other_fed input to_send more coming coming2 k (AtSwitch w) e same f = ⊎_elim (λ none. inl (e ∙ none)) (λ h. inr h) f

  -- node n has l to send now
  sends_fed : (s : State) (g : Ghost) (n : ℕ) (l : List NChar) → n < net.nodes → Inv net cert s g → (k : ℕ) → k < net.channels → Fed net (put s.to_send n l) s.input (put g.coming (net.out n) l) k (net.start_of k)
  sends_fed s g n l ln inv = each_at (λ k. Fed net (put s.to_send n l) s.input (put g.coming (net.out n) l) k (net.start_of k)) net.channels (net.out n)
      (λ lt. subst (Fed net (put s.to_send n l) s.input (put g.coming (net.out n) l) (net.out n)) (sym (ok.out_starts n ln).1) (put_here g.coming (net.out n) l ∙ sym (put_here s.to_send n l)))
      (λ k lt ne. other_fed s.input s.to_send (put s.to_send n l) g.coming (put g.coming (net.out n) l) k (net.start_of k)
      (put_there g.coming (net.out n) l k ne)
      (λ m at. sym (put_there s.to_send n l m (λ e. ne (sym (ap net.out (sym e) ∙ (ok.starts_at_node k m lt at).1)))))
      (inv.fed k lt))

  -- a flow that is answered ends where a reply waits
  waits_asked : (n : ℕ) (r : PendingReply) → Waits net n r → IsAsked net n
  waits_asked n r w = record { asked = w.asked; in_flows = w.in_flows; to = w.at; reply = w.flow; by = w.by }

  still_busy : (rest : List NChar) (pending : List PendingReply) (owed : ℕ) → 0 < owed_after rest pending owed → pending ≡ [] → rest ≢ []
  still_busy (x ∷ rest) p a h e none = no_cons x rest none
  still_busy [] [] a h e none = omega arith
  still_busy [] (r ∷ p) a h e none = no_cons r p e

  still_asked : (n : ℕ) (rest : List NChar) (pending : List PendingReply) (owed : ℕ) → AllByRecursion (Waits net n) pending → (0 < owed → IsAsked net n) → 0 < owed_after rest pending owed → IsAsked net n
  still_asked n (x ∷ rest) p owed all old h = old h
  still_asked n [] [] owed all old h = absurd (omega arith)
  still_asked n [] (r ∷ p) owed all old h = waits_asked n r all.0

  pub emit_keeps : (s : State) (g : Ghost) (n : ℕ) (first : NChar) (rest : List NChar) (left : ℕ) → n < net.nodes → s.to_send n ≡ first ∷ rest → Inv net cert s g → Inv net cert (after_emit net s n first rest left) (emit_ghost net g n rest)
  emit_keeps s g n first rest left ln sending inv = record {
    streams = each_at (StreamAt net cert (after_emit net s n first rest left) (emit_ghost net g n rest)) net.channels (net.out n)
        (λ lt. let old = inv.streams (net.out n) lt in
        let fed = subst (Fed net s.to_send s.input g.coming (net.out n)) (ok.out_starts n ln).1 (inv.fed (net.out n) lt) in
        record {
          content = rw (eq-eqb (net.out n) (net.out n) refl) (ap (λ l. s.buffer (net.out n) ++ l) (append_assoc (s.wire (net.out n)) (first ∷ []) rest ∙ ap (λ l. s.wire (net.out n) ++ l) (sym (fed ∙ sending))) ∙ old.content);
          queued = old.queued;
          ends = old.ends;
        })
        (λ k lt ne. rw (ne_eqb k (net.out n) ne) (inv.streams k lt));
    inputs = sends_inputs s g n rest ln inv;
    one = inv.one;
    fed = sends_fed s g n rest ln inv;
    nodes = each_at (NodeAt net cert (after_emit net s n first rest left) (emit_ghost net g n rest)) net.nodes n
        (λ lt. let old = inv.nodes n lt in record {
          content = old.content;
          all_came = old.all_came;
          asked = rw (eq-eqb n n refl) (still_asked n rest (s.pending n) (s.owed n) old.waits old.asked);
          busy = rw (eq-eqb n n refl) (still_busy rest (s.pending n) (s.owed n));
          waits = old.waits;
        })
        (λ k lt ne. rw (ne_eqb k n ne) (inv.nodes k lt));
  }

  send_streams : (s : State) (g : Ghost) (n : ℕ) (e : Entry) → n < net.nodes → s.to_send n ≡ [] → IsEntry net cert (net.out n) e → Inv net cert s g → (k : ℕ) → k < net.channels → StreamAt net cert s (send_ghost net g n e) k
  send_streams s g n e ln free valid inv = each_at (StreamAt net cert s (send_ghost net g n e)) net.channels (net.out n)
      (λ lt.
      let fed = subst (Fed net s.to_send s.input g.coming (net.out n)) (ok.out_starts n ln).1 (inv.fed (net.out n) lt) in
      rw (eq-eqb (net.out n) (net.out n) refl) (more_comes net cert (net.out n) (s.buffer (net.out n)) (s.wire (net.out n)) (g.coming (net.out n)) (g.rest (net.out n)) (g.queue (net.out n)) e (inv.streams (net.out n) lt) (fed ∙ free) valid))
      (λ k lt ne. rw (ne_eqb k (net.out n) ne) (inv.streams k lt))

  pub begin_keeps : (s : State) (g : Ghost) (n : ℕ) (e : Entry) → n < net.nodes → s.to_send n ≡ [] → IsEntry net cert (net.out n) e → Inv net cert s g → Inv net cert (after_begin s n (form_of net e)) (send_ghost net g n e)
  begin_keeps s g n e ln free valid inv = record {
    streams = send_streams s g n e ln free valid inv;
    inputs = sends_inputs s g n (form_of net e) ln inv;
    one = inv.one;
    fed = sends_fed s g n (form_of net e) ln inv;
    nodes = each_at (NodeAt net cert (after_begin s n (form_of net e)) (send_ghost net g n e)) net.nodes n
        (λ lt. let old = inv.nodes n lt in record {
          content = old.content;
          all_came = old.all_came;
          asked = old.asked;
          busy = λ a p none. whole_cons (form_of net e) (whole_form net e) (sym (put_here s.to_send n (form_of net e)) ∙ none);
          waits = old.waits;
        })
        (λ k lt ne. rw (ne_eqb k n ne) (inv.nodes k lt));
  }

  pub reply_keeps : (s : State) (g : Ghost) (n : ℕ) (e : Entry) (r : PendingReply) (others : List PendingReply) → s.pending n ≡ r ∷ others → reply_packet r ≡ form_of net e → n < net.nodes → s.to_send n ≡ [] → IsEntry net cert (net.out n) e → Inv net cert s g → Inv net cert (after_reply s n r others) (send_ghost net g n e)
  reply_keeps s g n e r others waits is ln free valid inv = rw is (record {
    streams = send_streams s g n e ln free valid inv;
    inputs = sends_inputs s g n (form_of net e) ln inv;
    one = inv.one;
    fed = sends_fed s g n (form_of net e) ln inv;
    nodes = each_at (NodeAt net cert (record s { to_send = put s.to_send n (form_of net e); pending = put s.pending n others }) (send_ghost net g n e)) net.nodes n
        (λ lt. let old = inv.nodes n lt in record {
          content = old.content;
          all_came = old.all_came;
          asked = old.asked;
          busy = λ a p none. whole_cons (form_of net e) (whole_form net e) (sym (put_here s.to_send n (form_of net e)) ∙ none);
          waits = rw (eq-eqb n n refl) ((subst (AllByRecursion (Waits net n)) waits old.waits).1);
        })
        (λ k lt ne. rw (ne_eqb k n ne) (inv.nodes k lt));
  })

  -- only the input of c changes, to Idle or not at all
  held_before : (c b e : ℕ) (x : NChar) (d : ℕ) (input : ℕ → InputState) → input c ≡ Held d → put input c (input_after x (Held d)) b ≡ Held e → input b ≡ Held e
  held_before c b e x d input held h = ⊎_elim
      (λ same. let at = ap input same in was x (sym (put_here input c (input_after x (Held d))) ∙ ap (put input c (input_after x (Held d))) (sym same) ∙ h) at)
      (λ ne. sym (put_there input c (input_after x (Held d)) b ne) ∙ h)
      (cases_eq b c)
    where
      was : (x : NChar) → input_after x (Held d) ≡ Held e → input b ≡ input c → input b ≡ Held e
      was (Data byte) h at = at ∙ held ∙ h
      was Eop h at = absurd (cc)
      was Eep h at = absurd (cc)

  forward_input : (g : Ghost) (c d : ℕ) (x : NChar) (tail : List NChar) → IsWhole (x ∷ tail) → Holds net cert g.rest g.coming c d → InputIs net cert (put g.rest c tail) (put g.coming d tail) c (input_after x (Held d))
  forward_input g c d (Data byte) tail w h = record { in_net = h.in_net; same = put_here g.rest c tail ∙ sym (put_here g.coming d tail); whole = subst IsWhole (sym (put_here g.rest c tail)) w; rising = h.rising; switch = h.switch; ends = h.ends; starts = h.starts }
  forward_input g c d Eop tail w h = λ switch at. put_here g.rest c tail ∙ w
  forward_input g c d Eep tail w h = λ switch at. put_here g.rest c tail ∙ w

  other_rest : (rest coming rest2 coming2 : ℕ → List NChar) (k : ℕ) (i : InputState) → rest2 k ≡ rest k → ((d : ℕ) → i ≡ Held d → coming d ≡ coming2 d) → InputIs net cert rest coming k i → InputIs net cert rest2 coming2 k i
  other_rest rest coming rest2 coming2 k Idle r same h = λ switch at. r ∙ h switch at
  other_rest rest coming rest2 coming2 k (Held d) r same h = record { in_net = h.in_net; same = r ∙ h.same ∙ same d refl; whole = subst IsWhole (sym r) h.whole; rising = h.rising; switch = h.switch; ends = h.ends; starts = h.starts }
  other_rest rest coming rest2 coming2 k Spilling r same h = h

  forward_fed : (x : NChar) (tail : List NChar) (c d : ℕ) (w : ℕ) (to_send : ℕ → List NChar) (input : ℕ → InputState) (coming : ℕ → List NChar) → c < net.channels → IsWhole (x ∷ tail) → Fed net to_send (put input c (input_after x (Held d))) (put coming d tail) d (AtSwitch w)
  forward_fed (Data byte) tail c d w to_send input coming lt whole = inr (c, lt, put_here input c (Held d))
  forward_fed Eop tail c d w to_send input coming lt whole = inl (put_here coming d tail ∙ whole)
  forward_fed Eep tail c d w to_send input coming lt whole = inl (put_here coming d tail ∙ whole)

  -- what comes to k does not change, and what held it still does
  same_fed : (to_send : ℕ → List NChar) (input input2 : ℕ → InputState) (coming coming2 : ℕ → List NChar) (k : ℕ) (p : Cell) → coming2 k ≡ coming k → ((b : ℕ) → b < net.channels → input b ≡ Held k → input2 b ≡ Held k) → Fed net to_send input coming k p → Fed net to_send input2 coming2 k p
  same_fed to_send input input2 coming coming2 k (AtNode m) e same f = e ∙ f
  same_fed to_send input input2 coming coming2 k (AtSwitch w) e same f = ⊎_elim (λ none. inl (e ∙ none)) (λ h. inr (h.0, h.1, same h.0 h.1 h.2)) f

  switch_not_into : (n c w : ℕ) → n < net.nodes → net.end_of c ≡ AtSwitch w → net.into n ≡ c → ⊥
  switch_not_into n c w lt at e = node_or_switch n w (net.end_of c) (sym (ap net.end_of e) ∙ (ok.into_ends n lt).1) at

  pub forward_keeps : (s : State) (g : Ghost) (c d : ℕ) (first : NChar) (rest : List NChar) (left : ℕ) (tail : List NChar) → c < net.channels → s.input c ≡ Held d → s.buffer c ≡ first ∷ rest → g.rest c ≡ first ∷ tail → Inv net cert s g → Inv net cert (after_forward s c d first rest left) (forward_ghost g c d tail)
  forward_keeps s g c d first rest left tail lc held front next inv =
      let h : Holds net cert g.rest g.coming c d = subst (InputIs net cert g.rest g.coming c) held (inv.inputs c lc) in
      let up = h.rising in
      let cd : c ≡ d → ⊥ = λ e. (let same = ap (number cert) e in omega arith) in
      let dc : d ≡ c → ⊥ = λ e. cd (sym e) in
      let whole : IsWhole (first ∷ tail) = subst IsWhole next h.whole in
      record {
        streams = each_at (StreamAt net cert (after_forward s c d first rest left) (forward_ghost g c d tail)) net.channels c
            (λ lt. rw (eq-eqb c c refl, ne_eqb c d cd) (let old = inv.streams c lc in record {
              content = cons_tail first first (rest ++ (s.wire c ++ g.coming c)) (tail ++ flat net (g.queue c)) (ap (λ b. b ++ (s.wire c ++ g.coming c)) (sym front) ∙ old.content ∙ ap (λ l. l ++ flat net (g.queue c)) next);
              queued = old.queued;
              ends = rest_after first tail whole;
            }))
            (λ k lt ne. rw (ne_eqb k c ne) (each_at (λ j. Stream net cert j (s.buffer j) (put s.wire d (s.wire d ++ first ∷ []) j) (put g.coming d tail j) (g.rest j) (g.queue j)) net.channels d
            (λ ld. rw (eq-eqb d d refl) (let old = inv.streams d ld in record {
              content = ap (λ l. s.buffer d ++ l) (append_assoc (s.wire d) (first ∷ []) tail ∙ ap (λ l. s.wire d ++ l) (sym next ∙ h.same)) ∙ old.content;
              queued = old.queued;
              ends = old.ends;
            }))
            (λ j lj nd. rw (ne_eqb j d nd) (inv.streams j lj)) k lt));
        inputs = each_at (InputAt net cert (after_forward s c d first rest left) (forward_ghost g c d tail)) net.channels c
            (λ lt. subst (InputIs net cert (put g.rest c tail) (put g.coming d tail) c) (sym (put_here s.input c (input_after first (Held d)))) (forward_input g c d first tail whole h))
            (λ k lt ne. subst (InputIs net cert (put g.rest c tail) (put g.coming d tail) k) (sym (put_there s.input c (input_after first (Held d)) k ne))
            (other_rest g.rest g.coming (put g.rest c tail) (put g.coming d tail) k (s.input k) (put_there g.rest c tail k ne)
            (λ e at. sym (put_there g.coming d tail e (λ same. ne (inv.one k c d lt lc (at ∙ ap Held same) held))))
            (inv.inputs k lt)));
        one = λ b k e lb lk hb hk. inv.one b k e lb lk (held_before c b e first d s.input held hb) (held_before c k e first d s.input held hk);
        fed = each_at (FedAt net cert (after_forward s c d first rest left) (forward_ghost g c d tail)) net.channels d
            (λ lt. subst (Fed net s.to_send (put s.input c (input_after first (Held d))) (put g.coming d tail) d) (sym h.starts) (forward_fed first tail c d h.switch s.to_send s.input g.coming lc whole))
            (λ k lt ne. same_fed s.to_send s.input (put s.input c (input_after first (Held d))) g.coming (put g.coming d tail) k (net.start_of k) (put_there g.coming d tail k ne)
            (λ b lb hb. put_there s.input c (input_after first (Held d)) b (λ same. (let at = ap s.input same in let j : Held d ≡ Held k = cc in ne (cc))) ∙ hb)
            (inv.fed k lt));
        nodes = λ n ln. rw (ne_eqb (net.into n) c (switch_not_into n c h.switch ln h.ends)) (inv.nodes n ln);
      }

  pub heads : (c switch h : ℕ) (more : List NChar) (q : List Entry) → net.end_of c ≡ AtSwitch switch → AllByRecursion (IsEntry net cert c) q → Data h ∷ more ≡ flat net q → (e : Entry) × (es : List Entry) × Heads net cert c switch h more e es q
  heads c switch h more [] at all eq = absurd (no_cons (Data h) more eq)
  heads c switch h more (e ∷ es) at all eq =
      let valid = all.0 in
      let place = at_switch net cert acc e.flow c e.deleted _ valid.carried.in_flows valid.listed at in
      let address = (net.flow e.flow).address in
      let byte = slice_index address e.deleted in
      let front : form_of net e ≡ Data byte ∷ form_of net (record e { deleted = e.deleted + 1 }) = ap (λ l. map Data l ++ (map Data e.cargo ++ marker_of e.end ∷ [])) (drop_byte address e.deleted place.0) in
      let both : Data h ∷ more ≡ Data byte ∷ (form_of net (record e { deleted = e.deleted + 1 }) ++ flat net es) = eq ∙ ap (λ l. l ++ flat net es) front in
      (e, es, record { is = refl; valid = valid; within = place.0; byte = cc; left = cons_tail (Data h) (Data byte) more (form_of net (record e { deleted = e.deleted + 1 }) ++ flat net es) both; later = all.1 })

  -- what an input that was granted has yet to pass on
  granted : (c switch h : ℕ) (rest : List NChar) (e : Entry) (es : List Entry) (q : List Entry) (x : List NChar) (b : Bool) → (front : Data h ∷ (rest ++ x) ≡ flat net q) → Heads net cert c switch h (rest ++ x) e es q → (if b then rest else Data h ∷ rest) ++ x ≡ form_of net (record e { deleted = if b then e.deleted + 1 else e.deleted }) ++ flat net es
  granted c switch h rest e es q x true front hd = hd.left
  granted c switch h rest e es q x false front hd = front ∙ ap (flat net) hd.is

  pub idle_rest : (s : State) (g : Ghost) (c switch : ℕ) → c < net.channels → net.end_of c ≡ AtSwitch switch → s.input c ≡ Idle → Inv net cert s g → g.rest c ≡ []
  idle_rest s g c switch lt at idle inv = (subst (InputIs net cert g.rest g.coming c) idle (inv.inputs c lt)) switch at

  -- only c holds d now
  granted_one : (s : State) (c d a b j : ℕ) → a < net.channels → b < net.channels → ((b : ℕ) → b < net.channels → s.input b ≢ Held d) → put s.input c (Held d) a ≡ Held j → put s.input c (Held d) b ≡ Held j → (s.input a ≡ Held j → s.input b ≡ Held j → a ≡ b) → a ≡ b
  granted_one s c d a b j la lb free ha hb old =
      ⊎_elim
      (λ ac. ⊎_elim (λ bc. ac ∙ sym bc) (λ bn.
      let h1 = sym (put_here s.input c (Held d)) ∙ ap (put s.input c (Held d)) (sym ac) ∙ ha in
      absurd (free b lb (sym (put_there s.input c (Held d) b bn) ∙ hb ∙ sym h1))) (cases_eq b c))
      (λ an. ⊎_elim
      (λ bc.
      let h1 = sym (put_here s.input c (Held d)) ∙ ap (put s.input c (Held d)) (sym bc) ∙ hb in
      absurd (free a la (sym (put_there s.input c (Held d) a an) ∙ ha ∙ sym h1)))
      (λ bn. old (sym (put_there s.input c (Held d) a an) ∙ ha) (sym (put_there s.input c (Held d) b bn) ∙ hb))
      (cases_eq b c))
      (cases_eq a c)

  -- a packet goes on to another channel
  pub grants_on : (s : State) (g : Ghost) (c d switch h : ℕ) (e : Entry) (es : List Entry) (more : List NChar) → net.end_of c ≡ AtSwitch switch → Contains (net.look switch h) d → Heads net cert c switch h more e es (g.queue c) → d ≡ c → ⊥
  grants_on s g c d switch h e es more at named hd same =
      let named2 : Contains (net.look switch (slice_index (net.flow e.flow).address e.deleted)) d = subst (λ b. Contains (net.look switch b) d) hd.byte named in
      let up = acc.rising e.flow c e.deleted d _ hd.valid.carried.in_flows hd.valid.listed (follows net cert acc e.flow c e.deleted switch d hd.valid.carried.in_flows hd.valid.listed at named2) in
      let k = ap (number cert) same in
      omega arith

  pub grant_keeps : (s : State) (g : Ghost) (d c switch h : ℕ) (rest : List NChar) (e : Entry) (es : List Entry) → c < net.channels → net.end_of c ≡ AtSwitch switch → s.input c ≡ Idle → s.buffer c ≡ Data h ∷ rest → Contains (net.look switch h) d → ((b : ℕ) → b < net.channels → s.input b ≢ Held d) → Heads net cert c switch h (rest ++ (s.wire c ++ g.coming c)) e es (g.queue c) → Inv net cert s g → Inv net cert (after_grant s d c (if net.deletes switch h then rest else Data h ∷ rest)) (grant_ghost net g d c (passed_on net switch e) es)
  grant_keeps s g d c switch h rest e es lc at idle front named free hd inv =
      let starts = ok.look_starts switch h d named in
      let named2 : Contains (net.look switch (slice_index (net.flow e.flow).address e.deleted)) d = subst (λ b. Contains (net.look switch b) d) hd.byte named in
      let in_flows = hd.valid.carried.in_flows in
      let up = acc.rising e.flow c e.deleted d _ in_flows hd.valid.listed (follows net cert acc e.flow c e.deleted switch d in_flows hd.valid.listed at named2) in
      let cd : c ≡ d → ⊥ = λ e. (let same = ap (number cert) e in omega arith) in
      let valid : IsEntry net cert d (passed_on net switch e) = record { carried = hd.valid.carried; listed = acc.closed e.flow c e.deleted d _ in_flows hd.valid.listed (follows net cert acc e.flow c e.deleted switch d in_flows hd.valid.listed at named2) } in
      let whole = whole_form net (passed_on net switch e) in
      let none : g.coming d ≡ [] = ⊎_elim (λ n. n) (λ b. absurd (free b.0 b.1 b.2)) (subst (Fed net s.to_send s.input g.coming d) starts.1 (inv.fed d starts.0)) in
      let e2 = passed_on net switch e in
      let f2 = form_of net e2 in
      let u = after_grant s d c (if net.deletes switch h then rest else Data h ∷ rest) in
      let g2 = grant_ghost net g d c e2 es in
      let x = s.wire c ++ g.coming c in
      record {
        streams = each_at (StreamAt net cert u g2) net.channels c
            (λ lt. rw (eq-eqb c c refl, ne_eqb c d cd) (let old = inv.streams c lc in record {
              content =
                  granted c switch h rest e es (g.queue c) x (net.deletes switch h)
                  (ap (λ b. b ++ x) (sym front) ∙ old.content ∙ ap (λ l. l ++ flat net (g.queue c)) (idle_rest s g c switch lc at idle inv)) hd
                  ∙ ap (λ z. form_of net (record e { deleted = if net.deletes switch z then e.deleted + 1 else e.deleted }) ++ flat net es) hd.byte;
              queued = hd.later;
              ends = rest_of_whole f2 whole;
            }))
            (λ k lt ne. rw (ne_eqb k c ne) (each_at (λ j. Stream net cert j (s.buffer j) (s.wire j) (put g.coming d f2 j) (g.rest j) (put g.queue d (g.queue d ++ e2 ∷ []) j)) net.channels d
            (λ ld. rw (eq-eqb d d refl) (more_comes net cert d (s.buffer d) (s.wire d) (g.coming d) (g.rest d) (g.queue d) e2 (inv.streams d ld) none valid))
            (λ j lj nd. rw (ne_eqb j d nd) (inv.streams j lj)) k lt));
        inputs = each_at (InputAt net cert u g2) net.channels c
            (λ lt. subst (InputIs net cert (put g.rest c f2) (put g.coming d f2) c) (sym (put_here s.input c (Held d)))
            (record { in_net = starts.0; same = put_here g.rest c f2 ∙ sym (put_here g.coming d f2); whole = subst IsWhole (sym (put_here g.rest c f2)) whole; rising = up; switch = switch; ends = at; starts = starts.1 }))
            (λ k lt ne. subst (InputIs net cert (put g.rest c f2) (put g.coming d f2) k) (sym (put_there s.input c (Held d) k ne))
            (other_rest g.rest g.coming (put g.rest c f2) (put g.coming d f2) k (s.input k) (put_there g.rest c f2 k ne)
            (λ j held. sym (put_there g.coming d f2 j (λ same. free k lt (held ∙ ap Held same))))
            (inv.inputs k lt)));
        one = λ a b j la lb ha hb. granted_one s c d a b j la lb free ha hb (inv.one a b j la lb);
        fed = each_at (FedAt net cert u g2) net.channels d
            (λ lt. subst (Fed net s.to_send (put s.input c (Held d)) (put g.coming d f2) d) (sym starts.1) (inr (c, lc, put_here s.input c (Held d))))
            (λ k lt ne. same_fed s.to_send s.input (put s.input c (Held d)) g.coming (put g.coming d f2) k (net.start_of k) (put_there g.coming d f2 k ne)
            (λ b lb hb. put_there s.input c (Held d) b (λ same. (let a2 = ap s.input same in cc)) ∙ hb)
            (inv.fed k lt));
        nodes = λ n ln. rw (ne_eqb (net.into n) c (switch_not_into n c switch ln at)) (inv.nodes n ln);
      }

  into_differs : (n k : ℕ) → n < net.nodes → k < net.nodes → (k ≡ n → ⊥) → net.into k ≡ net.into n → ⊥
  into_differs n k ln lk ne e =
      let a : AtNode k ≡ AtNode n = sym (ok.into_ends k lk).1 ∙ ap net.end_of e ∙ (ok.into_ends n ln).1 in
      ne (cc)

  -- what the end of a channel to a node has yet to take is no switch's matter
  taken_input : (g : Ghost) (n : ℕ) (l : List NChar) → n < net.nodes → (i : InputState) → InputIs net cert g.rest g.coming (net.into n) i → InputIs net cert (put g.rest (net.into n) l) g.coming (net.into n) i
  taken_input g n l ln Idle h = λ switch at. absurd (node_or_switch n switch (net.end_of (net.into n)) (ok.into_ends n ln).1 at)
  taken_input g n l ln (Held d) h = absurd (node_or_switch n h.switch (net.end_of (net.into n)) (ok.into_ends n ln).1 h.ends)
  taken_input g n l ln Spilling h = h

  taken_inputs : (s : State) (g : Ghost) (n : ℕ) (l : List NChar) → n < net.nodes → Inv net cert s g → (k : ℕ) → k < net.channels → InputIs net cert (put g.rest (net.into n) l) g.coming k (s.input k)
  taken_inputs s g n l ln inv = each_at (λ k. InputIs net cert (put g.rest (net.into n) l) g.coming k (s.input k)) net.channels (net.into n)
      (λ lt. taken_input g n l ln (s.input (net.into n)) (inv.inputs (net.into n) lt))
      (λ k lt ne. other_rest g.rest g.coming (put g.rest (net.into n) l) g.coming k (s.input k) (put_there g.rest (net.into n) l k ne) (λ d e. refl) (inv.inputs k lt))

  pub open_keeps : (s : State) (g : Ghost) (n : ℕ) (e : Entry) (es : List Entry) → n < net.nodes → g.rest (net.into n) ≡ [] → g.queue (net.into n) ≡ e ∷ es → Inv net cert s g → Inv net cert s (open_ghost net g n e es)
  open_keeps s g n e es ln none queue inv =
      let c = net.into n in
      let lc = (ok.into_ends n ln).0 in
      let old = inv.streams c lc in
      let all = subst (AllByRecursion (IsEntry net cert c)) queue old.queued in
      let g2 = open_ghost net g n e es in
      record {
        streams = each_at (StreamAt net cert s g2) net.channels c
            (λ lt. rw (eq-eqb c c refl) (record {
              content = old.content ∙ ap (λ l. l ++ flat net (g.queue c)) none ∙ ap (flat net) queue;
              queued = all.1;
              ends = rest_of_whole (form_of net e) (whole_form net e);
            }))
            (λ k lt ne. rw (ne_eqb k c ne) (inv.streams k lt));
        inputs = taken_inputs s g n (form_of net e) ln inv;
        one = inv.one;
        fed = inv.fed;
        nodes = each_at (NodeAt net cert s g2) net.nodes n
            (λ lt. let now = inv.nodes n ln in rw (eq-eqb c c refl, eq-eqb n n refl) (record {
              content = ap (λ l. l ++ form_of net e) (sym (append-nil (s.taken n)) ∙ ap (λ l. s.taken n ++ l) (sym none) ∙ now.content) ∙ sym (flat_push net (g.came n) e);
              all_came = all_push (IsEntry net cert c) (g.came n) e now.all_came all.0;
              asked = now.asked;
              busy = now.busy;
              waits = now.waits;
            }))
            (λ k lt ne. rw (ne_eqb (net.into k) c (into_differs n k ln lt ne), ne_eqb k n ne) (inv.nodes k lt));
      }

  -- a reply that is given waits, at a target where a flow with a reply ends
  replied : (n i : ℕ) (memory bytes : List ℕ) (r : PendingReply) (m : End) (o : Option (List ℕ)) → i < net.flows → n ≡ (net.flow i).to → net.answer n memory bytes m ≡ Some r → o ≡ Some r.address → AnsweredBy net i o → Waits net n r
  replied n i memory bytes r m None li to answer goes by = absurd (cc)
  replied n i memory bytes r m (Some address) li to answer goes by =
      let same : address ≡ r.address = cc in
      record { asked = i; flow = by.0; in_flows = li; by = by.1; at = sym to; goes = sym same ∙ sym by.2; memory = memory; bytes = bytes; end = m; answer = answer }

  completes : (n : ℕ) (memory : List ℕ) (r : PendingReply) (l : List NChar) (ps : List Packet) (bytes : List ℕ) (end : End) (es : List Entry) → n < net.nodes → IsCut l ps bytes → AllByRecursion (IsEntry net cert (net.into n)) es → l ++ marker_of end ∷ [] ≡ flat net es → net.answer n memory bytes end ≡ Some r → Waits net n r
  completes n memory r l ps bytes end es ln cut all content answer =
      let c = completed net cert (net.into n) es l ps bytes end cut all content in
      let e = c.0 in
      let i = e.flow in
      let valid = c.1 in
      let place = at_node net cert acc i (net.into n) e.deleted n valid.carried.in_flows valid.listed (ok.into_ends n ln).1 in
      let k : e.deleted ≡ length (net.flow i).address - (net.flow i).left = (let p = place.1 in omega arith) in
      let left : bytes_of net e ≡ left_bytes net i e.cargo = ap (λ k. drop k (net.flow i).address ++ e.cargo) k in
      let goes = reply_goes net ok n memory bytes r end ln answer in
      replied n i memory bytes r end (net.reply_to n bytes) valid.carried.in_flows place.0 answer goes
      (subst (AnsweredBy net i) (ap (λ to. net.reply_to to (left_bytes net i e.cargo)) (sym place.0) ∙ ap (net.reply_to n) (sym left ∙ sym c.2)) valid.carried.answered)

  accept_replies : (n : ℕ) (memory : List ℕ) (r : PendingReply) (taken : List NChar) (ps : List Packet) (bytes : List ℕ) (x : NChar) (tail : List NChar) (es : List Entry) → n < net.nodes → IsCut taken ps bytes → IsWhole (x ∷ tail) → AllByRecursion (IsEntry net cert (net.into n)) es → taken ++ x ∷ tail ≡ flat net es → reply_at net n memory bytes x ≡ Some r → Waits net n r
  accept_replies n memory r taken ps bytes (Data b) tail es ln cut w all content answer = absurd (cc)
  accept_replies n memory r taken ps bytes Eop tail es ln cut w all content answer = completes n memory r taken ps bytes ByEop es ln cut all (ap (λ t. taken ++ Eop ∷ t) (sym w) ∙ content) answer
  accept_replies n memory r taken ps bytes Eep tail es ln cut w all content answer = completes n memory r taken ps bytes ByEep es ln cut all (ap (λ t. taken ++ Eep ∷ t) (sym w) ∙ content) answer

  now_asked : (n owed : ℕ) (o : Option PendingReply) → ((r : PendingReply) → o ≡ Some r → Waits net n r) → (0 < owed → IsAsked net n) → 0 < owed_with owed o → IsAsked net n
  now_asked n owed None h old a = old a
  now_asked n owed (Some r) h old a = waits_asked n r (h r refl)

  now_waits : (n : ℕ) (pending : List PendingReply) (o : Option PendingReply) → ((r : PendingReply) → o ≡ Some r → Waits net n r) → AllByRecursion (Waits net n) pending → AllByRecursion (Waits net n) (pending_with pending o)
  now_waits n pending None h all = all
  now_waits n pending (Some r) h all = all_push (Waits net n) pending r all (h r refl)

  no_push : (pending : List PendingReply) (r : PendingReply) → pending ++ r ∷ [] ≡ [] → ⊥
  no_push [] r e = no_cons r [] e
  no_push (x ∷ pending) r e = no_cons x (pending ++ r ∷ []) e

  now_busy : (owed : ℕ) (pending : List PendingReply) (to_send : List NChar) (o : Option PendingReply) → (0 < owed → pending ≡ [] → to_send ≢ []) → 0 < owed_with owed o → pending_with pending o ≡ [] → to_send ≢ []
  now_busy owed pending to_send None old a e = old a e
  now_busy owed pending to_send (Some r) old a e = absurd (no_push pending r e)

  pub accept_keeps : (s : State) (g : Ghost) (n : ℕ) (ps : List Packet) (bytes : List ℕ) (first : NChar) (rest tail : List NChar) → n < net.nodes → IsCut (s.taken n) ps bytes → s.buffer (net.into n) ≡ first ∷ rest → g.rest (net.into n) ≡ first ∷ tail → Inv net cert s g → Inv net cert (after_accept net s n bytes first rest) (accept_ghost net g n tail)
  accept_keeps s g n ps bytes first rest tail ln cut front next inv =
      let c = net.into n in
      let lc = (ok.into_ends n ln).0 in
      let old = inv.streams c lc in
      let now = inv.nodes n ln in
      let whole : IsWhole (first ∷ tail) = subst IsRest next old.ends in
      let g2 = accept_ghost net g n tail in
      let u = after_accept net s n bytes first rest in
      let r = reply_at net n (s.memory n) bytes first in
      let got : s.taken n ++ first ∷ tail ≡ flat net (g.came n) = ap (λ l. s.taken n ++ l) (sym next) ∙ now.content in
      let given = λ (r : PendingReply). λ (e : reply_at net n (s.memory n) bytes first ≡ Some r). accept_replies n (s.memory n) r (s.taken n) ps bytes first tail (g.came n) ln cut whole now.all_came got e in
      record {
        streams = each_at (StreamAt net cert u g2) net.channels c
            (λ lt. rw (eq-eqb c c refl) (record {
              content = cons_tail first first (rest ++ (s.wire c ++ g.coming c)) (tail ++ flat net (g.queue c)) (ap (λ b. b ++ (s.wire c ++ g.coming c)) (sym front) ∙ old.content ∙ ap (λ l. l ++ flat net (g.queue c)) next);
              queued = old.queued;
              ends = rest_after first tail whole;
            }))
            (λ k lt ne. rw (ne_eqb k c ne) (inv.streams k lt));
        inputs = taken_inputs s g n tail ln inv;
        one = inv.one;
        fed = inv.fed;
        nodes = each_at (NodeAt net cert u g2) net.nodes n
            (λ lt. rw (eq-eqb c c refl, eq-eqb n n refl) (record {
              content = append_assoc (s.taken n) (first ∷ []) tail ∙ got;
              all_came = now.all_came;
              asked = now_asked n (s.owed n) r given now.asked;
              busy = now_busy (s.owed n) (s.pending n) (s.to_send n) r now.busy;
              waits = now_waits n (s.pending n) r given now.waits;
            }))
            (λ k lt ne. rw (ne_eqb (net.into k) c (into_differs n k ln lt ne), ne_eqb k n ne) (inv.nodes k lt));
      }
