-- Each step is done at one cell.
use Rattle.std.proofs.Common.{List, [], ap, arith, length, refl, subst, sym, ℕ, ◌++◌, ◌+◌, ◌-◌, ◌<◌, ◌∙◌, ◌∷◌, ◌≡◌, ◌≢◌}
use Rattle.std.specs.Prelude.{if◌then◌else◌}
use Rattle.sw_char.specs.declared.nchar.NChar.{NChar}
use Rattle.sw_char.specs.declared.nchar.NChar.TheVariants.{Data, Eep, Eop}
use Rattle.sw_machine.proofs.Lists.{put_there}
use Rattle.sw_machine.specs.Network.{AtNode, Cell, IsNetwork, Network, form, reverse_of}
use Rattle.sw_machine.specs.Parts.{IsWormhole, SameBetween, SameEnd, SameNode, SamePart, cell_of, link_end_of}
use Rattle.sw_machine.specs.State.{State, after_arrive, after_drop_byte, after_drop_marker, after_fct, after_grant, after_spill, input_after, memory_at, reply_at}
use Rattle.sw_rmap.specs.Owing.{owed_after, owed_with, pending_with, reply_packet}
use Rattle.sw_machine.specs.Steps.{Accept, Arrive, Begin, Drop, Drops, Emit, Fct, FctIn, Forward, Grant, IsPossible, Leads, Reply, Spill, Step}
use Rattle.sw_machine.specs.declared.input.InputState.TheVariants.{Held, Spilling}

module _ (net : Network) (ok : IsNetwork net) where
  back : (c : ℕ) → c < net.channels → (reverse_of c < net.channels) × (net.start_of (reverse_of c) ≡ net.end_of c)
  back c lt = ok.reversed c lt

  at_node : (n : ℕ) → n < net.nodes → (net.out n < net.channels) × (net.start_of (net.out n) ≡ AtNode n)
  at_node n lt = ok.out_starts n lt

  pub link_ends : (s : State) (step : Step) → IsPossible net s step → (link_end_of net step < net.channels) × (net.start_of (link_end_of net step) ≡ cell_of net step)
  link_ends s (Fct c) p = back c (p.1).in_net
  link_ends s (FctIn c) p = ((p.1).in_net, refl)
  link_ends s (Arrive c) p = back c (p.1).in_net
  link_ends s (Grant d c) p = let h = p.1 in let starts = ok.look_starts h.switch h.h d h.named in (starts.0, starts.1 ∙ sym h.at)
  link_ends s (Drop c) p = back c (p.1).in_net
  link_ends s (Forward c) p = back c (p.1).in_net
  link_ends s (Spill c) p = back c (p.1).in_net
  link_ends s (Begin f cargo end) p = let d = (p.1).declared.declared in let e = ok.flows_declared in at_node (net.flow f).from (ok.flow_ends f (omega arith)).0
  link_ends s (Emit n) p = at_node n (p.1).in_net
  link_ends s (Accept n) p = at_node n (p.1).in_net
  link_ends s (Reply n) p = at_node n (p.1).in_net

  -- a channel that ends, or starts, at another cell is another
  other_end : (c k : ℕ) (cell : Cell) → cell ≢ net.end_of c → net.end_of k ≡ cell → k ≡ c → ⊥
  other_end c k cell ne at same = ne (sym at ∙ ap net.end_of same)

  other_start : (d k : ℕ) (cell at : Cell) → cell ≢ at → net.start_of d ≡ at → net.start_of k ≡ cell → k ≡ d → ⊥
  other_start d k cell at ne is starts same = ne (sym starts ∙ ap net.start_of same ∙ is)

  other_node : (n m : ℕ) (cell : Cell) → cell ≢ AtNode n → AtNode m ≡ cell → m ≡ n → ⊥
  other_node n m cell ne at same = ne (sym at ∙ ap AtNode same)

  -- only what comes in on c changes
  at_end : (cell : Cell) (s t : State) (c : ℕ) → cell ≢ net.end_of c → t.credit ≡ s.credit → ((k : ℕ) → (k ≡ c → ⊥) → SameEnd k s t) → ((n : ℕ) → SameNode n s t) → SamePart net cell s t
  at_end cell s t c ne credit ends node = record {
    starts = λ k lk at. ap (λ f. f k) credit;
    ends = λ k lk at. ends k (other_end c k cell ne at);
    node = λ n at. node n;
  }

  dropped : (s : State) (c switch : ℕ) (first : NChar) (rest : List NChar) (t : State) (cell : Cell) → cell ≢ net.end_of c → Drops net s c switch first rest t → SamePart net cell s t
  dropped s c switch (Data b) rest t cell ne d = subst (SamePart net cell s) (sym d.1) (at_end cell s (after_drop_byte s c) c ne refl (λ k nk. record { buffer = refl; outstanding = refl; input = put_there s.input c Spilling k nk }) (λ n. record { to_send = refl; pending = refl; owed = refl; taken = refl; memory = refl }))
  dropped s c switch Eop rest t cell ne d = subst (SamePart net cell s) (sym d) (at_end cell s (after_drop_marker s c rest) c ne refl (λ k nk. record { buffer = put_there s.buffer c rest k nk; outstanding = refl; input = refl }) (λ n. record { to_send = refl; pending = refl; owed = refl; taken = refl; memory = refl }))
  dropped s c switch Eep rest t cell ne d = subst (SamePart net cell s) (sym d) (at_end cell s (after_drop_marker s c rest) c ne refl (λ k nk. record { buffer = put_there s.buffer c rest k nk; outstanding = refl; input = refl }) (λ n. record { to_send = refl; pending = refl; owed = refl; taken = refl; memory = refl }))

  pub changes : (s : State) → IsWormhole net s → (step : Step) (t : State) → Leads net s step t → (cell : Cell) → cell ≢ cell_of net step → SamePart net cell s t
  changes s w (Fct c) t h cell ne = subst (SamePart net cell s) (sym h.after) (at_end cell s (after_fct s c) c ne refl
      (λ k nk. record { buffer = refl; outstanding = put_there s.outstanding c (s.outstanding c + 8) k nk; input = refl }) (λ n. record { to_send = refl; pending = refl; owed = refl; taken = refl; memory = refl }))
  changes s w (FctIn c) t h cell ne = subst (SamePart net cell s) (sym h.after) (record {
    starts = λ k lk at. put_there s.credit c (s.credit c + 8) k (other_start c k cell (net.start_of c) ne refl at);
    ends = λ k lk at. record { buffer = refl; outstanding = refl; input = refl };
    node = λ n at. record { to_send = refl; pending = refl; owed = refl; taken = refl; memory = refl };
  })
  changes s w (Arrive c) t h cell ne = subst (SamePart net cell s) (sym h.after) (at_end cell s (after_arrive s c h.first h.rest) c ne refl
      (λ k nk. record { buffer = put_there s.buffer c (s.buffer c ++ h.first ∷ []) k nk; outstanding = put_there s.outstanding c (s.outstanding c - 1) k nk; input = refl }) (λ n. record { to_send = refl; pending = refl; owed = refl; taken = refl; memory = refl }))
  changes s w (Grant d c) t h cell ne =
      let l = if net.deletes h.switch h.h then h.rest else Data h.h ∷ h.rest in
      subst (SamePart net cell s) (sym h.after) (at_end cell s (after_grant s d c l) c ne refl
      (λ k nk. record { buffer = put_there s.buffer c l k nk; outstanding = refl; input = put_there s.input c (Held d) k nk }) (λ n. record { to_send = refl; pending = refl; owed = refl; taken = refl; memory = refl }))
  changes s w (Drop c) t h cell ne = dropped s c h.switch h.first h.rest t cell ne h.after
  changes s w (Forward c) t h cell ne =
      let own = w.own c h.d h.in_net h.held in
      subst (SamePart net cell s) (sym h.after) (record {
        starts = λ k lk at. put_there s.credit h.d h.remaining k (other_start h.d k cell (net.end_of c) ne (own.starts ∙ sym own.ends) at);
        ends = λ k lk at. let nk = other_end c k cell ne at in record { buffer = put_there s.buffer c h.rest k nk; outstanding = refl; input = put_there s.input c (input_after h.first (Held h.d)) k nk };
        node = λ n at. record { to_send = refl; pending = refl; owed = refl; taken = refl; memory = refl };
      })
  changes s w (Spill c) t h cell ne = subst (SamePart net cell s) (sym h.after) (at_end cell s (after_spill s c h.first h.rest) c ne refl
      (λ k nk. record { buffer = put_there s.buffer c h.rest k nk; outstanding = refl; input = put_there s.input c (input_after h.first Spilling) k nk }) (λ n. record { to_send = refl; pending = refl; owed = refl; taken = refl; memory = refl }))
  changes s w (Begin f cargo end) t h cell ne = subst (SamePart net cell s) (sym h.after) (record {
    starts = λ k lk at. refl;
    ends = λ k lk at. record { buffer = refl; outstanding = refl; input = refl };
    node = λ m at. record { to_send = put_there s.to_send (net.flow f).from (form net f 0 cargo end) m (other_node (net.flow f).from m cell ne at); pending = refl; owed = refl; taken = refl; memory = refl };
  })
  changes s w (Emit n) t h cell ne = subst (SamePart net cell s) (sym h.after) (record {
    starts = λ k lk at. put_there s.credit (net.out n) h.remaining k (other_start (net.out n) k cell (AtNode n) ne (ok.out_starts n h.in_net).1 at);
    ends = λ k lk at. record { buffer = refl; outstanding = refl; input = refl };
    node = λ m at. let nm = other_node n m cell ne at in record { to_send = put_there s.to_send n h.rest m nm; pending = refl; owed = put_there s.owed n (owed_after h.rest (s.pending n) (s.owed n)) m nm; taken = refl; memory = refl };
  })
  changes s w (Accept n) t h cell ne =
      let o = reply_at net n (s.memory n) h.bytes h.first in
      subst (SamePart net cell s) (sym h.after) (record {
        starts = λ k lk at. refl;
        ends = λ k lk at. record { buffer = put_there s.buffer (net.into n) h.rest k (λ same. ne (sym at ∙ ap net.end_of same ∙ (ok.into_ends n h.in_net).1)); outstanding = refl; input = refl };
        node = λ m at.
            let nm = other_node n m cell ne at in
            record {
              to_send = refl;
              pending = put_there s.pending n (pending_with (s.pending n) o) m nm;
              owed = put_there s.owed n (owed_with (s.owed n) o) m nm;
              taken = put_there s.taken n (s.taken n ++ h.first ∷ []) m nm;
              memory = put_there s.memory n (memory_at net n (s.memory n) h.bytes h.first) m nm;
            };
      })
  changes s w (Reply n) t h cell ne = subst (SamePart net cell s) (sym h.after) (record {
    starts = λ k lk at. refl;
    ends = λ k lk at. record { buffer = refl; outstanding = refl; input = refl };
    node = λ m at. let nm = other_node n m cell ne at in record { to_send = put_there s.to_send n (reply_packet h.reply) m nm; pending = put_there s.pending n h.others m nm; owed = refl; taken = refl; memory = refl };
  })

  module _ (s u : State) (w : IsWormhole net s) (v : IsWormhole net u) (between : SameBetween net s u) where
    drop_local : (c switch : ℕ) (first : NChar) (rest : List NChar) (t : State) → Drops net s c switch first rest t → (x : State) × Drops net u c switch first rest x
    drop_local c switch (Data b) rest t d = (_, (d.0, refl))
    drop_local c switch Eop rest t d = (_, refl)
    drop_local c switch Eep rest t d = (_, refl)

    pub local : (step : Step) → SamePart net (cell_of net step) s u → IsPossible net s step → IsPossible net u step
    local (Fct c) same p =
        let h = p.1 in
        let e = same.ends c h.in_net refl in
        let out = e.outstanding in
        let buf = ap length e.buffer in
        (_, record { in_net = h.in_net; room = let r = h.room in omega arith; few = let r = h.few in omega arith; after = refl })
    local (FctIn c) same p = let h = p.1 in (_, record { in_net = h.in_net; remaining = h.remaining; under_way = between.fcts c h.in_net ∙ h.under_way; after = refl })
    local (Arrive c) same p = let h = p.1 in (_, record { in_net = h.in_net; first = h.first; rest = h.rest; on_wire = between.wire c h.in_net ∙ h.on_wire; after = refl })
    local (Grant d c) same p =
        let h = p.1 in
        let e = same.ends c h.in_net refl in
        let starts = ok.look_starts h.switch h.h d h.named in
        let at_b = λ (b : ℕ) (lb : b < net.channels) (held : u.input b ≡ Held d). (let own = v.own b d lb held in own.ends ∙ sym own.starts ∙ starts.1 ∙ sym h.at) in (
          _,
          record {
            in_net = h.in_net;
            switch = h.switch;
            at = h.at;
            idle = e.input ∙ h.idle;
            h = h.h;
            rest = h.rest;
            front = e.buffer ∙ h.front;
            named = h.named;
            not_held = λ b lb held. h.not_held b lb (sym (same.ends b lb (at_b b lb held)).input ∙ held);
            after = refl;
          },
        )
    local (Drop c) same p =
        let h = p.1 in
        let e = same.ends c h.in_net refl in
        let d = drop_local c h.switch h.first h.rest p.0 h.after in
        (d.0, record { in_net = h.in_net; switch = h.switch; at = h.at; idle = e.input ∙ h.idle; first = h.first; rest = h.rest; front = e.buffer ∙ h.front; after = d.1 })
    local (Forward c) same p =
        let h = p.1 in
        let e = same.ends c h.in_net refl in
        let own = w.own c h.d h.in_net h.held in
        (_, record { in_net = h.in_net; d = h.d; held = e.input ∙ h.held; first = h.first; rest = h.rest; front = e.buffer ∙ h.front; remaining = h.remaining; credit = same.starts h.d own.in_net (own.starts ∙ sym own.ends) ∙ h.credit; after = refl })
    local (Spill c) same p =
        let h = p.1 in
        let e = same.ends c h.in_net refl in
        (_, record { in_net = h.in_net; spilling = e.input ∙ h.spilling; first = h.first; rest = h.rest; front = e.buffer ∙ h.front; after = refl })
    local (Begin f cargo end) same p =
        let h = p.1 in
        let n = same.node (net.flow f).from refl in
        (_, record { declared = h.declared; sends_nothing = n.to_send ∙ h.sends_nothing; none_pending = n.pending ∙ h.none_pending; after = refl })
    local (Emit n) same p =
        let h = p.1 in
        let e = same.node n refl in
        let starts = ok.out_starts n h.in_net in
        (_, record { in_net = h.in_net; first = h.first; rest = h.rest; sending = e.to_send ∙ h.sending; remaining = h.remaining; credit = same.starts (net.out n) starts.0 starts.1 ∙ h.credit; after = refl })
    local (Accept n) same p =
        let h = p.1 in
        let e = same.node n refl in
        let ends = ok.into_ends n h.in_net in
        (_, record { in_net = h.in_net; owes_less = let less = h.owes_less in let o = e.owed in omega arith; first = h.first; rest = h.rest; front = (same.ends (net.into n) ends.0 ends.1).buffer ∙ h.front; packets = h.packets; bytes = h.bytes; cut = e.taken ∙ h.cut; after = refl })
    local (Reply n) same p =
        let h = p.1 in
        let e = same.node n refl in
        (_, record { in_net = h.in_net; reply = h.reply; others = h.others; waits = e.pending ∙ h.waits; sends_nothing = e.to_send ∙ h.sends_nothing; after = refl })
