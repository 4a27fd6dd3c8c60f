-- A step of the machine, tried: where this answers a state, the step leads there.
use Rattle.std.proofs.Common.{Bool, Contains, List, None, Option, Some, [], ap, append-nil, append_assoc, arith, eq-eqb, false, length, lt-ltb, ltb-true, map, nat_eq, nat_le, nat_lt, ne_eqb, refl, suc, sym, true, zero, ℕ, ⊎_elim, ◌++◌, ◌+◌, ◌<◌, ◌∙◌, ◌∷◌, ◌≡◌, ◌≢◌}
use Rattle.std.proofs.lemmas.Bool.{cases_eq, le-leb, leb-true, and_parts}
use Rattle.std.proofs.lemmas.Slice.Eq.{bytes_eq-Decides}
use Rattle.std.specs.List.{list_any}
use Rattle.std.specs.Prelude.{if◌then◌else◌, is_some, not, option_and_then, ◌&&◌, ◌||◌}
use Rattle.sw_char.specs.declared.nchar.End.{End}
use Rattle.sw_char.specs.declared.nchar.End.TheVariants.{Eep as ByEep, Eop as ByEop}
use Rattle.sw_char.specs.declared.nchar.NChar.{NChar}
use Rattle.sw_char.specs.declared.nchar.NChar.TheVariants.{Data, Eep, Eop}
use Rattle.sw_machine.proofs.Cuts.{cut_of, front_of}
use Rattle.sw_machine.specs.Network.{AnsweredBy, AtSwitch, Cell, Network, form, left_bytes}
use Rattle.sw_rmap.specs.Owing.{PendingReply}
use Rattle.sw_machine.specs.Packets.{IsCut, Packet, chars, marker_of}
use Rattle.sw_machine.specs.Runs.{Run}
use Rattle.sw_machine.specs.State.{State, after_accept, after_arrive, after_begin, after_drop_byte, after_drop_marker, after_emit, after_fct, after_fct_in, after_forward, after_grant, after_reply, after_spill}
use Rattle.sw_machine.specs.Steps.{Accept, Arrive, Begin, Drop, Drops, Emit, Fct, FctIn, Forward, Grant, Leads, Reply, Spill, Step}
use Rattle.sw_machine.specs.Tried.{holds, is_answered_by, is_command_if_limited, is_held, try_accept, try_arrive, try_begin, try_credit, try_drop, try_drop_byte, try_emit, try_fct_in, try_forward, try_grant, try_reply, try_spill, try_step, try_steps, under_way}
use Rattle.sw_machine.specs.declared.input.InputState.{InputState}
use Rattle.sw_machine.specs.declared.input.InputState.TheVariants.{Held, Idle, Spilling}

pub fits : (b : Bool) (x t : State) → (if b then Some x else None) ≡ Some t → (b ≡ true) × (t ≡ x)
fits true x t e = (refl, cc)
fits false x t e = absurd (cc)

none_holds : (n d : ℕ) (input : ℕ → InputState) → not (is_held n d input) ≡ true → (b : ℕ) → b < n → input b ≢ Held d
none_holds zero d input e b lt held = omega arith
none_holds (suc n) d input e b lt held = here (input n) refl e (λ e ne. none_holds n d input e b (omega arith) held)
  where
    here : (i : InputState) → input n ≡ i → not (holds d i || is_held n d input) ≡ true → (not (is_held n d input) ≡ true → (b ≡ n → ⊥) → ⊥) → ⊥
    here Idle is e rest = rest e (λ same. let k = ap input same in cc)
    here Spilling is e rest = rest e (λ same. let k = ap input same in cc)
    here (Held x) is e rest = ⊎_elim
        (λ xd. let no : false ≡ true = sym (ap (λ t. not (t || is_held n d input)) (eq-eqb x d xd)) ∙ e in cc)
        (λ nd. rest (sym (ap (λ t. not (t || is_held n d input)) (ne_eqb x d nd)) ∙ e) (λ same. let k : Held x ≡ Held d = sym is ∙ ap input (sym same) ∙ held in nd (cc)))
        (cases_eq x d)

named_in : (l : List ℕ) (d : ℕ) → list_any (nat_eq d) l ≡ true → Contains l d
named_in [] d e = absurd (cc)
named_in (x ∷ l) d e = ⊎_elim
    (λ same. (0, omega arith, sym same))
    (λ ne. let r = named_in l d (sym (ap (λ t. t || list_any (nat_eq d) l) (ne_eqb d x ne)) ∙ e) in (suc r.0, omega (arith, r.1), r.2))
    (cases_eq d x)

bytes_data : (before bytes : List ℕ) → under_way before (map Data bytes) ≡ before ++ bytes
bytes_data before [] = sym (append-nil before)
bytes_data before (b ∷ bytes) = bytes_data (before ++ b ∷ []) bytes ∙ append_assoc before (b ∷ []) bytes

bytes_packet : (before bytes : List ℕ) (end : End) (l : List NChar) → under_way before (map Data bytes ++ marker_of end ∷ l) ≡ under_way [] l
bytes_packet before [] ByEop l = refl
bytes_packet before [] ByEep l = refl
bytes_packet before (b ∷ bytes) end l = bytes_packet (before ++ b ∷ []) bytes end l

under_way_chars : (ps : List Packet) (bytes : List ℕ) → under_way [] (chars ps ++ map Data bytes) ≡ bytes
under_way_chars [] bytes = bytes_data [] bytes
under_way_chars (p ∷ ps) bytes = ap (under_way []) (front_of p ps (map Data bytes)) ∙ bytes_packet [] p.bytes p.end (chars ps ++ map Data bytes) ∙ under_way_chars ps bytes

-- the bytes under way are those behind the packets
pub under_way_is : (l : List NChar) (ps : List Packet) (bytes : List ℕ) → IsCut l ps bytes → under_way [] l ≡ bytes
under_way_is l ps bytes cut = ap (under_way []) cut ∙ under_way_chars ps bytes

names_it : (l : List ℕ) (d : ℕ) → Contains l d → list_any (nat_eq d) l ≡ true
names_it [] d (k, lt, e) = absurd (omega arith)
names_it (x ∷ l) d (zero, lt, e) = rw (eq-eqb d x (sym e)) refl
names_it (x ∷ l) d (suc k, lt, e) = ⊎_elim (λ same. rw (eq-eqb d x same) refl) (λ ne. rw (ne_eqb d x ne) (names_it l d (k, omega arith, e))) (cases_eq d x)

holds_none : (n d : ℕ) (input : ℕ → InputState) → ((b : ℕ) → b < n → input b ≢ Held d) → not (is_held n d input) ≡ true
holds_none zero d input free = refl
holds_none (suc n) d input free = here (input n) refl (holds_none n d input (λ b lt. free b (omega arith)))
  where
    here : (i : InputState) → input n ≡ i → not (is_held n d input) ≡ true → not (holds d i || is_held n d input) ≡ true
    here Idle is rest = rest
    here Spilling is rest = rest
    here (Held x) is rest = rw (ne_eqb x d (λ same. free n (omega arith) (is ∙ ap Held same))) rest

module _ (net : Network) (s : State) where
  in_net : (c : ℕ) → nat_lt c net.channels ≡ true → c < net.channels
  in_net c e = ltb-true c net.channels e

  in_nodes : (n : ℕ) → nat_lt n net.nodes ≡ true → n < net.nodes
  in_nodes n e = ltb-true n net.nodes e

  fct_in : (c k : ℕ) (t : State) → s.fcts c ≡ k → try_fct_in net s c k ≡ Some t → Leads net s (FctIn c) t
  fct_in c zero t is e = absurd (cc)
  fct_in c (suc k) t is e = let f = fits (nat_lt c net.channels) (after_fct_in s c k) t e in record { in_net = in_net c f.0; remaining = k; under_way = is; after = f.1 }

  arrive : (c : ℕ) (l : List NChar) (t : State) → s.wire c ≡ l → try_arrive net s c l ≡ Some t → Leads net s (Arrive c) t
  arrive c [] t is e = absurd (cc)
  arrive c (x ∷ l) t is e = let f = fits (nat_lt c net.channels) (after_arrive s c x l) t e in record { in_net = in_net c f.0; first = x; rest = l; on_wire = is; after = f.1 }

  grant : (d c : ℕ) (at : Cell) (i : InputState) (l : List NChar) (t : State) → net.end_of c ≡ at → s.input c ≡ i → s.buffer c ≡ l → try_grant net s d c at i l ≡ Some t → Leads net s (Grant d c) t
  grant d c (AtSwitch w) Idle (Data h ∷ l) t at is front e =
      let f = fits (nat_lt c net.channels && (list_any (nat_eq d) (net.look w h) && not (is_held net.channels d s.input))) (after_grant s d c (if net.deletes w h then l else Data h ∷ l)) t e in
      let a = and_parts (nat_lt c net.channels) (list_any (nat_eq d) (net.look w h) && not (is_held net.channels d s.input)) f.0 in
      let b = and_parts (list_any (nat_eq d) (net.look w h)) (not (is_held net.channels d s.input)) a.1 in
      record { in_net = in_net c a.0; switch = w; at = at; idle = is; h = h; rest = l; front = front; named = named_in (net.look w h) d b.0; not_held = none_holds net.channels d s.input b.1; after = f.1 }
  grant d c at i l t a is front e = absurd (cc)

  drop_byte : (c w h : ℕ) (l : List NChar) (look : List ℕ) (t : State) → net.end_of c ≡ AtSwitch w → s.input c ≡ Idle → s.buffer c ≡ Data h ∷ l → net.look w h ≡ look → try_drop_byte net s c look ≡ Some t → Leads net s (Drop c) t
  drop_byte c w h l [] t at is front none e = let f = fits (nat_lt c net.channels) (after_drop_byte s c) t e in record { in_net = in_net c f.0; switch = w; at = at; idle = is; first = Data h; rest = l; front = front; after = (none, f.1) }
  drop_byte c w h l (d ∷ look) t at is front none e = absurd (cc)

  dropped : (c : ℕ) (at : Cell) (i : InputState) (l : List NChar) (t : State) → net.end_of c ≡ at → s.input c ≡ i → s.buffer c ≡ l → try_drop net s c at i l ≡ Some t → Leads net s (Drop c) t
  dropped c (AtSwitch w) Idle (Data h ∷ l) t at is front e = drop_byte c w h l (net.look w h) t at is front refl e
  dropped c (AtSwitch w) Idle (Eop ∷ l) t at is front e = let f = fits (nat_lt c net.channels) (after_drop_marker s c l) t e in record { in_net = in_net c f.0; switch = w; at = at; idle = is; first = Eop; rest = l; front = front; after = f.1 }
  dropped c (AtSwitch w) Idle (Eep ∷ l) t at is front e = let f = fits (nat_lt c net.channels) (after_drop_marker s c l) t e in record { in_net = in_net c f.0; switch = w; at = at; idle = is; first = Eep; rest = l; front = front; after = f.1 }
  dropped c at i l t a is front e = absurd (cc)

  credited : (c d : ℕ) (x : NChar) (l : List NChar) (k : ℕ) (t : State) → s.input c ≡ Held d → s.buffer c ≡ x ∷ l → s.credit d ≡ k → try_credit net s c d x l k ≡ Some t → Leads net s (Forward c) t
  credited c d x l zero t is front credit e = absurd (cc)
  credited c d x l (suc k) t is front credit e = let f = fits (nat_lt c net.channels) (after_forward s c d x l k) t e in record { in_net = in_net c f.0; d = d; held = is; first = x; rest = l; front = front; remaining = k; credit = credit; after = f.1 }

  forwarded : (c : ℕ) (i : InputState) (l : List NChar) (t : State) → s.input c ≡ i → s.buffer c ≡ l → try_forward net s c i l ≡ Some t → Leads net s (Forward c) t
  forwarded c (Held d) (x ∷ l) t is front e = credited c d x l (s.credit d) t is front refl e
  forwarded c i l t is front e = absurd (cc)

  spilled : (c : ℕ) (i : InputState) (l : List NChar) (t : State) → s.input c ≡ i → s.buffer c ≡ l → try_spill net s c i l ≡ Some t → Leads net s (Spill c) t
  spilled c Spilling (x ∷ l) t is front e = let f = fits (nat_lt c net.channels) (after_spill s c x l) t e in record { in_net = in_net c f.0; spilling = is; first = x; rest = l; front = front; after = f.1 }
  spilled c i l t is front e = absurd (cc)

  answered_by : (i : ℕ) (j : Option ℕ) (address : Option (List ℕ)) → (net.flow i).reply ≡ j → is_answered_by net s i j address ≡ true → AnsweredBy net i address
  answered_by i j None is e = tt
  answered_by i (Some j) (Some address) is e = (j, is, (bytes_eq-Decides (net.flow j).address address).0 e)
  answered_by i None (Some address) is e = absurd (cc)

  limited_is : (i : ℕ) (address : Option (List ℕ)) → is_command_if_limited net s i address ≡ true → net.limited i ≡ true → is_some address ≡ true
  limited_is i (Some address) e is = refl
  limited_is i None e is = let no : false ≡ true = sym (ap (λ t. not t || false) is) ∙ e in absurd (cc)

  is_limited_so : (i : ℕ) (address : Option (List ℕ)) → (net.limited i ≡ true → is_some address ≡ true) → is_command_if_limited net s i address ≡ true
  is_limited_so i address so = by (net.limited i) refl
    where
      by : (t : Bool) → net.limited i ≡ t → not t || is_some address ≡ true
      by false is = refl
      by true is = so is

  begun : (f : ℕ) (cargo : List ℕ) (end : End) (l : List NChar) (p : List PendingReply) (t : State) → s.to_send (net.flow f).from ≡ l → s.pending (net.flow f).from ≡ p → try_begin net s f cargo end l p ≡ Some t → Leads net s (Begin f cargo end) t
  begun f cargo end [] [] t nothing none e =
      let x = nat_lt f net.declared_flows && (nat_lt 0 (length cargo) && nat_le (length cargo) 33554432) in
      let y = is_answered_by net s f (net.flow f).reply (net.reply_to (net.flow f).to (left_bytes net f cargo)) in
      let z = is_command_if_limited net s f (net.reply_to (net.flow f).to (left_bytes net f cargo)) in
      let g = fits (x && (y && z)) (after_begin s (net.flow f).from (form net f 0 cargo end)) t e in
      let a = and_parts x (y && z) g.0 in
      let yz = and_parts y z a.1 in
      let b = and_parts (nat_lt f net.declared_flows) (nat_lt 0 (length cargo) && nat_le (length cargo) 33554432) a.0 in
      let c = and_parts (nat_lt 0 (length cargo)) (nat_le (length cargo) 33554432) b.1 in
      record {
        declared = record {
          declared = ltb-true f net.declared_flows b.0;
          some_cargo = ltb-true 0 (length cargo) c.0;
          within = leb-true (length cargo) 33554432 c.1;
          answered = answered_by f (net.flow f).reply (net.reply_to (net.flow f).to (left_bytes net f cargo)) refl yz.0;
          command = limited_is f (net.reply_to (net.flow f).to (left_bytes net f cargo)) yz.1;
        };
        sends_nothing = nothing;
        none_pending = none;
        after = g.1;
      }
  begun f cargo end l p t nothing none e = absurd (cc)

  emitted : (n : ℕ) (l : List NChar) (k : ℕ) (t : State) → s.to_send n ≡ l → s.credit (net.out n) ≡ k → try_emit net s n l k ≡ Some t → Leads net s (Emit n) t
  emitted n (x ∷ l) (suc k) t sending credit e = let f = fits (nat_lt n net.nodes) (after_emit net s n x l k) t e in record { in_net = in_nodes n f.0; first = x; rest = l; sending = sending; remaining = k; credit = credit; after = f.1 }
  emitted n l k t sending credit e = absurd (cc)

  accepted : (n : ℕ) (l : List NChar) (ps : List Packet) (bytes : List ℕ) (t : State) → s.buffer (net.into n) ≡ l → IsCut (s.taken n) ps bytes → try_accept net s n l bytes ≡ Some t → Leads net s (Accept n) t
  accepted n [] ps bytes t front cut e = absurd (cc)
  accepted n (x ∷ l) ps bytes t front cut e =
      let f = fits (nat_lt n net.nodes && nat_lt (s.owed n) (net.slots n)) (after_accept net s n bytes x l) t e in
      let a = and_parts (nat_lt n net.nodes) (nat_lt (s.owed n) (net.slots n)) f.0 in
      record { in_net = in_nodes n a.0; owes_less = ltb-true (s.owed n) (net.slots n) a.1; first = x; rest = l; front = front; packets = ps; bytes = bytes; cut = cut; after = f.1 }

  replied : (n : ℕ) (p : List PendingReply) (l : List NChar) (t : State) → s.pending n ≡ p → s.to_send n ≡ l → try_reply net s n p l ≡ Some t → Leads net s (Reply n) t
  replied n (r ∷ others) [] t waits nothing e = let f = fits (nat_lt n net.nodes) (after_reply s n r others) t e in record { in_net = in_nodes n f.0; reply = r; others = others; waits = waits; sends_nothing = nothing; after = f.1 }
  replied n p l t waits nothing e = absurd (cc)

  pub tried : (step : Step) (t : State) → try_step net s step ≡ Some t → Leads net s step t
  tried (Fct c) t e =
      let x = nat_le (s.outstanding c + length (s.buffer c) + 8) (net.capacity c) in
      let y = nat_le (s.outstanding c) 48 in
      let f = fits (nat_lt c net.channels && (x && y)) (after_fct s c) t e in
      let a = and_parts (nat_lt c net.channels) (x && y) f.0 in
      let b = and_parts x y a.1 in
      record { in_net = in_net c a.0; room = leb-true (s.outstanding c + length (s.buffer c) + 8) (net.capacity c) b.0; few = leb-true (s.outstanding c) 48 b.1; after = f.1 }
  tried (FctIn c) t e = fct_in c (s.fcts c) t refl e
  tried (Arrive c) t e = arrive c (s.wire c) t refl e
  tried (Grant d c) t e = grant d c (net.end_of c) (s.input c) (s.buffer c) t refl refl refl e
  tried (Drop c) t e = dropped c (net.end_of c) (s.input c) (s.buffer c) t refl refl refl e
  tried (Forward c) t e = forwarded c (s.input c) (s.buffer c) t refl refl e
  tried (Spill c) t e = spilled c (s.input c) (s.buffer c) t refl refl e
  tried (Begin f cargo end) t e = begun f cargo end (s.to_send (net.flow f).from) (s.pending (net.flow f).from) t refl refl e
  tried (Emit n) t e = emitted n (s.to_send n) (s.credit (net.out n)) t refl refl e
  tried (Accept n) t e = let k = cut_of (s.taken n) in accepted n (s.buffer (net.into n)) k.0 k.1 t refl k.2 (ap (try_accept net s n (s.buffer (net.into n))) (sym (under_way_is (s.taken n) k.0 k.1 k.2)) ∙ e)
  tried (Reply n) t e = replied n (s.pending n) (s.to_send n) t refl refl e

  answers : (i : ℕ) (j : Option ℕ) (address : Option (List ℕ)) → (net.flow i).reply ≡ j → AnsweredBy net i address → is_answered_by net s i j address ≡ true
  answers i j None is a = refl
  answers i (Some j) (Some address) is a =
      let and_parts : Some j ≡ Some a.0 = sym is ∙ a.1 in
      let same : j ≡ a.0 = cc in
      (bytes_eq-Decides (net.flow j).address address).1 (ap (λ k. (net.flow k).address) same ∙ a.2)
  answers i None (Some address) is a = let none : None ≡ Some a.0 = sym is ∙ a.1 in absurd (cc)

  drops : (c switch : ℕ) (first : NChar) (rest : List NChar) (t : State) → c < net.channels → Drops net s c switch first rest t → try_drop net s c (AtSwitch switch) Idle (first ∷ rest) ≡ Some t
  drops c switch (Data h) rest t lt d = rw d.0 (rw (lt-ltb c net.channels lt) (ap Some (sym d.1)))
  drops c switch Eop rest t lt d = rw (lt-ltb c net.channels lt) (ap Some (sym d))
  drops c switch Eep rest t lt d = rw (lt-ltb c net.channels lt) (ap Some (sym d))

  -- each step that is possible is tried with success
  pub tries : (step : Step) (t : State) → Leads net s step t → try_step net s step ≡ Some t
  tries (Fct c) t h = rw (lt-ltb c net.channels h.in_net, le-leb (s.outstanding c + length (s.buffer c) + 8) (net.capacity c) h.room, le-leb (s.outstanding c) 48 h.few) (ap Some (sym h.after))
  tries (FctIn c) t h = ap (try_fct_in net s c) h.under_way ∙ rw (lt-ltb c net.channels h.in_net) (ap Some (sym h.after))
  tries (Arrive c) t h = ap (try_arrive net s c) h.on_wire ∙ rw (lt-ltb c net.channels h.in_net) (ap Some (sym h.after))
  tries (Grant d c) t h =
      ap (λ at. try_grant net s d c at (s.input c) (s.buffer c)) h.at ∙ ap (λ i. try_grant net s d c (AtSwitch h.switch) i (s.buffer c)) h.idle ∙ ap (try_grant net s d c (AtSwitch h.switch) Idle) h.front
      ∙ rw (lt-ltb c net.channels h.in_net, names_it (net.look h.switch h.h) d h.named, holds_none net.channels d s.input h.not_held) (ap Some (sym h.after))
  tries (Drop c) t h =
      ap (λ at. try_drop net s c at (s.input c) (s.buffer c)) h.at ∙ ap (λ i. try_drop net s c (AtSwitch h.switch) i (s.buffer c)) h.idle ∙ ap (try_drop net s c (AtSwitch h.switch) Idle) h.front
      ∙ drops c h.switch h.first h.rest t h.in_net h.after
  tries (Forward c) t h =
      ap (λ i. try_forward net s c i (s.buffer c)) h.held ∙ ap (try_forward net s c (Held h.d)) h.front ∙ ap (try_credit net s c h.d h.first h.rest) h.credit
      ∙ rw (lt-ltb c net.channels h.in_net) (ap Some (sym h.after))
  tries (Spill c) t h = ap (λ i. try_spill net s c i (s.buffer c)) h.spilling ∙ ap (try_spill net s c Spilling) h.front ∙ rw (lt-ltb c net.channels h.in_net) (ap Some (sym h.after))
  tries (Begin f cargo end) t h =
      let d = h.declared in
      ap (λ l. try_begin net s f cargo end l (s.pending (net.flow f).from)) h.sends_nothing ∙ ap (try_begin net s f cargo end []) h.none_pending
      ∙ rw (lt-ltb f net.declared_flows d.declared, lt-ltb 0 (length cargo) d.some_cargo, le-leb (length cargo) 33554432 d.within, answers f (net.flow f).reply (net.reply_to (net.flow f).to (left_bytes net f cargo)) refl d.answered, is_limited_so f (net.reply_to (net.flow f).to (left_bytes net f cargo)) d.command) (ap Some (sym h.after))
  tries (Emit n) t h = ap (λ l. try_emit net s n l (s.credit (net.out n))) h.sending ∙ ap (try_emit net s n (h.first ∷ h.rest)) h.credit ∙ rw (lt-ltb n net.nodes h.in_net) (ap Some (sym h.after))
  tries (Accept n) t h =
      ap (λ l. try_accept net s n l (under_way [] (s.taken n))) h.front ∙ ap (try_accept net s n (h.first ∷ h.rest)) (under_way_is (s.taken n) h.packets h.bytes h.cut)
      ∙ rw (lt-ltb n net.nodes h.in_net, lt-ltb (s.owed n) (net.slots n) h.owes_less) (ap Some (sym h.after))
  tries (Reply n) t h = ap (λ p. try_reply net s n p (s.to_send n)) h.waits ∙ ap (try_reply net s n (h.reply ∷ h.others)) h.sends_nothing ∙ rw (lt-ltb n net.nodes h.in_net) (ap Some (sym h.after))

-- steps that were tried are a run
pub tried_all : (net : Network) (steps : List Step) (s t : State) → try_steps net s steps ≡ Some t → Run net s steps t
tried_all net [] s t e = cc
tried_all net (step ∷ steps) s t e = first (try_step net s step) refl e (λ mid e. tried_all net steps mid t e)
  where
    first : (o : Option State) → try_step net s step ≡ o → option_and_then (λ t. try_steps net t steps) o ≡ Some t → ((mid : State) → try_steps net mid steps ≡ Some t → Run net mid steps t) → Run net s (step ∷ steps) t
    first None is e on = absurd (cc)
    first (Some mid) is e on = (mid, tried net s step mid is, on mid e)
