-- The steps of a node, on its part of the machine's state.
use mathlib.Core.Logic.{∥∥₁_elim}
use native.Mathlib.Bridge.{le_prop}
use Rattle.std.proofs.Common.{◌≡◌, ℕ, Bool, ◌+◌, ◌-◌, ◌<◌, ◌≤◌, List, [], ◌∷◌, ◌++◌, drop, length, Option, Some, None, IsTrue, refl, ap, ap₂, sym, subst, ◌∙◌, arith, true, false}
use Rattle.std.proofs.lemmas.Bool.Decides.{nat_tests}
use Rattle.std.specs.Prelude.{slice_get}
use Rattle.sw_cell.proofs.Betweens.{fcts_put, wires_put}
use Rattle.sw_cell.proofs.Puts.{front_is, front_of, reached_more}
use Rattle.sw_cell.specs.Makes.{HasNodeState, NodeMakes}
use Rattle.sw_cell.specs.Parts.{IsNodePart}
use Rattle.sw_char.specs.declared.nchar.End.{End}
use Rattle.sw_char.specs.declared.nchar.End.TheVariants.{Eep as ByEep, Eop as ByEop}
use Rattle.sw_char.specs.declared.nchar.NChar.{NChar}
use Rattle.sw_char.specs.declared.nchar.NChar.TheVariants.{Data, Eep, Eop}
use Rattle.sw_link.specs.Ends.{Received, arrived, asked, granted, may_issue}
use Rattle.sw_machine.proofs.Credit.{reached_numbers}
use Rattle.sw_machine.proofs.Cuts.{cut_byte, cut_marker}
use Rattle.sw_machine.proofs.Lists.{put_here}
use Rattle.sw_machine.specs.Network.{IsDeclared, IsNetwork, Network, form}
use Rattle.sw_machine.specs.State.{State, after_accept, after_arrive, after_begin, after_emit, after_fct, after_fct_in, after_reply, put}
use Rattle.sw_machine.specs.Owing.{owed_after, owed_with, pending_with, reply_packet}
use Rattle.sw_machine.specs.Targets.{answer_of, memory_after}
use Rattle.sw_machine.specs.Steps.{Accept, Arrive, Begin, Emit, Fct, FctIn, Leads, Reply, Step}
use Rattle.sw_node.specs.Changes.{accepted, begun, emitted, first_reply, replied, took, with_credit, with_memory, with_received, without_front}
use Rattle.sw_node.specs.Conditions.{CanAccept, CanBegin, CanEmit, CanIssue, CanReply}
use Rattle.sw_node.specs.Node.{Node, config_of, memory_of, slots}
use Rattle.sw_rmap.specs.Answers.{TargetView}
use Rattle.sw_link.specs.Between.{Between, fcts_at, wire_at, with_fcts, with_wire}

-- ---- what an FCT needs

pub record HasRoom (r : Received) : Type 0 where
  pub room : length r.buffer + r.outstanding + 8 ≤ r.capacity
  pub few : r.outstanding ≤ 48

pub has_room : (r : Received) → IsTrue (may_issue r) → HasRoom r
has_room r h = record { room = grind (arith, nat_tests); few = grind (arith, nat_tests) }

pub room_issues : (r : Received) → HasRoom r → IsTrue (may_issue r)
room_issues r h = let room = h.room in let few = h.few in grind (arith, nat_tests)

-- ---- targets

pub memory_with : (target : Option TargetView) (bytes : List ℕ) (end : End) → memory_of (with_memory target (memory_after (config_of target) (memory_of target) bytes end)) ≡ memory_after (config_of target) (memory_of target) bytes end
memory_with None bytes end = refl
memory_with (Some t) bytes end = refl

pub config_with : (target : Option TargetView) (memory : List ℕ) → config_of (with_memory target memory) ≡ config_of target
config_with None memory = refl
config_with (Some t) memory = refl

pub config_took : (node : Node) (x : Option NChar) → config_of (took node x).target ≡ config_of node.target
config_took node None = refl
config_took node (Some (Data b)) = refl
config_took node (Some Eop) = config_with node.target _
config_took node (Some Eep) = config_with node.target _

pub received_took : (node : Node) (x : Option NChar) → (took node x).received ≡ node.received
received_took node None = refl
received_took node (Some (Data b)) = refl
received_took node (Some Eop) = refl
received_took node (Some Eep) = refl

some_first : {A : Type 0} (l : List A) → 0 < length l → (x : A) × (l ≡ x ∷ drop 1 l)
some_first [] lt = absurd (omega arith)
some_first (x ∷ l) lt = (x, refl)

-- how the network's node answers is how this one does
pub record AnswersAs (net : Network) (n : ℕ) (node : Node) : Type 0 where
  pub slots_are : net.slots n ≡ slots node
  pub answers_are : (memory bytes : List ℕ) (end : End) → net.answer n memory bytes end ≡ answer_of (config_of node.target) memory bytes end
  pub memories_are : (memory bytes : List ℕ) (end : End) → net.memory_after n memory bytes end ≡ memory_after (config_of node.target) memory bytes end

module _ (net : Network) (ok : IsNetwork net) (n : ℕ) (in_net : n < net.nodes) (node : Node) (b : Between) where
  lo : net.out n < net.channels
  lo = (ok.out_starts n in_net).0

  li : net.into n < net.channels
  li = (ok.into_ends n in_net).0

  pub wires_long : HasNodeState net n node b → net.channels ≤ length b.wires
  wires_long has = ∥∥₁_elim has le_prop (λ k. let all = (k.1).between.all_wires in omega arith)

  -- ---- FCTs

  pub fct_made : net.capacity (net.into n) ≡ node.received.capacity → CanIssue node
      → NodeMakes net n node b (Fct (net.into n)) true (with_received node (asked node.received)) (with_fcts b (net.into n) (fcts_at b (net.into n) + 1))
  fct_made capacity can s is =
      let i = net.into n in
      let p = is.part in
      let r = has_room node.received can.room in
      let few = r.few in
      let room = r.room in
      let e = p.outstanding in
      let l = ap length p.buffer in
      let h : Leads net s (Fct i) (after_fct s i) = record { in_net = li; room = omega arith; few = omega arith; after = refl } in (
        after_fct s i,
        h,
        record {
          reached = reached_more net s (after_fct s i) (Fct i) is.reached h;
          part = record {
            credit = p.credit;
            buffer = p.buffer;
            outstanding = put_here s.outstanding i (s.outstanding i + 8) ∙ ap (λ k. k + 8) e;
            to_send = p.to_send;
            pending = p.pending;
            owed = p.owed;
            taken = p.taken;
            memory = p.memory;
          };
          between = fcts_put net b s (after_fct s i) i (s.fcts i + 1) (fcts_at b i + 1) li (ap (λ k. k + 1) (is.between.fcts i li)) refl refl is.between;
        },
      )

  pub fct_not : net.capacity (net.into n) ≡ node.received.capacity → (CanIssue node → ⊥) → NodeMakes net n node b (Fct (net.into n)) false node b
  fct_not capacity never = (
    λ s is p.
        let h = p.1 in
        let e = is.part.outstanding in
        let l = ap length is.part.buffer in
        let room = h.room in
        let few = h.few in
        never (record { room = room_issues node.received (record { room = omega arith; few = omega arith }) }),
    refl,
    refl,
  )

  pub fct_few : HasNodeState net n node b → CanIssue node → fcts_at b (net.into n) ≤ 6
  fct_few has can = ∥∥₁_elim has le_prop (λ k.
      let is = k.1 in
      let q = (reached_numbers net ok k.0 is.reached).at (net.into n) li in
      let equation = q.equation in
      let r = has_room node.received can.room in
      let few = r.few in
      let e = is.part.outstanding in
      let f = is.between.fcts (net.into n) li in
      omega arith)

  pub fct_in_made : 0 < fcts_at b (net.out n) → NodeMakes net n node b (FctIn (net.out n)) true (with_credit node (granted node.credit)) (with_fcts b (net.out n) (fcts_at b (net.out n) - 1))
  fct_in_made some s is =
      let o = net.out n in
      let p = is.part in
      let f = is.between.fcts o lo in
      let h : Leads net s (FctIn o) (after_fct_in s o (fcts_at b o - 1)) = record { in_net = lo; remaining = fcts_at b o - 1; under_way = omega arith; after = refl } in (
        after_fct_in s o (fcts_at b o - 1),
        h,
        record {
          reached = reached_more net s (after_fct_in s o (fcts_at b o - 1)) (FctIn o) is.reached h;
          part = record {
            credit = put_here s.credit o (s.credit o + 8) ∙ ap (λ k. k + 8) p.credit;
            buffer = p.buffer;
            outstanding = p.outstanding;
            to_send = p.to_send;
            pending = p.pending;
            owed = p.owed;
            taken = p.taken;
            memory = p.memory;
          };
          between = fcts_put net b s (after_fct_in s o (fcts_at b o - 1)) o (fcts_at b o - 1) (fcts_at b o - 1) lo refl refl refl is.between;
        },
      )

  pub fct_in_not : fcts_at b (net.out n) ≤ 0 → NodeMakes net n node b (FctIn (net.out n)) false node b
  fct_in_not none = (λ s is p. let h = p.1 in let u = h.under_way in let f = is.between.fcts (net.out n) lo in omega arith, refl, refl)

  pub fct_in_room : HasNodeState net n node b → 0 < fcts_at b (net.out n) → node.credit ≤ 48
  fct_in_room has some = ∥∥₁_elim has le_prop (λ k.
      let is = k.1 in
      let q = (reached_numbers net ok k.0 is.reached).at (net.out n) lo in
      let equation = q.equation in
      let few = q.few in
      let e = is.part.credit in
      let f = is.between.fcts (net.out n) lo in
      omega arith)

  -- ---- arrivals

  pub arrive_made : (x : NChar) → slice_get (wire_at b (net.into n)) 0 ≡ Some x
      → NodeMakes net n node b (Arrive (net.into n)) true (with_received node (arrived x node.received)) (with_wire b (net.into n) (drop 1 (wire_at b (net.into n))))
  arrive_made x front s is =
      let i = net.into n in
      let p = is.part in
      let rest = drop 1 (wire_at b i) in
      let h : Leads net s (Arrive i) (after_arrive s i x rest) = record { in_net = li; first = x; rest = rest; on_wire = is.between.wire i li ∙ front_is (wire_at b i) x front; after = refl } in (
        after_arrive s i x rest,
        h,
        record {
          reached = reached_more net s (after_arrive s i x rest) (Arrive i) is.reached h;
          part = record {
            credit = p.credit;
            buffer = put_here s.buffer i (s.buffer i ++ x ∷ []) ∙ ap (λ (l : List NChar). l ++ x ∷ []) p.buffer;
            outstanding = put_here s.outstanding i (s.outstanding i - 1) ∙ ap (λ k. k - 1) p.outstanding;
            to_send = p.to_send;
            pending = p.pending;
            owed = p.owed;
            taken = p.taken;
            memory = p.memory;
          };
          between = wires_put net b s (after_arrive s i x rest) i rest rest li refl refl refl is.between;
        },
      )

  pub arrive_not : slice_get (wire_at b (net.into n)) 0 ≡ None → NodeMakes net n node b (Arrive (net.into n)) false node b
  arrive_not none = (λ s is p. let h = p.1 in let f = front_of (wire_at b (net.into n)) h.first h.rest (sym (is.between.wire (net.into n) li) ∙ h.on_wire) in cc, refl, refl)

  pub arrive_asked : HasNodeState net n node b → (x : NChar) → slice_get (wire_at b (net.into n)) 0 ≡ Some x → 0 < node.received.outstanding
  arrive_asked has x front = ∥∥₁_elim has le_prop (λ k.
      let is = k.1 in
      let q = (reached_numbers net ok k.0 is.reached).at (net.into n) li in
      let equation = q.equation in
      let e = is.part.outstanding in
      let w = ap length (is.between.wire (net.into n) li ∙ front_is (wire_at b (net.into n)) x front) in
      omega arith)

  -- ---- sending

  pub emit_made : (x : NChar) → CanEmit node → slice_get node.to_send 0 ≡ Some x
      → NodeMakes net n node b (Emit n) true (emitted node) (with_wire b (net.out n) (wire_at b (net.out n) ++ x ∷ []))
  emit_made x can front s is =
      let o = net.out n in
      let p = is.part in
      let rest = drop 1 node.to_send in
      let some = can.has_credit in
      let e = p.credit in
      let h : Leads net s (Emit n) (after_emit net s n x rest (node.credit - 1)) =
      record { in_net = in_net; first = x; rest = rest; sending = p.to_send ∙ front_is node.to_send x front; remaining = node.credit - 1; credit = omega arith; after = refl } in (
        after_emit net s n x rest (node.credit - 1),
        h,
        record {
          reached = reached_more net s (after_emit net s n x rest (node.credit - 1)) (Emit n) is.reached h;
          part = record {
            credit = put_here s.credit o (node.credit - 1);
            buffer = p.buffer;
            outstanding = p.outstanding;
            to_send = put_here s.to_send n rest;
            pending = p.pending;
            owed = put_here s.owed n (owed_after rest (s.pending n) (s.owed n)) ∙ ap₂ (owed_after rest) p.pending p.owed;
            taken = p.taken;
            memory = p.memory;
          };
          between = wires_put net b s (after_emit net s n x rest (node.credit - 1)) o (s.wire o ++ x ∷ []) (wire_at b o ++ x ∷ []) lo (ap (λ (l : List NChar). l ++ x ∷ []) (is.between.wire o lo)) refl refl is.between;
        },
      )

  pub emit_not : (CanEmit node → ⊥) → NodeMakes net n node b (Emit n) false node b
  emit_not never = (
    λ s is p.
        let h = p.1 in
        let l = ap length (sym is.part.to_send ∙ h.sending) in
        let e = sym is.part.credit ∙ h.credit in
        never (record { sending = omega arith; has_credit = omega arith }),
    refl,
    refl,
  )

  pub emit_room : HasNodeState net n node b → CanEmit node → length (wire_at b (net.out n)) < 56
  emit_room has can = ∥∥₁_elim has le_prop (λ k.
      let is = k.1 in
      let q = (reached_numbers net ok k.0 is.reached).at (net.out n) lo in
      let equation = q.equation in
      let few = q.few in
      let some = can.has_credit in
      let e = is.part.credit in
      let w = ap length (is.between.wire (net.out n) lo) in
      omega arith)

-- a part that only one cell changes
module _ (net : Network) (n : ℕ) (in_net : n < net.nodes) (node : Node) (b : Between) where
  -- ---- replies

  pub reply_made : CanReply node → NodeMakes net n node b (Reply n) true (replied node) b
  reply_made can s is =
      let p = is.part in
      let r = some_first node.pending can.waits in
      let others = drop 1 node.pending in
      let h : Leads net s (Reply n) (after_reply s n r.0 others) = record { in_net = in_net; reply = r.0; others = others; waits = p.pending ∙ r.1; sends_nothing = p.to_send ∙ can.sends_nothing; after = refl } in (
        after_reply s n r.0 others,
        h,
        record {
          reached = reached_more net s (after_reply s n r.0 others) (Reply n) is.reached h;
          part = record {
            credit = p.credit;
            buffer = p.buffer;
            outstanding = p.outstanding;
            to_send = put_here s.to_send n (reply_packet r.0) ∙ sym (ap first_reply r.1);
            pending = put_here s.pending n others;
            owed = p.owed;
            taken = p.taken;
            memory = p.memory;
          };
          between = record { all_wires = is.between.all_wires; all_fcts = is.between.all_fcts; wire = is.between.wire; fcts = is.between.fcts };
        },
      )

  pub reply_not : (CanReply node → ⊥) → NodeMakes net n node b (Reply n) false node b
  reply_not never = (
    λ s is p.
        let h = p.1 in
        let l = ap length (sym is.part.pending ∙ h.waits) in
        never (record { waits = omega arith; sends_nothing = sym is.part.to_send ∙ h.sends_nothing }),
    refl,
    refl,
  )

  -- ---- beginning

  pub begin_made : (f : ℕ) (cargo : List ℕ) (end : End) → IsDeclared net f cargo → (net.flow f).from ≡ n → CanBegin node
      → NodeMakes net n node b (Begin f cargo end) true (begun node (net.flow f).address cargo end) b
  begin_made f cargo end declared from can s is =
      let p = is.part in
      let packet = form net f 0 cargo end in
      let t = after_begin s (net.flow f).from packet in
      let h : Leads net s (Begin f cargo end) t = record { declared = declared; sends_nothing = ap s.to_send from ∙ p.to_send ∙ can.sends_nothing; none_pending = ap s.pending from ∙ p.pending ∙ can.none_waits; after = refl } in (
        t,
        h,
        record {
          reached = reached_more net s t (Begin f cargo end) is.reached h;
          part = record {
            credit = p.credit;
            buffer = p.buffer;
            outstanding = p.outstanding;
            to_send = ap (put s.to_send (net.flow f).from packet) (sym from) ∙ put_here s.to_send (net.flow f).from packet;
            pending = p.pending;
            owed = p.owed;
            taken = p.taken;
            memory = p.memory;
          };
          between = record { all_wires = is.between.all_wires; all_fcts = is.between.all_fcts; wire = is.between.wire; fcts = is.between.fcts };
        },
      )

  pub begin_not : (f : ℕ) (cargo : List ℕ) (end : End) → (net.flow f).from ≡ n → (CanBegin node → ⊥) → NodeMakes net n node b (Begin f cargo end) false node b
  begin_not f cargo end from never = (
    λ s is p.
        let h = p.1 in
        never (record { sends_nothing = sym is.part.to_send ∙ ap s.to_send (sym from) ∙ h.sends_nothing; none_waits = sym is.part.pending ∙ ap s.pending (sym from) ∙ h.none_pending }),
    refl,
    refl,
  )

  -- ---- taking

  took_part : AnswersAs net n node → (s : State) (x : NChar) → IsNodePart net n node s → IsNodePart net n (without_front (took node (Some x))) (after_accept net s n node.bytes x (drop 1 node.received.buffer))
  took_part same s (Data byte) p = record {
    credit = p.credit;
    buffer = put_here s.buffer (net.into n) (drop 1 node.received.buffer);
    outstanding = p.outstanding;
    to_send = p.to_send;
    pending = put_here s.pending n (s.pending n) ∙ p.pending;
    owed = put_here s.owed n (s.owed n) ∙ p.owed;
    taken = put_here s.taken n (s.taken n ++ Data byte ∷ []) ∙ cut_byte (s.taken n) node.packets node.bytes byte p.taken;
    memory = put_here s.memory n (s.memory n) ∙ p.memory;
  }
  took_part same s Eop p =
      let answer = ap (λ (m : List ℕ). net.answer n m node.bytes ByEop) p.memory ∙ same.answers_are (memory_of node.target) node.bytes ByEop in
      record {
        credit = p.credit;
        buffer = put_here s.buffer (net.into n) (drop 1 node.received.buffer);
        outstanding = p.outstanding;
        to_send = p.to_send;
        pending = put_here s.pending n (pending_with (s.pending n) (net.answer n (s.memory n) node.bytes ByEop)) ∙ ap₂ pending_with p.pending answer;
        owed = put_here s.owed n (owed_with (s.owed n) (net.answer n (s.memory n) node.bytes ByEop)) ∙ ap₂ owed_with p.owed answer;
        taken = put_here s.taken n (s.taken n ++ Eop ∷ []) ∙ cut_marker (s.taken n) node.packets node.bytes ByEop p.taken;
        memory = put_here s.memory n (net.memory_after n (s.memory n) node.bytes ByEop) ∙ ap (λ (m : List ℕ). net.memory_after n m node.bytes ByEop) p.memory ∙ same.memories_are (memory_of node.target) node.bytes ByEop ∙ sym (memory_with node.target node.bytes ByEop);
      }
  took_part same s Eep p =
      let answer = ap (λ (m : List ℕ). net.answer n m node.bytes ByEep) p.memory ∙ same.answers_are (memory_of node.target) node.bytes ByEep in
      record {
        credit = p.credit;
        buffer = put_here s.buffer (net.into n) (drop 1 node.received.buffer);
        outstanding = p.outstanding;
        to_send = p.to_send;
        pending = put_here s.pending n (pending_with (s.pending n) (net.answer n (s.memory n) node.bytes ByEep)) ∙ ap₂ pending_with p.pending answer;
        owed = put_here s.owed n (owed_with (s.owed n) (net.answer n (s.memory n) node.bytes ByEep)) ∙ ap₂ owed_with p.owed answer;
        taken = put_here s.taken n (s.taken n ++ Eep ∷ []) ∙ cut_marker (s.taken n) node.packets node.bytes ByEep p.taken;
        memory = put_here s.memory n (net.memory_after n (s.memory n) node.bytes ByEep) ∙ ap (λ (m : List ℕ). net.memory_after n m node.bytes ByEep) p.memory ∙ same.memories_are (memory_of node.target) node.bytes ByEep ∙ sym (memory_with node.target node.bytes ByEep);
      }

  took_made : AnswersAs net n node → (x : NChar) → CanAccept node → slice_get node.received.buffer 0 ≡ Some x → NodeMakes net n node b (Accept n) true (without_front (took node (Some x))) b
  took_made same x can front s is =
      let p = is.part in
      let rest = drop 1 node.received.buffer in
      let e = p.owed in
      let less = can.owes_less in
      let f = same.slots_are in
      let h : Leads net s (Accept n) (after_accept net s n node.bytes x rest) =
      record { in_net = in_net; owes_less = omega arith; first = x; rest = rest; front = p.buffer ∙ front_is node.received.buffer x front; packets = node.packets; bytes = node.bytes; cut = p.taken; after = refl } in (
        after_accept net s n node.bytes x rest,
        h,
        record {
          reached = reached_more net s (after_accept net s n node.bytes x rest) (Accept n) is.reached h;
          part = took_part same s x p;
          between = record { all_wires = is.between.all_wires; all_fcts = is.between.all_fcts; wire = is.between.wire; fcts = is.between.fcts };
        },
      )

  pub accept_made : AnswersAs net n node → CanAccept node → NodeMakes net n node b (Accept n) true (accepted node) b
  accept_made same can =
      let first = some_first node.received.buffer can.not_empty in
      let front = front_of node.received.buffer first.0 (drop 1 node.received.buffer) first.1 in
      subst (λ (o : Option NChar). NodeMakes net n node b (Accept n) true (without_front (took node o)) b) (sym front) (took_made same first.0 can front)

  pub accept_not : AnswersAs net n node → (CanAccept node → ⊥) → NodeMakes net n node b (Accept n) false node b
  accept_not same never = (
    λ s is p.
        let h = p.1 in
        let l = ap length (sym is.part.buffer ∙ h.front) in
        let less = h.owes_less in
        let e = is.part.owed in
        let f = same.slots_are in
        never (record { owes_less = omega arith; not_empty = omega arith }),
    refl,
    refl,
  )

-- the same of values that are known to be equal
pub made_as : (net : Network) (n : ℕ) (node : Node) (b : Between) (step : Step) (made : Bool) (x y : Node) (v w : Between) → y ≡ x → w ≡ v → NodeMakes net n node b step made x v → NodeMakes net n node b step made y w
made_as net n node b step made x y v w e f h =
    subst (λ (k : Node). NodeMakes net n node b step made k w) (sym e) (subst (λ (k : Between). NodeMakes net n node b step made x k) (sym f) h)
