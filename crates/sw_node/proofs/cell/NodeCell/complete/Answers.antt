use Rattle.std.proofs.Common.{Global, List, None, Option, Some, Vec, [], ap, arith, length, refl, subst, sym, ℕ, ◌+◌, ◌++◌, ◌<◌, ◌≤◌, ◌∙◌, ◌∷◌, ◌≡◌}
use Rattle.std.proofs.lemmas.List.{length_push}
use Rattle.std.specs.Prelude.{Ok, OnOk, Result}
use Rattle.circular_buffer.specs.Buffer.{Buffer}
use Rattle.sw_char.specs.PacketView.{PacketView}
use Rattle.sw_char.specs.declared.nchar.End.{End}
use Rattle.sw_char.specs.declared.nchar.NChar.{NChar}
use Rattle.sw_link.specs.Ends.{Received}
use Rattle.sw_rmap.specs.Owing.{owed_with, pending_with, PendingReply}
use Rattle.sw_rmap.specs.Targets.{answer_of, memory_after, slots_of}
use Rattle.sw_node.proofs.cell.NodeCell.complete.Goals as goal
use Rattle.sw_node.specs.Changes.{completed, with_memory}
use Rattle.sw_node.specs.Node.{IsNode, Node, config_of, memory_of, node_of, slots}
use Rattle.sw_rmap.specs.Answers.{TargetView}
use Rattle.sw_node.proofs.Replies.{slots_same}

-- what is so after a call that went well
was_ok : {T E P : Type 0} (r : Result T E) (x : T) → r ≡ Ok x → OnOk r P → P
was_ok {T} {E} {P} r x is h = subst (λ (k : Result T E). OnOk k P) is h

-- where less is owed than there are slots, there is room for one reply more
room : (n : Node) → IsNode n → n.owed < slots n → (capacity : ℕ) → capacity ≡ slots n → length n.pending < capacity
room n is less capacity same = let w = is.waiting in omega arith

one_more : (pending : List PendingReply) (reply : PendingReply) (owed : ℕ) → length pending ≤ owed → length (pending ++ reply ∷ []) ≤ owed + 1
one_more pending reply owed few = let long = length_push pending reply in omega arith

-- a node of which each part is as the change has it
whole : (t after : Option TargetView) (credit : ℕ) (received : Received) (sending : List NChar) (pending waiting : List PendingReply) (owed owes : ℕ) (packets all : List PacketView) (bytes none : List ℕ) (end : End) (reply : Option PendingReply)
    → after ≡ with_memory t (memory_after (config_of t) (memory_of t) bytes end) → reply ≡ answer_of (config_of t) (memory_of t) bytes end
    → waiting ≡ pending_with pending reply → owes ≡ owed_with owed reply → all ≡ packets ++ record { bytes = bytes; end = end } ∷ [] → none ≡ []
    → node_of after credit received sending waiting owes all none ≡ completed (node_of t credit received sending pending owed packets bytes) end
whole t after credit received sending pending waiting owed owes packets all bytes none end reply target answers waits counts out empty =
    let w = waits ∙ ap (pending_with pending) answers in
    let o = counts ∙ ap (owed_with owed) answers in
    λ i. node_of (target i) credit received sending (w i) (o i) (out i) (empty i)

pub returns-in_default-clause-ok : goal.returns-in_default-clause-ok
returns-in_default-clause-ok c =
    let p = c.self.inside in
    let e = c.args.end in
    let done = whole p.target c.answer.new.target p.credit p.received p.sending p.pending.items p.pending.items p.owed p.owed p.packets.items c.push_reserved.new.self.items p.bytes.items c.replace-bytes.new.dest.items e None
    (c.in_ok-reply.ensures.target ∙ ap (λ b. with_memory p.target (memory_after (config_of p.target) (memory_of p.target) b e)) c.deref.ensures.value)
    (sym c.in_default.is ∙ c.in_ok-reply.ensures.reply ∙ ap (λ b. answer_of (config_of p.target) (memory_of p.target) b e) c.deref.ensures.value)
    refl refl
    (c.push_reserved.ensures.items ∙ ap (λ (ps : List PacketView). ps ++ record { bytes = c.replace-bytes.result.items; end = e } ∷ []) c.in_ok-reserve.ensures.items
    ∙ ap (λ (v : Vec ℕ Global). p.packets.items ++ record { bytes = v.items; end = e } ∷ []) c.replace-bytes.ensures.value)
    (ap (λ (v : Vec ℕ Global). v.items) c.replace-bytes.ensures.after ∙ c.new.ensures.items) in
    done ∙ ap (λ n. completed n e) c.self.view_is

pub returns-in-Some-clause-ok : goal.returns-in-Some-clause-ok
returns-in-Some-clause-ok c =
    let p = c.self.inside in
    let e = c.args.end in
    let done = whole p.target c.answer.new.target p.credit p.received p.sending p.pending.items c.try_push_back.new.self.items p.owed (p.owed + 1) p.packets.items c.push_reserved.new.self.items p.bytes.items c.replace-bytes.new.dest.items e (Some c.in-Some.reply)
    (c.in_ok-reply.ensures.target ∙ ap (λ b. with_memory p.target (memory_after (config_of p.target) (memory_of p.target) b e)) c.deref.ensures.value)
    (sym c.in-Some.is ∙ c.in_ok-reply.ensures.reply ∙ ap (λ b. answer_of (config_of p.target) (memory_of p.target) b e) c.deref.ensures.value)
    (ap (λ (b : Buffer _). b.items) (was_ok c.try_push_back.result c.unwrap.result c.unwrap.ensures c.try_push_back.ensures.ok)) refl
    (c.push_reserved.ensures.items ∙ ap (λ (ps : List PacketView). ps ++ record { bytes = c.replace-bytes.result.items; end = e } ∷ []) c.in_ok-reserve.ensures.items
    ∙ ap (λ (v : Vec ℕ Global). p.packets.items ++ record { bytes = v.items; end = e } ∷ []) c.replace-bytes.ensures.value)
    (ap (λ (v : Vec ℕ Global). v.items) c.replace-bytes.ensures.after ∙ c.new.ensures.items) in
    done ∙ ap (λ n. completed n e) c.self.view_is

pub invariant_of-self-in_default : goal.invariant_of-self-in_default
invariant_of-self-in_default c =
    let p = c.self.inside in
    let is = c.self.invariant.0 in
    let same = ap (λ o. slots_of (config_of o)) c.in_ok-reply.ensures.target ∙ slots_same p.target _ in
    (record { waiting = is.waiting; within = subst (λ k. p.owed ≤ k) (sym same) is.within; few = subst (λ k. k ≤ 64) (sym same) is.few }, c.self.invariant.1 ∙ sym same)

pub invariant_of-self-in-Some : goal.invariant_of-self-in-Some
invariant_of-self-in-Some c =
    let p = c.self.inside in
    let is = c.self.invariant.0 in
    let same = ap (λ o. slots_of (config_of o)) c.in_ok-reply.ensures.target ∙ slots_same p.target _ in
    let pushed = (was_ok c.try_push_back.result c.unwrap.result c.unwrap.ensures c.try_push_back.ensures.ok) in
    let less = subst (λ (n : Node). n.owed < slots n) (sym c.self.view_is) c.requires in
    let more : p.owed + 1 ≤ slots_of (config_of p.target) = omega (arith, less) in (
      record {
        waiting = subst (λ (l : List PendingReply). length l ≤ p.owed + 1) (sym (ap (λ (b : Buffer _). b.items) pushed)) (one_more p.pending.items c.in-Some.reply p.owed is.waiting);
        within = subst (λ k. p.owed + 1 ≤ k) (sym same) more;
        few = subst (λ k. k ≤ 64) (sym same) is.few;
      },
      ap (λ (b : Buffer _). b.capacity) pushed ∙ c.self.invariant.1 ∙ sym same,
    )

pub unwrap-requires : goal.unwrap-requires
unwrap-requires c =
    let less = subst (λ (n : Node). n.owed < slots n) (sym c.self.view_is) c.requires in
    c.try_push_back.ensures.variant.1 (room _ c.self.invariant.0 less c.self.inside.pending.capacity c.self.invariant.1)
