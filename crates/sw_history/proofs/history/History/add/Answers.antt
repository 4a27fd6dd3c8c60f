use Rattle.std.proofs.Common.{◌≡◌, ◌∙◌, ◌++◌, ◌-◌, ◌<◌, ◌≤◌, ◌∷◌, [], ℕ, Err, List, ap, arith, length, map, rules, subst, sym}
use Rattle.std.specs.Prelude.{IfSome, slice_index, vec_capacity, vec_len}
use Rattle.sw_history.proofs.Adds.{add_is_kept, made_may_follow, same_view, written}
use Rattle.sw_history.proofs.Counts.{counted_more, few_begun, length-counted}
use Rattle.sw_history.proofs.Noting.{all_noted, noted_more, same_senders}
use Rattle.sw_history.proofs.Refused.{refused}
use Rattle.sw_history.specs.Noted.{noted_step}
use Rattle.sw_history.proofs.history.History.add.Goals as goal
use Rattle.sw_history.specs.History.{Adds, HistoryView, IsCounted, IsKept, Keeps}
use Rattle.sw_history.specs.Makes.{counted_with}
use Rattle.sw_load.specs.History.{BeginsNext, packets_of}
use Rattle.sw_load.specs.Load.{packet_count}
use Rattle.sw_machine.specs.Model.{network_of}
use Rattle.sw_net.specs.Net.{NetView}
use Rattle.sw_machine.specs.StepValues.{machine_step}

pub returns-in_err-made : goal.returns-in_err-made
returns-in_err-made g c =
    let in_self = c.self.inside in
    let now = c.args.self.now in
    let step = machine_step c.args.step in
    let kept = subst (λ (k : HistoryView). IsKept in_self.net k in_self.begun.items in_self.unanswered) c.self.view_is c.self.invariant.0 in
    let same : c.from_residual-in_err-made.result ≡ Err c.in_err-made.field-0.0 = search rules in
    let view : NetView g.row.R.Denot g.row.A.Denot → HistoryView = λ n. record { declared = n.declared; load = in_self.senders.load; steps = map (noted_step in_self.senders) in_self.notes.items; room = vec_capacity in_self.notes - vec_len in_self.notes } in
    let stays = ap view c.in_err-made.ensures.refused ∙ c.self.view_is in
    subst (λ r. Adds now step r (view c.make-made.new.net)) (sym same)
    (refused in_self.net c.make-made.new.net now (view c.make-made.new.net) in_self.begun.items step c.in_err-made.field-0.0 kept c.in_ok-beginner.ensures.next c.in_ok-beginner.ensures.keeps c.in_err-made.ensures.answers stays)

pub count_begun-requires-clause-few : goal.count_begun-requires-clause-few
count_begun-requires-clause-few g c =
    let in_self = c.self.inside in
    let now = c.args.self.now in
    let kept = subst (λ (k : HistoryView). IsKept in_self.net k in_self.begun.items in_self.unanswered) c.self.view_is c.self.invariant.0 in
    let count = c.total-total.ensures.count ∙ ap packet_count c.load.ensures ∙ ap (λ (k : HistoryView). packet_count k.load) c.self.view_is in
    let few = c.total-total.ensures.few in
    let who = c.in_ok-beginner.beginner in
    subst (λ (l : List ℕ). IfSome who (λ n. slice_index l n < 65536)) (sym c.as_mut_slice.ensures.value)
    (few_begun now.declared now.load now.steps in_self.begun.items kept.counted (machine_step c.args.step) who (length now.declared.nodes) 65536 kept.all_nodes (omega arith) c.in_ok-beginner.ensures.node c.in_ok-beginner.ensures.within c.in_ok-beginner.ensures.next)

pub invariant_of-self-2 : goal.invariant_of-self-2
invariant_of-self-2 g c =
    let in_self = c.self.inside in
    let now = c.args.self.now in
    let step = machine_step c.args.step in
    let who = c.in_ok-beginner.beginner in
    let kept = subst (λ (k : HistoryView). IsKept in_self.net k in_self.begun.items in_self.unanswered) c.self.view_is c.self.invariant.0 in
    let next = subst (λ (k : HistoryView). BeginsNext (network_of k.declared) (packets_of k.load) k.steps step) (sym c.self.view_is) c.in_ok-beginner.ensures.next in
    let keep = subst (λ (k : HistoryView). Keeps k step) (sym c.self.view_is) c.in_ok-beginner.ensures.keeps in
    let more = c.count_begun.ensures ∙ ap (λ (l : List ℕ). counted_with l who) c.as_mut_slice.ensures.value in
    let long = length-counted in_self.begun.items who in
    let size = ap (λ (l : List ℕ). length l) more ∙ long in
    let items = written in_self.begun.len in_self.begun.items c.count_begun.new.begun size in_self.begun.ok.0 ∙ more in
    let senders = same_senders in_self.senders in_self.net.declared now c.self.invariant.1 (ap (λ (k : HistoryView). k.declared) c.self.view_is) (ap (λ (k : HistoryView). k.load) c.self.view_is) in
    let last = noted_more in_self.senders now in_self.notes.items c.push_reserved.new.self.items c.note-note.result step senders c.push_reserved.ensures.items c.note-note.ensures.step in
    let sound = all_noted in_self.senders now in_self.notes.items c.push_reserved.new.self.items c.note-note.result senders c.push_reserved.ensures.items c.note-note.ensures.sound c.self.invariant.2 in
    let counted = counted_more now.declared now.load now.steps in_self.begun.items kept.counted step who (length now.declared.nodes) kept.all_nodes c.in_ok-beginner.ensures.node c.in_ok-beginner.ensures.within in
    let inside = subst (λ (k : HistoryView). IsCounted k.declared (k.steps ++ step ∷ []) (counted_with in_self.begun.items who)) (sym c.self.view_is) counted in
    let total = subst (λ k. k ≤ 65536) (c.total-total.ensures.count ∙ ap packet_count c.load.ensures) c.total-total.ensures.few in
    let room = vec_capacity in_self.notes - vec_len in_self.notes in
    let less = vec_capacity c.push_reserved.new.self - vec_len c.push_reserved.new.self in
    let is = add_is_kept in_self.net c.make-made.new.net in_self.senders.load (map (noted_step in_self.senders) in_self.notes.items) step room less in_self.begun.items (counted_with in_self.begun.items who) in_self.unanswered c.make-made.new.unanswered c.network-network.ensures.sound.valid total c.make-made.ensures.network c.self.invariant.0 next keep c.in_ok-made.ensures.answers long inside c.in_ok-made.ensures.counted in
    rw (last, items) (is, c.self.invariant.1 ∙ sym c.make-made.ensures.network, sound)

pub returns : goal.returns
returns g c =
    let in_self = c.self.inside in
    let now = c.args.self.now in
    let step = machine_step c.args.step in
    let kept = subst (λ (k : HistoryView). IsKept in_self.net k in_self.begun.items in_self.unanswered) c.self.view_is c.self.invariant.0 in
    let senders = same_senders in_self.senders in_self.net.declared now c.self.invariant.1 (ap (λ (k : HistoryView). k.declared) c.self.view_is) (ap (λ (k : HistoryView). k.load) c.self.view_is) in
    let last = noted_more in_self.senders now in_self.notes.items c.push_reserved.new.self.items c.note-note.result step senders c.push_reserved.ensures.items c.note-note.ensures.step ∙ ap (λ (k : HistoryView). k.steps ++ step ∷ []) c.self.view_is in
    let declared = c.make-made.ensures.network ∙ ap (λ (k : HistoryView). k.declared) c.self.view_is in
    let load = ap (λ (k : HistoryView). k.load) c.self.view_is in
    let room = ap (λ (k : HistoryView). k.room) c.self.view_is in
    let capacity = c.push_reserved.ensures.capacity in
    let len = c.push_reserved.ensures.len in
    let left : vec_capacity c.push_reserved.new.self - vec_len c.push_reserved.new.self ≡ now.room - 1 = omega arith in (
      made_may_follow in_self.net c.make-made.new.net now in_self.begun.items in_self.unanswered step kept c.in_ok-beginner.ensures.next c.in_ok-beginner.ensures.keeps c.in_ok-made.ensures.answers,
      same_view now c.make-made.new.net.declared in_self.senders.load (map (noted_step in_self.senders) c.push_reserved.new.self.items) _ declared load (now.steps ++ step ∷ []) last (now.room - 1) left,
    )
