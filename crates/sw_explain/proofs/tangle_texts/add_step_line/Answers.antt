use Rattle.std.proofs.Common.{◌≡◌, ◌∙◌, ◌<◌, List, ap, arith, length, map, string_bytes, subst, sym, ℕ}
use Rattle.std.proofs.lemmas.List.{length-map}
use Rattle.std.proofs.lemmas.Result.{on_ok_weaker}
use Rattle.sw_cycle.specs.Cycles.{CycleEntry, cause_of}
use Rattle.sw_output.specs.ChannelTexts.{channel_text}
use Rattle.sw_explain.specs.ExplainTexts.{awaited, step_text}
use Rattle.sw_explain.proofs.ExplainedSteps.{step_read}
use Rattle.sw_explain.proofs.ExplainedTexts.{parts_told, step_ended}
use Rattle.sw_explain.proofs.tangle_texts.add_step_line.Goals as goal
use Rattle.sw_graph.proofs.Listed.{row_read}

pub returns : goal.returns
returns c =
    let d = c.args.network.now in
    let all = c.args.all in
    let rows = c.args.flows.now in
    let i = c.args.i in
    let channels = c.as_slice-channels.result.now in
    let causes = c.cycle.inside.causes.items in
    let value = c.as_slice-channels.ensures.value in
    let inside : i < length c.cycle.inside.channels.items = subst (λ (v : CycleEntry). i < length v.channels) (sym c.cycle.view_is) c.requires.inside in
    let lt : i < length channels = subst (λ (l : List ℕ). i < length l) (sym value) inside in
    let whole : length (map cause_of causes) ≡ length c.cycle.inside.channels.items = subst (λ (v : CycleEntry). length v.causes ≡ length v.channels) (sym c.cycle.view_is) c.requires.caused in
    let also : i < length causes = omega (arith, inside, whole, length-map causes cause_of) in
    let is =
    step_read d all channels causes i c.index-channels-i.result c.index-channels-number.result c.index-cause.result.now lt also c.index-channels-i.is c.index-channels-number.is c.index-cause.ensures in
    let named : List ℕ → CycleEntry = λ l. record { channels = l; causes = map cause_of causes } in
    let parts = c.step_parts.result in
    let from = c.index-channels-i.result in
    let next = c.index-channels-number.result in
    let cause = cause_of c.index-cause.result.now in
    let said =
    parts_told parts.0.now parts.1.now parts.2.now parts.3.now (string_bytes c.in_ok-from.from) (string_bytes c.in_ok-awaited.awaited) (channel_text d from)
    (awaited d all next cause) _ c.in_ok-from.ensures c.in_ok-awaited.ensures (c.step_parts.ensures all from next) in
    let step_is = sym said ∙ is ∙ ap (λ (l : List ℕ). step_text d all (named l) i) value ∙ ap (λ (v : CycleEntry). step_text d all v i) c.cycle.view_is in
    let here : i < length rows = omega (arith, c.requires.inside, c.requires.made) in
    let row_is = row_read rows i c.index-flows-i.result here c.index-flows-i.is in
    let told =
    step_ended d all c.args.cycle.now rows i _ c.deref.result.now (string_bytes c.args.text.now) (string_bytes c.write.new.self) step_is (c.deref.ensures.value ∙ sym row_is) c.in_ok-write.ensures.bytes in
    on_ok_weaker c.end_step_line.result (λ ended. ended ∙ told) c.end_step_line.ensures
