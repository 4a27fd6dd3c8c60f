use Rattle.std.proofs.Common.{◌≡◌, ◌<◌, ◌∙◌, ℕ, ap, is_some, length, subst, sym, arith}
use Rattle.sw_config.specs.Entries.{reply_flows}
use Rattle.sw_config.proofs.Answering.{all_marked, none_marked, none_more, one_more}
use Rattle.sw_config.proofs.Lists.{in_front, is_some-map}
use Rattle.sw_config.proofs.network.Network.answering_nodes.Goals.{then-is_some, else-is_some}
use Rattle.sw_config.proofs.network.Network.answering_nodes.Goals as goal

pub loop-number-init : goal.loop-number-init
loop-number-init c =
    let marks = c.in_ok-marks.marks.items in
    none_marked c.args.self.now c.from.result marks (c.in_ok-marks.ensures.items_if_clones_equal (λ y e. e)) (c.from.ensures ∙ c.nodes.ensures.count)

pub loop-number-preserved : goal.loop-number-preserved
loop-number-preserved c =
    let d = c.args.self.now in
    let n = c.loop-number.number in
    let flow = c.flow-flow in
    let f = flow.result.now in
    let marks = c.loop-number.marks.items in
    let marked = c.loop-number.invariant in
    let lt : n < length d.flows = omega (arith, c.loop-number-test.true, c.declared_flows-number-end.ensures.count) in
    let here = in_front d.flows (reply_flows d.flows) n f lt flow.ensures.flow in
    let told : is_some f.reply ≡ c.is_some.result = ap is_some (sym c.reply.ensures) ∙ is_some-map _ c.reply.result ∙ sym c.is_some.ensures in
    elim c.if-is_some.branch [
      | then-is_some w ↦
          let at = w.from-then-is_some.ensures ∙ w.to.ensures in
          rw w.marks-is (one_more d n f here marks w.from-then-is_some.result at (omega (arith, at, flow.ensures.valid.to, marked.size)) (told ∙ w.if-is_some.true) marked)
      | else-is_some w ↦ rw w.marks-is (none_more d n f here marks (told ∙ w.if-is_some.false) marked)
    ]

pub index_mut-requires : goal.index_mut-requires
index_mut-requires c =
    let flow = c.flow-flow in
    let marks = c.loop-number.marks.items in
    let at = c.from-then-is_some.ensures ∙ c.to.ensures in
    let inside = subst (λ (n : ℕ). flow.result.now.to < n) (sym c.loop-number.invariant.size) flow.ensures.valid.to in
    let within = subst (λ (n : ℕ). n < length marks) (sym at) inside in
    subst (λ (n : ℕ). c.from-then-is_some.result < n) (sym c.loop-number.marks.ok.0) within

pub returns : goal.returns
returns c =
    let d = c.args.self.now in
    all_marked d c.loop-number.number c.loop-number.marks.items (omega (arith, c.loop-number-test.false, c.loop-number.auto.number-end, c.declared_flows-number-end.ensures.count)) c.loop-number.invariant
