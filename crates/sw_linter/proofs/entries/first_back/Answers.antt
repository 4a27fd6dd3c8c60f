use Rattle.std.proofs.Common.{◌≡◌, ◌∙◌, Option, Some, ap, sym, ℕ}
use Rattle.std.specs.Prelude.{option_and_then, option_map}
use Rattle.sw_topo.specs.Ports.{ports_of}
use Rattle.sw_topo.specs.Wiring.{Wiring, out_of, partner}
use Rattle.sw_topo.specs.Checked.{first_of}
use Rattle.sw_linter.specs.declared.lint.Lint.{Lint}
use Rattle.sw_linter.specs.declared.lint.Lint.TheVariants.{LeadsBack}
use Rattle.sw_linter.specs.Lints.{first_made}
use Rattle.sw_linter.specs.Marks.{back_at, first_led}
use Rattle.sw_linter.proofs.entries.first_back.Goals as goal

pub returns-in-Some-first_led : goal.returns-in-Some-first_led
returns-in-Some-first_led c =
    let d = c.args.network.now in
    let led = first_led c.args.marks.now c.args.route.now in
    let port = c.in-Some.port in
    let flow = c.in-Some-first_led.flow in
    let there = c.in-Some-out_of.ensures.channel ∙ ap (λ (w : Wiring). out_of w.ends c.args.switch port) c.topology.ensures.wiring in
    let back : back_at d c.args.marks.now c.args.switch c.args.route.now port ≡ Some flow =
    ap (option_and_then (λ ch. led (partner ch))) (sym there) ∙ ap led (sym c.partner.ensures) ∙ sym c.in-Some-first_led.ensures in
    let made : ℕ → Option Lint = λ p. option_map (λ f. LeadsBack c.args.switch c.args.entry p f) (back_at d c.args.marks.now c.args.switch c.args.route.now p) in
    let first : first_made made (ports_of c.loop-port.port-iterator) ≡ Some (LeadsBack c.args.switch c.args.entry port flow) =
    ap (first_made made) c.in-Some.ensures.steps ∙ ap (λ o. first_of (option_map (λ f. LeadsBack c.args.switch c.args.entry port f) o) (first_made made (ports_of c.next.new.self))) back in
    sym first ∙ c.loop-port.invariant ∙ ap (λ p. first_made made (ports_of p)) (c.into_iter-port-iterator.ensures.into_iter_gives ∙ c.ports-port-items.ensures.all)
