use Rattle.std.proofs.Common.{All, [], ap, arith, length, rules, subst, sym, ◌++◌, ◌∷◌, ◌≡◌, ◌+◌, ◌∙◌}
use Rattle.std.proofs.lemmas.List.{length_push}
use Rattle.std.proofs.lemmas.List.Elements.{All-push}
use Rattle.std.specs.Prelude.{IfSome}
use Rattle.sw_link.specs.Ends.{IsCapacity}
use Rattle.sw_net.proofs.New.{each_push}
use Rattle.sw_net.specs.New.{port_capacity}
use Rattle.sw_net.proofs.make.capacities.Goals as goal

pub loop-number-preserved : goal.loop-number-preserved
loop-number-preserved c =
    let d = c.args.network.now in
    let l = c.loop-number.all.items in
    let x = c.capacity.result in
    let pushed : c.push.new.self.items ≡ l ++ x ∷ [] = search rules in
    let before = c.loop-number.invariant.0 in
    let size : length c.push.new.self.items ≡ c.loop-number.number + 1 = omega (arith, length_push l x, ap length pushed, before) in
    let fit = subst (λ k. All IsCapacity k) (sym pushed) (All-push IsCapacity l x c.loop-number.invariant.1 c.capacity.ensures.capacity) in
    let port : c.unwrap-port.result ≡ c.loop-number.number = subst (λ o. IfSome o (λ p. p ≡ c.loop-number.number)) c.unwrap-port.ensures c.new.ensures.value in
    let here = c.capacity.ensures.value ∙ ap (port_capacity d c.args.w) (port ∙ sym before) in
    (size, fit, each_push (λ port k. k ≡ port_capacity d c.args.w port) l c.push.new.self.items x pushed here c.loop-number.invariant.2)
