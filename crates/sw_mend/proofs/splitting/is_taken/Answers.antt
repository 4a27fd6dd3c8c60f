use Rattle.std.proofs.Common.{◌≡◌, ◌≤◌, ◌∙◌, ap, arith, false, length, map, sym}
use Rattle.std.specs.List.{list_any}
use Rattle.std.specs.Str.{bytes_eq}
use Rattle.std.proofs.lemmas.List.{length-map, take_all}
use Rattle.std.proofs.lemmas.Option.{slice_get-map}
use Rattle.sw_config.specs.Entries.{NodeEntry, SwitchEntry}
use Rattle.sw_config.proofs.Passes.{in_first, in_second, none_more, one_passes}
use Rattle.sw_mend.proofs.splitting.is_taken.Goals as goal

pub returns-then-is_some : goal.returns-then-is_some
returns-then-is_some c =
    sym c.if-is_some.true
    ∙ in_first (bytes_eq c.args.name.now) (map (λ (n : NodeEntry). n.name) c.args.network.now.nodes) (map (λ (s : SwitchEntry). s.name) c.args.network.now.switches) _ _
    c.node_named.ensures.node c.is_some.ensures c.if-is_some.true

pub returns-then-eq : goal.returns-then-eq
returns-then-eq c =
    let switches = c.args.network.now.switches in
    let here = slice_get-map (λ (s : SwitchEntry). s.name) switches c.loop-switch.switch ∙ c.switch_name.ensures in
    in_second (bytes_eq c.args.name.now) (map (λ (n : NodeEntry). n.name) c.args.network.now.nodes) (map (λ (s : SwitchEntry). s.name) switches) _ _ _
    c.node_named.ensures.node c.is_some.ensures c.if-is_some.false
    (one_passes (bytes_eq c.args.name.now) (map (λ (s : SwitchEntry). s.name) switches) c.loop-switch.switch c.switch_name.result.now c.eq.result here c.eq.ensures c.if-eq.true)

pub loop-switch-preserved : goal.loop-switch-preserved
loop-switch-preserved c =
    let switches = c.args.network.now.switches in
    let here = slice_get-map (λ (s : SwitchEntry). s.name) switches c.loop-switch.switch ∙ c.switch_name.ensures in
    none_more (bytes_eq c.args.name.now) (map (λ (s : SwitchEntry). s.name) switches) c.loop-switch.switch c.switch_name.result.now c.eq.result here c.loop-switch.invariant c.eq.ensures
    c.if-eq.false

pub returns : goal.returns
returns c =
    let names = map (λ (s : SwitchEntry). s.name) c.args.network.now.switches in
    let past : length names ≤ c.loop-switch.switch =
    omega (arith, c.loop-switch-test.false, c.switches-switch-end.ensures.count, length-map c.args.network.now.switches (λ (s : SwitchEntry). s.name)) in
    let none : list_any (bytes_eq c.args.name.now) names ≡ false = sym (ap (list_any (bytes_eq c.args.name.now)) (take_all c.loop-switch.switch names past)) ∙ c.loop-switch.invariant in
    in_second (bytes_eq c.args.name.now) (map (λ (n : NodeEntry). n.name) c.args.network.now.nodes) names _ _ _
    c.node_named.ensures.node c.is_some.ensures c.if-is_some.false (sym none)
