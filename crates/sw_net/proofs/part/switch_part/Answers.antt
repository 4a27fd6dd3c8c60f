use Rattle.std.proofs.Common.{List, [], ap, append_assoc, arith, length, map, refl, rules, subst, sym, ◌++◌, ◌<◌, ◌∙◌, ◌∷◌, ◌≡◌}
use Rattle.std.proofs.lemmas.List.{append-nil}
use Rattle.std.specs.Prelude.{IfOk, Result}
use Rattle.sw_net.proofs.New.{if_is}
use Rattle.sw_net.proofs.part.switch_part.Goals as goal
use Rattle.sw_net.specs.Kept.{kept_at_port}
use Rattle.sw_net.specs.New.{IsOneMore}
use Rattle.sw_topo.specs.Ports.{ports_of}

kept_more : {X Y E : Type 0} (f : X → Y) (parts more whole : List Y) (x : X) (left rest : List X) (made : Result Y E) → left ≡ x ∷ rest → IfOk made (λ y. y ≡ f x) → IsOneMore parts made more → parts ++ map f left ≡ whole → more ++ map f rest ≡ whole
kept_more f parts more whole x left rest made steps is (y, was, pushed) before =
    let same = if_is (λ y. y ≡ f x) made y was is in
    ap (λ l. l ++ map f rest) (pushed ∙ ap (λ z. parts ++ z ∷ []) same) ∙ append_assoc parts (f x ∷ []) (map f rest) ∙ ap (λ l. parts ++ map f l) (sym steps) ∙ before

fewer : {X : Type 0} (x : X) (left rest : List X) → left ≡ x ∷ rest → length rest < length left
fewer x left rest steps = subst (λ l. length rest < length l) (sym steps) (omega arith)

all_kept : {X Y : Type 0} (f : X → Y) (parts none : List Y) (left first all : List X) → left ≡ [] → none ≡ [] → first ≡ all → parts ++ map f left ≡ none ++ map f first → parts ≡ map f all
all_kept f parts none left first all ended empty same kept =
    sym (append-nil parts) ∙ ap (λ l. parts ++ map f l) (sym ended) ∙ kept ∙ ap (λ l. l ++ map f first) empty ∙ ap (map f) same

pub loop-port-init : goal.loop-port-init
loop-port-init g c = refl

pub loop-port-preserved : goal.loop-port-preserved
loop-port-preserved g c =
    kept_more (kept_at_port c.args.switch.now) c.loop-port.parts.items c.push_made.new.all.items (c.new-parts.result.items ++ map (kept_at_port c.args.switch.now) (ports_of c.into_iter-port-iterator.result)) c.in-Some.port
    (ports_of c.loop-port.port-iterator) (ports_of c.next.new.self) c.port_part.result c.in-Some.ensures.steps c.port_part.ensures c.in_ok-push_made.ensures c.loop-port.invariant

pub loop-port-smaller : goal.loop-port-smaller
loop-port-smaller g c = fewer c.in-Some.port (ports_of c.loop-port.port-iterator) (ports_of c.next.new.self) c.in-Some.ensures.steps

pub returns : goal.returns
returns g c =
    let same : ports_of c.into_iter-port-iterator.result ≡ ports_of c.args.switch.now.linked = search rules in
    all_kept (kept_at_port c.args.switch.now) c.loop-port.parts.items c.new-parts.result.items (ports_of c.loop-port.port-iterator) (ports_of c.into_iter-port-iterator.result) (ports_of c.args.switch.now.linked)
    c.in-None.ensures.steps.0 c.new-parts.ensures.items same c.loop-port.invariant
