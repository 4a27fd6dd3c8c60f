use Rattle.std.proofs.Common.{List, ℕ, [], map, sym, ap, ◌∙◌, arith}
use Rattle.std.specs.Prelude.{position}
use Rattle.std.specs.Str.{bytes_eq}
use Rattle.std.proofs.lemmas.List.{length-map}
use Rattle.sw_config.specs.Entries.{NodeEntry, SwitchEntry}
use Rattle.sw_config.proofs.Positions.{position-none, position-in_first, position-in_second}
use Rattle.sw_config.proofs.network.Network.node_named.Goals as goal

pub returns-in_default-clause-node : goal.returns-in_default-clause-node
returns-in_default-clause-node c =
    let test = bytes_eq c.args.name.now in
    let nodes : List (List ℕ) = map (λ (n : NodeEntry). n.name) c.self.inside.nodes.items in
    let switches : List (List ℕ) = map (λ (s : SwitchEntry). s.name) c.self.inside.switches.items in
    rw (← c.self.view_is)
    (sym (position-none test nodes switches (ap (position test) (sym c.self.invariant.named) ∙ sym c.index_of.ensures.place ∙ c.in_default.is)))

pub returns-then-place-len-clause-node : goal.returns-then-place-len-clause-node
returns-then-place-len-clause-node c =
    let test = bytes_eq c.args.name.now in
    let nodes : List (List ℕ) = map (λ (n : NodeEntry). n.name) c.self.inside.nodes.items in
    let switches : List (List ℕ) = map (λ (s : SwitchEntry). s.name) c.self.inside.switches.items in
    rw (← c.self.view_is)
    (sym (position-in_first test nodes switches c.in-Some.place (ap (position test) (sym c.self.invariant.named) ∙ sym c.in-Some.ensures.place) (rw length-map (omega arith))))

pub returns-else-place-len-clause-node : goal.returns-else-place-len-clause-node
returns-else-place-len-clause-node c =
    let test = bytes_eq c.args.name.now in
    let nodes : List (List ℕ) = map (λ (n : NodeEntry). n.name) c.self.inside.nodes.items in
    let switches : List (List ℕ) = map (λ (s : SwitchEntry). s.name) c.self.inside.switches.items in
    rw (← c.self.view_is)
    (sym (position-in_second test nodes switches c.in-Some.place [] (ap (position test) (sym c.self.invariant.named) ∙ sym c.in-Some.ensures.place) (rw length-map (omega arith))))
