use Rattle.std.proofs.Common.{◌≡◌, ◌+◌, ◌++◌, ◌∷◌, [], take, sym, ap, ◌∙◌, subst, arith}
use Rattle.std.proofs.lemmas.List.{take_all, take_more}
use Rattle.sw_graph.specs.declared.component.Component.{Component}
use Rattle.sw_graph.specs.Components.{IsComponent}
use Rattle.sw_search.specs.Verdicts.{depends}
use Rattle.sw_search.specs.Tangles.{IsTangle}
use Rattle.sw_search.proofs.tangling.tangles_of.Goals as goal
use Rattle.sw_topo.proofs.Lists.{zip_push}

pub tangle-requires-clause-component : goal.tangle-requires-clause-component
tangle-requires-clause-component c =
    let P : Component → Type 0 = IsComponent (depends c.args.network.now) in
    subst P (sym c.component-item.is) (c.requires.components.each c.loop-component.component-index c.component-item.result c.loop-component-test.true)

pub loop-component-preserved : goal.loop-component-preserved
loop-component-preserved c =
    let d = c.args.network.now in
    let xs = c.args.components.now in
    let i = c.loop-component.component-index in
    let p = c.component-item.result in
    let more : take (i + 1) xs ≡ take i xs ++ p ∷ [] = take_more xs i p c.loop-component-test.true ∙ ap (λ q. take i xs ++ q ∷ []) (sym c.component-item.is) in
    rw (more, c.in_ok-push.ensures.items) (zip_push (IsTangle d) (take i xs) c.loop-component.tangles.items p c.in_ok-tangle.field-0 c.loop-component.invariant c.in_ok-tangle.ensures)

pub returns : goal.returns
returns c =
    let xs = c.args.components.now in
    record {
      components = xs;
      are = c.requires.components;
      told = rw (take_all c.loop-component.component-index xs (omega (arith, c.loop-component-test.false))) at c.loop-component.invariant;
    }
