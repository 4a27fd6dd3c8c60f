use Rattle.std.proofs.Common.{All, Global, List, Vec, ap, length, map, subst, sym, ◌++◌, ◌<◌, ◌∙◌, ℕ}
use Rattle.sw_circles.specs.Circlings.{CirclingView}
use Rattle.sw_flow.specs.Places.{ends_of}
use Rattle.sw_topo.specs.declared.place.Chan.{Chan}
use Rattle.sw_linter.specs.CirclingTexts.{circling_head, circling_text, over, over_words}
use Rattle.sw_linter.proofs.Circles.{of_made}
use Rattle.sw_linter.proofs.circling_words.circling_text.Goals as goal

pub add_circles-requires : goal.add_circles-requires
add_circles-requires c =
    let within : All (All (λ channel. channel < length (ends_of c.args.network.now))) (map (λ (circle : Vec Chan Global). circle.items) c.circling.inside.circles.items) =
    subst (λ (v : CirclingView). All (All (λ channel. channel < length (ends_of c.args.network.now))) v.circles) (sym c.circling.view_is) c.requires in
    subst (All (λ (circle : Vec Chan Global). All (λ channel. channel < length (ends_of c.args.network.now)) circle.items)) (sym c.deref.ensures.value)
    (of_made (λ (circle : Vec Chan Global). circle.items) (All (λ channel. channel < length (ends_of c.args.network.now))) c.circling.inside.circles.items within)

pub returns : goal.returns
returns c =
    let d = c.args.network.now in
    let arrives = c.circling.inside.arrives in
    let flow = c.circling.inside.flow in
    c.in_ok-add_circles.ensures
    ∙ ap (λ (head : List ℕ). head ++ over d c.over_words-over.result.now (map (λ (circle : Vec Chan Global). circle.items) c.deref.result.now)) c.in_ok-text.ensures
    ∙ ap (λ (words : List ℕ). circling_head d flow arrives ++ over d words (map (λ (circle : Vec Chan Global). circle.items) c.deref.result.now)) c.over_words-over.ensures
    ∙ ap (λ (them : List (Vec Chan Global)). circling_head d flow arrives ++ over d (over_words arrives) (map (λ (circle : Vec Chan Global). circle.items) them)) c.deref.ensures.value
    ∙ ap (circling_text d) c.circling.view_is
