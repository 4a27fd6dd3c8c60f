use Rattle.std.proofs.Common.{◌≡◌, get_or, rules, true, false, subst, ◌∙◌}
use Rattle.std.proofs.lemmas.List.{get_or_default}
use Rattle.sw_circles.specs.Circles.{is_place}
use Rattle.sw_circles.proofs.Numbers.{absent_is, at_channel, found_is, no_channel, other_is}
use Rattle.sw_circles.proofs.rows.number_of.Goals as goal

pub returns-then-eq : goal.returns-then-eq
returns-then-eq c =
    let places = c.args.places.now in
    let sought = c.args.sought in
    let here : is_place sought (get_or places c.in-Ok.number sought) ≡ true = search rules in
    found_is places c.requires.rising c.in-Ok.number sought c.in-Ok.ensures.bound here

pub returns-else-eq : goal.returns-else-eq
returns-else-eq c =
    let places = c.args.places.now in
    let sought = c.args.sought in
    let place = c.index-places-number.result in
    let apart : is_place sought place ≡ false = search rules in
    let at : place ≡ get_or places c.in-Ok.number sought = c.index-places-number.is ∙ get_or_default places c.in-Ok.number place sought c.in-Ok.ensures.bound in
    let other : is_place sought (get_or places c.in-Ok.number sought) ≡ false = subst (λ p. is_place sought p ≡ false) at apart in
    other_is places c.requires.rising c.in-Ok.number sought c.in-Ok.ensures.bound (at_channel places sought.channel c.in-Ok.number c.in-Ok.ensures.position (search rules) sought) other

pub returns-in-Err : goal.returns-in-Err
returns-in-Err c =
    let places = c.args.places.now in
    let sought = c.args.sought in
    absent_is places c.requires.rising c.in-Err.field-0 sought (no_channel places sought.channel c.in-Err.field-0 c.in-Err.ensures.position (search rules))
