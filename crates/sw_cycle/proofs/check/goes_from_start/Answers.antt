use Rattle.std.proofs.Common.{rules, ◌≡◌, ◌∷◌, Some, List, ap, eq-eqb, not, sym, ◌∙◌, subst, arith}
use Rattle.std.proofs.lemmas.Bool.{eqb-true, false≢true}
use Rattle.sw_topo.specs.Wiring.{Wiring, out}
use Rattle.sw_flow.specs.declared.place.Place.{Place}
use Rattle.sw_flow.specs.Places.{ends_of}
use Rattle.sw_flow.specs.Ways.{GoesFromStart}
use Rattle.sw_cycle.proofs.Checking.{equal_where}
use Rattle.sw_cycle.proofs.check.goes_from_start.Goals as goal

pub returns-then-ne : goal.returns-then-ne
returns-then-ne c = (
  λ t. absurd (false≢true t),
  λ goes.
      let d = c.args.network.now in
      let f = c.args.flow.now in
      let list : c.args.places.now ≡ c.in-Some.first.now ∷ c.in-Some.rest.now = search rules in
      let start = (subst (λ (l : List Place). GoesFromStart d f l) list goes).0.0 in
      let at : out (ends_of d) f.from ≡ Some c.out.result =
      ap (λ n. out (ends_of d) n) (sym c.from.ensures) ∙ ap (λ (w : Wiring). out w.ends c.from.result) (sym c.topology.ensures.wiring) ∙ c.out.ensures.channel
      in
      let two : Some c.out.result ≡ Some c.in-Some.first.now.channel = sym at ∙ start in
      let same : c.out.result ≡ c.in-Some.first.now.channel = cc in
      sym (sym c.if-ne.true ∙ c.ne.ensures ∙ ap not (eq-eqb c.out.result c.in-Some.first.now.channel same)),
)

pub returns-then-first-eq0 : goal.returns-then-first-eq0
returns-then-first-eq0 c =
    let d = c.args.network.now in
    let f = c.args.flow.now in
    let first = c.in-Some.first.now in
    let list : c.args.places.now ≡ first ∷ c.in-Some.rest.now = search rules in
    let at : out (ends_of d) f.from ≡ Some c.out.result =
    ap (λ n. out (ends_of d) n) (sym c.from.ensures) ∙ ap (λ (w : Wiring). out w.ends c.from.result) (sym c.topology.ensures.wiring) ∙ c.out.ensures.channel
    in
    let same : c.out.result ≡ first.channel = equal_where c.out.result first.channel c.ne.result c.ne.ensures c.if-ne.false in
    let zero : first.deleted ≡ 0 = omega (arith, c.if-first-eq0.true) in (
      λ t. subst (λ (l : List Place). GoesFromStart d f l) (sym list) ((at ∙ ap Some same, zero), c.goes_over.ensures.0 t),
      λ goes. c.goes_over.ensures.1 (subst (λ (l : List Place). GoesFromStart d f l) list goes).1,
    )

pub returns-else-first-eq0 : goal.returns-else-first-eq0
returns-else-first-eq0 c = (
  λ t. absurd (let zero = eqb-true c.in-Some.first.now.deleted 0 t in omega (arith, zero, c.if-first-eq0.false)),
  λ goes.
      let list : c.args.places.now ≡ c.in-Some.first.now ∷ c.in-Some.rest.now = search rules in
      let zero = (subst (λ (l : List Place). GoesFromStart c.args.network.now c.args.flow.now l) list goes).0.1 in
      absurd (omega (arith, zero, c.if-first-eq0.false)),
)
