use Rattle.std.proofs.Common.{◌≡◌, ◌<◌, ℕ, List, length, length-set, refl, ap, ◌∙◌, subst, arith}
use Rattle.sw_graph.specs.Walks.{Found, with_number}
use Rattle.sw_graph.proofs.Marked.{walk_more}
use Rattle.sw_graph.proofs.Numbers.{known_stays, new_added}
use Rattle.sw_graph.proofs.walk.Walk.add.Goals as goal

pub returns-then-index : goal.returns-then-index
returns-then-index c =
    let bound = ap (λ (f : Found). f.bound) c.self.view_is in
    let inside : c.args.number < length c.self.inside.is_found.items = omega (arith, bound) in
    let P : List ℕ → Type 0 = λ l. l ≡ with_number l c.args.number in
    record {
      bound = refl;
      ok = subst P (ap (λ (f : Found). f.numbers) c.self.view_is) (known_stays c.self.inside.is_found.items c.self.inside.numbers.items c.args.number c.index.result.now c.self.invariant inside c.index.ensures c.if-index.true);
      err = tt;
    }

pub invariant_of-self-2 : goal.invariant_of-self-2
invariant_of-self-2 c =
    let bound = ap (λ (f : Found). f.bound) c.self.view_is in
    let inside : c.args.number < length c.self.inside.is_found.items = omega (arith, bound) in
    rw c.in_ok-push.ensures.items (walk_more c.self.inside.is_found.items c.self.inside.numbers.items c.args.number c.index.result.now c.self.invariant inside c.index.ensures c.if-index.false)

pub returns : goal.returns
returns c =
    let bound = ap (λ (f : Found). f.bound) c.self.view_is in
    let inside : c.args.number < length c.self.inside.is_found.items = omega (arith, bound) in
    record {
      bound = length-set _ _ _ ∙ bound;
      ok =
          c.in_ok-push.ensures.items
          ∙ new_added c.self.inside.is_found.items c.self.inside.numbers.items c.args.number c.index.result.now c.self.invariant inside c.index.ensures c.if-index.false
          ∙ ap (λ (f : Found). with_number f.numbers c.args.number) c.self.view_is;
      err = tt;
    }
