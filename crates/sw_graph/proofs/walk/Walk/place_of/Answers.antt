use Rattle.std.proofs.Common.{◌<◌, ◌≤◌, length, ap, arith}
use Rattle.sw_graph.specs.Walks.{Found}
use Rattle.sw_graph.proofs.Places.{here_at, none_at, not_at}
use Rattle.sw_graph.proofs.walk.Walk.place_of.Goals as goal

pub loop-place-preserved : goal.loop-place-preserved
loop-place-preserved c =
    let items = c.self.inside.numbers.items in
    let within : c.loop-place.place < length items = omega (arith, c.loop-place-test.true, c.len-place-end.ensures, c.self.inside.numbers.ok.0) in
    not_at items _ c.args.number c.loop-place.place c.index.result.now (ap (λ (f : Found). f.numbers) c.self.view_is) within c.index.ensures c.if-index-number.false c.loop-place.invariant

pub returns-then-index-number-clause-found : goal.returns-then-index-number-clause-found
returns-then-index-number-clause-found c =
    let items = c.self.inside.numbers.items in
    let within : c.loop-place.place < length items = omega (arith, c.loop-place-test.true, c.len-place-end.ensures, c.self.inside.numbers.ok.0) in
    here_at items _ c.args.number c.loop-place.place c.index.result.now (ap (λ (f : Found). f.numbers) c.self.view_is) within c.index.ensures c.if-index-number.true

pub returns-clause-none : goal.returns-clause-none
returns-clause-none c =
    let view = ap (λ (f : Found). f.numbers) c.self.view_is in
    let past : length c.args.self.now.numbers ≤ c.loop-place.place = omega (arith, c.loop-place-test.false, c.len-place-end.ensures, c.self.inside.numbers.ok.0, ap length view) in
    none_at c.args.self.now.numbers c.args.number c.loop-place.place past c.loop-place.invariant
