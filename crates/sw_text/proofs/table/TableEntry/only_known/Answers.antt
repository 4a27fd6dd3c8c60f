use Rattle.std.proofs.Common.{subst, sym}
use Rattle.std.proofs.lemmas.Map.Iter.{rest_more, rest_all}
use Rattle.sw_text.specs.Gives.{Gives}
use Rattle.sw_text.proofs.Members.{one_known, first_unknown, none_unknown}
use Rattle.sw_text.proofs.table.TableEntry.only_known.Goals as goal

pub returns-then-not-is_known : goal.returns-then-not-is_known
returns-then-not-is_known c =
    let found = first_unknown c.args.self.now.section c.args.known.now c.args.self.now.table.now.entries c.keys-key-items.ensures.ordered c.loop-key.key-iterator c.loop-key.invariant c.next.new.self c.in-Some.key.now c.as_str-name.result.now c.is_known.result
    (rest_more (λ s. s.now) c.loop-key.key-iterator c.next.new.self c.next.result c.in-Some.key c.in-Some.is c.next.ensures.steps) c.as_str-name.ensures.value c.is_known.ensures c.if-not-is_known.true in
    subst (λ r. Gives (λ x. x) c.refuse.result r) (sym found) c.refuse.ensures

pub loop-key-preserved : goal.loop-key-preserved
loop-key-preserved c =
    one_known c.args.known.now _ c.loop-key.key-iterator c.next.new.self c.in-Some.key.now c.as_str-name.result.now c.is_known.result c.loop-key.invariant
    (rest_more (λ s. s.now) c.loop-key.key-iterator c.next.new.self c.next.result c.in-Some.key c.in-Some.is c.next.ensures.steps) c.as_str-name.ensures.value c.is_known.ensures c.if-not-is_known.false

pub returns : goal.returns
returns c =
    none_unknown c.args.self.now.section c.args.known.now c.args.self.now.table.now.entries c.keys-key-items.ensures.ordered c.loop-key.key-iterator c.loop-key.invariant
    (rest_all (λ s. s.now) c.loop-key.key-iterator c.next.new.self c.next.result c.in-None.is c.next.ensures.steps)
