use Rattle.std.proofs.Common.{rules, ◌∙◌, ◌≡◌, ◌≤◌, ◌-◌, ◌+◌, drop, length, map, arith}
use Rattle.sw_cert.specs.declared.lines.Expected.TheVariants.{Flows}
use Rattle.sw_cert.specs.Parts.{read_rest}
use Rattle.sw_cert.specs.Reading.{State, items_of, state_of}
use Rattle.sw_cert.specs.Sound.{IsSound}
use Rattle.sw_cert.proofs.Parted.{appended, few_in_part, part_taken}
use Rattle.sw_cert.proofs.reading.take_part.Goals as goal

pub overflow_add-result : goal.overflow_add-result
overflow_add-result c =
    let l = c.args.lists.now in
    let begins : l.part.begin ≡ c.args.at = c.if-part-at.false in
    let le : c.args.at ≤ l.part.end = c.if-part-at-2.false in
    let within : l.part.end ≤ length c.args.text.now = c.if-part-text.false in
    let few : l.lines ≤ l.part.end - c.args.at = few_in_part c.args.text.now l c.args.at c.requires.read begins le within in
    omega (arith, few, le, within, c.requires.few)

abbrev after : (c : goal.After-draft-1) → State
after c = record { expected = Flows (c.in-Flows.left - c.len-in-Flows.result); numbers = c.args.draft.now.numbers.items; flows = map items_of c.append.new.self.items; open_block = c.args.draft.now.block.items }

taken : (c : goal.After-draft-1)
    → (read_rest (c.args.number + c.args.lists.now.lines) (after c) (drop c.args.lists.now.part.end c.args.text.now) ≡ read_rest c.args.number (state_of c.args.draft.now) (drop c.args.at c.args.text.now)) × IsSound (after c)
taken c =
    let l = c.args.lists.now in
    let d = c.args.draft.now in
    let count : c.len-in-Flows.result ≡ length l.flows.items = c.len-in-Flows.ensures ∙ l.flows.ok.0 in
    let few : c.len-in-Flows.result ≤ c.in-Flows.left = search rules in
    let added = appended c.in-Flows.left c.len-in-Flows.result d.expected d.numbers.items d.block.items d.flows.items l.flows.items c.append.new.self.items c.in-Flows.is count few c.in_ok-append.ensures.items in
    let begins : l.part.begin ≡ c.args.at = c.if-part-at.false in
    let le : c.args.at ≤ l.part.end = c.if-part-at-2.false in
    let within : l.part.end ≤ length c.args.text.now = c.if-part-text.false in
    part_taken c.args.number (state_of d) (after c) c.args.text.now l c.args.at c.requires.sound c.requires.read begins le within added

pub returns-clause-same : goal.returns-clause-same
returns-clause-same c = (taken c).0

pub returns-clause-sound : goal.returns-clause-sound
returns-clause-sound c = (taken c).1

pub returns-clause-few : goal.returns-clause-few
returns-clause-few c =
    let l = c.args.lists.now in
    let begins : l.part.begin ≡ c.args.at = c.if-part-at.false in
    let le : c.args.at ≤ l.part.end = c.if-part-at-2.false in
    let within : l.part.end ≤ length c.args.text.now = c.if-part-text.false in
    let few : l.lines ≤ l.part.end - c.args.at = few_in_part c.args.text.now l c.args.at c.requires.read begins le within in
    omega (arith, few, le, within)
