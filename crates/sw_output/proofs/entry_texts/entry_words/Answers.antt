use Rattle.std.proofs.Common.{◌≡◌, ◌≤◌, None, Some, length, refl, arith, rules, IfOk, string_bytes}
use Rattle.std.specs.Prelude.{slice_get}
use Rattle.std.proofs.lemmas.Option.{slice_get_past, slice_get_read}
use Rattle.sw_config.specs.Entries.{routes_of}
use Rattle.sw_output.specs.EntryTexts.{addresses_words}
use Rattle.sw_output.proofs.entry_texts.entry_words.Goals as goal

pub returns-then-switch-switches : goal.returns-then-switch-switches
returns-then-switch-switches c =
    let d = c.args.network.now in
    let past : length d.switches ≤ c.args.switch = omega (arith, c.if-switch-switches.true, c.switches.ensures.count) in
    rw (slice_get_past d.switches c.args.switch past) c.new.ensures.bytes

pub returns-then-first-last : goal.returns-then-first-last
returns-then-first-last c =
    let at : slice_get c.routes.result.now c.args.entry ≡ Some c.in-Some.route.now =
    slice_get_read c.routes.result.now (length c.routes.result.now) c.args.entry c.in-Some.route.now refl c.in-Some.ensures.lookup.3.0 c.in-Some.ensures.lookup.1
    in
    let listed : slice_get (routes_of c.args.network.now.switches c.args.switch) c.args.entry ≡ Some c.in-Some.route.now = rw c.routes.ensures.routes at at in
    let words : IfOk c.format.result (λ s. string_bytes s ≡ addresses_words c.in-Some.route.now.first c.in-Some.route.now.last) = search rules in
    rw listed words

pub returns-else-first-last : goal.returns-else-first-last
returns-else-first-last c =
    let at : slice_get c.routes.result.now c.args.entry ≡ Some c.in-Some.route.now =
    slice_get_read c.routes.result.now (length c.routes.result.now) c.args.entry c.in-Some.route.now refl c.in-Some.ensures.lookup.3.0 c.in-Some.ensures.lookup.1
    in
    let listed : slice_get (routes_of c.args.network.now.switches c.args.switch) c.args.entry ≡ Some c.in-Some.route.now = rw c.routes.ensures.routes at at in
    let words : IfOk c.format-else-first-last.result (λ s. string_bytes s ≡ addresses_words c.in-Some.route.now.first c.in-Some.route.now.last) = search rules in
    rw listed words

pub returns-in_default : goal.returns-in_default
returns-in_default c =
    let at : slice_get c.routes.result.now c.args.entry ≡ None = slice_get_past c.routes.result.now c.args.entry c.in_default.ensures.lookup.3 in
    let missing : slice_get (routes_of c.args.network.now.switches c.args.switch) c.args.entry ≡ None = rw c.routes.ensures.routes at at in
    rw missing c.new-in_default.ensures.bytes
