use Rattle.std.proofs.Common.{◌≡◌, ◌∙◌, ◌*◌, None, ap, false, length}
use Rattle.std.proofs.lemmas.Result.{on_ok_weaker}
use Rattle.sw_flow.specs.Places.{ends_of}
use Rattle.sw_linter.proofs.Rooms.{and_more, room_if}
use Rattle.sw_linter.proofs.marks.Marks.make_room.Goals as goal

pub returns : goal.returns
returns c =
    let d = c.args.network.now in
    let none = c.self.view_is ∙ c.requires in
    let switches : c.from-switches.result ≡ length d.switches = c.from-switches.ensures ∙ c.switches.ensures.count in
    let channels : c.from-channels.result ≡ length (ends_of d) = c.from-channels.ensures ∙ c.channels.ensures.ends in
    let starts = room_if c.resize.result c.self.inside.starts c.resize.new.self.items _ _ false (λ i. (none i).starts) switches c.resize.ensures.items in
    let ends = room_if c.resize-2.result c.self.inside.ends c.resize-2.new.self.items _ _ false (λ i. (none i).ends) switches c.resize-2.ensures.items in
    let arrivals = room_if c.resize-3.result c.self.inside.arrivals c.resize-3.new.self.items _ _ false (λ i. (none i).arrivals) (ap (λ n. 256 * n) switches) c.resize-3.ensures.items in
    let led = room_if c.resize-4.result c.self.inside.led c.resize-4.new.self.items _ _ None (λ i. (none i).led) (ap (λ n. 256 * n) channels) c.resize-4.ensures.items in
    let asking = room_if c.resize-5.result c.self.inside.asking c.resize-5.new.self.items _ _ None (λ i. (none i).asking) channels c.resize-5.ensures.items in
    let other = room_if c.resize-6.result c.self.inside.other c.resize-6.new.self.items _ _ None (λ i. (none i).other) channels c.resize-6.ensures.items in
    and_more _ _ c.and-4.result c.resize-6.result c.and-5.result c.and-5.ensures other (and_more _ _ c.and-3.result c.resize-5.result c.and-4.result c.and-4.ensures asking (and_more _ _ c.and-2.result c.resize-4.result c.and-3.result c.and-3.ensures led (and_more _ _ c.and.result c.resize-3.result c.and-2.result c.and-2.ensures arrivals (and_more _ _ c.resize.result c.resize-2.result c.and.result c.and.ensures ends
    (on_ok_weaker c.resize.result
    (λ starts ends arrivals led asking other i. record { starts = starts i; ends = ends i; arrivals = arrivals i; led = led i; asking = asking i; other = other i })
    starts)))))
