use Rattle.std.proofs.Common.{◌≡◌, ℕ, length, map, rules, string_bytes, [], ◌∷◌}
use Rattle.std.proofs.lemmas.List.{length_push}
use Rattle.std.proofs.lemmas.Slice.Zip.{zip_end, zip_turn}
use Rattle.sw_cycle.specs.Cycles.{CauseEntry, cause_of}
use Rattle.sw_output.specs.Lines.{line}
use Rattle.sw_output.specs.VerdictTexts.{cycle_line, cyclic_words}
use Rattle.sw_output.proofs.PairedLines.{all_lines, next_line}
use Rattle.sw_output.proofs.verdict_texts.cycle_text.Goals as goal

pub loop-channel-preserved : goal.loop-channel-preserved
loop-channel-preserved c =
    let channels : c.args.cycle.now.channels ≡ c.deref.result.now = search rules in
    let causes : map cause_of c.as_slice-causes.result.now ≡ c.args.cycle.now.causes = search rules in
    let turn = zip_turn c.deref.result.now c.as_slice-causes.result.now c.loop-channel.yielded c.into_iter-channel-iterator.result c.loop-channel.channel-iterator c.next.new.self _ (cc) (cc) c.loop-channel.yielded_by _ c.in-Some.is c.next.ensures.steps in
    next_line (λ (p : ℕ × CauseEntry). cycle_line c.args.network.now p.0 p.1) cause_of (line (cyclic_words (length c.args.cycle.now.channels) ∷ [])) c.deref.result.now c.as_slice-causes.result.now
    c.args.cycle.now.channels c.args.cycle.now.causes channels causes (length c.loop-channel.yielded) _ c.in-Some.channel.now c.in-Some.cause.now (string_bytes c.loop-channel.text)
    (string_bytes c.add_cycle_line.new.text) turn.0 turn.1 (turn.2 _) (turn.3 _) (length_push c.loop-channel.yielded _) c.loop-channel.invariant c.in_ok-add_cycle_line.ensures

pub returns : goal.returns
returns c =
    let channels : c.args.cycle.now.channels ≡ c.deref.result.now = search rules in
    let causes : map cause_of c.as_slice-causes.result.now ≡ c.args.cycle.now.causes = search rules in
    let ended = zip_end c.deref.result.now c.as_slice-causes.result.now c.loop-channel.yielded c.into_iter-channel-iterator.result c.loop-channel.channel-iterator c.next.new.self _ (cc) (cc) c.loop-channel.yielded_by c.in-None.is c.next.ensures.steps in
    all_lines (λ (p : ℕ × CauseEntry). cycle_line c.args.network.now p.0 p.1) cause_of (line (cyclic_words (length c.args.cycle.now.channels) ∷ [])) c.deref.result.now c.as_slice-causes.result.now
    c.args.cycle.now.channels c.args.cycle.now.causes channels causes (length c.loop-channel.yielded) (string_bytes c.loop-channel.text) ended c.loop-channel.invariant
