use Rattle.std.proofs.Common.{ℕ}
use Rattle.std.proofs.lemmas.List.{length_push}
use Rattle.std.proofs.lemmas.Slice.Zip.{zip_end, zip_turn}
use Rattle.sw_search.specs.Cause.{Cause}
use Rattle.sw_search.specs.Cycles.{CauseEntry, cause_of}
use Rattle.sw_json.specs.VerdictValues.{channel_value}
use Rattle.sw_json.proofs.Added.{added}
use Rattle.sw_json.proofs.PairedValues.{all_values, one_more_value}
use Rattle.sw_json.proofs.cycles.channel_values.Goals as goal

pub loop-channel-preserved : goal.loop-channel-preserved
loop-channel-preserved c =
    let turn = zip_turn c.args.channels.now c.args.causes.now c.loop-channel.yielded c.into_iter-channel-iterator.result c.loop-channel.channel-iterator c.next.new.self _ (cc) (cc) c.loop-channel.yielded_by _ c.in-Some.is c.next.ensures.steps in
    one_more_value (λ (p : ℕ × Cause). channel_value c.args.network.now (p.0, cause_of p.1)) _ _ _ _ _ _ _ _
    turn.0 turn.1 (turn.2 _) (turn.3 _) (length_push c.loop-channel.yielded _) c.loop-channel.invariant
    (added c.channel_object-value.result _ c.loop-channel.values.items c.add_value.new.values.items (rw c.in_ok-cause_value.ensures at c.channel_object-value.ensures) c.in_ok-add_value.ensures.added)

pub returns : goal.returns
returns c =
    let ended = zip_end c.args.channels.now c.args.causes.now c.loop-channel.yielded c.into_iter-channel-iterator.result c.loop-channel.channel-iterator c.next.new.self _ (cc) (cc) c.loop-channel.yielded_by c.in-None.is c.next.ensures.steps in
    all_values (λ (p : ℕ × CauseEntry). channel_value c.args.network.now p) cause_of _ _ _ _ ended c.loop-channel.invariant
