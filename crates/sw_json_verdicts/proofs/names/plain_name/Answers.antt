use Rattle.std.proofs.Common.{◌∙◌, ap, map, take}
use Rattle.std.specs.Prelude.{encode_utf8}
use Rattle.std.proofs.lemmas.List.{take_all, take_min}
use Rattle.sw_json_verdicts.specs.Names.{plain_byte}
use Rattle.sw_json_verdicts.proofs.FileNames.{byte_more}
use Rattle.sw_json_verdicts.proofs.names.plain_name.Goals as goal

pub loop-byte-preserved : goal.loop-byte-preserved
loop-byte-preserved c = byte_more encode_utf8 (take c.min.result c.args.name.now) c.loop-byte.byte-index _ _ _ _ c.loop-byte-test.true (c.from.ensures ∙ c.plain_byte.ensures) c.push.ensures.ascii c.loop-byte.invariant c.in_ok-push.ensures.bytes

pub returns : goal.returns
returns c =
    c.loop-byte.invariant ∙ ap (map plain_byte) (take_all c.loop-byte.byte-index (take c.min.result c.args.name.now) c.loop-byte-test.false)
    ∙ ap (λ n. map plain_byte (take n c.args.name.now)) c.min.ensures ∙ ap (map plain_byte) (take_min 64 c.args.name.now)
