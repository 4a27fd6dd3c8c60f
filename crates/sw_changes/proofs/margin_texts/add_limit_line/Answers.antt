use Rattle.std.proofs.Common.{string_bytes}
use Rattle.std.proofs.lemmas.Result.{on_ok_weaker}
use Rattle.sw_changes.proofs.LimitLines.{any_told, most_told}
use Rattle.sw_changes.proofs.margin_texts.add_limit_line.Goals as goal

pub returns-in-Some : goal.returns-in-Some
returns-in-Some c =
    on_ok_weaker c.write.result
    (λ is. most_told c.args.network.now c.args.limit.now c.in-Some.most c.ending-ending.result.now c.flow_name-name.result.now (string_bytes c.args.text.now) (string_bytes c.write.new.self) c.in-Some.is
    c.ending-ending.ensures c.flow_name-name.ensures is) c.write.ensures.bytes

pub returns-in-None : goal.returns-in-None
returns-in-None c =
    on_ok_weaker c.write-in-None.result
    (λ is. any_told c.args.network.now c.args.limit.now c.flow_name-name.result.now (string_bytes c.args.text.now) (string_bytes c.write-in-None.new.self) c.in-None.is c.flow_name-name.ensures is)
    c.write-in-None.ensures.bytes
