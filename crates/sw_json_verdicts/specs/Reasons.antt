-- For private clauses: the parts of a reason, as they stand in a program.
use Rattle.std.specs.Prelude.{option_map}
use Rattle.sw_json_verdicts.specs.CheckResults.{Reason}
use Rattle.sw_json_verdicts.specs.declared.reasons.ReasonParts.{ReasonParts}

abbrev pub reason_parts_view : ReasonParts → Reason
reason_parts_view p = record {
  channel = p.channel;
  code = p.code.now;
  deleted = p.deleted;
  fault = option_map (λ s. s.now) p.fault;
  flow = option_map (λ s. s.now) p.flow;
  line = p.line;
  next = p.next;
}
