use Rattle.std.proofs.Common.{ap, sym}
use Rattle.std.specs.Prelude.{Option, option_map}
use Rattle.sw_machine.specs.Steps.{Step}
use Rattle.sw_schedule.specs.Lines.{Repeated}
use Rattle.sw_schedule.proofs.Reading.{long_line}
use Rattle.sw_schedule.proofs.line.counted_entry.Goals as goal

pub returns-in-Some-cut-3 : goal.returns-in-Some-cut-3
returns-in-Some-cut-3 c =
    let entry : Step → Repeated = λ s. record { count = c.args.count; step = s } in
    sym (ap (λ (o : Option Step). option_map entry o)
    (long_line c.args.network.now c.args.text.now c.in-Some.rest.now c.in-Some-cut.rest.now c.in-Some-cut-2.rest.now c.in-Some-cut-3.field-0.1.now
    c.in-Some.verb.now c.in-Some-cut.first.now c.in-Some-cut-2.second.now c.in-Some-cut-3.field-0.0.now
    c.in-Some.ensures.cut c.in-Some-cut.ensures.cut c.in-Some-cut-2.ensures.cut c.in-Some-cut-3.ensures.cut))
