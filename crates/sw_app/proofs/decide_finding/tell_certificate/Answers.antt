use Rattle.std.proofs.Common.{inr, refl}
use Rattle.sw_engine.specs.LineAnswers.{memory_line}
use Rattle.sw_app.proofs.decide_finding.tell_certificate.Goals as goal

pub returns-in-Err : goal.returns-in-Err
returns-in-Err g c = (memory_line, 5, inr (refl, refl), c.tell_memory.ensures)
