use Rattle.std.proofs.lemmas.Result.{IfOk-weaker}
use Rattle.sw_witness.proofs.Confirmed.{no_schedule, steps_lock_up}
use Rattle.sw_witness.proofs.confirm.locks_up.Goals as goal

pub returns-in-Ok : goal.returns-in-Ok
returns-in-Ok c =
    IfOk-weaker c.leads_to_lock_up.result _ _ (λ told iff. steps_lock_up c.args.network.now c.args.text.now _ told c.in-Ok.ensures iff) c.leads_to_lock_up.ensures

pub returns-in-Err-Fault : goal.returns-in-Err-Fault
returns-in-Err-Fault c = no_schedule c.args.network.now c.args.text.now c.in-Err-Fault.field-0-0 (rw c.in-Err-Fault.field-0-is at c.in-Err-Fault.ensures)
