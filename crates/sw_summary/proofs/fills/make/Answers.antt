use Rattle.sw_machine.specs.StepValues.{machine_step}
use Rattle.sw_summary.proofs.Refused.{not_enabled, not_in_flow}
use Rattle.sw_summary.proofs.fills.make.Goals as goal

pub returns-in-Err-NotEnabled-clause-made : goal.returns-in-Err-NotEnabled-clause-made
returns-in-Err-NotEnabled-clause-made c =
    not_enabled c.args.net.now c.step.new.self c.step.new.self (machine_step c.args.step.now) c.step.result c.in-Err-NotEnabled.field-0 c.args.fills.now c.args.fills.now
    c.in-Err-NotEnabled.is c.in-Err-NotEnabled.field-0-is c.step.ensures.answers

pub returns-in-Err-NotInFlow-clause-made : goal.returns-in-Err-NotInFlow-clause-made
returns-in-Err-NotInFlow-clause-made c =
    not_in_flow c.args.net.now c.step.new.self c.step.new.self (machine_step c.args.step.now) c.step.result c.in-Err-NotInFlow.field-0 c.args.fills.now c.args.fills.now
    c.in-Err-NotInFlow.is c.in-Err-NotInFlow.field-0-is c.step.ensures.answers
