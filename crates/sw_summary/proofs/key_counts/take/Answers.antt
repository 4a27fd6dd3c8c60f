use Rattle.sw_summary.proofs.Taken.{found_lowered, missing_taken}
use Rattle.sw_summary.proofs.key_counts.take.Goals as goal

pub returns-in-Ok-clause-lowered : goal.returns-in-Ok-clause-lowered
returns-in-Ok-clause-lowered c =
    (found_lowered c.args.key.now c.args.key_counts.now c.in-Ok.i c.index-key_counts-i.result _ c.min.result
    c.saturating_sub-key_count-inside.result c.requires c.in-Ok.ensures.bound c.in-Ok.ensures.position c.key_count.view_is c.min.ensures c.saturating_sub-key_count-inside.ensures).lowered

pub returns-in-Ok-clause-fewer : goal.returns-in-Ok-clause-fewer
returns-in-Ok-clause-fewer c =
    (found_lowered c.args.key.now c.args.key_counts.now c.in-Ok.i c.index-key_counts-i.result _ c.min.result
    c.saturating_sub-key_count-inside.result c.requires c.in-Ok.ensures.bound c.in-Ok.ensures.position c.key_count.view_is c.min.ensures c.saturating_sub-key_count-inside.ensures).fewer

pub returns-in-Ok-clause-rising : goal.returns-in-Ok-clause-rising
returns-in-Ok-clause-rising c =
    (found_lowered c.args.key.now c.args.key_counts.now c.in-Ok.i c.index-key_counts-i.result _ c.min.result
    c.saturating_sub-key_count-inside.result c.requires c.in-Ok.ensures.bound c.in-Ok.ensures.position c.key_count.view_is c.min.ensures c.saturating_sub-key_count-inside.ensures).rising

pub returns-in-Err-clause-lowered : goal.returns-in-Err-clause-lowered
returns-in-Err-clause-lowered c =
    (missing_taken c.args.key.now c.args.key_counts.now c.in-Err.field-0 c.requires c.in-Err.ensures.bound c.in-Err.ensures.position).lowered

pub returns-in-Err-clause-fewer : goal.returns-in-Err-clause-fewer
returns-in-Err-clause-fewer c =
    (missing_taken c.args.key.now c.args.key_counts.now c.in-Err.field-0 c.requires c.in-Err.ensures.bound c.in-Err.ensures.position).fewer
