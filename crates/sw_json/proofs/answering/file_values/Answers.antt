use Rattle.std.specs.Prelude.{option_map}
use Rattle.sw_json.specs.Answering.{read_value}
use Rattle.sw_json.proofs.Added.{all_made, one_more_at}
use Rattle.sw_json.proofs.answering.file_values.Goals as goal

pub loop-file-preserved : goal.loop-file-preserved
loop-file-preserved c =
    one_more_at (λ f. read_value f.0.now (option_map (λ s. s.now) f.1)) c.args.files.now c.loop-file.file-index _ c.loop-file.values.items
    c.add_value.new.values.items c.read_value.result c.loop-file.invariant c.loop-file-test.true c.read_value.ensures c.in_ok-add_value.ensures.added

pub returns : goal.returns
returns c =
    all_made (λ f. read_value f.0.now (option_map (λ s. s.now) f.1)) c.args.files.now c.loop-file.file-index c.loop-file.values.items c.loop-file.invariant
    c.loop-file-test.false
