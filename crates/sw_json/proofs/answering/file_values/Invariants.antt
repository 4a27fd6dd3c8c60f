use Rattle.std.proofs.Common.{◌≡◌, map, take}
use Rattle.serde_json.specs.View.{view}
use Rattle.std.specs.Prelude.{option_map}
use Rattle.sw_json.specs.Answering.{read_value}
use Rattle.sw_json.proofs.answering.file_values.Given as goal

abbrev pub invariant-loop-file : goal.invariant-loop-file
invariant-loop-file l = map view l.values.items ≡ map (λ f. read_value f.0.now (option_map (λ s. s.now) f.1)) (take l.file-index l.files)
