use Rattle.sw_json_verdicts.specs.Judgements.{finding_of}
use Rattle.sw_json_verdicts.proofs.JudgedFiles.{found_of_path}
use Rattle.sw_json_verdicts.proofs.findings.judge_file.Goals as goal

pub returns-clause-judged : goal.returns-clause-judged
returns-clause-judged g c =
    found_of_path c.args.options.now (g.S.Storage.gives c.args.storage.now) (g.S.Storage.keeps c.args.storage.now) c.args.named.number c.args.named.path.now
    c.read_file-file.result c.match-network.found (finding_of c.args.named.path.now c.file_or_memory-judged.result) c.read_file-file.ensures c.file_or_memory-judged.ensures
