use Rattle.std.proofs.Common.{refl}
use Rattle.sw_engine.specs.Files.{second_given}
use Rattle.sw_engine.specs.Tellings.{AnswersToFile, IsFileTold}
use Rattle.sw_engine.proofs.Answered.{told_of_file, told_of_unread}
use Rattle.sw_engine.proofs.telling.tell_found.Goals.{in-Unread, in_default}
use Rattle.sw_engine.proofs.telling.tell_found.Goals as goal

pub returns : goal.returns
returns g c =
    let form = c.args.form.now in
    let second = second_given c.args.second in
    let P = AnswersToFile (g.F.Form.tells form second) (g.F.Form.faulty form second) (g.F.Form.long form second) c.args.file c.args.found in
    let old = g.W.Write.contents c.args.writer.now in
    let told : IsFileTold g.F.Form.memory P c.args.file old (g.W.Write.contents c.match-file.writer) c.match-file.ended = elim c.match-file.branch [
      | in-Unread w ↦ rw w.writer-is (told_of_unread g.F.Form.memory P c.args.file old c.match-file.ended w.in-Unread.is w.ended-is)
      | in_default w ↦ rw (w.writer-is, w.ended-is) (told_of_file g.F.Form.memory P c.args.file w.answer_to_file-answer.result _ _ _ w.in_default.not-Unread
          (rw w.second_bytes.ensures at w.answer_to_file-answer.ensures) w.tell_answer-ended.ensures)
    ] in
    record { told = told; file = refl; second = refl; found = refl }
