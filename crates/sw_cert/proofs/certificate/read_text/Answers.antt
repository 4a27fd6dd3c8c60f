use Rattle.std.proofs.Common.{◌∙◌, refl, sym, subst}
use Rattle.std.specs.Prelude.{Err, IfErr}
use Rattle.std.proofs.lemmas.Result.{IfOk-weaker}
use Rattle.sw_cert.specs.Reading.{state_of}
use Rattle.sw_cert.specs.Text.{Gives}
use Rattle.sw_cert.proofs.Runs.{read_same, read_sound}
use Rattle.sw_cert.proofs.certificate.read_text.Goals as goal

pub take_lists-requires-clause-sound : goal.take_lists-requires-clause-sound
take_lists-requires-clause-sound g c =
    read_sound 1 c.in_ok-lists.number (state_of c.args.draft.now) (state_of c.read_lines.new.draft) c.args.text.now c.in_ok-lists.lists.now c.in_ok-lists.ensures.read c.requires

pub take_lists-requires-clause-read : goal.take_lists-requires-clause-read
take_lists-requires-clause-read g c = c.in_ok-found.ensures

pub returns-clause-all : goal.returns-clause-all
returns-clause-all g c = c.read_lines-2.ensures.all refl

pub returns-clause-same : goal.returns-clause-same
returns-clause-same g c =
    let before = c.in_ok-rest.ensures.same ∙ sym (read_same 1 c.in_ok-lists.number (state_of c.args.draft.now) (state_of c.read_lines.new.draft) c.args.text.now c.in_ok-lists.lists.now c.in_ok-lists.ensures.read) in
    IfOk-weaker c.read_lines-2.result _ _ (λ r h. sym (read_same c.in_ok-rest.number r.1 (state_of c.take_lists.new.draft) (state_of c.read_lines-2.new.draft) c.in_ok-rest.rest.now r.0.now h) ∙ before) c.read_lines-2.ensures.read

pub returns-clause-sound : goal.returns-clause-sound
returns-clause-sound g c =
    IfOk-weaker c.read_lines-2.result _ _ (λ r h. read_sound c.in_ok-rest.number r.1 (state_of c.take_lists.new.draft) (state_of c.read_lines-2.new.draft) c.in_ok-rest.rest.now r.0.now h c.in_ok-rest.ensures.sound) c.read_lines-2.ensures.read

pub returns-clause-wrong : goal.returns-clause-wrong
returns-clause-wrong g c =
    let before = c.in_ok-rest.ensures.same ∙ sym (read_same 1 c.in_ok-lists.number (state_of c.args.draft.now) (state_of c.read_lines.new.draft) c.args.text.now c.in_ok-lists.lists.now c.in_ok-lists.ensures.read) in
    subst (λ x. IfErr c.read_lines-2.result (λ fault. Gives x (Err fault))) before c.read_lines-2.ensures.wrong
