use Rattle.std.proofs.Common.{map, refl}
use Rattle.serde_json.specs.View.{view}
use Rattle.std.specs.Prelude.{option_map}
use Rattle.sw_json.specs.Answering.{read_value}
use Rattle.sw_json.proofs.Answered.{spelled}
use Rattle.sw_json.proofs.PlainAnswers.{answer_is_plain, answer_of, files_are_plain}
use Rattle.sw_json.proofs.answering.answer_to_files.Goals as goal

pub text_of-text-requires : goal.text_of-text-requires
text_of-text-requires c =
    let found = c.in_ok-found.found in
    let known = map (λ f. read_value f.0.now (option_map (λ s. s.now) f.1)) c.args.files.now in
    let is =
    answer_of c.args.command.now _ known (view found.result) (view c.in_ok-value.value) found.status c.args.release c.in_ok-files.ensures c.in_ok-value.ensures in
    (answer_is_plain c.answers_are_plain.ensures c.args.command.now known (view found.result) (view c.in_ok-value.value) found.status
    c.args.release.toolchain.now c.args.release.version.now found.whole found.flat
    (files_are_plain c.inputs_are_plain.ensures (λ f. f.0.now) (λ f. option_map (λ s. s.now) f.1) c.args.files.now) is).whole

pub returns : goal.returns
returns c =
    let found = c.in_ok-found.found in
    let known = map (λ f. read_value f.0.now (option_map (λ s. s.now) f.1)) c.args.files.now in
    let is =
    answer_of c.args.command.now _ known (view found.result) (view c.in_ok-value.value) found.status c.args.release c.in_ok-files.ensures c.in_ok-value.ensures in
    let plain =
    answer_is_plain c.answers_are_plain.ensures c.args.command.now known (view found.result) (view c.in_ok-value.value) found.status
    c.args.release.toolchain.now c.args.release.version.now found.whole found.flat
    (files_are_plain c.inputs_are_plain.ensures (λ f. f.0.now) (λ f. option_map (λ s. s.now) f.1) c.args.files.now) is in
    let text = rw c.in_ok-text.was at c.text_of-text.ensures.text in
    let back = rw c.in_ok-text.was at (c.text_of-text.ensures.reads_back plain.flat) in
    rw (c.in_ok-found.was) (view found.result, (refl, refl), spelled _ _ _ is text back)
