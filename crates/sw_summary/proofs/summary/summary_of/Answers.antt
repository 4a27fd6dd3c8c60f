use Rattle.std.proofs.Common.{List, ap, length, map, string_bytes, sym, ◌∙◌, ◌≡◌, ℕ}
use Rattle.std.proofs.lemmas.List.{length-map}
use Rattle.sw_char.specs.PacketView.{PacketView}
use Rattle.sw_machine.specs.Begun.{Begun, beginnings}
use Rattle.sw_machine.specs.StepValues.{machine_step}
use Rattle.sw_summary.specs.Texts.{caveats, flow_texts, status_lines, unanswered_texts}
use Rattle.sw_summary.proofs.Lists.{items_in}
use Rattle.sw_summary.proofs.Written.{summary_is}
use Rattle.sw_summary.proofs.summary.summary_of.Goals as goal

pub returns : goal.returns
returns c =
    let d = c.args.network.now in
    let load = c.args.load.now in
    let steps = c.args.steps.now in
    let begun : List Begun = beginnings (map machine_step steps) in
    let out : List (List PacketView) = map items_in c.args.out.now in
    let t : List ℕ = string_bytes c.in_ok-text.text in
    let flows : flow_texts d load c.deref.result.now out ≡ flow_texts d load begun out =
    ap (λ (l : List Begun). flow_texts d load l out) (c.deref.ensures.value ∙ c.in_ok-begun.ensures)
    in
    let unanswered : unanswered_texts d c.deref-2.result.now ≡ unanswered_texts d begun =
    ap (λ (l : List Begun). unanswered_texts d l) (c.deref-2.ensures.value ∙ c.in_ok-begun.ensures)
    in
    summary_is (length steps) (length (map machine_step steps)) t (string_bytes c.add_flows.new.text) (string_bytes c.add_statuses.new.text) (string_bytes c.add_unanswered.new.text)
    (string_bytes c.push_str.new.self) (flow_texts d load c.deref.result.now out) (status_lines out) (unanswered_texts d c.deref-2.result.now) c.caveats.result.now (flow_texts d load begun out)
    (unanswered_texts d begun) (caveats c.args.shows_nothing) (sym (length-map steps machine_step)) c.in_ok-text.ensures.ok c.in_ok-add_flows.ensures c.in_ok-add_statuses.ensures
    c.in_ok-add_unanswered.ensures c.in_ok-push_str.ensures.bytes flows unanswered c.caveats.ensures
