use Rattle.std.proofs.Common.{List, None, Some, refl, rules, string_bytes, ◌++◌, ◌<◌, ◌≡◌, ℕ}
use Rattle.std.proofs.lemmas.Result.{IfOk-weaker}
use Rattle.std.specs.Fmt.{decimal}
use Rattle.std.specs.Prelude.{IfOk, codes}
use Rattle.sw_summary.specs.Texts.{flow_text, replies_told}
use Rattle.sw_summary.proofs.Written.{positive, told_flow}
use Rattle.sw_summary.proofs.flow_lines.add_line.Goals as goal

pub returns-then-is_some : goal.returns-then-is_some
returns-then-is_some c =
    let f = c.args.flow.now in
    let before = string_bytes c.args.text.now in
    let after = string_bytes c.write.new.self in
    let of_them = c.count_loaded-of_them.result in
    let some : 0 < of_them = positive of_them c.if-of_them-eq0.false in
    let told : replies_told f c.args.answered ≡ Some c.args.answered = search rules in
    let line : List ℕ =
    codes "flow " ++ (c.name-name.result.now ++ (codes " begun " ++ (decimal c.args.begun ++ (codes " of " ++ (decimal of_them ++ (codes " delivered " ++ (decimal c.args.delivered
    ++ (codes " answered " ++ (decimal c.args.answered ++ codes "\n")))))))))
    in
    let written : IfOk c.write.result (λ u. after ≡ before ++ line) = search rules in
    IfOk-weaker c.write.result (λ u. after ≡ before ++ line) (λ u. after ≡ before ++ flow_text c.args.load.now c.args.number f c.args.begun c.args.delivered c.args.answered)
    (λ u added. told_flow before after c.name-name.result.now f.name c.args.begun _ of_them _ c.args.delivered (Some c.args.answered) _ some c.name-name.ensures refl
    c.count_loaded-of_them.ensures told added)
    written

pub returns : goal.returns
returns c =
    let f = c.args.flow.now in
    let before = string_bytes c.args.text.now in
    let after = string_bytes c.write-2.new.self in
    let of_them = c.count_loaded-of_them.result in
    let some : 0 < of_them = positive of_them c.if-of_them-eq0.false in
    let told : replies_told f c.args.answered ≡ None = search rules in
    let line : List ℕ =
    codes "flow " ++ (c.name-name.result.now ++ (codes " begun " ++ (decimal c.args.begun ++ (codes " of " ++ (decimal of_them ++ (codes " delivered " ++ (decimal c.args.delivered
    ++ codes "\n")))))))
    in
    let written : IfOk c.write-2.result (λ u. after ≡ before ++ line) = search rules in
    IfOk-weaker c.write-2.result (λ u. after ≡ before ++ line) (λ u. after ≡ before ++ flow_text c.args.load.now c.args.number f c.args.begun c.args.delivered c.args.answered)
    (λ u added. told_flow before after c.name-name.result.now f.name c.args.begun _ of_them _ c.args.delivered None _ some c.name-name.ensures refl
    c.count_loaded-of_them.ensures told added)
    written
