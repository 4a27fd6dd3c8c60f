use Rattle.std.proofs.Common.{◌≤◌, arith}
use Rattle.std.proofs.lemmas.List.{get_or_default}
use Rattle.std.proofs.lemmas.List.Elements.{recursion_from_All}
use Rattle.sw_app.proofs.verdict_texts.have_text.Goals as goal

pub returns : goal.returns
returns c =
    let xs = c.args.numbers.now in
    recursion_from_All (λ v. v ≤ 65535) xs (λ k e lt. omega (arith, get_or_default xs k 0 e lt, c.type_inv.numbers k))
