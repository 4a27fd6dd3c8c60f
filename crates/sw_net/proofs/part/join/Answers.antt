use Rattle.std.proofs.Common.{[], ap, ◌++◌, ◌∙◌}
use Rattle.std.proofs.lemmas.List.{append-nil}
use Rattle.std.proofs.lemmas.List.Elements.{same_from_all_zip}
use Rattle.sw_net.proofs.New.{if_ok}
use Rattle.sw_net.proofs.part.join.Goals as goal

pub returns : goal.returns
returns c = if_ok c.concat.result
    (λ all is. same_from_all_zip _ (c.args.first.now ++ (c.args.second.now ++ [])) all.items is (λ x y same. same) ∙ ap (λ l. c.args.first.now ++ l) (append-nil c.args.second.now))
    c.concat.ensures.ok
