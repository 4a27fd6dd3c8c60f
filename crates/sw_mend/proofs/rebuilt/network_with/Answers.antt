use Rattle.std.proofs.Common.{◌∙◌}
use Rattle.std.proofs.lemmas.Result.{IfOk-weaker}
use Rattle.sw_mend.proofs.AfterAll.{one_alone}
use Rattle.sw_mend.proofs.rebuilt.network_with.Goals as goal

pub returns : goal.returns
returns c = IfOk-weaker c.network_with_all.result _ _ (λ _ e. e ∙ one_alone c.args.network.now c.args.change.now) c.network_with_all.ensures
