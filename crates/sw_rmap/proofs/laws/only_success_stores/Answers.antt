use Rattle.sw_rmap.proofs.Answering.{only_success_stores}
use Rattle.sw_rmap.proofs.laws.only_success_stores.Goals as goal

pub returns : goal.returns
returns c = only_success_stores
