use Rattle.std.proofs.Common.{arith}
use Rattle.sw_link.proofs.Accounts.{accounts}
use Rattle.sw_link.proofs.laws.ends_accept_channel_changes.Goals as goal

pub returns : goal.returns
returns c capacity events s h = let a = accounts capacity events s h in (λ f. omega arith, λ w. omega arith)
