use Rattle.std.proofs.Common.{refl}
use Rattle.sw_margin.proofs.Waiting.{free_with}
use Rattle.sw_margin.proofs.trial.bend.Goals as goal

pub returns : goal.returns
returns g c =
    let free = free_with c.args.network.now c.args.rows.now c.args.waits.now c.requires.rows in
    let none = c.in_ok-stays_free.ensures in
    (refl, (λ t. free.0 (none.0 t), λ stays. none.1 (free.1 stays)))
