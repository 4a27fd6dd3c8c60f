use Rattle.sw_search.proofs.Said.{is_free}
use Rattle.sw_search.proofs.freedom.is_free.Goals as goal

pub returns : goal.returns
returns g c =
    let d = c.args.network.now in
    let v = c.in_ok-verdict.verdict in
    rw c.says_free.ensures (is_free d v (c.one_verdict_holds.ensures.one d c.topology-topology.ensures.valid) (c.one_verdict_holds.ensures.told d v c.in_ok-verdict.ensures.verdict))
