use Rattle.std.proofs.Common.{length, ℕ, ◌≡◌, Option, Some}
use Rattle.std.specs.Global.{Vec}
use Rattle.std.specs.Prelude.{slice_get}
use Rattle.sw_net.specs.New.{IsRow}
use Rattle.sw_net.proofs.make.empty_rows.Given as goal

abbrev pub invariant-loop-w : goal.invariant-loop-w
invariant-loop-w g l = (length l.rows.items ≡ l.w) × ((w : ℕ) (row : Vec (Option g.row.A.Denot)) → slice_get l.rows.items w ≡ Some row → IsRow g.A.Arbiter.ports l.network 0 w row.items)
