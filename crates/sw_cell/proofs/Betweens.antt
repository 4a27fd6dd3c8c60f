-- What a step changes of what lies between the cells.
use Rattle.std.proofs.Common.{◌≡◌, ℕ, ◌<◌, List, [], length-set, ap, ◌∙◌, arith}
use Rattle.sw_cell.proofs.Puts.{put_set}
use Rattle.sw_cell.specs.Parts.{IsBetweenPart}
use Rattle.sw_char.specs.declared.nchar.NChar.{NChar}
use Rattle.sw_machine.specs.Network.{Network}
use Rattle.sw_machine.specs.State.{State, put}
use Rattle.sw_link.specs.Between.{Between, with_fcts, with_wire}

module _ (net : Network) (b : Between) where
  pub wires_put : (s t : State) (c : ℕ) (w v : List NChar) → c < net.channels → w ≡ v → t.wire ≡ put s.wire c w → t.fcts ≡ s.fcts → IsBetweenPart net b s → IsBetweenPart net (with_wire b c v) t
  wires_put s t c w v lt same wire fcts is = record {
    all_wires = length-set b.wires c v ∙ is.all_wires;
    all_fcts = is.all_fcts;
    wire = λ k lk. ap (λ (f : ℕ → List NChar). f k) wire ∙ put_set net.channels s.wire b.wires [] c w v (let e = is.all_wires in omega arith) is.wire same k lk;
    fcts = λ k lk. ap (λ (f : ℕ → ℕ). f k) fcts ∙ is.fcts k lk;
  }

  pub fcts_put : (s t : State) (c : ℕ) (w v : ℕ) → c < net.channels → w ≡ v → t.wire ≡ s.wire → t.fcts ≡ put s.fcts c w → IsBetweenPart net b s → IsBetweenPart net (with_fcts b c v) t
  fcts_put s t c w v lt same wire fcts is = record {
    all_wires = is.all_wires;
    all_fcts = length-set b.fcts c v ∙ is.all_fcts;
    wire = λ k lk. ap (λ (f : ℕ → List NChar). f k) wire ∙ is.wire k lk;
    fcts = λ k lk. ap (λ (f : ℕ → ℕ). f k) fcts ∙ put_set net.channels s.fcts b.fcts 0 c w v (let e = is.all_fcts in omega arith) is.fcts same k lk;
  }
