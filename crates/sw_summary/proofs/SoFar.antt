-- The fills while steps are made.
use Rattle.std.proofs.Common.{List, [], arith, length, refl, replicate, subst, sym, ℕ, ◌++◌, ◌<◌, ◌∙◌, ◌∷◌, ◌≡◌}
use Rattle.std.proofs.lemmas.List.{get_or-replicate, length-replicate}
use Rattle.std.proofs.lemmas.List.FromFn.{fill_by_all}
use Rattle.std.specs.Prelude.{Bool, None, false, slice_index, true}
use Rattle.sw_config.specs.Entries.{Declaration}
use Rattle.sw_summary.specs.Fills.{AreFills, AreFillsOrNone, greatest_fill}
use Rattle.sw_summary.specs.NotedFills.{MakesOrNot}
use Rattle.sw_summary.proofs.Buffers.{noted_is}
use Rattle.sw_summary.proofs.Through.{ThroughTo, fill_more, goes_on, last_held, through_more, through_of}
use Rattle.sw_machine.specs.State.{State, empty}
use Rattle.sw_machine.specs.Steps.{Leads, Step}
use Rattle.sw_machine.specs.Model.{network_of}
use Rattle.sw_net.specs.Net.{IsNetState, NetView}
use Rattle.sw_net.specs.New.{IsNewNet}

-- the steps lead from the empty state to one whose parts the cells are, and these are the fills on the way
pub record IsSoFar {R A : Type 0} (d : Declaration) (v : NetView R A) (steps : List Step) (fills : List ℕ) : Type 0 where
  pub network : v.declared ≡ d
  pub states : List State
  pub last : State
  pub through : ThroughTo (network_of d) (empty (network_of d)) steps states last
  pub at : IsNetState v last
  pub long : length fills ≡ (network_of d).channels
  pub each : (k : ℕ) → k < (network_of d).channels → slice_index fills k ≡ greatest_fill states k

pub none_so_far : {R A : Type 0} (d : Declaration) (v : NetView R A) (n : ℕ) → IsNewNet d v → n ≡ (network_of d).channels → IsSoFar d v [] (replicate n 0)
none_so_far d v n new is = record {
  network = new.network;
  states = empty (network_of d) ∷ [];
  last = empty (network_of d);
  through = (refl, refl);
  at = new.empty;
  long = length-replicate n 0 ∙ is;
  each = λ k lt. get_or-replicate n k 0 0 (omega (arith, lt, is));
}

-- one step more
pub more_so_far : {R A : Type 0} (d : Declaration) (v w : NetView R A) (steps more : List Step) (step : Step) (before after : List ℕ) → IsSoFar d v steps before → w.declared ≡ v.declared
    → MakesOrNot v before step true w after → more ≡ steps ++ step ∷ [] → IsSoFar d w more after
more_so_far {R} {A} d v w steps more step before after h same makes is =
    let net = network_of d in
    let next = makes.0 h.last h.at in
    let leads : Leads net h.last step next.0 = subst (λ (e : Declaration). Leads (network_of e) h.last step next.0) h.network next.1 in
    record {
      network = same ∙ h.network;
      states = h.states ++ next.0 ∷ [];
      last = next.0;
      through = subst (λ (l : List Step). ThroughTo net (empty net) l (h.states ++ next.0 ∷ []) next.0) (sym is) (through_more net (empty net) steps h.states h.last step next.0 h.through leads);
      at = next.2;
      long = makes.1.long ∙ h.long;
      each = λ k lt.
          let was = h.each k lt in
          let held = last_held net (empty net) steps h.states h.last h.through k in
          let long = h.long in
          let here = makes.1.each next.0 next.2 k (omega (arith, lt, long)) in
          let greatest = noted_is net h.last step next.0 leads k (slice_index before k) (omega (arith, was, held)) in
          let more = fill_more h.states next.0 k in
          omega (arith, here, greatest, more, was);
    }

-- the next step is possible in no state
pub no_run : {R A : Type 0} (d : Declaration) (v w : NetView R A) (steps others all : List Step) (step : Step) (before after : List ℕ) → IsSoFar d v steps before
    → MakesOrNot v before step false w after → all ≡ steps ++ step ∷ others → AreFillsOrNone (network_of d) all None
no_run d v w steps others all step before after h never is = λ t run.
    let net = network_of d in
    let next = goes_on net (empty net) steps h.states h.last step others all t h.through is run in
    never h.last h.at (next.0, subst (λ (e : Declaration). Leads (network_of e) h.last step next.0) (sym h.network) next.1)

-- all steps are made
pub all_made : {R A : Type 0} (d : Declaration) (v : NetView R A) (steps : List Step) (fills : List ℕ) → IsSoFar d v steps fills → AreFills (network_of d) steps fills
all_made d v steps fills h = record {
  states = h.states;
  through = through_of (network_of d) (empty (network_of d)) steps h.states h.last h.through;
  each = fill_by_all (greatest_fill h.states) fills (network_of d).channels 0 h.long h.each;
}

pub rewritten : {R A : Type 0} (d : Declaration) (v : NetView R A) (steps : List Step) (fills others : List ℕ) → IsSoFar d v steps fills → others ≡ fills → IsSoFar d v steps others
rewritten d v steps fills others h same = subst (IsSoFar d v steps) (sym same) h

-- the same as a call tells it, that was lent the fills
pub made_so_far : {R A : Type 0} (d : Declaration) (v w : NetView R A) (steps more : List Step) (step : Step) (before lent after written : List ℕ) (made : Bool) → IsSoFar d v steps before
    → w.declared ≡ v.declared → lent ≡ before → made ≡ true → MakesOrNot v lent step made w after → more ≡ steps ++ step ∷ [] → written ≡ after → IsSoFar d w more written
made_so_far d v w steps more step before lent after written true h same lends is makes next same_after =
    rewritten d w more after written (more_so_far d v w steps more step lent after (rewritten d v steps before lent h lends) same makes next) same_after
made_so_far d v w steps more step before lent after written false h same lends is makes next same_after = absurd cc

pub not_made : {R A : Type 0} (d : Declaration) (v w : NetView R A) (steps others all : List Step) (step : Step) (before lent after : List ℕ) (made : Bool) → IsSoFar d v steps before
    → lent ≡ before → made ≡ false → MakesOrNot v lent step made w after → all ≡ steps ++ step ∷ others → AreFillsOrNone (network_of d) all None
not_made d v w steps others all step before lent after false h lends is makes parts = no_run d v w steps others all step lent after (rewritten d v steps before lent h lends) makes parts
not_made d v w steps others all step before lent after true h lends is makes parts = absurd cc
