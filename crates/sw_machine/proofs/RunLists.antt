-- Runs one after another, and how many of their steps are moves.
-- 1 for each step other than a beginning
use Rattle.std.proofs.Common.{Bool, List, [], ap, append_assoc, arith, count_by, false, length, refl, subst, sym, true, ℕ, ◌++◌, ◌+◌, ◌∙◌, ◌∷◌, ◌≡◌}
use Rattle.std.proofs.lemmas.List.Sums.{sum_by-append, sum_by-cons}
use Rattle.std.specs.Prelude.{if◌then◌else◌, not}
use Rattle.sw_machine.proofs.Balance.{count_cons}
use Rattle.sw_machine.specs.Begun.{Begun, RunOf, moves}
use Rattle.sw_machine.specs.Network.{Network}
use Rattle.sw_machine.specs.Runs.{Run}
use Rattle.sw_machine.specs.State.{State}
use Rattle.sw_machine.specs.Steps.{Step, is_begin}

abbrev pub cost : Step → ℕ
cost step = if not (is_begin step) then 1 else 0

pub moves_cons : (step : Step) (steps : List Step) → moves (step ∷ steps) ≡ cost step + moves steps
moves_cons step steps = sum_by-cons cost step steps

pub moves_append : (steps more : List Step) → moves (steps ++ more) ≡ moves steps + moves more
moves_append steps more = sum_by-append cost steps more

one_or_none : (b : Bool) → (0 + (if b then 1 else 0)) + (if not b then 1 else 0) ≡ 1
one_or_none true = refl
one_or_none false = refl

-- each step is a beginning or a move
pub all_moves : (steps : List Step) → count_by is_begin steps + moves steps ≡ length steps
all_moves [] = refl
all_moves (step ∷ steps) = let r = all_moves steps in let a = count_cons is_begin step steps in let m = moves_cons step steps in let o = one_or_none (is_begin step) in omega arith

pub run_append : (net : Network) (a b : List Step) (s m t : State) → Run net s a m → Run net m b t → Run net s (a ++ b) t
run_append net [] b s m t r q = subst (λ k. Run net k b t) r q
run_append net (step ∷ a) b s m t r q = (r.0, r.1, run_append net a b r.0 m t r.2 q)

pub run_of_append : (net : Network) (a b : List Step) (x y : List Begun) (s m t : State) → RunOf net s a x m → RunOf net m b y t → RunOf net s (a ++ b) (x ++ y) t
run_of_append net [] b x y s m t r q = subst (λ l. RunOf net s b l t) (ap (λ l. l ++ y) (sym r.0)) (subst (λ k. RunOf net k b y t) r.1 q)
run_of_append net (step ∷ a) b x y s m t r q =
    (r.0, r.1, r.2 ++ y, r.3, r.4, ap (λ l. l ++ y) r.5 ∙ append_assoc r.1 r.2 y, run_of_append net a b r.2 y r.0 m t r.6 q)

-- a run that begins some packets is a run
pub run_of : (net : Network) (a : List Step) (x : List Begun) (s t : State) → RunOf net s a x t → Run net s a t
run_of net [] x s t r = r.1
run_of net (step ∷ a) x s t r = (r.0, r.3, run_of net a r.2 r.0 t r.6)
