-- What is written in a list is what the machine puts in.
use Rattle.std.specs.Prelude.{slice_get}
use Rattle.std.proofs.Common.{◌≡◌, ◌∷◌, ◌++◌, Some, drop, ◌<◌, ℕ, List, [], get_or, length, set, refl, sym, ◌∙◌, ⊎_elim, eq-eqb, ne_eqb, get_or-set_same, get_or-set_other}
use Rattle.std.proofs.lemmas.Bool.{cases_eq}
use Rattle.sw_machine.proofs.RunLists.{run_append}
use Rattle.sw_machine.specs.Network.{Network}
use Rattle.sw_machine.specs.Runs.{IsReached}
use Rattle.sw_machine.specs.State.{State, empty, put}
use Rattle.sw_machine.specs.Steps.{Leads, Step}

-- where a list has what a function has below n, it does so after a change of both
pub put_set : {A : Type 0} (n : ℕ) (f : ℕ → A) (l : List A) (d : A) (o : ℕ) (x y : A) → o < length l → ((c : ℕ) → c < n → f c ≡ get_or l c d) → x ≡ y
    → (c : ℕ) → c < n → put f o x c ≡ get_or (set l o y) c d
put_set n f l d o x y lo is same c lt = ⊎_elim
    (λ e. rw (eq-eqb c o e, e) (same ∙ sym (get_or-set_same l o y d lo)))
    (λ ne. rw (ne_eqb c o ne) (is c lt ∙ sym (get_or-set_other l o c y d ne)))
    (cases_eq c o)

-- the front of a list
pub front_is : {A : Type 0} (l : List A) (x : A) → slice_get l 0 ≡ Some x → l ≡ x ∷ drop 1 l
front_is [] x e = absurd (cc)
front_is (y ∷ l) x e = let same : y ≡ x = cc in rw same refl

pub front_of : {A : Type 0} (l : List A) (x : A) (rest : List A) → l ≡ x ∷ rest → slice_get l 0 ≡ Some x
front_of l x rest e = rw e refl

-- a step more
pub reached_more : (net : Network) (s t : State) (step : Step) → IsReached net s → Leads net s step t → IsReached net t
reached_more net s t step r h = (r.0 ++ step ∷ [], run_append net r.0 (step ∷ []) (empty net) s t r.1 (t, h, refl))
