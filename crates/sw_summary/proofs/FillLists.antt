-- Steps that a loop goes through.
use Rattle.std.proofs.Common.{List, [], ap, drop, get_or, length, map, sym, take, ℕ, ◌++◌, ◌+◌, ◌<◌, ◌∙◌, ◌∷◌, ◌≡◌}
use Rattle.std.proofs.lemmas.List.{drop_more, map-append, take-append-drop, take_more}
use Rattle.sw_machine.specs.StepValues.{machine_step}
use Rattle.sw_machine.specs.declared.step.Step.{Step}

-- the steps up to one of them, and all with it in their midst
pub steps_more : (steps : List Step) (i : ℕ) (x : Step) → i < length steps → x ≡ get_or steps i x → map machine_step (take (i + 1) steps) ≡ map machine_step (take i steps) ++ machine_step x ∷ []
steps_more steps i x within is =
    ap (map machine_step) (take_more steps i x within ∙ ap (λ (y : Step). take i steps ++ y ∷ []) (sym is)) ∙ map-append machine_step (take i steps) (x ∷ [])

pub steps_split : (steps : List Step) (i : ℕ) (x : Step) → i < length steps → x ≡ get_or steps i x
    → map machine_step steps ≡ map machine_step (take i steps) ++ machine_step x ∷ map machine_step (drop (i + 1) steps)
steps_split steps i x within is =
    ap (map machine_step) (sym (take-append-drop i steps) ∙ ap (λ (l : List Step). take i steps ++ l) (drop_more steps i x within ∙ ap (λ (y : Step). y ∷ drop (i + 1) steps) (sym is)))
    ∙ map-append machine_step (take i steps) (x ∷ drop (i + 1) steps)
