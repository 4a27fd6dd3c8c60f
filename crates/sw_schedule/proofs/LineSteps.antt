-- The steps with those of a line that says some, or is wrong.
use Rattle.std.proofs.Common.{◌≡◌, ◌∙◌, ℕ, ◌+◌, ◌<◌, ◌≤◌, ◌++◌, ◌∷◌, List, [], None, Option, Some, ap, arith, false, length, refl, replicate, sym}
use Rattle.std.proofs.lemmas.Bool.{le-leb, lt-leb}
use Rattle.std.proofs.lemmas.List.{flat_map_more, length-replicate}
use Rattle.std.specs.Option.{option_map_or}
use Rattle.std.specs.Prelude.{Err, Ok, option_map}
use Rattle.sw_config.specs.Entries.{Declaration}
use Rattle.sw_machine.specs.Steps.{Step}
use Rattle.sw_schedule.specs.Lines.{Repeated, is_skipped, repeated_of, steps_of_line, words_of}
use Rattle.sw_schedule.specs.Schedule.{steps_of, with_line, with_steps}

module _ (d : Declaration) (n : ℕ) (line : List ℕ) (before : List Step) (said : is_skipped line ≡ false) where
  of_entry : (o : Option Repeated) → o ≡ repeated_of d (words_of line) → with_line d n before line ≡ option_map_or (with_steps n before) (option_map (λ r. replicate r.count r.step) o) (Err n)
  unfolding steps_of_line
  of_entry o is = rw said (ap (λ (p : Option Repeated). option_map_or (with_steps n before) (option_map (λ r. replicate r.count r.step) p) (Err n)) (sym is))

  -- a line that says no step
  pub no_step : None ≡ repeated_of d (words_of line) → with_line d n before line ≡ Err n
  no_step is = of_entry None is

  module _ (r : Repeated) (is : Some r ≡ repeated_of d (words_of line)) where
    -- one that says too many
    pub too_many_steps : 1000000 < length before + r.count → with_line d n before line ≡ Err n
    too_many_steps many =
        let size = length-replicate r.count r.step in
        let over = lt-leb (length before + length (replicate r.count r.step)) 1000000 (omega (arith, size, many)) in
        of_entry (Some r) is ∙ rw over refl

    -- one whose steps are added
    pub steps_added : (entries more : List Repeated) → before ≡ steps_of entries → more ≡ entries ++ r ∷ [] → length before + r.count ≤ 1000000 → with_line d n before line ≡ Ok (steps_of more)
    steps_added entries more all new few =
        let size = length-replicate r.count r.step in
        let fits = le-leb (length before + length (replicate r.count r.step)) 1000000 (omega (arith, size, few)) in
        let sum = ap (λ (s : List Step). s ++ replicate r.count r.step) all ∙ flat_map_more (λ (e : Repeated). replicate e.count e.step) [] entries r ∙ ap steps_of (sym new) in
        of_entry (Some r) is ∙ rw fits (ap Ok sum)
