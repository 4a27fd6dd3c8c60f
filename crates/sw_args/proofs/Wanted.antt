-- What a subcommand that is a call has among its values.
use Rattle.std.proofs.Common.{◌≡◌, ◌<◌, ◌≤◌, ◌∙◌, ◌^◌, List, ℕ, Option, arith, ap, codes, false, is_some, refl, sym, true≢false}
use Rattle.std.specs.Prelude.{IsSome, Some}
use Rattle.std.specs.Str.{bytes_eq}
use Rattle.std.proofs.lemmas.Slice.Eq.{bytes_eq-Decides}
use Rattle.clap.specs.Words.{Row, first_of}
use Rattle.sw_args.specs.CommandLine.{HasCall, IsCount, IsOther, SaysNumber, most_seed, most_steps, most_tries, most_workers}
use Rattle.sw_args.specs.declared.call.Call.TheVariants.{Route, Decide, Check, Report, Replay, Run, Migrate, Explain, Draw, Rmap, Mend, Margin, Witness, Audit, Init}

differ : (a b : List ℕ) → bytes_eq a b ≡ false → a ≡ b → ⊥
differ a b other is = true≢false (sym ((bytes_eq-Decides a b).1 is) ∙ other)

present : (o : Option (List ℕ)) (v : List ℕ) → o ≡ Some v → IsSome o
present o v is = ap is_some is

-- an argument that has a value
abbrev pub HasValue : List ℕ → List Row → Type 0
HasValue name values = IsSome (first_of name values)

-- an option that has a number from 1 up to the most
abbrev pub HasCount : ℕ → List ℕ → List Row → Type 0
HasCount most name values = (number : ℕ) × IsCount most name values number

-- so a number stands there that a `u32` holds
pub says : (most : ℕ) (name : List ℕ) (values : List Row) → most < 2 ^ 32 → HasCount most name values
    → (number : ℕ) × SaysNumber name values number × (number < 2 ^ 32)
says most name values small (number, is) =
    let within : number ≤ most = is.2 in
    (number, is.0, omega (arith, within, small))

-- of a run
pub of_run : (name : List ℕ) (values : List Row) → name ≡ codes "run" → HasCall name values
    → HasValue (codes "FILE") values × HasValue (codes "LOAD") values × HasCount most_workers (codes "workers") values × HasCount most_steps (codes "limit") values
of_run name values at (Run file load workers limit schedule summary json, is) = (present _ _ is.1, present _ _ is.2, (workers, is.3), (limit, is.4))
of_run name values at (call, is) = absurd (differ _ (codes "run") refl (sym is.0 ∙ at))

-- of an RMAP command
pub of_rmap : (name : List ℕ) (values : List Row) → name ≡ codes "rmap" → HasCall name values
    → HasValue (codes "FILE") values × HasValue (codes "FLOW") values × HasValue (codes "ACTION") values × HasValue (codes "ADDRESS") values
    × HasValue (codes "VALUE") values
of_rmap name values at (Rmap file flow action address value unacknowledged transaction, is) =
    (present _ _ is.1, present _ _ is.2, present _ _ is.3, present _ _ is.4, present _ _ is.5)
of_rmap name values at (call, is) = absurd (differ _ (codes "rmap") refl (sym is.0 ∙ at))

-- of a search
pub of_witness : (name : List ℕ) (values : List Row) → name ≡ codes "witness" → HasCall name values
    → HasValue (codes "FILE") values × HasCount most_tries (codes "tries") values × HasCount most_seed (codes "seed") values
of_witness name values at (Witness file tries seed, is) = (present _ _ is.1, (tries, is.2), (seed, is.3))
of_witness name values at (call, is) = absurd (differ _ (codes "witness") refl (sym is.0 ∙ at))

-- of any other
pub of_other : (name : List ℕ) (values : List Row) → IsOther name → HasCall name values → HasValue (codes "FILE") values
of_other name values apart (Audit json quiet certificates, is) = absurd (apart.0 is.0)
of_other name values apart (Init sample, is) = absurd (apart.1 is.0)
of_other name values apart (call, is) = present _ _ is.1

pub of_route : (name : List ℕ) (values : List Row) → name ≡ codes "route" → HasCall name values → HasValue (codes "FLOW") values
of_route name values at (Route file flow json, is) = present _ _ is.2
of_route name values at (call, is) = absurd (differ _ (codes "route") refl (sym is.0 ∙ at))

pub of_check : (name : List ℕ) (values : List Row) → name ≡ codes "check" → HasCall name values → HasValue (codes "CERT") values
of_check name values at (Check file certificate json, is) = present _ _ is.2
of_check name values at (call, is) = absurd (differ _ (codes "check") refl (sym is.0 ∙ at))

pub of_replay : (name : List ℕ) (values : List Row) → name ≡ codes "replay" → HasCall name values → HasValue (codes "SCHEDULE") values
of_replay name values at (Replay file schedule json, is) = present _ _ is.2
of_replay name values at (call, is) = absurd (differ _ (codes "replay") refl (sym is.0 ∙ at))

-- none but `margin` is left
pub left : (name : List ℕ) (values : List Row) → IsOther name
    → (name ≡ codes "route" → ⊥) × (name ≡ codes "check" → ⊥) × (name ≡ codes "replay" → ⊥) × (name ≡ codes "decide" → ⊥) × (name ≡ codes "report" → ⊥)
    × (name ≡ codes "migrate" → ⊥) × (name ≡ codes "explain" → ⊥) × (name ≡ codes "draw" → ⊥) × (name ≡ codes "mend" → ⊥)
    → HasCall name values → name ≡ codes "margin"
left name values apart not (Audit json quiet certificates, is) = absurd (apart.0 is.0)
left name values apart not (Init sample, is) = absurd (apart.1 is.0)
left name values apart not (Run file load workers limit schedule summary json, is) = absurd (apart.2 is.0)
left name values apart not (Rmap file flow action address value unacknowledged transaction, is) = absurd (apart.3 is.0)
left name values apart not (Witness file tries seed, is) = absurd (apart.4 is.0)
left name values apart not (Route file flow json, is) = absurd (not.0 is.0)
left name values apart not (Check file certificate json, is) = absurd (not.1 is.0)
left name values apart not (Replay file schedule json, is) = absurd (not.2 is.0)
left name values apart not (Decide file json, is) = absurd (not.3 is.0)
left name values apart not (Report file json, is) = absurd (not.4 is.0)
left name values apart not (Migrate file, is) = absurd (not.5 is.0)
left name values apart not (Explain file all json, is) = absurd (not.6 is.0)
left name values apart not (Draw file flow cycle numbers, is) = absurd (not.7 is.0)
left name values apart not (Mend file pairs json, is) = absurd (not.8 is.0)
left name values apart not (Margin file json, is) = is.0
