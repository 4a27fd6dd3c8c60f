-- Reading that stops at its first fault, and what a function of the program says of it.
use Rattle.std.specs.Prelude.{◌≡◌, ℕ, suc, List, [], ◌∷◌, Option, Some, None, Result, Ok, Err}
use Rattle.sw_text.specs.declared.fault.TextFault.{TextFault}
use Rattle.sw_text.specs.declared.fault.OrMemory.{OrMemory}
use Rattle.sw_text.specs.declared.fault.OrMemory.TheVariants.{Fault, Memory}

-- the first fault of a text, or want of memory
abbrev pub FileFault : Type 0
FileFault = OrMemory TextFault

-- the second reading goes on from what the first gave
infixl 10 ◌>>=◌
abbrev pub ◌>>=◌ : {A B F : Type 0} → Result A F → (A → Result B F) → Result B F
(Ok x) >>= f = f x
(Err e) >>= f = Err e

-- what is there, or a fault
abbrev pub ok_or : {A F : Type 0} → Option A → F → Result A F
ok_or (Some x) fault = Ok x
ok_or None fault = Err fault

-- what a function returned as its error is the fault of reading, unless memory ran out
abbrev pub Fails : {Y F : Type 0} → OrMemory F → Result Y F → Type 0
Fails Memory read = Unit {0}
Fails (Fault fault) read = read ≡ Err fault

-- what a function returned, seen by view, is what reading gives, unless memory ran out
abbrev pub Gives : {X Y F : Type 0} → (X → Y) → Result X (OrMemory F) → Result Y F → Type 0
Gives view (Ok x) read = read ≡ Ok (view x)
Gives view (Err e) read = Fails e read

-- a step for each of a list, with its number and what was read before it, from number i on
abbrev pub walk_from : {S X : Type 0} → (ℕ → S → X → Result S TextFault) → ℕ → S → List X → Result S TextFault
walk_from step i s [] = Ok s
walk_from step i s (x ∷ xs) = step i s x >>= λ t. walk_from step (suc i) t xs

abbrev pub walk : {S X : Type 0} → (ℕ → S → X → Result S TextFault) → S → List X → Result S TextFault
walk step s xs = walk_from step 0 s xs

-- what reading gives for each of a list
abbrev pub each : {A X : Type 0} → (X → Result A TextFault) → List X → Result (List A) TextFault
each one [] = Ok []
each one (x ∷ xs) = one x >>= λ a. each one xs >>= λ rest. Ok (a ∷ rest)
