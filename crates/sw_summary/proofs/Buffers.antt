-- What a step makes of the fill of a buffer.
use Rattle.std.proofs.Common.{Bool, List, ap, arith, false, length, refl, subst, sym, true, ℕ, ◌++◌, ◌∷◌, ◌≡◌, ◌≤◌, []}
use Rattle.std.proofs.lemmas.Bool.Decides.{nat_tests}
use Rattle.std.specs.Prelude.{if◌then◌else◌, max, nat_eq}
use Rattle.sw_char.specs.declared.nchar.NChar.{NChar}
use Rattle.sw_char.specs.declared.nchar.NChar.TheVariants.{Data, Eep, Eop}
use Rattle.sw_summary.specs.NotedFills.{noted}
use Rattle.sw_machine.specs.Network.{Network}
use Rattle.sw_machine.specs.State.{State, put}
use Rattle.sw_machine.specs.Steps.{Accept, Arrive, Begin, Drop, Drops, Emit, Fct, FctIn, Forward, Grant, Leads, Reply, Spill, Step}

-- the fill stays the greatest where a buffer holds no more than before
abbrev Stays : ℕ → ℕ → State → Type 0
Stays k fill t = fill ≡ max fill (length (t.buffer k))

same : (fill n : ℕ) → n ≤ fill → fill ≡ max fill n
same fill n le = omega (arith, le)

-- one buffer is no longer than it was
shorter : (b : ℕ → List NChar) (c k fill : ℕ) (new : List NChar) → length (b k) ≤ fill → length new ≤ length (b c) → fill ≡ max fill (length (put b c new k))
shorter b c k fill new le less = grind (arith, nat_tests)

-- one character has arrived
arrived : (b : ℕ → List NChar) (c k fill : ℕ) (first : NChar) → length (b k) ≤ fill
    → (if nat_eq k c then max fill (length (put b c (b c ++ first ∷ []) k)) else fill) ≡ max fill (length (put b c (b c ++ first ∷ []) k))
arrived b c k fill first le = go (nat_eq k c)
  where
    go : (r : Bool) → (if r then max fill (length (if r then b c ++ first ∷ [] else b k)) else fill) ≡ max fill (length (if r then b c ++ first ∷ [] else b k))
    go true = refl
    go false = omega (arith, le)

dropped : (net : Network) (s t : State) (c k fill switch : ℕ) (first : NChar) (rest : List NChar) → s.buffer c ≡ first ∷ rest → Drops net s c switch first rest t → length (s.buffer k) ≤ fill → Stays k fill t
dropped net s t c k fill switch (Data h) rest front after le = subst (Stays k fill) (sym after.1) (same fill (length (s.buffer k)) le)
dropped net s t c k fill switch Eop rest front after le = let size = ap length front in subst (Stays k fill) (sym after) (shorter s.buffer c k fill rest le (omega (arith, size)))
dropped net s t c k fill switch Eep rest front after le = let size = ap length front in subst (Stays k fill) (sym after) (shorter s.buffer c k fill rest le (omega (arith, size)))

granted : (deletes : Bool) (x : NChar) (rest l : List NChar) → l ≡ x ∷ rest → length (if deletes then rest else x ∷ rest) ≤ length l
granted true x rest l is = let size = ap length is in omega (arith, size)
granted false x rest l is = let size = ap length is in omega (arith, size)

-- the fill after a step, where it was no less than what the buffer held
pub noted_is : (net : Network) (s : State) (step : Step) (t : State) → Leads net s step t → (k fill : ℕ) → length (s.buffer k) ≤ fill → noted step t k fill ≡ max fill (length (t.buffer k))
noted_is net s (Fct c) t h k fill le = subst (Stays k fill) (sym h.after) (same fill (length (s.buffer k)) le)
noted_is net s (FctIn c) t h k fill le = subst (Stays k fill) (sym h.after) (same fill (length (s.buffer k)) le)
noted_is net s (Arrive c) t h k fill le =
    subst (λ (u : State). (if nat_eq k c then max fill (length (u.buffer k)) else fill) ≡ max fill (length (u.buffer k))) (sym h.after) (arrived s.buffer c k fill h.first le)
noted_is net s (Grant d c) t h k fill le =
    subst (Stays k fill) (sym h.after)
    (shorter s.buffer c k fill (if net.deletes h.switch h.h then h.rest else Data h.h ∷ h.rest) le (granted (net.deletes h.switch h.h) (Data h.h) h.rest (s.buffer c) h.front))
noted_is net s (Drop c) t h k fill le = dropped net s t c k fill h.switch h.first h.rest h.front h.after le
noted_is net s (Forward c) t h k fill le = let size = ap length h.front in subst (Stays k fill) (sym h.after) (shorter s.buffer c k fill h.rest le (omega (arith, size)))
noted_is net s (Spill c) t h k fill le = let size = ap length h.front in subst (Stays k fill) (sym h.after) (shorter s.buffer c k fill h.rest le (omega (arith, size)))
noted_is net s (Begin f cargo end) t h k fill le = subst (Stays k fill) (sym h.after) (same fill (length (s.buffer k)) le)
noted_is net s (Emit n) t h k fill le = subst (Stays k fill) (sym h.after) (same fill (length (s.buffer k)) le)
noted_is net s (Accept n) t h k fill le =
    let size = ap length h.front in subst (Stays k fill) (sym h.after) (shorter s.buffer (net.into n) k fill h.rest le (omega (arith, size)))
noted_is net s (Reply n) t h k fill le = subst (Stays k fill) (sym h.after) (same fill (length (s.buffer k)) le)
