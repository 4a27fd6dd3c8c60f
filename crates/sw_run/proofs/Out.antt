-- The packets that came out, node by node.
use Rattle.std.proofs.Common.{List, Some, [], ap, arith, length, map, refl, subst, suc, sym, zero, ℕ, ◌++◌, ◌+◌, ◌∙◌, ◌∷◌, ◌≡◌}
use Rattle.std.proofs.lemmas.List.{length-append, map-append}
use Rattle.std.proofs.lemmas.Option.{same_Some}
use Rattle.std.specs.Prelude.{slice_get}
use Rattle.sw_machine.specs.Packets.{Packet}
use Rattle.sw_machine.specs.Runs.{CameOut}
use Rattle.sw_machine.specs.State.{State}
use Rattle.sw_run.specs.Outcomes.{AreOut}

with_last : {X : Type 0} (P : ℕ → X → Type 0) (xs : List X) (x : X) → ((n : ℕ) (y : X) → slice_get xs n ≡ Some y → P n y) → P (length xs) x
    → (n : ℕ) (y : X) → slice_get (xs ++ x ∷ []) n ≡ Some y → P n y
with_last P [] x h last zero y e = subst (P zero) (same_Some x y e) last
with_last P [] x h last (suc n) y e = absurd cc
with_last P (z ∷ xs) x h last zero y e = h zero y e
with_last P (z ∷ xs) x h last (suc n) y e = with_last (λ m. P (suc m)) xs x (λ m. h (suc m)) last n y e

-- of no nodes
pub out_none : {V : Type 0} (items : V → List Packet) (s : State) (all : List V) → all ≡ [] → AreOut 0 s (map items all)
out_none items s all e = subst (λ l. AreOut 0 s (map items l)) (sym e) (record { all_nodes = refl; out = λ n packets at. absurd cc })

-- with those of one node more
pub out_more : {V : Type 0} (items : V → List Packet) (s : State) (n : ℕ) (all longer : List V) (packets : V) → AreOut n s (map items all) → CameOut s n (items packets) → longer ≡ all ++ packets ∷ []
    → AreOut (n + 1) s (map items longer)
out_more items s n all longer packets h last e =
    let is : map items longer ≡ map items all ++ items packets ∷ [] = ap (map items) e ∙ map-append items all (packets ∷ []) in
    subst (AreOut (n + 1) s) (sym is) (record {
      all_nodes = let a = h.all_nodes in let b = length-append (map items all) (items packets ∷ []) in omega arith;
      out = with_last (CameOut s) (map items all) (items packets) h.out (subst (λ m. CameOut s m (items packets)) (sym h.all_nodes) last);
    })
