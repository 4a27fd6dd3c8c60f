-- Link ends that can step, counted on.
use Rattle.std.proofs.Common.{Bool, List, None, Option, Some, [], arith, count_by, length, length-append, inl, inr, refl, subst, sym, true, false, zero, suc, ℕ, ◌+◌, ◌++◌, ◌<◌, ◌∷◌, ◌≡◌}
use Rattle.std.proofs.lemmas.Option.{same_Some}
use Rattle.std.specs.Prelude.{IfSome, slice_get}
use Rattle.sw_history.specs.Enabled.{CanStepBelow, IsChosen, IsNth}
use Rattle.sw_machine.proofs.Balance.{count_append}
use Rattle.sw_net.specs.Asked.{CanStep, IsFirst}
use Rattle.sw_net.specs.Net.{NetView}

pub none_below : {R A : Type 0} (v : NetView R A) → CanStepBelow v 0 0
none_below v = record { told = []; are_told = record { all = refl; each = λ e can h. absurd cc }; counted = refl }

-- one more is told
told_last : {R A : Type 0} (v : NetView R A) (told : List Bool) (m : ℕ) (can : Bool) → CanStep v (m + length told) can → ((e : ℕ) (b : Bool) → slice_get told e ≡ Some b → CanStep v (m + e) b) → (e : ℕ) (b : Bool) → slice_get (told ++ can ∷ []) e ≡ Some b → CanStep v (m + e) b
told_last v [] m can here each zero b h = subst (CanStep v (m + 0)) (same_Some can b h) here
told_last v [] m can here each (suc e) b h = absurd cc
told_last v (t ∷ told) m can here each zero b h = each 0 b h
told_last v (t ∷ told) m can here each (suc e) b h =
    let next : (m + 1) + length told ≡ m + suc (length told) = omega arith in
    let at : (m + 1) + e ≡ m + suc e = omega arith in
    subst (λ k. CanStep v k b) at
    (told_last v told (m + 1) can (subst (λ k. CanStep v k can) (sym next) here) (λ i c g. let up : m + suc i ≡ (m + 1) + i = omega arith in subst (λ k. CanStep v k c) up (each (suc i) c g)) e b h)

-- 1 if it can
abbrev pub one_if : Bool → ℕ
one_if true = 1
one_if false = 0

count_one : (can : Bool) → count_by (λ (b : Bool). b) (can ∷ []) ≡ one_if can
count_one true = refl
count_one false = refl

pub one_more : {R A : Type 0} (v : NetView R A) (n count : ℕ) (can : Bool) → CanStep v n can → CanStepBelow v n count → CanStepBelow v (n + 1) (count + one_if can)
one_more v n count can here below =
    let told = below.told in
    let all = (below.are_told).all in
    let a = length-append told (can ∷ []) in
    let c = below.counted in
    let sum = count_append (λ (b : Bool). b) told (can ∷ []) in
    let one = count_one can in
    record {
      told = told ++ can ∷ [];
      are_told = record {
        all = omega arith;
        each = λ e b h. (let at : 0 + e ≡ e = omega arith in let last : n ≡ 0 + length told = omega arith in
            subst (λ k. CanStep v k b) at (told_last v told 0 can (subst (λ k. CanStep v k can) last here) (λ i d g. (let i_is : i ≡ 0 + i = omega arith in subst (λ k. CanStep v k d) i_is ((below.are_told).each i d g))) e b h));
      };
      counted = omega arith;
    }

pub first_below : {R A : Type 0} (v : NetView R A) (e : ℕ) → ((k : ℕ) → k < e → CanStep v k false) → CanStepBelow v e 0
first_below v zero none = none_below v
first_below v (suc e) none =
    let more = one_more v e 0 false (none e (omega arith)) (first_below v e (λ k lt. none k (omega arith))) in
    let next : e + 1 ≡ suc e = omega arith in
    let same : 0 + one_if false ≡ 0 = omega arith in
    subst (λ k. CanStepBelow v k 0) next (subst (λ k. CanStepBelow v (e + 1) k) same more)

-- the link end that is chosen, by where the two searches end
pub nth_is_chosen : {R A : Type 0} (v : NetView R A) (index e : ℕ) → IsNth v index (Some e) → IsChosen v index e
nth_is_chosen v index e h = (h.0, inl h.1)

pub first_is_chosen : {R A : Type 0} (v : NetView R A) (index : ℕ) → IsNth v index None → (o : Option ℕ) → IsFirst v o → IfSome o (IsChosen v index)
first_is_chosen v index no_more None h = tt
first_is_chosen v index no_more (Some e) h = (h.1, inr (no_more, first_below v e h.2))
