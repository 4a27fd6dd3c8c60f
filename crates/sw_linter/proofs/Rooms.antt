-- Room for marks and notes, none of them set.
use Rattle.std.proofs.Common.{◌≡◌, ◌∙◌, ℕ, ◌-◌, Global, List, [], ◌++◌, Ok, Err, Result, Vec, ap, arith, length, replicate, rules, subst, sym, take}
use Rattle.std.specs.Prelude.{OnOk, if◌then◌else◌, is_ok, vec_len}
use Rattle.std.specs.Result.{result_and}
use Rattle.std.proofs.Math.Seq.{take-nil}

none_long : {A : Type 0} (v : Vec A Global) → v.items ≡ [] → vec_len v ≡ 0
none_long v none = let long : vec_len v ≡ length v.items = search rules in long ∙ ap length none

-- what had nothing is filled up
pub room : {A : Type 0} (old : Vec A Global) (items : List A) (n m : ℕ) (x : A) → old.items ≡ [] → n ≡ m → items ≡ take n old.items ++ replicate (n - vec_len old) x → items ≡ replicate m x
room old items n m x none same is =
    let whole : n - 0 ≡ m = omega (arith, same) in
    is ∙ (λ i. take n (none i) ++ replicate (n - none_long old none i) x) ∙ ap (λ front. front ++ replicate (n - 0) x) (take-nil n) ∙ ap (λ k. replicate k x) whole

pub room_if : {T E A : Type 0} (r : Result T E) (old : Vec A Global) (items : List A) (n m : ℕ) (x : A) → old.items ≡ [] → n ≡ m
    → items ≡ (if is_ok r then take n old.items ++ replicate (n - vec_len old) x else old.items) → OnOk r (items ≡ replicate m x)
room_if (Ok v) old items n m x none same is = room old items n m x none same is
room_if (Err e) old items n m x none same is = tt

-- what both make sure of, where one comes after the other
pub and_more : {T U E : Type 0} (P Q : Type 0) (r : Result T E) (s : Result U E) (t : Result U E) → t ≡ result_and r s → OnOk s Q → OnOk r (Q → P) → OnOk t P
and_more {T} {U} {E} P Q r s t e second first = subst (λ o. OnOk o P) (sym e) (by r s first second)
  where
    by : (r : Result T E) (s : Result U E) → OnOk r (Q → P) → OnOk s Q → OnOk (result_and r s) P
    by (Ok x) (Ok y) first second = first second
    by (Ok x) (Err f) first second = tt
    by (Err f) s first second = tt
