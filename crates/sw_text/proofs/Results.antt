-- What is read goes well or not: what follows from its going well, and of one answer.
use Rattle.std.proofs.Common.{◌≡◌, ◌∙◌, ℕ, Bool, true, false, List, Result, Ok, Err, refl, sym}
use Rattle.std.specs.Prelude.{if◌then◌else◌}
use Rattle.sw_text.specs.Ends.{Says}
use Rattle.sw_text.specs.Gives.{◌>>=◌}
use Rattle.sw_text.specs.declared.fault.TextFault.{TextFault}

-- a whole that went well went well in its first part
pub bind_ok : {A B : Type 0} (r : Result A TextFault) (f : A → Result B TextFault) (y : B) → (r >>= f) ≡ Ok y → (x : A) × (r ≡ Ok x) × (f x ≡ Ok y)
bind_ok (Ok x) f y well = (x, refl, well)
bind_ok (Err e) f y well = absurd cc

-- a test that went well passed
pub test_passed : {A : Type 0} (test : Bool) (x a : A) (e : TextFault) → (if test then Ok x else Err e) ≡ Ok a → (test ≡ true) × (x ≡ a)
test_passed true x a e h = (refl, cc)
test_passed false x a e h = absurd cc

-- one text with one status is told
pub says_once : (said : List ℕ) (n : ℕ) (text other : List ℕ) (status number : ℕ) → Says said n text status → Says said n other number → (text ≡ other) × (status ≡ number)
says_once said n text other status number p q = (p.0 ∙ sym q.0, p.1 ∙ sym q.1)
