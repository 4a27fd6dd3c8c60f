-- What an option's value says as a number.
use Rattle.std.proofs.Common.{◌≡◌, ◌<◌, ◌^◌, List, ℕ, Option, ap, is_some, refl, subst, sym, true≢false, ◌∙◌}
use Rattle.std.specs.Prelude.{IfSome, IsSome, Ok, Err, Result, Some, None, option_map}
use Rattle.std.specs.Option.{unwrap_or}
use Rattle.std.specs.Str.Parse.{ParsesUnsigned}
use Rattle.clap.proofs.WalkLemmas.{one_text-rows}
use Rattle.clap.specs.declared.parser.matches.Found.{Found}
use Rattle.clap.specs.Words.{ReadsOne, Row, one_text, rows_of}
use Rattle.sw_args.specs.CommandLine.{IsCount, SaysNumber}

-- a number that was read is the one that the text says
pub says_number : (E : Type 0) (G : List ℕ → Result ℕ E → Type 0) (width : ℕ) (m : Found) (name : List ℕ) (o : Option ℕ)
    → ((t : List ℕ) (r : Result ℕ E) → G t r → ParsesUnsigned width 10 t r)
    → (one_text m name ≡ None → o ≡ None) → ((t : List ℕ) → one_text m name ≡ Some t → ReadsOne G t o)
    → IfSome o (SaysNumber name (rows_of m))
says_number E G width m name None only none value = tt
says_number E G width m name (Some v) only none value = go (one_text m name) refl
  where
    go : (t : Option (List ℕ)) → one_text m name ≡ t → SaysNumber name (rows_of m) v
    go None is = let empty : Some v ≡ None = none is in absurd cc
    go (Some t) is =
        let parsed = only t (Ok v) (value t is) in
        (t, sym (one_text-rows m name) ∙ is, parsed.0.0, sym parsed.1)

-- a text says one number
says_one : (name : List ℕ) (values : List Row) (x y : ℕ) → SaysNumber name values x → SaysNumber name values y → x ≡ y
says_one name values x y (t, is, digits, same) (u, was, others, other) = cc

-- where a text says a number that the type can hold, one was read
pub says_some : (E : Type 0) (G : List ℕ → Result ℕ E → Type 0) (width : ℕ) (m : Found) (name : List ℕ) (o : Option ℕ)
    → ((t : List ℕ) (r : Result ℕ E) → G t r → ParsesUnsigned width 10 t r)
    → ((t : List ℕ) → one_text m name ≡ Some t → ReadsOne G t o)
    → (number : ℕ) × SaysNumber name (rows_of m) number × (number < 2 ^ width) → IsSome o
says_some E G width m name (Some v) only value number = refl
says_some E G width m name None only value (number, (t, is, digits, same), small) =
    let failed = value t (one_text-rows m name ∙ is) in
    absurd (only t (Err failed.0) failed.1 (digits, rw same small))

-- the number that the text says is within the bounds of the one that it has to say
pub counts : (most : ℕ) (name : List ℕ) (values : List Row) (x : ℕ) → (number : ℕ) × IsCount most name values number → SaysNumber name values x
    → IsCount most name values x
counts most name values x (number, is) read = subst (IsCount most name values) (says_one name values number x is.0 read) is

-- what a value is read of is there where its text is
pub is_there : {X : Type 0} (f : X → List ℕ) (o : Option X) (text : Option (List ℕ)) → option_map f o ≡ text → IsSome text → IsSome o
is_there f (Some x) text same is = refl
is_there f None text same is = absurd (true≢false (sym is ∙ ap is_some (sym same)))

-- what holds of a number that was read holds of this one
pub of_number : (P : ℕ → Type 0) (o : Option ℕ) (x : ℕ) → IfSome o P → o ≡ Some x → P x
of_number P None x each is = absurd cc
of_number P (Some y) x each is = subst P (ap (λ o. unwrap_or o y) is) each
