-- Whether an option without a value was given.
use Rattle.std.proofs.Common.{◌≡◌, ◌∙◌, Bool, List, ℕ, Option, Some, None, true, false, true≢false, refl, sym, ap, codes}
use Rattle.std.specs.Prelude.{Ok, Err, Result}
use Rattle.std.specs.Option.{unwrap_or}
use Rattle.std.specs.Str.{bytes_eq}
use Rattle.std.specs.Str.Parse.{ParsesBool}
use Rattle.std.proofs.lemmas.Slice.Eq.{bytes_eq-Decides}
use Rattle.clap.proofs.WalkLemmas.{one_text-rows}
use Rattle.clap.specs.declared.parser.matches.Found.{Found}
use Rattle.clap.specs.Words.{ReadsOne, Row, one_of, one_text, rows_of}
use Rattle.sw_args.specs.CommandLine.{IsSet}

text_of : (o : Option (List ℕ)) (t u : List ℕ) → o ≡ Some t → o ≡ Some u → t ≡ u
text_of o t u one other = ap (λ (x : Option (List ℕ)). unwrap_or x t) (sym one ∙ other)

-- some value says whether it was given
pub some_flag : (name : List ℕ) (values : List Row) → (given : Bool) × IsSet name values given
some_flag name values = go (one_of name values) refl
  where
    word : (t : List ℕ) → one_of name values ≡ Some t → (b : Bool) → bytes_eq t (codes "true") ≡ b → (given : Bool) × IsSet name values given
    word t is true same = (true, (λ e. is ∙ ap Some ((bytes_eq-Decides t (codes "true")).0 same), λ e. refl))
    word t is false same = (
      false,
      (
        λ e. absurd (true≢false (sym e)),
        λ e. absurd (true≢false (sym ((bytes_eq-Decides t (codes "true")).1 (text_of _ t (codes "true") is e)) ∙ same)),
      ),
    )

    go : (o : Option (List ℕ)) → one_of name values ≡ o → (given : Bool) × IsSet name values given
    go None is = (false, (λ e. absurd (true≢false (sym e)), λ e. absurd (let none : None ≡ Some (codes "true") = sym is ∙ e in cc)))
    go (Some t) is = word t is (bytes_eq t (codes "true")) refl

-- the value that was read says so
pub says_set : (E : Type 0) (G : List ℕ → Result Bool E → Type 0) (m : Found) (name : List ℕ) (o : Option Bool)
    → ((t : List ℕ) (r : Result Bool E) → G t r → ParsesBool t r)
    → (one_text m name ≡ None → o ≡ None) → ((t : List ℕ) → one_text m name ≡ Some t → ReadsOne G t o)
    → IsSet name (rows_of m) (unwrap_or o false)
says_set E G m name o only none value = go (one_text m name) refl o none value
  where
    rows : (t : Option (List ℕ)) → one_text m name ≡ t → one_of name (rows_of m) ≡ t
    rows t is = sym (one_text-rows m name) ∙ is

    named : (t : List ℕ) → one_text m name ≡ Some t → (p : Option Bool) → ReadsOne G t p → IsSet name (rows_of m) (unwrap_or p false)
    named t is (Some true) read =
        let word = only t (Ok true) read in
        (λ e. rows (Some t) is ∙ ap Some word, λ e. refl)
    named t is (Some false) read =
        let word = only t (Ok false) read in
        (λ e. absurd (true≢false (sym e)), λ e. absurd (let same : codes "false" ≡ codes "true" = sym word ∙ text_of _ t (codes "true") (rows (Some t) is) e in cc))
    named t is None (error, read) =
        let other = only t (Err error) read in
        (λ e. absurd (true≢false (sym e)), λ e. absurd (other.0 (text_of _ t (codes "true") (rows (Some t) is) e)))

    go : (t : Option (List ℕ)) → one_text m name ≡ t → (p : Option Bool) → (one_text m name ≡ None → p ≡ None)
        → ((t : List ℕ) → one_text m name ≡ Some t → ReadsOne G t p) → IsSet name (rows_of m) (unwrap_or p false)
    go None is (Some b) nothing read = let empty : Some b ≡ None = nothing is in absurd cc
    go None is None nothing read = (λ e. absurd (true≢false (sym e)), λ e. absurd (let empty : None ≡ Some (codes "true") = sym (rows None is) ∙ e in cc))
    go (Some t) is p nothing read = named t is p (read t is)
