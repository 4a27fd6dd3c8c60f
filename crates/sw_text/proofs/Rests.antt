-- What several reads took of a reader, and several writes of a text's rest wrote.
use Rattle.std.proofs.Common.{◌≡◌, ℕ, ◌<◌, ◌≤◌, ◌+◌, ◌-◌, min, List, [], ◌++◌, Result, Ok, Err, IfErr, IsErr, refl, sym, ap, subst, length, take, drop, arith, length-drop, length-append, length-take}
use Rattle.std.proofs.Math.Seq.{take-add}
use Rattle.std.specs.Prelude.{Option}
use Rattle.std.proofs.lemmas.Bool.{false≢true}
use Rattle.std.specs.Io.KnownBytes.{Appends, Consumes, Keeps, ReadConsumes}
use Rattle.sw_text.specs.declared.read_stream.ReadError.{ReadError}
use Rattle.sw_text.specs.declared.read_stream.ReadError.TheVariants.{Failed}
use Rattle.sw_text.specs.Reading.{Takes}
use Rattle.std.proofs.KnownBytes.{Appends-trans, Consumes-kept, Consumes-nil, Consumes-trans}
use Rattle.std.proofs.lemmas.List.{take_rest}

-- a beginning of the rest after a beginning is a longer beginning
pub appends_more : (a b c : Option (List ℕ)) (text : List ℕ) (i n : ℕ) → Appends a b (take i text)
    → Appends b c (take n (take (length text - i) (drop i text))) → Appends a c (take (i + n) text)
appends_more a b c text i n p q =
    let P : List ℕ → Type 0 = λ bytes. Appends a c bytes in
    let rest : Appends b c (take n (drop i text)) = subst (λ (bytes : List ℕ). Appends b c (take n bytes)) (take_rest text i) q in
    subst P (sym (take-add i n text)) (Appends-trans a b c (take i text) (take n (drop i text)) p rest)

-- what was taken of the rest fits
pub fits_more : (text : List ℕ) (i n : ℕ) → i ≤ length text → n ≤ length (take (length text - i) (drop i text)) → i + n ≤ length text
fits_more text i n h p = omega (arith, ap (length {A = ℕ}) (take_rest text i), length-drop i text)

-- bytes that were read, and up to so many more
pub takes_more : (a b c : Option (List ℕ)) (bytes : List ℕ) (most limit : ℕ) → Consumes a b bytes → length bytes + most ≤ limit
    → (n : ℕ) × (n ≤ most) × Takes b c n → (n : ℕ) × (n ≤ limit) × Takes a c n
takes_more a b c bytes most limit read fits (n, within, (more, is, rest)) =
    (length bytes + n, omega arith, (bytes ++ more, omega (arith, length-append bytes more), Consumes-trans a b c bytes more read rest))

-- what holds whatever the error is
pub at_any_error : {T E : Type 0} (r : Result T E) {P : Type 0} → P → IfErr r (λ _. P)
at_any_error (Ok x) p = tt
at_any_error (Err e) p = p

-- a read after others
pub read_on : (a b c : Option (List ℕ)) (bytes more new : List ℕ) → Consumes a b bytes → Consumes b c more → new ≡ bytes ++ more → Consumes a c new
read_on a b c bytes more new read next is = subst (Consumes a c) (sym is) (Consumes-trans a b c bytes more read next)

-- what it added fits
pub fits_on : (old new room : List ℕ) (count most limit : ℕ) → new ≡ old ++ take count room → count ≤ most → length old + most ≤ limit → length new ≤ limit
fits_on old new room count most limit is within fits =
    omega (arith, ap (length {A = ℕ}) is, length-append old (take count room), length-take count room, within, fits)

-- a read that failed took nothing
pub none_taken : {E : Type 0} (a b : Option (List ℕ)) (r : Result ℕ E) (buf : List ℕ) (most : ℕ) → IsErr r → ReadConsumes a b r buf → (n : ℕ) × (n ≤ most) × Takes a b n
none_taken a b (Ok count) buf most failed read = absurd (false≢true failed)
none_taken a b (Err e) buf most failed read = (0, omega arith, ([], refl, Consumes-kept a a b [] (Consumes-nil a) read))

-- what a read took fits
pub some_taken : {E : Type 0} (a b : Option (List ℕ)) (r : Result ℕ E) (buf : List ℕ) (count most : ℕ) → r ≡ Ok count → ReadConsumes a b r buf → length buf ≡ most
    → (n : ℕ) × (n ≤ most) × Takes a b n
some_taken {E} a b r buf count most is read size =
    let taken = subst (λ (q : Result ℕ E). ReadConsumes a b q buf) is read in
    (length (take count buf), omega (arith, length-take count buf, size), (take count buf, refl, taken.0))

-- what is left for a read after others
module _ (text chunk : List ℕ) (m sum most limit : ℕ) (size : m ≡ length text) (left : sum ≡ min ((limit - m) + 1) 18446744073709551615) (at_most : most ≡ min sum 65536) where
  pub room_fits : length text ≤ limit → length text + length (take most chunk) ≤ limit + 1
  room_fits fits = omega (arith, length-take most chunk, size, left, at_most, fits)

  pub room_some : length chunk ≡ 65536 → 0 < length (take most chunk)
  room_some whole = omega (arith, length-take most chunk, left, at_most, whole)

-- less is left after a read that gave some
pub less_left : (old new room : List ℕ) (count most limit : ℕ) → new ≡ old ++ take count room → length room ≡ most → count ≤ most → (count ≡ 0 → ⊥) → length old ≤ limit
    → limit + 1 - length new < limit + 1 - length old
less_left old new room count most limit is size within some fits =
    omega (arith, ap (length {A = ℕ}) is, length-append old (take count room), length-take count room, size, within, some, fits)

-- a read that failed after others
pub short_on : {T : Type 0} (r : Result T ReadError) (d e : ReadError) (a b c : Option (List ℕ)) (bytes : List ℕ) (limit : ℕ) → r ≡ Err d → d ≡ e
    → (◌≡◌ {A = Result ℕ ReadError} (Err e) (Err Failed) → Keeps b c) → Consumes a b bytes → length bytes ≤ limit → r ≡ Err Failed → (n : ℕ) × (n ≤ limit) × Takes a c n
short_on r d e a b c bytes limit is same kept read fits failed =
    let is_failed : e ≡ Failed = cc in
    (length bytes, fits, (bytes, refl, Consumes-kept a b c bytes read (kept (ap Err is_failed))))

-- one byte past the limit
pub one_past : (m n limit : ℕ) → m ≡ n → n ≤ limit + 1 → limit < m → n ≡ limit + 1
one_past m n limit size within past = omega (arith, size, within, past)
