-- The text of lists of flows, made in parts.
use Rattle.std.proofs.Common.{◌≡◌, ℕ, ◌<◌, List, [], ◌∷◌, ◌++◌, map, refl, sym, ap, ◌∙◌, subst, Vec, Global}
use Rattle.std.specs.Prelude.{Err, IfOk, MatchResult, Ok, Result}
use Rattle.std.specs.Borrow.{Bor}
use Rattle.std.specs.List.{AllZip, Contains, flat_map}
use Rattle.std.specs.declared.alloc.AllocError.{AllocError}
use Rattle.std.proofs.lemmas.Grind.{flat_map-append}
use Rattle.std.proofs.lemmas.List.{map-append}
use Rattle.rayon.specs.Lists.{chunks_of}
use Rattle.rayon.proofs.ToStd.{chunks_of-concat}
use Rattle.sw_flow.specs.declared.place.Place.{Place}
use Rattle.sw_text.specs.Parts.{joined}
use Rattle.sw_cert.specs.Grammar.{block, with_lf}
use Rattle.sw_cert.specs.PartTexts.{lists_text}
use Rattle.sw_cert.specs.Reading.{items_of}

-- the text of a part
abbrev part_text : List (Vec Place Global) → List ℕ
part_text flows = lists_text (map items_of flows)

two_parts : (first rest : List (Vec Place Global)) → part_text (first ++ rest) ≡ part_text first ++ part_text rest
two_parts first rest =
    ap lists_text (map-append items_of first rest)
    ∙ ap (flat_map with_lf) (flat_map-append block (map items_of first) (map items_of rest))
    ∙ flat_map-append with_lf (flat_map block (map items_of first)) (flat_map block (map items_of rest))

-- the texts of parts, one after another, are the text of all
all_parts : (parts : List (List (Vec Place Global))) → flat_map part_text parts ≡ part_text (flat_map (λ l. l) parts)
all_parts [] = refl
all_parts (part ∷ parts) = ap (λ x. part_text part ++ x) (all_parts parts) ∙ sym (two_parts part (flat_map (λ l. l) parts))

-- what a call gives for a part
abbrev IsPartText : Bor (List (Vec Place Global)) → Result (Vec ℕ Global) AllocError → Type 0
IsPartText part made = IfOk made (λ text. text.items ≡ part_text part.now)

-- what all calls gave
each_made : (parts : List (Bor (List (Vec Place Global)))) (texts : List (Vec ℕ Global))
    → AllZip IsPartText parts (map Ok texts)
    → joined texts ≡ flat_map part_text (map (λ (part : Bor (List (Vec Place Global))). part.now) parts)
each_made [] [] all = refl
each_made [] (text ∷ texts) all = absurd all
each_made (part ∷ parts) [] all = absurd all
each_made (part ∷ parts) (text ∷ texts) all = (λ i. all.0 i ++ each_made parts texts all.1 i)

pub texts_made : (size : ℕ) (flows : List (Vec Place Global)) (parts : List (Bor (List (Vec Place Global)))) (made : List (Result (Vec ℕ Global) AllocError))
    (r : Result (Vec (Vec ℕ Global) Global) AllocError) → 0 < size → map (λ (part : Bor (List (Vec Place Global))). part.now) parts ≡ chunks_of size flows
    → AllZip IsPartText parts made
    → MatchResult r (λ c. (texts : List (Vec ℕ Global)) × (made ≡ map Ok texts) × (c.items ≡ texts)) (λ e. Contains made (Err e))
    → IfOk r (λ v. joined v.items ≡ part_text flows)
texts_made size flows parts made (Ok v) some cut all are =
    ap joined are.2
    ∙ each_made parts are.0 (subst (AllZip IsPartText parts) are.1 all)
    ∙ ap (flat_map part_text) cut
    ∙ all_parts (chunks_of size flows)
    ∙ ap part_text (chunks_of-concat size flows some)
texts_made size flows parts made (Err e) some cut all are = tt
