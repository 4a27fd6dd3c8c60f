-- The text of a certificate, part by part.
use Rattle.std.proofs.Common.{◌≡◌, ℕ, List, [], ◌∷◌, ◌++◌, length, map, refl, sym, ap, ◌∙◌, append-nil, append_assoc}
use Rattle.std.specs.Prelude.{Vec, codes}
use Rattle.std.specs.List.{flat_map}
use Rattle.std.specs.Fmt.{decimal}
use Rattle.std.specs.declared.alloc.Global.{Global}
use Rattle.std.proofs.lemmas.Grind.{flat_map-append}
use Rattle.std.proofs.lemmas.List.{length-map}
use Rattle.std.proofs.lemmas.List.Folds.{flat_map-map}
use Rattle.sw_flow.specs.declared.place.Place.{Place}
use Rattle.sw_cert.specs.Grammar.{with_lf, place_line, block, head_lines, spelling}
use Rattle.sw_cert.specs.PartTexts.{head_text, lists_text}
use Rattle.sw_text.specs.Parts.{joined}
use Rattle.sw_cert.specs.Reading.{items_of}

abbrev pub block_text : Vec Place Global → List ℕ
block_text f = with_lf (codes "flow " ++ decimal (length f.items)) ++ flat_map (λ p. with_lf (place_line p)) f.items

-- the text of all lists
pub blocks_text : (fs : List (Vec Place Global)) → flat_map block_text fs ≡ lists_text (map items_of fs)
blocks_text [] = refl
blocks_text (f ∷ fs) =
    sym
    (flat_map-append with_lf (block f.items) (flat_map block (map items_of fs))
    ∙ ap (λ x. (with_lf (codes "flow " ++ decimal (length f.items)) ++ x) ++ lists_text (map items_of fs)) (flat_map-map with_lf place_line f.items)
    ∙ ap (λ x. block_text f ++ x) (sym (blocks_text fs)))

-- the first two lines
abbrev pub first_lines : ℕ → List ℕ
first_lines n = codes "swcert 1\n" ++ with_lf (codes "channels " ++ decimal n)

-- they, the numbers of the channels, and the line that counts the lists
pub head_parts : (ns : List ℕ) (m : ℕ)
    → (first_lines (length ns) ++ flat_map (λ v. with_lf (codes "number " ++ decimal v)) ns) ++ with_lf (codes "flows " ++ decimal m) ≡ head_text ns m
head_parts ns m =
    sym
    (flat_map-append with_lf (head_lines (length ns) ns) ((codes "flows " ++ decimal m) ∷ [])
    ∙ ap (λ x. (first_lines (length ns) ++ x) ++ (with_lf (codes "flows " ++ decimal m) ++ [])) (flat_map-map with_lf (λ v. codes "number " ++ decimal v) ns)
    ∙ ap (λ x. (first_lines (length ns) ++ flat_map (λ v. with_lf (codes "number " ++ decimal v)) ns) ++ x) (append-nil (with_lf (codes "flows " ++ decimal m))))

-- the text of a certificate is the text before the lists, that of the lists, and the last line
spelling_cut : (ns : List ℕ) (flows : List (List Place)) → head_text ns (length flows) ++ (lists_text flows ++ codes "end\n") ≡ spelling ns flows
spelling_cut ns flows =
    let heads = head_lines (length ns) ns in
    let count = codes "flows " ++ decimal (length flows) in
    let head : head_text ns (length flows) ≡ flat_map with_lf heads ++ with_lf count =
    flat_map-append with_lf heads (count ∷ []) ∙ ap (λ x. flat_map with_lf heads ++ x) (append-nil (with_lf count)) in
    ap (λ x. x ++ (lists_text flows ++ codes "end\n")) head
    ∙ append_assoc (flat_map with_lf heads) (with_lf count) (lists_text flows ++ codes "end\n")
    ∙ ap (λ x. flat_map with_lf heads ++ (with_lf count ++ x)) (sym (flat_map-append with_lf (flat_map block flows) (codes "end" ∷ [])))
    ∙ sym (flat_map-append with_lf heads ((count ∷ flat_map block flows) ++ codes "end" ∷ []))

pub spelled_so : (ns : List ℕ) (fs : List (Vec Place Global)) → head_text ns (length fs) ++ (lists_text (map items_of fs) ++ codes "end\n") ≡ spelling ns (map items_of fs)
spelled_so ns fs =
    ap (λ m. head_text ns m ++ (lists_text (map items_of fs) ++ codes "end\n")) (sym (length-map fs items_of)) ∙ spelling_cut ns (map items_of fs)

-- the same, written in this order
pub spelled_on : (ns : List ℕ) (fs : List (Vec Place Global)) (before lists text : List ℕ) → before ≡ head_text ns (length fs) → lists ≡ before ++ lists_text (map items_of fs)
    → text ≡ lists ++ codes "end\n" → text ≡ spelling ns (map items_of fs)
spelled_on ns fs before lists text head more last =
    last
    ∙ ap (λ x. x ++ codes "end\n") (more ∙ ap (λ x. x ++ lists_text (map items_of fs)) head)
    ∙ append_assoc (head_text ns (length fs)) (lists_text (map items_of fs)) (codes "end\n")
    ∙ spelled_so ns fs

-- the same in parts
pub spelled_in_parts : (ns : List ℕ) (fs : List (Vec Place Global)) (before : List ℕ) (parts more : List (Vec ℕ Global)) (last : Vec ℕ Global)
    → before ≡ head_text ns (length fs) → joined parts ≡ lists_text (map items_of fs) → more ≡ parts ++ last ∷ [] → last.items ≡ codes "end\n"
    → before ++ joined more ≡ spelling ns (map items_of fs)
spelled_in_parts ns fs before parts more last head lists is line =
    ap (λ (it : List (Vec ℕ Global)). before ++ joined it) is
    ∙ ap (λ x. before ++ x) (flat_map-append (λ (it : Vec ℕ Global). it.items) parts (last ∷ []) ∙ (λ i. lists i ++ (line i ++ [])))
    ∙ ap (λ x. x ++ (lists_text (map items_of fs) ++ codes "end\n")) head
    ∙ spelled_so ns fs
