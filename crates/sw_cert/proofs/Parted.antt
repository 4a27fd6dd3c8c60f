-- Lists of flows that are read by themselves are read so in their text.
use Rattle.std.proofs.Common.{◌≡◌, ℕ, suc, ◌+◌, ◌-◌, ◌≤◌, List, [], ◌∷◌, ◌++◌, length, map, take, drop, refl, sym, ap, ap₂, ◌∙◌, subst, arith, append_assoc, append-nil, zero-add}
use Rattle.std.specs.Prelude.{◌==◌, codes, All, IfSome, Option, Some, None, Vec}
use Rattle.std.specs.declared.alloc.Global.{Global}
use Rattle.std.specs.List.{AllByRecursion, AllZip, flat_map, join_with_byte, slice_split}
use Rattle.std.proofs.lemmas.List.Elements.{All-nil, All-cons}
use Rattle.std.specs.Fmt.{decimal}
use Rattle.std.proofs.lemmas.Fmt.{decimal_injective}
use Rattle.std.proofs.Math.Seq.{drop-append-add}
use Rattle.std.proofs.lemmas.Bool.{le-leb}
use Rattle.std.proofs.lemmas.List.{length-append, length-drop, length-map, length-take-le, map-append, nil_from_length, take-append-drop}
use Rattle.std.proofs.lemmas.List.Splits.{join_with_byte-slice_split, slice_split_at}
use Rattle.sw_flow.specs.declared.place.Place.{Place}
use Rattle.sw_cert.specs.declared.lines.Expected.{Expected}
use Rattle.sw_cert.specs.declared.lines.Expected.TheVariants.{Flows}
use Rattle.sw_cert.specs.Grammar.{IsBlock, block, flow_lines, head_lines, with_lf}
use Rattle.sw_cert.specs.Parts.{AreAdded, AreLists, IsRead, IsReadPart, IsWhole, Runs, part_of, read_rest}
use Rattle.sw_cert.specs.declared.parts.TextPart.{TextPart}
use Rattle.sw_cert.specs.declared.parts.Lists.{Lists}
use Rattle.sw_cert.specs.Reading.{State, items_of}
use Rattle.sw_cert.specs.Sound.{IsSound, Kept}
use Rattle.sw_cert.specs.Text.{before_lists, read_lines}
use Rattle.sw_cert.proofs.Cuts.{IsOneLine, blocks_are_lines, join_lines}
use Rattle.sw_cert.proofs.Runs.{runs_append, runs_kept, runs_read, some_piece}
use Rattle.sw_cert.proofs.Spelled.{lines_to, written}
use Rattle.sw_cert.proofs.Writes.{at, block_run}

-- ---- what a draft has read of a part

pub record SoFar (flows : ℕ) (text rest : List ℕ) (d : State) (count : ℕ) : Type 0 where
  pub seen : List (List ℕ)
  pub cut : slice_split (λ b. b == 10) text ≡ seen ++ slice_split (λ b. b == 10) rest
  pub counted : length seen ≡ count
  pub written : lines_to d ≡ lines_to (before_lists flows) ++ seen
  pub sound : IsSound d

so_far : (flows : ℕ) (text rest : List ℕ) (d : State) (count : ℕ) → flows ≤ 8192 → IsRead 0 (before_lists flows) text count d rest → SoFar flows text rest d count
so_far flows text rest d count few s =
    let sound : IsSound (before_lists flows) = record { kept = (omega arith, omega (arith, few), refl); numbers = tt; blocks = tt; fits = tt; rises = tt } in
    let kept = runs_kept (before_lists flows) d s.lines s.runs sound in
    record { seen = s.lines; cut = s.cut; counted = sym (zero-add (length s.lines)) ∙ s.counted; written = kept.0; sound = kept.1 }

same_tail : {A : Type 0} (x y : A) (xs ys : List A) → ◌≡◌ {A = List A} (x ∷ xs) (y ∷ ys) → xs ≡ ys
same_tail x y xs ys e = cc

same_head : {A : Type 0} (x y : A) (xs ys : List A) → ◌≡◌ {A = List A} (x ∷ xs) (y ∷ ys) → x ≡ y
same_head x y xs ys e = cc

-- the lines that follow the head of nothing but lists
only_lists : (ns : List ℕ) (fs : List (List Place)) (m n : ℕ) (seen : List (List ℕ)) → length ns ≤ 2048 → head_lines (length ns) ns ++ flow_lines m fs ≡ (head_lines 0 [] ++ flow_lines n []) ++ seen → seen ≡ flat_map block fs
only_lists ns fs m n seen few e =
    let rest = same_tail _ _ _ _ e in
    let channels : codes "channels " ++ decimal (length ns) ≡ codes "channels " ++ decimal 0 = same_head _ _ _ _ rest in
    let none : length ns ≡ 0 = decimal_injective (length ns) 0 (omega (arith, few)) (omega arith) (after_word channels) in
    let empty : ns ≡ [] = nil_from_length ns none in
    let lists : flow_lines m fs ≡ (codes "flows " ++ decimal n) ∷ seen = ap (λ l. map (λ v. codes "number " ++ decimal v) l ++ flow_lines m fs) (sym empty) ∙ same_tail _ _ _ _ rest in
    sym (same_tail _ _ _ _ lists)
  where
    after_word : codes "channels " ++ decimal (length ns) ≡ codes "channels " ++ decimal 0 → decimal (length ns) ≡ decimal 0
    after_word e = ap (drop 9) e

pub whole_lists : (flows : ℕ) (text : List ℕ) (d : State) (count left : ℕ) → SoFar flows text [] d count → d.expected ≡ Flows left → AreLists text d.flows count
whole_lists flows text d count left s is =
    let kept = subst (λ x. Kept x d.numbers d.flows d.open_block) is s.sound.kept in
    let lines = ap (λ x. written x d.numbers d.flows d.open_block) (sym is) ∙ s.written in
    let seen : s.seen ≡ flat_map block d.flows = only_lists d.numbers d.flows (length d.flows + left) (0 + flows) s.seen kept.0 lines in
    record {
      spelled = sym (join_with_byte-slice_split 10 text) ∙ ap (join_with_byte 10) s.cut ∙ join_lines s.seen ∙ ap (flat_map with_lf) seen;
      blocks = s.sound.blocks;
      counted = sym s.counted ∙ ap length seen;
    }

-- ---- lists in a text

-- lines before a text are cut from it
lines_before : (lines : List (List ℕ)) (tail : List ℕ) → AllByRecursion IsOneLine lines → slice_split (λ b. b == 10) (flat_map with_lf lines ++ tail) ≡ lines ++ slice_split (λ b. b == 10) tail
lines_before [] tail h = refl
lines_before (l ∷ ls) tail h =
    ap (slice_split (λ b. b == 10)) (append_assoc (l ++ 10 ∷ []) (flat_map with_lf ls) tail ∙ append_assoc l (10 ∷ []) (flat_map with_lf ls ++ tail))
    ∙ slice_split_at (λ b. b == 10) l 10 (flat_map with_lf ls ++ tail) h.0 refl
    ∙ ap (λ x. l ∷ x) (lines_before ls tail h.1)

-- lists of flows lead on, whatever was read before them and however many are still to come
blocks_on : (k : ℕ) (ns : List ℕ) (fs gs : List (List Place)) → AllByRecursion IsBlock gs
    → Runs (at (Flows (length gs + k)) ns fs []) (flat_map block gs) (at (Flows k) ns (fs ++ gs) [])
blocks_on k ns fs [] h = ap₂ (λ m l. at (Flows m) ns l []) (zero-add k) (sym (append-nil fs))
blocks_on k ns fs (g ∷ gs) h =
    let more : length (g ∷ gs) + k ≡ suc (length gs + k) = omega arith in
    subst (λ m. Runs (at (Flows m) ns fs []) (flat_map block (g ∷ gs)) (at (Flows k) ns (fs ++ (g ∷ gs)) [])) (sym more)
    (runs_append (at (Flows (suc (length gs + k))) ns fs []) (at (Flows (length gs + k)) ns (fs ++ g ∷ []) []) (at (Flows k) ns (fs ++ (g ∷ gs)) []) (block g) (flat_map block gs)
    (block_run (length gs + k) ns fs g h.0)
    (subst (λ l. Runs (at (Flows (length gs + k)) ns (fs ++ g ∷ []) []) (flat_map block gs) (at (Flows k) ns l [])) (append_assoc fs (g ∷ []) gs) (blocks_on k ns (fs ++ g ∷ []) gs h.1)))

over_lists : (n : ℕ) (d e : State) (part tail : List ℕ) (flows : List (List Place)) (count : ℕ) → IsSound d → AreLists part flows count → AreAdded flows d e
    → (read_rest (n + count) e tail ≡ read_rest n d (part ++ tail)) × IsSound e
over_lists n d e part tail flows count s l a =
    let ex : d.expected ≡ Flows (length flows + a.left) = a.expected ∙ ap Flows (let fewer = a.fewer in omega (arith, fewer)) in
    let ob : d.open_block ≡ [] = (subst (λ x. Kept x d.numbers d.flows d.open_block) a.expected s.kept).2 in
    let from : at (Flows (length flows + a.left)) d.numbers d.flows [] ≡ d = λ i. record { expected = sym ex i; numbers = d.numbers; flows = d.flows; open_block = sym ob i } in
    let to : at (Flows a.left) d.numbers (d.flows ++ flows) [] ≡ e = (λ i. record { expected = Flows a.left; numbers = d.numbers; flows = d.flows ++ flows; open_block = sym ob i }) ∙ sym a.is in
    let runs : Runs d (flat_map block flows) e = subst (λ f. Runs f (flat_map block flows) e) from (subst (λ f. Runs (at (Flows (length flows + a.left)) d.numbers d.flows []) (flat_map block flows) f) to (blocks_on a.left d.numbers d.flows flows l.blocks)) in
    let pieces : List (List ℕ) = slice_split (λ b. b == 10) tail in
    let r = runs_read n d e (flat_map block flows) pieces runs (some_piece tail) in
    let cut : slice_split (λ b. b == 10) (part ++ tail) ≡ flat_map block flows ++ pieces = ap (λ x. slice_split (λ b. b == 10) (x ++ tail)) l.spelled ∙ lines_before (flat_map block flows) tail (blocks_are_lines flows l.blocks) in
    (ap (λ m. read_lines (n + m) e pieces) l.counted ∙ sym r ∙ ap (read_lines n d) (sym cut), (runs_kept d e (flat_map block flows) runs s).1)

-- each line has a byte at least, its LF
lines_long : (lines : List (List ℕ)) → length lines ≤ length (flat_map with_lf lines)
lines_long [] = omega arith
lines_long (l ∷ ls) =
    let rest = lines_long ls in
    omega (arith, rest, length-append (l ++ 10 ∷ []) (flat_map with_lf ls), length-append l (10 ∷ []))

pub few_lines : (text : List ℕ) (flows : List (List Place)) (count : ℕ) → AreLists text flows count → count ≤ length text
few_lines text flows count l =
    let counted = l.counted in
    let same : length text ≡ length (flat_map with_lf (flat_map block flows)) = ap length l.spelled in
    omega (arith, counted, same, lines_long (flat_map block flows))

-- ---- as code finds them

part_read : (flows : ℕ) (text rest : List ℕ) (p : TextPart) (d : State) (count : ℕ) (o : Option Lists) → SoFar flows (part_of text p) rest d count → IfSome o (IsWhole d rest p count) → IfSome o (IsReadPart text)
part_read flows text rest p d count None s w = tt
part_read flows text rest p d count (Some l) s w =
    let whole = whole_lists flows (part_of text p) d count w.left (subst (λ r. SoFar flows (part_of text p) r d count) w.ended s) w.whole in
    subst (λ q. AreLists (part_of text q) (map items_of l.flows.items) l.lines) (sym w.part)
    (subst (λ fs. AreLists (part_of text p) fs l.lines) (sym w.flows) (subst (λ n. AreLists (part_of text p) d.flows n) (sym w.lines) whole))

-- a part that was read to its end
pub part_found : (flows : ℕ) (text bytes rest : List ℕ) (p : TextPart) (d : State) (count : ℕ) (o : Option Lists) → flows ≤ 8192 → p.begin ≤ p.end → p.end ≤ length text
    → bytes ≡ take (p.end - p.begin) (drop p.begin text) → IsRead 0 (before_lists flows) bytes count d rest → IfSome o (IsWhole d rest p count) → IfSome o (IsReadPart text)
part_found flows text bytes rest p d count o few le within is read whole =
    let part : part_of text p ≡ take (p.end - p.begin) (drop p.begin text) = rw (le-leb p.begin p.end le, le-leb p.end (length text) within) refl in
    part_read flows text rest p d count o (so_far flows (part_of text p) rest d count few (subst (λ x. IsRead 0 (before_lists flows) x count d rest) (is ∙ sym part) read)) whole

drop_more : (at k : ℕ) (text : List ℕ) → at ≤ length text → drop (at + k) text ≡ drop k (drop at text)
drop_more at k text le =
    let long : length (take at text) ≡ at = length-take-le at text le in
    ap₂ (λ n (l : List ℕ). drop (n + k) l) (sym long) (sym (take-append-drop at text)) ∙ drop-append-add (take at text) (drop at text) k

-- the text from the beginning of a part on is the part and what stands after it
part_before : (text : List ℕ) (p : TextPart) (at : ℕ) → p.begin ≡ at → at ≤ p.end → p.end ≤ length text → (part_of text p ++ drop p.end text ≡ drop at text) × (length (part_of text p) ≡ p.end - at)
part_before text p at is le within =
    let rest : List ℕ = drop at text in
    let long : length rest ≡ length text - at = length-drop at text in
    let size : p.end - at ≤ length rest = omega (arith, long) in
    let end : at + (p.end - at) ≡ p.end = omega arith in
    let inside : at ≤ length text = omega arith in
    let part : part_of text p ≡ take (p.end - at) rest = rw (is, le-leb at p.end le, le-leb p.end (length text) within) refl in (
      ap (λ l. l ++ drop p.end text) part ∙ ap (λ n. take (p.end - at) rest ++ drop n text) (sym end) ∙ ap (λ l. take (p.end - at) rest ++ l) (drop_more at (p.end - at) text inside) ∙ take-append-drop (p.end - at) rest,
      ap length part ∙ length-take-le (p.end - at) rest size,
    )

-- a part whose lists were added, and which begins where the reading stands
pub part_taken : (n : ℕ) (d e : State) (text : List ℕ) (l : Lists) (at : ℕ) → IsSound d → IsReadPart text l → l.part.begin ≡ at → at ≤ l.part.end → l.part.end ≤ length text → AreAdded (map items_of l.flows.items) d e
    → (read_rest (n + l.lines) e (drop l.part.end text) ≡ read_rest n d (drop at text)) × IsSound e
part_taken n d e text l at s read begins le within added =
    let over = over_lists n d e (part_of text l.part) (drop l.part.end text) (map items_of l.flows.items) l.lines s read added in
    (over.0 ∙ ap (read_rest n d) (part_before text l.part at begins le within).0, over.1)

-- lists that were appended
pub appended : (before n : ℕ) (e : Expected) (ns : List ℕ) (ps : List Place) (fs gs hs : List (Vec Place Global)) → e ≡ Flows before → n ≡ length gs → n ≤ before → hs ≡ fs ++ gs
    → AreAdded (map items_of gs) (record { expected = e; numbers = ns; flows = map items_of fs; open_block = ps }) (record { expected = Flows (before - n); numbers = ns; flows = map items_of hs; open_block = ps })
appended before n e ns ps fs gs hs is count few added = record {
  before = before;
  left = before - n;
  expected = is;
  fewer = omega (arith, count, few, length-map gs items_of);
  is = ap (λ (l : List (List Place)). record { expected = Flows (before - n); numbers = ns; flows = l; open_block = ps }) (ap (map items_of) added ∙ map-append items_of fs gs);
}

pub few_in_part : (text : List ℕ) (l : Lists) (at : ℕ) → IsReadPart text l → l.part.begin ≡ at → at ≤ l.part.end → l.part.end ≤ length text → l.lines ≤ l.part.end - at
few_in_part text l at read begins le within =
    let few = few_lines (part_of text l.part) (map items_of l.flows.items) l.lines read in
    omega (arith, few, (part_before text l.part at begins le within).1)

-- the lists that were read of a part
pub read_here : (text : List ℕ) (lists : Option Lists) (l : Lists) → lists ≡ Some l → IfSome lists (IsReadPart text) → IsReadPart text l
read_here text lists l is read = subst (λ (o : Option Lists). IfSome o (IsReadPart text)) is read

-- what was made for each number is as asked
pub all_made : {X Y : Type 0} (P : Y → Type 0) (xs : List X) (ys : List Y) → AllZip (λ x y. P y) xs ys → All P ys
all_made P [] [] h = All-nil P
all_made P [] (y ∷ ys) h = absurd h
all_made P (x ∷ xs) [] h = All-nil P
all_made P (x ∷ xs) (y ∷ ys) h = All-cons P y ys h.0 (all_made P xs ys h.1)
