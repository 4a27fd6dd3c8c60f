-- What is spelled so is read: the lines of a certificate lead from the start to its contents.
use Rattle.std.proofs.Common.{◌≡◌, ℕ, suc, ◌+◌, ◌-◌, ◌<◌, ◌≤◌, ◌^◌, true, false, List, [], ◌∷◌, ◌++◌, length, map, drop, take, refl, sym, ap, ◌∙◌, subst, arith, Option, Some, None, append_assoc, append-nil, ◌%◌, ne_eqb, length-append}
use Rattle.std.specs.Prelude.{◌==◌, codes, option_and_then, position}
use Rattle.std.specs.List.{AllByRecursion, flat_map, position_or_len}
use Rattle.std.specs.Fmt.{decimal}
use Rattle.std.proofs.lemmas.Bool.{lt-ltb}
use Rattle.std.proofs.lemmas.Fmt.{decimal_by_steps}
use Rattle.std.proofs.Math.Seq.{take-append_seam, drop-append-add}
use Rattle.sw_flow.specs.declared.place.Place.{Place}
use Rattle.sw_cert.specs.declared.lines.Expected.{Expected}
use Rattle.sw_cert.specs.declared.lines.Expected.TheVariants.{Channels, Numbers, Flows, Places, Nothing}
use Rattle.sw_cert.specs.declared.lines.Said.TheVariants as said
use Rattle.sw_cert.specs.Grammar.{place_of, place_line, after_word, block, head_lines, flow_lines, lines_of, HasText, Rises, stands_before, if_rising, Fits, IsBlock}
use Rattle.sw_cert.specs.Parts.{Runs}
use Rattle.sw_cert.specs.Reading.{State, next, last_of}
use Rattle.sw_cert.specs.Text.{at_first}
use Rattle.sw_text.proofs.Numbers.{spelled_read}
use Rattle.sw_cert.proofs.Fields.{field_read, after_read}
use Rattle.sw_cert.proofs.Runs.{runs_append}
use Rattle.sw_cert.proofs.Spelled.{last_or, last_is}
use Rattle.sw_machine.proofs.Load.{all_append}

abbrev pub at : Expected → List ℕ → List (List Place) → List Place → State
at e ns fs ps = record { expected = e; numbers = ns; flows = fs; open_block = ps }

number_next : (k v : ℕ) (xs : List ℕ) → v ≤ 65535 → next (at (Numbers (suc k)) xs [] []) (codes "number " ++ decimal v) ≡ Some (at (Numbers k) (xs ++ v ∷ []) [] [])
number_next k v xs le =
    let fewer : suc k - 1 ≡ k = omega arith in
    rw (field_read (codes "number ") 65535 v (omega arith) le) (ap (λ m. Some (at (Numbers m) (xs ++ v ∷ []) [] [])) fewer)

pub numbers_run : (xs vs : List ℕ) → AllByRecursion (λ v. v ≤ 65535) vs → Runs (at (Numbers (length vs)) xs [] []) (map (λ v. codes "number " ++ decimal v) vs) (at (Numbers 0) (xs ++ vs) [] [])
numbers_run xs [] h = ap (λ l. at (Numbers 0) l [] []) (sym (append-nil xs))
numbers_run xs (v ∷ vs) h = (
  at (Numbers (length vs)) (xs ++ v ∷ []) [] [],
  number_next (length vs) v xs h.0,
  subst (λ l. Runs (at (Numbers (length vs)) (xs ++ v ∷ []) [] []) (map (λ v. codes "number " ++ decimal v) vs) (at (Numbers 0) l [] [])) (append_assoc xs (v ∷ []) vs) (numbers_run (xs ++ v ∷ []) vs h.1),
)

no_space_digit : (d : ℕ) → d < 10 → ((48 + d) == 32) ≡ false
no_space_digit d lt = ne_eqb (48 + d) 32 (λ e. omega arith)

-- no space stands among the digits of a number
no_space : (n : ℕ) → n < 2 ^ 30 → AllByRecursion (λ b. (b == 32) ≡ false) (decimal n)
no_space n lt =
    decimal_by_steps (λ n ds. AllByRecursion (λ b. (b == 32) ≡ false) ds) (λ n low. (no_space_digit n low, tt))
    (λ n ds big h. all_append (λ b. (b == 32) ≡ false) ds ((48 + n % 10) ∷ []) h (no_space_digit (n % 10) (omega arith), tt)) n (omega arith)

first_at : (ds ys : List ℕ) → AllByRecursion (λ b. (b == 32) ≡ false) ds → position_or_len (λ b. b == 32) (ds ++ (32 ∷ ys)) ≡ length ds
first_at [] ys h = refl
first_at (d ∷ ds) ys h = rw h.0 (ap (λ n. 1 + n) (first_at ds ys h.1) ∙ omega arith)

space_at : (ds ys : List ℕ) → AllByRecursion (λ b. (b == 32) ≡ false) ds → position (λ b. b == 32) (ds ++ (32 ∷ ys)) ≡ Some (length ds)
space_at ds ys h =
    let within : length ds < length (ds ++ (32 ∷ ys)) = omega (arith, length-append ds (32 ∷ ys)) in
    rw (first_at ds ys h) (rw (lt-ltb _ _ within) refl)

place_read : (p : Place) → Fits p → place_of (decimal p.channel ++ (32 ∷ decimal p.deleted)) ≡ Some p
place_read p h =
    let a : take (length (decimal p.channel)) (decimal p.channel ++ (32 ∷ decimal p.deleted)) ≡ decimal p.channel = take-append_seam (decimal p.channel) (32 ∷ decimal p.deleted) in
    let b : drop (length (decimal p.channel) + 1) (decimal p.channel ++ (32 ∷ decimal p.deleted)) ≡ decimal p.deleted = drop-append-add (decimal p.channel) (32 ∷ decimal p.deleted) 1 in
    rw (space_at (decimal p.channel) (decimal p.deleted) (no_space p.channel (omega (arith, h.0))))
    (rw (a, b) (rw (spelled_read 65535 p.channel (omega arith) h.0, spelled_read 32 p.deleted (omega arith) h.1) refl))

place_said : (last : Option Place) (p : Place) → Fits p → stands_before last p ≡ true
    → option_and_then (if_rising last) (option_and_then place_of (after_word (codes "place ") (place_line p))) ≡ Some (said.Listed p)
place_said last p h r =
    ap (λ o. option_and_then (if_rising last) (option_and_then place_of o)) (after_read (codes "place ") (decimal p.channel ++ (32 ∷ decimal p.deleted)))
    ∙ ap (option_and_then (if_rising last)) (place_read p h)
    ∙ rw r refl

last_push : (o : Option Place) (ps : List Place) (q : Place) → last_or o (ps ++ q ∷ []) ≡ Some q
last_push o [] q = refl
last_push o (p ∷ ps) q = last_push (Some p) ps q

-- the places of a block
places_run : (k : ℕ) (ns : List ℕ) (fs : List (List Place)) (ps : List Place) (q : Place) (qs : List Place)
    → AllByRecursion Fits (q ∷ qs) → Rises (last_or None ps) (q ∷ qs)
    → Runs (at (Places (length qs) k) ns fs ps) (map place_line (q ∷ qs)) (at (Flows k) ns (fs ++ (ps ++ (q ∷ qs)) ∷ []) [])
places_run k ns fs ps q [] h r =
    let s = place_said (last_of ps) q h.0 (ap (λ o. stands_before o q) (last_is ps) ∙ r.0) in
    (at (Flows k) ns (fs ++ (ps ++ q ∷ []) ∷ []) [], rw s refl, refl)
places_run k ns fs ps q (p ∷ qs) h r =
    let s = place_said (last_of ps) q h.0 (ap (λ o. stands_before o q) (last_is ps) ∙ r.0) in (
      at (Places (length qs) k) ns fs (ps ++ q ∷ []),
      rw s refl,
      subst (λ x. Runs (at (Places (length qs) k) ns fs (ps ++ q ∷ [])) (map place_line (p ∷ qs)) (at (Flows k) ns (fs ++ x ∷ []) [])) (append_assoc ps (q ∷ []) (p ∷ qs))
          (places_run k ns fs (ps ++ q ∷ []) p qs h.1 (subst (λ o. Rises o (p ∷ qs)) (sym (last_push None ps q)) r.1)),
    )

pub block_run : (k : ℕ) (ns : List ℕ) (fs : List (List Place)) (ps : List Place) → IsBlock ps
    → Runs (at (Flows (suc k)) ns fs []) (block ps) (at (Flows k) ns (fs ++ ps ∷ []) [])
block_run k ns fs [] h =
    let fewer : suc k - 1 ≡ k = omega arith in
    (at (Flows k) ns (fs ++ [] ∷ []) [], rw (field_read (codes "flow ") 67584 0 (omega arith) (omega arith)) (ap (λ m. Some (at (Flows m) ns (fs ++ [] ∷ []) [])) fewer), refl)
block_run k ns fs (p ∷ ps) h =
    let fewer : suc k - 1 ≡ k = omega arith in (
      at (Places (length ps) k) ns fs [],
      rw (field_read (codes "flow ") 67584 (length (p ∷ ps)) (omega arith) h.0) (ap (λ m. Some (at (Places (length ps) m) ns fs [])) fewer),
      places_run k ns fs [] p ps h.1 h.2,
    )

blocks_run : (ns : List ℕ) (fs gs : List (List Place)) → AllByRecursion IsBlock gs
    → Runs (at (Flows (length gs)) ns fs []) (flat_map block gs) (at (Flows 0) ns (fs ++ gs) [])
blocks_run ns fs [] h = ap (λ l. at (Flows 0) ns l []) (sym (append-nil fs))
blocks_run ns fs (g ∷ gs) h =
    runs_append (at (Flows (suc (length gs))) ns fs []) (at (Flows (length gs)) ns (fs ++ g ∷ []) []) (at (Flows 0) ns (fs ++ (g ∷ gs)) []) (block g) (flat_map block gs)
    (block_run (length gs) ns fs g h.0)
    (subst (λ l. Runs (at (Flows (length gs)) ns (fs ++ g ∷ []) []) (flat_map block gs) (at (Flows 0) ns l [])) (append_assoc fs (g ∷ []) gs) (blocks_run ns (fs ++ g ∷ []) gs h.1))

-- all the lines of a certificate
pub lines_run : (ns : List ℕ) (fs : List (List Place)) → HasText ns fs → Runs at_first (lines_of ns fs) (at Nothing ns fs [])
lines_run ns fs h =
    let head : Runs at_first (head_lines (length ns) ns) (at (Numbers 0) ns [] []) = (
      at Channels [] [] [],
      refl,
      (at (Numbers (length ns)) [] [] [], rw (field_read (codes "channels ") 2048 (length ns) (omega arith) h.channels) refl, numbers_run [] ns h.numbers_fit),
    ) in
    let flows : Runs (at (Numbers 0) ns [] []) (flow_lines (length fs) fs) (at (Flows 0) ns fs []) =
    (at (Flows (length fs)) ns [] [], rw (field_read (codes "flows ") 8192 (length fs) (omega arith) h.few) refl, blocks_run ns [] fs h.blocks) in
    let end_line : Runs (at (Flows 0) ns fs []) (codes "end" ∷ []) (at Nothing ns fs []) = (at Nothing ns fs [], refl, refl) in
    runs_append at_first (at (Numbers 0) ns [] []) (at Nothing ns fs []) (head_lines (length ns) ns) (flow_lines (length fs) fs ++ codes "end" ∷ []) head
    (runs_append (at (Numbers 0) ns [] []) (at (Flows 0) ns fs []) (at Nothing ns fs []) (flow_lines (length fs) fs) (codes "end" ∷ []) flows end_line)
