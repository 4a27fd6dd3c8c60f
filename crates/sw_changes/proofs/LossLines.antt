-- The lines of links, one after another.
use Rattle.std.proofs.Common.{◌≡◌, ◌∙◌, ℕ, ◌+◌, ◌*◌, ◌<◌, ◌≤◌, List, Vec, Global, [], ◌∷◌, ◌++◌, ap, append-nil, append_assoc, arith, codes, get_or, length, map, refl, sym, take}
use Rattle.std.specs.List.{flat_map}
use Rattle.std.proofs.lemmas.List.{length-map, length-take-le, map-append, take_all, take_more}
use Rattle.sw_config.specs.Entries.{Declaration}
use Rattle.sw_margin.specs.declared.bend.Bend.{Bend}
use Rattle.sw_margin.specs.declared.bend.FlowLimit.{FlowLimit}
use Rattle.sw_margin.specs.declared.bend.Margins.{Margins}
use Rattle.sw_output.specs.ChannelTexts.{channel_text}
use Rattle.sw_changes.specs.MarginTexts.{answer_line, flows_words, limit_line, loss_line, loss_lines, margin_text, stall_line}
use Rattle.sw_explain.proofs.ExplainedTexts.{line_then}

abbrev pub items_of : Vec ℕ Global → List ℕ
items_of flows = flows.items

loss_lines_push : (d : Declaration) (n m : ℕ) (losses : List (List ℕ)) (flows : List ℕ) → n + length losses ≡ m
    → loss_lines d n (losses ++ flows ∷ []) ≡ loss_lines d n losses ++ loss_line d m flows
loss_lines_push d n m [] flows is =
    let same : n ≡ m = omega arith in
    append-nil (loss_line d n flows) ∙ ap (λ k. loss_line d k flows) same
loss_lines_push d n m (first ∷ losses) flows is =
    ap (λ l. loss_line d n first ++ l) (loss_lines_push d (n + 1) m losses flows (omega arith))
    ∙ sym (append_assoc (loss_line d n first) (loss_lines d (n + 1) losses) (loss_line d m flows))

-- the line of one link more, behind what stands there
pub loss_lines_more : (d : Declaration) (i : ℕ) (rows : List (Vec ℕ Global)) (flows : Vec ℕ Global) (start before line after : List ℕ) → i < length rows
    → flows ≡ get_or rows i flows → before ≡ start ++ loss_lines d 0 (map items_of (take i rows)) → line ≡ loss_line d i flows.items → after ≡ before ++ line
    → after ≡ start ++ loss_lines d 0 (map items_of (take (i + 1) rows))
loss_lines_more d i rows flows start before line after lt at so_far is more =
    let cut : take (i + 1) rows ≡ take i rows ++ flows ∷ [] = take_more rows i flows lt ∙ ap (λ q. take i rows ++ q ∷ []) (sym at) in
    let parts : map items_of (take (i + 1) rows) ≡ map items_of (take i rows) ++ flows.items ∷ [] =
    ap (map items_of) cut ∙ map-append items_of (take i rows) (flows ∷ []) in
    let size : 0 + length (map items_of (take i rows)) ≡ i =
    omega (arith, length-map (take i rows) items_of, length-take-le i rows (omega arith)) in
    let so_many : List ℕ = loss_lines d 0 (map items_of (take i rows)) in
    more ∙ ap (λ l. l ++ line) so_far ∙ append_assoc start so_many line ∙ ap (λ l. start ++ (so_many ++ l)) is
    ∙ ap (λ l. start ++ l) (sym (loss_lines_push d 0 i (map items_of (take i rows)) flows.items size) ∙ ap (loss_lines d 0) (sym parts))

-- the lines of all links, behind what stands there
pub all_losses : (d : Declaration) (rows : List (Vec ℕ Global)) (i : ℕ) (start text : List ℕ) → length rows ≤ i → text ≡ start ++ loss_lines d 0 (map items_of (take i rows))
    → text ≡ start ++ loss_lines d 0 (map items_of rows)
all_losses d rows i start text ended so_far = so_far ∙ ap (λ l. start ++ loss_lines d 0 (map items_of l)) (take_all i rows ended)

four_parts : (x y w z : List ℕ) → ((x ++ y) ++ w) ++ z ≡ x ++ (y ++ (w ++ z))
four_parts x y w z = append_assoc (x ++ y) w z ∙ append_assoc x y (w ++ z)

-- a text that the lines of four lists were added to, one after another
pub four_lists : (d : Declaration) (stalls answers : List Bend) (limits : List FlowLimit) (losses : List (Vec ℕ Global)) (told : Margins) (start first second third fourth : List ℕ) → start ≡ []
    → stalls ≡ told.stalls.items → answers ≡ told.answers.items → limits ≡ told.limits.items → losses ≡ told.losses.items
    → first ≡ start ++ flat_map (stall_line d) stalls → second ≡ first ++ flat_map (answer_line d) answers → third ≡ second ++ flat_map (limit_line d) limits
    → fourth ≡ third ++ loss_lines d 0 (map items_of losses) → fourth ≡ margin_text d told
four_lists d stalls answers limits losses told start first second third fourth none stalls_are answers_are limits_are losses_are first_is second_is third_is fourth_is =
    let x = flat_map (stall_line d) stalls in
    let y = flat_map (answer_line d) answers in
    let w = flat_map (limit_line d) limits in
    let z = loss_lines d 0 (map items_of losses) in
    fourth_is ∙ ap (λ l. l ++ z) (third_is ∙ ap (λ l. l ++ w) (second_is ∙ ap (λ l. l ++ y) (first_is ∙ ap (λ l. l ++ x) none))) ∙ four_parts x y w z
    ∙ ap (λ (s : List Bend). flat_map (stall_line d) s ++ (y ++ (w ++ z))) stalls_are
    ∙ ap (λ (a : List Bend). flat_map (stall_line d) told.stalls.items ++ (flat_map (answer_line d) a ++ (w ++ z))) answers_are
    ∙ ap (λ (m : List FlowLimit). flat_map (stall_line d) told.stalls.items ++ (flat_map (answer_line d) told.answers.items ++ (flat_map (limit_line d) m ++ z))) limits_are
    ∙ ap (λ (l : List (Vec ℕ Global)). flat_map (stall_line d) told.stalls.items ++ (flat_map (answer_line d) told.answers.items ++ (flat_map (limit_line d) told.limits.items ++ loss_lines d 0 (map items_of l)))) losses_are

-- the line of a link with its flows
loss_told : (d : Declaration) (link : ℕ) (flows name words : List ℕ) → name ≡ channel_text d (2 * link) → words ≡ flows_words d flows
    → loss_line d link flows ≡ codes "lost without the link " ++ (name ++ (codes ": " ++ (words ++ codes "\n")))
loss_told d link flows name words name_is words_are =
    let end : List ℕ = flows_words d flows ++ codes "\n" in
    ap (λ l. codes "lost without the link " ++ l) (append_assoc (channel_text d (2 * link)) (codes ":") (codes " " ++ end)
    ∙ ap (λ l. l ++ (codes ": " ++ end)) (sym name_is) ∙ ap (λ l. name ++ (codes ": " ++ (l ++ codes "\n"))) (sym words_are))

-- the line of a link, and then its flows
pub loss_ended : (d : Declaration) (link : ℕ) (flows name old first : List ℕ) → name ≡ channel_text d (2 * link)
    → first ≡ old ++ (codes "lost without the link " ++ (name ++ codes ": ")) → first ++ (flows_words d flows ++ codes "\n") ≡ old ++ loss_line d link flows
loss_ended d link flows name old first name_is first_is =
    let end : List ℕ = flows_words d flows ++ codes "\n" in
    ap (λ l. l ++ end) first_is ∙ line_then old (codes "lost without the link ") name (codes ": ") end
    ∙ ap (λ l. old ++ l) (sym (loss_told d link flows name (flows_words d flows) name_is refl))

-- words, a name and what ends a line
pub words_told : (words name end said named : List ℕ) → words ≡ said → name ≡ named → words ++ (codes " " ++ (name ++ end)) ≡ said ++ (codes " " ++ (named ++ end))
words_told words name end said named words_are name_is = ap (λ l. l ++ (codes " " ++ (name ++ end))) words_are ∙ ap (λ l. said ++ (codes " " ++ (l ++ end))) name_is
