-- Texts by the pieces that they are made of.
use Rattle.std.proofs.Common.{◌≡◌, ◌∙◌, ◌<◌, ◌≤◌, ℕ, suc, zero, ◌+◌, ◌-◌, All, Bool, List, [], ◌∷◌, ◌++◌, Vec, Global, ap, append_assoc, arith, codes, drop, get_or, length, refl, subst, sym, take}
use Rattle.std.specs.Prelude.{Option, Some, None, if◌then◌else◌}
use Rattle.std.specs.Fmt.{decimal}
use Rattle.std.specs.List.{flat_map, range_with_len}
use Rattle.std.proofs.Math.Dec.{eqb-suc-zero}
use Rattle.std.proofs.lemmas.Bool.{le-ltb, lt-ltb}
use Rattle.std.proofs.lemmas.List.{take_all}
use Rattle.std.proofs.lemmas.List.Elements.{All-get_or}
use Rattle.sw_config.specs.Entries.{Declaration}
use Rattle.sw_cycle.specs.Cycles.{CycleEntry}
use Rattle.sw_flow.specs.declared.fault.RouteFault.{RouteFault}
use Rattle.sw_flow.specs.declared.place.Place.{Place}
use Rattle.sw_graph.specs.Rows.{row}
use Rattle.sw_output.specs.ChannelTexts.{channel_text}
use Rattle.sw_output.specs.FlowTexts.{flow_name, route_fault_text}
use Rattle.sw_output.proofs.EachLine.{numbered_more}
use Rattle.sw_search.specs.declared.tangle.Tangle.{Tangle}
use Rattle.sw_explain.specs.ExplainTexts.{allowed_text, counted, counts_text, cycle_line, ending, fault_line, fault_words, flows_text, listed, misrouted_line, misrouted_text, more_text, named, names_text, numbered, place_words, replies_noun, replies_text, step_line, step_lines, step_text, tangle_text, tangles_text, total_line, way_line, way_lines, way_lines_from}

-- each of some things has it
pub each_is : {X : Type 0} (P : X → Type 0) (xs : List X) (i : ℕ) (x : X) → i < length xs → x ≡ get_or xs i x → All P xs → P x
each_is P xs i x lt is all = subst P (sym is) (All-get_or P xs i x lt all)

-- a number of things in the midst of a text
counted_then : (n : ℕ) (noun rest : List ℕ) → counted n noun ++ rest ≡ decimal n ++ (codes " " ++ ((noun ++ ending n) ++ rest))
counted_then n noun rest = append_assoc (decimal n) (codes " " ++ (noun ++ ending n)) rest

numbered_then : (before : ℕ) (rest : List ℕ) → numbered before ++ rest ≡ decimal (before + 1) ++ (codes "." ++ rest)
numbered_then before rest = append_assoc (decimal (before + 1)) (codes ".") rest

place_told : (d : Declaration) (p : Place) (channel end : List ℕ) → channel ≡ channel_text d p.channel → end ≡ ending p.deleted
    → place_words d p ≡ channel ++ (codes ", with " ++ (decimal p.deleted ++ (codes " address byte" ++ (end ++ codes " deleted"))))
place_told d p channel end channel_is end_is =
    rw (channel_is, end_is) (ap (λ l. channel_text d p.channel ++ (codes ", with " ++ l)) (counted_then p.deleted (codes "address byte") (codes " deleted")))

place_line : (d : Declaration) (p : Place) (channel end : List ℕ) → channel ≡ channel_text d p.channel → end ≡ ending p.deleted
    → place_words d p ++ codes "\n" ≡ channel ++ (codes ", with " ++ (decimal p.deleted ++ (codes " address byte" ++ (end ++ codes " deleted\n"))))
place_line d p channel end channel_is end_is =
    let deleted : List ℕ = codes " address byte" ++ (end ++ codes " deleted") in
    ap (λ l. l ++ codes "\n") (place_told d p channel end channel_is end_is)
    ∙ append_assoc channel (codes ", with " ++ (decimal p.deleted ++ deleted)) (codes "\n")
    ∙ ap (λ l. channel ++ (codes ", with " ++ l)) (append_assoc (decimal p.deleted) deleted (codes "\n")
    ∙ ap (λ l. decimal p.deleted ++ (codes " address byte" ++ l)) (append_assoc end (codes " deleted") (codes "\n")))

pub way_told : (d : Declaration) (flow before : ℕ) (p : Place) (name channel end : List ℕ) → name ≡ flow_name d flow → channel ≡ channel_text d p.channel → end ≡ ending p.deleted
    → way_line d flow before p
    ≡ decimal (before + 1) ++ (codes ". a packet of " ++ (name ++ (codes " goes on " ++ (channel ++ (codes ", with " ++ (decimal p.deleted ++ (codes " address byte" ++ (end ++ codes " deleted\n"))))))))
way_told d flow before p name channel end name_is channel_is end_is =
    numbered_then before (codes " a packet of " ++ (flow_name d flow ++ (codes " goes on " ++ (place_words d p ++ codes "\n"))))
    ∙ ap (λ l. decimal (before + 1) ++ (codes ". a packet of " ++ (l ++ (codes " goes on " ++ (place_words d p ++ codes "\n"))))) (sym name_is)
    ∙ ap (λ l. decimal (before + 1) ++ (codes ". a packet of " ++ (name ++ (codes " goes on " ++ l)))) (place_line d p channel end channel_is end_is)

-- the line of one place more
pub way_more : (d : Declaration) (flow i : ℕ) (way : List Place) (p : Place) (before after : List ℕ) → i < length way → p ≡ get_or way i p
    → before ≡ misrouted_line d flow ++ way_lines_from d flow 0 (take i way) → after ≡ before ++ way_line d flow i p
    → after ≡ misrouted_line d flow ++ way_lines_from d flow 0 (take (i + 1) way)
way_more d flow i way p before after lt at so_far more =
    let start : List ℕ = misrouted_line d flow in
    let lines : List ℕ = way_lines_from d flow 0 (take i way) in
    let here : List ℕ = way_line d flow i p in
    more ∙ ap (λ l. l ++ here) so_far ∙ append_assoc start lines here
    ∙ ap (λ l. start ++ l) (numbered_more (way_line d flow) (way_lines_from d flow) (λ n. refl) (λ n q qs. refl) i way p lines here (lines ++ here) lt at refl refl refl)

pub misrouted_told : (d : Declaration) (flow : ℕ) (fault : RouteFault) (way : List Place) (i : ℕ) (which words before after : List ℕ) → length way ≤ i
    → which ≡ route_fault_text fault → words ≡ fault_words fault → before ≡ misrouted_line d flow ++ way_lines_from d flow 0 (take i way)
    → after ≡ before ++ (which ++ (codes ": " ++ (words ++ codes "\n"))) → after ≡ misrouted_text d flow fault way
misrouted_told d flow fault way i which words before after ended which_is words_are so_far more =
    let lines : List ℕ = way_lines d flow way in
    let last : which ++ (codes ": " ++ (words ++ codes "\n")) ≡ fault_line fault =
    rw (which_is, words_are) (sym (append_assoc (route_fault_text fault) (codes ":") (codes " " ++ (fault_words fault ++ codes "\n")))) in
    more ∙ ap (λ l. l ++ (which ++ (codes ": " ++ (words ++ codes "\n")))) (so_far ∙ ap (λ places. misrouted_line d flow ++ way_lines_from d flow 0 places) (take_all i way ended))
    ∙ append_assoc (misrouted_line d flow) lines (which ++ (codes ": " ++ (words ++ codes "\n"))) ∙ ap (λ l. misrouted_line d flow ++ (lines ++ l)) last

step_told : (d : Declaration) (all : Bool) (cycle : CycleEntry) (rows : List (Vec ℕ Global)) (i : ℕ) (step flows : List ℕ)
    → step ≡ step_text d all cycle i → flows ≡ flows_text d all (row rows i)
    → step_line d all cycle rows i ≡ decimal (i + 1) ++ (codes ". " ++ (step ++ (flows ++ codes "\n")))
step_told d all cycle rows i step flows step_is flows_are =
    rw (step_is, flows_are) (numbered_then i (codes " " ++ (step_text d all cycle i ++ (flows_text d all (row rows i) ++ codes "\n"))))

pub line_then : (old number dot words rest : List ℕ) → (old ++ (number ++ (dot ++ words))) ++ rest ≡ old ++ (number ++ (dot ++ (words ++ rest)))
line_then old number dot words rest = simp append_assoc

-- a step's words, and then its flows
pub step_ended : (d : Declaration) (all : Bool) (cycle : CycleEntry) (rows : List (Vec ℕ Global)) (i : ℕ) (words flows old first : List ℕ)
    → words ≡ step_text d all cycle i → flows ≡ row rows i → first ≡ old ++ (decimal (i + 1) ++ (codes ". " ++ words))
    → first ++ (flows_text d all flows ++ codes "\n") ≡ old ++ step_line d all cycle rows i
step_ended d all cycle rows i words flows old first words_are flows_are first_is =
    let rest = flows_text d all flows ++ codes "\n" in
    ap (λ l. l ++ rest) first_is ∙ line_then old (decimal (i + 1)) (codes ". ") words rest
    ∙ ap (λ l. old ++ l) (sym (step_told d all cycle rows i words (flows_text d all flows) words_are (ap (flows_text d all) flows_are)))

-- the line of how many channels a tangle's cycle has, and then its steps
pub tangle_added : (d : Declaration) (all : Bool) (t : Tangle) (n : ℕ) (end start first after : List ℕ) → n ≡ length t.cycle.channels → end ≡ ending n
    → first ≡ start ++ (codes "shortest cycle: " ++ (decimal n ++ (codes " channel" ++ (end ++ codes "\n")))) → after ≡ first ++ step_lines d all t.cycle t.flows.items
    → after ≡ start ++ tangle_text d all t
tangle_added d all t n end start first after n_is end_is first_is after_is =
    let head = cycle_line (length t.cycle.channels) in
    let told : codes "shortest cycle: " ++ (decimal n ++ (codes " channel" ++ (end ++ codes "\n"))) ≡ head =
    rw (end_is, n_is) (ap (λ l. codes "shortest cycle: " ++ l) (sym (counted_then (length t.cycle.channels) (codes "channel") (codes "\n")))) in
    let steps = step_lines d all t.cycle t.flows.items in
    after_is ∙ ap (λ l. l ++ steps) (first_is ∙ ap (λ l. start ++ l) told) ∙ append_assoc start head steps

total_line_is : (before total noun end of counts last : List ℕ)
    → ((before ++ (total ++ (noun ++ (end ++ of)))) ++ counts) ++ last ≡ before ++ (total ++ (noun ++ (end ++ (of ++ (counts ++ last)))))
total_line_is before total noun end of counts last = simp append_assoc

pub tangles_told : (d : Declaration) (all : Bool) (ts : List Tangle) (i n : ℕ) (end before first second after : List ℕ) → length ts ≤ i → n ≡ length ts → end ≡ ending n
    → before ≡ flat_map (tangle_text d all) (take i ts) → first ≡ before ++ (decimal n ++ (codes " tangle" ++ (end ++ codes " of "))) → second ≡ first ++ counts_text ts
    → after ≡ second ++ codes " channels; buffers and arbiters do not change this, limits on unanswered commands may\n" → after ≡ tangles_text d all ts
tangles_told d all ts i n end before first second after ended n_is end_is so_far first_is second_is after_is =
    let rest = codes " channels; buffers and arbiters do not change this, limits on unanswered commands may\n" in
    let last : decimal n ++ (codes " tangle" ++ (end ++ (codes " of " ++ (counts_text ts ++ rest)))) ≡ total_line ts =
    rw (end_is, n_is) (sym (counted_then (length ts) (codes "tangle") (codes " of " ++ (counts_text ts ++ rest)))) in
    after_is ∙ ap (λ l. l ++ rest) (second_is ∙ ap (λ l. l ++ counts_text ts) first_is)
    ∙ total_line_is before (decimal n) (codes " tangle") end (codes " of ") (counts_text ts) rest
    ∙ ap (λ l. before ++ l) last ∙ ap (λ l. l ++ total_line ts) (so_far ∙ ap (flat_map (tangle_text d all)) (take_all i ts ended))

-- words with two channels among them
pub parts_told : (before name held wanted from to c e said : List ℕ) → from ≡ c → to ≡ e → before ++ (name ++ (held ++ (c ++ (wanted ++ e)))) ≡ said
    → said ≡ before ++ (name ++ (held ++ (from ++ (wanted ++ to))))
parts_told before name held wanted from to c e said from_is to_is is =
    sym is ∙ ap (λ l. before ++ (name ++ (held ++ (l ++ (wanted ++ e))))) (sym from_is) ∙ ap (λ l. before ++ (name ++ (held ++ (from ++ (wanted ++ l))))) (sym to_is)

-- the lines of all numbers, behind what stands there
pub all_numbered : (line : ℕ → List ℕ) (start : List ℕ) (i count n : ℕ) (text : List ℕ) → count ≤ i → i ≤ count → count ≡ n
    → text ≡ start ++ flat_map line (range_with_len 0 i) → text ≡ start ++ flat_map line (range_with_len 0 n)
all_numbered line start i count n text ended most is so_far =
    let same : i ≡ n = omega (arith, ended, most, is) in
    so_far ∙ ap (λ k. start ++ flat_map line (range_with_len 0 k)) same

-- ---- the flows that make a step

pub none_more : (n : ℕ) (end : List ℕ) → n ≡ 0 → more_text n ++ end ≡ end
none_more n end is = ap (λ k. more_text k ++ end) is

pub some_more : (n : ℕ) (end : List ℕ) → (n ≡ 0 → ⊥) → more_text n ++ end ≡ codes " and " ++ (decimal n ++ (codes " more" ++ end))
some_more zero end some = absurd (some refl)
some_more (suc n) end some =
    ap (λ b. (if b then [] else codes " and " ++ (decimal (suc n) ++ codes " more")) ++ end) (eqb-suc-zero n)
    ∙ ap (λ l. codes " and " ++ l) (append_assoc (decimal (suc n)) (codes " more") end)

pub few_told : (d : Declaration) (all : Bool) (flows : List ℕ) → length flows < 2 → codes "\n" ≡ flows_text d all flows ++ codes "\n"
few_told d all flows few = sym (ap (λ b. (if b then [] else codes " (flows " ++ listed (flow_name d) all flows) ++ codes "\n") (lt-ltb (length flows) 2 few))

flows_told : (d : Declaration) (all : Bool) (flows chosen : List ℕ) → 2 ≤ length flows → chosen ≡ named all flows
    → flows_text d all flows ≡ codes " (flows " ++ (names_text d chosen ++ (more_text (length flows - length chosen) ++ codes ")"))
flows_told d all flows chosen many chosen_is =
    let of : List ℕ → List ℕ = λ l. codes " (flows " ++ (names_text d l ++ (more_text (length flows - length l) ++ codes ")")) in
    ap (λ b. if b then [] else of (named all flows)) (le-ltb (length flows) 2 many) ∙ ap of (sym chosen_is)

flows_then : (old head names more close end : List ℕ) → ((old ++ head) ++ names) ++ (more ++ (close ++ end)) ≡ old ++ ((head ++ (names ++ (more ++ close))) ++ end)
flows_then old head names more close end = simp append_assoc

-- the flows, and the line's end
pub flows_ended : (d : Declaration) (all : Bool) (flows chosen old first second : List ℕ) → 2 ≤ length flows → chosen ≡ named all flows
    → first ≡ old ++ codes " (flows " → second ≡ first ++ names_text d chosen
    → second ++ (more_text (length flows - length chosen) ++ codes ")\n") ≡ old ++ (flows_text d all flows ++ codes "\n")
flows_ended d all flows chosen old first second many chosen_is first_is second_is =
    let names : List ℕ = names_text d chosen in
    let more : List ℕ = more_text (length flows - length chosen) in
    ap (λ l. l ++ (more ++ codes ")\n")) (second_is ∙ ap (λ l. l ++ names) first_is)
    ∙ flows_then old (codes " (flows ") names more (codes ")") (codes "\n") ∙ ap (λ l. old ++ (l ++ codes "\n")) (sym (flows_told d all flows chosen many chosen_is))

-- ---- what a target owes

abbrev pub owed_start : ℕ → Option ℕ → List ℕ
owed_start slots limit = replies_text slots ++ (codes ": " ++ (allowed_text limit ++ codes " ("))

replies_then : (slots : ℕ) (rest : List ℕ) → replies_text slots ++ rest ≡ decimal slots ++ (codes " " ++ (replies_noun slots ++ rest))
replies_then slots rest = append_assoc (decimal slots) (codes " " ++ replies_noun slots) rest

commands_then : (limit : ℕ) → allowed_text (Some limit) ++ codes " (" ≡ decimal limit ++ (codes " command" ++ (ending limit ++ codes " may be unanswered ("))
commands_then limit =
    append_assoc (counted limit (codes "command")) (codes " may be unanswered") (codes " (") ∙ counted_then limit (codes "command") (codes " may be unanswered (")

pub limit_told : (slots n : ℕ) (limit : Option ℕ) (replies end text : List ℕ) → limit ≡ Some n → replies ≡ replies_noun slots → end ≡ ending n
    → text ≡ decimal slots ++ (codes " " ++ (replies ++ (codes ": " ++ (decimal n ++ (codes " command" ++ (end ++ codes " may be unanswered ("))))))
    → text ≡ owed_start slots limit
limit_told slots n limit replies end text limit_is replies_is end_is is =
    is ∙ ap (λ l. decimal slots ++ (codes " " ++ (l ++ (codes ": " ++ (decimal n ++ (codes " command" ++ (end ++ codes " may be unanswered ("))))))) replies_is
    ∙ ap (λ l. decimal slots ++ (codes " " ++ (replies_noun slots ++ (codes ": " ++ (decimal n ++ (codes " command" ++ (l ++ codes " may be unanswered ("))))))) end_is
    ∙ ap (λ l. decimal slots ++ (codes " " ++ (replies_noun slots ++ (codes ": " ++ l)))) (sym (commands_then n))
    ∙ sym (replies_then slots (codes ": " ++ (allowed_text (Some n) ++ codes " ("))) ∙ ap (owed_start slots) (sym limit_is)

pub no_limit_told : (slots : ℕ) (limit : Option ℕ) (replies text : List ℕ) → limit ≡ None → replies ≡ replies_noun slots
    → text ≡ decimal slots ++ (codes " " ++ (replies ++ codes ": any number of commands may be unanswered (")) → text ≡ owed_start slots limit
no_limit_told slots limit replies text limit_is replies_is is =
    is ∙ ap (λ l. decimal slots ++ (codes " " ++ (l ++ codes ": any number of commands may be unanswered ("))) replies_is
    ∙ sym (replies_then slots (codes ": any number of commands may be unanswered (")) ∙ ap (owed_start slots) (sym limit_is)

-- ---- a text of a first element and of more

pub first_added : {X : Type 0} (head more : X → List ℕ) (told : List X → List ℕ) → ((x : X) (xs : List X) → head x ++ flat_map more xs ≡ told (x ∷ xs)) → (xs : List X) (x none : X)
    (old first text : List ℕ) → 1 ≤ length xs → x ≡ get_or xs 0 none → first ≡ old ++ head x → text ≡ first ++ flat_map more (take (length xs - 1) (drop 1 xs)) → text ≡ old ++ told xs
first_added head more told each [] x none old first text some x_is first_is text_is = absurd (omega (arith, some))
first_added head more told each (y ∷ ys) x none old first text some x_is first_is text_is =
    let rest : take (length (y ∷ ys) - 1) ys ≡ ys = take_all (length (y ∷ ys) - 1) ys (omega arith) in
    text_is ∙ ap (λ l. first ++ flat_map more l) rest ∙ ap (λ l. l ++ flat_map more ys) (first_is ∙ ap (λ z. old ++ head z) x_is)
    ∙ append_assoc old (head y) (flat_map more ys) ∙ ap (λ l. old ++ l) (each y ys)
