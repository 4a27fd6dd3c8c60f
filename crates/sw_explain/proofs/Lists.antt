-- Lists of attributes as texts.
use Rattle.std.proofs.Common.{◌≡◌, ◌∙◌, ◌<◌, ◌≤◌, ◌+◌, ℕ, ◌==◌, Bool, true, false, Result, Ok, Err, List, [], ◌∷◌, ◌++◌, ap, append-nil, append_assoc, arith, codes, get_or, length, refl, subst, sym}
use Rattle.std.specs.Prelude.{OnOk, Option, Some, None, if◌then◌else◌, is_ok, position, slice_get}
use Rattle.std.specs.Fmt.{decimal}
use Rattle.std.specs.List.{flat_map, list_any, range_with_len}
use Rattle.std.specs.Option.{option_map_or}
use Rattle.std.proofs.lemmas.Grind.{flat_map-append}
use Rattle.std.proofs.lemmas.Option.{slice_get_past, slice_get_read}
use Rattle.sw_config.specs.Entries.{Declaration, wiring_of}
use Rattle.sw_flow.specs.declared.place.Place.{Place}
use Rattle.sw_output.specs.ChannelTexts.{switch_name}
use Rattle.sw_output.specs.LinkedPorts.{linked_ports}
use Rattle.sw_topo.specs.declared.place.PlaceEnd.{PlaceEnd}
use Rattle.sw_topo.specs.Wiring.{Wiring, partner}
use Rattle.sw_explain.specs.Dot.{AttributeText, IsBegun, are_some, attribute_text, attributes_text, begun_text, closing, list_text, opening, quoted, statement}
use Rattle.sw_explain.specs.Drawings.{DrawingView}
use Rattle.sw_explain.specs.DrawTexts.{attribute, channel_attributes, channel_statement, cycle_attributes, edge_text, end_text, field_text, flow_attributes, number_attributes, port_fields, start_text, step_attributes, switch_statement}

abbrev more_text : List AttributeText → List ℕ
more_text more = flat_map (λ b. codes ", " ++ attribute_text b) more

begun_more : (xs : List AttributeText) (b : AttributeText) (rest : List AttributeText)
    → begun_text xs ++ (opening (are_some xs) ++ list_text (b ∷ rest)) ≡ begun_text (xs ++ b ∷ rest)
begun_more [] b rest = refl
begun_more (a ∷ more) b rest =
    rw (flat_map-append (λ b. codes ", " ++ attribute_text b) more (b ∷ rest)) (ap (λ l. codes " [" ++ l) (append_assoc (attribute_text a) (more_text more) (codes ", " ++ list_text (b ∷ rest))))

some_more : (xs : List AttributeText) (b : AttributeText) (rest : List AttributeText) → true ≡ are_some (xs ++ b ∷ rest)
some_more [] b rest = refl
some_more (a ∷ more) b rest = refl

-- attributes behind others
mark_added : (start old new : List ℕ) (list : List AttributeText) (b : AttributeText) (rest : List AttributeText) (begun : Bool) (between told : List ℕ) → IsBegun start old list begun
    → between ≡ opening begun → told ≡ list_text (b ∷ rest) → new ≡ old ++ (between ++ told) → IsBegun start new (list ++ b ∷ rest) true
mark_added start old new list b rest begun between told old_is between_is told_is new_is = (
  new_is ∙ ap (λ l. l ++ (between ++ told)) old_is.0 ∙ append_assoc start (begun_text list) (between ++ told)
      ∙ ap (λ l. start ++ (begun_text list ++ (l ++ told))) (between_is ∙ ap opening old_is.1) ∙ ap (λ l. start ++ (begun_text list ++ (opening (are_some list) ++ l))) told_is
      ∙ ap (λ l. start ++ l) (begun_more list b rest),
  some_more list b rest,
)

none_added : (start old : List ℕ) (list : List AttributeText) (begun : Bool) → IsBegun start old list begun → IsBegun start old (list ++ []) begun
none_added start old list begun is = subst (λ (l : List AttributeText). IsBegun start old l begun) (sym (append-nil list)) is

-- the end of the line
close_then : (first more close end : List ℕ) → (first ++ (more ++ close)) ++ end ≡ (first ++ more) ++ (close ++ end)
close_then first more close end = simp append_assoc

closed : (xs : List AttributeText) → attributes_text xs ++ codes ";\n" ≡ begun_text xs ++ closing (are_some xs)
closed [] = refl
closed (a ∷ more) = ap (λ l. codes " [" ++ l) (close_then (attribute_text a) (more_text more) (codes "]") (codes ";\n"))

marks_ended : (start old new : List ℕ) (list : List AttributeText) (begun : Bool) (end : List ℕ) → IsBegun start old list begun → end ≡ closing begun → new ≡ old ++ end
    → new ≡ start ++ (attributes_text list ++ codes ";\n")
marks_ended start old new list begun end old_is end_is new_is =
    new_is ∙ ap (λ l. l ++ end) old_is.0 ∙ append_assoc start (begun_text list) end ∙ ap (λ l. start ++ (begun_text list ++ l)) (end_is ∙ ap closing old_is.1)
    ∙ ap (λ l. start ++ l) (sym (closed list))

-- a channel of a flow's places, and one that is not
pub flow_begun : (places : List Place) (c n : ℕ) (old before new : List ℕ) → n ≡ c → list_any (λ (p : Place). p.channel == c) places ≡ true → before ≡ old
    → new ≡ before ++ (codes " [style=\"bold\", xlabel=\"channel " ++ (decimal n ++ codes "\"")) → IsBegun old new (flow_attributes places c) true
flow_begun places c n old before new same is before_is new_is =
    let told : codes " [style=\"bold\", xlabel=\"channel " ++ (decimal n ++ codes "\"") ≡ begun_text (flow_attributes places c) = rw (same, is, append-nil (decimal c ++ codes "\"")) refl in
    let some : true ≡ are_some (flow_attributes places c) = rw is refl in
    (new_is ∙ ap (λ l. l ++ (codes " [style=\"bold\", xlabel=\"channel " ++ (decimal n ++ codes "\""))) before_is ∙ ap (λ l. old ++ l) told, some)

pub flow_not_begun : (places : List Place) (c : ℕ) (old before : List ℕ) → list_any (λ (p : Place). p.channel == c) places ≡ false → before ≡ old → IsBegun old before (flow_attributes places c) false
flow_not_begun places c old before is before_is =
    let told : [] ≡ begun_text (flow_attributes places c) = rw is refl in
    let none : false ≡ are_some (flow_attributes places c) = rw is refl in
    (before_is ∙ sym (append-nil old) ∙ ap (λ l. old ++ l) told, none)

label_told : (n : ℕ) → codes "label=\"" ++ (decimal n ++ codes "\"") ≡ list_text (attribute (codes "label") (decimal n) ∷ [])
label_told n = rw (append-nil (decimal n ++ codes "\"")) refl

-- a channel of the cycle, and one that is not
pub step_added : (cycle : List ℕ) (c before n : ℕ) (start old new : List ℕ) (list : List AttributeText) (begun : Bool) (between : List ℕ) → position (λ e. e == c) cycle ≡ Some before
    → n ≡ before + 1 → IsBegun start old list begun → between ≡ opening begun → new ≡ old ++ (between ++ (codes "color=\"red\", fontcolor=\"red\", label=\"" ++ (decimal n ++ codes "\"")))
    → IsBegun start new (list ++ cycle_attributes cycle c) true
step_added cycle c before n start old new list begun between found same old_is between_is new_is =
    let told : codes "color=\"red\", fontcolor=\"red\", label=\"" ++ (decimal n ++ codes "\"") ≡ list_text (step_attributes before) =
    rw (same, append-nil (decimal (before + 1) ++ codes "\"")) refl in
    subst (λ (o : Option ℕ). IsBegun start new (list ++ option_map_or step_attributes o []) true) (sym found) (mark_added start old new list _ _ begun between _ old_is between_is told new_is)

pub no_step : (cycle : List ℕ) (c : ℕ) (start old : List ℕ) (list : List AttributeText) (begun : Bool) → position (λ e. e == c) cycle ≡ None → IsBegun start old list begun
    → IsBegun start old (list ++ cycle_attributes cycle c) begun
no_step cycle c start old list begun none is =
    subst (λ (o : Option ℕ). IsBegun start old (list ++ option_map_or step_attributes o []) begun) (sym none) (none_added start old list begun is)

-- a channel with a number, and one without
abbrev numbered : ℕ → List AttributeText
numbered n = attribute (codes "label") (decimal n) ∷ []

mark_then : (old between label number quote end : List ℕ) → old ++ (between ++ (label ++ (number ++ (quote ++ end)))) ≡ (old ++ (between ++ (label ++ (number ++ quote)))) ++ end
mark_then old between label number quote end = simp append_assoc

pub number_ended : (numbers : List ℕ) (c i n : ℕ) (start old new : List ℕ) (list : List AttributeText) (begun : Bool) (between : List ℕ) → i ≡ c → i < length numbers → n ≡ get_or numbers i n
    → IsBegun start old list begun → between ≡ opening begun → new ≡ old ++ (between ++ (codes "label=\"" ++ (decimal n ++ codes "\"];\n")))
    → new ≡ start ++ (attributes_text (list ++ number_attributes numbers c) ++ codes ";\n")
number_ended numbers c i n start old new list begun between at lt is old_is between_is new_is =
    let marked = old ++ (between ++ (codes "label=\"" ++ (decimal n ++ codes "\""))) in
    let whole = mark_added start old marked list _ _ begun between _ old_is between_is (label_told n) refl in
    marks_ended start marked new (list ++ numbered n) true (codes "];\n") whole refl (new_is ∙ mark_then old between (codes "label=\"") (decimal n) (codes "\"") (codes "];\n"))
    ∙ ap (λ o. start ++ (attributes_text (list ++ option_map_or numbered o []) ++ codes ";\n")) (sym (slice_get_read numbers (length numbers) i n refl lt is))
    ∙ ap (λ j. start ++ (attributes_text (list ++ number_attributes numbers j) ++ codes ";\n")) at

pub no_number_ended : (numbers : List ℕ) (c i : ℕ) (start old new : List ℕ) (list : List AttributeText) (begun : Bool) (end : List ℕ) → i ≡ c → length numbers ≤ i → end ≡ closing begun
    → IsBegun start old list begun → new ≡ old ++ end → new ≡ start ++ (attributes_text (list ++ number_attributes numbers c) ++ codes ";\n")
no_number_ended numbers c i start old new list begun end at past end_is old_is new_is =
    marks_ended start old new (list ++ []) begun end (none_added start old list begun old_is) end_is new_is
    ∙ ap (λ o. start ++ (attributes_text (list ++ option_map_or numbered o []) ++ codes ";\n")) (sym (slice_get_past numbers i past))
    ∙ ap (λ j. start ++ (attributes_text (list ++ number_attributes numbers j) ++ codes ";\n")) at

-- a switch's line: its name, the fields of its ports, and the end
line_told : (old name fields : List ℕ)
    → old ++ (codes "  \"" ++ (name ++ (codes "\" [shape=\"record\", label=\"" ++ name))) ++ fields ++ codes "\"];\n"
    ≡ old ++ statement (quoted name) (attribute (codes "shape") (codes "record") ∷ attribute (codes "label") (name ++ fields) ∷ [])
line_told old name fields = simp (append_assoc, append-nil)

pub switch_added : {E : Type 0} (d : Declaration) (s : ℕ) (r : Result (Unit {0}) E) (name ports old first listed new : List ℕ) → name ≡ switch_name d s → ports ≡ linked_ports d s 32
    → first ≡ old ++ (codes "  \"" ++ (name ++ (codes "\" [shape=\"record\", label=\"" ++ name))) → listed ≡ first ++ flat_map field_text ports
    → new ≡ (if is_ok r then listed ++ codes "\"];\n" else listed) → OnOk r (new ≡ old ++ switch_statement d s)
switch_added d s (Ok u) name ports old first listed new name_is ports_are first_is listed_is new_is =
    new_is ∙ rw (listed_is, first_is, name_is, ports_are) (line_told old (switch_name d s) (port_fields d s))
switch_added d s (Err e) name ports old first listed new name_is ports_are first_is listed_is new_is = tt

-- a channel's line: its two ends, and what is told of it
edge_line : (old start end marks : List ℕ) → old ++ (codes "  " ++ start) ++ (codes " -> " ++ end) ++ marks ≡ old ++ (codes "  " ++ (start ++ (codes " -> " ++ end) ++ marks))
edge_line old start end marks = simp append_assoc

pub channel_added : (d : Declaration) (drawing : DrawingView) (n c : ℕ) (wired : Wiring) (start end : PlaceEnd) (old first second new : List ℕ) → wired ≡ wiring_of d → c ≡ n → slice_get wired.ends c ≡ Some start
    → slice_get wired.ends (partner c) ≡ Some end → first ≡ old ++ (codes "  " ++ end_text d start) → second ≡ first ++ (codes " -> " ++ end_text d end)
    → new ≡ second ++ (attributes_text ((flow_attributes drawing.places c ++ cycle_attributes drawing.cycle c) ++ number_attributes drawing.numbers c) ++ codes ";\n")
    → new ≡ old ++ channel_statement d drawing n
channel_added d drawing n c wired start end old first second new wired_is same at_start at_end first_is second_is new_is =
    let place = λ (v : Wiring) (k : ℕ). option_map_or (end_text d) (slice_get v.ends k) [] in
    let marks = λ (k : ℕ). attributes_text (channel_attributes drawing k) ++ codes ";\n" in
    let starts : end_text d start ≡ start_text d n = ap (λ o. option_map_or (end_text d) o []) (sym at_start) ∙ ap (λ v. place v c) wired_is ∙ ap (start_text d) same in
    let ends : end_text d end ≡ start_text d (partner n) = ap (λ o. option_map_or (end_text d) o []) (sym at_end) ∙ ap (λ v. place v (partner c)) wired_is ∙ ap (λ k. start_text d (partner k)) same in
    new_is ∙ ap (λ l. second ++ (attributes_text l ++ codes ";\n")) (append_assoc (flow_attributes drawing.places c) (cycle_attributes drawing.cycle c) (number_attributes drawing.numbers c))
    ∙ ap (λ l. l ++ marks c) (second_is ∙ ap (λ l. l ++ (codes " -> " ++ end_text d end)) first_is) ∙ edge_line old (end_text d start) (end_text d end) (marks c)
    ∙ ap (λ l. old ++ (codes "  " ++ (l ++ (codes " -> " ++ end_text d end) ++ marks c))) starts ∙ ap (λ l. old ++ (codes "  " ++ (start_text d n ++ (codes " -> " ++ l) ++ marks c))) ends
    ∙ ap (λ k. old ++ (codes "  " ++ (edge_text d n ++ marks k))) same

-- the lines of all numbers below a count, and three such parts
pub all_numbers : (line : ℕ → List ℕ) (n count size : ℕ) (start text : List ℕ) → n ≤ count → count ≤ n → count ≡ size → text ≡ start ++ flat_map line (range_with_len 0 n)
    → text ≡ start ++ flat_map line (range_with_len 0 size)
all_numbers line n count size start text low high same is =
    let all : n ≡ size = omega (arith, same, low, high) in
    is ∙ ap (λ k. start ++ flat_map line (range_with_len 0 k)) all

pub parts_added : (start nodes switches channels first second after : List ℕ) → first ≡ start ++ nodes → second ≡ first ++ switches → after ≡ second ++ channels
    → after ≡ start ++ (nodes ++ (switches ++ channels))
parts_added start nodes switches channels first second after first_is second_is after_is =
    after_is ∙ ap (λ l. l ++ channels) (second_is ∙ ap (λ l. l ++ switches) first_is)
    ∙ append_assoc (start ++ nodes) switches channels ∙ append_assoc start nodes (switches ++ channels)

-- a text between its first lines and its last one
pub whole_drawn : (head parts end start after whole : List ℕ) → start ≡ head → after ≡ start ++ parts → whole ≡ after ++ end → whole ≡ head ++ (parts ++ end)
whole_drawn head parts end start after whole start_is after_is whole_is =
    whole_is ∙ ap (λ l. l ++ end) (after_is ∙ ap (λ l. l ++ parts) start_is) ∙ append_assoc head parts end
