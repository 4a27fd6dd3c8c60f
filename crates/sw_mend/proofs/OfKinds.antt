-- What is taken away of a kind, one number more, and of all kinds.
use Rattle.std.proofs.Common.{◌≡◌, ◌∙◌, ℕ, ◌+◌, ◌<◌, ◌≤◌, List, [], ◌∷◌, ◌++◌, ap, append-nil, append_assoc, get_or, length, sym, take}
use Rattle.std.specs.Prelude.{flat_map}
use Rattle.std.proofs.lemmas.List.{flat_map_more, take_all, take_more}
use Rattle.sw_config.specs.Entries.{Declaration}
use Rattle.sw_mend.specs.Changes.{answers_away, by_number, entries_away, flow_away, flows_away, group_ports_away, parts_away, removals, replies_away, reply_away, units_away}
use Rattle.sw_mend.specs.Kinds.{away_at, count_of, kind_away}
use Rattle.sw_mend.specs.declared.change.Change.{Change}
use Rattle.sw_mend.specs.declared.listing.Kind.{Kind}
use Rattle.sw_mend.specs.declared.listing.Kind.TheVariants.{Reply, Replies, Flow, Answers, Port, Entry, Unit}
use Rattle.sw_mend.proofs.Numbered.{grown_at}

-- from those below that number
abbrev pub away_below : Declaration → Kind → ℕ → List Change
away_below d Reply n = by_number reply_away 0 (take n d.flows)
away_below d Replies n = by_number (replies_away d.flows) 0 (take n d.flows)
away_below d Flow n = by_number flow_away 0 (take n d.flows)
away_below d Answers n = by_number answers_away 0 (take n d.nodes)
away_below d Port n = by_number group_ports_away 0 (take n d.switches)
away_below d Entry n = by_number entries_away 0 (take n d.switches)
away_below d Unit n = by_number flows_away 0 (take n d.nodes)

pub number_more : (d : Declaration) (kind : Kind) (n : ℕ) (old before after : List Change) → before ≡ old ++ away_below d kind n → after ≡ before ++ away_at d kind n
    → after ≡ old ++ away_below d kind (n + 1)
number_more d Reply n old before after = grown_at reply_away old before after n d.flows
number_more d Replies n old before after = grown_at (replies_away d.flows) old before after n d.flows
number_more d Flow n old before after = grown_at flow_away old before after n d.flows
number_more d Answers n old before after = grown_at answers_away old before after n d.nodes
number_more d Port n old before after = grown_at group_ports_away old before after n d.switches
number_more d Entry n old before after = grown_at entries_away old before after n d.switches
number_more d Unit n old before after = grown_at flows_away old before after n d.nodes

below_all : (d : Declaration) (kind : Kind) (n : ℕ) → count_of d kind ≤ n → away_below d kind n ≡ kind_away d kind
below_all d Reply n past = ap (by_number reply_away 0) (take_all n d.flows past)
below_all d Replies n past = ap (by_number (replies_away d.flows) 0) (take_all n d.flows past)
below_all d Flow n past = ap (by_number flow_away 0) (take_all n d.flows past)
below_all d Answers n past = ap (by_number answers_away 0) (take_all n d.nodes past)
below_all d Port n past = ap (by_number group_ports_away 0) (take_all n d.switches past)
below_all d Entry n past = ap (by_number entries_away 0) (take_all n d.switches past)
below_all d Unit n past = ap (by_number flows_away 0) (take_all n d.nodes past)

pub none_before : (d : Declaration) (kind : Kind) (old : List Change) → old ≡ old ++ away_below d kind 0
none_before d Reply old = sym (append-nil old)
none_before d Replies old = sym (append-nil old)
none_before d Flow old = sym (append-nil old)
none_before d Answers old = sym (append-nil old)
none_before d Port old = sym (append-nil old)
none_before d Entry old = sym (append-nil old)
none_before d Unit old = sym (append-nil old)

pub all_numbers : (d : Declaration) (kind : Kind) (n : ℕ) (old after : List Change) → count_of d kind ≤ n → after ≡ old ++ away_below d kind n → after ≡ old ++ kind_away d kind
all_numbers d kind n old after past so_far = so_far ∙ ap (λ l. old ++ l) (below_all d kind n past)

-- of one kind more
pub kind_more : (d : Declaration) (kinds : List Kind) (i : ℕ) (e : Kind) (before after : List Change) → i < length kinds
    → before ≡ flat_map (kind_away d) (take i kinds) → after ≡ before ++ kind_away d (get_or kinds i e) → after ≡ flat_map (kind_away d) (take (i + 1) kinds)
kind_more d kinds i e before after lt so_far more =
    let kind : Kind = get_or kinds i e in
    more ∙ ap (λ l. l ++ kind_away d kind) so_far ∙ flat_map_more (kind_away d) [] (take i kinds) kind ∙ ap (flat_map (kind_away d)) (sym (take_more kinds i e lt))

pub kinds_all : (d : Declaration) (kinds : List Kind) (i : ℕ) (made : List Change) → length kinds ≤ i → made ≡ flat_map (kind_away d) (take i kinds)
    → made ≡ flat_map (kind_away d) kinds
kinds_all d kinds i made past so_far = so_far ∙ ap (flat_map (kind_away d)) (take_all i kinds past)

-- the kinds in their order
six : (a b c e f g : List Change) → a ++ (b ++ (c ++ (e ++ (f ++ (g ++ []))))) ≡ ((((a ++ b) ++ c) ++ e) ++ f) ++ g
six a b c e f g =
    ap (λ l. a ++ (b ++ (c ++ (e ++ (f ++ l))))) (append-nil g) ∙ sym (append_assoc a b (c ++ (e ++ (f ++ g)))) ∙ sym (append_assoc (a ++ b) c (e ++ (f ++ g)))
    ∙ sym (append_assoc ((a ++ b) ++ c) e (f ++ g)) ∙ sym (append_assoc (((a ++ b) ++ c) ++ e) f g)

seven : (a b c e f g h : List Change) → a ++ (b ++ (c ++ (e ++ (f ++ (g ++ (h ++ [])))))) ≡ (((((a ++ b) ++ c) ++ e) ++ f) ++ g) ++ h
seven a b c e f g h =
    ap (λ l. a ++ (b ++ (c ++ (e ++ (f ++ (g ++ l)))))) (append-nil h) ∙ sym (append_assoc a b (c ++ (e ++ (f ++ (g ++ h)))))
    ∙ sym (append_assoc (a ++ b) c (e ++ (f ++ (g ++ h)))) ∙ sym (append_assoc ((a ++ b) ++ c) e (f ++ (g ++ h)))
    ∙ sym (append_assoc (((a ++ b) ++ c) ++ e) f (g ++ h)) ∙ sym (append_assoc ((((a ++ b) ++ c) ++ e) ++ f) g h)

pub parts_are : (d : Declaration) → flat_map (kind_away d) (Reply ∷ Replies ∷ Flow ∷ Answers ∷ Port ∷ Entry ∷ []) ≡ parts_away d
parts_are d = six (kind_away d Reply) (kind_away d Replies) (kind_away d Flow) (kind_away d Answers) (kind_away d Port) (kind_away d Entry)

pub units_are : (d : Declaration) → flat_map (kind_away d) (Unit ∷ []) ≡ units_away d
units_are d = append-nil (kind_away d Unit)

pub removals_are : (d : Declaration) → flat_map (kind_away d) (Reply ∷ Replies ∷ Flow ∷ Answers ∷ Port ∷ Entry ∷ Unit ∷ []) ≡ removals d
removals_are d =
    seven (kind_away d Reply) (kind_away d Replies) (kind_away d Flow) (kind_away d Answers) (kind_away d Port) (kind_away d Entry) (kind_away d Unit)
