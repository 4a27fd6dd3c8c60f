-- Lists that loops make.
use Rattle.std.proofs.Common.{Bool, List, [], ap, append-nil, append_assoc, arith, get_or, length, map, refl, sym, take, ℕ, ◌++◌, ◌+◌, ◌-◌, ◌<◌, ◌≤◌, ◌∙◌, ◌∷◌, ◌≡◌}
use Rattle.std.proofs.lemmas.Bool.{eq-eqb, ne_eqb}
use Rattle.std.proofs.lemmas.Grind.{get_or_default_zero}
use Rattle.std.proofs.lemmas.List.{flat_map_more, get_or-map, length-map, map-append, take_more}
use Rattle.std.proofs.lemmas.List.Elements.{filter-append}
use Rattle.std.proofs.lemmas.List.Folds.{flat_map-map}
use Rattle.std.specs.Global.{Vec}
use Rattle.std.specs.Prelude.{None, Option, Some, false, if◌then◌else◌, nat_eq, true}
use Rattle.std.specs.List.{flat_map, range_with_len}
use Rattle.sw_char.specs.PacketView.{PacketView}
use Rattle.sw_char.specs.declared.nchar.End.{End}
use Rattle.sw_graph.proofs.Ranges.{range_from_more}
use Rattle.sw_config.specs.Entries.{FlowEntry}
use Rattle.sw_machine.specs.DeclaredPackets.{left_bytes}
use Rattle.sw_machine.specs.Begun.{Begun, beginning, beginnings}
use Rattle.sw_machine.specs.StepValues.{machine_move, machine_step}
use Rattle.sw_machine.specs.declared.step.Move.{Move}
use Rattle.sw_machine.specs.declared.step.Move.TheVariants as move
use Rattle.sw_machine.specs.declared.step.Step.{Step}
use Rattle.sw_machine.specs.declared.step.Step.TheVariants as code
use Rattle.sw_summary.specs.Counts.{form_of, forms, item_at, items_at, of_flow, replies_at, replies_of, reply_at, statuses, statuses_of, with_status}
use Rattle.sw_summary.specs.Replies.{is_reply, status_of}
use Rattle.sw_summary.specs.Items.{Item}
use Rattle.sw_summary.specs.KeyCounts.{KeyCountView, taken_all}
use Rattle.sw_summary.specs.Texts.{first_status_lines, status_line}
use Rattle.sw_summary.proofs.Taken.{taken_append}

-- a step that is no beginning begins nothing
pub begins_nothing : (step : Step) → ((flow : ℕ) (cargo : Vec ℕ) (end : End) → step ≡ code.Begin flow cargo end → ⊥) → beginning (machine_step step) ≡ []
begins_nothing (code.Begin flow cargo end) other = absurd (other flow cargo end refl)
begins_nothing (code.Move step) other = nothing step
  where
    nothing : (step : Move) → beginning (machine_move step) ≡ []
    nothing (move.Fct c) = refl
    nothing step = refl

pub beginnings_are : (steps : List Step) → flat_map (λ step. beginning (machine_step step)) steps ≡ beginnings (map machine_step steps)
beginnings_are steps = sym (flat_map-map beginning machine_step steps)

abbrev pub items_in : Vec PacketView → List PacketView
items_in v = v.items

pub statuses_are : (out : List (Vec PacketView)) → flat_map (λ v. statuses_of v.items) out ≡ statuses (map (λ v. v.items) out)
statuses_are out = sym (flat_map-map statuses_of items_in out)

-- one number more
next_more_from : {A : Type 0} (f : ℕ → List A) (a n m k : ℕ) → m ≡ n + 1 → a + n ≡ k → flat_map f (range_with_len a n) ++ f k ≡ flat_map f (range_with_len a m)
next_more_from f a n m k next is =
    flat_map_more f [] (range_with_len a n) k ∙ ap (flat_map f) (sym (range_from_more a n k is) ∙ ap (range_with_len a) (sym next))

pub next_more : {A : Type 0} (f : ℕ → List A) (n : ℕ) → flat_map f (range_with_len 0 n) ++ f n ≡ flat_map f (range_with_len 0 (n + 1))
next_more f n = next_more_from f 0 n (n + 1) n refl (omega arith)

-- what is made of one element more comes behind what was made of those before, and behind what was there
pub grown : {A : Type 0} (old so_far all before here after : List A) → before ≡ old ++ so_far → all ≡ so_far ++ here → after ≡ before ++ here → after ≡ old ++ all
grown old so_far all before here after was more is =
    is ∙ ap (λ l. l ++ here) was ∙ append_assoc old so_far here ∙ ap (λ l. old ++ l) (sym more)

-- the text of one flow more
pub text_more : (f : ℕ → List ℕ) (n : ℕ) (before here after : List ℕ) → before ≡ flat_map f (range_with_len 0 n) → here ≡ f n → after ≡ before ++ here
    → after ≡ flat_map f (range_with_len 0 (n + 1))
text_more f n before here after so_far line is =
    is ∙ ap (λ (l : List ℕ). l ++ here) so_far ∙ ap (λ (l : List ℕ). flat_map f (range_with_len 0 n) ++ l) line ∙ next_more f n

-- the line of one status more
pub status_more : (out : List (List PacketView)) (s : ℕ) (start before here after : List ℕ) → 1 ≤ s → before ≡ start ++ first_status_lines out (s - 1)
    → here ≡ status_line s (with_status out s) → after ≡ before ++ here → after ≡ start ++ first_status_lines out (s + 1 - 1)
unfolding first_status_lines
status_more out s start before here after some so_far line is =
    let f : ℕ → List ℕ = λ (k : ℕ). status_line k (with_status out k) in
    grown start (flat_map f (range_with_len 1 (s - 1))) (flat_map f (range_with_len 1 (s + 1 - 1))) before (f s) after so_far
    (sym (next_more_from f 1 (s - 1) (s + 1 - 1) s (omega (arith, some)) (omega (arith, some)))) (is ∙ ap (λ (l : List ℕ). before ++ l) line)

-- one node more
pub node_more : (text : ℕ → List PacketView → List Item) (all : List (Vec PacketView)) (n : ℕ) (before here after : List Item) (q : Vec PacketView)
    → before ≡ flat_map (λ k. text k (get_or (map items_in all) k [])) (range_with_len 0 n) → here ≡ text n q.items → n < length all → q ≡ get_or all n q
    → after ≡ before ++ here → after ≡ flat_map (λ k. text k (get_or (map items_in all) k [])) (range_with_len 0 (n + 1))
node_more text all n before here after q so_far line lt at is =
    let there : q.items ≡ get_or (map items_in all) n [] = ap items_in at ∙ sym (get_or-map items_in all n q [] lt) in
    let same : here ≡ text n (get_or (map items_in all) n []) = line ∙ ap (text n) there in
    is ∙ ap (λ (l : List Item). l ++ here) so_far
    ∙ ap (λ (l : List Item). flat_map (λ k. text k (get_or (map items_in all) k [])) (range_with_len 0 n) ++ l) same
    ∙ next_more (λ k. text k (get_or (map items_in all) k [])) n

-- the items of one flow more
pub flow_more : (f : ℕ → List Item) (n : ℕ) (start before after : List KeyCountView) → before ≡ taken_all start (flat_map f (range_with_len 0 n)) → after ≡ taken_all before (f n)
    → after ≡ taken_all start (flat_map f (range_with_len 0 (n + 1)))
flow_more f n start before after so_far is =
    is ∙ ap (λ (ts : List KeyCountView). taken_all ts (f n)) so_far
    ∙ sym (taken_append (flat_map f (range_with_len 0 n)) (f n) start) ∙ ap (taken_all start) (next_more f n)

-- one packet more at a node
pub packet_more : (n : ℕ) (packets : List PacketView) (i : ℕ) (q : PacketView) (k : Item) → i < length packets → q ≡ get_or packets i q → k ≡ item_at n q
    → items_at n (take (i + 1) packets) ≡ items_at n (take i packets) ++ k ∷ []
packet_more n packets i q k within at is =
    ap (items_at n) (take_more packets i q within ∙ ap (λ (p : PacketView). take i packets ++ p ∷ []) (sym at))
    ∙ map-append (item_at n) (take i packets) (q ∷ []) ∙ ap (λ (p : Item). items_at n (take i packets) ++ p ∷ []) (sym is)

-- the elements that are made of one more
pub made_more : {A B : Type 0} (f : A → List B) (xs : List A) (i : ℕ) (x : A) (before here after : List B) → i < length xs → x ≡ get_or xs i x → before ≡ flat_map f (take i xs)
    → here ≡ f x → after ≡ before ++ here → after ≡ flat_map f (take (i + 1) xs)
made_more f xs i x before here after within at so_far made is =
    is ∙ ap (λ l. l ++ here) so_far ∙ ap (λ l. flat_map f (take i xs) ++ l) made ∙ flat_map_more f [] (take i xs) x
    ∙ ap (flat_map f) (sym (take_more xs i x within ∙ ap (λ y. take i xs ++ y ∷ []) (sym at)))

-- the replies among packets, and among one packet more
replies_join : (ps qs : List PacketView) → replies_of (ps ++ qs) ≡ replies_of ps ++ replies_of qs
replies_join ps qs = filter-append (λ p. is_reply p.bytes) ps qs

one_more_packet : (packets : List PacketView) (i : ℕ) (q : PacketView) → i < length packets → q ≡ get_or packets i q → take (i + 1) packets ≡ take i packets ++ q ∷ []
one_more_packet packets i q within at = take_more packets i q within ∙ ap (λ p. take i packets ++ p ∷ []) (sym at)

reply_more : (n : ℕ) (packets : List PacketView) (i : ℕ) (q : PacketView) → i < length packets → q ≡ get_or packets i q
    → replies_at n (take (i + 1) packets) ≡ replies_at n (take i packets) ++ replies_at n (q ∷ [])
reply_more n packets i q within at =
    ap (replies_at n) (one_more_packet packets i q within at)
    ∙ ap (map (reply_at n)) (replies_join (take i packets) (q ∷ [])) ∙ map-append (reply_at n) (replies_of (take i packets)) (replies_of (q ∷ []))

status_of_more : (packets : List PacketView) (i : ℕ) (q : PacketView) → i < length packets → q ≡ get_or packets i q
    → statuses_of (take (i + 1) packets) ≡ statuses_of (take i packets) ++ statuses_of (q ∷ [])
status_of_more packets i q within at =
    let status : PacketView → ℕ = λ p. status_of p.bytes in
    ap statuses_of (one_more_packet packets i q within at)
    ∙ ap (map status) (replies_join (take i packets) (q ∷ [])) ∙ map-append status (replies_of (take i packets)) (replies_of (q ∷ []))

-- the status that is read of a reply
pub status_read : (inside bytes lent : List ℕ) (n : ℕ) → 8 ≤ length lent → lent ≡ inside → n ≡ get_or inside 3 n → inside ≡ bytes → n ≡ status_of bytes
status_read inside bytes lent n long lends is same =
    let size = ap length lends in
    is ∙ get_or_default_zero inside 3 n (omega (arith, long, size)) ∙ ap status_of same

-- of one packet more, if it is a reply and if it is none
module _ (packets : List PacketView) (i : ℕ) (q : PacketView) (within : i < length packets) (at : q ≡ get_or packets i q) where
  pub status_kept : (start before : List ℕ) → is_reply q.bytes ≡ false → before ≡ start ++ statuses_of (take i packets) → before ≡ start ++ statuses_of (take (i + 1) packets)
  status_kept start before is so_far =
      let none : statuses_of (q ∷ []) ≡ [] = ap (λ (b : Bool). map (λ (p : PacketView). status_of p.bytes) (if b then q ∷ [] else [])) is in
      so_far ∙ ap (λ l. start ++ l) (sym (status_of_more packets i q within at ∙ ap (λ l. statuses_of (take i packets) ++ l) none ∙ append-nil (statuses_of (take i packets))))

  pub status_pushed : (start before after : List ℕ) (status : ℕ) → is_reply q.bytes ≡ true → status ≡ status_of q.bytes → before ≡ start ++ statuses_of (take i packets)
      → after ≡ before ++ status ∷ [] → after ≡ start ++ statuses_of (take (i + 1) packets)
  status_pushed start before after status is same so_far more =
      let one : statuses_of (q ∷ []) ≡ status_of q.bytes ∷ [] = ap (λ (b : Bool). map (λ (p : PacketView). status_of p.bytes) (if b then q ∷ [] else [])) is in
      grown start _ _ before _ after so_far (status_of_more packets i q within at) (more ∙ ap (λ (k : ℕ). before ++ k ∷ []) same ∙ ap (λ l. before ++ l) (sym one))

-- one packet more at a node, behind what was there
pub packet_pushed : (n : ℕ) (packets : List PacketView) (i : ℕ) (q : PacketView) (k : Item) (start before after : List Item) → i < length packets → q ≡ get_or packets i q → k ≡ item_at n q
    → before ≡ start ++ items_at n (take i packets) → after ≡ before ++ k ∷ [] → after ≡ start ++ items_at n (take (i + 1) packets)
packet_pushed n packets i q k start before after within at is so_far more = grown start _ _ before (k ∷ []) after so_far (packet_more n packets i q k within at is) more

abbrev listed : Option Item → List Item
listed None = []
listed (Some k) = k ∷ []

reply_of_one : (n : ℕ) (q : PacketView) → replies_at n (q ∷ []) ≡ listed (if is_reply q.bytes then Some (reply_at n q) else None)
reply_of_one n q = go (is_reply q.bytes)
  where
    go : (b : Bool) → map (reply_at n) (if b then q ∷ [] else []) ≡ listed (if b then Some (reply_at n q) else None)
    go true = refl
    go false = refl

-- the same of replies, if it is one and if it is none
pub reply_pushed : (n : ℕ) (packets : List PacketView) (i : ℕ) (q : PacketView) (o : Option Item) (start before after : List Item) → i < length packets → q ≡ get_or packets i q
    → o ≡ (if is_reply q.bytes then Some (reply_at n q) else None) → before ≡ start ++ replies_at n (take i packets) → after ≡ before ++ listed o → after ≡ start ++ replies_at n (take (i + 1) packets)
reply_pushed n packets i q o start before after within at is so_far more =
    grown start _ _ before (listed o) after so_far
    (reply_more n packets i q within at ∙ ap (λ l. replies_at n (take i packets) ++ l) (reply_of_one n q ∙ sym (ap listed is))) more

-- what is listed of all nodes
pub nodes_done : (f : ℕ → List PacketView → List Item) (out : List (Vec PacketView)) (n : ℕ) (all : List Item) → length out ≤ n → n ≤ length out
    → all ≡ flat_map (λ k. f k (get_or (map items_in out) k [])) (range_with_len 0 n) → all ≡ flat_map (λ k. f k (get_or (map items_in out) k [])) (range_with_len 0 (length (map items_in out)))
nodes_done f out n all ended inside so_far =
    let last : n ≡ length out = omega (arith, ended, inside) in
    so_far ∙ ap (λ m. flat_map (λ k. f k (get_or (map items_in out) k [])) (range_with_len 0 m)) (last ∙ sym (length-map out items_in))

-- the packets of a flow, with one more that was begun of another
pub form_kept : (f : FlowEntry) (n : ℕ) (begun : List Begun) (i : ℕ) (b : Begun) (before : List PacketView) → i < length begun → b ≡ get_or begun i b → (b.flow ≡ n → ⊥)
    → before ≡ forms f n (take i begun) → before ≡ forms f n (take (i + 1) begun)
form_kept f n begun i b before within at other so_far =
    so_far ∙ ap (map (form_of f)) (sym (append-nil (of_flow n (take i begun))) ∙ ap (λ (t : Bool). of_flow n (take i begun) ++ (if t then b ∷ [] else [])) (sym (ne_eqb b.flow n other))
    ∙ sym (filter-append (λ (q : Begun). nat_eq q.flow n) (take i begun) (b ∷ [])))
    ∙ ap (forms f n) (sym (take_more begun i b within ∙ ap (λ q. take i begun ++ q ∷ []) (sym at)))

-- the packets of a flow, with one more that was begun
pub form_pushed : (f : FlowEntry) (n : ℕ) (begun : List Begun) (i : ℕ) (b : Begun) (left bytes : List ℕ) (before after : List PacketView) → i < length begun → b ≡ get_or begun i b
    → b.flow ≡ n → left ≡ left_bytes f → bytes ≡ left ++ (b.cargo ++ []) → before ≡ forms f n (take i begun) → after ≡ before ++ record { bytes = bytes; end = b.end } ∷ []
    → after ≡ forms f n (take (i + 1) begun)
form_pushed f n begun i b left bytes before after within at is left_is bytes_are so_far more =
    let packet : List ℕ → PacketView = λ l. record { bytes = l; end = b.end } in
    let earlier : List PacketView = forms f n (take i begun) in
    let whole : bytes ≡ left_bytes f ++ b.cargo = bytes_are ∙ ap (λ l. left ++ l) (append-nil b.cargo) ∙ ap (λ l. l ++ b.cargo) left_is in
    let one : forms f n (b ∷ []) ≡ form_of f b ∷ [] = ap (λ (t : Bool). map (form_of f) (if t then b ∷ [] else [])) (eq-eqb b.flow n is) in
    more ∙ ap (λ l. l ++ packet bytes ∷ []) so_far ∙ ap (λ l. earlier ++ packet l ∷ []) whole ∙ ap (λ l. earlier ++ l) (sym one)
    ∙ sym (map-append (form_of f) (of_flow n (take i begun)) (of_flow n (b ∷ []))) ∙ ap (map (form_of f)) (sym (filter-append (λ (q : Begun). nat_eq q.flow n) (take i begun) (b ∷ [])))
    ∙ ap (forms f n) (sym (take_more begun i b within ∙ ap (λ q. take i begun ++ q ∷ []) (sym at)))
