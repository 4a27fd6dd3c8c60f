-- The cells of a new network.
use Rattle.std.proofs.Common.{IsBitSet, IsSome, List, None, Option, Some, [], ap, arith, drop, get_or, inl, inr, length, length-set, map, refl, replicate, set, subst, suc, sym, zero, ℕ, ◌+◌, ◌*◌, ◌^◌, ◌<◌, ◌↔◌, ◌∙◌, ◌∷◌, ◌++◌, ◌≡◌, ◌⊎◌, ⊎_elim}
use Rattle.std.proofs.lemmas.Bool.{cases_eq}
use Rattle.std.proofs.lemmas.List.{length-map, length-replicate, length_push}
use Rattle.std.proofs.lemmas.Nat.Bits.{same_from_bits_below}
use Rattle.std.proofs.lemmas.Option.{get_or_from_slice_get, same_Some, slice_get-get_or, slice_get_within}
use Rattle.std.specs.Global.{Vec}
use Rattle.std.specs.Int.{bit_at}
use Rattle.std.specs.Option.{option_map_or}
use Rattle.std.specs.Prelude.{Err, IfOk, Ok, Result, slice_get, slice_index}
use Rattle.sw_cell.proofs.Switches.{port_small}
use Rattle.sw_cell.specs.Parts.{IsBetweenPart}
use Rattle.sw_cell.specs.SwitchParts.{input_of}
use Rattle.sw_char.specs.declared.nchar.NChar.{NChar}
use Rattle.sw_flow.specs.Places.{ends_of}
use Rattle.sw_machine.specs.State.{empty}
use Rattle.sw_machine.specs.Model.{network_of}
use Rattle.sw_machine.specs.Targets.{memory_at_first}
use Rattle.sw_net.proofs.Steps.{get_set_other, get_set_same}
use Rattle.sw_net.specs.Net.{IsNet, IsNetState, net_of}
use Rattle.sw_net.specs.New.{AreArbiters, AreLeft, AreRoutes, IsLinkedSet, IsNewNode, IsNewSwitch, IsOneMore, IsPlaced, IsRow, port_capacity}
use Rattle.sw_config.proofs.Steps.{length-link_ends}
use Rattle.sw_config.specs.Entries.{Declaration, capacities, look_at, target_of, wiring_of}
use Rattle.sw_config.specs.Valid.{IsValid}
use Rattle.sw_node.specs.Node.{Node, config_of, memory_of, new_node, target_at_first}
use Rattle.sw_rmap.specs.declared.config.TargetConfig.{TargetConfig}
use Rattle.sw_route.specs.declared.look.Look.{Look}
use Rattle.sw_switch.specs.Cell.{Cell, HasArbiter, HaveArbiters, new_cell, new_end}
use Rattle.sw_switch.specs.declared.input.Input.TheVariants as ports
use Rattle.sw_topo.proofs.Ends.{one_port, partner_back, port_found, port_starts}
use Rattle.sw_topo.proofs.PortBits.{clear_zero, one_set, set_one}
use Rattle.sw_topo.specs.Wiring.{out_of, partner}
use Rattle.sw_topo.specs.declared.place.PlaceEnd.TheVariants.{Node as AtNode, Switch}
use Rattle.sw_link.specs.Between.{Between, empty_between}
use Rattle.sw_topo.proofs.Lists.{drop_at}
use Rattle.sw_cell.proofs.Passing.{some_of}

-- ---- lists

module _ {X : Type 0} where
  push_get : (l : List X) (x : X) (m : ℕ) (y : X) → slice_get (l ++ x ∷ []) m ≡ Some y → (slice_get l m ≡ Some y) ⊎ ((m ≡ length l) × (x ≡ y))
  push_get [] x zero y e = inr (refl, same_Some x y e)
  push_get [] x (suc m) y e = absurd (cc)
  push_get (z ∷ l) x zero y e = inl e
  push_get (z ∷ l) x (suc m) y e = ⊎_elim (λ h. inl h) (λ h. inr (ap suc h.0, h.1)) (push_get l x m y e)

  -- what holds of each element, and of one more, holds of each
  pub each_push : (P : ℕ → X → Type 0) (l all : List X) (x : X) → all ≡ l ++ x ∷ [] → P (length l) x → ((m : ℕ) (y : X) → slice_get l m ≡ Some y → P m y) → (m : ℕ) (y : X) → slice_get all m ≡ Some y → P m y
  each_push P l all x is here others m y e = ⊎_elim
      (λ h. others m y h)
      (λ h. subst (λ k. P k y) (sym h.0) (subst (P (length l)) h.1 here))
      (push_get l x m y (subst (λ k. slice_get k m ≡ Some y) is e))

  pub drop_next : (l : List X) (c : ℕ) (x : X) → slice_get l c ≡ Some x → drop c l ≡ x ∷ drop (c + 1) l
  drop_next l c x e = let same : suc c ≡ c + 1 = omega arith in drop_at l c x e ∙ ap (λ k. x ∷ drop k l) same

  pub nothing_left : (l : List X) → length l ≡ 0 → l ≡ []
  nothing_left [] e = refl
  nothing_left (x ∷ l) e = absurd (omega arith)

  pub first_left : (l : List X) (c : ℕ) (x : X) (rest : List X) → drop c l ≡ x ∷ rest → (slice_get l c ≡ Some x) × (rest ≡ drop (c + 1) l)
  first_left [] zero x rest e = absurd (cc)
  first_left [] (suc c) x rest e = absurd (cc)
  first_left (y ∷ l) zero x rest e = let a : y ≡ x = cc in let b : l ≡ rest = cc in (ap Some a, sym b)
  first_left (y ∷ l) (suc c) x rest e = let h = first_left l c x rest e in let same : suc c + 1 ≡ suc (c + 1) = omega arith in (h.0, h.1 ∙ ap (λ k. drop k (y ∷ l)) (sym same))

-- each of the elements is so, and one that was made is so too
pub made_too : {X E : Type 0} (P : ℕ → X → Type 0) (l all : List X) (made : Result X E) (n : ℕ) → length l ≡ n → IfOk made (P n) → IsOneMore l made all → ((m : ℕ) (y : X) → slice_get l m ≡ Some y → P m y)
    → (length all ≡ n + 1) × ((m : ℕ) (y : X) → slice_get all m ≡ Some y → P m y)
made_too P l all made n size is (x, was, pushed) others =
    let here = subst (λ r. IfOk r (P n)) was is in
    let longer : length all ≡ n + 1 = omega (arith, length_push l x, ap length pushed, size) in
    (longer, each_push P l all x pushed (subst (λ k. P k x) (sym size) here) others)

-- what holds of a value, if what it follows from does
pub if_ok : {T E : Type 0} {P Q : T → Type 0} (r : Result T E) → ((x : T) → P x → Q x) → IfOk r P → IfOk r Q
if_ok (Ok x) then h = then x h
if_ok (Err e) then h = tt

pub if_is : {T E : Type 0} (P : T → Type 0) (r : Result T E) (x : T) → r ≡ Ok x → IfOk r P → P x
if_is {T} {E} P r x is h = subst (λ (k : Result T E). IfOk k P) is h

pub if_err : {T E : Type 0} (P : T → Type 0) (r : Result T E) (e : E) → r ≡ Err e → IfOk r P
if_err {T} {E} P r e is = subst (λ (k : Result T E). IfOk k P) (sym is) tt

-- ---- channels

pub in_links : (d : Declaration) (c : ℕ) → c < length (ends_of d) → c < 2 * length d.links
in_links d c lt = let size = length-link_ends d.links in omega arith

pub partner_in : (d : Declaration) (c : ℕ) → c < length (ends_of d) → partner c < 2 * length d.links
partner_in d c lt = let size = length-link_ends d.links in grind arith

pub capacity_at : (d : Declaration) (w p out x : ℕ) → out_of (ends_of d) w p ≡ Some out → slice_get (capacities d.links) (partner out) ≡ Some x → x ≡ port_capacity d w p
capacity_at d w p out x e at =
    sym (ap (λ o. option_map_or (λ c. slice_index (capacities d.links) (partner c)) o 8) e ∙ get_or_from_slice_get (capacities d.links) (partner out) x 0 at)

-- ---- nodes

config_first : (o : Option TargetConfig) → config_of (target_at_first o) ≡ o
config_first None = refl
config_first (Some t) = refl

memory_first : (o : Option TargetConfig) → memory_at_first o ≡ memory_of (target_at_first o)
memory_first None = refl
memory_first (Some t) = refl

pub node_capacity : (d : Declaration) (c x : ℕ) → slice_get (capacities d.links) c ≡ Some x → x ≡ (network_of d).capacity c
unfolding network_of
node_capacity d c x at = sym (get_or_from_slice_get (capacities d.links) c x 0 at)

memory_at_node : (d : Declaration) (n : ℕ) → (empty (network_of d)).memory n ≡ memory_at_first (target_of d.nodes n)
unfolding network_of
memory_at_node d n = refl

pub new_node_is : (d : Declaration) → IsValid d → (n c x : ℕ) (target : Option TargetConfig) → n < length d.nodes → target ≡ target_of d.nodes n → (network_of d).into n ≡ c → slice_get (capacities d.links) c ≡ Some x → IsNewNode d n (new_node target x)
new_node_is d valid n c x target lt e into at = record {
  for = record { valid = valid; in_net = lt; target = config_first target ∙ e; capacity = node_capacity d c x at ∙ ap (network_of d).capacity (sym into) };
  part = record {
    credit = refl;
    buffer = refl;
    outstanding = refl;
    to_send = refl;
    pending = refl;
    owed = refl;
    taken = refl;
    memory = memory_at_node d n ∙ ap memory_at_first (sym e) ∙ memory_first target;
  };
}

-- ---- rows of arbiters

module _ {A : Type 0} (arbiter_ports : A → ℕ) (d : Declaration) where
  pub no_channels : (w : ℕ) (row : List (Option A)) → length row ≡ 32 → IsRow arbiter_ports d 0 w row
  no_channels w row e = record { whole = e; placed = λ c port lt at. absurd (omega arith) }

  -- a channel that does not start at switch w
  pub row_stays : (c w : ℕ) (row : List (Option A)) → ((port : ℕ) → slice_get (ends_of d) c ≡ Some (Switch w port) → ⊥) → IsRow arbiter_ports d c w row → IsRow arbiter_ports d (c + 1) w row
  row_stays c w row other is = record {
    whole = is.whole;
    placed = λ k port lt at. ⊎_elim
        (λ e. absurd (other port (subst (λ j. slice_get (ends_of d) j ≡ Some (Switch w port)) e at)))
        (λ ne. is.placed k port (omega arith) at)
        (cases_eq k c);
  }

  -- one that does
  pub row_set : IsValid d → (c w port : ℕ) (row : List (Option A)) (a : A) → slice_get (ends_of d) c ≡ Some (Switch w port) → IsLinkedSet d w (arbiter_ports a) → IsRow arbiter_ports d c w row → IsRow arbiter_ports d (c + 1) w (set row port (Some a))
  row_set valid c w port row a starts set_is is = record {
    whole = length-set row port (Some a) ∙ is.whole;
    placed = λ k q lt at. ⊎_elim
        (λ e.
        let both : Switch w q ≡ Switch w port = same_Some (Switch w q) (Switch w port) (sym (subst (λ j. slice_get (ends_of d) j ≡ Some (Switch w q)) e at) ∙ starts) in
        let same : q ≡ port = cc in
        let small = port_small d valid c w port starts in
        let size = is.whole in
        subst (IsPlaced arbiter_ports d w) (sym (ap (slice_get (set row port (Some a))) same ∙ get_set_same row port (Some a) (omega arith))) set_is)
        (λ ne.
        let other = λ (e : q ≡ port). ne (one_port (wiring_of d) valid.sound w port k c (subst (λ j. slice_get (ends_of d) k ≡ Some (Switch w j)) e at) starts) in
        subst (IsPlaced arbiter_ports d w) (sym (get_set_other row port q (Some a) other)) (is.placed k q (omega arith) at))
        (cases_eq k c);
  }

  pub node_skipped : (c n : ℕ) (arbiters : List A) → slice_get (ends_of d) c ≡ Some (AtNode n) → AreArbiters arbiter_ports d (drop c (ends_of d)) arbiters → AreArbiters arbiter_ports d (drop (c + 1) (ends_of d)) arbiters
  node_skipped c n arbiters at h = subst (λ l. AreArbiters arbiter_ports d l arbiters) (drop_next (ends_of d) c (AtNode n) at) h

  pub switch_next : (c w port : ℕ) (a : A) (arbiters more : List A) → slice_get (ends_of d) c ≡ Some (Switch w port) → arbiters ≡ a ∷ more → AreArbiters arbiter_ports d (drop c (ends_of d)) arbiters
      → IsLinkedSet d w (arbiter_ports a) × AreArbiters arbiter_ports d (drop (c + 1) (ends_of d)) more
  switch_next c w port a arbiters more at is h =
      subst (λ l. AreArbiters arbiter_ports d l (a ∷ more)) (drop_next (ends_of d) c (Switch w port) at) (subst (AreArbiters arbiter_ports d (drop c (ends_of d))) is h)

  -- there is one for a channel that starts at a switch
  pub some_left : (c w port : ℕ) (arbiters : List A) → slice_get (ends_of d) c ≡ Some (Switch w port) → AreArbiters arbiter_ports d (drop c (ends_of d)) arbiters → 0 < length arbiters
  some_left c w port [] at h = absurd (subst (λ l. AreArbiters arbiter_ports d l []) (drop_next (ends_of d) c (Switch w port) at) h)
  some_left c w port (a ∷ more) at h = omega arith

-- ---- switches

same_bit : (a b p : ℕ) → (IsBitSet a p → IsBitSet b p) → (IsBitSet b p → IsBitSet a p) → bit_at a p ≡ bit_at b p
same_bit a b p to from = ⊎_elim
    (λ one. one ∙ sym (set_one b p (to (one_set a p one))))
    (λ ne. clear_zero a p (λ s. ne (set_one a p s)) ∙ sym (clear_zero b p (λ s. ne (set_one a p (from s)))))
    (cases_eq (bit_at a p) 1)

all_same : {X : Type 0} (n i : ℕ) (x : X) → get_or (replicate n x) i x ≡ x
all_same zero i x = refl
all_same (suc n) zero x = refl
all_same (suc n) (suc i) x = all_same n i x

end_buffer : (caps : List ℕ) (port : ℕ) → (get_or (map new_end caps) port (new_end 0)).buffer ≡ []
end_buffer [] port = refl
end_buffer (c ∷ caps) zero = refl
end_buffer (c ∷ caps) (suc port) = end_buffer caps port

end_outstanding : (caps : List ℕ) (port : ℕ) → (get_or (map new_end caps) port (new_end 0)).outstanding ≡ 0
end_outstanding [] port = refl
end_outstanding (c ∷ caps) zero = refl
end_outstanding (c ∷ caps) (suc port) = end_outstanding caps port

end_capacity : (caps : List ℕ) (port c : ℕ) → slice_get caps port ≡ Some c → (get_or (map new_end caps) port (new_end 0)).capacity ≡ c
end_capacity [] port c e = absurd (cc)
end_capacity (x ∷ caps) zero c e = same_Some x c e
end_capacity (x ∷ caps) (suc port) c e = end_capacity caps port c e

channel_capacity : (d : Declaration) (c : ℕ) → (network_of d).capacity c ≡ slice_index (capacities d.links) c
unfolding network_of
channel_capacity d c = refl

module _ {R A : Type 0} (answer : R → ℕ → Look) (arbiter_ports : A → ℕ) (d : Declaration) (valid : IsValid d) (w : ℕ) (linked : ℕ) (small : linked < 2 ^ 32) (is_linked : (p : ℕ) → IsBitSet linked p ↔ IsSome (out_of (ends_of d) w p)) where
  same_set : (a : ℕ) → IsLinkedSet d w a → a ≡ linked
  same_set a is = same_from_bits_below 32 a linked is.within small (λ p lt. same_bit a linked p (λ s. (is_linked p).1 ((is.linked p lt).0 s)) (λ s. (is.linked p lt).1 ((is_linked p).0 s)))

  placed_has : (o : Option (Option A)) → IsPlaced arbiter_ports d w o → HasArbiter arbiter_ports linked o
  placed_has None h = absurd h
  placed_has (Some None) h = absurd h
  placed_has (Some (Some a)) h = same_set (arbiter_ports a) h

  pub have_arbiters : (arbiters : List (Option A)) → IsRow arbiter_ports d (length (ends_of d)) w arbiters → HaveArbiters arbiter_ports linked arbiters
  have_arbiters arbiters row port lt is_set =
      let c = some_of (out_of (ends_of d) w port) ((is_linked port).0 is_set) in
      let at = port_starts (wiring_of d) w port c.0 c.1 in
      placed_has (slice_get arbiters port) (row.placed c.0 port (slice_get_within (ends_of d) c.0 (Switch w port) at) at)

  pub new_switch_is : (routes : R) (caps : List ℕ) (arbiters : List (Option A)) → w < length d.switches → ((byte : ℕ) → answer routes byte ≡ look_at d.switches w byte) → length caps ≡ 32
      → ((port c : ℕ) → slice_get caps port ≡ Some c → c ≡ port_capacity d w port) → IsRow arbiter_ports d (length (ends_of d)) w arbiters → IsNewSwitch answer arbiter_ports d w (new_cell routes linked caps arbiters)
  new_switch_is routes caps arbiters lt answers whole each row = record {
    for = record {
      valid = valid;
      in_net = lt;
      sound = record {
        all_credits = length-replicate {A = ℕ} 32 0;
        all_inputs = length-replicate 32 ports.Idle;
        all_received = length-map caps new_end ∙ whole;
        all_arbiters = row.whole;
        arbiter_ports = have_arbiters arbiters row;
      };
      linked = is_linked;
      routes = answers;
      capacity = λ c port at.
          let lp = port_small d valid (partner c) w port at in
          let out = port_found (wiring_of d) valid.sound w port (partner c) at in
          let here = slice_get-get_or caps port 0 (omega arith) in
          end_capacity caps port (get_or caps port 0) here ∙ each port (get_or caps port 0) here
          ∙ ap (λ o. option_map_or (λ k. slice_index (capacities d.links) (partner k)) o 8) out ∙ ap (λ k. slice_index (capacities d.links) k) (partner_back c) ∙ sym (channel_capacity d c);
      held = λ input port e. let bad : ports.Idle ≡ ports.Held port = sym (all_same 32 input ports.Idle) ∙ e in absurd (cc);
    };
    part = record {
      credit = λ c port at. sym (all_same {X = ℕ} 32 port 0);
      ports = λ c port at. record { buffer = sym (end_buffer caps port); outstanding = sym (end_outstanding caps port); input = ap (input_of (ends_of d) w) (sym (all_same 32 port ports.Idle)) };
    };
  }

-- ---- one switch after another

module _ {R A : Type 0} (answer : R → ℕ → Look) (arbiter_ports : A → ℕ) (d : Declaration) where
  pub none_made : (tables : List R) (rows : List (Vec (Option A))) → AreRoutes answer d tables → length rows ≡ length d.switches
      → ((w : ℕ) (row : Vec (Option A)) → slice_get rows w ≡ Some row → IsRow arbiter_ports d (length (ends_of d)) w row.items) → AreLeft answer arbiter_ports d 0 tables rows []
  none_made tables rows routes all each = record {
    all_tables = let e = routes.all in omega arith;
    all_rows = omega arith;
    all_made = refl;
    each_table = λ k r at byte. let same : k ≡ k + 0 = omega arith in subst (λ j. answer r byte ≡ look_at d.switches j byte) same (routes.answers k r at byte);
    each_row = λ k row at. let same : k ≡ k + 0 = omega arith in subst (λ j. IsRow arbiter_ports d (length (ends_of d)) j row.items) same (each k row at);
    each_made = λ k cell at. absurd (cc);
  }

  pub next_made : {E : Type 0} (w : ℕ) (tables more : List R) (rows more_rows : List (Vec (Option A))) (cells all : List (Cell R A)) (r : R) (row : Vec (Option A)) (made : Result (Cell R A) E)
      → tables ≡ r ∷ more → rows ≡ row ∷ more_rows → IfOk made (IsNewSwitch answer arbiter_ports d w) → IsOneMore cells made all
      → AreLeft answer arbiter_ports d w tables rows cells → AreLeft answer arbiter_ports d (w + 1) more more_rows all
  next_made w tables more rows more_rows cells all r row made is row_is new one left =
      let both = made_too (IsNewSwitch answer arbiter_ports d) cells all made w left.all_made new one left.each_made in
      record {
        all_tables = let e = left.all_tables in let l : length tables ≡ suc (length more) = ap length is in omega arith;
        all_rows = let e = left.all_rows in let l : length rows ≡ suc (length more_rows) = ap length row_is in omega arith;
        all_made = both.0;
        each_table = λ k x at byte. let same : suc k + w ≡ k + (w + 1) = omega arith in
            subst (λ j. answer x byte ≡ look_at d.switches j byte) same (left.each_table (suc k) x (subst (λ l. slice_get l (suc k) ≡ Some x) (sym is) at) byte);
        each_row = λ k x at. let same : suc k + w ≡ k + (w + 1) = omega arith in
            subst (λ j. IsRow arbiter_ports d (length (ends_of d)) j x.items) same (left.each_row (suc k) x (subst (λ l. slice_get l (suc k) ≡ Some x) (sym row_is) at));
        each_made = both.1;
      }

  pub table_is : (w : ℕ) (tables more : List R) (rows : List (Vec (Option A))) (cells : List (Cell R A)) (r : R) → tables ≡ r ∷ more → AreLeft answer arbiter_ports d w tables rows cells → (byte : ℕ) → answer r byte ≡ look_at d.switches w byte
  table_is w tables more rows cells r is left byte = let same : 0 + w ≡ w = omega arith in subst (λ j. answer r byte ≡ look_at d.switches j byte) same (left.each_table 0 r (ap (λ l. slice_get l 0) is) byte)

  pub row_is : (w : ℕ) (tables : List R) (rows more : List (Vec (Option A))) (cells : List (Cell R A)) (row : Vec (Option A)) → rows ≡ row ∷ more → AreLeft answer arbiter_ports d w tables rows cells → IsRow arbiter_ports d (length (ends_of d)) w row.items
  row_is w tables rows more cells row is left = let same : 0 + w ≡ w = omega arith in subst (λ j. IsRow arbiter_ports d (length (ends_of d)) j row.items) same (left.each_row 0 row (ap (λ l. slice_get l 0) is))

-- ---- the whole

module _ {R A : Type 0} (answer : R → ℕ → Look) (arbiter_ports : A → ℕ) (d : Declaration) (valid : IsValid d) (nodes : List Node) (switches : List (Cell R A)) (b : Between) (is_empty : b ≡ empty_between (network_of d).channels)
    (each_node : (n : ℕ) (node : Node) → slice_get nodes n ≡ Some node → IsNewNode d n node) (each_switch : (w : ℕ) (cell : Cell R A) → slice_get switches w ≡ Some cell → IsNewSwitch answer arbiter_ports d w cell) where
  empty_part : IsBetweenPart (network_of d) (empty_between (network_of d).channels) (empty (network_of d))
  empty_part = record {
    all_wires = length-replicate {A = List NChar} (network_of d).channels [];
    all_fcts = length-replicate {A = ℕ} (network_of d).channels 0;
    wire = λ c lt. sym (all_same {X = List NChar} (network_of d).channels c []);
    fcts = λ c lt. sym (all_same {X = ℕ} (network_of d).channels c 0);
  }

  pub new_state : IsNetState (net_of d nodes switches b) (empty (network_of d))
  new_state = record {
    reached = ([], refl);
    nodes = λ n node at. (each_node n node at).part;
    switches = λ w cell at. (each_switch w cell at).part;
    between = subst (λ k. IsBetweenPart (network_of d) k (empty (network_of d))) (sym is_empty) empty_part;
  }

  pub new_net : length nodes ≡ length d.nodes → length switches ≡ length d.switches → IsNet answer arbiter_ports (net_of d nodes switches b)
  new_net all_nodes all_switches = record {
    valid = valid;
    all_nodes = all_nodes;
    all_switches = all_switches;
    nodes = λ n node at. (each_node n node at).for;
    switches = λ w cell at. (each_switch w cell at).for;
    reached = ∣ (empty (network_of d), new_state) ∣₁;
  }
