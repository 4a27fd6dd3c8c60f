-- The entries of a switch's lists, and what a new one keeps of its invariant.
use Rattle.std.specs.Prelude.{slice_get, slice_set, Option, Some, IsBitSet, drop}
use Rattle.std.specs.List.{list_any}
use Rattle.std.proofs.Common.{◌≡◌, ◌≢◌, ℕ, zero, suc, ◌+◌, ◌<◌, Bool, false, replicate, ◌||◌, List, [], ◌∷◌, ◌++◌, take, length, get_or, refl, sym, ap, subst, ◌∙◌, inl, inr, get_or-set_other, get_or-set_same}
use Rattle.std.proofs.lemmas.Bool.{cases_eq}
use Rattle.std.proofs.lemmas.List.{get_or_read, length-set, replicate_more}
use Rattle.std.proofs.lemmas.List.Folds.{list_any_more}
use Rattle.std.proofs.lemmas.Option.{slice_get_read}
use Rattle.sw_char.specs.declared.nchar.NChar.{NChar}
use Rattle.sw_link.specs.Ends.{Received}
use Rattle.sw_switch.specs.Cell.{Cell, HasArbiter, HasWaiting, IsCell, end_at, front_at, new_end}
use Rattle.sw_switch.specs.Changes.{with_end, with_input}
use Rattle.sw_switch.specs.declared.input.Input.{Input}
use Rattle.sw_switch.specs.declared.input.Input.TheVariants.{Idle}
use Rattle.sw_topo.proofs.Lists.{slice_get-set_other, slice_get-set_same}

-- an entry that was read at the number of a port with a link: an arbiter that was made with the linked ports
pub record IsEntry {R A : Type 0} (ports : A → ℕ) (cell : Cell R A) (number : ℕ) (entry : Option A) : Type 0 where
  pub at : slice_get cell.arbiters number ≡ Some entry
  pub has : HasArbiter ports cell.linked (Some entry)

pub entry_read : {R A : Type 0} (ports : A → ℕ) (cell now : Cell R A) (number out : ℕ) (entry : Option A) → IsCell ports cell → cell ≡ now → IsBitSet now.linked out →
    number ≡ out → number < 32 → entry ≡ get_or cell.arbiters number entry → IsEntry ports cell number entry
entry_read ports cell now number out entry is view linked same below read =
    let here : slice_get cell.arbiters number ≡ Some entry = slice_get_read cell.arbiters 32 number entry (sym is.all_arbiters) below read in
    record { at = here; has = rw here at (is.arbiter_ports number below (rw (view, same) linked)) }

-- another arbiter with the same ports
pub is_cell_with_arbiter : {R A : Type 0} (ports : A → ℕ) (cell : Cell R A) (out : ℕ) (a b : A) → IsCell ports cell → slice_get cell.arbiters out ≡ Some (Some a) → ports b ≡ ports a →
    IsCell ports (record cell { arbiters = slice_set cell.arbiters out (Some b) })
is_cell_with_arbiter ports cell out a b is found same_ports = record {
  all_credits = is.all_credits;
  all_inputs = is.all_inputs;
  all_received = is.all_received;
  all_arbiters = length-set cell.arbiters out (Some b) ∙ is.all_arbiters;
  arbiter_ports = λ p below linked. elim (cases_eq p out) [
    | inl same ↦
        let before : HasArbiter ports cell.linked (Some (Some a)) = rw (same, found) at (is.arbiter_ports p below linked) in
        rw (same, slice_get-set_same cell.arbiters out (Some a) (Some b) found) (same_ports ∙ before)
    | inr apart ↦ rw (slice_get-set_other cell.arbiters out p (Some b) apart) (is.arbiter_ports p below linked)
  ];
}

-- another receiving end
pub is_cell_with_end : {R A : Type 0} (ports : A → ℕ) (cell : Cell R A) (port : ℕ) (r : Received) → IsCell ports cell →
    IsCell ports (record cell { received = slice_set cell.received port r })
is_cell_with_end ports cell port r is = record {
  all_credits = is.all_credits;
  all_inputs = is.all_inputs;
  all_received = length-set cell.received port r ∙ is.all_received;
  all_arbiters = is.all_arbiters;
  arbiter_ports = is.arbiter_ports;
}

-- another receiving end, whose input is in the set if it is idle
pub has_waiting_with_end : (before after : ℕ) (inputs : List Input) (received : List Received) (port : ℕ) (r : Received) → HasWaiting before inputs received →
    (get_or inputs port Idle ≡ Idle → IsBitSet after port) → ((p : ℕ) → p ≢ port → IsBitSet before p → IsBitSet after p) →
    HasWaiting after inputs (slice_set received port r)
has_waiting_with_end before after inputs received port r has own others p idle full = elim (cases_eq p port) [
  | inl same ↦ rw same (own (rw same at idle))
  | inr apart ↦ others p apart (has p idle (rw (get_or-set_other received port p r (new_end 0) apart) at full))
]

-- the receiving end that was read at the number of a port
pub end_read : {R A : Type 0} (ports : A → ℕ) (cell now : Cell R A) (number port : ℕ) (r : Received) → IsCell ports cell → cell ≡ now → number ≡ port → number < 32 →
    r ≡ get_or cell.received number r → r ≡ end_at now port
end_read ports cell now number port r is view same below read =
    rw (← view, ← same) (get_or_read cell.received number r (subst (λ n. number < n) (sym is.all_received) below) read (new_end 0))

-- where one entry becomes r, and r has a character only if the old one had, an entry has one only if it had
had_some : (received : List Received) (i p : ℕ) (r d : Received) → (0 < length r.buffer → 0 < length (get_or received i d).buffer) →
    0 < length (get_or (slice_set received i r) p d).buffer → 0 < length (get_or received p d).buffer
had_some [] i p r d had full = full
had_some (x ∷ received) zero zero r d had full = had full
had_some (x ∷ received) zero (suc p) r d had full = full
had_some (x ∷ received) (suc i) zero r d had full = full
had_some (x ∷ received) (suc i) (suc p) r d had full = had_some received i p r d had full

-- another receiving end keeps the invariant, if it has a character only where the old one had
pub keeps_with_end : {R A : Type 0} (ports : A → ℕ) (cell now : Cell R A) (waiting number port : ℕ) (r : Received) → IsCell ports cell × HasWaiting waiting cell.inputs cell.received →
    cell ≡ now → number ≡ port → (0 < length r.buffer → 0 < length (end_at now port).buffer) →
    IsCell ports (record cell { received = slice_set cell.received number r }) × HasWaiting waiting cell.inputs (slice_set cell.received number r)
keeps_with_end ports cell now waiting number port r is view same had = (
  is_cell_with_end ports cell number r is.0,
  λ p idle full. is.1 p idle (had_some cell.received number p r (new_end 0) (λ some. rw (view, same) (had some)) full),
)

pub with_end_is : {R A : Type 0} (cell now : Cell R A) (number port : ℕ) (r s : Received) → cell ≡ now → number ≡ port → r ≡ s →
    record cell { received = slice_set cell.received number r } ≡ with_end now port s
with_end_is cell now number port r s view same is = rw (view, same, is) refl

-- the character in front was taken
pub taken_after : (old new : Received) (x : NChar) → old ≡ record new { buffer = x ∷ new.buffer } → new ≡ record old { buffer = drop 1 old.buffer }
taken_after old new x is = rw is refl

pub taken_front : {R A : Type 0} (now : Cell R A) (port : ℕ) (old new : Received) (x : NChar) → old ≡ end_at now port → old ≡ record new { buffer = x ∷ new.buffer } →
    front_at now port ≡ Some x
taken_front now port old new x is taken = ap (λ (r : Received). slice_get r.buffer 0) (sym is ∙ taken)

-- what an input does now keeps the invariant, if it is in the set where it waits
pub keeps_with_input : {R A : Type 0} (ports : A → ℕ) (cell now : Cell R A) (before after number port : ℕ) (input : Input) →
    IsCell ports cell × HasWaiting before cell.inputs cell.received → cell ≡ now → number ≡ port → number < 32 →
    (input ≡ Idle → 0 < length (end_at now port).buffer → IsBitSet after port) → ((p : ℕ) → p ≢ port → IsBitSet before p → IsBitSet after p) →
    IsCell ports (record cell { inputs = slice_set cell.inputs number input }) × HasWaiting after (slice_set cell.inputs number input) cell.received
keeps_with_input ports cell now before after number port input is view same below own others = (
  record {
    all_credits = is.0.all_credits;
    all_inputs = length-set cell.inputs number input ∙ is.0.all_inputs;
    all_received = is.0.all_received;
    all_arbiters = is.0.all_arbiters;
    arbiter_ports = is.0.arbiter_ports;
  },
  λ p idle full. elim (cases_eq p number) [
    | inl here ↦
        let within : number < length cell.inputs = subst (λ n. number < n) (sym is.0.all_inputs) below in
        let idle_here : input ≡ Idle = sym (get_or-set_same cell.inputs number input Idle within) ∙ (rw here at idle) in
        rw (here, same) (own idle_here (rw (view, here, same) at full))
    | inr apart ↦ others p (rw same at apart) (is.1 p (sym (get_or-set_other cell.inputs number p input Idle apart) ∙ idle) full)
  ],
)

pub with_input_is : {R A : Type 0} (cell now : Cell R A) (number port : ℕ) (input : Input) → cell ≡ now → number ≡ port →
    record cell { inputs = slice_set cell.inputs number input } ≡ with_input now port input
with_input_is cell now number port input view same = rw (view, same) refl

-- one more port without credit
pub credit_more : (n : ℕ) (before after : List ℕ) (x : ℕ) → before ≡ replicate n 0 → x ≡ 0 → after ≡ before ++ x ∷ [] → after ≡ replicate (n + 1) 0
credit_more n before after x so_far new adds = adds ∙ ap (λ l. l ++ x ∷ []) so_far ∙ ap (λ y. replicate n 0 ++ y ∷ []) new ∙ replicate_more n 0

-- one more input that does not pass a test
pub none_more : (test : Input → Bool) (inputs all : List Input) (i : ℕ) (item : Input) (passes : Bool) → i < length all → all ≡ inputs → item ≡ get_or all i item →
    passes ≡ test item → passes ≡ false → list_any test (take i inputs) ≡ false → list_any test (take (i + 1) inputs) ≡ false
none_more test inputs all i item passes within same is told fails before =
    let none : list_any test (take i all) ≡ false = rw same before in
    rw (← same) (list_any_more test all i item within ∙ ap (λ b. b || test (get_or all i item)) none ∙ ap test (sym is) ∙ sym told ∙ fails)
