-- The machine's flows of a declared network, by their numbers.
use Rattle.std.proofs.Common.{◌≡◌, ℕ, zero, suc, ◌+◌, ◌-◌, ◌<◌, ◌≤◌, List, [], ◌∷◌, ◌++◌, length, drop, Option, Some, None, refl, sym, ap, ◌∙◌, arith, inl, inr, length-append}
use Rattle.std.specs.Prelude.{slice_get}
use Rattle.std.proofs.lemmas.Bool.{cases_lt}
use Rattle.std.proofs.lemmas.List.{drop_at}
use Rattle.std.proofs.lemmas.Option.{same_Some, slice_get_within, slice_get_past}
use Rattle.sw_flow.specs.Entries.{ReplyEntry, FlowEntry, Declaration, reply_flow, reply_flows, all_flows}
use Rattle.sw_flow.specs.Valid.{IsFlow, IsValid}
use Rattle.sw_flow.proofs.Flows.{All-at}
use Rattle.sw_flow.proofs.FlowLaws.{follow_in_order, are_replies, valid_flows}
use Rattle.sw_machine.specs.Network.{Flow}
use Rattle.sw_machine.specs.Model.{reply_number, flow_of}

-- an element below the length is there
pub some_at : {X : Type 0} (xs : List X) (i : ℕ) → i < length xs → (x : X) × (slice_get xs i ≡ Some x)
some_at [] i lt = absurd (omega arith)
some_at (x ∷ xs) zero lt = (x, refl)
some_at (x ∷ xs) (suc i) lt = some_at xs i (omega arith)

pub slice_get-append_left : {X : Type 0} (xs ys : List X) (i : ℕ) → i < length xs → slice_get (xs ++ ys) i ≡ slice_get xs i
slice_get-append_left [] ys i lt = absurd (omega arith)
slice_get-append_left (x ∷ xs) ys zero lt = refl
slice_get-append_left (x ∷ xs) ys (suc i) lt = slice_get-append_left xs ys i (omega arith)

-- flow number i of the machine
abbrev pub flow_at : Declaration → ℕ → Flow
flow_at d i = flow_of (reply_number d i) (slice_get (all_flows d) i)

-- flow i is declared with replies, and flow j is that of its replies
pub record IsAnswered (d : Declaration) (i j : ℕ) : Type 0 where
  pub flow : FlowEntry
  pub entry : ReplyEntry
  pub here : slice_get (all_flows d) i ≡ Some flow
  pub there : slice_get (all_flows d) j ≡ Some (reply_flow flow entry)
  pub number : j ≡ reply_number d i

declared_answered : (d : Declaration) (i : ℕ) (f : FlowEntry) (r : ReplyEntry) → slice_get (all_flows d) i ≡ Some f → f.reply ≡ Some r → slice_get (all_flows d) (reply_number d i) ≡ Some (reply_flow f r)
declared_answered d i f r here has =
    elim (cases_lt i (length d.flows)) [
      | inl declared ↦ follow_in_order d i f r (sym (slice_get-append_left d.flows (reply_flows d.flows) i declared) ∙ here) has
      | inr later ↦
          let number : length d.flows + (i - length d.flows) ≡ i = omega arith in
          let is = are_replies d (i - length d.flows) f (ap (λ (x : ℕ). slice_get (all_flows d) x) number ∙ here) in
          let none : None ≡ Some r = sym (ap (λ (x : FlowEntry). x.reply) is.same) ∙ has in
          absurd cc
    ]

pub answered : (d : Declaration) (i j : ℕ) → (flow_at d i).reply ≡ Some j → IsAnswered d i j
answered d i j has = by (slice_get (all_flows d) i) refl has
  where
    reply_by : (f : FlowEntry) (o : Option ReplyEntry) → slice_get (all_flows d) i ≡ Some f → f.reply ≡ o → (flow_of (reply_number d i) (Some (record f { reply = o }))).reply ≡ Some j → IsAnswered d i j
    reply_by f None here is has = absurd cc
    reply_by f (Some r) here is has =
        let number : reply_number d i ≡ j = same_Some (reply_number d i) j has in
        record { flow = f; entry = r; here = here; there = ap (λ (x : ℕ). slice_get (all_flows d) x) (sym number) ∙ declared_answered d i f r here is; number = sym number }

    by : (o : Option FlowEntry) → slice_get (all_flows d) i ≡ o → (flow_of (reply_number d i) o).reply ≡ Some j → IsAnswered d i j
    by None here has = absurd cc
    by (Some f) here has = reply_by f f.reply here refl has

-- what a reply flow keeps
pub record IsReplyNumber (d : Declaration) (i j : ℕ) : Type 0 where
  pub path : List ℕ
  pub initiator : ℕ
  pub in_flows : j < length (all_flows d)
  pub after_declared : length d.flows ≤ j
  pub from : (flow_at d j).from ≡ (flow_at d i).to
  pub to : (flow_at d j).to ≡ (flow_at d i).from
  pub address : (flow_at d j).address ≡ path ++ initiator ∷ []
  pub left : (flow_at d j).left ≡ 1
  pub unanswered : (flow_at d j).reply ≡ None

pub reply_flow_is : (d : Declaration) (i j : ℕ) → (flow_at d i).reply ≡ Some j → IsReplyNumber d i j
reply_flow_is d i j has =
    let a = answered d i j has in
    record {
      path = a.entry.path;
      initiator = a.entry.initiator;
      in_flows = slice_get_within (all_flows d) j (reply_flow a.flow a.entry) a.there;
      after_declared = let n = a.number in omega arith;
      from = rw (a.there, a.here) refl;
      to = rw (a.there, a.here) refl;
      address = rw a.there refl;
      left = rw a.there refl;
      unanswered = rw a.there refl;
    }

pub flow_ends : (d : Declaration) → IsValid d → (i : ℕ) → i < length (all_flows d) → ((flow_at d i).from < length d.nodes) × ((flow_at d i).to < length d.nodes)
flow_ends d valid i lt =
    let here = some_at (all_flows d) i lt in
    let is = All-at (IsFlow d.nodes) (all_flows d) i here.0 here.1 (valid_flows d valid).0 in
    rw here.1 (is.from, is.to)

pub no_flow : (d : Declaration) (i : ℕ) → length (all_flows d) ≤ i → (flow_at d i).reply ≡ None
no_flow d i le = rw (slice_get_past (all_flows d) i le) refl

-- of a reply's address the initiator's is left
pub reply_left : (path : List ℕ) (initiator : ℕ) (cargo : List ℕ) (address : List ℕ) (left : ℕ) → address ≡ path ++ initiator ∷ [] → left ≡ 1
    → drop (length address - left) address ++ cargo ≡ initiator ∷ cargo
reply_left path initiator cargo address left is one =
    rw (is, one) (ap (λ (x : List ℕ). x ++ cargo) (drop_at path (initiator ∷ []) (length (path ++ initiator ∷ []) - 1) (omega (arith, length-append path (initiator ∷ [])))))
