-- What a journal is asked.
use Rattle.std.proofs.Common.{List, Some, [], ap, arith, false, length, not, refl, subst, suc, sym, take_all, true, zero, ℕ, ◌<◌, ◌≤◌, ◌∙◌, ◌∷◌, ◌≡◌}
use Rattle.atomic_table.specs.Table.{Me}
use Rattle.std.proofs.lemmas.Bool.{eq-eqb, false≢true, ne_eqb}
use Rattle.std.proofs.lemmas.List.{length-set}
use Rattle.std.specs.Prelude.{nat_eq, slice_get, slice_set}
use Rattle.sw_history.proofs.Emptied.{kept_back}
use Rattle.sw_history.proofs.Follows.{follows_where_possible, no_begin_keeps, no_begin_next}
use Rattle.sw_history.specs.Next.{IsIdle, MayFollow, begin_of}
use Rattle.sw_journal.proofs.Commit.{possible_of}
use Rattle.sw_journal.specs.Asked.{IsKeptBack, IsStill, IsStuck, IsUndelivered, IsWaiting}
use Rattle.sw_journal.specs.Marks.{IsTrueMark}
use Rattle.sw_journal.specs.Record.{JournalView, IsTrueView, IsKept, with_marks}
use Rattle.sw_config.specs.Valid.{IsValid}
use Rattle.sw_load.specs.History.{IsWhole, packets_of}
use Rattle.sw_load.specs.Laws.{AreDeclared}
use Rattle.sw_machine.proofs.Parts.{link_ends}
use Rattle.sw_machine.specs.Begun.{Begun}
use Rattle.sw_machine.specs.Network.{IsNetwork, Network}
use Rattle.sw_machine.specs.Steps.{Step}
use Rattle.sw_machine.specs.Model.{network_of}
use Rattle.sw_journal.specs.declared.cell_table.SeatChange.{SeatChange}
use Rattle.sw_journal.specs.declared.cell_table.View.{View}
use mathlib.Core.Logic.{dite}
use native.Mathlib.Decide.{ℕ_discrete}

-- ---- link ends without a step

-- a number that is no link end's
pub beyond_idle : (net : Network) → IsNetwork net → (packets : List Begun) (steps : List Step) (e n : ℕ) → net.channels ≡ n → n ≤ e → IsIdle net packets steps e
beyond_idle net ok packets steps e n count past step at may =
    let p = possible_of net packets steps step may in
    let lt = (link_ends net ok p.0 step p.1).0 in
    absurd (omega (arith, lt, at, count, past))

-- where all link ends are idle no step may follow
pub all_still : (net : Network) → IsNetwork net → (packets : List Begun) (steps : List Step) (n : ℕ) → net.channels ≤ n → ((e : ℕ) → e < n → IsIdle net packets steps e) → (step : Step) → MayFollow net packets steps step → ⊥
all_still net ok packets steps n count idle step may =
    let p = possible_of net packets steps step may in
    let lt = (link_ends net ok p.0 step p.1).0 in
    idle _ (omega (arith, lt, count)) step refl may

-- ---- marks

get_same : {X : Type 0} (xs : List X) (i : ℕ) (y x : X) → slice_get (slice_set xs i y) i ≡ Some x → y ≡ x
get_same [] zero y x e = absurd cc
get_same [] (suc i) y x e = absurd cc
get_same (z ∷ zs) zero y x e = cc
get_same (z ∷ zs) (suc i) y x e = get_same zs i y x e

get_other : {X : Type 0} (xs : List X) (i j : ℕ) (y : X) → (j ≡ i → ⊥) → slice_get (slice_set xs i y) j ≡ slice_get xs j
get_other [] i j y n = refl
get_other (z ∷ zs) zero zero y n = absurd (n refl)
get_other (z ∷ zs) zero (suc j) y n = refl
get_other (z ∷ zs) (suc i) zero y n = refl
get_other (z ∷ zs) (suc i) (suc j) y n = get_other zs i j y (λ e. n (ap suc e))

whole_mark : (net : Network) (packets : List Begun) (steps : List Step) (e : ℕ) → IsIdle net packets steps e → IsTrueMark net packets steps e (length steps)
whole_mark net packets steps e idle = record { within = omega arith; idle = subst (λ l. IsIdle net packets l e) (sym (take_all (length steps) steps (omega arith))) idle }

pub kept_mark : (j : JournalView) (me : Me SeatChange View) (e place count : ℕ) → IsKept j me → IsIdle (network_of j.declared) (packets_of j.load) j.history e → place ≡ e → count ≡ length j.history
    → IsKept (with_marks j (slice_set j.marks place (Some count))) me
kept_mark j me e place count is idle there now =
    let net = network_of j.declared in
    let packets = packets_of j.load in
    let marks = slice_set j.marks place (Some count) in
    let marked : (d k : ℕ) → slice_get marks d ≡ Some (Some k) → IsTrueMark net packets j.history d k = λ d k at.
    dite (ℕ_discrete d place)
    (λ same.
    let one : Some count ≡ Some k = get_same j.marks place (Some count) (Some k) (ap (slice_get marks) (sym same) ∙ at) in
    let k_is : count ≡ k = cc in
    subst (λ (p : ℕ × ℕ). IsTrueMark net packets j.history p.0 p.1) (λ i. (sym (same ∙ there) i, (sym now ∙ k_is) i)) (whole_mark net packets j.history e idle))
    (λ apart. is.true_view.true_marks d k (sym (get_other j.marks place d (Some count) apart) ∙ at)) in
    record {
      true_view = record {
        network = is.true_view.network;
        state = is.true_view.state;
        history = is.true_view.history;
        within = is.true_view.within;
        places = length-set j.marks place (Some count) ∙ is.true_view.places;
        true_marks = marked;
      };
      channels = is.channels;
      seat = is.seat;
    }

-- ---- a journal that is stuck

some_left : (r : ℕ) → (r ≡ 0 → ⊥) → 0 < r
some_left zero apart = absurd (apart refl)
some_left (suc r) apart = omega arith

left_some : (r : ℕ) → 0 < r → not (nat_eq r 0) ≡ true
left_some r lt = ap not (ne_eqb r 0 (λ e. absurd (omega (arith, lt, e))))

pub none_left : (r : ℕ) → r ≡ 0 → not (nat_eq r 0) ≡ true → ⊥
none_left r none some = false≢true (sym (ap not (eq-eqb r 0 none)) ∙ some)

pub stuck_by : (j : JournalView) (count : ℕ) → IsUndelivered j count → (count ≡ 0 → ⊥) → IsStill j → IsStuck j
stuck_by j count left some still = record {
  still = still;
  locked_up = λ s leads. record {
    quiet = λ step none p. still step ((follows_where_possible (network_of j.declared) (packets_of j.load) j.history s leads step).1 (p, no_begin_next (network_of j.declared) (packets_of j.load) j.history step none, no_begin_keeps (network_of j.declared) j.history s step none));
    holds = (let here = left s leads in let lt = some_left count some in omega (arith, here, lt));
  };
}

pub stuck_left : (j : JournalView) (count : ℕ) → IsTrueView j → IsUndelivered j count → IsStuck j → not (nat_eq count 0) ≡ true
stuck_left j count is left stuck =
    let here = left is.state is.history in
    let holds = (stuck.locked_up is.state is.history).holds in
    left_some count (omega (arith, here, holds))

-- ---- a journal that waits for ever

pub waiting_by : (j : JournalView) (count : ℕ) → IsUndelivered j count → count ≡ 0 → (IsWhole (network_of j.declared) (packets_of j.load) j.history → ⊥) → IsStill j → IsWaiting j
waiting_by j count left none not_whole still = record { not_whole = not_whole; still = still; delivered = subst (IsUndelivered j) none left }

pub kept_back_by : (j : JournalView) → IsValid j.declared → AreDeclared j.declared j.load → (count : ℕ) → IsUndelivered j count → count ≡ 0 → IsStill j → IsKeptBack j
kept_back_by j valid declared count left none still s leads = kept_back j.declared valid j.load j.history s leads (sym (left s leads) ∙ none) declared (λ n one. still (begin_of one.packet) one.follows)
