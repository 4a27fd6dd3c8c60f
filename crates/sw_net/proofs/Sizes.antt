-- What nodes have to send is bounded in each reached state, whatever the routes.
use Rattle.std.proofs.Common.{Bool, List, None, Option, Some, [], arith, false, length, refl, subst, suc, sym, true, zero, ℕ, ⊎_elim, ◌*◌, ◌<◌, ◌∷◌, ◌≡◌, ◌≤◌, ap}
use Rattle.std.proofs.lemmas.Bool.{cases_lt}
use Rattle.std.proofs.lemmas.List.Sums.{sum_by-cons}
use Rattle.std.specs.Prelude.{if◌then◌else◌, nat_eq}
use Rattle.sw_char.specs.declared.nchar.End.{End}
use Rattle.sw_char.specs.declared.nchar.NChar.{NChar}
use Rattle.sw_char.specs.declared.nchar.NChar.TheVariants.{Data, Eep, Eop}
use Rattle.sw_machine.specs.Network.{IsDeclared, Network, form}
use Rattle.sw_machine.specs.Owing.{length_pending, pending_with, PendingReply, reply_packet}
use Rattle.sw_machine.specs.Owed.{Owes}
use Rattle.sw_machine.specs.Runs.{Run, total}
use Rattle.sw_machine.specs.State.{State, empty, put, reply_at}
use Rattle.sw_machine.specs.Steps.{Accept, Arrive, Begin, Drop, Drops, Emit, Fct, FctIn, Forward, Grant, Leads, Reply, Spill, Step}

-- what holds of each value of a function holds where one is changed
put_all : {A : Type 0} (Q : A → Type 0) (f : ℕ → A) (c k : ℕ) (x : A) → Q x → Q (f k) → Q (put f c x k)
put_all {A} Q f c k x here there = by (nat_eq k c)
  where
    by : (b : Bool) → Q (if b then x else f k)
    by true = here
    by false = there

pub AllFew : ℕ → List PendingReply → Type 0
AllFew most [] = Unit {0}
AllFew most (r ∷ l) = (length (reply_packet r) ≤ most) × AllFew most l

-- what a node sends, and each reply that waits, has at most so many characters
pub record SendsFew (most : ℕ) (s : State) (n : ℕ) : Type 0 where
  pub sending : length (s.to_send n) ≤ most
  pub waiting : AllFew most (s.pending n)

-- in no state does a node begin more
pub record BeginsFew (net : Network) (most : ℕ) : Type 0 where
  pub begun : (f : ℕ) (cargo : List ℕ) (end : End) → IsDeclared net f cargo → length (form net f 0 cargo end) ≤ most
  pub answered : (n : ℕ) (memory bytes : List ℕ) (end : End) (r : PendingReply) → n < net.nodes → net.answer n memory bytes end ≡ Some r → length (reply_packet r) ≤ most

module _ (net : Network) (most : ℕ) (few : BeginsFew net most) where
  abbrev Each : State → Type 0
  Each s = (n : ℕ) → SendsFew most s n

  with_few : (l : List PendingReply) (o : Option PendingReply) → AllFew most l → ((r : PendingReply) → o ≡ Some r → length (reply_packet r) ≤ most) → AllFew most (pending_with l o)
  unfolding AllFew
  with_few l None all one = all
  with_few [] (Some r) all one = (one r refl, tt)
  with_few (p ∷ l) (Some r) all one = (all.0, with_few l (Some r) all.1 one)

  reply_few : (n : ℕ) (memory bytes : List ℕ) (x : NChar) (r : PendingReply) → n < net.nodes → reply_at net n memory bytes x ≡ Some r → length (reply_packet r) ≤ most
  reply_few n memory bytes (Data b) r lt is = absurd cc
  reply_few n memory bytes Eop r lt is = few.answered n memory bytes _ r lt is
  reply_few n memory bytes Eep r lt is = few.answered n memory bytes _ r lt is

  first_few : (l : List PendingReply) (r : PendingReply) (others : List PendingReply) → l ≡ r ∷ others → AllFew most l → (length (reply_packet r) ≤ most) × AllFew most others
  unfolding AllFew
  first_few l r others is all = subst (AllFew most) is all

  drops_few : (s t : State) (c w : ℕ) (x : NChar) (l : List NChar) → Drops net s c w x l t → Each s → Each t
  drops_few s t c w (Data h) l d each = subst Each (sym d.1) (λ n. record { sending = (each n).sending; waiting = (each n).waiting })
  drops_few s t c w Eop l d each = subst Each (sym d) (λ n. record { sending = (each n).sending; waiting = (each n).waiting })
  drops_few s t c w Eep l d each = subst Each (sym d) (λ n. record { sending = (each n).sending; waiting = (each n).waiting })

  abbrev Same : State → State → Type 0
  Same s t = (n : ℕ) → SendsFew most s n → SendsFew most t n

  step_few : (s t : State) (step : Step) → Leads net s step t → Each s → Each t
  step_few s t (Fct c) h each = subst Each (sym h.after) (λ n. record { sending = (each n).sending; waiting = (each n).waiting })
  step_few s t (FctIn c) h each = subst Each (sym h.after) (λ n. record { sending = (each n).sending; waiting = (each n).waiting })
  step_few s t (Arrive c) h each = subst Each (sym h.after) (λ n. record { sending = (each n).sending; waiting = (each n).waiting })
  step_few s t (Grant d c) h each = subst Each (sym h.after) (λ n. record { sending = (each n).sending; waiting = (each n).waiting })
  step_few s t (Drop c) h each = drops_few s t c h.switch h.first h.rest h.after each
  step_few s t (Forward c) h each = subst Each (sym h.after) (λ n. record { sending = (each n).sending; waiting = (each n).waiting })
  step_few s t (Spill c) h each = subst Each (sym h.after) (λ n. record { sending = (each n).sending; waiting = (each n).waiting })
  step_few s t (Begin f cargo end) h each = subst Each (sym h.after) (λ n. record {
    sending = put_all (λ l. length l ≤ most) s.to_send (net.flow f).from n (form net f 0 cargo end) (few.begun f cargo end h.declared) (each n).sending;
    waiting = (each n).waiting;
  })
  step_few s t (Emit m) h each = subst Each (sym h.after) (λ n. record {
    sending = put_all (λ l. length l ≤ most) s.to_send m n h.rest (let all = (each m).sending in let is = ap length h.sending in omega arith) (each n).sending;
    waiting = (each n).waiting;
  })
  step_few s t (Accept m) h each = subst Each (sym h.after) (λ n. record {
    sending = (each n).sending;
    waiting = put_all (AllFew most) s.pending m n (pending_with (s.pending m) (reply_at net m (s.memory m) h.bytes h.first))
        (with_few (s.pending m) (reply_at net m (s.memory m) h.bytes h.first) (each m).waiting (λ r is. reply_few m (s.memory m) h.bytes h.first r h.in_net is))
        (each n).waiting;
  })
  step_few s t (Reply m) h each =
      let first = first_few (s.pending m) h.reply h.others h.waits (each m).waiting in
      subst Each (sym h.after) (λ n. record {
        sending = put_all (λ l. length l ≤ most) s.to_send m n (reply_packet h.reply) first.0 (each n).sending;
        waiting = put_all (AllFew most) s.pending m n h.others first.1 (each n).waiting;
      })

  run_few : (steps : List Step) (s t : State) → Run net s steps t → Each s → Each t
  run_few [] s t run each = subst Each (sym run) each
  run_few (x ∷ l) s t (m, h, run) each = run_few l m t run (step_few s m x h each)

  empty_few : Each (empty net)
  unfolding AllFew
  empty_few n = record { sending = omega arith; waiting = tt }

  pub sends_few : (steps : List Step) (s : State) → Run net (empty net) steps s → (n : ℕ) → SendsFew most s n
  sends_few steps s run = run_few steps (empty net) s run empty_few

-- no more replies wait than are owed
pub few_wait : (net : Network) (n : ℕ) (steps : List Step) (s : State) → Owes net n steps s → length (s.pending n) ≤ net.slots n
few_wait net n steps s owes =
    let within = owes.within in
    ⊎_elim
    (λ less. let none = owes.waiting (λ sends. let more = owes.sending sends in omega arith) in absurd (omega arith))
    (λ ge. omega arith)
    (cases_lt (s.owed n) (length (s.pending n)))

-- so many replies have so many characters
pub replies_few : (l : List PendingReply) → AllFew 67108864 l → length_pending l ≤ length l * 67108864
unfolding AllFew
replies_few [] all = omega arith
replies_few (r ∷ l) all =
    let rest = replies_few l all.1 in
    let first = all.0 in
    let sum = sum_by-cons (λ (p : PendingReply). length (reply_packet p)) r l in
    omega arith

module _ (f : ℕ → ℕ) where
  pub total_at_nodes : (n : ℕ) → ((k : ℕ) → k < n → f k ≤ 4362076160) → total n f ≤ n * 4362076160
  total_at_nodes zero each = omega arith
  total_at_nodes (suc n) each = let rest = total_at_nodes n (λ k lt. each k (omega arith)) in let here = each n (omega arith) in omega arith

  pub total_in_channels : (n : ℕ) → ((k : ℕ) → k < n → f k ≤ 8192) → total n f ≤ n * 8192
  total_in_channels zero each = omega arith
  total_in_channels (suc n) each = let rest = total_in_channels n (λ k lt. each k (omega arith)) in let here = each n (omega arith) in omega arith
