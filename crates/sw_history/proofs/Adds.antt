-- What a history keeps when a step is added.
use Rattle.std.proofs.Common.{◌≡◌, ◌++◌, ◌+◌, ◌<◌, ◌≤◌, ◌∷◌, ◌∙◌, ⊎_elim, [], ℕ, List, None, Ok, Some, drop, false, length, map, set, take, refl, sym, ap, subst, arith, append-nil, length-append}
use Rattle.std.proofs.Math.ListN.{drop_of_length-le}
use Rattle.std.proofs.lemmas.List.{map-append, take_all}
use Rattle.std.specs.Prelude.{slice_get}
use Rattle.std.proofs.lemmas.Bool.{cases_eq, false≢true}
use Rattle.std.proofs.lemmas.Option.{same_Some}
use Rattle.sw_char.specs.declared.nchar.End.{End}
use Rattle.sw_config.specs.Valid.{IsValid}
use Rattle.sw_history.proofs.FewBegun.{few_are_begun}
use Rattle.sw_history.specs.History.{HistoryView, IsCounted, IsKept, IsNext, Keeps, with_steps}
use Rattle.sw_history.specs.Next.{beginner_of}
use Rattle.sw_load.proofs.Grown.{begun_at_last, grows, its_own, not_its_own}
use Rattle.sw_load.specs.History.{BeginsNext, IsHistory, KeepsLimit, packets_at, packets_of}
use Rattle.sw_load.specs.Load.{LoadEntry, packet_count}
use Rattle.sw_machine.specs.Begun.{Begun, beginning, beginnings}
use Rattle.sw_machine.specs.Network.{Network}
use Rattle.sw_machine.specs.State.{State}
use Rattle.sw_machine.specs.Steps.{Accept, Arrive, Begin, Drop, Emit, Fct, FctIn, Forward, Grant, Leads, Reply, Spill, Step, is_begin}
use Rattle.sw_machine.specs.Model.{network_of}
use Rattle.sw_net.proofs.CountedCommands.{counted_with_each_step}
use Rattle.sw_net.specs.Net.{NetAnswers, NetView}
use Rattle.sw_net.specs.Unanswered.{Counts, CountsUnanswered, HasCounted}
use Rattle.sw_net.proofs.Steps.{get_set_other, get_set_same}
use Rattle.sw_config.specs.Entries.{Declaration}

-- where no packet begins, no node begins one
pub no_beginner_of : (net : Network) (step : Step) → is_begin step ≡ false → None ≡ beginner_of net step
no_beginner_of net (Begin f cargo end) none = absurd (false≢true (sym none))
no_beginner_of net step none = refl

-- a step that no node begins is no beginning
pub no_beginner : (net : Network) (step : Step) → beginner_of net step ≡ None → is_begin step ≡ false
no_beginner net (Begin f cargo end) h = absurd cc
no_beginner net (Fct c) h = refl
no_beginner net (FctIn c) h = refl
no_beginner net (Arrive c) h = refl
no_beginner net (Grant e c) h = refl
no_beginner net (Drop c) h = refl
no_beginner net (Forward c) h = refl
no_beginner net (Spill c) h = refl
no_beginner net (Emit m) h = refl
no_beginner net (Accept m) h = refl
no_beginner net (Reply m) h = refl

module _ (d : Declaration) (steps : List Step) (begun : List ℕ) (counted : IsCounted d steps begun) where
  abbrev net : Network
  net = network_of d

  nothing_more : (step : Step) (n : ℕ) → packets_at net n (beginning step) ≡ [] → length (packets_at net n (beginnings (steps ++ step ∷ []))) ≡ length (packets_at net n (beginnings steps))
  nothing_more step n none = ap length (begun_at_last net [] steps step n ∙ ap (λ l. packets_at net n (beginnings steps) ++ l) none ∙ append-nil (packets_at net n (beginnings steps)))

  counted_by : (step : Step) → ((n : ℕ) → packets_at net n (beginning step) ≡ []) → IsCounted d (steps ++ step ∷ []) begun
  counted_by step none n count h = counted n count h ∙ sym (nothing_more step n (none n))

  pub none_counted : (step : Step) → is_begin step ≡ false → IsCounted d (steps ++ step ∷ []) begun
  none_counted (Begin f cargo end) h = absurd cc
  none_counted (Fct c) h = counted_by (Fct c) (λ n. refl)
  none_counted (FctIn c) h = counted_by (FctIn c) (λ n. refl)
  none_counted (Arrive c) h = counted_by (Arrive c) (λ n. refl)
  none_counted (Grant e c) h = counted_by (Grant e c) (λ n. refl)
  none_counted (Drop c) h = counted_by (Drop c) (λ n. refl)
  none_counted (Forward c) h = counted_by (Forward c) (λ n. refl)
  none_counted (Spill c) h = counted_by (Spill c) (λ n. refl)
  none_counted (Emit m) h = counted_by (Emit m) (λ n. refl)
  none_counted (Accept m) h = counted_by (Accept m) (λ n. refl)
  none_counted (Reply m) h = counted_by (Reply m) (λ n. refl)

  pub begin_counted : (f : ℕ) (cargo : List ℕ) (end : End) (before : ℕ) → slice_get begun (net.flow f).from ≡ Some before → (net.flow f).from < length begun
      → IsCounted d (steps ++ Begin f cargo end ∷ []) (set begun (net.flow f).from (before + 1))
  begin_counted f cargo end before at lt n count h =
      let m = (net.flow f).from in
      let b : Begun = record { flow = f; cargo = cargo; end = end } in
      ⊎_elim
      (λ same.
      let is : count ≡ before + 1 = same_Some count (before + 1) (sym h ∙ ap (slice_get (set begun m (before + 1))) (sym same) ∙ get_set_same begun m (before + 1) lt) in
      let was = counted m before at in
      let more = ap length (begun_at_last net [] steps (Begin f cargo end) m ∙ ap (λ l. packets_at net m (beginnings steps) ++ l) (its_own net [] b m refl)) in
      let sum = length-append (packets_at net m (beginnings steps)) (b ∷ []) in
      let here : count ≡ length (packets_at net m (beginnings (steps ++ Begin f cargo end ∷ []))) = omega arith in
      here ∙ ap (λ k. length (packets_at net k (beginnings (steps ++ Begin f cargo end ∷ [])))) same)
      (λ other.
      let ne : n ≡ m → ⊥ = λ e. other (sym e) in
      counted n count (sym (get_set_other begun m n (before + 1) ne) ∙ h) ∙ sym (nothing_more (Begin f cargo end) n (not_its_own net [] b n other)))
      (cases_eq m n)

  pub some_counted : (step : Step) (n before : ℕ) → beginner_of net step ≡ Some n → slice_get begun n ≡ Some before → n < length begun → IsCounted d (steps ++ step ∷ []) (set begun n (before + 1))
  some_counted (Begin f cargo end) n before h at lt =
      let same : (net.flow f).from ≡ n = cc in
      subst (λ k. IsCounted d (steps ++ Begin f cargo end ∷ []) (set begun k (before + 1))) same
      (begin_counted f cargo end before (ap (slice_get begun) same ∙ at) (subst (λ k. k < length begun) (sym same) lt))
  some_counted (Fct c) n before h at lt = absurd cc
  some_counted (FctIn c) n before h at lt = absurd cc
  some_counted (Arrive c) n before h at lt = absurd cc
  some_counted (Grant e c) n before h at lt = absurd cc
  some_counted (Drop c) n before h at lt = absurd cc
  some_counted (Forward c) n before h at lt = absurd cc
  some_counted (Spill c) n before h at lt = absurd cc
  some_counted (Emit m) n before h at lt = absurd cc
  some_counted (Accept m) n before h at lt = absurd cc
  some_counted (Reply m) n before h at lt = absurd cc

-- a step that the net made goes to the end of the history
pub add_is_kept : {R A : Type 0} (net after : NetView R A) (load : List LoadEntry) (steps : List Step) (step : Step) (room less : ℕ) (begun more : List ℕ) (counts new_counts : Counts) → IsValid net.declared → packet_count load ≤ 65536 → after.declared ≡ net.declared
    → IsKept net (record { declared = net.declared; load = load; steps = steps; room = room }) begun counts → BeginsNext (network_of net.declared) (packets_of load) steps step
    → ((s : State) → IsHistory (network_of net.declared) (packets_of load) steps s → KeepsLimit (network_of net.declared) steps s step)
    → NetAnswers net step (Ok tt) after → length more ≡ length begun → IsCounted net.declared (steps ++ step ∷ []) more → HasCounted net counts step after new_counts
    → IsKept after (record { declared = after.declared; load = load; steps = steps ++ step ∷ []; room = less }) more new_counts
add_is_kept net after load steps step room less begun more counts new_counts valid total same kept next keep answers all counted has_counted =
    let t = answers kept.state kept.in_net in
    let few = few_are_begun (network_of net.declared) load steps kept.state kept.leads total in
    let is : IsKept after (record { declared = net.declared; load = load; steps = steps ++ step ∷ []; room = less }) more new_counts = record {
      network = same;
      packets = kept.packets;
      all_nodes = all ∙ kept.all_nodes;
      counted = counted;
      state = t.0;
      leads = grows (network_of net.declared) (packets_of load) steps kept.state kept.leads step t.0 t.1 next (keep kept.state kept.leads);
      in_net = t.2;
      unanswered =
          subst (CountsUnanswered net.declared (steps ++ step ∷ []) t.0) (sym (has_counted kept.state t.0 kept.in_net t.2))
          (counted_with_each_step net.declared valid steps kept.state counts kept.leads.run kept.unanswered few step t.0 t.1);
    } in
    subst (λ (e : Declaration). IsKept after (record { declared = e; load = load; steps = steps ++ step ∷ []; room = less }) more new_counts) (sym same) is

-- the list of a vector whose slice was written whole
pub written : (count : ℕ) (xs new : List ℕ) → length new ≡ length xs → count ≡ length xs → take count (new ++ drop (length new) xs) ≡ new
written count xs new same all =
    let none = drop_of_length-le xs {i = length new} (omega arith) in
    let whole = ap (λ l. new ++ l) none ∙ append-nil new in
    let size = ap (λ (l : List ℕ). length l) whole in
    take_all count (new ++ drop (length new) xs) (omega arith) ∙ whole

pub last_of_map : {X Y : Type 0} (f : X → Y) (xs ys : List X) (x : X) → ys ≡ xs ++ x ∷ [] → map f ys ≡ map f xs ++ f x ∷ []
last_of_map f xs ys x e = ap (map f) e ∙ map-append f xs (x ∷ [])

pub made_may_follow : {R A : Type 0} (before after : NetView R A) (h : HistoryView) (begun : List ℕ) (counts : Counts) (step : Step) → IsKept before h begun counts → BeginsNext (network_of h.declared) (packets_of h.load) h.steps step → Keeps h step → NetAnswers before step (Ok tt) after → IsNext h step
made_may_follow before after h begun counts step kept next keep answers =
    let t = answers kept.state kept.in_net in
    (t.0, grows (network_of h.declared) (packets_of h.load) h.steps kept.state kept.leads step t.0 (subst (λ (d : Declaration). Leads (network_of d) kept.state step t.0) kept.network t.1) next (keep kept.state kept.leads))

pub same_view : (h : HistoryView) (d : Declaration) (load : List LoadEntry) (steps : List Step) (room : ℕ) → d ≡ h.declared → load ≡ h.load → (all : List Step) → steps ≡ all → (left : ℕ) → room ≡ left → record { declared = d; load = load; steps = steps; room = room } ≡ with_steps h all left
same_view h d load steps room e f all s left r = cc
