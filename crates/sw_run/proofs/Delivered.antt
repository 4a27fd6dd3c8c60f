-- What a run delivers where nothing is undelivered.
use Rattle.std.proofs.Common.{All, Bool, List, None, [], ap, arith, cond, count_by, eq-eqb, false, filter, nat_eq, nat_le, ne_eqb, refl, subst, sym, true, ℕ, ⊎_elim, ◌++◌, ◌+◌, ◌<◌, ◌∙◌, ◌∷◌, ◌≡◌, ◌≤◌}
use Rattle.std.proofs.lemmas.Bool.{cases_eq}
use Rattle.std.proofs.lemmas.Bool.Decides.{nat_tests}
use Rattle.std.proofs.lemmas.List.Elements.{All-append, All-cons, All-head, All-nil, All-tail, filter-append}
use Rattle.std.specs.Option.{option_map_or}
use Rattle.std.specs.Prelude.{◌&&◌}
use Rattle.sw_load.specs.History.{packets_at}
use Rattle.sw_machine.proofs.Balance.{count_append}
use Rattle.sw_machine.proofs.Free.{is_deadlock_free_within_limits}
use Rattle.sw_machine.proofs.Ghost.{Ghost, Inv}
use Rattle.sw_machine.proofs.Runs.{empty_inv, none, run_begins, step_keeps, waits_at}
use Rattle.sw_machine.proofs.Whole.{count_sent, goes_to}
use Rattle.sw_machine.specs.Begun.{Begins, Begun, RunOf, beginning, beginnings, is_answered_at}
use Rattle.sw_machine.specs.Certificate.{Certificate, IsAccepted}
use Rattle.sw_machine.specs.Network.{IsNetwork, Network, left_bytes}
use Rattle.sw_machine.specs.Owing.{PendingReply}
use Rattle.sw_machine.specs.Packets.{Packet}
use Rattle.sw_machine.specs.Runs.{Run, undelivered}
use Rattle.sw_machine.specs.State.{State, empty}
use Rattle.sw_machine.specs.Steps.{Accept, Arrive, Begin, Drop, Emit, Fct, FctIn, Forward, Grant, Leads, Reply, Spill, Step}
use Rattle.sw_run.proofs.Counts.{count_filter, same_counts}
use Rattle.sw_run.specs.Laws.{IsDelivered, IsOfReplies}
use Rattle.sw_run.specs.Outcomes.{AreOut}

is_below : (a b : ℕ) → a < b → nat_le b a ≡ false
is_below a b lt = grind (arith, nat_tests)

is_within : (a b : ℕ) → a ≤ b → nat_le a b ≡ true
is_within a b le = grind (arith, nat_tests)

within_is : (a b : ℕ) → nat_le a b ≡ true → a ≤ b
within_is a b e = grind (arith, nat_tests)

module _ (net : Network) where
  abbrev is_reply : Begun → Bool
  is_reply b = nat_le net.declared_flows b.flow

  abbrev replies_of : List Begun → List Begun
  replies_of begun = filter is_reply begun

  all_replies : (begun : List Begun) → All (λ b. b.flow < net.flows) begun → All (λ b. IsOfReplies net b.flow) (replies_of begun)
  all_replies [] within = All-nil (λ b. IsOfReplies net b.flow)
  all_replies (b ∷ begun) within = by (is_reply b) refl (all_replies begun (All-tail (λ b. b.flow < net.flows) b begun within))
    where
      by : (a : Bool) → is_reply b ≡ a → All (λ b. IsOfReplies net b.flow) (replies_of begun) → All (λ b. IsOfReplies net b.flow) (cond a (b ∷ replies_of begun) (replies_of begun))
      by true is h = All-cons (λ b. IsOfReplies net b.flow) b (replies_of begun) (record { in_flows = All-head (λ b. b.flow < net.flows) b begun within; after_declared = within_is net.declared_flows b.flow is }) h
      by false is h = h

  none_split : (t : Begun → Bool) (begun : List Begun) → begun ≡ [] → count_by t begun ≡ 0 + count_by t (replies_of begun)
  none_split t begun e = ap (count_by t) e ∙ ap (λ l. 0 + count_by t (replies_of l)) (sym e)

  unanswered : (n : ℕ) (test : List ℕ → Bool) (b : Begun) → net.reply_to (net.flow b.flow).to (left_bytes net b.flow b.cargo) ≡ None → is_answered_at net n test b ≡ false
  unanswered n test b e =
      let to = (net.flow b.flow).to in
      let bytes = left_bytes net b.flow b.cargo in
      ⊎_elim
      (λ same. ap (λ m. nat_eq to m && option_map_or test (net.reply_to m bytes) false) (sym same) ∙ ap (λ o. nat_eq to to && option_map_or test o false) e ∙ ap (λ a. a && false) (eq-eqb to to refl))
      (λ ne. ap (λ a. a && option_map_or test (net.reply_to n bytes) false) (ne_eqb to n ne))
      (cases_eq to n)

  module _ (cert : Certificate) (ok : IsNetwork net) (acc : IsAccepted net cert) where
    -- a step begins what its beginning begins, and replies
    first_split : (t : Begun → Bool) (s : State) (step : Step) (u : State) (begun : List Begun) → Leads net s step u → Begins net s step begun → count_by t begun ≡ count_by t (beginning step) + count_by t (replies_of begun)
    first_split t s (Begin f cargo end) u begun h b =
        let x : Begun = record { flow = f; cargo = cargo; end = end } in
        let no : replies_of begun ≡ [] = ap replies_of b ∙ ap (λ a. cond a (x ∷ []) []) (is_below f net.declared_flows h.declared.declared) in
        let a = ap (count_by t) b in
        let c = ap (count_by t) no in
        omega arith
    first_split t s (Reply n) u begun h b =
        let r = b.1 in
        let le = (ok.reply_flow r.asked (b.0).flow r.in_flows r.by).after_declared in
        let yes : replies_of begun ≡ begun = ap replies_of b.2 ∙ ap (λ a. cond a (b.0 ∷ []) []) (is_within net.declared_flows (b.0).flow le) ∙ sym b.2 in
        let c = ap (count_by t) yes in
        omega arith
    first_split t s (Fct c) u begun h b = none_split t begun b
    first_split t s (FctIn c) u begun h b = none_split t begun b
    first_split t s (Arrive c) u begun h b = none_split t begun b
    first_split t s (Grant d c) u begun h b = none_split t begun b
    first_split t s (Drop c) u begun h b = none_split t begun b
    first_split t s (Forward c) u begun h b = none_split t begun b
    first_split t s (Spill c) u begun h b = none_split t begun b
    first_split t s (Emit n) u begun h b = none_split t begun b
    first_split t s (Accept n) u begun h b = none_split t begun b

    run_split : (t : Begun → Bool) (steps : List Step) (s u : State) (begun : List Begun) → RunOf net s steps begun u → count_by t begun ≡ count_by t (beginnings steps) + count_by t (replies_of begun)
    run_split t [] s u begun r = none_split t begun r.0
    run_split t (step ∷ steps) s u begun r =
        let a = first_split t s step r.0 r.1 r.3 r.4 in
        let b = run_split t steps r.0 u r.2 r.6 in
        let c = ap (count_by t) r.5 in
        let d = count_append t r.1 r.2 in
        let e = count_append t (beginning step) (beginnings steps) in
        let f = ap (count_by t) (ap replies_of r.5 ∙ filter-append is_reply r.1 r.2) in
        let g = count_append t (replies_of r.1) (replies_of r.2) in
        omega arith

    -- what is begun goes by the network's flows
    abbrev InFlows : Begun → Type 0
    InFlows b = b.flow < net.flows

    no_flows : (begun : List Begun) → begun ≡ [] → All InFlows begun
    no_flows begun e = subst (All InFlows) (sym e) (All-nil InFlows)

    first_in_flows : (s : State) (step : Step) (u : State) (begun : List Begun) → Leads net s step u → Begins net s step begun → All InFlows begun
    first_in_flows s (Begin f cargo end) u begun h b =
        let x : Begun = record { flow = f; cargo = cargo; end = end } in
        let small : f < net.declared_flows = h.declared.declared in
        let few : net.declared_flows ≤ net.flows = ok.flows_declared in
        subst (All InFlows) (sym b) (All-cons InFlows x [] (omega (arith, small, few)) (All-nil InFlows))
    first_in_flows s (Reply n) u begun h b =
        let r = b.1 in
        subst (All InFlows) (sym b.2) (All-cons InFlows b.0 [] (ok.reply_flow r.asked (b.0).flow r.in_flows r.by).in_flows (All-nil InFlows))
    first_in_flows s (Fct c) u begun h b = no_flows begun b
    first_in_flows s (FctIn c) u begun h b = no_flows begun b
    first_in_flows s (Arrive c) u begun h b = no_flows begun b
    first_in_flows s (Grant d c) u begun h b = no_flows begun b
    first_in_flows s (Drop c) u begun h b = no_flows begun b
    first_in_flows s (Forward c) u begun h b = no_flows begun b
    first_in_flows s (Spill c) u begun h b = no_flows begun b
    first_in_flows s (Emit n) u begun h b = no_flows begun b
    first_in_flows s (Accept n) u begun h b = no_flows begun b

    all_in_flows : (steps : List Step) (s u : State) (begun : List Begun) → RunOf net s steps begun u → All InFlows begun
    all_in_flows [] s u begun r = no_flows begun r.0
    all_in_flows (step ∷ steps) s u begun r =
        subst (All InFlows) (sym r.5) (All-append InFlows r.1 r.2 (first_in_flows s step r.0 r.1 r.3 r.4) (all_in_flows steps r.0 u r.2 r.6))

    -- replies are not answered
    nothing_first : (n : ℕ) (test : List ℕ → Bool) (begun : List Begun) → begun ≡ [] → count_by (is_answered_at net n test) (replies_of begun) ≡ 0
    nothing_first n test begun e = ap (λ l. count_by (is_answered_at net n test) (replies_of l)) e

    first_unanswered : (n : ℕ) (test : List ℕ → Bool) (s : State) (g : Ghost) (step : Step) (u : State) (begun : List Begun) → Leads net s step u → Begins net s step begun → Inv net cert s g → count_by (is_answered_at net n test) (replies_of begun) ≡ 0
    first_unanswered n test s g (Begin f cargo end) u begun h b inv =
        let x : Begun = record { flow = f; cargo = cargo; end = end } in
        ap (count_by (is_answered_at net n test)) (ap replies_of b ∙ ap (λ a. cond a (x ∷ []) []) (is_below f net.declared_flows h.declared.declared))
    first_unanswered n test s g (Reply m) u begun h b inv =
        let w = waits_at net cert ok acc s g m h.reply h.others h.in_net h.waits inv in
        let p = b.0 in
        let r = b.1 in
        let both : h.reply ∷ h.others ≡ r.reply ∷ r.others = sym h.waits ∙ r.waits in
        let same : h.reply ≡ r.reply = cc in
        let goes : h.reply.address ≡ (net.flow p.flow).address = ap (λ (a : PendingReply). a.address) same ∙ r.goes in
        let cargo : h.reply.cargo ≡ p.cargo = ap (λ (a : PendingReply). a.cargo) same ∙ sym r.cargo in
        let end = ok.answers.replies_end r.asked p.flow m w.memory w.bytes h.reply w.end r.in_flows h.in_net r.by w.answer goes in
        let never : net.reply_to (net.flow p.flow).to (left_bytes net p.flow p.cargo) ≡ None = subst (λ k. net.reply_to (net.flow p.flow).to (left_bytes net p.flow k) ≡ None) cargo end in
        let le = (ok.reply_flow r.asked p.flow r.in_flows r.by).after_declared in
        ap (count_by (is_answered_at net n test)) (ap replies_of b.2 ∙ ap (λ a. cond a (p ∷ []) []) (is_within net.declared_flows p.flow le))
        ∙ ap (λ a. 0 + cond a 1 0) (unanswered n test p never)
    first_unanswered n test s g (Fct c) u begun h b inv = nothing_first n test begun b
    first_unanswered n test s g (FctIn c) u begun h b inv = nothing_first n test begun b
    first_unanswered n test s g (Arrive c) u begun h b inv = nothing_first n test begun b
    first_unanswered n test s g (Grant d c) u begun h b inv = nothing_first n test begun b
    first_unanswered n test s g (Drop c) u begun h b inv = nothing_first n test begun b
    first_unanswered n test s g (Forward c) u begun h b inv = nothing_first n test begun b
    first_unanswered n test s g (Spill c) u begun h b inv = nothing_first n test begun b
    first_unanswered n test s g (Emit m) u begun h b inv = nothing_first n test begun b
    first_unanswered n test s g (Accept m) u begun h b inv = nothing_first n test begun b

    run_unanswered : (n : ℕ) (test : List ℕ → Bool) (steps : List Step) (s : State) (g : Ghost) (u : State) (begun : List Begun) → RunOf net s steps begun u → Inv net cert s g → count_by (is_answered_at net n test) (replies_of begun) ≡ 0
    run_unanswered n test [] s g u begun r inv = nothing_first n test begun r.0
    run_unanswered n test (step ∷ steps) s g u begun r inv =
        let k = step_keeps net cert ok acc s g step r.0 r.1 r.3 r.4 inv in
        let a = first_unanswered n test s g step r.0 r.1 r.3 r.4 inv in
        let b = run_unanswered n test steps r.0 k.ghost u r.2 r.6 k.inv in
        let c = ap (count_by (is_answered_at net n test)) (ap replies_of r.5 ∙ filter-append is_reply r.1 r.2) in
        let d = count_append (is_answered_at net n test) (replies_of r.1) (replies_of r.2) in
        omega arith

    pub delivered : (packets : List Begun) (steps : List Step) (s : State) (lists : List (List Packet)) → Run net (empty net) steps s
        → ((n : ℕ) → packets_at net n (beginnings steps) ≡ packets_at net n packets) → undelivered net s ≡ 0 → AreOut net.nodes s lists → IsDelivered net packets lists
    delivered packets steps s lists run whole all out =
        let free = is_deadlock_free_within_limits net cert ok acc in
        let b = run_begins net cert ok acc steps (empty net) (none net cert ok acc) s run (empty_inv net cert ok acc) in
        let begun = b.0 in
        let same : (t : Begun → Bool) → count_by t (beginnings steps) ≡ count_by t packets = λ t. same_counts (λ b. (net.flow b.flow).from) t (beginnings steps) packets whole in
        record {
          replies = replies_of begun;
          of_reply_flows = all_replies begun (all_in_flows steps (empty net) s begun b.1);
          out = λ n ps ln at test.
              let a = free.all_comes_out steps begun s b.1 all n ln ps (out.out n ps at) test in
              let c = count_sent net n test begun in
              let d = count_sent net n test (packets ++ replies_of begun) in
              let e = run_split (goes_to net n test) steps (empty net) s begun b.1 in
              let f = same (goes_to net n test) in
              let g = count_append (goes_to net n test) packets (replies_of begun) in
              omega arith;
          answered = λ n ln test.
              let a = free.all_is_answered steps begun s b.1 all n ln test in
              let c = count_filter is_reply (λ b. nat_eq (net.flow b.flow).from n && test (net.flow b.flow).address) begun in
              let d = run_split (is_answered_at net n test) steps (empty net) s begun b.1 in
              let e = run_unanswered n test steps (empty net) (none net cert ok acc) s begun b.1 (empty_inv net cert ok acc) in
              let f = same (is_answered_at net n test) in
              omega arith;
        }
