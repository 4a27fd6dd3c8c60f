-- Drained runs of one load bring as many packets to each node.
use Rattle.std.proofs.Common.{Bool, List, Some, [], ap, arith, count_by, false, length, map, nat_eq, refl, suc, sym, true, ℕ, ◌++◌, ◌+◌, ◌<◌, ◌∙◌, ◌∷◌, ◌≡◌}
use Rattle.std.proofs.lemmas.Option.{slice_get_within}
use Rattle.std.specs.Prelude.{slice_get, ◌&&◌}
use Rattle.sw_config.proofs.Flows.{All-at}
use Rattle.sw_machine.proofs.Balance.{count_append, count_cons}
use Rattle.sw_machine.proofs.Whole.{count_sent, goes_to}
use Rattle.sw_machine.specs.Begun.{Begun}
use Rattle.sw_machine.specs.Certificate.{Certificate, IsAccepted}
use Rattle.sw_machine.specs.Network.{IsNetwork, Network}
use Rattle.sw_machine.specs.Packets.{Packet}
use Rattle.sw_run.proofs.SameCounts.{as_many, count_same}
use Rattle.sw_run.specs.Laws.{IsDelivered, IsOfReplies}

count_all : {X : Type 0} (xs : List X) → count_by (λ x. true) xs ≡ length xs
count_all [] = refl
count_all (x ∷ xs) = let rest = count_all xs in let c = count_cons (λ x. true) x xs in omega arith

and_true_is : (a : Bool) → (a && true) ≡ a
and_true_is true = refl
and_true_is false = refl

same_lengths : {X : Type 0} (xs ys : List (List X)) → length xs ≡ length ys → ((k : ℕ) (p q : List X) → slice_get xs k ≡ Some p → slice_get ys k ≡ Some q → length p ≡ length q) → map length xs ≡ map length ys
same_lengths [] [] size same = refl
same_lengths [] (y ∷ ys) size same = absurd (omega (arith, size))
same_lengths (x ∷ xs) [] size same = absurd (omega (arith, size))
same_lengths (x ∷ xs) (y ∷ ys) size same =
    let sizes : length xs ≡ length ys = omega (arith, size) in
    let rest = same_lengths xs ys sizes (λ k p q a b. same (suc k) p q a b) in
    let first = same 0 x y refl refl in
    λ i. first i ∷ rest i

module _ (net : Network) (cert : Certificate) (ok : IsNetwork net) (acc : IsAccepted net cert) (packets : List Begun) (lists others : List (List Packet))
    (one : IsDelivered net packets lists) (other : IsDelivered net packets others) where
  abbrev any : Packet → Bool
  any p = true

  -- so many came out at a node
  came : (all : List (List Packet)) (is : IsDelivered net packets all) (n : ℕ) (ps : List Packet) → n < net.nodes → slice_get all n ≡ Some ps
      → length ps ≡ count_by (goes_to net n any) packets + count_by (goes_to net n any) is.replies
  came all is n ps lt at =
      sym (count_all ps) ∙ is.out n ps lt at any ∙ count_sent net n any (packets ++ is.replies) ∙ count_append (goes_to net n any) packets is.replies

  same_replies : (n : ℕ) → count_by (goes_to net n any) one.replies ≡ count_by (goes_to net n any) other.replies
  same_replies n =
      let P : Begun → Type 0 = λ b. IsOfReplies net b.flow in
      let to : Begun → Bool = λ b. nat_eq (net.flow b.flow).to n in
      let same = as_many net cert ok acc one.replies other.replies (λ k b at. All-at P one.replies k b at one.of_reply_flows) (λ k b at. All-at P other.replies k b at other.of_reply_flows)
      (λ m lt test. one.answered m lt test ∙ sym (other.answered m lt test)) n in
      count_same (goes_to net n any) to one.replies (λ k b at. and_true_is (to b)) ∙ same ∙ sym (count_same (goes_to net n any) to other.replies (λ k b at. and_true_is (to b)))

  pub one_count : length lists ≡ net.nodes → length others ≡ net.nodes → map length lists ≡ map length others
  one_count size also = same_lengths lists others (size ∙ sym also) (λ n p q a b.
      let within = slice_get_within lists n p a in
      let lt : n < net.nodes = omega (arith, within, size) in
      came lists one n p lt a ∙ ap (λ (k : ℕ). count_by (goes_to net n any) packets + k) (same_replies n) ∙ sym (came others other n q lt b))
