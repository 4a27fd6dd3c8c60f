-- How many packets stand behind the characters, and at the nodes.
use Rattle.std.proofs.Common.{Bool, List, [], ap, append_assoc, arith, count_by, map, refl, suc, sym, zero, ℕ, ⊎_elim, ◌++◌, ◌+◌, ◌<◌, ◌∙◌, ◌∷◌, ◌≡◌}
use Rattle.std.proofs.lemmas.Bool.{cases_eq}
use Rattle.std.proofs.lemmas.List.{map-append}
use Rattle.std.proofs.lemmas.List.Sums.{sum_by-append}
use Rattle.std.specs.Prelude.{if◌then◌else◌}
use Rattle.sw_char.specs.declared.nchar.End.{End}
use Rattle.sw_char.specs.declared.nchar.End.TheVariants.{Eop as ByEop}
use Rattle.sw_char.specs.declared.nchar.NChar.TheVariants.{Data, Eop}
use Rattle.sw_machine.proofs.Ghost.{Entry, Ghost, grant_ghost, open_ghost, send_ghost}
use Rattle.sw_machine.proofs.Lists.{put_here, put_there}
use Rattle.sw_machine.specs.Begun.{Begun}
use Rattle.sw_machine.specs.Network.{Network, form}
use Rattle.sw_rmap.specs.Owing.{PendingReply, reply_packet}
use Rattle.sw_machine.specs.Packets.{marker_of}
use Rattle.sw_machine.specs.Runs.{total}
use Rattle.sw_machine.specs.State.{put}

pub total_same : (n : ℕ) (f g : ℕ → ℕ) → ((k : ℕ) → k < n → f k ≡ g k) → total n f ≡ total n g
total_same zero f g h = refl
total_same (suc n) f g h = let r = total_same n f g (λ k lt. h k (omega arith)) in let e = h n (omega arith) in omega arith

pub total_zero : (n : ℕ) → total n (λ k. 0) ≡ 0
total_zero zero = refl
total_zero (suc n) = let r = total_zero n in omega arith

-- one part changes
pub total_put : {A : Type 0} (n : ℕ) (f : ℕ → A) (c : ℕ) (x : A) (w : A → ℕ) → c < n → total n (λ k. w (put f c x k)) + w (f c) ≡ total n (λ k. w (f k)) + w x
total_put zero f c x w lt = absurd (omega arith)
total_put (suc n) f c x w lt = ⊎_elim
    (λ e.
    let same = total_same n (λ k. w (put f c x k)) (λ k. w (f k)) (λ k lk. ap w (put_there f c x k (omega arith))) in
    let here : w (put f c x n) ≡ w x = ap (λ k. w (put f c x k)) (sym e) ∙ ap w (put_here f c x) in
    let at : w (f c) ≡ w (f n) = ap (λ k. w (f k)) e in
    omega arith)
    (λ ne.
    let r = total_put n f c x w (omega arith) in
    let there : w (put f c x n) ≡ w (f n) = ap w (put_there f c x n (λ e. ne (sym e))) in
    omega arith)
    (cases_eq c n)

abbrev pub begun_of : Entry → Begun
begun_of e = record { flow = e.flow; cargo = e.cargo; end = e.end }

abbrev pub among : (Begun → Bool) → List Entry → ℕ
among test es = count_by (λ e. test (begun_of e)) es

abbrev pub all_of : Network → (Begun → Bool) → Ghost → ℕ
all_of net test g = total net.channels (λ c. among test (g.queue c)) + total net.nodes (λ n. among test (g.came n))

-- the packets of g2 are those of g and these
pub record Balance (net : Network) (g : Ghost) (begun : List Begun) (g2 : Ghost) : Type 0 where
  pub adds : (test : Begun → Bool) → all_of net test g2 ≡ all_of net test g + count_by test begun

pub same_balance : (net : Network) (g : Ghost) (begun : List Begun) → begun ≡ [] → Balance net g begun g
same_balance net g begun e = record { adds = λ test. let c : count_by test begun ≡ 0 = ap (count_by test) e in omega arith }

pub count_cons : {A : Type 0} (test : A → Bool) (x : A) (xs : List A) → count_by test (x ∷ xs) ≡ count_by test (x ∷ []) + count_by test xs
count_cons test x xs = sum_by-append (λ y. if test y then 1 else 0) (x ∷ []) xs

pub count_append : {A : Type 0} (test : A → Bool) (xs ys : List A) → count_by test (xs ++ ys) ≡ count_by test xs + count_by test ys
count_append test xs ys = sum_by-append (λ y. if test y then 1 else 0) xs ys

pub send_balance : (net : Network) (g : Ghost) (n : ℕ) (e : Entry) (begun : List Begun) → net.out n < net.channels → begun ≡ begun_of e ∷ [] → Balance net g begun (send_ghost net g n e)
send_balance net g n e begun lt is = record {
  adds = λ test.
      let q = total_put net.channels g.queue (net.out n) (g.queue (net.out n) ++ e ∷ []) (among test) lt in
      let push = count_append (λ x. test (begun_of x)) (g.queue (net.out n)) (e ∷ []) in
      let one : count_by test begun ≡ among test (e ∷ []) = ap (count_by test) is in
      omega arith;
}

pub grant_balance : (net : Network) (g : Ghost) (d c : ℕ) (e e2 : Entry) (es : List Entry) (begun : List Begun) → c < net.channels → d < net.channels → (d ≡ c → ⊥) → g.queue c ≡ e ∷ es → begun_of e2 ≡ begun_of e → begun ≡ [] → Balance net g begun (grant_ghost net g d c e2 es)
grant_balance net g d c e e2 es begun lc ld ne queue same is = record {
  adds = λ test.
      let q1 = total_put net.channels g.queue c es (among test) lc in
      let q2 = total_put net.channels (put g.queue c es) d (g.queue d ++ e2 ∷ []) (among test) ld in
      let at_d : among test (put g.queue c es d) ≡ among test (g.queue d) = ap (among test) (put_there g.queue c es d ne) in
      let at_c : among test (g.queue c) ≡ among test (e ∷ []) + among test es = ap (among test) queue ∙ count_cons (λ x. test (begun_of x)) e es in
      let push = count_append (λ x. test (begun_of x)) (g.queue d) (e2 ∷ []) in
      let one : among test (e2 ∷ []) ≡ among test (e ∷ []) = ap (λ b. count_by test (b ∷ [])) same in
      let none : count_by test begun ≡ 0 = ap (count_by test) is in
      omega arith;
}

pub open_balance : (net : Network) (g : Ghost) (n : ℕ) (e : Entry) (es : List Entry) (begun : List Begun) → n < net.nodes → net.into n < net.channels → g.queue (net.into n) ≡ e ∷ es → begun ≡ [] → Balance net g begun (open_ghost net g n e es)
open_balance net g n e es begun ln lc queue is = record {
  adds = λ test.
      let q1 = total_put net.channels g.queue (net.into n) es (among test) lc in
      let q2 = total_put net.nodes g.came n (g.came n ++ e ∷ []) (among test) ln in
      let at_c : among test (g.queue (net.into n)) ≡ among test (e ∷ []) + among test es = ap (among test) queue ∙ count_cons (λ x. test (begun_of x)) e es in
      let push = count_append (λ x. test (begun_of x)) (g.came n) (e ∷ []) in
      let none : count_by test begun ≡ 0 = ap (count_by test) is in
      omega arith;
}

-- a reply is a packet of its flow
pub reply_is : (net : Network) (r : PendingReply) (j : ℕ) (cargo : List ℕ) (end : End) → r.address ≡ (net.flow j).address → r.cargo ≡ cargo → end ≡ ByEop → reply_packet r ≡ form net j 0 cargo end
reply_is net r j cargo end goes same is =
    ap (λ l. l ++ Eop ∷ []) (map-append Data r.address r.cargo) ∙ append_assoc (map Data r.address) (map Data r.cargo) (Eop ∷ [])
    ∙ ap (λ a. map Data a ++ (map Data r.cargo ++ Eop ∷ [])) goes
    ∙ ap (λ c. map Data (net.flow j).address ++ (map Data c ++ Eop ∷ [])) same
    ∙ ap (λ m. map Data (net.flow j).address ++ (map Data cargo ++ marker_of m ∷ [])) (sym is)
