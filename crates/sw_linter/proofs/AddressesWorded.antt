-- What is told of addresses, in words.
use Rattle.std.proofs.Common.{◌≡◌, ◌≢◌, ℕ, zero, suc, ◌-◌, ◌<◌, ◌≤◌, Bool, true, false, not, ◌&&◌, ◌||◌, List, [], ◌∷◌, ◌++◌, Contains, Option, Some, None, refl, sym, ap, subst, ◌∙◌, ◌⊎◌, inl, inr, arith, length, eq-eqb}
use Rattle.std.specs.Prelude.{◌↔◌, ◌==◌, filter_map, is_some, option_and_then, option_map, slice_get, if◌then◌else◌}
use Rattle.std.specs.List.{list_any, range_with_len}
use Rattle.std.specs.Option.{option_to_list}
use Rattle.std.proofs.lemmas.Bool.{and_from, and_parts, eqb-true, false≢true, ne_eqb, not-true, or_from, or_parts}
use Rattle.std.proofs.lemmas.Option.{none-some}
use Rattle.sw_rmap.specs.declared.config.TargetConfig.{TargetConfig}
use Rattle.sw_config.specs.Entries.{Declaration, FlowEntry, ReplyEntry, target_of}
use Rattle.sw_circles.proofs.Lawful.{Contains-at}
use Rattle.sw_flow.proofs.Listed.{Contains-cases, Contains-head, Contains-later}
use Rattle.sw_linter.specs.declared.lint.Lint.{Lint}
use Rattle.sw_linter.specs.declared.lint.Lint.TheVariants.{TwoInitiators, WrongInitiator, WrongTarget}
use Rattle.sw_linter.specs.AddressWords.{AddressesAreToldInWords, AnswersAnother, ComesToAnother, ComesWith, DifferInReplies, IsKnownAt}
use Rattle.sw_linter.specs.Lints.{address_to, differing, first_made, is_none_of, is_stranger, known_addresses, left_byte, other_initiator, two_initiators, wrong_at, wrong_initiator, wrong_target}
use Rattle.sw_linter.proofs.Keys.{from_range, in_range}
use Rattle.sw_linter.proofs.Tests.{any_passes, passing}
use Rattle.sw_linter.proofs.Worded.{some_made}
use Rattle.sw_topo.proofs.Lists.{is_some-map}

-- ---- what is made where a test fails

module _ {A : Type 0} where
  unless : (t : Bool) (o : Option A) (a : A) → (if t then None else o) ≡ Some a → (t ≡ false) × (o ≡ Some a)
  unless true o a is = absurd (none-some a is)
  unless false o a is = (refl, is)

  passed : (t : Bool) (o : Option A) (a : A) → t ≡ false → o ≡ Some a → (if t then None else o) ≡ Some a
  passed true o a not_so is = absurd (false≢true (sym not_so))
  passed false o a not_so is = is

  some_if : (t : Bool) (o : Option A) → is_some (if t then o else None) ≡ true → t ≡ true
  some_if true o is = refl
  some_if false o is = absurd (false≢true is)

  provided : (t : Bool) (o : Option A) (a : A) → (if t then o else None) ≡ Some a → (t ≡ true) × (o ≡ Some a)
  provided true o a is = (refl, is)
  provided false o a is = absurd (none-some a is)

  met : (t : Bool) (o : Option A) (a : A) → t ≡ true → o ≡ Some a → (if t then o else None) ≡ Some a
  met true o a so is = is
  met false o a so is = absurd (false≢true so)

module _ {A B : Type 0} (make : A → Option B) where
  joined : (o : Option A) (b : B) → option_and_then make o ≡ Some b → (a : A) × (o ≡ Some a) × (make a ≡ Some b)
  joined None b is = absurd (none-some b is)
  joined (Some a) b is = (a, refl, is)

  some_joined : (o : Option A) → is_some (option_and_then make o) ≡ true → (a : A) × (o ≡ Some a) × (is_some (make a) ≡ true)
  some_joined None is = absurd (false≢true is)
  some_joined (Some a) is = (a, refl, is)

  join : (o : Option A) (a : A) (b : B) → o ≡ Some a → make a ≡ Some b → option_and_then make o ≡ Some b
  join o a b there is = ap (option_and_then make) there ∙ is

is_there : {A : Type 0} (o : Option A) (a : A) → o ≡ Some a → is_some o ≡ true
is_there o a is = ap (λ p. is_some p) is

some_left : (n : ℕ) → (n == 0) ≡ false → 1 ≤ n
some_left zero is = absurd (false≢true (sym is))
some_left (suc n) is = omega arith

apart_of : (a b : ℕ) → (a == b) ≡ false → a ≢ b
apart_of a b is same = false≢true (sym is ∙ eq-eqb a b same)

-- ---- the byte that is left

to_left : (f : FlowEntry) (address : ℕ) → left_byte f ≡ Some address → ComesWith f address
to_left f address is =
    let parts = unless (f.left == 0) (slice_get f.address (length f.address - f.left)) address is in
    record { some = some_left f.left parts.0; first = parts.1 }

from_left : (f : FlowEntry) (address : ℕ) → ComesWith f address → left_byte f ≡ Some address
from_left f address c =
    passed (f.left == 0) (slice_get f.address (length f.address - f.left)) address (ne_eqb f.left 0 (λ none. let some : 1 ≤ f.left = c.some in omega arith)) c.first

-- ---- targets

targets : (d : Declaration) (i : ℕ) (f : FlowEntry) (address logical : ℕ) → (wrong_target d i f ≡ Some (WrongTarget i address logical)) ↔ ComesToAnother d f address logical
targets d i f address logical = (to, from)
  where
    made : ℕ → Option Lint
    made byte = option_and_then (λ target. wrong_at i byte target.logical) (target_of d.nodes f.to)

    to : wrong_target d i f ≡ Some (WrongTarget i address logical) → ComesToAnother d f address logical
    to is =
        let byte = joined made (left_byte f) (WrongTarget i address logical) is in
        let target = joined (λ target. wrong_at i byte.0 target.logical) (target_of d.nodes f.to) (WrongTarget i address logical) byte.2 in
        let told = unless (byte.0 == target.0.logical) (Some (WrongTarget i byte.0 target.0.logical)) (WrongTarget i address logical) target.2 in
        let this : byte.0 ≡ address = let e = told.1 in cc in
        let own : target.0.logical ≡ logical = let e = told.1 in cc in
        record {
          comes = subst (ComesWith f) this (to_left f byte.0 byte.1);
          target = target.0;
          there = target.1;
          own = own;
          another = λ same. apart_of byte.0 target.0.logical told.0 (this ∙ same ∙ sym own);
        }

    from : ComesToAnother d f address logical → wrong_target d i f ≡ Some (WrongTarget i address logical)
    from c =
        join made (left_byte f) address (WrongTarget i address logical) (from_left f address c.comes)
        (join (λ target. wrong_at i address target.logical) (target_of d.nodes f.to) c.target (WrongTarget i address logical) c.there
        (passed (address == c.target.logical) (Some (WrongTarget i address c.target.logical)) (WrongTarget i address logical)
        (ne_eqb address c.target.logical (λ same. c.another (same ∙ c.own))) (ap (λ own. Some (WrongTarget i address own)) c.own)))

-- ---- addresses that a node is known to have

from_made : {A B : Type 0} (make : A → Option B) (xs : List A) (b : B) → Contains (filter_map make xs) b → (x : A) × Contains xs x × (make x ≡ Some b)
from_made make [] b (k, lt, e) = absurd (omega (arith, lt))
from_made {A} {B} make (x ∷ xs) b h = by (make x) refl h (from_made make xs b)
  where
    later : (y : A) × Contains xs y × (make y ≡ Some b) → (y : A) × Contains (x ∷ xs) y × (make y ≡ Some b)
    later (y, there, is) = (y, Contains-later x y xs there, is)

    by : (o : Option B) → make x ≡ o → Contains (filter_map make (x ∷ xs)) b → (Contains (filter_map make xs) b → (y : A) × Contains xs y × (make y ≡ Some b))
        → (y : A) × Contains (x ∷ xs) y × (make y ≡ Some b)
    by None is h on = later (on (rw is at h))
    by (Some y) is h on = elim (Contains-cases y b (filter_map make xs) (rw is at h)) [
      | inl same ↦ (x, Contains-head x xs, is ∙ ap Some same)
      | inr there ↦ later (on there)
    ]

to_made : {A B : Type 0} (make : A → Option B) (xs : List A) (x : A) (b : B) → Contains xs x → make x ≡ Some b → Contains (filter_map make xs) b
to_made make [] x b (k, lt, e) is = absurd (omega (arith, lt))
to_made {A} {B} make (y ∷ ys) x b h is = elim (Contains-cases y x ys h) [
  | inl same ↦ rw (ap make same ∙ is) (Contains-head b (filter_map make ys))
  | inr there ↦ by (make y) refl (to_made make ys x b there is)
]
  where
    by : (o : Option B) → make y ≡ o → Contains (filter_map make ys) b → Contains (filter_map make (y ∷ ys)) b
    by None none on = rw none on
    by (Some z) some on = rw some (Contains-later z b (filter_map make ys) on)

numbered : {A : Type 0} (xs : List A) (x : A) → Contains xs x → (i : ℕ) × (slice_get xs i ≡ Some x)
numbered [] x (k, lt, e) = absurd (omega (arith, lt))
numbered (y ∷ ys) x h = elim (Contains-cases y x ys h) [
  | inl same ↦ (0, ap Some same)
  | inr there ↦ let rest = numbered ys x there in (suc rest.0, rest.1)
]

in_front : {A : Type 0} (xs ys : List A) (x : A) → Contains (xs ++ ys) x → Contains xs x ⊎ Contains ys x
in_front [] ys x h = inr h
in_front (y ∷ xs) ys x h = elim (Contains-cases y x (xs ++ ys) h) [
  | inl same ↦ inl (subst (λ z. Contains (y ∷ xs) z) same (Contains-head y xs))
  | inr there ↦ elim (in_front xs ys x there) [
    | inl front ↦ inl (Contains-later y x xs front)
    | inr back ↦ inr back
  ]
]

at_front : {A : Type 0} (xs ys : List A) (x : A) → Contains xs x → Contains (xs ++ ys) x
at_front [] ys x (k, lt, e) = absurd (omega (arith, lt))
at_front (y ∷ xs) ys x h = elim (Contains-cases y x xs h) [
  | inl same ↦ subst (λ z. Contains (y ∷ (xs ++ ys)) z) same (Contains-head y (xs ++ ys))
  | inr there ↦ Contains-later y x (xs ++ ys) (at_front xs ys x there)
]

at_back : {A : Type 0} (xs ys : List A) (x : A) → Contains ys x → Contains (xs ++ ys) x
at_back [] ys x h = h
at_back (y ∷ xs) ys x h = Contains-later y x (xs ++ ys) (at_back xs ys x h)

module _ (d : Declaration) (n : ℕ) where
  abbrev of_target : List ℕ
  of_target = option_to_list (option_map (λ target. target.logical) (target_of d.nodes n))

  as_target : (o : Option TargetConfig) (address : ℕ) → Contains (option_to_list (option_map (λ target. target.logical) o)) address
      → (target : TargetConfig) × (o ≡ Some target) × (target.logical ≡ address)
  as_target None address (k, lt, e) = absurd (omega (arith, lt))
  as_target (Some target) address h = elim (Contains-cases target.logical address [] h) [
    | inl same ↦ (target, refl, same)
    | inr (k, lt, e) ↦ absurd (omega (arith, lt))
  ]

  known : (address : ℕ) → Contains (known_addresses d n) address → IsKnownAt d n address
  known address h = elim (in_front of_target (filter_map (address_to n) d.flows) address h) [
    | inl own ↦ let t = as_target (target_of d.nodes n) address own in inl (record { target = t.0; there = t.1; logical = t.2 })
    | inr sent ↦
        let m = from_made (address_to n) d.flows address sent in
        let at = numbered d.flows m.0 m.1 in
        let parts = provided (m.0.to == n) (left_byte m.0) address m.2 in
        inr (record { number = at.0; flow = m.0; numbered = at.1; to = eqb-true m.0.to n parts.0; comes = to_left m.0 address parts.1 })
  ]

  as_known : (address : ℕ) → IsKnownAt d n address → Contains (known_addresses d n) address
  as_known address (inl t) =
      let here : Contains (option_to_list (option_map (λ target. target.logical) (Some t.target))) address = subst (λ a. Contains (a ∷ []) address) (sym t.logical) (Contains-head address []) in
      at_front of_target (filter_map (address_to n) d.flows) address
      (subst (λ (o : Option TargetConfig). Contains (option_to_list (option_map (λ target. target.logical) o)) address) (sym t.there) here)
  as_known address (inr s) =
      at_back of_target (filter_map (address_to n) d.flows) address
      (to_made (address_to n) d.flows s.flow address (Contains-at d.flows s.number s.flow s.numbered)
      (met (s.flow.to == n) (left_byte s.flow) address (eq-eqb s.flow.to n s.to) (from_left s.flow address s.comes)))

none_there : (xs : List ℕ) (address : ℕ) → is_none_of xs address ≡ true → ((own : ℕ) × Contains xs own) × (Contains xs address → ⊥)
none_there [] address is = absurd (false≢true is)
none_there (x ∷ xs) address is = (
  (x, Contains-head x xs),
  λ there. false≢true (sym (not-true (list_any (λ own. own == address) (x ∷ xs)) is) ∙ any_passes (λ own. own == address) (x ∷ xs) address there (eq-eqb address address refl)),
)

there_none : (xs : List ℕ) (address own : ℕ) → Contains xs own → (Contains xs address → ⊥) → is_none_of xs address ≡ true
there_none [] address own (k, lt, e) none = absurd (omega (arith, lt))
there_none (x ∷ xs) address own some none = by (list_any (λ y. y == address) (x ∷ xs)) refl
  where
    by : (b : Bool) → list_any (λ y. y == address) (x ∷ xs) ≡ b → not b ≡ true
    by false is = refl
    by true is =
        let at = passing (λ y. y == address) (x ∷ xs) is in
        absurd (none (subst (λ y. Contains (x ∷ xs) y) (eqb-true at.element address at.passes) at.listed))

initiators : (d : Declaration) (i : ℕ) (f : FlowEntry) (address : ℕ) → (wrong_initiator d i f ≡ Some (WrongInitiator i address)) ↔ AnswersAnother d f address
initiators d i f address = (to, from)
  where
    made : ReplyEntry → Option Lint
    made r = if r.initiator == 254 || not (is_stranger d f.from r.initiator) then None else Some (WrongInitiator i r.initiator)

    not_not : (b : Bool) → not b ≡ false → b ≡ true
    not_not true is = refl
    not_not false is = absurd (false≢true (sym is))

    to : wrong_initiator d i f ≡ Some (WrongInitiator i address) → AnswersAnother d f address
    to is =
        let reply = joined made f.reply (WrongInitiator i address) is in
        let told = unless (reply.0.initiator == 254 || not (is_stranger d f.from reply.0.initiator)) (Some (WrongInitiator i reply.0.initiator)) (WrongInitiator i address) reply.2 in
        let this : reply.0.initiator ≡ address = let e = told.1 in cc in
        let parts = or_parts (reply.0.initiator == 254) (not (is_stranger d f.from reply.0.initiator)) told.0 in
        let none = none_there (known_addresses d f.from) reply.0.initiator (not_not (is_stranger d f.from reply.0.initiator) parts.1) in
        record {
          reply = reply.0;
          replied = reply.1;
          initiator = this;
          stands = λ same. apart_of reply.0.initiator 254 parts.0 (this ∙ same);
          own = none.0.0;
          known = known d f.from none.0.0 none.0.1;
          another = λ is_known. none.1 (subst (λ a. Contains (known_addresses d f.from) a) (sym this) (as_known d f.from address is_known));
        }

    from : AnswersAnother d f address → wrong_initiator d i f ≡ Some (WrongInitiator i address)
    from c =
        let r = c.reply in
        let strange : is_stranger d f.from r.initiator ≡ true =
        there_none (known_addresses d f.from) r.initiator c.own (as_known d f.from c.own c.known)
        (λ there. c.another (subst (IsKnownAt d f.from) c.initiator (known d f.from r.initiator there))) in
        join made f.reply r (WrongInitiator i address) c.replied
        (passed (r.initiator == 254 || not (is_stranger d f.from r.initiator)) (Some (WrongInitiator i r.initiator)) (WrongInitiator i address)
        (or_from (r.initiator == 254) (not (is_stranger d f.from r.initiator)) (ne_eqb r.initiator 254 (λ same. c.stands (sym c.initiator ∙ same))) (ap not strange))
        (ap (λ a. Some (WrongInitiator i a)) c.initiator))

-- ---- two flows between the same nodes

one_differs : (d : Declaration) (i : ℕ) (f : FlowEntry) (r : ReplyEntry) (j : ℕ) → f.reply ≡ Some r → is_some (differing d i f r.initiator j) ≡ true → DifferInReplies d f j
one_differs d i f r j replied is =
    let some = sym (is_some-map (λ one. TwoInitiators j i one r.initiator) (option_and_then (other_initiator f r.initiator) (slice_get d.flows j))) ∙ is in
    let other = some_joined (other_initiator f r.initiator) (slice_get d.flows j) some in
    let g = other.0 in
    let replies = some_joined (λ (s : ReplyEntry). if (g.from == f.from && g.to == f.to) && not (s.initiator == r.initiator) then Some s.initiator else None) g.reply other.2 in
    let s = replies.0 in
    let parts = some_if ((g.from == f.from && g.to == f.to) && not (s.initiator == r.initiator)) (Some s.initiator) replies.2 in
    let both = and_parts (g.from == f.from && g.to == f.to) (not (s.initiator == r.initiator)) parts in
    let ends = and_parts (g.from == f.from) (g.to == f.to) both.0 in
    record {
      other = g;
      numbered = other.1;
      from = eqb-true g.from f.from ends.0;
      to = eqb-true g.to f.to ends.1;
      reply = r;
      replied = replied;
      replies = s;
      has = replies.1;
      apart = apart_of s.initiator r.initiator (not-true (s.initiator == r.initiator) both.1);
    }

differs_one : (d : Declaration) (i : ℕ) (f : FlowEntry) (j : ℕ) (c : DifferInReplies d f j) → is_some (differing d i f c.reply.initiator j) ≡ true
differs_one d i f j c =
    let g = c.other in
    let s = c.replies in
    let r = c.reply in
    is_some-map (λ one. TwoInitiators j i one r.initiator) (option_and_then (other_initiator f r.initiator) (slice_get d.flows j))
    ∙ is_there (option_and_then (other_initiator f r.initiator) (slice_get d.flows j)) s.initiator
    (join (other_initiator f r.initiator) (slice_get d.flows j) g s.initiator c.numbered
    (join (λ (t : ReplyEntry). if (g.from == f.from && g.to == f.to) && not (t.initiator == r.initiator) then Some t.initiator else None) g.reply s s.initiator c.has
    (met ((g.from == f.from && g.to == f.to) && not (s.initiator == r.initiator)) (Some s.initiator) s.initiator
    (and_from (g.from == f.from && g.to == f.to) (not (s.initiator == r.initiator))
    (and_from (g.from == f.from) (g.to == f.to) (eq-eqb g.from f.from c.from) (eq-eqb g.to f.to c.to)) (ap not (ne_eqb s.initiator r.initiator c.apart))) refl)))

pairs : (d : Declaration) (i : ℕ) (f : FlowEntry) → (is_some (two_initiators d i f) ≡ true) ↔ ((j : ℕ) × (j < i) × DifferInReplies d f j)
pairs d i f = (to, from)
  where
    made : ReplyEntry → Option Lint
    made r = first_made (differing d i f r.initiator) (range_with_len 0 i)

    to : is_some (two_initiators d i f) ≡ true → (j : ℕ) × (j < i) × DifferInReplies d f j
    to is =
        let reply = some_joined made f.reply is in
        let r = reply.0 in
        let at = passing (λ j. is_some (differing d i f r.initiator j)) (range_with_len 0 i) (sym (some_made (differing d i f r.initiator) (range_with_len 0 i)) ∙ reply.2) in
        (at.element, omega (arith, (from_range 0 i at.element at.listed).1), one_differs d i f r at.element reply.1 at.passes)

    from : (j : ℕ) × (j < i) × DifferInReplies d f j → is_some (two_initiators d i f) ≡ true
    from (j, earlier, c) =
        ap (λ (o : Option ReplyEntry). is_some (option_and_then made o)) c.replied
        ∙ some_made (differing d i f c.reply.initiator) (range_with_len 0 i)
        ∙ any_passes (λ k. is_some (differing d i f c.reply.initiator k)) (range_with_len 0 i) j (in_range 0 i j (omega arith) (omega (arith, earlier))) (differs_one d i f j c)

pub addresses_in_words : AddressesAreToldInWords
addresses_in_words d i f = record { targets = targets d i f; initiators = initiators d i f; pairs = pairs d i f }
