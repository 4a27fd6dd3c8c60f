-- Runs that keep the limits on unanswered commands.
use Rattle.std.proofs.Common.{Bool, List, None, Option, Some, [], ap, append-nil, append_assoc, arith, count_by, eq-eqb, false, inl, inr, is_some, le-ltb, length, lt-ltb, map, nat_lt, ne_eqb, refl, subst, sym, true, ℕ, ⊎_elim, ◌++◌, ◌+◌, ◌-◌, ◌<◌, ◌∙◌, ◌∷◌, ◌≡◌, ◌≢◌, ◌≤◌, ◌⊎◌}
use Rattle.std.proofs.lemmas.Bool.{cases_eq, cases_lt}
use Rattle.std.proofs.lemmas.Grind.{flat_map-append}
use Rattle.std.proofs.lemmas.List.{length-map, nil_from_length}
use Rattle.std.proofs.lemmas.List.Sums.{sum_by-cons, sum_by_push}
use Rattle.std.specs.List.{AllByRecursion}
use Rattle.std.specs.Option.{option_map}
use Rattle.std.specs.Prelude.{if◌then◌else◌}
use Rattle.sw_char.specs.declared.nchar.End.{End}
use Rattle.sw_char.specs.declared.nchar.End.TheVariants.{Eep as ByEep, Eop as ByEop}
use Rattle.sw_char.specs.declared.nchar.NChar.{NChar}
use Rattle.sw_char.specs.declared.nchar.NChar.TheVariants.{Data, Eep, Eop}
use Rattle.sw_machine.proofs.Answered.{no_pending}
use Rattle.sw_machine.proofs.Balance.{among, begun_of, count_append, count_cons}
use Rattle.sw_machine.proofs.Cuts.{cons_tail, cut_byte, cut_marker, cut_of, cuts_are_equal, front_of, no_cons, no_packet_in, same_front}
use Rattle.sw_machine.proofs.Ghost.{Entry, IsEntry, flat, form_of}
use Rattle.sw_machine.proofs.Lists.{flat_chars, packet_of, put_there}
use Rattle.sw_machine.proofs.Load.{Short, all_append, all_map, of_beginning, run_short, run_sum, sum_le, sum_le_all}
use Rattle.sw_machine.proofs.Owed.{AsMany, OneMore, Owing, reached_holds}
use Rattle.sw_machine.proofs.Progress.{HaveSlots}
use Rattle.sw_machine.proofs.RunLists.{run_append}
use Rattle.sw_machine.proofs.Runs.{empty_inv, none, reached_of, run_begins}
use Rattle.sw_machine.proofs.Whole.{all_comes_out, comes_out_whole, count_sent, is_left, part_below, zero_part}
use Rattle.sw_machine.specs.Begun.{Begun, RunOf, beginning, beginnings}
use Rattle.sw_machine.specs.Certificate.{Certificate, IsAccepted}
use Rattle.sw_machine.specs.Limits.{IsWithinLimit, KeepsLimits, WithoutLimitsAllAreKept, is_command_at, is_command_to, unanswered}
use Rattle.sw_machine.specs.Network.{IsNetwork, Network, left_bytes}
use Rattle.sw_machine.specs.Owed.{last_beginning}
use Rattle.sw_machine.specs.Packets.{IsCut, Packet, chars, chars_of, marker_of}
use Rattle.sw_machine.specs.Places.{AllAreLimited}
use Rattle.sw_machine.specs.Runs.{CameOut, Run, undelivered}
use Rattle.sw_machine.specs.State.{State, empty, put, reply_at}
use Rattle.sw_machine.specs.Steps.{Accept, Arrive, Begin, Drop, Drops, Emit, Fct, FctIn, Forward, Grant, Leads, Reply, Spill, Step, is_begin}
use Rattle.sw_rmap.specs.Owing.{PendingReply, length_pending, owed_after, owed_with}

-- ---- lists

one_at_most : (t : Bool) → (if t then 1 else 0) ≤ 1
one_at_most true = omega arith
one_at_most false = omega arith

one_where : (t : Bool) → t ≡ true → 1 ≤ (if t then 1 else 0)
one_where true e = omega arith
one_where false e = absurd (cc)

count_few : {A : Type 0} (test : A → Bool) (xs : List A) → count_by test xs ≤ length xs
count_few test [] = omega arith
count_few test (x ∷ xs) = let r = count_few test xs in let c = sum_by-cons (λ x. if test x then 1 else 0) x xs in let o = one_at_most (test x) in omega arith

count_all : {A : Type 0} (test : A → Bool) (xs : List A) → AllByRecursion (λ x. test x ≡ true) xs → count_by test xs ≡ length xs
count_all test [] all = refl
count_all test (x ∷ xs) all =
    let r = count_all test xs all.1 in
    let c = sum_by-cons (λ x. if test x then 1 else 0) x xs in
    let o = one_where (test x) all.0 in
    let few = one_at_most (test x) in
    omega arith

flat_append : (net : Network) (es fs : List Entry) → flat net (es ++ fs) ≡ flat net es ++ flat net fs
flat_append net [] fs = refl
flat_append net (e ∷ es) fs = ap (λ l. form_of net e ++ l) (flat_append net es fs) ∙ sym (append_assoc (form_of net e) (flat net es) (flat net fs))

-- where packets are a front of others, and something is left, there are fewer of them
fewer : (ps qs : List Packet) (l : List NChar) → chars ps ++ l ≡ chars qs → l ≢ [] → length ps < length qs
fewer [] [] l e some = absurd (some e)
fewer [] (q ∷ qs) l e some = omega arith
fewer (p ∷ ps) [] l e some = absurd (no_packet_in p (chars ps ++ l) (sym (append_assoc (chars_of p) (chars ps) l) ∙ e))
fewer (p ∷ ps) (q ∷ qs) l e some =
    let f = same_front p.bytes q.bytes p.end q.end (chars ps ++ l) (chars qs ++ []) (sym (front_of p ps l) ∙ e ∙ sym (append-nil (chars (q ∷ qs))) ∙ front_of q qs []) in
    let r = fewer ps qs l (f.2 ∙ append-nil (chars qs)) some in
    omega arith

some_more : {A : Type 0} (l : List A) (x : A) (m : List A) → l ++ x ∷ m ≢ []
some_more [] x m e = no_cons x m e
some_more (y ∷ l) x m e = no_cons y (l ++ x ∷ m) e

-- a front of a list with one more is the whole of it, or a front of the list
front_or_all : {A : Type 0} (before after l : List A) (x : A) → before ++ after ≡ l ++ x ∷ [] → (before ≡ l ++ x ∷ []) ⊎ ((rest : List A) × (before ++ rest ≡ l))
front_or_all {A = A} [] after l x e = inr (l, refl)
front_or_all {A = A} (b ∷ before) after [] x e = inl (all before after (cons_tail b x (before ++ after) [] e) (head e))
  where
    head : b ∷ (before ++ after) ≡ x ∷ [] → b ≡ x
    head e = cc

    all : (before after : List A) → before ++ after ≡ [] → b ≡ x → b ∷ before ≡ x ∷ []
    all [] after e is = ap (λ y. y ∷ []) is
    all (y ∷ before) after e is = absurd (no_cons y (before ++ after) e)
front_or_all {A = A} (b ∷ before) after (y ∷ l) x e = ⊎_elim
    (λ whole. inl (ap (λ z. z ∷ before) is ∙ ap (λ k. y ∷ k) whole))
    (λ part. inr (part.0, ap (λ z. z ∷ (before ++ part.0)) is ∙ ap (λ k. y ∷ k) part.1))
    (front_or_all before after l x (cons_tail b y (before ++ after) (l ++ x ∷ []) e))
  where
    is : b ≡ y
    is = cc

-- the last of a list with one more
push_same : {A : Type 0} (xs ys : List A) (x y : A) → xs ++ x ∷ [] ≡ ys ++ y ∷ [] → x ≡ y
push_same [] [] x y e = cc
push_same [] (b ∷ ys) x y e = absurd (some_more ys y [] (sym (cons_tail x b [] (ys ++ y ∷ []) e)))
push_same (a ∷ xs) [] x y e = absurd (some_more xs x [] (cons_tail a y (xs ++ x ∷ []) [] e))
push_same (a ∷ xs) (b ∷ ys) x y e = push_same xs ys x y (cons_tail a b (xs ++ x ∷ []) (ys ++ y ∷ []) e)

-- ---- steps other than beginnings

no_begin_is : (flow : ℕ) (cargo : List ℕ) (end : End) (step : Step) → is_begin step ≡ false → Begin flow cargo end ≡ step → ⊥
no_begin_is flow cargo end step none e = let is : is_begin step ≡ true = ap is_begin (sym e) in cc

pub keeps_push : (net : Network) (steps : List Step) (step : Step) → is_begin step ≡ false → KeepsLimits net steps → KeepsLimits net (steps ++ step ∷ [])
keeps_push net steps step none keeps before after flow cargo end s e r = ⊎_elim
    (λ whole. absurd (no_begin_is flow cargo end step none (push_same before steps (Begin flow cargo end) step whole)))
    (λ part. keeps before part.0 flow cargo end s (sym (append_assoc before (Begin flow cargo end ∷ []) part.0) ∙ part.1) r)
    (front_or_all (before ++ Begin flow cargo end ∷ []) after steps step (append_assoc before (Begin flow cargo end ∷ []) after ∙ e))

pub keeps_more : (net : Network) (steps more : List Step) → count_by is_begin more ≡ 0 → KeepsLimits net steps → KeepsLimits net (steps ++ more)
keeps_more net steps [] none keeps = subst (KeepsLimits net) (sym (append-nil steps)) keeps
keeps_more net steps (step ∷ more) none keeps =
    let c = count_cons is_begin step more in
    let first = no_begin (is_begin step) refl in
    subst (KeepsLimits net) (append_assoc steps (step ∷ []) more) (keeps_more net (steps ++ step ∷ []) more (omega arith) (keeps_push net steps step first keeps))
  where
    no_begin : (t : Bool) → is_begin step ≡ t → is_begin step ≡ false
    no_begin false is = is
    no_begin true is =
        let c = count_cons is_begin step more in
        let one : count_by is_begin (step ∷ []) ≡ 1 = rw is refl in
        absurd (omega arith)

-- a packet more is begun, where the limit of the node where its flow ends is kept
pub keeps_begin : (net : Network) (steps : List Step) (flow : ℕ) (cargo : List ℕ) (end : End) → KeepsLimits net steps → ((s : State) → Run net (empty net) (steps ++ Begin flow cargo end ∷ []) s → IsWithinLimit net (steps ++ Begin flow cargo end ∷ []) s (net.flow flow).to) → KeepsLimits net (steps ++ Begin flow cargo end ∷ [])
keeps_begin net steps flow cargo end keeps last before after flow2 cargo2 end2 s e r = ⊎_elim
    (λ whole.
    let same : Begin flow2 cargo2 end2 ≡ Begin flow cargo end = push_same before steps (Begin flow2 cargo2 end2) (Begin flow cargo end) whole in
    let is : flow ≡ flow2 = cc in
    subst (λ l. IsWithinLimit net l s (net.flow flow2).to) (sym whole) (subst (λ k. IsWithinLimit net (steps ++ Begin flow cargo end ∷ []) s (net.flow k).to) is (last s (subst (λ l. Run net (empty net) l s) whole r))))
    (λ part. keeps before part.0 flow2 cargo2 end2 s (sym (append_assoc before (Begin flow2 cargo2 end2 ∷ []) part.0) ∙ part.1) r)
    (front_or_all (before ++ Begin flow2 cargo2 end2 ∷ []) after steps (Begin flow cargo end) (append_assoc before (Begin flow2 cargo2 end2 ∷ []) after ∙ e))

-- ---- without limits

pub all_are_kept : WithoutLimitsAllAreKept
all_are_kept net free steps before after flow cargo end s e r limit came is out = let no : None ≡ Some limit = sym (free (net.flow flow).to) ∙ is in absurd (cc)

-- ---- what a step changes of what a node took, and of what it owes

-- the owed replies are those that wait, or one more
waits_owed : (net : Network) (n : ℕ) (steps : List Step) (s : State) → Run net (empty net) steps s → (length (s.pending n) ≤ s.owed n) × (s.owed n ≤ length (s.pending n) + 1)
waits_owed net n steps s r = enough (reached_holds net n steps s r).owing
  where
    enough : Owing net n (last_beginning net n steps) (s.to_send n) (s.pending n) (s.owed n) → (length (s.pending n) ≤ s.owed n) × (s.owed n ≤ length (s.pending n) + 1)
    enough (OneMore l some e) = (omega arith, omega arith)
    enough (AsMany l e) = (omega arith, omega arith)

module _ (net : Network) (n : ℕ) where
  -- nothing was taken, and one reply at most was sent whole; a byte was, or the end of a packet was, whose reply, if it has one, is owed
  data Taking (taken : List NChar) (owed : ℕ) (taken2 : List NChar) (owed2 : ℕ) : Type 0 where
    Nothing : taken2 ≡ taken → owed2 ≤ owed → owed ≤ owed2 + 1 → Taking taken owed taken2 owed2
    Byte : (b : ℕ) → taken2 ≡ taken ++ Data b ∷ [] → owed2 ≡ owed → Taking taken owed taken2 owed2
    Ends : (ps : List Packet) (memory bytes : List ℕ) (end : End) → IsCut taken ps bytes → taken2 ≡ taken ++ marker_of end ∷ [] → owed2 ≡ owed_with owed (net.answer n memory bytes end) → Taking taken owed taken2 owed2

  abbrev TakingAt : State → State → Type 0
  TakingAt s t = Taking (s.taken n) (s.owed n) (t.taken n) (t.owed n)

  same : (s : State) → TakingAt s s
  same s = Nothing refl (omega arith) (omega arith)

  dropped : (s : State) (c switch : ℕ) (first : NChar) (rest : List NChar) (t : State) → Drops net s c switch first rest t → TakingAt s t
  dropped s c switch (Data b) rest t d = subst (TakingAt s) (sym d.1) (same s)
  dropped s c switch Eop rest t d = subst (TakingAt s) (sym d) (same s)
  dropped s c switch Eep rest t d = subst (TakingAt s) (sym d) (same s)

  emitted : (rest : List NChar) (pending : List PendingReply) (owed : ℕ) → (length pending ≤ owed) × (owed ≤ length pending + 1) → (owed_after rest pending owed ≤ owed) × (owed ≤ owed_after rest pending owed + 1)
  emitted [] pending owed le = le
  emitted (x ∷ rest) pending owed le = (omega arith, omega arith)

  accepted : (s : State) (ps : List Packet) (bytes : List ℕ) (first : NChar) → IsCut (s.taken n) ps bytes → Taking (s.taken n) (s.owed n) (s.taken n ++ first ∷ []) (owed_with (s.owed n) (reply_at net n (s.memory n) bytes first))
  accepted s ps bytes (Data b) cut = Byte b refl refl
  accepted s ps bytes Eop cut = Ends ps (s.memory n) bytes ByEop cut refl refl
  accepted s ps bytes Eep cut = Ends ps (s.memory n) bytes ByEep cut refl refl

  taking : (s : State) (step : Step) (t : State) → (length (s.pending n) ≤ s.owed n) × (s.owed n ≤ length (s.pending n) + 1) → Leads net s step t → TakingAt s t
  taking s (Fct c) t le h = subst (TakingAt s) (sym h.after) (same s)
  taking s (FctIn c) t le h = subst (TakingAt s) (sym h.after) (same s)
  taking s (Arrive c) t le h = subst (TakingAt s) (sym h.after) (same s)
  taking s (Grant d c) t le h = subst (TakingAt s) (sym h.after) (same s)
  taking s (Drop c) t le h = dropped s c h.switch h.first h.rest t h.after
  taking s (Forward c) t le h = subst (TakingAt s) (sym h.after) (same s)
  taking s (Spill c) t le h = subst (TakingAt s) (sym h.after) (same s)
  taking s (Begin f cargo end) t le h = subst (TakingAt s) (sym h.after) (same s)
  taking s (Emit m) t le h = subst (TakingAt s) (sym h.after) (⊎_elim
      (λ here. Nothing refl (
      let is : put s.owed m (owed_after h.rest (s.pending m) (s.owed m)) n ≡ owed_after h.rest (s.pending n) (s.owed n) = rw (eq-eqb n m here) (ap (λ k. owed_after h.rest (s.pending k) (s.owed k)) (sym here)) in
      let fewer = (emitted h.rest (s.pending n) (s.owed n) le).0 in
      omega arith) (
      let is : put s.owed m (owed_after h.rest (s.pending m) (s.owed m)) n ≡ owed_after h.rest (s.pending n) (s.owed n) = rw (eq-eqb n m here) (ap (λ k. owed_after h.rest (s.pending k) (s.owed k)) (sym here)) in
      let most = (emitted h.rest (s.pending n) (s.owed n) le).1 in
      omega arith))
      (λ ne.
      Nothing refl (let is = put_there s.owed m (owed_after h.rest (s.pending m) (s.owed m)) n ne in omega arith)
      (let is = put_there s.owed m (owed_after h.rest (s.pending m) (s.owed m)) n ne in omega arith))
      (cases_eq n m))
  taking s (Accept m) t le h = subst (TakingAt s) (sym h.after) (⊎_elim
      (λ here. rw (eq-eqb n m here) (subst (λ k. Taking (s.taken n) (s.owed n) (s.taken k ++ h.first ∷ []) (owed_with (s.owed k) (reply_at net k (s.memory k) h.bytes h.first))) here
      (accepted s h.packets h.bytes h.first (subst (λ k. IsCut (s.taken k) h.packets h.bytes) (sym here) h.cut))))
      (λ ne. rw (ne_eqb n m ne) (same s))
      (cases_eq n m))
  taking s (Reply m) t le h = subst (TakingAt s) (sym h.after) (same s)

-- ---- what is unanswered

no_beginning : (step : Step) → is_begin step ≡ false → beginning step ≡ []
no_beginning (Begin f cargo end) e = absurd (cc)
no_beginning (Fct c) e = refl
no_beginning (FctIn c) e = refl
no_beginning (Arrive c) e = refl
no_beginning (Grant d c) e = refl
no_beginning (Drop c) e = refl
no_beginning (Forward c) e = refl
no_beginning (Spill c) e = refl
no_beginning (Emit n) e = refl
no_beginning (Accept n) e = refl
no_beginning (Reply n) e = refl

pub beginnings_push : (steps : List Step) (step : Step) → beginnings (steps ++ step ∷ []) ≡ beginnings steps ++ beginning step
beginnings_push steps step = flat_map-append beginning steps (step ∷ []) ∙ ap (λ l. beginnings steps ++ l) (append-nil (beginning step))

pub beginnings_stay : (steps : List Step) (step : Step) → is_begin step ≡ false → beginnings (steps ++ step ∷ []) ≡ beginnings steps
beginnings_stay steps step e = beginnings_push steps step ∙ ap (λ l. beginnings steps ++ l) (no_beginning step e) ∙ append-nil (beginnings steps)

-- 1 where less is owed than before: a reply was sent whole
abbrev pub one_sent : ℕ → ℕ → ℕ
one_sent before after = if nat_lt after before then 1 else 0

pub stays : (before after : ℕ) → before ≤ after → one_sent before after ≡ 0
stays before after le = rw (le-ltb after before le) refl

module _ (net : Network) (ok : IsNetwork net) where
  pub same_count : (n : ℕ) (s t : State) (came now : List Packet) → CameOut s n came → CameOut t n now → t.taken n ≡ s.taken n → now ≡ came
  same_count n s t came now out out2 e = (cuts_are_equal (s.taken n) now came out2.0 out.0 (sym e ∙ out2.1) out.1).0

  owes_more : (n : ℕ) (p : Packet) (owed : ℕ) (o : Option PendingReply) → option_map (λ (r : PendingReply). r.address) o ≡ net.reply_to n p.bytes → owed_with owed o ≡ owed + (if is_command_at net n p then 1 else 0)
  owes_more n p owed None e = let c = ap (λ o. owed + (if is_some o then 1 else 0)) e in omega arith
  owes_more n p owed (Some r) e = ap (λ o. owed + (if is_some o then 1 else 0)) e

  raised : (n : ℕ) → n < net.nodes → (begun few : ℕ) (s t : State) (came now : List Packet) → CameOut s n came → CameOut t n now → few ≡ begun → Taking net n (s.taken n) (s.owed n) (t.taken n) (t.owed n) → (few + t.owed n) - count_by (is_command_at net n) now ≤ (begun + s.owed n) - count_by (is_command_at net n) came
  raised n ln begun few s t came now out out2 is (Nothing taken owed most) = let c = ap (count_by (is_command_at net n)) (same_count n s t came now out out2 taken) in omega arith
  raised n ln begun few s t came now out out2 is (Byte b taken owed) =
      let cut = cut_byte (s.taken n) came out.0 b out.1 in
      let equal = (cuts_are_equal (s.taken n ++ Data b ∷ []) now came out2.0 (out.0 ++ b ∷ []) (sym taken ∙ out2.1) cut).0 in
      let c = ap (count_by (is_command_at net n)) equal in
      omega arith
  raised n ln begun few s t came now out out2 is (Ends ps memory bytes end cut taken owed) =
      let p : Packet = record { bytes = bytes; end = end } in
      let more = cut_marker (s.taken n) ps bytes end cut in
      let equal = (cuts_are_equal (s.taken n ++ marker_of end ∷ []) now (ps ++ p ∷ []) out2.0 [] (sym taken ∙ out2.1) more).0 in
      let before = (cuts_are_equal (s.taken n) came ps out.0 bytes out.1 cut).0 in
      let a = ap (count_by (is_command_at net n)) equal in
      let b = ap (count_by (is_command_at net n)) before in
      let push = sum_by_push (λ p. if is_command_at net n p then 1 else 0) ps p in
      let o = owes_more n p (s.owed n) (net.answer n memory bytes end) (ok.answers.reply_goes n memory bytes end ln) in
      omega arith

  pub only_beginnings_raise : (steps : List Step) (s : State) → Run net (empty net) steps s → (step : Step) (t : State) → is_begin step ≡ false → Leads net s step t → (n : ℕ) → n < net.nodes → (came now : List Packet) → CameOut s n came → CameOut t n now → unanswered net n (steps ++ step ∷ []) now t ≤ unanswered net n steps came s
  only_beginnings_raise steps s r step t none leads n ln came now out out2 =
      let stay = ap (count_by (is_command_to net n)) (beginnings_stay steps step none) in
      raised n ln (count_by (is_command_to net n) (beginnings steps)) (count_by (is_command_to net n) (beginnings (steps ++ step ∷ []))) s t came now out out2 stay (taking net n s step t (waits_owed net n steps s r) leads)

  -- ---- how many replies were sent whole

  -- what is owed fell by one, or not at all
  fell : (before after : ℕ) → after ≤ before → before ≤ after + 1 → one_sent before after + after ≡ before
  fell before after less most = ⊎_elim
      (λ lt. rw (lt-ltb after before lt) (omega arith))
      (λ ge. rw (le-ltb after before ge) (omega arith))
      (cases_lt after before)

  sent_by : (n : ℕ) → n < net.nodes → (s t : State) (came now : List Packet) → CameOut s n came → CameOut t n now → Taking net n (s.taken n) (s.owed n) (t.taken n) (t.owed n)
      → (one_sent (s.owed n) (t.owed n) + t.owed n) + count_by (is_command_at net n) came ≡ s.owed n + count_by (is_command_at net n) now
  sent_by n ln s t came now out out2 (Nothing taken less most) =
      let c = ap (count_by (is_command_at net n)) (same_count n s t came now out out2 taken) in
      let f = fell (s.owed n) (t.owed n) less most in
      omega arith
  sent_by n ln s t came now out out2 (Byte b taken owed) =
      let cut = cut_byte (s.taken n) came out.0 b out.1 in
      let equal = (cuts_are_equal (s.taken n ++ Data b ∷ []) now came out2.0 (out.0 ++ b ∷ []) (sym taken ∙ out2.1) cut).0 in
      let c = ap (count_by (is_command_at net n)) equal in
      let z = stays (s.owed n) (t.owed n) (omega arith) in
      omega arith
  sent_by n ln s t came now out out2 (Ends ps memory bytes end cut taken owed) =
      let p : Packet = record { bytes = bytes; end = end } in
      let more = cut_marker (s.taken n) ps bytes end cut in
      let equal = (cuts_are_equal (s.taken n ++ marker_of end ∷ []) now (ps ++ p ∷ []) out2.0 [] (sym taken ∙ out2.1) more).0 in
      let before = (cuts_are_equal (s.taken n) came ps out.0 bytes out.1 cut).0 in
      let a = ap (count_by (is_command_at net n)) equal in
      let b = ap (count_by (is_command_at net n)) before in
      let push = sum_by_push (λ p. if is_command_at net n p then 1 else 0) ps p in
      let o = owes_more n p (s.owed n) (net.answer n memory bytes end) (ok.answers.reply_goes n memory bytes end ln) in
      let z = stays (s.owed n) (t.owed n) (omega arith) in
      omega arith

  -- what is owed, and the replies that were sent whole, are the commands that came out: each step but a beginning keeps that
  pub replies_sent : (steps : List Step) (s : State) → Run net (empty net) steps s → (step : Step) (t : State) → Leads net s step t → (n : ℕ) → n < net.nodes → (came now : List Packet) → CameOut s n came → CameOut t n now
      → (one_sent (s.owed n) (t.owed n) + t.owed n) + count_by (is_command_at net n) came ≡ s.owed n + count_by (is_command_at net n) now
  replies_sent steps s r step t leads n ln came now out out2 = sent_by n ln s t came now out out2 (taking net n s step t (waits_owed net n steps s r) leads)

  -- only the emission of a node's character lowers what it owes
  pub owes_still : (n : ℕ) (s : State) (step : Step) (t : State) → Leads net s step t → (step ≡ Emit n → ⊥) → s.owed n ≤ t.owed n
  owes_still n s (Fct c) t h other = let e = ap (λ (u : State). u.owed n) h.after in omega arith
  owes_still n s (FctIn c) t h other = let e = ap (λ (u : State). u.owed n) h.after in omega arith
  owes_still n s (Arrive c) t h other = let e = ap (λ (u : State). u.owed n) h.after in omega arith
  owes_still n s (Grant d c) t h other = let e = ap (λ (u : State). u.owed n) h.after in omega arith
  owes_still n s (Drop c) t h other = dropped_owes h.first h.after
    where
      dropped_owes : (first : NChar) → Drops net s c h.switch first h.rest t → s.owed n ≤ t.owed n
      dropped_owes (Data b) d = let e = ap (λ (u : State). u.owed n) d.1 in omega arith
      dropped_owes Eop d = let e = ap (λ (u : State). u.owed n) d in omega arith
      dropped_owes Eep d = let e = ap (λ (u : State). u.owed n) d in omega arith
  owes_still n s (Forward c) t h other = let e = ap (λ (u : State). u.owed n) h.after in omega arith
  owes_still n s (Spill c) t h other = let e = ap (λ (u : State). u.owed n) h.after in omega arith
  owes_still n s (Begin f cargo end) t h other = let e = ap (λ (u : State). u.owed n) h.after in omega arith
  owes_still n s (Emit m) t h other =
      let e = ap (λ (u : State). u.owed n) h.after in
      let is = put_there s.owed m (owed_after h.rest (s.pending m) (s.owed m)) n (λ here. other (ap Emit (sym here))) in
      omega arith
  owes_still n s (Accept m) t h other = ⊎_elim
      (λ here.
      let e : t.owed n ≡ owed_with (s.owed m) (reply_at net m (s.memory m) h.bytes h.first) = ap (λ (u : State). u.owed n) h.after ∙ (rw (eq-eqb n m here) refl) in
      let more = no_less (s.owed m) (reply_at net m (s.memory m) h.bytes h.first) in
      let was = ap s.owed here in
      omega arith)
      (λ ne. let e : t.owed n ≡ s.owed n = ap (λ (u : State). u.owed n) h.after ∙ (rw (ne_eqb n m ne) refl) in omega arith)
      (cases_eq n m)
    where
      no_less : (owed : ℕ) (o : Option PendingReply) → owed ≤ owed_with owed o
      no_less owed None = omega arith
      no_less owed (Some r) = omega arith
  owes_still n s (Reply m) t h other = let e = ap (λ (u : State). u.owed n) h.after in omega arith

  -- the beginning of a packet to another node changes nothing of what is unanswered here
  away : (n flow : ℕ) (cargo : List ℕ) (end : End) → ((net.flow flow).to ≡ n → ⊥) → count_by (is_command_to net n) (record { flow = flow; cargo = cargo; end = end } ∷ []) ≡ 0
  away n flow cargo end ne = rw (ne_eqb (net.flow flow).to n ne) refl

  other_begins : (steps : List Step) (flow : ℕ) (cargo : List ℕ) (end : End) (s t : State) → Leads net s (Begin flow cargo end) t → (n : ℕ) → ((net.flow flow).to ≡ n → ⊥) → IsWithinLimit net steps s n → IsWithinLimit net (steps ++ Begin flow cargo end ∷ []) t n
  other_begins steps flow cargo end s t leads n ne within limit now is out =
      let taken : t.taken n ≡ s.taken n = ap (λ (u : State). u.taken n) leads.after in
      let owed : t.owed n ≡ s.owed n = ap (λ (u : State). u.owed n) leads.after in
      let cut = cut_of (s.taken n) in
      let came : CameOut s n cut.0 = (cut.1, cut.2) in
      let before = within limit cut.0 is came in
      let push = ap (count_by (is_command_to net n)) (beginnings_push steps (Begin flow cargo end)) in
      let both = count_append (is_command_to net n) (beginnings steps) (beginning (Begin flow cargo end)) in
      let none = away n flow cargo end ne in
      let same = ap (count_by (is_command_at net n)) (same_count n s t cut.0 now came out taken) in
      omega arith

  others_within : (steps : List Step) (s : State) (step : Step) (t : State) → Run net (empty net) steps s → Leads net s step t → is_begin step ≡ false → (n : ℕ) → n < net.nodes → IsWithinLimit net steps s n → IsWithinLimit net (steps ++ step ∷ []) t n
  others_within steps s step t r leads none n ln within limit now is out =
      let cut = cut_of (s.taken n) in
      let came : CameOut s n cut.0 = (cut.1, cut.2) in
      let before = within limit cut.0 is came in
      let raise = only_beginnings_raise steps s r step t none leads n ln cut.0 now came out in
      omega arith

  -- a step of a run that keeps the limits leaves each node within its limit
  step_within : (done more : List Step) (s t : State) (step : Step) → KeepsLimits net (done ++ step ∷ more) → Run net (empty net) done s → Leads net s step t → (n : ℕ) → n < net.nodes → IsWithinLimit net done s n → IsWithinLimit net (done ++ step ∷ []) t n
  step_within done more s t (Begin flow cargo end) keeps r leads n ln within = ⊎_elim
      (λ to. subst (IsWithinLimit net (done ++ Begin flow cargo end ∷ []) t) to (keeps done more flow cargo end t refl (run_append net done (Begin flow cargo end ∷ []) (empty net) s t r (t, leads, refl))))
      (λ ne. other_begins done flow cargo end s t leads n ne within)
      (cases_eq (net.flow flow).to n)
  step_within done more s t (Fct c) keeps r leads n ln within = others_within done s (Fct c) t r leads refl n ln within
  step_within done more s t (FctIn c) keeps r leads n ln within = others_within done s (FctIn c) t r leads refl n ln within
  step_within done more s t (Arrive c) keeps r leads n ln within = others_within done s (Arrive c) t r leads refl n ln within
  step_within done more s t (Grant d c) keeps r leads n ln within = others_within done s (Grant d c) t r leads refl n ln within
  step_within done more s t (Drop c) keeps r leads n ln within = others_within done s (Drop c) t r leads refl n ln within
  step_within done more s t (Forward c) keeps r leads n ln within = others_within done s (Forward c) t r leads refl n ln within
  step_within done more s t (Spill c) keeps r leads n ln within = others_within done s (Spill c) t r leads refl n ln within
  step_within done more s t (Emit m) keeps r leads n ln within = others_within done s (Emit m) t r leads refl n ln within
  step_within done more s t (Accept m) keeps r leads n ln within = others_within done s (Accept m) t r leads refl n ln within
  step_within done more s t (Reply m) keeps r leads n ln within = others_within done s (Reply m) t r leads refl n ln within

  run_within : (done more : List Step) (s t : State) → KeepsLimits net (done ++ more) → Run net (empty net) done s → Run net s more t → (n : ℕ) → n < net.nodes → IsWithinLimit net done s n → IsWithinLimit net (done ++ more) t n
  run_within done [] s t keeps r q n ln within = subst (λ l. IsWithinLimit net l t n) (sym (append-nil done)) (subst (λ u. IsWithinLimit net done u n) (sym q) within)
  run_within done (step ∷ more) s t keeps r q n ln within =
      let one = step_within done more s q.0 step keeps r q.1 n ln within in
      let joined = append_assoc done (step ∷ []) more in
      subst (λ l. IsWithinLimit net l t n) joined
      (run_within (done ++ step ∷ []) more q.0 t (subst (KeepsLimits net) (sym joined) keeps) (run_append net done (step ∷ []) (empty net) s q.0 r (q.0, q.1, refl)) q.2 n ln one)

  pub kept_after_each_step : (steps : List Step) (s : State) → Run net (empty net) steps s → KeepsLimits net steps → (n : ℕ) → n < net.nodes → IsWithinLimit net steps s n
  kept_after_each_step steps s r keeps n ln = run_within [] steps (empty net) s keeps refl r n ln (λ limit came is out. omega arith)

module _ (net : Network) (cert : Certificate) (ok : IsNetwork net) (acc : IsAccepted net cert) where
  -- a packet that is a reply is no command, so each command was begun by a beginning
  not_a_reply : (n : ℕ) (b : Begun) → Short net cert ok acc b → (if is_command_to net n b then 1 else 0) ≤ of_beginning net (λ b. if is_command_to net n b then 1 else 0) b
  not_a_reply n b short = ⊎_elim
      (λ lt. rw (lt-ltb b.flow net.declared_flows lt) (omega arith))
      (λ ge. rw (le-ltb b.flow net.declared_flows ge) (⊎_elim
      (λ to.
      let none : net.reply_to n (left_bytes net b.flow b.cargo) ≡ None = subst (λ k. net.reply_to k (left_bytes net b.flow b.cargo) ≡ None) to (short ge).unanswered in
      rw (eq-eqb (net.flow b.flow).to n to, none) (omega arith))
      (λ away. rw (ne_eqb (net.flow b.flow).to n away) (omega arith))
      (cases_eq (net.flow b.flow).to n)))
      (cases_lt b.flow net.declared_flows)

  pub commands_are_begun : (n : ℕ) (steps : List Step) (begun : List Begun) (s : State) → RunOf net (empty net) steps begun s → count_by (is_command_to net n) begun ≤ count_by (is_command_to net n) (beginnings steps)
  commands_are_begun n steps begun s r =
      let one : Begun → ℕ = λ b. if is_command_to net n b then 1 else 0 in
      let short = run_short net cert ok acc steps (empty net) (none net cert ok acc) s begun r (empty_inv net cert ok acc) in
      let few = sum_le_all one (of_beginning net one) begun (all_map (Short net cert ok acc) (λ b. one b ≤ of_beginning net one b) begun (not_a_reply n) short) in
      let sum = run_sum net ok one steps (empty net) s begun r in
      omega arith

  -- no more commands came out than were begun
  came_few : (n : ℕ) → n < net.nodes → (steps : List Step) (s : State) → Run net (empty net) steps s → (came : List Packet) → CameOut s n came → count_by (is_command_at net n) came ≤ count_by (is_command_to net n) (beginnings steps)
  came_few n ln steps s r came out =
      let b = run_begins net cert ok acc steps (empty net) (none net cert ok acc) s r (empty_inv net cert ok acc) in
      let whole = comes_out_whole net cert ok acc steps b.0 s b.1 n ln came out (is_command_at net n) in
      let sent = count_sent net n (is_command_at net n) b.0 in
      let begun = commands_are_begun n steps b.0 s b.1 in
      omega arith

  -- ---- a slot is left for what stands in the buffer of a node that always takes

  -- where all that ends at n is limited, each packet on its channel or taken there is a command that is answered
  all_commands : (n : ℕ) (es : List Entry) → n < net.nodes → AllAreLimited net n → AllByRecursion (IsEntry net cert (net.into n)) es → AllByRecursion (λ e. is_command_to net n (begun_of e) ≡ true) es
  all_commands n [] ln limited all = tt
  all_commands n (e ∷ es) ln limited all =
      let valid = all.0 in
      let to = (is_left net cert ok acc n e ln valid).0 in
      let asked = valid.carried.command (limited e.flow valid.carried.in_flows to) in
      let here : is_some (net.reply_to n (left_bytes net e.flow e.cargo)) ≡ true = subst (λ k. is_some (net.reply_to k (left_bytes net e.flow e.cargo)) ≡ true) to asked in
      (rw (eq-eqb (net.flow e.flow).to n to, here) refl, all_commands n es ln limited all.1)

  -- there, more commands are begun than came out, while one stands in the buffer
  one_more : (steps : List Step) (s : State) → Run net (empty net) steps s → (n : ℕ) → n < net.nodes → AllAreLimited net n → (x : NChar) (rest : List NChar) → s.buffer (net.into n) ≡ x ∷ rest → (came : List Packet) → CameOut s n came → count_by (is_command_at net n) came < count_by (is_command_to net n) (beginnings steps)
  one_more steps s r n ln limited x rest front came out =
      let b = run_begins net cert ok acc steps (empty net) (none net cert ok acc) s r (empty_inv net cert ok acc) in
      let k = reached_of net cert ok acc steps s b.0 b.1 in
      let g = k.0 in
      let c = net.into n in
      let lc = (ok.into_ends n ln).0 in
      let node = k.1.nodes n ln in
      let stream = k.1.streams c lc in
      let es = g.came n ++ g.queue c in
      let behind = s.buffer c ++ (s.wire c ++ g.coming c) in
      let all : s.taken n ++ behind ≡ flat net es =
      ap (λ l. s.taken n ++ l) stream.content ∙ sym (append_assoc (s.taken n) (g.rest c) (flat net (g.queue c)))
      ∙ ap (λ l. l ++ flat net (g.queue c)) node.content ∙ sym (flat_append net (g.came n) (g.queue c)) in
      let cut : chars came ++ (map Data out.0 ++ behind) ≡ chars (map (packet_of net) es) =
      sym (append_assoc (chars came) (map Data out.0) behind) ∙ ap (λ l. l ++ behind) (sym out.1) ∙ all ∙ flat_chars net es in
      let left : map Data out.0 ++ behind ≢ [] = λ e. some_more (map Data out.0) x (rest ++ (s.wire c ++ g.coming c)) (ap (λ l. map Data out.0 ++ (l ++ (s.wire c ++ g.coming c))) (sym front) ∙ e) in
      let less = fewer came (map (packet_of net) es) (map Data out.0 ++ behind) cut left in
      let size = length-map es (packet_of net) in
      let few = count_few (is_command_at net n) came in
      let taken = all_commands n (g.came n) ln limited node.all_came in
      let queued = all_commands n (g.queue c) ln limited stream.queued in
      let each = count_all (λ e. is_command_to net n (begun_of e)) es (all_append (λ e. is_command_to net n (begun_of e) ≡ true) (g.came n) (g.queue c) taken queued) in
      let both = count_append (λ e. is_command_to net n (begun_of e)) (g.came n) (g.queue c) in
      let at_node = part_below net.nodes (λ m. among (is_command_to net n) (g.came m)) n ln in
      let on_channel = part_below net.channels (λ m. among (is_command_to net n) (g.queue m)) c lc in
      let sum = k.2 (is_command_to net n) in
      let begun = commands_are_begun n steps b.0 s b.1 in
      omega arith

  pub have_slots : (steps : List Step) (s : State) → Run net (empty net) steps s → KeepsLimits net steps → HaveSlots net s
  have_slots steps s r keeps n ln always x rest front =
      let cut = cut_of (s.taken n) in
      let came : CameOut s n cut.0 = (cut.1, cut.2) in
      let within = kept_after_each_step net ok steps s r keeps n ln always.limit cut.0 always.is came in
      let few = came_few n ln steps s r cut.0 came in
      ⊎_elim
      (λ fewer. omega arith)
      (λ equal. let same = equal.0 in let more = one_more steps s r n ln equal.1 x rest front cut.0 came in omega arith)
      always.few

  -- ---- where nothing is undelivered

  -- each command that was begun is among the packets that were
  beginning_few : (g : Begun → ℕ) (b : Begun) → of_beginning net g b ≤ g b
  beginning_few g b = few (nat_lt b.flow net.declared_flows) (g b)
    where
      few : (t : Bool) (k : ℕ) → (if t then k else 0) ≤ k
      few true k = omega arith
      few false k = omega arith

  commands_are_all : (n : ℕ) (steps : List Step) (begun : List Begun) (s : State) → RunOf net (empty net) steps begun s → count_by (is_command_to net n) (beginnings steps) ≤ count_by (is_command_to net n) begun
  commands_are_all n steps begun s r =
      let one : Begun → ℕ = λ b. if is_command_to net n b then 1 else 0 in
      let sum = run_sum net ok one steps (empty net) s begun r in
      let few = sum_le (of_beginning net one) one begun (λ b. beginning_few one b) in
      omega arith

  pub nothing_is_unanswered : (steps : List Step) (s : State) → Run net (empty net) steps s → undelivered net s ≡ 0 → (n : ℕ) → n < net.nodes → (came : List Packet) → CameOut s n came → unanswered net n steps came s ≡ 0
  nothing_is_unanswered steps s r zero_left n ln came out =
      let b = run_begins net cert ok acc steps (empty net) (none net cert ok acc) s r (empty_inv net cert ok acc) in
      let all = all_comes_out net cert ok acc steps b.0 s b.1 zero_left n ln came out (is_command_at net n) in
      let sent = count_sent net n (is_command_at net n) b.0 in
      let begun = commands_are_all n steps b.0 s b.1 in
      let z = zero_part net.nodes (λ n. length (s.to_send n) + length_pending (s.pending n)) n ln (omega arith) in
      let sends = nil_from_length (s.to_send n) (omega arith) in
      let pending = ap (λ l. length l) (no_pending net ok n ln (λ address. true) (s.pending n) (omega arith)) in
      let owes = nothing_owed sends (reached_holds net n steps s r).owing in
      omega arith
    where
      nothing_owed : s.to_send n ≡ [] → Owing net n (last_beginning net n steps) (s.to_send n) (s.pending n) (s.owed n) → s.owed n ≡ length (s.pending n)
      nothing_owed sends (OneMore l some e) = absurd (some sends)
      nothing_owed sends (AsMany l e) = e
