-- Each reply was asked for by a command that came out.
use Rattle.std.proofs.Common.{Bool, List, None, Option, Some, [], ap, arith, count_by, eq-eqb, false, length, map, nat_eq, nat_le, ne_eqb, refl, subst, sym, true, ℕ, ⊎_elim, ◌++◌, ◌+◌, ◌<◌, ◌∙◌, ◌∷◌, ◌≡◌, ◌≤◌}
use Rattle.std.proofs.lemmas.Bool.{cases_eq}
use Rattle.std.proofs.lemmas.Bool.Decides.{nat_tests}
use Rattle.std.proofs.lemmas.List.{length_push}
use Rattle.std.proofs.lemmas.List.Sums.{sum_by-cons, sum_by_push}
use Rattle.std.specs.Option.{option_map, option_map_or}
use Rattle.std.specs.Prelude.{if◌then◌else◌, ◌&&◌}
use Rattle.sw_char.specs.declared.nchar.End.{End}
use Rattle.sw_char.specs.declared.nchar.End.TheVariants.{Eep as ByEep, Eop as ByEop}
use Rattle.sw_char.specs.declared.nchar.NChar.{NChar}
use Rattle.sw_char.specs.declared.nchar.NChar.TheVariants.{Data, Eep, Eop}
use Rattle.sw_machine.proofs.Balance.{count_append}
use Rattle.sw_machine.proofs.Cuts.{cut_byte, cut_marker, cuts_are_equal}
use Rattle.sw_machine.proofs.Lists.{put_here, put_there}
use Rattle.sw_machine.proofs.Whole.{count_sent, zero_part}
use Rattle.sw_machine.specs.Begun.{AsOften, Begins, Begun, IsReply, NoOftener, RunOf, is_answered, is_answered_at, is_reply_at, sent_to}
use Rattle.sw_machine.specs.Network.{IsNetwork, Network}
use Rattle.sw_rmap.specs.Owing.{length_pending, pending_with, PendingReply, reply_packet}
use Rattle.sw_machine.specs.Packets.{IsCut, Packet, marker_of}
use Rattle.sw_machine.specs.Runs.{CameOut, undelivered}
use Rattle.sw_machine.specs.State.{State, empty, put, reply_at}
use Rattle.sw_machine.specs.Steps.{Accept, Arrive, Begin, Drop, Drops, Emit, Fct, FctIn, Forward, Grant, Leads, Reply, Spill, Step}

module _ (net : Network) (ok : IsNetwork net) (n : ℕ) (ln : n < net.nodes) (test : List ℕ → Bool) where
  abbrev passes : PendingReply → Bool
  passes r = test r.address

  -- so many replies were begun, and so many wait, as there are commands that came out and are answered
  record Tally (taken : List NChar) (pending : List PendingReply) (begun : ℕ) : Type 0 where
    packets : List Packet
    bytes : List ℕ
    cut : IsCut taken packets bytes
    adds : begun + count_by passes pending ≡ count_by (is_answered net n test) packets

  abbrev TallyAt : State → ℕ → Type 0
  TallyAt s k = Tally (s.taken n) (s.pending n) k

  none_more : (s : State) (k : ℕ) (begun : List Begun) → count_by (is_reply_at net n test) begun ≡ 0 → TallyAt s k → TallyAt s (k + count_by (is_reply_at net n test) begun)
  none_more s k begun none h = record { packets = h.packets; bytes = h.bytes; cut = h.cut; adds = let a = h.adds in omega arith }

  empty_more : (s : State) (k : ℕ) (begun : List Begun) → begun ≡ [] → TallyAt s k → TallyAt s (k + count_by (is_reply_at net n test) begun)
  empty_more s k begun e h = none_more s k begun (ap (count_by (is_reply_at net n test)) e) h

  one_of : (b : Begun) (begun : List Begun) (x : Bool) → is_reply_at net n test b ≡ x → begun ≡ b ∷ [] → count_by (is_reply_at net n test) begun ≡ (if x then 1 else 0)
  one_of b begun x e is = ap (count_by (is_reply_at net n test)) is ∙ ap (λ x. 0 + (if x then 1 else 0)) e ∙ one x
    where
      one : (x : Bool) → 0 + (if x then 1 else 0) ≡ (if x then 1 else 0)
      one true = refl
      one false = refl

  is_below : (a b : ℕ) → a < b → nat_le b a ≡ false
  is_below a b lt = grind (arith, nat_tests)

  is_within : (a b : ℕ) → a ≤ b → nat_le a b ≡ true
  is_within a b le = grind (arith, nat_tests)

  -- a declared packet is no reply
  no_reply : (f : ℕ) (cargo : List ℕ) (end : End) → f < net.declared_flows → is_reply_at net n test (record { flow = f; cargo = cargo; end = end }) ≡ false
  no_reply f cargo end lt = rw (is_below f net.declared_flows lt) refl

  -- the reply that node m begins
  reply_of : (s : State) (m : ℕ) (b : Begun) → IsReply net s m b → is_reply_at net n test b ≡ (nat_eq m n && test (net.flow b.flow).address)
  reply_of s m b r =
      let flow = ok.reply_flow r.asked b.flow r.in_flows r.by in
      let from : (net.flow b.flow).from ≡ m = flow.from ∙ r.at in
      rw (is_within net.declared_flows b.flow flow.after_declared) (ap (λ k. nat_eq k n && test (net.flow b.flow).address) from)

  replied : (s : State) (m k : ℕ) (reply : PendingReply) (others : List PendingReply) (begun : List Begun) → s.pending m ≡ reply ∷ others → Begins net s (Reply m) begun → TallyAt s k → Tally (s.taken n) (put s.pending m others n) (k + count_by (is_reply_at net n test) begun)
  replied s m k reply others begun waits b h = ⊎_elim
      (λ same.
      let r = b.1 in
      let both : reply ∷ others ≡ r.reply ∷ r.others = sym waits ∙ r.waits in
      let is : reply ≡ r.reply = cc in
      let address : (net.flow (b.0).flow).address ≡ reply.address = sym r.goes ∙ ap (λ (a : PendingReply). a.address) (sym is) in
      let one = one_of b.0 begun (passes reply) (reply_of s m b.0 r ∙ ap (λ t. t && test (net.flow (b.0).flow).address) (eq-eqb m n (sym same)) ∙ ap test address) b.2 in
      let here : s.pending n ≡ reply ∷ others = ap s.pending same ∙ waits in
      let all : count_by passes (s.pending n) ≡ (if passes reply then 1 else 0) + count_by passes others = ap (count_by passes) here ∙ sum_by-cons (λ r. if passes r then 1 else 0) reply others in
      let after : put s.pending m others n ≡ others = ap (put s.pending m others) same ∙ put_here s.pending m others in
      record { packets = h.packets; bytes = h.bytes; cut = h.cut; adds = let a = h.adds in let c = ap (count_by passes) after in omega arith })
      (λ ne.
      let none = one_of b.0 begun false (reply_of s m b.0 b.1 ∙ ap (λ t. t && test (net.flow (b.0).flow).address) (ne_eqb m n (λ e. ne (sym e)))) b.2 in
      let after = ap (count_by passes) (put_there s.pending m others n ne) in
      record { packets = h.packets; bytes = h.bytes; cut = h.cut; adds = let a = h.adds in omega arith })
      (cases_eq n m)

  add_none : (a b : ℕ) → 0 ≡ b → a ≡ a + b
  add_none a b e = omega arith

  -- a command that is completed waits for its reply, if it is answered
  waits_more : (pending : List PendingReply) (o : Option PendingReply) (address : Option (List ℕ)) → option_map (λ (r : PendingReply). r.address) o ≡ address → count_by passes (pending_with pending o) ≡ count_by passes pending + (if option_map_or test address false then 1 else 0)
  waits_more pending None address e = add_none (count_by passes pending) (if option_map_or test address false then 1 else 0) (ap (λ a. if option_map_or test a false then 1 else 0) e)
  waits_more pending (Some r) address e =
      sum_by_push (λ r. if passes r then 1 else 0) pending r
      ∙ ap (λ a. count_by passes pending + (if option_map_or test a false then 1 else 0)) e

  ended : (s : State) (k : ℕ) (ps : List Packet) (bytes : List ℕ) (end : End) → IsCut (s.taken n) ps bytes → k + count_by passes (s.pending n) ≡ count_by (is_answered net n test) ps → Tally (s.taken n ++ marker_of end ∷ []) (pending_with (s.pending n) (net.answer n (s.memory n) bytes end)) k
  ended s k ps bytes end cut adds =
      let p : Packet = record { bytes = bytes; end = end } in
      let more = waits_more (s.pending n) (net.answer n (s.memory n) bytes end) (net.reply_to n bytes) (ok.answers.reply_goes n (s.memory n) bytes end ln) in
      let push = sum_by_push (λ p. if is_answered net n test p then 1 else 0) ps p in
      record { packets = ps ++ p ∷ []; bytes = []; cut = cut_marker (s.taken n) ps bytes end cut; adds = omega arith }

  accepted : (s : State) (k : ℕ) (ps : List Packet) (bytes : List ℕ) (first : NChar) → IsCut (s.taken n) ps bytes → TallyAt s k → Tally (s.taken n ++ first ∷ []) (pending_with (s.pending n) (reply_at net n (s.memory n) bytes first)) k
  accepted s k ps bytes (Data b) cut h = record { packets = h.packets; bytes = h.bytes ++ b ∷ []; cut = cut_byte (s.taken n) h.packets h.bytes b h.cut; adds = h.adds }
  accepted s k ps bytes Eop cut h = ended s k ps bytes ByEop cut (h.adds ∙ ap (count_by (is_answered net n test)) (cuts_are_equal (s.taken n) h.packets ps h.bytes bytes h.cut cut).0)
  accepted s k ps bytes Eep cut h = ended s k ps bytes ByEep cut (h.adds ∙ ap (count_by (is_answered net n test)) (cuts_are_equal (s.taken n) h.packets ps h.bytes bytes h.cut cut).0)

  accepted_at : (s : State) (k m : ℕ) (ps : List Packet) (bytes : List ℕ) (first : NChar) → IsCut (s.taken m) ps bytes → TallyAt s k → Tally (put s.taken m (s.taken m ++ first ∷ []) n) (put s.pending m (pending_with (s.pending m) (reply_at net m (s.memory m) bytes first)) n) k
  accepted_at s k m ps bytes first cut h = ⊎_elim
      (λ same. subst (λ j. Tally (put s.taken j (s.taken j ++ first ∷ []) n) (put s.pending j (pending_with (s.pending j) (reply_at net j (s.memory j) bytes first)) n) k) same
      (rw (eq-eqb n n refl) (accepted s k ps bytes first (subst (λ j. IsCut (s.taken j) ps bytes) (sym same) cut) h)))
      (λ ne. rw (ne_eqb n m ne) h)
      (cases_eq n m)

  tally_drop : (s : State) (c switch k : ℕ) (first : NChar) (rest : List NChar) (t : State) → Drops net s c switch first rest t → TallyAt s k → TallyAt t k
  tally_drop s c switch k (Data h) rest t d i = subst (λ u. TallyAt u k) (sym d.1) i
  tally_drop s c switch k Eop rest t d i = subst (λ u. TallyAt u k) (sym d) i
  tally_drop s c switch k Eep rest t d i = subst (λ u. TallyAt u k) (sym d) i

  step_tally : (s : State) (step : Step) (t : State) (begun : List Begun) (k : ℕ) → Leads net s step t → Begins net s step begun → TallyAt s k → TallyAt t (k + count_by (is_reply_at net n test) begun)
  step_tally s (Fct c) t begun k h b i = subst (λ u. TallyAt u (k + count_by (is_reply_at net n test) begun)) (sym h.after) (empty_more s k begun b i)
  step_tally s (FctIn c) t begun k h b i = subst (λ u. TallyAt u (k + count_by (is_reply_at net n test) begun)) (sym h.after) (empty_more s k begun b i)
  step_tally s (Arrive c) t begun k h b i = subst (λ u. TallyAt u (k + count_by (is_reply_at net n test) begun)) (sym h.after) (empty_more s k begun b i)
  step_tally s (Grant d c) t begun k h b i = subst (λ u. TallyAt u (k + count_by (is_reply_at net n test) begun)) (sym h.after) (empty_more s k begun b i)
  step_tally s (Drop c) t begun k h b i = empty_more t k begun b (tally_drop s c h.switch k h.first h.rest t h.after i)
  step_tally s (Forward c) t begun k h b i = subst (λ u. TallyAt u (k + count_by (is_reply_at net n test) begun)) (sym h.after) (empty_more s k begun b i)
  step_tally s (Spill c) t begun k h b i = subst (λ u. TallyAt u (k + count_by (is_reply_at net n test) begun)) (sym h.after) (empty_more s k begun b i)
  step_tally s (Begin f cargo end) t begun k h b i = subst (λ u. TallyAt u (k + count_by (is_reply_at net n test) begun)) (sym h.after)
      (none_more s k begun (one_of (record { flow = f; cargo = cargo; end = end }) begun false (no_reply f cargo end h.declared.declared) b) i)
  step_tally s (Emit m) t begun k h b i = subst (λ u. TallyAt u (k + count_by (is_reply_at net n test) begun)) (sym h.after) (empty_more s k begun b i)
  step_tally s (Accept m) t begun k h b i = empty_more t k begun b (subst (λ u. TallyAt u k) (sym h.after) (accepted_at s k m h.packets h.bytes h.first h.cut i))
  step_tally s (Reply m) t begun k h b i = subst (λ u. TallyAt u (k + count_by (is_reply_at net n test) begun)) (sym h.after) (replied s m k h.reply h.others begun h.waits b i)

  run_tally : (steps : List Step) (s : State) (begun : List Begun) (t : State) (k : ℕ) → RunOf net s steps begun t → TallyAt s k → TallyAt t (k + count_by (is_reply_at net n test) begun)
  run_tally [] s begun t k r i = empty_more t k begun r.0 (subst (λ u. TallyAt u k) (sym r.1) i)
  run_tally (step ∷ steps) s begun t k r i =
      let one = step_tally s step r.0 r.1 k r.3 r.4 i in
      let all = run_tally steps r.0 r.2 t (k + count_by (is_reply_at net n test) r.1) r.6 one in
      let both : count_by (is_reply_at net n test) begun ≡ count_by (is_reply_at net n test) r.1 + count_by (is_reply_at net n test) r.2 = ap (count_by (is_reply_at net n test)) r.5 ∙ count_append (is_reply_at net n test) r.1 r.2 in
      subst (Tally (t.taken n) (t.pending n)) (omega arith) all

  tally_of : (steps : List Step) (begun : List Begun) (s : State) → RunOf net (empty net) steps begun s → TallyAt s (0 + count_by (is_reply_at net n test) begun)
  tally_of steps begun s r = run_tally steps (empty net) begun s 0 r (record { packets = []; bytes = []; cut = refl; adds = refl })

  pub replies_at_most : (steps : List Step) (begun : List Begun) (s : State) → RunOf net (empty net) steps begun s → (came : List Packet) → CameOut s n came → count_by (is_reply_at net n test) begun ≤ count_by (is_answered net n test) came
  replies_at_most steps begun s r came out =
      let t = tally_of steps begun s r in
      let adds = t.adds in
      let same = ap (count_by (is_answered net n test)) (cuts_are_equal (s.taken n) t.packets came t.bytes out.0 t.cut out.1).0 in
      omega arith

  pub commands_at_least : (steps : List Step) (begun : List Begun) (s : State) → RunOf net (empty net) steps begun s → ((ps : List Packet) → CameOut s n ps → NoOftener ps (sent_to net n begun)) → count_by (is_reply_at net n test) begun ≤ count_by (is_answered_at net n test) begun
  commands_at_least steps begun s r whole =
      let t = tally_of steps begun s r in
      let adds = t.adds in
      let came = whole t.packets (t.bytes, t.cut) (is_answered net n test) in
      let sent = count_sent net n (is_answered net n test) begun in
      omega arith

  pub no_pending : (pending : List PendingReply) → length_pending pending ≡ 0 → pending ≡ []
  no_pending [] e = refl
  no_pending (r ∷ others) e =
      let c = sum_by-cons (λ r. length (reply_packet r)) r others in
      let l = length_push (map Data (r.address ++ r.cargo)) Eop in
      absurd (omega arith)

  pub replies_exactly : (steps : List Step) (begun : List Begun) (s : State) → RunOf net (empty net) steps begun s → undelivered net s ≡ 0 → ((ps : List Packet) → CameOut s n ps → AsOften ps (sent_to net n begun)) → count_by (is_reply_at net n test) begun ≡ count_by (is_answered_at net n test) begun
  replies_exactly steps begun s r none whole =
      let t = tally_of steps begun s r in
      let adds = t.adds in
      let came = whole t.packets (t.bytes, t.cut) (is_answered net n test) in
      let sent = count_sent net n (is_answered net n test) begun in
      let z = zero_part net.nodes (λ n. length (s.to_send n) + length_pending (s.pending n)) n ln (omega arith) in
      let nothing = ap (count_by passes) (no_pending (s.pending n) (omega arith)) in
      omega arith
