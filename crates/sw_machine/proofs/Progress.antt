-- A state in which something is undelivered goes on.
use Rattle.std.proofs.Common.{Bool, Contains, List, None, Option, Some, [], ap, arith, drop, false, inl, inr, length, map, refl, slice_index, subst, suc, sym, true, zero, ℕ, ⊎_elim, ◌++◌, ◌+◌, ◌<◌, ◌∙◌, ◌∷◌, ◌≡◌, ◌≢◌, ◌≤◌, ◌⊎◌}
use Rattle.std.proofs.lemmas.Bool.{cases_Bool, cases_eq, cases_lt, false≢true}
use Rattle.std.specs.List.{AllByRecursion}
use Rattle.sw_char.specs.declared.nchar.NChar.{NChar}
use Rattle.sw_char.specs.declared.nchar.NChar.TheVariants.{Data}
use Rattle.sw_machine.proofs.Cuts.{cut_of, no_cons}
use Rattle.sw_machine.proofs.Faults.{asked_rises, at_switch, follows}
use Rattle.sw_machine.proofs.Ghost.{Entry, Fed, Ghost, Holds, InputIs, Inv, IsEntry, IsWhole, flat, form_of}
use Rattle.sw_machine.proofs.Lists.{whole_cons}
use Rattle.sw_machine.specs.Certificate.{Certificate, IsAccepted, number}
use Rattle.sw_machine.specs.Credit.{HasCredit}
use Rattle.sw_machine.specs.Network.{AtNode, AtSwitch, Cell, IsNetwork, Network}
use Rattle.sw_rmap.specs.Owing.{length_pending, PendingReply}
use Rattle.sw_machine.specs.Packets.{marker_of}
use Rattle.sw_machine.specs.Places.{AlwaysTakes}
use Rattle.sw_machine.specs.Runs.{GoesOn, total, undelivered}
use Rattle.sw_machine.specs.Stalling.{GoesOnUnder, HasNothingToSend, RisesWhereStalling, StallingGuard}
use Rattle.sw_machine.specs.State.{State}
use Rattle.sw_machine.specs.Steps.{Accept, Arrive, Emit, Fct, FctIn, Forward, Grant, Reply}
use Rattle.sw_machine.specs.declared.input.InputState.{InputState}
use Rattle.sw_machine.specs.declared.input.InputState.TheVariants.{Held, Idle, Spilling}

-- whether some input holds d
pub held_or_free : (n d : ℕ) (input : ℕ → InputState) → ((b : ℕ) × (b < n) × (input b ≡ Held d)) ⊎ ((b : ℕ) → b < n → input b ≡ Held d → ⊥)
held_or_free zero d input = inr (λ b lt e. omega arith)
held_or_free (suc n) d input =
    ⊎_elim (λ h. inl (h.0, omega (arith, h.1), h.2)) (λ free. here (input n) refl free) (held_or_free n d input)
  where
    here : (i : InputState) → input n ≡ i → ((b : ℕ) → b < n → input b ≡ Held d → ⊥) → ((b : ℕ) × (b < suc n) × (input b ≡ Held d)) ⊎ ((b : ℕ) → b < suc n → input b ≡ Held d → ⊥)
    here Idle e free = inr (λ b lt h. ⊎_elim (λ same. let k = ap input same in cc) (λ other. free b (omega arith) h) (cases_eq b n))
    here Spilling e free = inr (λ b lt h. ⊎_elim (λ same. let k = ap input same in cc) (λ other. free b (omega arith) h) (cases_eq b n))
    here (Held x) e free =
        ⊎_elim (λ same. inl (n, omega arith, e ∙ ap Held same)) (λ differ. inr (λ b lt h. ⊎_elim (λ same. let k = ap input same in let j : Held x ≡ Held d = cc in differ (cc)) (λ other. free b (omega arith) h) (cases_eq b n))) (cases_eq x d)

-- a sum above 0 has a part above 0
pub some_part : (n : ℕ) (f : ℕ → ℕ) → 0 < total n f → (k : ℕ) × (k < n) × (0 < f k)
some_part zero f h = absurd (omega arith)
some_part (suc n) f h = ⊎_elim (λ lt. (n, omega arith, lt)) (λ ge. let r = some_part n f (omega arith) in (r.0, omega (arith, r.1), r.2)) (cases_lt 0 (f n))

-- the greatest of f below n
greatest : ℕ → (ℕ → ℕ) → ℕ
greatest zero f = 0
greatest (suc n) f = greatest n f + f n

below_greatest : (n : ℕ) (f : ℕ → ℕ) (k : ℕ) → k < n → f k ≤ greatest n f
unfolding greatest
below_greatest zero f k lt = absurd (omega arith)
below_greatest (suc n) f k lt = ⊎_elim (λ e. let same = ap f e in omega arith) (λ ne. let r = below_greatest n f k (omega arith) in omega arith) (cases_eq k n)

pub head_contained : (l : List ℕ) → l ≢ [] → (d : ℕ) × Contains l d
head_contained [] ne = absurd (ne refl)
head_contained (d ∷ l) ne = (d, (0, omega arith, refl))

drop_at : (l : List ℕ) (k : ℕ) → k < length l → (rest : List ℕ) × (drop k l ≡ slice_index l k ∷ rest)
drop_at [] k lt = absurd (omega arith)
drop_at (x ∷ l) zero lt = (l, refl)
drop_at (x ∷ l) (suc k) lt = drop_at l k (omega arith)

-- whether a node always takes what comes
pub always_takes_or : (net : Network) (n : ℕ) → AlwaysTakes net n ⊎ (AlwaysTakes net n → ⊥)
always_takes_or net n = by (net.limit n) refl
  where
    same : (l m : ℕ) → net.limit n ≡ Some l → net.limit n ≡ Some m → l ≡ m
    same l m here there = let both : Some l ≡ Some m = sym here ∙ there in cc

    each : (k : ℕ) → ((i : ℕ) → i < k → (net.flow i).to ≡ n → net.limited i ≡ true) ⊎ ((i : ℕ) × (i < k) × ((net.flow i).to ≡ n) × (net.limited i ≡ false))
    each zero = inl (λ i lt to. absurd (omega arith))
    each (suc k) = ⊎_elim (λ all. last all (net.limited k) refl) (λ other. inr (other.0, omega (arith, other.1), other.2, other.3)) (each k)
      where
        last : ((i : ℕ) → i < k → (net.flow i).to ≡ n → net.limited i ≡ true) → (t : Bool) → net.limited k ≡ t → ((i : ℕ) → i < suc k → (net.flow i).to ≡ n → net.limited i ≡ true) ⊎ ((i : ℕ) × (i < suc k) × ((net.flow i).to ≡ n) × (net.limited i ≡ false))
        last all true is = inl (λ i lt to. ⊎_elim (λ e. ap net.limited e ∙ is) (λ ne. all i (omega arith) to) (cases_eq i k))
        last all false is = ⊎_elim
            (λ to. inr (k, omega arith, to, is))
            (λ away. inl (λ i lt to. ⊎_elim (λ e. absurd (away (ap (λ j. (net.flow j).to) (sym e) ∙ to))) (λ ne. all i (omega arith) to) (cases_eq i k)))
            (cases_eq (net.flow k).to n)

    by : (o : Option ℕ) → net.limit n ≡ o → AlwaysTakes net n ⊎ (AlwaysTakes net n → ⊥)
    by None is = inr (λ a. let none : None ≡ Some a.limit = sym is ∙ a.is in cc)
    by (Some l) is = ⊎_elim
        (λ less. inl (record { limit = l; is = is; few = inl less }))
        (λ more. ⊎_elim
        (λ equal. ⊎_elim
        (λ all. inl (record { limit = l; is = is; few = inr (equal, all) }))
        (λ other. inr (λ a. ⊎_elim
        (λ less. let e = same l a.limit is a.is in omega arith)
        (λ equal. let limited : net.limited other.0 ≡ true = equal.1 other.0 other.1 other.2 in let not : net.limited other.0 ≡ false = other.3 in cc)
        a.few))
        (each net.flows))
        (λ differ. inr (λ a. ⊎_elim
        (λ less. let e = same l a.limit is a.is in omega arith)
        (λ equal. let e = same l a.limit is a.is in differ (e ∙ equal.0))
        a.few))
        (cases_eq l (net.slots n)))
        (cases_lt l (net.slots n))

-- each node that always takes has a slot left for what stands in its buffer
abbrev pub HaveSlots : Network → State → Type 0
HaveSlots net s = (n : ℕ) → n < net.nodes → AlwaysTakes net n → (x : NChar) (r : List NChar) → s.buffer (net.into n) ≡ x ∷ r → s.owed n < net.slots n

module _ (net : Network) (cert : Certificate) (s : State) (g : Ghost) (ok : IsNetwork net) (acc : IsAccepted net cert) (num : HasCredit net s) (inv : Inv net cert s g) (have : HaveSlots net s) (stalls : ℕ → Bool) (rises : RisesWhereStalling net stalls (number cert)) where
  -- some step other than a beginning is possible, where the nodes that stall take nothing while they have something to send
  abbrev Goes : Type 0
  Goes = GoesOnUnder (StallingGuard stalls) net s

  arrive_or : (c : ℕ) → c < net.channels → (w : List NChar) → s.wire c ≡ w → Goes ⊎ (s.wire c ≡ [])
  arrive_or c lt [] e = inr e
  arrive_or c lt (x ∷ r) e = inl (record { step = Arrive c; no_begin = refl; meets = tt; possible = (_, record { in_net = lt; first = x; rest = r; on_wire = e; after = refl }) })

  -- an empty channel has credit, or an FCT moves
  credit_or : (c : ℕ) → c < net.channels → s.buffer c ≡ [] → s.wire c ≡ [] → (f : ℕ) → s.fcts c ≡ f → (k : ℕ) → s.credit c ≡ k → Goes ⊎ ((left : ℕ) × (s.credit c ≡ suc left))
  credit_or c lt eb ew (suc f) ef k ek = inl (record { step = FctIn c; no_begin = refl; meets = tt; possible = (_, record { in_net = lt; remaining = f; under_way = ef; after = refl }) })
  credit_or c lt eb ew zero ef (suc k) ek = inr (k, ek)
  credit_or c lt eb ew zero ef zero ek =
      let lb = ap length eb in
      let lw = ap length ew in
      let room = ok.room c lt in
      let eq = (num.at c lt).equation in
      inl (record { step = Fct c; no_begin = refl; meets = tt; possible = (_, record { in_net = lt; room = omega arith; few = omega arith; after = refl }) })

  emit_goes : (n : ℕ) → n < net.nodes → (x : NChar) (r : List NChar) → s.to_send n ≡ x ∷ r → (left : ℕ) → s.credit (net.out n) ≡ suc left → Goes
  emit_goes n lt x r e left cr = record { step = Emit n; no_begin = refl; meets = tt; possible = (_, record { in_net = lt; first = x; rest = r; sending = e; remaining = left; credit = cr; after = refl }) }

  forward_goes : (b c : ℕ) → b < net.channels → s.input b ≡ Held c → (x : NChar) (r : List NChar) → s.buffer b ≡ x ∷ r → (left : ℕ) → s.credit c ≡ suc left → Goes
  forward_goes b c lt held x r e left cr = record { step = Forward b; no_begin = refl; meets = tt; possible = (_, record { in_net = lt; d = c; held = held; first = x; rest = r; front = e; remaining = left; credit = cr; after = refl }) }

  holds : (b c : ℕ) → b < net.channels → s.input b ≡ Held c → Holds net cert g.rest g.coming b c
  holds b c lt e = subst (InputIs net cert g.rest g.coming b) e (inv.inputs b lt)

  -- a held channel gets the rest of a packet
  held_coming : (b c : ℕ) → Holds net cert g.rest g.coming b c → g.coming c ≢ []
  held_coming b c h e = whole_cons (g.rest b) h.whole (h.same ∙ e)

  -- what comes to an empty channel that is held
  comes_on : (b c : ℕ) → b < net.channels → Holds net cert g.rest g.coming b c → s.buffer b ≡ [] → s.wire b ≡ [] → g.coming b ≢ []
  comes_on b c lt h eb ew e =
      let content = (inv.streams b lt).content in
      let all : g.rest b ++ flat net (g.queue b) ≡ [] = cc in
      first (g.rest b) h.whole all
    where
      first : (l : List NChar) → IsWhole l → l ++ flat net (g.queue b) ≡ [] → ⊥
      first [] w e = w
      first (x ∷ l) w e = no_cons x (l ++ flat net (g.queue b)) e

  -- a channel with nothing in its buffer to which something comes
  open_goes : (n c : ℕ) → c < net.channels → number cert c < n → s.buffer c ≡ [] → g.coming c ≢ [] → Goes
  open_goes zero c lt ln eb some = absurd (omega arith)
  open_goes (suc n) c lt ln eb some =
      ⊎_elim (λ go. go) (λ ew. ⊎_elim (λ go. go) (λ cr. by_start (net.start_of c) refl (inv.fed c lt) ew cr.0 cr.1 (open_goes n)) (credit_or c lt eb ew (s.fcts c) refl (s.credit c) refl)) (arrive_or c lt (s.wire c) refl)
    where
      send : (m : ℕ) → m < net.nodes → net.out m ≡ c → g.coming c ≡ s.to_send m → (left : ℕ) → s.credit c ≡ suc left → (l : List NChar) → s.to_send m ≡ l → Goes
      send m lm out f left cr [] e = absurd (some (f ∙ e))
      send m lm out f left cr (x ∷ r) e = emit_goes m lm x r e left (ap s.credit out ∙ cr)

      pass : (b : ℕ) → b < net.channels → s.input b ≡ Held c → (left : ℕ) → s.credit c ≡ suc left → (l : List NChar) → s.buffer b ≡ l → ((b : ℕ) → b < net.channels → number cert b < n → s.buffer b ≡ [] → g.coming b ≢ [] → Goes) → Goes
      pass b lb held left cr (x ∷ r) e on = forward_goes b c lb held x r e left cr
      pass b lb held left cr [] e on =
          let h = holds b c lb held in
          ⊎_elim (λ go. go) (λ ew. on b lb (let r = h.rising in omega arith) e (comes_on b c lb h e ew)) (arrive_or b lb (s.wire b) refl)

      by_start : (p : Cell) → net.start_of c ≡ p → Fed net s.to_send s.input g.coming c p → s.wire c ≡ [] → (left : ℕ) → s.credit c ≡ suc left → ((b : ℕ) → b < net.channels → number cert b < n → s.buffer b ≡ [] → g.coming b ≢ [] → Goes) → Goes
      by_start (AtNode m) at f ew left cr on = let starts = ok.starts_at_node c m lt at in send m starts.0 starts.1 f left cr (s.to_send m) refl
      by_start (AtSwitch w) at f ew left cr on = ⊎_elim (λ e. absurd (some e)) (λ h. pass h.0 h.1 h.2 left cr (s.buffer h.0) refl on) f

  open_now : (c : ℕ) → c < net.channels → s.buffer c ≡ [] → g.coming c ≢ [] → Goes
  open_now c lt eb some = open_goes (suc (number cert c)) c lt (omega arith) eb some

  abbrev top : ℕ
  top = greatest net.channels (number cert)

  -- the front of an input that waits is a byte that names an output, and each that it names has a greater number
  record Header (c switch : ℕ) (x : NChar) : Type 0 where
    h : ℕ
    is : x ≡ Data h
    d : ℕ
    names : Contains (net.look switch h) d
    rising : number cert c < number cert d

  front_header : (c switch : ℕ) (lt : c < net.channels) → net.end_of c ≡ AtSwitch switch → g.rest c ≡ [] → (x : NChar) (r : List NChar) → s.buffer c ≡ x ∷ r → (q : List Entry) → g.queue c ≡ q → Header c switch x
  front_header c switch lt at er x r eb [] eq =
      let content = (inv.streams c lt).content in
      let ef = ap (flat net) eq in
      let all : x ∷ (r ++ (s.wire c ++ g.coming c)) ≡ [] = cc in
      absurd (no_cons x (r ++ (s.wire c ++ g.coming c)) all)
  front_header c switch lt at er x r eb (e ∷ es) eq =
      let content = (inv.streams c lt).content in
      let ef = ap (flat net) eq in
      let valid = (subst (AllByRecursion (IsEntry net cert c)) eq (inv.streams c lt).queued).0 in
      let place = at_switch net cert acc e.flow c e.deleted _ valid.carried.in_flows valid.listed at in
      let byte = slice_index (net.flow e.flow).address e.deleted in
      let tail = drop_at (net.flow e.flow).address e.deleted place.0 in
      let named = head_contained (net.look switch byte) place.1 in
      let front : form_of net e ≡ Data byte ∷ (map Data tail.0 ++ (map Data e.cargo ++ marker_of e.end ∷ [])) = ap (λ l. map Data l ++ (map Data e.cargo ++ marker_of e.end ∷ [])) tail.1 in
      let all : x ∷ (r ++ (s.wire c ++ g.coming c)) ≡ Data byte ∷ ((map Data tail.0 ++ (map Data e.cargo ++ marker_of e.end ∷ [])) ++ flat net es) =
      ap (λ b. b ++ (s.wire c ++ g.coming c)) (sym eb) ∙ content ∙ ap (λ l. l ++ flat net (g.queue c)) er ∙ ef ∙ ap (λ l. l ++ flat net es) front in
      record { h = byte; is = cc; d = named.0; names = named.1; rising = acc.rising e.flow c e.deleted named.0 _ valid.carried.in_flows valid.listed (follows net cert acc e.flow c e.deleted switch named.0 valid.carried.in_flows valid.listed at named.1) }

  -- a channel with a character in its buffer, an input that holds it, or a node that sends or is to reply on it
  data Busy (c : ℕ) : Type 0 where
    Buffered : (x : NChar) (r : List NChar) → s.buffer c ≡ x ∷ r → Busy c
    IsHeld : (b : ℕ) → b < net.channels → s.input b ≡ Held c → Busy c
    Sends : (n : ℕ) → n < net.nodes → net.out n ≡ c → (x : NChar) (r : List NChar) → s.to_send n ≡ x ∷ r → Busy c
    Replies : (n : ℕ) → n < net.nodes → net.out n ≡ c → (r : PendingReply) (others : List PendingReply) → s.pending n ≡ r ∷ others → Busy c

  -- a busy channel with nothing in its buffer
  empty_goes : (c : ℕ) → c < net.channels → s.buffer c ≡ [] → Busy c → Goes
  empty_goes c lt eb (Buffered x r e) = absurd (no_cons x r (sym e ∙ eb))
  empty_goes c lt eb (IsHeld b lb held) = open_now c lt eb (held_coming b c (holds b c lb held))
  empty_goes c lt eb (Sends n ln out x r e) =
      let start : net.start_of c ≡ AtNode n = ap net.start_of (sym out) ∙ (ok.out_starts n ln).1 in
      let fed = subst (Fed net s.to_send s.input g.coming c) start (inv.fed c lt) in
      open_now c lt eb (λ none. no_cons x r (sym e ∙ (sym fed ∙ none)))
  empty_goes c lt eb (Replies n ln out r0 others waits) = reply (s.to_send n) refl
    where
      reply : (l : List NChar) → s.to_send n ≡ l → Goes
      reply [] e = record { step = Reply n; no_begin = refl; meets = tt; possible = (_, record { in_net = ln; reply = r0; others = others; waits = waits; sends_nothing = e; after = refl }) }
      reply (x ∷ r) e =
          let start : net.start_of c ≡ AtNode n = ap net.start_of (sym out) ∙ (ok.out_starts n ln).1 in
          let fed = subst (Fed net s.to_send s.input g.coming c) start (inv.fed c lt) in
          open_now c lt eb (λ none. no_cons x r (sym e ∙ (sym fed ∙ none)))

  owes_or : (n : ℕ) → (0 < s.owed n) ⊎ (s.owed n ≡ 0)
  owes_or n = ⊎_elim (λ lt. inl lt) (λ ge. inr (omega arith)) (cases_lt 0 (s.owed n))

  busy_goes : (m c : ℕ) → c < net.channels → top < number cert c + m → Busy c → Goes
  busy_goes zero c lt above busy = let under = below_greatest net.channels (number cert) c lt in absurd (omega arith)
  busy_goes (suc m) c lt above busy = by_buffer (s.buffer c) refl (busy_goes m)
    where
      On : Type 0
      On = (d : ℕ) → d < net.channels → top < number cert d + m → Busy d → Goes

      waiting : (switch : ℕ) → net.end_of c ≡ AtSwitch switch → (x : NChar) (r : List NChar) → s.buffer c ≡ x ∷ r → s.input c ≡ Idle → Header c switch x → ((d : ℕ) → d < net.channels → top < number cert d + m → Busy d → Goes) → Goes
      waiting switch at x r e idle h on =
          let in_net = (ok.look_starts switch h.h h.d h.names).0 in
          let up = h.rising in
          ⊎_elim
          (λ held. on h.d in_net (omega arith) (IsHeld held.0 held.1 held.2))
          (λ free. record { step = Grant h.d c; no_begin = refl; meets = tt; possible = (_, record { in_net = lt; switch = switch; at = at; idle = idle; h = h.h; rest = r; front = e ∙ ap (λ y. y ∷ r) h.is; named = h.names; not_held = free; after = refl }) })
          (held_or_free net.channels h.d s.input)

      by_input : (switch : ℕ) → net.end_of c ≡ AtSwitch switch → (x : NChar) (r : List NChar) → s.buffer c ≡ x ∷ r → (i : InputState) → s.input c ≡ i → ((d : ℕ) → d < net.channels → top < number cert d + m → Busy d → Goes) → Goes
      by_input switch at x r e Idle ei on =
          let idle = subst (InputIs net cert g.rest g.coming c) ei (inv.inputs c lt) in
          waiting switch at x r e ei (front_header c switch lt at (idle switch at) x r e (g.queue c) refl) on
      by_input switch at x r e (Held d) ei on = let h = holds c d lt ei in let up = h.rising in on d h.in_net (omega arith) (IsHeld c lt ei)
      by_input switch at x r e Spilling ei on = absurd (subst (InputIs net cert g.rest g.coming c) ei (inv.inputs c lt))

      -- a node along which the numbers rise goes on by the channel out of it, or has nothing to send
      sends_or : (n : ℕ) → n < net.nodes → net.into n ≡ c → number cert (net.into n) < number cert (net.out n) → (p : List PendingReply) → s.pending n ≡ p → (l : List NChar) → s.to_send n ≡ l → ((d : ℕ) → d < net.channels → top < number cert d + m → Busy d → Goes) → Goes ⊎ HasNothingToSend s n
      sends_or n ln into up (r0 ∷ others) ep l el on = let same = ap (number cert) into in inl (on (net.out n) (ok.out_starts n ln).0 (omega arith) (Replies n ln refl r0 others ep))
      sends_or n ln into up [] ep (x ∷ r) el on = let same = ap (number cert) into in inl (on (net.out n) (ok.out_starts n ln).0 (omega arith) (Sends n ln refl x r el))
      sends_or n ln into up [] ep [] el on = inr (record { sends_nothing = el; none_pending = ep })

      answers : (n : ℕ) → n < net.nodes → net.into n ≡ c → 0 < s.owed n → (AlwaysTakes net n → ⊥) → ((d : ℕ) → d < net.channels → top < number cert d + m → Busy d → Goes) → Goes
      answers n ln into busied waits on = ⊎_elim
          (λ go. go)
          (λ none. absurd ((inv.nodes n ln).busy busied none.none_pending none.sends_nothing))
          (sends_or n ln into (asked_rises net cert acc n ((inv.nodes n ln).asked busied) waits) (s.pending n) refl (s.to_send n) refl on)

      accepts : (n : ℕ) → n < net.nodes → net.into n ≡ c → (x : NChar) (r : List NChar) → s.buffer c ≡ x ∷ r → s.owed n < net.slots n → (stalls n ≡ true → HasNothingToSend s n) → Goes
      accepts n ln into x r e less meets = let k = cut_of (s.taken n) in record { step = Accept n; no_begin = refl; meets = meets; possible = (_, record { in_net = ln; owes_less = less; first = x; rest = r; front = ap s.buffer into ∙ e; packets = k.0; bytes = k.1; cut = k.2; after = refl }) }

      -- a node with a slot takes what comes, or stalls and goes on with what it has to send
      accepts_or : (n : ℕ) → n < net.nodes → net.into n ≡ c → (x : NChar) (r : List NChar) → s.buffer c ≡ x ∷ r → s.owed n < net.slots n → ((d : ℕ) → d < net.channels → top < number cert d + m → Busy d → Goes) → Goes
      accepts_or n ln into x r e less on = ⊎_elim
          (λ stalling. ⊎_elim
          (λ go. go)
          (λ none. accepts n ln into x r e less (λ again. none))
          (sends_or n ln into (rises n ln stalling) (s.pending n) refl (s.to_send n) refl on))
          (λ not. accepts n ln into x r e less (λ stalling. absurd (false≢true (sym not ∙ stalling))))
          (cases_Bool (stalls n))

      takes : (n : ℕ) → n < net.nodes → net.into n ≡ c → (x : NChar) (r : List NChar) → s.buffer c ≡ x ∷ r → (0 < s.owed n) ⊎ (s.owed n ≡ 0) → ((d : ℕ) → d < net.channels → top < number cert d + m → Busy d → Goes) → Goes
      takes n ln into x r e (inr ea) on = let slot = ok.slot n ln in accepts_or n ln into x r e (omega arith) on
      takes n ln into x r e (inl ea) on = ⊎_elim
          (λ always. accepts_or n ln into x r e (have n ln always x r (ap s.buffer into ∙ e)) on)
          (λ waits. answers n ln into ea waits on)
          (always_takes_or net n)

      by_end : (p : Cell) → net.end_of c ≡ p → (x : NChar) (r : List NChar) → s.buffer c ≡ x ∷ r → ((d : ℕ) → d < net.channels → top < number cert d + m → Busy d → Goes) → Goes
      by_end (AtNode n) at x r e on = let ends = ok.ends_at_node c n lt at in takes n ends.0 ends.1 x r e (owes_or n) on
      by_end (AtSwitch switch) at x r e on = by_input switch at x r e (s.input c) refl on

      by_buffer : (l : List NChar) → s.buffer c ≡ l → ((d : ℕ) → d < net.channels → top < number cert d + m → Busy d → Goes) → Goes
      by_buffer [] e on = empty_goes c lt e busy
      by_buffer (x ∷ r) e on = by_end (net.end_of c) refl x r e on

  goes_now : (c : ℕ) → c < net.channels → Busy c → Goes
  goes_now c lt busy = busy_goes (suc top) c lt (omega arith) busy

  channel_goes : (c : ℕ) → c < net.channels → (b w : List NChar) → s.buffer c ≡ b → s.wire c ≡ w → 0 < length b + length w → Goes
  channel_goes c lt (x ∷ r) w eb ew some = goes_now c lt (Buffered x r eb)
  channel_goes c lt [] (x ∷ r) eb ew some = record { step = Arrive c; no_begin = refl; meets = tt; possible = (_, record { in_net = lt; first = x; rest = r; on_wire = ew; after = refl }) }
  channel_goes c lt [] [] eb ew some = absurd (omega arith)

  node_goes : (n : ℕ) → n < net.nodes → (l : List NChar) → s.to_send n ≡ l → (p : List PendingReply) → s.pending n ≡ p → 0 < length l + length_pending p → Goes
  node_goes n lt (x ∷ r) el p ep some = goes_now (net.out n) (ok.out_starts n lt).0 (Sends n lt refl x r el)
  node_goes n lt [] el (r0 ∷ others) ep some = goes_now (net.out n) (ok.out_starts n lt).0 (Replies n lt refl r0 others ep)
  node_goes n lt [] el [] ep some = absurd (omega arith)

  pub goes_on_stalling : 0 < undelivered net s → Goes
  goes_on_stalling some =
      ⊎_elim
      (λ lt. let p = some_part net.channels (λ c. length (s.buffer c) + length (s.wire c)) lt in channel_goes p.0 p.1 (s.buffer p.0) (s.wire p.0) refl refl p.2)
      (λ ge. let p = some_part net.nodes (λ n. length (s.to_send n) + length_pending (s.pending n)) (omega arith) in node_goes p.0 p.1 (s.to_send p.0) refl (s.pending p.0) refl p.2)
      (cases_lt 0 (total net.channels (λ c. length (s.buffer c) + length (s.wire c))))

-- where no node stalls, that is a step of the machine
pub goes_on : (net : Network) (cert : Certificate) (s : State) (g : Ghost) → IsNetwork net → IsAccepted net cert → HasCredit net s → Inv net cert s g → HaveSlots net s → 0 < undelivered net s → GoesOn net s
goes_on net cert s g ok acc num inv have some =
    let go = goes_on_stalling net cert s g ok acc num inv have (λ n. false) (λ n lt stalling. absurd (false≢true stalling)) some in
    record { step = go.step; no_begin = go.no_begin; possible = go.possible }
