-- What is noted beside a journal stays true.
use Rattle.std.proofs.Common.{Bool, Err, IfSome, List, None, Ok, Option, Result, Some, [], ap, arith, cond, count_by, eq-eqb, eqb-true, false, get_or, length, nat_eq, ne_eqb, not, refl, replicate, slice_get, slice_set, subst, suc, sym, take_all, true, zero, ℕ, ◌*◌, ◌+◌, ◌++◌, ◌<◌, ◌∙◌, ◌∷◌, ◌≡◌, ◌≤◌, ◌⊎◌, inl, inr}
use Rattle.std.proofs.lemmas.List.{length-append, length-replicate, length-set}
use Rattle.std.proofs.lemmas.List.Sums.{sum_by-cons, sum_by-set}
use Rattle.std.proofs.lemmas.Option.{get_or_from_slice_get, slice_get-get_or, slice_get_past, slice_get_within}
use Rattle.std.specs.Option.{option_eq}
use Rattle.sw_cell.proofs.Network.{channels_are}
use Rattle.sw_config.proofs.Steps.{length-link_ends}
use Rattle.sw_config.specs.Entries.{Declaration}
use Rattle.sw_journal.proofs.Follows.{follows_where_possible, no_begin_keeps, no_begin_next, one_state_after}
use Rattle.sw_journal.specs.Asked.{IsStill, IsUndelivered}
use Rattle.sw_journal.specs.Next.{IsIdle}
use Rattle.sw_journal.specs.Numbers.{Numbers}
use Rattle.sw_journal.specs.Record.{CellView, Commits, IsNew, IsTrueView, JournalView, with_marks}
use Rattle.sw_journal.specs.declared.fault.JournalFault.{JournalFault}
use Rattle.sw_journal.specs.declared.fault.JournalFault.TheVariants as fault
use Rattle.sw_load.specs.History.{packets_of}
use Rattle.sw_load.specs.Load.{LoadEntry}
use Rattle.sw_machine.proofs.Parts.{link_ends}
use Rattle.sw_machine.specs.Model.{network_of}
use Rattle.sw_machine.specs.Parts.{link_end_of}
use Rattle.sw_machine.specs.Runs.{undelivered}
use Rattle.sw_machine.specs.Steps.{Step}
use Rattle.sw_run.specs.Ends.{IsOpen}
use Rattle.sw_run.specs.Notes.{AreTrueNotes, IsAwake, IsMarkedAt, Rests, awake_ends, is_awake, noted_after}
use Rattle.sw_run.specs.declared.notes.Notes.{Notes}
use Rattle.sw_run.specs.declared.outcome.Stop.{Stop}
use Rattle.sw_run.specs.declared.outcome.Stop.TheVariants.{Drained, JournalFull, Memory, Stuck, Waiting}
use Rattle.sw_run.specs.declared.turn.Turn.{Turn}
use Rattle.sw_run.specs.declared.turn.Turn.TheVariants.{Idle, Moved, Over, Sent}

-- ---- counts

not_passing : (b : Bool) → ◌≡◌ {A = ℕ} (cond b 1 0) 0 → b ≡ false
not_passing true e = absurd cc
not_passing false e = refl

-- where none passes, no element does
none_passes : {X : Type 0} (p : X → Bool) (xs : List X) → count_by p xs ≡ 0 → (k : ℕ) (x : X) → slice_get xs k ≡ Some x → p x ≡ false
none_passes p [] none k x at = absurd cc
none_passes p (z ∷ zs) none zero x at =
    let cons = sum_by-cons (λ y. cond (p y) 1 0) z zs in
    let same : z ≡ x = cc in
    subst (λ y. p y ≡ false) same (not_passing (p z) (omega (arith, cons, none)))
none_passes p (z ∷ zs) none (suc k) x at = let cons = sum_by-cons (λ y. cond (p y) 1 0) z zs in none_passes p zs (omega (arith, cons, none)) k x at

-- where each passes, all do
all_pass : {X : Type 0} (p : X → Bool) (xs : List X) → ((k : ℕ) (x : X) → slice_get xs k ≡ Some x → p x ≡ true) → count_by p xs ≡ length xs
all_pass p [] each = refl
all_pass p (x ∷ xs) each =
    let cons = sum_by-cons (λ y. cond (p y) 1 0) x xs in
    let first : ◌≡◌ {A = ℕ} (cond (p x) 1 0) 1 = ap (λ (b : Bool). cond b 1 0) (each 0 x refl) in
    let rest = all_pass p xs (λ k y at. each (suc k) y at) in
    omega (arith, cons, first, rest)

-- where one that passes is replaced by one that does not, one fewer passes
one_fewer : {X : Type 0} (p : X → Bool) (xs : List X) (k : ℕ) (x y : X) → slice_get xs k ≡ Some x → p x ≡ true → p y ≡ false → count_by p (slice_set xs k y) + 1 ≡ count_by p xs
one_fewer {X} p xs k x y at passes fails =
    let f : X → ℕ = λ z. cond (p z) 1 0 in
    let set = sum_by-set f xs k y x (slice_get_within xs k x at) in
    let before : f (get_or xs k x) ≡ 1 = ap f (get_or_from_slice_get xs k x x at) ∙ ap (λ (b : Bool). cond b 1 0) passes in
    let later : f y ≡ 0 = ap (λ (b : Bool). cond b 1 0) fails in
    omega (arith, set, before, later)

-- ---- marks

-- there is one for each link end
pub places_are : (j : JournalView) → IsTrueView j → length j.marks ≡ 2 * length j.declared.links
places_are j is = is.places ∙ channels_are j.declared ∙ length-link_ends j.declared.links

same_mark : (mark : Option ℕ) (count : ℕ) → option_eq nat_eq mark (Some count) ≡ true → mark ≡ Some count
same_mark None count e = absurd cc
same_mark (Some k) count e = ap Some (eqb-true k count e)

-- what stands at a place of a list has its mark
pub marked_at : (j : JournalView) (ends : List (ℕ × Numbers)) (place : ℕ) (own : ℕ × Numbers) (mark : Option ℕ) (count : ℕ) → slice_get ends place ≡ Some own → slice_get j.marks own.0 ≡ Some mark
    → option_eq nat_eq mark (Some count) ≡ true → count ≡ length j.history → IsMarkedAt j ends place
marked_at j ends place own mark count at here same is =
    subst (λ (o : Option (ℕ × Numbers)). IfSome o (λ p. IfSome (slice_get j.marks p.0) (λ m. m ≡ Some (length j.history)))) (sym at)
    (subst (λ (o : Option (Option ℕ)). IfSome o (λ m. m ≡ Some (length j.history))) (sym here) (same_mark mark count same ∙ ap Some is))

-- what stands there is none of the network's
pub past_at : (j : JournalView) (ends : List (ℕ × Numbers)) (place : ℕ) (own : ℕ × Numbers) → slice_get ends place ≡ Some own → length j.marks ≤ own.0 → IsMarkedAt j ends place
past_at j ends place own at past =
    subst (λ (o : Option (ℕ × Numbers)). IfSome o (λ p. IfSome (slice_get j.marks p.0) (λ m. m ≡ Some (length j.history)))) (sym at)
    (subst (λ (o : Option (Option ℕ)). IfSome o (λ m. m ≡ Some (length j.history))) (sym (slice_get_past j.marks own.0 past)) tt)

not_false : (b : Bool) → not b ≡ false → b ≡ true
not_false true e = refl
not_false false e = absurd cc

asleep : (count : ℕ) (mark : Option ℕ) → is_awake count mark ≡ false → mark ≡ Some count
asleep count None e = absurd cc
asleep count (Some k) e = ap Some (eqb-true k count (not_false (nat_eq k count) e))

-- no mark is at a length that is still to come
all_awake : (j : JournalView) → IsTrueView j → (step : Step) → count_by (is_awake (length (j.history ++ step ∷ []))) j.marks ≡ length j.marks
all_awake j is step = all_pass (is_awake (length (j.history ++ step ∷ []))) j.marks by_mark
  where
    by_mark : (e : ℕ) (mark : Option ℕ) → slice_get j.marks e ≡ Some mark → is_awake (length (j.history ++ step ∷ [])) mark ≡ true
    by_mark e None at = refl
    by_mark e (Some k) at =
        let within = (is.true_marks e k at).within in
        let long = length-append j.history (step ∷ []) in
        ap not (ne_eqb k (length (j.history ++ step ∷ [])) (λ same. absurd (omega (arith, within, long, same))))

no_marks : (count n : ℕ) → count_by (is_awake count) (replicate n None) ≡ n
no_marks count zero = refl
no_marks count (suc n) =
    let cons = sum_by-cons (λ mark. cond (is_awake count mark) 1 0) None (replicate n None) in
    let rest = no_marks count n in
    omega (arith, cons, rest)

-- where each link end has its mark no step may follow
pub none_awake : (j : JournalView) → IsTrueView j → awake_ends j ≡ 0 → IsStill j
none_awake j is none step may =
    let net = network_of j.declared in
    let e = link_end_of net step in
    let possible = ((follows_where_possible net (packets_of j.load) j.history is.state is.history step).0 may).0 in
    let within = (link_ends net is.network is.state step possible).0 in
    let places = is.places in
    let at = slice_get-get_or j.marks e None (omega (arith, within, places)) in
    let mark = get_or j.marks e None in
    let own = asleep (length j.history) mark (none_passes (is_awake (length j.history)) j.marks none e mark at) in
    let idle = (is.true_marks e (length j.history) (at ∙ ap Some own)).idle in
    subst (λ l. IsIdle net (packets_of j.load) l e) (take_all (length j.history) j.history (omega arith)) idle step refl may

-- ---- what is noted

-- of a new journal
pub new_notes : (d : Declaration) (load : List LoadEntry) (limit : ℕ) (j : JournalView) (n : Notes) (ends : ℕ) → IsNew d load limit j → ends ≡ (network_of d).channels
    → n.ends ≡ ends → n.awake ≡ ends → n.stop ≡ None → AreTrueNotes j n
new_notes d load limit j n ends new count all awake goes_on =
    let marks = ap (λ (v : JournalView). length v.marks) new ∙ length-replicate (network_of d).channels None in
    let awake_all = ap (λ (v : JournalView). count_by (is_awake (length v.history)) v.marks) new ∙ no_marks 0 (network_of d).channels in
    record {
      all = all ∙ count ∙ sym marks;
      count = awake ∙ count ∙ sym awake_all;
      stuck = λ e. absurd (none_noted e);
      full = λ e. absurd (none_noted e);
      not_drained = λ e. none_noted e;
      not_waiting = λ e. none_noted e;
    }
  where
    none_noted : {s : Stop} → n.stop ≡ Some s → ⊥
    none_noted {s} e = let bad : None ≡ Some s = sym goes_on ∙ e in absurd cc

module _ (j : JournalView) (n : Notes) (is : AreTrueNotes j n) where
  -- whatever is noted besides
  with_outputs : (m : Notes) → AreTrueNotes j (record n { outputs = m.outputs })
  with_outputs m = record { all = is.all; count = is.count; stuck = is.stuck; full = is.full; not_drained = is.not_drained; not_waiting = is.not_waiting }

  pub with_settled : (settled : Bool) → AreTrueNotes j (record n { settled = settled })
  with_settled settled = record { all = is.all; count = is.count; stuck = is.stuck; full = is.full; not_drained = is.not_drained; not_waiting = is.not_waiting }

  -- memory is wanted
  pub noted_memory : AreTrueNotes j (record n { stop = Some Memory })
  noted_memory = record { all = is.all; count = is.count; stuck = λ e. absurd cc; full = λ e. absurd cc; not_drained = λ e. absurd cc; not_waiting = λ e. absurd cc }

  -- the history is as long as it may be
  pub noted_full : length j.history ≡ j.limit → AreTrueNotes j (record n { stop = Some JournalFull })
  noted_full full = record { all = is.all; count = is.count; stuck = λ e. absurd cc; full = λ e. full; not_drained = λ e. absurd cc; not_waiting = λ e. absurd cc }

  -- the journal has answered to a step
  noted_commit : IsTrueView j → (k : JournalView) (cell after : CellView) (step : Step) (made : Result Unit JournalFault) → Commits j cell step made k after → AreTrueNotes k (noted_after n made)
  noted_commit true_view k cell after step (Ok done) c =
      subst (λ v. AreTrueNotes v (record n { awake = n.ends })) (sym c.2) (record {
        all = is.all;
        count = is.all ∙ sym (all_awake j true_view step);
        stuck = λ e. absurd (is.stuck e step (c.0).1);
        full = λ e. (let full = is.full e in let room = c.1 in absurd (omega (arith, full, room)));
        not_drained = is.not_drained;
        not_waiting = is.not_waiting;
      })
  noted_commit true_view k cell after step (Err fault.NotEnabled) c = subst (λ v. AreTrueNotes v n) (sym c.1) is
  noted_commit true_view k cell after step (Err fault.Full) c = subst (λ v. AreTrueNotes v (record n { stop = Some JournalFull })) (sym c.2) (noted_full c.1)
  noted_commit true_view k cell after step (Err fault.Memory) c = subst (λ v. AreTrueNotes v (record n { stop = Some Memory })) (sym c.2) noted_memory

  -- a link end that had no mark has one
  module _ (k : JournalView) (e : ℕ) (true_view : IsTrueView k) (marked : k ≡ with_marks j (slice_set j.marks e (Some (length j.history)))) (within : e < length k.marks) (awake : IsAwake j e) where
    as_many : length j.marks ≡ length k.marks
    as_many = sym (ap (λ (v : JournalView). length v.marks) marked ∙ length-set j.marks e (Some (length j.history)))

    fewer : awake_ends k + 1 ≡ awake_ends j
    fewer =
        let same = as_many in
        let at = slice_get-get_or j.marks e None (omega (arith, within, same)) in
        let own = subst (λ (o : Option (Option ℕ)). IfSome o (λ mark. is_awake (length j.history) mark ≡ true)) at awake in
        ap (λ (v : JournalView). awake_ends v + 1) marked ∙ one_fewer (is_awake (length j.history)) j.marks e (get_or j.marks e None) (Some (length j.history)) at own (ap not (eq-eqb (length j.history) (length j.history) refl))

    pub noted_rest : (m : Notes) (turn : Turn) → Rests n turn m → AreTrueNotes k m
    noted_rest m Idle rests =
        let count = is.count in
        subst (AreTrueNotes k) (sym rests.1) (record {
          all = is.all ∙ as_many;
          count = omega (arith, count, fewer);
          stuck = λ e. subst IsStill (sym marked) (is.stuck e);
          full = λ e. subst (λ v. length v.history ≡ v.limit) (sym marked) (is.full e);
          not_drained = is.not_drained;
          not_waiting = is.not_waiting;
        })
    noted_rest m Over rests =
        let count = is.count in
        let last = rests.0 in
        let none : awake_ends k ≡ 0 = omega (arith, count, fewer, last) in
        subst (AreTrueNotes k) (sym rests.1) (record {
          all = is.all ∙ as_many;
          count = omega (arith, count, fewer);
          stuck = λ e. none_awake k true_view none;
          full = λ e. absurd cc;
          not_drained = λ e. absurd cc;
          not_waiting = λ e. absurd cc;
        })
    noted_rest m Moved rests = absurd rests
    noted_rest m (Sent at) rests = absurd rests

-- what a commit does to them: the outputs are noted, whether a reply was sent whole, and what the journal answered
pub committed : (j k : JournalView) (n m o p : Notes) (settled : Bool) (cell after : CellView) (step : Step) (made : Result Unit JournalFault) → IsTrueView j → AreTrueNotes j n
    → m ≡ record n { outputs = m.outputs } → o ≡ record m { settled = settled } → p ≡ noted_after o made → Commits j cell step made k after → AreTrueNotes k p
committed j k n m o p settled cell after step made true_view is first second third c =
    let with_sent = subst (AreTrueNotes j) (sym first) (with_outputs j n is m) in
    let with_settling = subst (AreTrueNotes j) (sym second) (with_settled j m with_sent settled) in
    subst (AreTrueNotes k) (sym third) (noted_commit j o with_settling true_view k cell after step made c)

-- ---- the end

-- where no step may follow, the run is drained, stuck, or waits for ever
pub still_ends : (j : JournalView) → IsTrueView j → IsStill j → IsOpen j → ⊥
still_ends j is still goes_on = elim (cases_zero count) [
  | inl none ↦ goes_on.2 (record { not_whole = λ whole. goes_on.0 (record { whole = whole; delivered = subst (IsUndelivered j) none left }); still = still; delivered = subst (IsUndelivered j) none left })
  | inr some ↦ goes_on.1 (record {
    still = still;
    locked_up = λ s leads. record {
      quiet = λ step none p. still step ((follows_where_possible (network_of j.declared) (packets_of j.load) j.history s leads step).1 (p, no_begin_next (network_of j.declared) (packets_of j.load) j.history step none, no_begin_keeps (network_of j.declared) j.history s step none));
      holds = (let here = left s leads in omega (arith, here, some));
    };
  })
]
  where
    count : ℕ
    count = undelivered (network_of j.declared) is.state

    left : IsUndelivered j count
    left s leads = ap (undelivered (network_of j.declared)) (one_state_after (network_of j.declared) (packets_of j.load) j.history s is.state leads is.history)

    cases_zero : (r : ℕ) → (r ≡ 0) ⊎ (0 < r)
    cases_zero zero = inl refl
    cases_zero (suc r) = inr (omega arith)

-- what is noted of a run that is at no end, and whose history may be longer
pub noted_open : (j : JournalView) (n : Notes) → IsTrueView j → AreTrueNotes j n → IsOpen j → (length j.history ≡ j.limit → ⊥) → (n.stop ≡ None) ⊎ (n.stop ≡ Some Memory)
noted_open j n is notes goes_on short = by n.stop refl
  where
    by : (o : Option Stop) → n.stop ≡ o → (n.stop ≡ None) ⊎ (n.stop ≡ Some Memory)
    by None e = inl e
    by (Some Memory) e = inr e
    by (Some Stuck) e = absurd (still_ends j is (notes.stuck e) goes_on)
    by (Some JournalFull) e = absurd (short (notes.full e))
    by (Some Drained) e = absurd (notes.not_drained e)
    by (Some Waiting) e = absurd (notes.not_waiting e)
