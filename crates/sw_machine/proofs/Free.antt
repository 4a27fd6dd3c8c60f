-- What an accepted certificate shows.
use Rattle.std.proofs.Common.{List, [], arith, subst, ℕ, ⊎_elim, ◌++◌, ◌<◌, ◌∷◌}
use Rattle.std.proofs.lemmas.Bool.{cases_lt}
use Rattle.std.proofs.lemmas.List.Sums.{sum_by-append}
use Rattle.sw_machine.proofs.Answered.{commands_at_least, replies_at_most, replies_exactly}
use Rattle.sw_machine.proofs.Bound.{is_bounded}
use Rattle.sw_machine.proofs.Load.{is_bounded_by_load}
use Rattle.sw_machine.proofs.RunLists.{all_moves, cost, run_of, run_of_append}
use Rattle.sw_machine.proofs.Ghost.{InputIs}
use Rattle.sw_machine.proofs.Limits.{all_are_kept, have_slots, keeps_more}
use Rattle.sw_machine.proofs.Runs.{empty_inv, goes_on_where, never_drops, none, reached_inv, run_begins}
use Rattle.sw_machine.proofs.Whole.{all_comes_out, comes_out_whole}
use Rattle.sw_machine.specs.Begun.{NoMoreRepliesThanCommands}
use Rattle.sw_machine.specs.Certificate.{Certificate, IsAccepted, IsListed, number}
use Rattle.sw_machine.specs.DeadlockFreedom.{AlwaysGoesOnWithinLimits, EndsEmptyWithinLimits, IsDeadlockFree, IsDeadlockFreeWithinLimits, IsFree, NothingIsDropped, QuietIsEmptyWithinLimits}
use Rattle.sw_machine.specs.Limits.{HasNoLimits}
use Rattle.sw_machine.specs.Network.{IsNetwork, Network}
use Rattle.sw_machine.specs.Places.{ByFlow, ByTarget, Goes, IsChain, IsCycle, IsPlace, IsRising, Start}
use Rattle.sw_machine.specs.Runs.{undelivered}
use Rattle.sw_machine.specs.State.{empty}

module _ (net : Network) (number : ℕ → ℕ) (rising : IsRising net number) where
  chain_rises : (c d : ℕ) (es : List ℕ) → IsChain net c es d → number c < number d
  chain_rises c d [] h = rising c d h
  chain_rises c d (e ∷ es) h = let a = rising c e h.0 in let b = chain_rises e d es h.1 in omega arith

  pub rising_has_no_cycle : (cycle : List ℕ) → IsCycle net cycle → ⊥
  rising_has_no_cycle [] h = h
  rising_has_no_cycle (c ∷ cs) h = let r = chain_rises c c cs h in omega arith

module _ (net : Network) (cert : Certificate) (ok : IsNetwork net) (acc : IsAccepted net cert) where
  -- each place is listed
  listed : (i c k : ℕ) → i < net.flows → IsPlace net i c k → IsListed cert i c k
  listed i c k lt Start = acc.starts i lt
  listed i c k lt (Goes b j d m p f) = acc.closed i b j d m lt (listed i b j lt p) f

  rises : IsRising net (number cert)
  rises c d (ByFlow i b k e m lt p f) = acc.rising i b k e m lt (listed i b k lt p) f
  rises c d (ByTarget i j lt reply waits) = acc.targets i j lt reply waits

  always_goes_on : AlwaysGoesOnWithinLimits net
  always_goes_on s r some = goes_on_where net cert ok acc s (r.0, r.1) (have_slots net cert ok acc r.0 s r.1 r.2) some

  empties : QuietIsEmptyWithinLimits net
  empties s r quiet = ⊎_elim
      (λ some. let g = always_goes_on s r some in absurd (quiet g.step g.no_begin g.possible))
      (λ none. omega arith)
      (cases_lt 0 (undelivered net s))

  ends : EndsEmptyWithinLimits net
  ends steps begun s r keeps more replies t q all quiet =
      let whole = run_of_append net steps more begun replies (empty net) s t r q in
      let bound = is_bounded net cert ok acc (steps ++ more) (begun ++ replies) t whole in
      let m = sum_by-append cost steps more in
      let l = all_moves more in
      (empties t (steps ++ more, run_of net (steps ++ more) (begun ++ replies) (empty net) t whole, keeps_more net steps more all keeps) quiet, omega arith)

  -- an input that drops would wait with no header, and none spills
  undropped : NothingIsDropped net
  undropped s r c =
      let kept = reached_inv net cert ok acc s r in (
        λ drop. let h = drop.1 in never_drops net cert ok acc s kept.0 c h.switch h.first h.rest drop.0 h.in_net h.at h.idle h.front h.after kept.1,
        λ spill. let h = spill.1 in subst (InputIs net cert (kept.0).rest (kept.0).coming c) h.spilling ((kept.1).inputs c h.in_net),
      )

  pub no_more_replies : NoMoreRepliesThanCommands net
  no_more_replies steps begun s r n ln test = commands_at_least net ok n ln test steps begun s r (λ ps out. comes_out_whole net cert ok acc steps begun s r n ln ps out)

  pub is_deadlock_free_within_limits : IsDeadlockFreeWithinLimits net cert
  is_deadlock_free_within_limits = record {
    well_routed = λ i lt c k p. acc.faultless i c k lt (listed i c k lt p);
    rising = rises;
    no_cycle = rising_has_no_cycle net (number cert) rises;
    always_goes_on = always_goes_on;
    never_locked_up = λ s r locked. let g = always_goes_on s r locked.holds in locked.quiet g.step g.no_begin g.possible;
    quiet_is_empty = empties;
    nothing_is_dropped = undropped;
    each_run_is_counted = λ steps s r. run_begins net cert ok acc steps (empty net) (none net cert ok acc) s r (empty_inv net cert ok acc);
    comes_out_whole = comes_out_whole net cert ok acc;
    all_comes_out = all_comes_out net cert ok acc;
    replies_are_asked = λ steps begun s r n ln test. replies_at_most net ok n ln test steps begun s r;
    all_is_answered = λ steps begun s r none n ln test. replies_exactly net ok n ln test steps begun s r none (λ ps out. all_comes_out net cert ok acc steps begun s r none n ln ps out);
    only_asked_owe = λ s r n ln owes. let k = reached_inv net cert ok acc s r in (k.1.nodes n ln).asked owes;
    bounded = is_bounded net cert ok acc;
    bounded_by_load = is_bounded_by_load net cert ok acc (λ begun steps s r. no_more_replies steps begun s r);
    ends_empty = ends;
  }

  -- without limits each run keeps them
  module _ (free : HasNoLimits net) where
    pub is_deadlock_free : IsDeadlockFree net cert
    is_deadlock_free =
        let all = is_deadlock_free_within_limits in
        let kept = all_are_kept net free in
        record {
          well_routed = all.well_routed;
          rising = all.rising;
          no_cycle = all.no_cycle;
          always_goes_on = λ s r. all.always_goes_on s (r.0, r.1, kept r.0);
          never_locked_up = λ s r. all.never_locked_up s (r.0, r.1, kept r.0);
          quiet_is_empty = λ s r. all.quiet_is_empty s (r.0, r.1, kept r.0);
          nothing_is_dropped = all.nothing_is_dropped;
          each_run_is_counted = all.each_run_is_counted;
          comes_out_whole = all.comes_out_whole;
          all_comes_out = all.all_comes_out;
          replies_are_asked = all.replies_are_asked;
          all_is_answered = all.all_is_answered;
          only_asked_owe = all.only_asked_owe;
          bounded = all.bounded;
          bounded_by_load = all.bounded_by_load;
          ends_empty = λ steps begun s r. all.ends_empty steps begun s r (kept steps);
        }

  pub is_free : IsFree net cert
  is_free = record { within_limits = is_deadlock_free_within_limits; without_limits = λ free. is_deadlock_free free }
