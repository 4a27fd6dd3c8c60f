-- Runs of two networks of the machine that differ in their flows alone.
use Rattle.std.proofs.Common.{◌≡◌, ℕ, Bool, false, List, Option, [], ◌∷◌, refl, ap, ◌∙◌}
use Rattle.sw_char.specs.declared.nchar.End.{End}
use Rattle.sw_char.specs.declared.nchar.NChar.{NChar}
use Rattle.sw_char.specs.declared.nchar.NChar.TheVariants.{Data, Eep, Eop}
use Rattle.sw_machine.specs.Network.{Flow, Network}
use Rattle.sw_machine.specs.Runs.{GoesOn, IsQuiet, IsReached, Run}
use Rattle.sw_machine.specs.State.{State, after_accept, empty}
use Rattle.sw_machine.specs.Steps.{Accept, Arrive, Begin, Drop, Drops, Emit, Fct, FctIn, Forward, Grant, IsPossible, Leads, Reply, Spill, Step, is_begin}
use Rattle.sw_witness.specs.OtherFlows.{DeclaresAll, NeverLocksUp, OtherFlowsKeepFreedom, OtherFlowsKeepRuns, RunsAreRuns, with_flows}

-- ---- steps that begin no packet

module _ (net : Network) (count declared : ℕ) (flow : ℕ → Flow) (limited : ℕ → Bool) (limit : ℕ → Option ℕ) where
  drops : (s : State) (c switch : ℕ) (x : NChar) (rest : List NChar) (t : State) → Drops net s c switch x rest t → Drops (with_flows net count declared flow limited limit) s c switch x rest t
  drops s c switch (Data h) rest t d = d
  drops s c switch Eop rest t d = d
  drops s c switch Eep rest t d = d

  accepts : (s : State) (n : ℕ) (bytes : List ℕ) (x : NChar) (rest : List NChar) → after_accept net s n bytes x rest ≡ after_accept (with_flows net count declared flow limited limit) s n bytes x rest
  accepts s n bytes (Data b) rest = refl
  accepts s n bytes Eop rest = refl
  accepts s n bytes Eep rest = refl

  -- they do not hang on the flows
  pub is_step : (s : State) (step : Step) (t : State) → is_begin step ≡ false → Leads net s step t → Leads (with_flows net count declared flow limited limit) s step t
  is_step s (Fct c) t plain h = record { in_net = h.in_net; room = h.room; few = h.few; after = h.after }
  is_step s (FctIn c) t plain h = record { in_net = h.in_net; remaining = h.remaining; under_way = h.under_way; after = h.after }
  is_step s (Arrive c) t plain h = record { in_net = h.in_net; first = h.first; rest = h.rest; on_wire = h.on_wire; after = h.after }
  is_step s (Grant d c) t plain h =
      record { in_net = h.in_net; switch = h.switch; at = h.at; idle = h.idle; h = h.h; rest = h.rest; front = h.front; named = h.named; not_held = h.not_held; after = h.after }
  is_step s (Drop c) t plain h =
      record { in_net = h.in_net; switch = h.switch; at = h.at; idle = h.idle; first = h.first; rest = h.rest; front = h.front; after = drops s c h.switch h.first h.rest t h.after }
  is_step s (Forward c) t plain h =
      record { in_net = h.in_net; d = h.d; held = h.held; first = h.first; rest = h.rest; front = h.front; remaining = h.remaining; credit = h.credit; after = h.after }
  is_step s (Spill c) t plain h = record { in_net = h.in_net; spilling = h.spilling; first = h.first; rest = h.rest; front = h.front; after = h.after }
  is_step s (Begin f cargo end) t plain h = absurd cc
  is_step s (Emit n) t plain h =
      record { in_net = h.in_net; first = h.first; rest = h.rest; sending = h.sending; remaining = h.remaining; credit = h.credit; after = h.after }
  is_step s (Accept n) t plain h =
      record {
        in_net = h.in_net;
        owes_less = h.owes_less;
        first = h.first;
        rest = h.rest;
        front = h.front;
        packets = h.packets;
        bytes = h.bytes;
        cut = h.cut;
        after = h.after ∙ accepts s n h.bytes h.first h.rest;
      }
  is_step s (Reply n) t plain h =
      record { in_net = h.in_net; reply = h.reply; others = h.others; waits = h.waits; sends_nothing = h.sends_nothing; after = h.after }

-- ---- all steps

module _ (net : Network) (count declared : ℕ) (flow : ℕ → Flow) (limited : ℕ → Bool) (limit : ℕ → Option ℕ) (all : DeclaresAll net (with_flows net count declared flow limited limit)) where
  abbrev Other : Network
  Other = with_flows net count declared flow limited limit

  begins : (s : State) (f : ℕ) (cargo : List ℕ) (end : End) (t : State) → Leads net s (Begin f cargo end) t → Leads Other s (Begin f cargo end) t
  begins s f cargo end t h =
      let from : (flow f).from ≡ (net.flow f).from = all.from f cargo h.declared in
      let address : (flow f).address ≡ (net.flow f).address = all.address f cargo h.declared in
      record {
        declared = all.packets f cargo h.declared;
        sends_nothing = ap s.to_send from ∙ h.sends_nothing;
        none_pending = ap s.pending from ∙ h.none_pending;
        after = rw (from, address) h.after;
      }

  is_any_step : (s : State) (step : Step) (t : State) → Leads net s step t → Leads Other s step t
  is_any_step s (Fct c) t h = is_step net count declared flow limited limit s (Fct c) t refl h
  is_any_step s (FctIn c) t h = is_step net count declared flow limited limit s (FctIn c) t refl h
  is_any_step s (Arrive c) t h = is_step net count declared flow limited limit s (Arrive c) t refl h
  is_any_step s (Grant d c) t h = is_step net count declared flow limited limit s (Grant d c) t refl h
  is_any_step s (Drop c) t h = is_step net count declared flow limited limit s (Drop c) t refl h
  is_any_step s (Forward c) t h = is_step net count declared flow limited limit s (Forward c) t refl h
  is_any_step s (Spill c) t h = is_step net count declared flow limited limit s (Spill c) t refl h
  is_any_step s (Begin f cargo end) t h = begins s f cargo end t h
  is_any_step s (Emit n) t h = is_step net count declared flow limited limit s (Emit n) t refl h
  is_any_step s (Accept n) t h = is_step net count declared flow limited limit s (Accept n) t refl h
  is_any_step s (Reply n) t h = is_step net count declared flow limited limit s (Reply n) t refl h

  is_run : (steps : List Step) (s t : State) → Run net s steps t → Run Other s steps t
  is_run [] s t r = r
  is_run (step ∷ steps) s t r = (r.0, is_any_step s step r.0 r.1, is_run steps r.0 t r.2)

  pub runs : RunsAreRuns net Other
  runs steps s r = is_run steps (empty net) s r

  reached : (s : State) → IsReached net s → IsReached Other s
  reached s r = (r.0, runs r.0 s r.1)

  -- what is possible there but a beginning is possible here
  possible : (s : State) (step : Step) → is_begin step ≡ false → IsPossible Other s step → IsPossible net s step
  possible s step plain p = (p.0, is_step Other net.flows net.declared_flows net.flow net.limited net.limit s step p.0 plain p.1)

  quiet : (s : State) → IsQuiet net s → IsQuiet Other s
  quiet s q step plain p = q step plain (possible s step plain p)

  goes_on : (s : State) → GoesOn Other s → GoesOn net s
  goes_on s g = record { step = g.step; no_begin = g.no_begin; possible = possible s g.step g.no_begin g.possible }

  pub freedom : NeverLocksUp Other → NeverLocksUp net
  freedom n = record {
    always_goes_on = λ s r some. goes_on s (n.always_goes_on s (reached s r) some);
    never_locked_up = λ s r locked. n.never_locked_up s (reached s r) (record { quiet = quiet s locked.quiet; holds = locked.holds });
    quiet_is_empty = λ s r q. n.quiet_is_empty s (reached s r) (quiet s q);
    nothing_is_dropped = λ s r c. (
      λ p. (n.nothing_is_dropped s (reached s r) c).0 (p.0, is_step net count declared flow limited limit s (Drop c) p.0 refl p.1),
      λ p. (n.nothing_is_dropped s (reached s r) c).1 (p.0, is_step net count declared flow limited limit s (Spill c) p.0 refl p.1),
    );
  }

pub other_flows_keep_runs : OtherFlowsKeepRuns
other_flows_keep_runs net count declared flow limited limit all = runs net count declared flow limited limit all

pub other_flows_keep_freedom : OtherFlowsKeepFreedom
other_flows_keep_freedom net count declared flow limited limit all n = freedom net count declared flow limited limit all n
