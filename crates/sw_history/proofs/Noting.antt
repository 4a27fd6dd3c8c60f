-- Steps as they are kept.
use Rattle.std.proofs.Common.{All, List, Option, Some, [], ap, length, map, refl, subst, sym, ℕ, ◌++◌, ◌<◌, ◌∙◌, ◌∷◌, ◌≡◌}
use Rattle.std.proofs.lemmas.List.Elements.{All-push}
use Rattle.std.proofs.lemmas.Option.{same_Some, slice_get-get_or, slice_get_within}
use Rattle.std.specs.Prelude.{IfSome, IsSome, slice_get, slice_index}
use Rattle.sw_config.specs.Entries.{Declaration}
use Rattle.sw_history.proofs.Adds.{last_of_map}
use Rattle.sw_history.specs.History.{HistoryView}
use Rattle.sw_history.specs.Next.{beginner_of}
use Rattle.sw_history.specs.Noted.{IsNoted, begin_or, noted_step, packet_after, senders_of}
use Rattle.sw_history.specs.declared.record.Noted.{Noted}
use Rattle.sw_history.specs.declared.record.Noted.TheVariants as note
use Rattle.sw_load.specs.History.{BeginsNext, next_packet, packets_at, packets_of}
use Rattle.sw_load.specs.Senders.{SendersView}
use Rattle.sw_machine.specs.Begun.{Begun, beginnings}
use Rattle.sw_machine.specs.Steps.{Accept, Arrive, Begin, Drop, Emit, Fct, FctIn, Forward, Grant, Reply, Spill, Step}
use Rattle.sw_machine.specs.Model.{network_of}

-- a beginning is kept as its node, and how many packets that has begun
pub record IsBeginning (h : HistoryView) (step : Step) (n before : ℕ) : Type 0 where
  pub packet : IsSome (packet_after (senders_of h) n before)
  pub step_is : noted_step (senders_of h) (note.Begin n before) ≡ step

module _ (h : HistoryView) (n before : ℕ) (count : before ≡ length (packets_at (network_of h.declared) n (beginnings h.steps))) where
  pub begin_noted : (step : Step) → Some n ≡ beginner_of (network_of h.declared) step → BeginsNext (network_of h.declared) (packets_of h.load) h.steps step → IsBeginning h step n before
  begin_noted (Begin f cargo end) who next =
      let net = network_of h.declared in
      let b : Begun = record { flow = f; cargo = cargo; end = end } in
      let same : n ≡ (net.flow f).from = cc in
      let at : packet_after (senders_of h) n before ≡ Some b = ap (slice_get (packets_at net n (packets_of h.load))) count ∙ ap (next_packet net (packets_of h.load) h.steps) same ∙ next in
      record { packet = subst (λ (o : Option Begun). IsSome o) (sym at) refl; step_is = ap begin_or at }
  begin_noted (Fct c) who next = absurd cc
  begin_noted (FctIn c) who next = absurd cc
  begin_noted (Arrive c) who next = absurd cc
  begin_noted (Grant d c) who next = absurd cc
  begin_noted (Drop c) who next = absurd cc
  begin_noted (Forward c) who next = absurd cc
  begin_noted (Spill c) who next = absurd cc
  begin_noted (Emit m) who next = absurd cc
  begin_noted (Accept m) who next = absurd cc
  begin_noted (Reply m) who next = absurd cc

-- what was read of a list is below what bounds it there
pub read_below : (begun : List ℕ) (who : Option ℕ) (n x most : ℕ) → who ≡ Some n → slice_get begun n ≡ Some x → IfSome who (λ k. slice_index begun k < most) → x < most
read_below begun who n x most is at less =
    let lt = slice_get_within begun n x at in
    let same : x ≡ slice_index begun n = same_Some x (slice_index begun n) (sym at ∙ slice_get-get_or begun n 0 lt) in
    subst (λ (k : ℕ). k < most) (sym same) (subst (λ (o : Option ℕ). IfSome o (λ k. slice_index begun k < most)) is less)

-- the senders of a history send what it declares
pub same_senders : (s : SendersView) (d : Declaration) (h : HistoryView) → s.declared ≡ d → d ≡ h.declared → s.load ≡ h.load → s ≡ senders_of h
same_senders s d h own declared load = λ i. record { declared = (own ∙ declared) i; load = load i }

-- one more is kept
pub noted_more : (s : SendersView) (h : HistoryView) (notes more : List Noted) (x : Noted) (step : Step) → s ≡ senders_of h → more ≡ notes ++ x ∷ [] → noted_step (senders_of h) x ≡ step
    → map (noted_step s) more ≡ map (noted_step s) notes ++ step ∷ []
noted_more s h notes more x step same is stands =
    last_of_map (noted_step s) notes more x is ∙ ap (λ (y : Step). map (noted_step s) notes ++ y ∷ []) (ap (λ (t : SendersView). noted_step t x) same ∙ stands)

pub all_noted : (s : SendersView) (h : HistoryView) (notes more : List Noted) (x : Noted) → s ≡ senders_of h → more ≡ notes ++ x ∷ [] → IsNoted (senders_of h) x → All (IsNoted s) notes → All (IsNoted s) more
all_noted s h notes more x same is sound all =
    subst (λ (l : List Noted). All (IsNoted s) l) (sym is) (All-push (IsNoted s) notes x all (subst (λ (t : SendersView). IsNoted t x) (sym same) sound))
