-- The steps of a history can be written.
use Rattle.std.proofs.Common.{ℕ, ◌*◌, ◌<◌, List, [], ◌∷◌, ◌++◌, length, refl, subst, inl, inr, arith, eq-eqb, All}
use Rattle.std.specs.Prelude.{nat_eq, replicate}
use Rattle.std.proofs.lemmas.Bool.{cases_Bool}
use Rattle.std.proofs.lemmas.List.Elements.{All-append, All-cons, All-filter, All-head, All-nil, All-replicate, All-tail}
use Rattle.sw_config.specs.Entries.{Declaration}
use Rattle.sw_config.proofs.Steps.{length-link_ends}
use Rattle.sw_load.specs.History.{IsFront, IsHistory, packet_of, packets_at, packets_of}
use Rattle.sw_load.specs.Load.{LoadEntry}
use Rattle.sw_machine.specs.Begun.{Begun, beginnings}
use Rattle.sw_machine.specs.Network.{IsNetwork, Network}
use Rattle.sw_machine.specs.Runs.{Run}
use Rattle.sw_machine.specs.State.{State, empty}
use Rattle.sw_machine.specs.Steps.{Leads, Step, Fct, FctIn, Arrive, Grant, Drop, Forward, Spill, Begin, Emit, Accept, Reply}
use Rattle.sw_machine.specs.Model.{network_of}
use Rattle.sw_schedule.specs.TextLaws.{IsShort}
use Rattle.sw_schedule.proofs.Entries.{Each}
use Rattle.sw_schedule.proofs.WrittenLines.{IsWritable}

-- ---- the cargo of what is begun

-- what holds of those of each node holds of all
of_all_nodes : (net : Network) (P : Begun → Type 0) (bs : List Begun) → ((n : ℕ) → All P (packets_at net n bs)) → Each P bs
of_all_nodes net P [] h = tt
of_all_nodes net P (b ∷ bs) h =
    let n = (net.flow b.flow).from in
    let here : All P (b ∷ packets_at net n bs) = let t = eq-eqb n n refl in let own = h n in rw t at own in
    (All-head P b (packets_at net n bs) here, of_all_nodes net P bs (λ m. without m (h m)))
  where
    without : (m : ℕ) → All P (packets_at net m (b ∷ bs)) → All P (packets_at net m bs)
    without m all = elim (cases_Bool (nat_eq (net.flow b.flow).from m)) [
      | inl t ↦ let more : All P (b ∷ packets_at net m bs) = rw t at all in All-tail P b (packets_at net m bs) more
      | inr f ↦ rw f at all
    ]

front_rest : {X : Type 0} (P : X → Type 0) (xs rest : List X) → All P (xs ++ rest) → All P xs
front_rest P [] rest all = All-nil P
front_rest P (x ∷ xs) rest all = All-cons P x xs (All-head P x (xs ++ rest) all) (front_rest P xs rest (All-tail P x (xs ++ rest) all))

front_all : {X : Type 0} (P : X → Type 0) (xs ys : List X) → IsFront xs ys → All P ys → All P xs
front_all P xs ys front all = front_rest P xs front.0 (subst (All P) front.1 all)

abbrev ShortBegun : Begun → Type 0
ShortBegun b = IsShort b.cargo

load_short : (load : List LoadEntry) → All (λ (p : LoadEntry). IsShort p.cargo) load → All ShortBegun (packets_of load)
load_short [] all = All-nil ShortBegun
load_short (p ∷ load) all =
    All-append ShortBegun (replicate p.count (packet_of p)) (packets_of load)
    (All-replicate ShortBegun p.count (packet_of p) (All-head (λ (p : LoadEntry). IsShort p.cargo) p load all))
    (load_short load (All-tail (λ (p : LoadEntry). IsShort p.cargo) p load all))

begun_short : (net : Network) (load : List LoadEntry) (steps : List Step) (s : State) → All (λ (p : LoadEntry). IsShort p.cargo) load → IsHistory net (packets_of load) steps s → Each ShortBegun (beginnings steps)
begun_short net load steps s all history =
    of_all_nodes net ShortBegun (beginnings steps) (λ n. front_all ShortBegun (packets_at net n (beginnings steps)) (packets_at net n (packets_of load)) (history.in_order n)
    (All-filter (λ b. nat_eq (net.flow b.flow).from n) ShortBegun (packets_of load) (load_short load all)))

-- ---- each step

module _ (d : Declaration) (is : IsNetwork (network_of d)) where
  in_links : (c : ℕ) → c < (network_of d).channels → c < 2 * length d.links
  unfolding network_of
  in_links c lt = let same = length-link_ends d.links in omega (arith, lt, same)

  in_nodes : (n : ℕ) → n < (network_of d).nodes → n < length d.nodes
  unfolding network_of
  in_nodes n lt = lt

  in_flows : (i : ℕ) → i < (network_of d).declared_flows → i < length d.flows
  unfolding network_of
  in_flows i lt = lt

  one : (s t : State) (step : Step) (steps : List Step) → Leads (network_of d) s step t → Each ShortBegun (beginnings (step ∷ steps)) → IsWritable d step × Each ShortBegun (beginnings steps)
  one s t (Fct c) steps l b = (in_links c l.in_net, b)
  one s t (FctIn c) steps l b = (in_links c l.in_net, b)
  one s t (Arrive c) steps l b = (in_links c l.in_net, b)
  one s t (Grant o c) steps l b = ((in_links o (is.look_starts l.switch l.h o l.named).0, in_links c l.in_net), b)
  one s t (Drop c) steps l b = (in_links c l.in_net, b)
  one s t (Forward c) steps l b = (in_links c l.in_net, b)
  one s t (Spill c) steps l b = (in_links c l.in_net, b)
  one s t (Begin f cargo e) steps l b = ((in_flows f l.declared.declared, l.declared.some_cargo, b.0), b.1)
  one s t (Emit n) steps l b = (in_nodes n l.in_net, b)
  one s t (Accept n) steps l b = (in_nodes n l.in_net, b)
  one s t (Reply n) steps l b = (in_nodes n l.in_net, b)

  all_steps : (steps : List Step) (s t : State) → Run (network_of d) s steps t → Each ShortBegun (beginnings steps) → Each (IsWritable d) steps
  all_steps [] s t run b = tt
  all_steps (step ∷ steps) s t run b =
      let here = one s run.0 step steps run.1 b in
      (here.0, all_steps steps run.0 t run.2 here.1)

  pub history_writable : (load : List LoadEntry) (steps : List Step) (s : State) → All (λ (p : LoadEntry). IsShort p.cargo) load → IsHistory (network_of d) (packets_of load) steps s → Each (IsWritable d) steps
  history_writable load steps s all history = all_steps steps (empty (network_of d)) s history.run (begun_short (network_of d) load steps s all history)
