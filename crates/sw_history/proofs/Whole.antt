-- Whether each node has begun all its packets.
use Rattle.std.proofs.Common.{◌≡◌, ◌++◌, ◌<◌, ◌≤◌, ◌∷◌, ◌∙◌, [], ℕ, suc, Bool, List, None, Option, Some, ap, append-nil, arith, false, length, refl, sym, true, ⊎_elim}
use Rattle.std.specs.Prelude.{is_some, option_map, slice_get}
use Rattle.std.proofs.lemmas.Bool.{cases_lt}
use Rattle.std.proofs.lemmas.Option.{slice_get_past}
use Rattle.sw_net.proofs.CellNetwork.{nodes_are}
use Rattle.sw_load.proofs.Grown.{slice_get-behind}
use Rattle.sw_load.proofs.Sends.{entry_first, other_copies}
use Rattle.sw_load.specs.History.{IsHistory, IsWhole, next_packet, packet_of, packets_at, packets_of}
use Rattle.sw_load.specs.Laws.{AreDeclared}
use Rattle.sw_machine.proofs.Declares.{declared_are_declared}
use Rattle.sw_load.specs.Load.{LoadEntry}
use Rattle.sw_machine.specs.Begun.{Begun, beginnings}
use Rattle.sw_machine.specs.State.{State}
use Rattle.sw_machine.specs.Steps.{Step}
use Rattle.sw_machine.proofs.DeclaredNetworks.{are_networks}
use Rattle.sw_machine.specs.Model.{network_of}
use Rattle.sw_config.specs.Entries.{Declaration}
use Rattle.sw_config.specs.Valid.{IsValid}

none_of : {A : Type 0} (o : Option A) → is_some o ≡ false → o ≡ None
none_of None h = refl
none_of (Some x) h = absurd cc

-- of what an option is mapped to it is told by the option
pub mapped_told : {X Y : Type 0} (f : X → Y) (o : Option X) (m : Option Y) (told is : Bool) → option_map f o ≡ m → told ≡ is_some o → told ≡ is → is_some m ≡ is
mapped_told f None m told is e t b = ap is_some (sym e) ∙ sym t ∙ b
mapped_told f (Some x) m told is e t b = ap is_some (sym e) ∙ sym t ∙ b

nothing_behind : {A : Type 0} (xs ys rest : List A) → ys ≡ xs ++ rest → slice_get ys (length xs) ≡ None → xs ≡ ys
nothing_behind xs ys [] e h = sym (e ∙ append-nil xs)
nothing_behind xs ys (r ∷ rest) e h =
    let at = sym (slice_get-behind xs (r ∷ rest)) ∙ ap (λ l. slice_get l (length xs)) (sym e) ∙ h in
    absurd cc

module _ (d : Declaration) (valid : IsValid d) where
  pub from_within : (p : LoadEntry) (load : List LoadEntry) → AreDeclared d (p ∷ load) → ((network_of d).flow p.flow).from < length d.nodes
  from_within p load all =
      let net = network_of d in
      let ok = are_networks d valid in
      let is = (declared_are_declared d p.flow p.cargo).0 (all 0 p (omega arith)) in
      let few = ok.flows_declared in
      let lt = is.declared in
      let inside = (ok.flow_ends p.flow (omega arith)).0 in
      let same = nodes_are d in
      omega arith

  beyond : (load : List LoadEntry) → AreDeclared d load → (n : ℕ) → length d.nodes ≤ n → packets_at (network_of d) n (packets_of load) ≡ []
  beyond [] all n le = refl
  beyond (p ∷ load) all n le =
      let net = network_of d in
      let inside = from_within p load all in
      let ne : (net.flow p.flow).from ≡ n → ⊥ = λ e. omega arith in
      entry_first net n p load ∙ ap (λ l. l ++ packets_at net n (packets_of load)) (other_copies net n p.count (packet_of p) ne) ∙ beyond load (λ k x lt. all (suc k) x (omega arith)) n le

  module _ (load : List LoadEntry) (steps : List Step) (s : State) (h : IsHistory (network_of d) (packets_of load) steps s) where
    begun_all : (n : ℕ) → next_packet (network_of d) (packets_of load) steps n ≡ None → packets_at (network_of d) n (beginnings steps) ≡ packets_at (network_of d) n (packets_of load)
    begun_all n none =
        let front = h.in_order n in
        nothing_behind (packets_at (network_of d) n (beginnings steps)) (packets_at (network_of d) n (packets_of load)) front.0 front.1 none

    pub whole : AreDeclared d load → ((n : ℕ) → n < length d.nodes → is_some (next_packet (network_of d) (packets_of load) steps n) ≡ false) → IsWhole (network_of d) (packets_of load) steps
    whole all none n = ⊎_elim
        (λ lt. begun_all n (none_of (next_packet (network_of d) (packets_of load) steps n) (none n lt)))
        (λ le. begun_all n (ap (λ (l : List Begun). slice_get l (length (packets_at (network_of d) n (beginnings steps)))) (beyond load all n le)))
        (cases_lt n (length d.nodes))

pub not_whole : (d : Declaration) (load : List LoadEntry) (steps : List Step) (n : ℕ) → is_some (next_packet (network_of d) (packets_of load) steps n) ≡ true → IsWhole (network_of d) (packets_of load) steps → ⊥
not_whole d load steps n some whole =
    let e = ap (λ (l : List Begun). length l) (whole n) in
    let past = slice_get_past (packets_at (network_of d) n (packets_of load)) (length (packets_at (network_of d) n (beginnings steps))) (omega arith) in
    let none : is_some (next_packet (network_of d) (packets_of load) steps n) ≡ false = ap is_some past in
    absurd cc
