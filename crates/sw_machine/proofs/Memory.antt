-- A node's memory is what the packets that came out there made of it.
use Rattle.std.proofs.Common.{List, [], ap, eq-eqb, ne_eqb, refl, subst, sym, ℕ, ⊎_elim, ◌++◌, ◌∙◌, ◌∷◌, ◌≡◌}
use Rattle.std.proofs.lemmas.Bool.{cases_eq}
use Rattle.sw_char.specs.declared.nchar.End.{End}
use Rattle.sw_char.specs.declared.nchar.End.TheVariants.{Eep as ByEep, Eop as ByEop}
use Rattle.sw_char.specs.declared.nchar.NChar.{NChar}
use Rattle.sw_char.specs.declared.nchar.NChar.TheVariants.{Data, Eep, Eop}
use Rattle.sw_machine.proofs.Cuts.{cut_byte, cut_marker, cuts_are_equal}
use Rattle.sw_machine.specs.Memory.{MemoryIsOfPackets, memory_by}
use Rattle.sw_machine.specs.Network.{Network}
use Rattle.sw_machine.specs.Packets.{IsCut, Packet, marker_of}
use Rattle.sw_machine.specs.Runs.{Run}
use Rattle.sw_machine.specs.State.{State, empty, memory_at, put}
use Rattle.sw_machine.specs.Steps.{Accept, Arrive, Begin, Drop, Drops, Emit, Fct, FctIn, Forward, Grant, Leads, Reply, Spill, Step}

by_push : (net : Network) (n : ℕ) (memory : List ℕ) (ps : List Packet) (p : Packet) → memory_by net n memory (ps ++ p ∷ []) ≡ net.memory_after n (memory_by net n memory ps) p.bytes p.end
by_push net n memory [] p = refl
by_push net n memory (q ∷ ps) p = by_push net n (net.memory_after n memory q.bytes q.end) ps p

module _ (net : Network) (n : ℕ) where
  abbrev after_all : List Packet → List ℕ
  after_all ps = memory_by net n (net.memory_at_first n) ps

  -- the characters taken are these packets, and the memory is what they made
  record Made (taken : List NChar) (memory : List ℕ) : Type 0 where
    packets : List Packet
    bytes : List ℕ
    cut : IsCut taken packets bytes
    is : memory ≡ after_all packets

  abbrev MadeAt : State → Type 0
  MadeAt s = Made (s.taken n) (s.memory n)

  ended : (taken : List NChar) (memory : List ℕ) (ps : List Packet) (bytes : List ℕ) (end : End) → IsCut taken ps bytes → memory ≡ after_all ps → Made (taken ++ marker_of end ∷ []) (net.memory_after n memory bytes end)
  ended taken memory ps bytes end cut is =
      let p : Packet = record { bytes = bytes; end = end } in
      record { packets = ps ++ p ∷ []; bytes = []; cut = cut_marker taken ps bytes end cut; is = ap (λ m. net.memory_after n m bytes end) is ∙ sym (by_push net n (net.memory_at_first n) ps p) }

  accepted : (taken : List NChar) (memory : List ℕ) (ps : List Packet) (bytes : List ℕ) (first : NChar) → IsCut taken ps bytes → Made taken memory → Made (taken ++ first ∷ []) (memory_at net n memory bytes first)
  accepted taken memory ps bytes (Data b) cut h = record { packets = h.packets; bytes = h.bytes ++ b ∷ []; cut = cut_byte taken h.packets h.bytes b h.cut; is = h.is }
  accepted taken memory ps bytes Eop cut h = ended taken memory ps bytes ByEop cut (h.is ∙ ap after_all (cuts_are_equal taken h.packets ps h.bytes bytes h.cut cut).0)
  accepted taken memory ps bytes Eep cut h = ended taken memory ps bytes ByEep cut (h.is ∙ ap after_all (cuts_are_equal taken h.packets ps h.bytes bytes h.cut cut).0)

  accepted_at : (s : State) (m : ℕ) (ps : List Packet) (bytes : List ℕ) (first : NChar) → IsCut (s.taken m) ps bytes → MadeAt s → Made (put s.taken m (s.taken m ++ first ∷ []) n) (put s.memory m (memory_at net m (s.memory m) bytes first) n)
  accepted_at s m ps bytes first cut h = ⊎_elim
      (λ same. subst (λ j. Made (put s.taken j (s.taken j ++ first ∷ []) n) (put s.memory j (memory_at net j (s.memory j) bytes first) n)) same
      (rw (eq-eqb n n refl) (accepted (s.taken n) (s.memory n) ps bytes first (subst (λ j. IsCut (s.taken j) ps bytes) (sym same) cut) h)))
      (λ ne. rw (ne_eqb n m ne) h)
      (cases_eq n m)

  dropped : (s : State) (c switch : ℕ) (first : NChar) (rest : List NChar) (t : State) → Drops net s c switch first rest t → MadeAt s → MadeAt t
  dropped s c switch (Data h) rest t d i = subst MadeAt (sym d.1) i
  dropped s c switch Eop rest t d i = subst MadeAt (sym d) i
  dropped s c switch Eep rest t d i = subst MadeAt (sym d) i

  step_makes : (s : State) (step : Step) (t : State) → Leads net s step t → MadeAt s → MadeAt t
  step_makes s (Fct c) t h i = subst MadeAt (sym h.after) i
  step_makes s (FctIn c) t h i = subst MadeAt (sym h.after) i
  step_makes s (Arrive c) t h i = subst MadeAt (sym h.after) i
  step_makes s (Grant d c) t h i = subst MadeAt (sym h.after) i
  step_makes s (Drop c) t h i = dropped s c h.switch h.first h.rest t h.after i
  step_makes s (Forward c) t h i = subst MadeAt (sym h.after) i
  step_makes s (Spill c) t h i = subst MadeAt (sym h.after) i
  step_makes s (Begin f cargo end) t h i = subst MadeAt (sym h.after) i
  step_makes s (Emit m) t h i = subst MadeAt (sym h.after) i
  step_makes s (Accept m) t h i = subst MadeAt (sym h.after) (accepted_at s m h.packets h.bytes h.first h.cut i)
  step_makes s (Reply m) t h i = subst MadeAt (sym h.after) i

  run_makes : (s : State) (steps : List Step) (t : State) → Run net s steps t → MadeAt s → MadeAt t
  run_makes s [] t r i = subst MadeAt (sym r) i
  run_makes s (step ∷ steps) t r i = run_makes r.0 steps t r.2 (step_makes s step r.0 r.1 i)

pub memory_is_of_packets : MemoryIsOfPackets
memory_is_of_packets net s r n ps came =
    let h = run_makes net n (empty net) r.0 s r.1 (record { packets = []; bytes = []; cut = refl; is = refl }) in
    h.is ∙ ap (after_all net n) (cuts_are_equal (s.taken n) h.packets ps h.bytes came.0 h.cut came.1).0
