-- What holds of a node's memory at first, and is kept by each packet, holds in each reached state.
use Rattle.std.proofs.Common.{◌≡◌, ℕ, List, [], ◌∷◌, length, Option, Some, subst, sym, ⊎_elim}
use Rattle.std.proofs.lemmas.Bool.{cases_eq}
use Rattle.std.proofs.lemmas.List.{length-replicate}
use Rattle.sw_char.specs.declared.nchar.End.{End}
use Rattle.sw_char.specs.declared.nchar.NChar.{NChar}
use Rattle.sw_char.specs.declared.nchar.NChar.TheVariants.{Data, Eep, Eop}
use Rattle.sw_rmap.specs.declared.config.TargetConfig.{TargetConfig}
use Rattle.sw_rmap.proofs.Answering.{memory_keeps_its_length}
use Rattle.sw_flow.specs.Entries.{target_of}
use Rattle.sw_machine.specs.Network.{Network}
use Rattle.sw_machine.specs.Runs.{IsReached, Run}
use Rattle.sw_machine.specs.State.{State, empty, memory_at, put}
use Rattle.sw_machine.specs.Steps.{Accept, Arrive, Begin, Drop, Drops, Emit, Fct, FctIn, Forward, Grant, Leads, Reply, Spill, Step}
use Rattle.sw_machine.proofs.Lists.{put_here, put_there}
use Rattle.sw_machine.specs.Model.{network_of}
use Rattle.sw_rmap.specs.Targets.{memory_after, memory_at_first}
use Rattle.sw_machine.specs.ModelLaws.{MemoriesKeepTheirLength}

module _ (net : Network) (n : ℕ) (P : List ℕ → Type 0) (keeps : (memory bytes : List ℕ) (end : End) → P memory → P (net.memory_after n memory bytes end)) where
  by_character : (memory bytes : List ℕ) (x : NChar) → P memory → P (memory_at net n memory bytes x)
  by_character memory bytes (Data byte) p = p
  by_character memory bytes Eop p = keeps memory bytes _ p
  by_character memory bytes Eep p = keeps memory bytes _ p

  by_put : (f : ℕ → List ℕ) (m : ℕ) (bytes : List ℕ) (x : NChar) → P (f n) → P (put f m (memory_at net m (f m) bytes x) n)
  by_put f m bytes x p =
      let after : ℕ → List ℕ = λ k. memory_at net k (f k) bytes x in
      ⊎_elim
      (λ e. subst (λ k. P (put f k (after k) n)) e (subst P (sym (put_here f n (after n))) (by_character (f n) bytes x p)))
      (λ ne. subst P (sym (put_there f m (after m) n ne)) p)
      (cases_eq n m)

  by_drop : (s : State) (c switch : ℕ) (first : NChar) (rest : List NChar) (t : State) → Drops net s c switch first rest t → P (s.memory n) → P (t.memory n)
  by_drop s c switch (Data h) rest t d p = subst (λ (u : State). P (u.memory n)) (sym d.1) p
  by_drop s c switch Eop rest t d p = subst (λ (u : State). P (u.memory n)) (sym d) p
  by_drop s c switch Eep rest t d p = subst (λ (u : State). P (u.memory n)) (sym d) p

  by_step : (s : State) (step : Step) (t : State) → Leads net s step t → P (s.memory n) → P (t.memory n)
  by_step s (Fct c) t h p = subst (λ (u : State). P (u.memory n)) (sym h.after) p
  by_step s (FctIn c) t h p = subst (λ (u : State). P (u.memory n)) (sym h.after) p
  by_step s (Arrive c) t h p = subst (λ (u : State). P (u.memory n)) (sym h.after) p
  by_step s (Grant d c) t h p = subst (λ (u : State). P (u.memory n)) (sym h.after) p
  by_step s (Drop c) t h p = by_drop s c h.switch h.first h.rest t h.after p
  by_step s (Forward c) t h p = subst (λ (u : State). P (u.memory n)) (sym h.after) p
  by_step s (Spill c) t h p = subst (λ (u : State). P (u.memory n)) (sym h.after) p
  by_step s (Begin f cargo end) t h p = subst (λ (u : State). P (u.memory n)) (sym h.after) p
  by_step s (Emit m) t h p = subst (λ (u : State). P (u.memory n)) (sym h.after) p
  by_step s (Accept m) t h p = subst (λ (u : State). P (u.memory n)) (sym h.after) (by_put s.memory m h.bytes h.first p)
  by_step s (Reply m) t h p = subst (λ (u : State). P (u.memory n)) (sym h.after) p

  by_run : (s : State) (steps : List Step) (t : State) → Run net s steps t → P (s.memory n) → P (t.memory n)
  by_run s [] t r p = subst (λ (u : State). P (u.memory n)) (sym r) p
  by_run s (step ∷ steps) t r p = by_run r.0 steps t r.2 (by_step s step r.0 r.1 p)

  pub in_reached : P (net.memory_at_first n) → (s : State) → IsReached net s → P (s.memory n)
  in_reached first s r = by_run (empty net) r.0 s r.1 first

keeps_length : (o : Option TargetConfig) (t : TargetConfig) → o ≡ Some t → (memory bytes : List ℕ) (end : End) → length memory ≡ t.size → length (memory_after o memory bytes end) ≡ t.size
keeps_length o t e memory bytes end h = subst (λ (p : Option TargetConfig). length (memory_after p memory bytes end) ≡ t.size) (sym e) (memory_keeps_its_length t memory bytes end h)

first_length : (o : Option TargetConfig) (t : TargetConfig) → o ≡ Some t → length (memory_at_first o) ≡ t.size
first_length o t e = subst (λ (p : Option TargetConfig). length (memory_at_first p) ≡ t.size) (sym e) (length-replicate t.size 0)

pub memories_keep_their_length : MemoriesKeepTheirLength
unfolding network_of
memories_keep_their_length d s r n t e =
    in_reached (network_of d) n (λ memory. length memory ≡ t.size) (keeps_length (target_of d.nodes n) t e) (first_length (target_of d.nodes n) t e) s r
