-- One turn more.
use Rattle.std.proofs.Common.{List, [], inl, inr, refl, subst, suc, sym, true, ℕ, ◌++◌, ◌∷◌, ◌≡◌}
use Rattle.sw_history.specs.Turns.{TurnsLead}
use Rattle.sw_history.specs.Way.{HasBegunNext, MovesPicked, NoneMayBegin}
use Rattle.sw_load.specs.Load.{LoadEntry}
use Rattle.sw_machine.specs.Steps.{Step}
use Rattle.sw_net.specs.Net.{NetView}

module _ {R A F : Type 0} (load : List LoadEntry) (step : F → ℕ → ℕ → F → Type 0) (v : NetView R A) (f : F) where
  pub no_turn : TurnsLead load step v f v [] f
  no_turn = (0, (refl, refl, refl))

  pub turned : (u w : NetView R A) (steps : List Step) (g : F) → TurnsLead load step v f u steps g → w ≡ u → TurnsLead load step v f w steps g
  turned u w steps g turns same = subst (λ (k : NetView R A). TurnsLead load step v f k steps g) (sym same) turns

  pub begun_turn : (u w : NetView R A) (before after : List Step) (g : F) → TurnsLead load step v f u before g → HasBegunNext load u before w after → TurnsLead load step v f w after g
  begun_turn u w before after g turns one = (suc turns.0, (u, before, g, turns.1, inl (one, refl)))

  pub moved_turn : (u w : NetView R A) (before : List Step) (g h : F) → TurnsLead load step v f u before g → NoneMayBegin load u before → (moved : MovesPicked step u g true w h)
      → TurnsLead load step v f w (before ++ ((moved.moved).2).step ∷ []) h
  moved_turn u w before g h turns none moved = (suc turns.0, (u, before, g, turns.1, inr (none, (moved, refl))))
