-- What verdicts show.
use Rattle.std.proofs.Common.{◌≡◌, ℕ, suc, ◌<◌, List, [], ◌∷◌, length, refl, sym, ◌∙◌, arith}
use Rattle.std.specs.Prelude.{slice_index}
use Rattle.sw_config.specs.Entries.{Declaration}
use Rattle.sw_graph.specs.Laws.{IsAmong}
use Rattle.sw_graph.specs.Levels.{HasCycle, IsLevel, IsLevels}
use Rattle.sw_graph.proofs.Existence.{levels_rise}
use Rattle.sw_graph.specs.Cycles.{IsShownCycle}
use Rattle.sw_cycle.specs.Cycles.{CycleEntry, IsShown}
use Rattle.sw_cycle.specs.Causes.{AreChosen}

-- a shown cycle is a cycle
pub has_cycle : (dep : ℕ → ℕ → Type 0) (cycle : List ℕ) → IsShownCycle dep cycle → HasCycle dep
has_cycle dep cycle h = let b = h.begins.member in (b.1, b.0, b.3)

-- levels rise along steps that are among the members
pub rising_by : (dep : ℕ → ℕ → Type 0) (n : ℕ) → IsAmong dep n → (levels : List ℕ) → IsLevels dep n levels → (c e : ℕ) → dep c e → slice_index levels c < slice_index levels e
rising_by dep n among levels h c e step = let both = among c e step in levels_rise dep n levels h c e both.0 both.1 step

-- a level is determined
same_level : (dep : ℕ → ℕ → Type 0) (c v w : ℕ) → IsLevel dep c v → IsLevel dep c w → v ≡ w
same_level dep c v w h k =
    let up = k.greatest v h.reached.0 h.reached.1 in
    let down = h.greatest w k.reached.0 k.reached.1 in
    omega arith

same_lists : (xs ys : List ℕ) → length xs ≡ length ys → ((i : ℕ) → i < length xs → slice_index xs i ≡ slice_index ys i) → xs ≡ ys
same_lists [] [] size each = refl
same_lists [] (y ∷ ys) size each = absurd (omega arith)
same_lists (x ∷ xs) [] size each = absurd (omega arith)
same_lists (x ∷ xs) (y ∷ ys) size each =
    let first : x ≡ y = each 0 (omega arith) in
    let rest : xs ≡ ys = same_lists xs ys (omega arith) (λ i lt. each (suc i) (omega arith)) in
    λ i. first i ∷ rest i

pub same_levels : (dep : ℕ → ℕ → Type 0) (n : ℕ) (xs ys : List ℕ) → IsLevels dep n xs → IsLevels dep n ys → xs ≡ ys
same_levels dep n xs ys h k =
    same_lists xs ys (h.size ∙ sym k.size) (λ i lt. let size = h.size in let within : i < n = omega arith in same_level dep i (slice_index xs i) (slice_index ys i) (h.each i within) (k.each i within))

-- chosen causes show their cycle
pub shown_by : (d : Declaration) (cycle : CycleEntry) → 0 < length cycle.channels → AreChosen d cycle.channels cycle.causes → IsShown d cycle
shown_by d cycle some h = record { some = some; one_each = h.one_each; caused = λ i cause at. (h.chosen i cause at).shows }
