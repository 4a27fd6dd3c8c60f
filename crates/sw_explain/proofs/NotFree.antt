-- Which numbers are drawn.
use Rattle.std.proofs.Common.{◌≡◌, ℕ, ◌<◌, Bool, true, false, List, [], ap, arith, inl, inr, length, refl, ◌∙◌}
use Rattle.sw_cert.specs.Text.{Contents}
use Rattle.sw_config.specs.Entries.{Declaration}
use Rattle.sw_search.proofs.Lawful.{tangles_are_where_cycles_are}
use Rattle.sw_search.proofs.Determined.{determined}
use Rattle.sw_search.specs.declared.verdict.Verdict.{Verdict}
use Rattle.sw_search.specs.declared.verdict.Verdict.TheVariants.{Misrouted, Cyclic, Free}
use Rattle.sw_search.specs.Verdicts.{IsFree, IsVerdict}
use Rattle.sw_explain.specs.Drawings.{AreNumbersDrawn, IsCycleDrawn, IsNumbering, first_cycle, numbers_of}

-- where a cycle is drawn the network is not free
not_free : (d : Declaration) (drawn : Bool) (cycle : List ℕ) → IsCycleDrawn d drawn cycle → 0 < length cycle → (contents : Contents) → IsFree d contents → ⊥
not_free d true cycle h some contents free =
    let none = (tangles_are_where_cycles_are d h.0 h.1).1 free.no_cycle in
    let size : length cycle ≡ 0 = ap length (h.2 ∙ ap first_cycle none) in
    absurd (omega (arith, size, some))
not_free d false cycle h some contents free =
    let size : length cycle ≡ 0 = ap length h in
    absurd (omega (arith, size, some))

-- so there are no numbers
none_numbered : (d : Declaration) (drawn : Bool) (cycle : List ℕ) → IsCycleDrawn d drawn cycle → 0 < length cycle → IsNumbering d []
none_numbered d drawn cycle h some = inr (not_free d drawn cycle h some, refl)

-- the numbers of a verdict
numbered : (d : Declaration) (v : Verdict) → IsVerdict d v → IsNumbering d (numbers_of v)
numbered d (Misrouted i place fault) h = inr (λ contents free. determined d (Misrouted i place fault) (Free contents) h free, refl)
numbered d (Cyclic cycle) h = inr (λ contents free. determined d (Cyclic cycle) (Free contents) h free, refl)
numbered d (Free contents) h = inl (contents, h, refl)

-- where they are asked for
pub none_drawn : (d : Declaration) (drawn asked : Bool) (cycle : List ℕ) → IsCycleDrawn d drawn cycle → 0 < length cycle → AreNumbersDrawn d asked []
none_drawn d drawn true cycle h some = none_numbered d drawn cycle h some
none_drawn d drawn false cycle h some = refl

pub none_asked : (d : Declaration) (asked : Bool) → asked ≡ false → AreNumbersDrawn d asked []
none_asked d false is = refl
none_asked d true is = absurd cc

pub numbers_drawn : (d : Declaration) (asked : Bool) (v : Verdict) → asked ≡ true → IsVerdict d v → AreNumbersDrawn d asked (numbers_of v)
numbers_drawn d true v is h = numbered d v h
numbers_drawn d false v is h = absurd cc

-- the numbers of a verdict, as they were copied
pub numbers_copied : (d : Declaration) (asked : Bool) (v : Verdict) (numbers : List ℕ) → asked ≡ true → IsVerdict d v → numbers ≡ numbers_of v → AreNumbersDrawn d asked numbers
numbers_copied d asked v numbers is h same = rw same (numbers_drawn d asked v is h)
