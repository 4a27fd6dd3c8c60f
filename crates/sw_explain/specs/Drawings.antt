-- What is drawn over the parts of a network: the places of a flow, a cycle of channels, and numbers of channels.
use Rattle.std.specs.Prelude.{◌≡◌, ◌⊎◌, ℕ, Bool, true, false, List, [], ◌∷◌, Option}
use Rattle.sw_cert.specs.Text.{Contents}
use Rattle.sw_config.specs.Entries.{Declaration}
use Rattle.sw_search.specs.declared.tangle.Tangle.{Tangle}
use Rattle.sw_search.specs.Tangles.{AreTangles}
use Rattle.sw_flow.specs.declared.place.Place.{Place}
use Rattle.sw_search.specs.declared.verdict.Verdict.{Verdict}
use Rattle.sw_search.specs.declared.verdict.Verdict.TheVariants.{Misrouted, Cyclic, Free}
use Rattle.sw_search.specs.Verdicts.{IsFree}

-- what is asked for: a flow by its name, the cycle, and the numbers
pub record Wishes : Type 0 where
  pub flow : Option (List ℕ)
  pub cycle : Bool
  pub numbers : Bool

-- what is drawn, each [] where there is none
pub record DrawingView : Type 0 where
  pub places : List Place
  pub cycle : List ℕ
  pub numbers : List ℕ

-- these places, this cycle and these numbers
abbrev pub drawn_over : List Place → List ℕ → List ℕ → DrawingView
drawn_over places cycle numbers = record { places = places; cycle = cycle; numbers = numbers }

-- the shortest cycle of the first tangle
abbrev pub first_cycle : List Tangle → List ℕ
first_cycle [] = []
first_cycle (t ∷ more) = t.cycle.channels

-- where the cycle is asked for, that of the first of the tangles
abbrev pub IsCycleDrawn : Declaration → Bool → List ℕ → Type 0
IsCycleDrawn d true cycle = (tangles : List Tangle) × AreTangles d tangles × (cycle ≡ first_cycle tangles)
IsCycleDrawn d false cycle = cycle ≡ []

-- the numbers of the certificate of a free network; none where it is not free
abbrev pub IsNumbering : Declaration → List ℕ → Type 0
IsNumbering d numbers =
    ((contents : Contents) × IsFree d contents × (numbers ≡ contents.numbers)) ⊎ (((contents : Contents) → IsFree d contents → ⊥) × (numbers ≡ []))

-- the numbers of the certificate of a verdict, where there is one
abbrev pub numbers_of : Verdict → List ℕ
numbers_of (Misrouted i place fault) = []
numbers_of (Cyclic cycle) = []
numbers_of (Free contents) = contents.numbers

-- where the numbers are asked for
abbrev pub AreNumbersDrawn : Declaration → Bool → List ℕ → Type 0
AreNumbersDrawn d true numbers = IsNumbering d numbers
AreNumbersDrawn d false numbers = numbers ≡ []

-- with these places of a flow, what else is asked for
pub record IsDrawing (d : Declaration) (wishes : Wishes) (places : List Place) (drawing : DrawingView) : Type 0 where
  pub places_are : drawing.places ≡ places
  pub cycle_is : IsCycleDrawn d wishes.cycle drawing.cycle
  pub numbers_are : AreNumbersDrawn d wishes.numbers drawing.numbers
