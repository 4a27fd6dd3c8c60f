-- How a flow is told whose packets can come back to a place, or of which none arrives (this project's choice).
use Rattle.std.specs.Prelude.{◌≡◌, ℕ, Bool, List, [], ◌∷◌, ◌++◌, Option, codes, map, option_map, if◌then◌else◌}
use Rattle.std.specs.List.{flat_map}
use Rattle.sw_config.specs.Entries.{Declaration}
use Rattle.sw_output.specs.ChannelTexts.{channel_text}
use Rattle.sw_output.specs.FlowTexts.{flow_name}
use Rattle.sw_output.specs.Lines.{spaced}
use Rattle.sw_circles.specs.Circlings.{AreCirclings, CirclingView, IsCirclingOf}
use Rattle.sw_linter.specs.EndNames.{end_name}

-- the texts of these, the first behind such words and each other behind a comma
abbrev pub listed : (ℕ → List ℕ) → List ℕ → List ℕ → List ℕ
listed text before [] = []
listed text before (x ∷ xs) = (before ++ text x) ++ flat_map (λ y. codes ", " ++ text y) xs

-- the channels of these circles, the first behind such words
abbrev pub over : Declaration → List ℕ → List (List ℕ) → List ℕ
over d before [] = []
over d before (circle ∷ circles) = listed (channel_text d) before circle ++ flat_map (λ other. listed (channel_text d) (codes "; over ") other) circles

abbrev pub reach_words : Bool → List ℕ
reach_words arrives = if arrives then codes "may never reach" else codes "never reach"

abbrev pub over_words : Bool → List ℕ
over_words arrives = if arrives then codes ": they can circle over " else codes ": they circle over "

abbrev pub circling_head : Declaration → ℕ → Bool → List ℕ
circling_head d flow arrives = spaced (codes "packets of" ∷ flow_name d flow ∷ reach_words arrives ∷ end_name d flow ∷ [])

abbrev pub circling_text : Declaration → CirclingView → List ℕ
circling_text d c = circling_head d c.flow c.arrives ++ over d (over_words c.arrives) c.circles

-- the texts of all such flows
abbrev pub AreCirclingTexts : Declaration → List (List ℕ) → Type 0
AreCirclingTexts d texts = (told : List CirclingView) × AreCirclings d told × (texts ≡ map (circling_text d) told)

-- that of the flow of that number, if it is such a flow
abbrev pub IsCirclingText : Declaration → ℕ → Option (List ℕ) → Type 0
IsCirclingText d flow text = (told : Option CirclingView) × IsCirclingOf d flow told × (text ≡ option_map (circling_text d) told)
