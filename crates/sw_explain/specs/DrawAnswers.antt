-- What `draw` answers (this project's choice).
use Rattle.std.specs.Prelude.{◌≡◌, ℕ, List, [], ◌∷◌, codes, Option, Some, None, position}
use Rattle.std.specs.Str.{bytes_eq}
use Rattle.sw_config.specs.Entries.{Declaration, all_flows, flow_names}
use Rattle.sw_engine.specs.LineAnswers.{NetworkFileInLines}
use Rattle.sw_explain.specs.DrawTexts.{draw_text}
use Rattle.sw_explain.specs.Drawings.{DrawingView, IsDrawing, Wishes, drawn_over}
use Rattle.sw_explain.specs.declared.draw_finding.DrawFinding.{DrawFinding}
use Rattle.sw_explain.specs.declared.draw_finding.DrawFinding.TheVariants.{UnknownFlow, Drawn}
use Rattle.sw_explain.specs.declared.draw_finding.Drawing.{Drawing}
use Rattle.sw_flow.specs.Places.{IsPlacesOf}
use Rattle.sw_flow.specs.declared.place.Place.{Place}
use Rattle.sw_output.specs.Lines.{line}
use Rattle.sw_text.specs.Ends.{Answers}

abbrev pub drawing_of : Drawing → DrawingView
drawing_of drawing = drawn_over drawing.places.items drawing.cycle.items drawing.numbers.items

-- with these places of a flow, what else is asked for
abbrev pub IsDrawnWith : Wishes → Declaration → List Place → DrawFinding → Type 0
IsDrawnWith wishes d places (Drawn drawing) = IsDrawing d wishes places (drawing_of drawing)
IsDrawnWith wishes d places UnknownFlow = ⊥

-- with the places of the flow of that number, if a word names one
abbrev pub IsFlowDrawn : Wishes → Declaration → Option ℕ → DrawFinding → Type 0
IsFlowDrawn wishes d None finding = finding ≡ UnknownFlow
IsFlowDrawn wishes d (Some i) finding = (places : List Place) × IsPlacesOf d i places × IsDrawnWith wishes d places finding

-- with the places of the flow of that name, where one is asked for; a reply flow has a name too
abbrev pub IsNamedDrawn : Wishes → Declaration → Option (List ℕ) → DrawFinding → Type 0
IsNamedDrawn wishes d None finding = IsDrawnWith wishes d [] finding
IsNamedDrawn wishes d (Some name) finding = IsFlowDrawn wishes d (position (bytes_eq name) (flow_names (all_flows d))) finding

-- what is found of a network
abbrev pub IsDrawFinding : Wishes → Declaration → DrawFinding → Type 0
IsDrawFinding wishes d finding = IsNamedDrawn wishes d wishes.flow finding

abbrev pub draw_lines : Declaration → DrawFinding → List ℕ
draw_lines d (Drawn drawing) = draw_text d (drawing_of drawing)
draw_lines d UnknownFlow = line (codes "fault F7 UnknownName argument" ∷ [])

abbrev pub draw_status : DrawFinding → ℕ
draw_status (Drawn drawing) = 0
draw_status UnknownFlow = 3

-- of the bytes of a file
abbrev pub IsDrawAnswer : Wishes → List ℕ → Answers
IsDrawAnswer wishes = NetworkFileInLines (IsDrawFinding wishes) draw_lines draw_status
