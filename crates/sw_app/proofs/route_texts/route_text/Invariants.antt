use Rattle.std.proofs.Common.{◌≡◌, [], ◌∷◌, ◌++◌, take, string_bytes}
use Rattle.std.specs.Prelude.{codes}
use Rattle.std.specs.List.{flat_map}
use Rattle.sw_output.specs.FlowTexts.{flow_name}
use Rattle.sw_output.specs.Lines.{line}
use Rattle.sw_app.specs.RouteTexts.{place_line}
use Rattle.sw_app.proofs.route_texts.route_text.Given as goal

abbrev pub invariant-loop-place : goal.invariant-loop-place
invariant-loop-place l =
    string_bytes l.text ≡ line (codes "flow" ∷ flow_name l.network l.flow ∷ []) ++ flat_map (place_line l.network) (take l.place-index l.places)
