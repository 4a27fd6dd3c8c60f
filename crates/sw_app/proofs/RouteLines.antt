-- The lines of a route.
use Rattle.std.proofs.Common.{◌≡◌, ℕ, List, [], ◌∷◌, ◌++◌, ap, ◌∙◌, append-nil, append_assoc, sym, take}
use Rattle.std.specs.Prelude.{codes, flat_map, slice_get, Some}
use Rattle.std.specs.Option.{option_map_or}
use Rattle.sw_config.specs.Entries.{Declaration, FlowEntry, all_flows}
use Rattle.sw_output.specs.FlowTexts.{flow_name}
use Rattle.sw_output.specs.Lines.{line}

-- the name of the flow of that number
named : (d : Declaration) (i : ℕ) (f : FlowEntry) → slice_get (all_flows d) i ≡ Some f → f.name ≡ flow_name d i
named d i f at = sym (ap (λ o. option_map_or (λ (g : FlowEntry). g.name) o []) at)

-- the first line, with a flow's name
pub first_line : {X : Type 0} (d : Declaration) (i : ℕ) (f : FlowEntry) (lines : X → List ℕ) (xs : List X) (name text : List ℕ) → slice_get (all_flows d) i ≡ Some f
    → name ≡ f.name → text ≡ codes "flow " ++ (name ++ codes "\n") → text ≡ line (codes "flow" ∷ flow_name d i ∷ []) ++ flat_map lines (take 0 xs)
first_line d i f lines xs name text at is_name is =
    is ∙ ap (λ n. codes "flow " ++ (n ++ codes "\n")) (is_name ∙ named d i f at) ∙ sym (append-nil (line (codes "flow" ∷ flow_name d i ∷ [])))

-- the last line behind all others
pub last_line : (first lines outcome before after : List ℕ) → before ≡ first ++ lines → after ≡ before ++ outcome → after ≡ first ++ (lines ++ outcome)
last_line first lines outcome before after so_far more = more ∙ ap (λ l. l ++ outcome) so_far ∙ append_assoc first lines outcome
