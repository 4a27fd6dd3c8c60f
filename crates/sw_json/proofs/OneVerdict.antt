-- Verdicts on a network have one value.
use Rattle.std.proofs.Common.{◌≡◌, ◌∙◌, ℕ, List, [], ◌∷◌, ap, map, refl, sym}
use Rattle.std.specs.List.{zip}
use Rattle.std.specs.Prelude.{codes}
use Rattle.serde_json.specs.Data.{Data, array, object, string, member, no_members}
use Rattle.serde_json.specs.View.{items_of}
use Rattle.sw_config.specs.Entries.{Declaration}
use Rattle.sw_search.specs.Cycles.{ByFlow, ByTarget, CauseEntry, CycleEntry}
use Rattle.sw_json.specs.VerdictValues.{channel_value, cyclic_value, free_value, misrouted_value, verdict_value}
use Rattle.sw_search.specs.Laws.{IsSameCycle, SaysTheSame, without_places}
use Rattle.sw_search.specs.Verdicts.{IsVerdict}
use Rattle.sw_search.specs.declared.verdict.Verdict.{Verdict}
use Rattle.sw_search.specs.declared.verdict.Verdict.TheVariants.{Misrouted, Cyclic, Free}
use Rattle.sw_search.proofs.Determined.{determined}

-- the values of a cycle's channels say nothing of the places that show its causes
without : (d : Declaration) (channels : List ℕ) (causes : List CauseEntry)
    → map (channel_value d) (zip channels causes) ≡ map (channel_value d) (zip channels (map without_places causes))
without d [] xs = refl
without d (c ∷ cs) [] = refl
without d (c ∷ cs) (ByTarget t ∷ xs) = ap (λ (rest : List Data). channel_value d (c, ByTarget t) ∷ rest) (without d cs xs)
without d (c ∷ cs) (ByFlow i places ∷ xs) = ap (λ (rest : List Data). channel_value d (c, ByFlow i places) ∷ rest) (without d cs xs)

same_cycle : (d : Declaration) (cycle other : CycleEntry) → IsSameCycle cycle other → cyclic_value d cycle ≡ cyclic_value d other
same_cycle d cycle other same =
    let channels : map (channel_value d) (zip cycle.channels cycle.causes) ≡ map (channel_value d) (zip other.channels other.causes) =
    without d cycle.channels cycle.causes ∙ ((λ i. map (channel_value d) (zip (same.channels i) (same.causes i))) ∙ sym (without d other.channels other.causes)) in
    ap (λ (values : List Data). object (member (codes "channels") (array (items_of values)) (member (codes "kind") (string (codes "cyclic")) no_members))) channels

same_verdict : (d : Declaration) (v w : Verdict) → SaysTheSame v w → verdict_value d v ≡ verdict_value d w
same_verdict d (Misrouted i p fault) (Misrouted j q other) same = λ t. misrouted_value d (same.0 t) (same.1 t) (same.2 t)
same_verdict d (Misrouted i p fault) (Cyclic cycle) same = absurd same
same_verdict d (Misrouted i p fault) (Free contents) same = absurd same
same_verdict d (Cyclic cycle) (Misrouted j q other) same = absurd same
same_verdict d (Cyclic cycle) (Cyclic other) same = same_cycle d cycle other same
same_verdict d (Cyclic cycle) (Free contents) same = absurd same
same_verdict d (Free contents) (Misrouted j q other) same = absurd same
same_verdict d (Free contents) (Cyclic cycle) same = absurd same
same_verdict d (Free contents) (Free other) same = ap (free_value d) same

pub one_verdict_value : (d : Declaration) (v w : Verdict) → IsVerdict d v → IsVerdict d w → verdict_value d v ≡ verdict_value d w
one_verdict_value d v w h k = same_verdict d v w (determined d v w h k)
