-- What `witness` answers (this project's choice).
use Rattle.std.specs.Prelude.{◌≡◌, ℕ, List, [], ◌∷◌, codes, string_bytes}
use Rattle.std.specs.Fmt.{decimal}
use Rattle.sw_explain.specs.ExplainTexts.{names_text}
use Rattle.sw_text.specs.Ends.{Answers}
use Rattle.sw_config.specs.Entries.{Declaration}
use Rattle.sw_search.specs.Explanations.{IsExplanation}
use Rattle.sw_search.specs.declared.explanation.Explanation.{Explanation}
use Rattle.sw_search.specs.declared.explanation.Explanation.TheVariants as explanation
use Rattle.sw_runs.specs.declared.witness_finding.WitnessFinding.{WitnessFinding}
use Rattle.sw_runs.specs.declared.witness_finding.WitnessFinding.TheVariants.{Misrouted, Free, Unanswered, NoneFound, LockUp}
use Rattle.sw_engine.specs.LineAnswers.{NetworkFileInLines}
use Rattle.sw_output.specs.Lines.{line}
use Rattle.sw_output.specs.VerdictTexts.{misrouted_words}
use Rattle.sw_witness.specs.Unanswered.{IsFreeWithout, never_answered}
use Rattle.sw_witness.specs.Witnesses.{LocksUp}

-- that none was found, which says nothing of the network
abbrev pub none_found : ℕ → List ℕ
none_found tries = line (codes "no lock-up found in" ∷ decimal tries ∷ codes "tries" ∷ [])

-- that there is nothing to look for
abbrev pub free_line : List ℕ
free_line = line (codes "no lock-up: the network is free" ∷ [])

-- that there is nothing to look for, since the replies of these flows can't happen
abbrev pub unanswered_line : Declaration → List ℕ → List ℕ
unanswered_line d flows = line (codes "no lock-up: the replies of" ∷ names_text d flows ∷ codes "can't happen" ∷ [])

-- a schedule that leads the network into a lock-up, or that none was found by so many tries
abbrev pub IsSearched : ℕ → Declaration → WitnessFinding → Type 0
IsSearched tries d (LockUp schedule) = LocksUp d (string_bytes schedule)
IsSearched tries d (NoneFound count) = count ≡ tries
IsSearched tries d found = ⊥

-- that there is nothing to look for, where the network is free without the replies that can't happen; and only else what a search finds
abbrev pub IsOfTangled : ℕ → Declaration → WitnessFinding → Type 0
IsOfTangled tries d (Unanswered flows) = IsFreeWithout d × (flows.items ≡ never_answered d)
IsOfTangled tries d found = (IsFreeWithout d → ⊥) × IsSearched tries d found

-- where channels can wait for one another one of these; else the flow that is not well routed, or that there is nothing to look for
abbrev pub IsOfKind : ℕ → Declaration → Explanation → WitnessFinding → Type 0
IsOfKind tries d (explanation.Misrouted flow place fault way) found = found ≡ Misrouted flow place fault
IsOfKind tries d (explanation.Cyclic tangles) found = IsOfTangled tries d found
IsOfKind tries d explanation.Free found = found ≡ Free

-- what is found of a network
abbrev pub IsWitnessFinding : ℕ → Declaration → WitnessFinding → Type 0
IsWitnessFinding tries d found = (e : Explanation) × IsExplanation d e × IsOfKind tries d e found

abbrev pub witness_lines : Declaration → WitnessFinding → List ℕ
witness_lines d (Misrouted flow place fault) = line (misrouted_words d flow place fault ∷ [])
witness_lines d Free = free_line
witness_lines d (Unanswered flows) = unanswered_line d flows.items
witness_lines d (NoneFound tries) = none_found tries
witness_lines d (LockUp schedule) = string_bytes schedule

-- 0 where a lock-up is found
abbrev pub witness_status : WitnessFinding → ℕ
witness_status (LockUp schedule) = 0
witness_status (Misrouted flow place fault) = 1
witness_status Free = 1
witness_status (Unanswered flows) = 1
witness_status (NoneFound tries) = 1

-- of the bytes of a file
abbrev pub IsWitnessAnswer : ℕ → List ℕ → Answers
IsWitnessAnswer tries = NetworkFileInLines (IsWitnessFinding tries) witness_lines witness_status
