-- Values that have a text which reads back: without floats, and not deeper than texts that are read.
use Rattle.std.specs.Prelude.{◌≡◌, ◌≤◌, ◌+◌, ℕ, All, List, Option, false}
use Rattle.serde_json.specs.Data.{Data, array, depth}
use Rattle.serde_json.specs.View.{items_of}
use Rattle.serde_json.specs.Written.{has_float}
use Rattle.sw_config.specs.Entries.{Declaration}
use Rattle.sw_flow.specs.declared.fault.RouteFault.{RouteFault}
use Rattle.sw_flow.specs.declared.place.Place.{Place}
use Rattle.sw_json.specs.AnswerValues.{answer_value, file_fault_value, input_value, long_input}
use Rattle.sw_json.specs.FaultValues.{fault_value, long_value, schedule_fault_value, unknown_flow_value}
use Rattle.sw_json.specs.FileValues.{audit_value, bare_entry, kind_value, read_entry}
use Rattle.sw_json.specs.PlaceValues.{misrouted_fault_value, place_value}
use Rattle.sw_json.specs.VerdictValues.{verdict_value}
use Rattle.sw_search.specs.declared.verdict.Verdict.{Verdict}
use Rattle.sw_text.specs.declared.fault.TextFault.{TextFault}

-- no float in the value, and at most so many levels
pub record IsPlain (most : ℕ) (value : Data) : Type 0 where
  pub whole : has_float value ≡ false
  pub flat : depth value ≤ most

-- what has so many levels at most has no more than more
abbrev pub PlainAtMore : Type 0
PlainAtMore = (most more : ℕ) (value : Data) → most ≤ more → IsPlain most value → IsPlain more value

-- a list of values is one level deeper than they are
abbrev pub ListsArePlain : Type 0
ListsArePlain = (most : ℕ) (values : List Data) → All (IsPlain most) values → IsPlain (most + 1) (array (items_of values))

-- an object with a list of objects, each of which has one object
abbrev pub VerdictsArePlain : Type 0
VerdictsArePlain = (d : Declaration) (v : Verdict) → IsPlain 4 (verdict_value d v)

-- each fault is one object
pub record FaultsArePlain : Type 0 where
  pub of_texts : (text : List ℕ) (fault : TextFault) (place : Option ℕ) → IsPlain 1 (fault_value text fault place)
  pub of_long_texts : IsPlain 1 long_value
  pub of_schedules : (number : ℕ) → IsPlain 1 (schedule_fault_value number)
  pub of_words : IsPlain 1 unknown_flow_value

-- so is a place of a flow, with its fault or without one
pub record PlacesArePlain : Type 0 where
  pub places : (d : Declaration) (p : Place) → IsPlain 1 (place_value d p)
  pub faults : (p : Place) (fault : RouteFault) → IsPlain 1 (misrouted_fault_value p fault)

-- a kind alone is one object
abbrev pub KindsArePlain : Type 0
KindsArePlain = (kind : List ℕ) → IsPlain 1 (kind_value kind)

-- a file's object is one level deeper than its verdict, or than the list of what there is to note
abbrev pub EntriesArePlain : Type 0
EntriesArePlain =
    (most : ℕ) (path text : List ℕ) (lint : List (List ℕ)) (status : ℕ) (verdict : Data)
    → 1 ≤ most → IsPlain most verdict
    → IsPlain (most + 1) (read_entry path text lint status verdict) × IsPlain (most + 1) (bare_entry path status verdict)

-- an object with a list of the files' objects
abbrev pub AuditsArePlain : Type 0
AuditsArePlain =
    (most : ℕ) (files : List Data) (toolchain version : List ℕ)
    → All (IsPlain most) files → IsPlain (most + 2) (audit_value files toolchain version)

-- each input is one object
pub record InputsArePlain : Type 0 where
  pub read : (path text : List ℕ) → IsPlain 1 (input_value path text)
  pub long : (path : List ℕ) → IsPlain 1 (long_input path)

-- an object round a fault
abbrev pub FileFaultsArePlain : Type 0
FileFaultsArePlain = (most : ℕ) (path : List ℕ) (fault : Data) → IsPlain most fault → IsPlain (most + 1) (file_fault_value path fault)

-- an object with a list of the inputs' objects, and round the result
abbrev pub AnswersArePlain : Type 0
AnswersArePlain =
    (most : ℕ) (command : List ℕ) (files : List Data) (result : Data) (status : ℕ) (toolchain version : List ℕ)
    → 1 ≤ most → All (IsPlain 1) files → IsPlain most result → IsPlain (most + 2) (answer_value command files result status toolchain version)
