-- Notes on standard error (this project's choice).
use Rattle.std.specs.Prelude.{◌≡◌, ℕ, List, [], ◌++◌, map, codes}
use Rattle.sw_config.specs.Entries.{Declaration}
use Rattle.sw_circles.specs.Circlings.{AreCirclings, CirclingView}
use Rattle.sw_linter.specs.CirclingTexts.{circling_text}
use Rattle.sw_linter.specs.Lints.{AreLints}
use Rattle.sw_linter.specs.LintTexts.{lint_text}
use Rattle.sw_linter.specs.declared.lint.Lint.{Lint}
use Rattle.sw_linter.specs.declared.lint.Lint.TheVariants as lint
use Rattle.sw_linter.specs.declared.network_notes.NoteKind.{NoteKind}
use Rattle.sw_linter.specs.declared.network_notes.NoteKind.TheVariants.{Circling, NoFlows, UnusedNode, UnusedSwitch, UnusedTarget, UnusedEntry, OneLinkedPort, LeadsBack, Opposed, WrongTarget, WrongInitiator, TwoInitiators}

-- a note: what it tells of, and its text
pub record NoteView : Type 0 where
  pub kind : NoteKind
  pub text : List ℕ

abbrev pub note_view : NoteKind → List ℕ → NoteView
note_view kind text = record { kind = kind; text = text }

-- what the note on it tells of
abbrev pub kind_of : Lint → NoteKind
kind_of lint.NoFlows = NoFlows
kind_of (lint.UnusedNode n) = UnusedNode
kind_of (lint.UnusedSwitch s) = UnusedSwitch
kind_of (lint.UnusedTarget n) = UnusedTarget
kind_of (lint.UnusedEntry s e) = UnusedEntry
kind_of (lint.OneLinkedPort s e port) = OneLinkedPort
kind_of (lint.LeadsBack s e port flow) = LeadsBack
kind_of (lint.Opposed link onward back) = Opposed
kind_of (lint.WrongTarget i address logical) = WrongTarget
kind_of (lint.WrongInitiator i initiator) = WrongInitiator
kind_of (lint.TwoInitiators j i one other) = TwoInitiators

-- what can prevent it, or what tells more, told there alone
abbrev pub cure_words : Lint → List ℕ
cure_words (lint.Opposed link onward back) = codes "; limits on unanswered commands ('outstanding', from version 3 on) can prevent that"
cure_words (lint.WrongInitiator i initiator) = codes "; its 'target' and the flows to it tell which it has"
cure_words other = []

-- as a note
abbrev pub note_text : Declaration → Lint → List ℕ
note_text d told = lint_text d told ++ cure_words told

abbrev pub lint_note : Declaration → Lint → NoteView
lint_note d told = note_view (kind_of told) (note_text d told)

abbrev pub circling_note : Declaration → CirclingView → NoteView
circling_note d c = note_view Circling (circling_text d c)

-- the notes on all that is told of a network: on flows whose packets can come back or of which none arrives, and on slips
pub record AreNotes (d : Declaration) (notes : List NoteView) : Type 0 where
  pub circlings : List CirclingView
  pub circling : AreCirclings d circlings
  pub lints : List Lint
  pub told : AreLints d lints
  pub worded : notes ≡ map (circling_note d) circlings ++ map (lint_note d) lints
