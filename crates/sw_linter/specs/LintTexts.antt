-- How it is told (this project's choice).
use Rattle.std.specs.Prelude.{◌≡◌, ℕ, ◌*◌, List, [], ◌∷◌, ◌++◌, map, codes}
use Rattle.std.specs.Fmt.{decimal}
use Rattle.sw_config.specs.Entries.{Declaration}
use Rattle.sw_output.specs.ChannelTexts.{channel_text, node_name, switch_name}
use Rattle.sw_output.specs.EntryTexts.{entry_words}
use Rattle.sw_output.specs.FlowTexts.{flow_name}
use Rattle.sw_output.specs.Lines.{spaced}
use Rattle.sw_circles.specs.Circlings.{AreCirclings, CirclingView}
use Rattle.sw_linter.specs.CirclingTexts.{circling_text}
use Rattle.sw_linter.specs.EndNames.{end_name, start_name}
use Rattle.sw_linter.specs.Lints.{AreLints}
use Rattle.sw_linter.specs.declared.lint.Lint.{Lint}
use Rattle.sw_linter.specs.declared.lint.Lint.TheVariants.{NoFlows, UnusedNode, UnusedSwitch, UnusedTarget, UnusedEntry, OneLinkedPort, LeadsBack, Opposed, TwoInitiators, WrongInitiator, WrongTarget}

-- the addresses of that entry of that switch's table, and the switch
abbrev pub entry_at_words : Declaration → ℕ → ℕ → List ℕ
entry_at_words d s e = spaced (entry_words d s e ∷ codes "at" ∷ switch_name d s ∷ [])

-- the flow and the target to which it goes
abbrev pub command_words : Declaration → ℕ → List ℕ
command_words d i = spaced (flow_name d i ∷ codes "to" ∷ end_name d i ∷ [])

abbrev pub lint_text : Declaration → Lint → List ℕ
lint_text d NoFlows = codes "the network has no flows"
lint_text d (UnusedNode n) = spaced (codes "no flow is from or to the node" ∷ node_name d n ∷ [])
lint_text d (UnusedSwitch s) = spaced (codes "no flow goes over the switch" ∷ switch_name d s ∷ [])
lint_text d (UnusedTarget n) = spaced (codes "no flow goes to the target" ∷ node_name d n ∷ [])
lint_text d (UnusedEntry s e) = spaced (codes "no flow uses the entry for" ∷ entry_at_words d s e ∷ [])
lint_text d (OneLinkedPort s e port) =
    spaced (codes "of the group for" ∷ entry_at_words d s e ∷ codes "one port alone has a link:" ∷ decimal port ∷ [])
lint_text d (LeadsBack s e port flow) =
    spaced (codes "the group for" ∷ entry_at_words d s e ∷ codes "may lead packets of" ∷ flow_name d flow ∷ codes "back over port" ∷ decimal port
    ∷ codes "by which they come" ∷ [])
lint_text d (Opposed link onward back) =
    spaced (codes "commands of" ∷ command_words d onward ∷ codes "go over" ∷ channel_text d (2 * link) ∷ codes "and of" ∷ command_words d back
    ∷ codes "the other way: while both targets answer, each can wait for the other" ∷ [])
lint_text d (WrongTarget i address logical) =
    spaced (codes "packets of" ∷ flow_name d i ∷ codes "come to" ∷ end_name d i ∷ codes "with logical address" ∷ decimal address
    ∷ codes "in place of" ∷ decimal logical ∷ [])
lint_text d (WrongInitiator i initiator) =
    spaced (codes "the initiator logical address" ∷ decimal initiator ∷ codes "of" ∷ flow_name d i ∷ codes "is no known address of"
    ∷ start_name d i ∷ [])
lint_text d (TwoInitiators j i one other) =
    spaced (flow_name d j ∷ codes "and" ∷ flow_name d i ∷ codes "go from" ∷ start_name d i ∷ codes "to" ∷ end_name d i
    ∷ codes "with different initiator logical addresses:" ∷ decimal one ∷ codes "and" ∷ decimal other ∷ [])

-- the texts of all that is told of a network
pub record AreLintTexts (d : Declaration) (texts : List (List ℕ)) : Type 0 where
  pub circlings : List CirclingView
  pub circling : AreCirclings d circlings
  pub lints : List Lint
  pub told : AreLints d lints
  pub worded : texts ≡ map (circling_text d) circlings ++ map (lint_text d) lints
