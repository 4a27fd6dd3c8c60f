-- The lines of one flow more, of commands that nobody answers.
use Rattle.std.proofs.Common.{Bool, List, Option, Some, [], ap, append-nil, false, sym, true, ℕ, ◌+◌, ◌++◌, ◌∙◌, ◌≡◌}
use Rattle.std.specs.List.{flat_map, range_with_len}
use Rattle.std.specs.Option.{option_map_or}
use Rattle.std.specs.Prelude.{if◌then◌else◌, is_some, slice_get}
use Rattle.sw_char.specs.PacketView.{PacketView}
use Rattle.sw_config.specs.Entries.{Declaration, FlowEntry, target_of}
use Rattle.sw_machine.specs.Begun.{Begun}
use Rattle.sw_output.proofs.EachLine.{number_added}
use Rattle.sw_summary.specs.Counts.{forms}
use Rattle.sw_summary.specs.Texts.{unanswered_of, unanswered_text}

abbrev told_of : Declaration → List Begun → ℕ → List ℕ
told_of d begun i = option_map_or (unanswered_of d begun i) (slice_get d.flows i) []

told_where : (d : Declaration) (begun : List Begun) (i to : ℕ) (f : FlowEntry) (b r : Bool) → slice_get d.flows i ≡ Some f → to ≡ f.to → b ≡ is_some (target_of d.nodes to) → b ≡ r
    → (if r then unanswered_text f.name (forms f i begun) else []) ≡ told_of d begun i
told_where d begun i to f b r at to_is tells is =
    ap (λ (k : Bool). if k then unanswered_text f.name (forms f i begun) else []) (sym is ∙ tells ∙ ap (λ n. is_some (target_of d.nodes n)) to_is)
    ∙ sym (ap (λ (o : Option FlowEntry). option_map_or (unanswered_of d begun i) o []) at)

pub no_more_told : (d : Declaration) (begun : List Begun) (i to : ℕ) (f : FlowEntry) (b : Bool) (start before : List ℕ) → slice_get d.flows i ≡ Some f → to ≡ f.to
    → b ≡ is_some (target_of d.nodes to) → b ≡ false → before ≡ start ++ flat_map (told_of d begun) (range_with_len 0 i) → before ≡ start ++ flat_map (told_of d begun) (range_with_len 0 (i + 1))
no_more_told d begun i to f b start before at to_is tells is so_far =
    number_added (told_of d begun) i start before before so_far (sym (append-nil before) ∙ ap (λ l. before ++ l) (told_where d begun i to f b false at to_is tells is))

pub more_told : (d : Declaration) (begun : List Begun) (i to : ℕ) (f : FlowEntry) (b : Bool) (name : List ℕ) (packets : List PacketView) (start before after : List ℕ)
    → slice_get d.flows i ≡ Some f → to ≡ f.to → b ≡ is_some (target_of d.nodes to) → b ≡ true → name ≡ f.name → packets ≡ forms f i begun
    → before ≡ start ++ flat_map (told_of d begun) (range_with_len 0 i) → after ≡ before ++ unanswered_text name packets → after ≡ start ++ flat_map (told_of d begun) (range_with_len 0 (i + 1))
more_told d begun i to f b name packets start before after at to_is tells is name_is packets_are so_far more =
    number_added (told_of d begun) i start before after so_far
    (more ∙ ap (λ l. before ++ unanswered_text l packets) name_is ∙ ap (λ (l : List PacketView). before ++ unanswered_text f.name l) packets_are
    ∙ ap (λ l. before ++ l) (told_where d begun i to f b true at to_is tells is))
