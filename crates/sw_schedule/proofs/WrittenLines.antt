-- The line of a step, with a count or without, is read as that step.
use Rattle.std.proofs.Common.{◌≡◌, ℕ, ◌*◌, ◌^◌, ◌<◌, ◌≤◌, false, List, [], ◌∷◌, ◌++◌, length, replicate, Some, refl, ap, inl, inr, arith, ne_eqb, eqb-true}
use Rattle.std.specs.Prelude.{◌==◌, codes, if◌then◌else◌}
use Rattle.std.specs.Fmt.{decimal}
use Rattle.std.proofs.lemmas.Bool.{cases_Bool}
use Rattle.std.proofs.lemmas.List.Elements.{All-cons}
use Rattle.sw_char.specs.declared.nchar.End.{End}
use Rattle.sw_char.specs.declared.nchar.End.TheVariants.{Eop, Eep}
use Rattle.sw_config.specs.Entries.{Declaration}
use Rattle.sw_config.specs.Valid.{IsValid}
use Rattle.sw_load.specs.Cargo.{CargoIsRead}
use Rattle.sw_machine.specs.Steps.{Step, Fct, FctIn, Arrive, Grant, Drop, Forward, Spill, Begin, Emit, Accept, Reply}
use Rattle.sw_output.specs.ChannelTexts.{node_name}
use Rattle.sw_output.specs.FlowTexts.{flow_name}
use Rattle.sw_output.specs.PacketTexts as told
use Rattle.sw_schedule.specs.Lines.{Repeated, count_of, steps_of_line}
use Rattle.sw_schedule.specs.Spelling.{IsAtChannel, IsAtNode, IsBegin, IsGrant, Writes}
use Rattle.sw_schedule.specs.TextLaws.{HasNames, IsShort}
use Rattle.sw_schedule.specs.WrittenLines.{cargo_text, step_line}
use Rattle.sw_schedule.proofs.Written.{Reads, read_once, writes_read}
use Rattle.sw_schedule.proofs.WrittenCargo.{cargo_spelled}
use Rattle.sw_schedule.proofs.WrittenNames.{flow_found, flow_plain, node_found, node_plain}
use Rattle.sw_schedule.proofs.Words.{Free, both_free, decimal_plain, number_shown, word_and}
use Rattle.sw_text.proofs.Numbers.{spelled_read}
use Rattle.sw_output.specs.PacketTexts.{end_text}

-- the step is of channels, nodes and flows of the network, and its cargo is short
abbrev pub IsWritable : Declaration → Step → Type 0
IsWritable d (Fct c) = c < 2 * length d.links
IsWritable d (FctIn c) = c < 2 * length d.links
IsWritable d (Arrive c) = c < 2 * length d.links
IsWritable d (Grant o i) = (o < 2 * length d.links) × (i < 2 * length d.links)
IsWritable d (Drop c) = c < 2 * length d.links
IsWritable d (Forward c) = c < 2 * length d.links
IsWritable d (Spill c) = c < 2 * length d.links
IsWritable d (Begin flow cargo end) = (flow < length d.flows) × (1 ≤ length cargo) × IsShort cargo
IsWritable d (Emit n) = n < length d.nodes
IsWritable d (Accept n) = n < length d.nodes
IsWritable d (Reply n) = n < length d.nodes

same_end : (e : End) → told.end_text e ≡ end_text e
same_end Eop = refl
same_end Eep = refl

module _ (is_read : CargoIsRead) (d : Declaration) (valid : IsValid d) (names : HasNames d) (few : length d.links ≤ 1024) where
  channel_written : (verb : List ℕ) (c : ℕ) → c < 2 * length d.links → IsAtChannel d verb c (verb ++ decimal c)
  channel_written verb c lt = record { in_net = lt; few = omega (arith, lt, few); written = refl }

  node_written : (verb : List ℕ) (n : ℕ) → n < length d.nodes → IsAtNode d verb n (verb ++ node_name d n)
  node_written verb n lt = record { name = node_name d n; word = node_plain d valid names n lt; node = node_found d valid names n lt; written = refl }

  grant_written : (o i : ℕ) → o < 2 * length d.links → i < 2 * length d.links → IsGrant d o i (step_line d (Grant o i))
  grant_written o i output input = record { output_in_net = output; input_in_net = input; few = (omega (arith, output, few), omega (arith, input, few)); written = refl }

  begin_written : (f : ℕ) (cargo : List ℕ) (e : End) → f < length d.flows → 1 ≤ length cargo → IsShort cargo → IsBegin d f cargo e (step_line d (Begin f cargo e))
  begin_written f cargo e lt some short =
      let spells = cargo_spelled is_read cargo short some in
      record {
        name = flow_name d f;
        text = cargo_text cargo;
        words = (flow_plain d valid names f lt, spells.plain);
        named = flow_found d valid names f lt;
        spelled = spells.read;
        written = ap (λ end. codes "begin " ++ (flow_name d f ++ (32 ∷ (end ++ (32 ∷ cargo_text cargo))))) (same_end e);
      }

  line_written : (s : Step) → IsWritable d s → Writes d s (step_line d s)
  line_written (Fct c) lt = channel_written (codes "fct ") c lt
  line_written (FctIn c) lt = channel_written (codes "fctin ") c lt
  line_written (Arrive c) lt = channel_written (codes "arrive ") c lt
  line_written (Grant o i) lt = grant_written o i lt.0 lt.1
  line_written (Drop c) lt = channel_written (codes "drop ") c lt
  line_written (Forward c) lt = channel_written (codes "forward ") c lt
  line_written (Spill c) lt = channel_written (codes "spill ") c lt
  line_written (Begin f cargo e) h = begin_written f cargo e h.0 h.1 h.2
  line_written (Emit n) lt = node_written (codes "emit ") n lt
  line_written (Accept n) lt = node_written (codes "accept ") n lt
  line_written (Reply n) lt = node_written (codes "reply ") n lt

  pub step_read : (s : Step) → IsWritable d s → Reads d s (step_line d s)
  step_read s h = writes_read d s (step_line d s) (line_written s h)

-- ---- with a count

-- the line of an entry, without its LF
abbrev pub entry_text : Declaration → Repeated → List ℕ
entry_text d r = if r.count == 1 then step_line d r.step else decimal r.count ++ (32 ∷ step_line d r.step)

pub record Says (d : Declaration) (steps : List Step) (line : List ℕ) : Type 0 where
  pub no_lf : Free 10 line
  pub says : steps_of_line d line ≡ Some steps

counted : (d : Declaration) (count : ℕ) (step : Step) (line : List ℕ) → 1 ≤ count → count ≤ 100000 → Reads d step line → Says d (replicate count step) (decimal count ++ (32 ∷ line))
unfolding steps_of_line
counted d count step line some few reads =
    let low : count < 2 ^ 30 = omega (arith, few) in
    let plain = decimal_plain count low in
    let words = word_and (decimal count) line plain.no_space in
    let number : count_of (decimal count) ≡ Some count = rw (spelled_read 100000 count (omega arith) few, ne_eqb count 0 (λ e. omega (arith, some, e))) refl in
    record {
      no_lf = both_free 10 (decimal count) (32 ∷ line) plain.no_lf (All-cons (λ b. (b == 10) ≡ false) 32 line refl reads.no_lf);
      says = rw (number_shown count (32 ∷ line) low, words, number, reads.said) refl;
    }

once : (d : Declaration) (step : Step) (line : List ℕ) → Reads d step line → Says d (step ∷ []) line
once d step line reads = record { no_lf = reads.no_lf; says = read_once d step line reads }

pub entry_says : (d : Declaration) (r : Repeated) → 1 ≤ r.count → r.count ≤ 100000 → Reads d r.step (step_line d r.step) → Says d (replicate r.count r.step) (entry_text d r)
entry_says d r some few reads = elim (cases_Bool (r.count == 1)) [
  | inl t ↦
      let one : r.count ≡ 1 = eqb-true r.count 1 t in
      rw t (rw one (once d r.step (step_line d r.step) reads))
  | inr f ↦ rw f (counted d r.count r.step (step_line d r.step) some few reads)
]
