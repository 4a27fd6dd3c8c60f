-- A text says a certificate's contents exactly where it is their one spelling.
use Rattle.std.proofs.Common.{◌≡◌, ℕ, ◌≤◌, true, List, [], length, refl, sym, ap, ◌∙◌, subst}
use Rattle.std.specs.Prelude.{◌==◌, Ok}
use Rattle.std.specs.List.{slice_split, join_with_byte, flat_map}
use Rattle.std.proofs.lemmas.Bool.{false≢true}
use Rattle.std.proofs.lemmas.List.Splits.{join_with_byte-slice_split}
use Rattle.sw_flow.specs.declared.place.Place.{Place}
use Rattle.sw_cert.specs.declared.lines.Expected.{Expected}
use Rattle.sw_cert.specs.declared.lines.Expected.TheVariants.{Title, Channels, Numbers, Flows, Places, Nothing}
use Rattle.sw_cert.specs.Grammar.{spelling, lines_of, with_lf, HasText}
use Rattle.sw_cert.specs.Reading.{State}
use Rattle.sw_cert.specs.Text.{read_text, read_lines, at_first, is_ended}
use Rattle.sw_cert.specs.Sound.{Kept, IsSound}
use Rattle.sw_cert.proofs.Spelled.{written}
use Rattle.sw_cert.proofs.Cuts.{join_lines, split_lines, are_lines}
use Rattle.sw_cert.proofs.Runs.{was_read, reads}
use Rattle.sw_cert.proofs.Writes.{lines_run}
use Rattle.sw_cert.proofs.laws.one_text.Goals as goal

ended_lines : (e : Expected) (ns : List ℕ) (fs : List (List Place)) (ps : List Place) → is_ended e ≡ true → written e ns fs ps ≡ lines_of ns fs
ended_lines Title ns fs ps h = absurd (false≢true h)
ended_lines Channels ns fs ps h = absurd (false≢true h)
ended_lines (Numbers k) ns fs ps h = absurd (false≢true h)
ended_lines (Flows k) ns fs ps h = absurd (false≢true h)
ended_lines (Places p k) ns fs ps h = absurd (false≢true h)
ended_lines Nothing ns fs ps h = refl

ended_kept : (e : Expected) (ns : List ℕ) (fs : List (List Place)) (ps : List Place) → is_ended e ≡ true → Kept e ns fs ps → (length ns ≤ 2048) × (length fs ≤ 8192)
ended_kept Title ns fs ps h k = absurd (false≢true h)
ended_kept Channels ns fs ps h k = absurd (false≢true h)
ended_kept (Numbers n) ns fs ps h k = absurd (false≢true h)
ended_kept (Flows n) ns fs ps h k = absurd (false≢true h)
ended_kept (Places p n) ns fs ps h k = absurd (false≢true h)
ended_kept Nothing ns fs ps h k = (k.0, k.1)

start_sound : IsSound at_first
start_sound = record { kept = (refl, refl, refl); numbers = tt; blocks = tt; fits = tt; rises = tt }

spelled : (text : List ℕ) (d : State) → read_text text ≡ Ok d → (text ≡ spelling d.numbers d.flows) × HasText d.numbers d.flows
spelled text d r =
    let w = was_read 1 at_first (slice_split (λ b. b == 10) text) d start_sound r in
    let k = ended_kept d.expected d.numbers d.flows d.open_block w.ended w.sound.kept in (
      sym (join_with_byte-slice_split 10 text) ∙ ap (join_with_byte 10) w.cut ∙ join_lines w.lines
          ∙ ap (flat_map with_lf) (sym w.written ∙ ended_lines d.expected d.numbers d.flows d.open_block w.ended),
      record { channels = k.0; numbers_fit = w.sound.numbers; few = k.1; blocks = w.sound.blocks },
    )

said : (ns : List ℕ) (fs : List (List Place)) → HasText ns fs → read_text (spelling ns fs) ≡ Ok (record { expected = Nothing; numbers = ns; flows = fs; open_block = [] })
said ns fs h = ap (read_lines 1 at_first) (split_lines (lines_of ns fs) (are_lines ns fs h)) ∙ reads 1 at_first (record { expected = Nothing; numbers = ns; flows = fs; open_block = [] }) (lines_of ns fs) (lines_run ns fs h) refl

pub returns : goal.returns
returns c = λ text k. (
  (λ says. subst (λ x. (text ≡ spelling x.numbers x.places) × HasText x.numbers x.places) says.2 (spelled text says.0 says.1)),
  (λ h. (record { expected = Nothing; numbers = k.numbers; flows = k.places; open_block = [] }, ap read_text h.0 ∙ said k.numbers k.places h.1, refl)),
)
