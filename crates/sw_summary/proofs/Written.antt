-- Texts as they are written at once.
use Rattle.std.proofs.Common.{List, Option, [], ap, append-nil, append_assoc, arith, sym, ◌++◌, ◌<◌, ◌∙◌, ◌∷◌, ◌≡◌, ℕ}
use Rattle.std.proofs.lemmas.Bool.{lt-ltb}
use Rattle.std.specs.Fmt.{decimal}
use Rattle.std.specs.Prelude.{codes, if◌then◌else◌, nat_lt, slice_index}
use Rattle.sw_config.specs.Entries.{Declaration, capacities}
use Rattle.sw_output.specs.ChannelTexts.{channel_text}
use Rattle.sw_output.specs.Lines.{spaced}
use Rattle.sw_summary.specs.BufferLines.{fill_line}
use Rattle.sw_char.specs.PacketView.{PacketView}
use Rattle.sw_summary.specs.Counts.{handled_as}
use Rattle.sw_summary.specs.declared.handling.Handling.{Handling}
use Rattle.sw_summary.specs.Texts.{answered_words, flow_line, status_line, steps_line, unanswered_line}

line_is : (name b o d r w : List ℕ) → r ≡ w
    → codes "flow " ++ (name ++ (codes " begun " ++ (b ++ (codes " of " ++ (o ++ (codes " delivered " ++ (d ++ (r ++ codes "\n"))))))))
    ≡ spaced (codes "flow" ∷ name ∷ codes "begun" ∷ b ∷ codes "of" ∷ o ∷ codes "delivered" ∷ d ∷ []) ++ (w ++ codes "\n")
line_is name b o d r w same = rw same (simp append_assoc)

joined : (t a b c e : List ℕ) → (((t ++ a) ++ b) ++ c) ++ e ≡ t ++ (a ++ (b ++ (c ++ e)))
joined t a b c e = simp append_assoc

pub summary_is : (k n : ℕ) (t u v w x a b c e p r s : List ℕ) → k ≡ n → t ≡ codes "steps " ++ (decimal k ++ codes "\n") → u ≡ t ++ a → v ≡ u ++ b → w ≡ v ++ c → x ≡ w ++ e
    → a ≡ p → c ≡ r → e ≡ s → x ≡ steps_line n ++ (p ++ (b ++ (r ++ s)))
summary_is k n t u v w x a b c e p r s count one two three four five flows unanswered caveats =
    let first : t ≡ steps_line n = one ∙ ap (λ m. codes "steps " ++ (decimal m ++ codes "\n")) count in
    five ∙ ap (λ l. l ++ e) (four ∙ ap (λ l. l ++ c) (three ∙ ap (λ l. l ++ b) (two ∙ ap (λ l. l ++ a) first))) ∙ joined (steps_line n) a b c e
    ∙ (λ i. steps_line n ++ (flows i ++ (b ++ (unanswered i ++ caveats i))))

-- a line that is told of some, added
told_if : (n : ℕ) (told before after : List ℕ) → 0 < n → after ≡ before ++ told → after ≡ before ++ (if nat_lt 0 n then told else [])
told_if n told before after some added = added ∙ ap (λ b. before ++ (if b then told else [])) (sym (lt-ltb 0 n some))

untold_if : (n : ℕ) (told before : List ℕ) → n ≡ 0 → before ≡ before ++ (if nat_lt 0 n then told else [])
untold_if n told before none = sym (append-nil before) ∙ ap (λ (k : ℕ). before ++ (if nat_lt 0 k then told else [])) (sym none)

pub untold_line : (before name : List ℕ) (packets : List PacketView) (handling : Handling) (n : ℕ) → n ≡ 0 → n ≡ handled_as handling packets → before ≡ before ++ unanswered_line name packets handling
untold_line before name packets handling n none same = untold_if (handled_as handling packets) _ before (sym same ∙ none)

pub untold_status : (before : List ℕ) (status n : ℕ) → n ≡ 0 → before ≡ before ++ status_line status n
untold_status before status n none = untold_if n _ before none

pub positive : (n : ℕ) → (n ≡ 0 → ⊥) → 0 < n
positive n some = omega (arith, some)

pub told_line : (before after name : List ℕ) (n k : ℕ) (reason words : List ℕ) → (n ≡ 0 → ⊥) → n ≡ k → reason ≡ words
    → after ≡ before ++ (codes "commands of " ++ (name ++ (codes " that nobody answers: " ++ (decimal n ++ (codes " (" ++ (reason ++ codes ")\n"))))))
    → after ≡ before ++ (if nat_lt 0 k then codes "commands of " ++ (name ++ (codes " that nobody answers: " ++ (decimal k ++ (codes " (" ++ (words ++ codes ")\n"))))) else [])
told_line before after name n k reason words some same named added =
    told_if n (codes "commands of " ++ (name ++ (codes " that nobody answers: " ++ (decimal n ++ (codes " (" ++ (reason ++ codes ")\n")))))) before after (positive n some) added
    ∙ (λ i. before ++ (if nat_lt 0 (same i) then codes "commands of " ++ (name ++ (codes " that nobody answers: " ++ (decimal (same i) ++ (codes " (" ++ (named i ++ codes ")\n"))))) else []))

pub told_status : (before after : List ℕ) (status n : ℕ) (name words : List ℕ) → (n ≡ 0 → ⊥) → name ≡ words
    → after ≡ before ++ (codes "replies with status " ++ (decimal status ++ (codes " (" ++ (name ++ (codes "): " ++ (decimal n ++ codes "\n"))))))
    → after ≡ before ++ (if nat_lt 0 n then codes "replies with status " ++ (decimal status ++ (codes " (" ++ (words ++ (codes "): " ++ (decimal n ++ codes "\n"))))) else [])
told_status before after status n name words some named added =
    told_if n (codes "replies with status " ++ (decimal status ++ (codes " (" ++ (name ++ (codes "): " ++ (decimal n ++ codes "\n")))))) before after (positive n some) added
    ∙ (λ i. before ++ (if nat_lt 0 n then codes "replies with status " ++ (decimal status ++ (codes " (" ++ (named i ++ (codes "): " ++ (decimal n ++ codes "\n"))))) else []))

pub told_flow : (before after name words : List ℕ) (count b n o d : ℕ) (replies others : Option ℕ) → 0 < n → name ≡ words → count ≡ b → n ≡ o → others ≡ replies
    → after ≡ before ++ (codes "flow " ++ (name ++ (codes " begun " ++ (decimal count ++ (codes " of " ++ (decimal n ++ (codes " delivered " ++ (decimal d ++ (answered_words replies ++ codes "\n")))))))))
    → after ≡ before ++ (if nat_lt 0 o then flow_line words b o d others else [])
told_flow before after name words count b n o d replies others some named begun all is added =
    let ended = answered_words replies ++ codes "\n" in
    told_if n (codes "flow " ++ (name ++ (codes " begun " ++ (decimal count ++ (codes " of " ++ (decimal n ++ (codes " delivered " ++ (decimal d ++ ended)))))))) before after some added
    ∙ (λ i. before ++ (if nat_lt 0 (all i) then codes "flow " ++ (named i ++ (codes " begun " ++ (decimal (begun i) ++ (codes " of " ++ (decimal (all i) ++ (codes " delivered " ++ (decimal d ++ ended))))))) else []))
    ∙ ap (λ l. before ++ (if nat_lt 0 o then l else [])) (line_is words (decimal b) (decimal o) (decimal d) (answered_words replies) (answered_words others) (ap answered_words (sym is)))

pub told_fill : (before after name words : List ℕ) (fill capacity room : ℕ) → 0 < fill → name ≡ words → capacity ≡ room
    → after ≡ before ++ (codes "buffer " ++ (name ++ (codes ": greatest fill " ++ (decimal fill ++ (codes " of " ++ (decimal capacity ++ codes "\n"))))))
    → after ≡ before ++ (if nat_lt 0 fill then codes "buffer " ++ (words ++ (codes ": greatest fill " ++ (decimal fill ++ (codes " of " ++ (decimal room ++ codes "\n"))))) else [])
told_fill before after name words fill capacity room some named holds added =
    told_if fill (codes "buffer " ++ (name ++ (codes ": greatest fill " ++ (decimal fill ++ (codes " of " ++ (decimal capacity ++ codes "\n")))))) before after some added
    ∙ (λ i. before ++ (if nat_lt 0 fill then codes "buffer " ++ (named i ++ (codes ": greatest fill " ++ (decimal fill ++ (codes " of " ++ (decimal (holds i) ++ codes "\n"))))) else []))

-- of a channel whose buffer never held a character, and of one whose buffer did
pub no_fill : (d : Declaration) (fills : List ℕ) (c at : ℕ) → at ≡ c → slice_index fills at ≡ 0 → [] ≡ fill_line d c (slice_index fills c)
no_fill d fills c at at_is none = ap (fill_line d c) (sym none ∙ ap (slice_index fills) at_is)

pub told_fill_of : (d : Declaration) (fills : List ℕ) (c at channel : ℕ) (name : List ℕ) (capacity : ℕ) (before after : List ℕ) → at ≡ c → channel ≡ c
    → (slice_index fills at ≡ 0 → ⊥) → name ≡ channel_text d channel → capacity ≡ slice_index (capacities d.links) channel
    → after ≡ before ++ (codes "buffer " ++ (name ++ (codes ": greatest fill " ++ (decimal (slice_index fills at) ++ (codes " of " ++ (decimal capacity ++ codes "\n"))))))
    → after ≡ before ++ fill_line d c (slice_index fills c)
told_fill_of d fills c at channel name capacity before after at_is channel_is some name_is holds added =
    let fill : ℕ = slice_index fills at in
    let held : 0 < fill = omega (arith, some) in
    told_fill before after name (channel_text d channel) fill capacity (slice_index (capacities d.links) channel) held name_is holds added
    ∙ ap (λ k. before ++ fill_line d k fill) channel_is ∙ ap (λ k. before ++ fill_line d c (slice_index fills k)) at_is
