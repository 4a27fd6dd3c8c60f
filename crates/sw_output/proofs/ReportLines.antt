-- Lines of a word and a value that are written at once.
use Rattle.std.proofs.Common.{◌≡◌, ◌∙◌, ℕ, List, [], ◌∷◌, ◌++◌, ◌-◌, ap, append_assoc, length, refl, sym}
use Rattle.std.specs.Fmt.{decimal}
use Rattle.std.specs.Prelude.{codes}
use Rattle.sw_config.specs.Entries.{Declaration, all_flows, wiring_of}
use Rattle.sw_output.specs.ReportTexts.{flows_text, report_text, wiring_text}

-- each word with the space behind it
abbrev word_line : List ℕ → List ℕ → List ℕ
word_line word value = word ++ (value ++ codes "\n")

first_line : (word value rest : List ℕ) → word ++ (value ++ (codes "\n" ++ rest)) ≡ word_line word value ++ rest
first_line word value rest =
    ap (λ l. word ++ l) (sym (append_assoc value (codes "\n") rest)) ∙ sym (append_assoc word (value ++ codes "\n") rest)

module _ (word value other second third last : List ℕ) where
  three_lines : word ++ (value ++ (codes "\n" ++ (other ++ (second ++ (codes "\n" ++ word_line third last))))) ≡ word_line word value ++ (word_line other second ++ word_line third last)
  three_lines = first_line word value (other ++ (second ++ (codes "\n" ++ word_line third last))) ∙ ap (λ l. word_line word value ++ l) (first_line other second (word_line third last))

  three_before : (rest : List ℕ) → word ++ (value ++ (codes "\n" ++ (other ++ (second ++ (codes "\n" ++ (third ++ (last ++ (codes "\n" ++ rest))))))))
      ≡ (word_line word value ++ (word_line other second ++ word_line third last)) ++ rest
  three_before rest =
      first_line word value (other ++ (second ++ (codes "\n" ++ (third ++ (last ++ (codes "\n" ++ rest))))))
      ∙ ap (λ l. word_line word value ++ l) (first_line other second (third ++ (last ++ (codes "\n" ++ rest))) ∙ ap (λ l. word_line other second ++ l) (first_line third last rest) ∙ sym (append_assoc (word_line other second) (word_line third last) rest))
      ∙ sym (append_assoc (word_line word value) (word_line other second ++ word_line third last) rest)

-- pieces that are joined before the last one is
abbrev joined : List (List ℕ) → List ℕ → List ℕ
joined [] last = last
joined (piece ∷ pieces) last = piece ++ joined pieces last

joined_more : (pieces : List (List ℕ)) (last more : List ℕ) → joined pieces last ++ more ≡ joined pieces (last ++ more)
joined_more [] last more = refl
joined_more (piece ∷ pieces) last more = append_assoc piece (joined pieces last) more ∙ ap (λ l. piece ++ l) (joined_more pieces last more)

-- how many parts there are of each kind, and what is found, written at once
pub report_is : (d : Declaration) (nodes switches links channels flows replies places dependencies : ℕ) (verdict : List ℕ) → nodes ≡ length d.nodes → switches ≡ length d.switches
    → links ≡ length d.links → channels ≡ length (wiring_of d).ends → flows ≡ length d.flows → replies ≡ length (all_flows d) - length d.flows
    → (codes "nodes " ++ (decimal nodes ++ (codes "\nswitches " ++ (decimal switches ++ (codes "\nlinks " ++ (decimal links
    ++ (codes "\nchannels " ++ (decimal channels ++ (codes "\nflows " ++ (decimal flows ++ (codes "\nreplies " ++ decimal replies)))))))))))
    ++ (codes "\nplaces " ++ (decimal places ++ (codes "\ndependencies " ++ (decimal dependencies ++ (codes "\nverdict " ++ (verdict ++ codes "\n"))))))
    ≡ report_text d places dependencies verdict
report_is d nodes switches links channels flows replies places dependencies verdict of_nodes of_switches of_links of_channels of_flows of_replies =
    let pieces =
    codes "nodes " ∷ decimal nodes ∷ codes "\nswitches " ∷ decimal switches ∷ codes "\nlinks " ∷ decimal links ∷ codes "\nchannels " ∷ decimal channels ∷ codes "\nflows " ∷ decimal flows
    ∷ codes "\nreplies " ∷ []
    in
    let found = codes "places " ++ (decimal places ++ (codes "\ndependencies " ++ (decimal dependencies ++ (codes "\nverdict " ++ (verdict ++ codes "\n"))))) in
    let last = codes "channels " ++ (decimal channels ++ (codes "\nflows " ++ (decimal flows ++ (codes "\nreplies " ++ (decimal replies ++ (codes "\n" ++ found)))))) in
    joined_more pieces (decimal replies) (codes "\n" ++ found)
    ∙ three_before (codes "nodes ") (decimal nodes) (codes "switches ") (decimal switches) (codes "links ") (decimal links) last
    ∙ (λ i. (word_line (codes "nodes ") (decimal (of_nodes i)) ++ (word_line (codes "switches ") (decimal (of_switches i)) ++ word_line (codes "links ") (decimal (of_links i)))) ++ last)
    ∙ ap (λ l. wiring_text d ++ l)
    (three_before (codes "channels ") (decimal channels) (codes "flows ") (decimal flows) (codes "replies ") (decimal replies) found
    ∙ (λ i. (word_line (codes "channels ") (decimal (of_channels i)) ++ (word_line (codes "flows ") (decimal (of_flows i)) ++ word_line (codes "replies ") (decimal (of_replies i)))) ++ found)
    ∙ ap (λ l. flows_text d ++ l) (three_lines (codes "places ") (decimal places) (codes "dependencies ") (decimal dependencies) (codes "verdict ") verdict))
