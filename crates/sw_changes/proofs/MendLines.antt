-- The lines of what frees a network, one after another, or that nothing does.
use Rattle.std.proofs.Common.{◌≡◌, ◌∙◌, ℕ, Bool, false, true, List, [], ◌++◌, ap, append_assoc, codes, is_some, sym}
use Rattle.std.specs.Prelude.{if◌then◌else◌}
use Rattle.std.specs.List.{flat_map}
use Rattle.sw_config.specs.Entries.{Declaration}
use Rattle.sw_mend.specs.declared.change.Pair.{Pair}
use Rattle.sw_mend.specs.declared.change.Trial.{Trial}
use Rattle.sw_changes.specs.declared.mending.Cures.{Cures}
use Rattle.sw_changes.specs.MendTexts.{change_words, cure_lines, cures_text, is_cured, limiting_lines, mend_line, no_pair_line, none_line, pair_line, told_pairs, trial_words}

pub mend_told : (d : Declaration) (change : Trial) (words : List ℕ) → words ≡ trial_words d change → codes "free " ++ (words ++ codes "\n") ≡ mend_line d change
mend_told d change words is = ap (λ l. codes "free " ++ (l ++ codes "\n")) is

pub pair_told : (d : Declaration) (pair : Pair) (first second : List ℕ) → first ≡ change_words d pair.first → second ≡ change_words d pair.second
    → codes "free " ++ (first ++ (codes " and " ++ (second ++ codes "\n"))) ≡ pair_line d pair
pair_told d pair first second first_is second_is =
    ap (λ l. codes "free " ++ (l ++ (codes " and " ++ (second ++ codes "\n")))) first_is
    ∙ ap (λ l. codes "free " ++ (change_words d pair.first ++ (codes " and " ++ (l ++ codes "\n")))) second_is

-- where nothing frees the network, and where something does
pub none_told : (d : Declaration) (cures : Cures) (text : List ℕ) (looked_for : Bool) → is_cured cures ≡ false → is_some cures.pairs ≡ looked_for
    → text ≡ (if looked_for then no_pair_line else none_line) → text ≡ cures_text d cures
none_told d cures text looked_for none looked is =
    is ∙ sym (λ t. if none t then cure_lines d cures else if looked t then no_pair_line else none_line)

pub some_told : (d : Declaration) (cures : Cures) (start limits first second text : List ℕ) → is_cured cures ≡ true → start ≡ []
    → limits ≡ start ++ limiting_lines d cures.limiting → first ≡ limits ++ flat_map (mend_line d) cures.changes.items → second ≡ first ++ flat_map (pair_line d) (told_pairs cures)
    → text ≡ second ++ flat_map (mend_line d) cures.units.items → text ≡ cures_text d cures
some_told d cures start limits first second text some none limited changes with_pairs units =
    let l : List ℕ = limiting_lines d cures.limiting in
    let c : List ℕ = flat_map (mend_line d) cures.changes.items in
    let p : List ℕ = flat_map (pair_line d) (told_pairs cures) in
    let u : List ℕ = flat_map (mend_line d) cures.units.items in
    units ∙ ap (λ z. z ++ u) (with_pairs ∙ ap (λ z. z ++ p) (changes ∙ ap (λ z. z ++ c) (limited ∙ ap (λ z. z ++ l) none)))
    ∙ (append_assoc (l ++ c) p u ∙ append_assoc l c (p ++ u))
    ∙ sym (ap (λ (b : Bool). if b then cure_lines d cures else if is_some cures.pairs then no_pair_line else none_line) some)
