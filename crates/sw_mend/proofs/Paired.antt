-- Those pairs of changes that free the network, with one more second change, and with one more first.
use Rattle.std.proofs.Common.{◌≡◌, ◌∙◌, ◌↔◌, ◌+◌, ◌<◌, ◌≤◌, ℕ, Bool, IsTrue, List, [], ◌∷◌, ◌++◌, append-nil, append_assoc, drop, get_or, inl, inr, length, map, refl, subst, sym, take, ap}
use Rattle.std.specs.Prelude.{if◌then◌else◌, false, not, true}
use Rattle.std.proofs.lemmas.Bool.{false≢true}
use Rattle.std.proofs.lemmas.List.{drop_more, take_all, take_more, map-append}
use Rattle.sw_config.specs.Entries.{Declaration}
use Rattle.sw_search.specs.Laws.{RoutedAndFree}
use Rattle.sw_mend.specs.Changes.{changed, pairs_of}
use Rattle.sw_mend.specs.Mends.{AreThose, AreThosePairs, FailsAlone, FreesBoth, FreesTogether}
use Rattle.sw_mend.specs.declared.change.Change.{Change}
use Rattle.sw_mend.specs.declared.change.Pair.{Pair}
use Rattle.sw_mend.proofs.Told.{joined, parted, told_one}

abbrev pub pair_with : Change → Change → Pair
pair_with first second = record { first = first; second = second }

-- behind what was told before, those pairs of the first change and one of these
abbrev pub AreAdded : Declaration → Change → List Change → List Pair → List Pair → Type 0
AreAdded d first others old now = (those : List Pair) × AreThosePairs d (map (pair_with first) others) those × (now ≡ old ++ those)

pub none_added : (d : Declaration) (first : Change) (old : List Pair) → AreAdded d first [] old old
none_added d first old = ([], refl, sym (append-nil old))

pub added_more : (d : Declaration) (first : Change) (others : List Change) (i : ℕ) (second : Change) (old now after : List Pair) (b : Bool) → i < length others
    → second ≡ get_or others i second → AreAdded d first (take i others) old now → (IsTrue b ↔ FreesBoth d (pair_with first second))
    → after ≡ now ++ (if b then pair_with first second ∷ [] else []) → AreAdded d first (take (i + 1) others) old after
added_more d first others i second old now after b lt at (those, are, so_far) decided more =
    let new : List Pair = if b then pair_with first second ∷ [] else [] in
    let cut : take (i + 1) others ≡ take i others ++ second ∷ [] = take_more others i second lt ∙ ap (λ c. take i others ++ c ∷ []) (sym at) in
    let paired : map (pair_with first) (take (i + 1) others) ≡ map (pair_with first) (take i others) ++ pair_with first second ∷ [] =
    ap (map (pair_with first)) cut ∙ map-append (pair_with first) (take i others) (second ∷ []) in (
      those ++ new,
      subst (λ (l : List Pair). AreThosePairs d l (those ++ new)) (sym paired)
          (told_one (FreesBoth d) (map (pair_with first) (take i others)) (pair_with first second) those (those ++ new) b are decided refl),
      more ∙ ap (λ (l : List Pair). l ++ new) so_far ∙ append_assoc old those new,
    )

pub all_tried : (d : Declaration) (first : Change) (others : List Change) (i : ℕ) (old now : List Pair) → length others ≤ i → AreAdded d first (take i others) old now
    → AreAdded d first others old now
all_tried d first others i old now past = subst (λ (l : List Change). AreAdded d first l old now) (take_all i others past)

-- whatever pairs of the changes left are those that free, behind what was told they are those of all the changes
abbrev pub AreTold : Declaration → List Change → List Change → List Pair → Type 0
AreTold d changes left told = (more : List Pair) → AreThosePairs d (pairs_of left) more → AreThosePairs d (pairs_of changes) (told ++ more)

pub told_with : (d : Declaration) (changes others : List Change) (i : ℕ) (first : Change) (now after : List Pair) → i < length changes → first ≡ get_or changes i first
    → others ≡ drop (i + 1) changes → AreTold d changes (drop i changes) now → AreAdded d first others now after → AreTold d changes (drop (i + 1) changes) after
told_with d changes others i first now after lt at rest so_far (those, are, is) more left =
    let cut : drop i changes ≡ first ∷ others =
    drop_more changes i first lt ∙ (λ t. sym at t ∷ sym rest t) in
    let more_left : AreThosePairs d (pairs_of others) more = rw rest left in
    let both : AreThosePairs d (pairs_of (drop i changes)) (those ++ more) =
    rw cut (joined (FreesBoth d) (map (pair_with first) others) (pairs_of others) those more are more_left) in
    subst (AreThosePairs d (pairs_of changes)) (sym (append_assoc now those more) ∙ ap (λ (l : List Pair). l ++ more) (sym is)) (so_far (those ++ more) both)

pub all_told : (d : Declaration) (changes left : List Change) (told : List Pair) → left ≡ [] → AreTold d changes left told → AreThosePairs d (pairs_of changes) told
all_told d changes left told none so_far =
    let gone : AreThosePairs d (pairs_of left) [] = rw none refl in
    subst (AreThosePairs d (pairs_of changes)) (append-nil told) (so_far [] gone)

-- what does not free the network alone, as it is decided
pub failing_decided : (d : Declaration) (change : Change) (freed : Bool) → (IsTrue freed ↔ RoutedAndFree (changed d change)) → (IsTrue (not freed) ↔ FailsAlone d change)
failing_decided d change true is = (λ never. absurd cc, λ fails. absurd (fails (is.0 refl)))
failing_decided d change false is = (λ told frees. absurd (false≢true (is.1 frees)), λ fails. refl)

-- ---- those of which neither change frees the network alone

module _ (d : Declaration) where
  -- with a first change that does not: of the second changes those that do not
  with_failing : (first : Change) → FailsAlone d first → (changes rest : List Change) (told : List Pair) → AreThose (FailsAlone d) changes rest
      → AreThosePairs d (map (pair_with first) rest) told → AreThose (FreesTogether d) (map (pair_with first) changes) told
  with_failing first fails [] rest told none are = rw none at are
  with_failing first fails (c ∷ changes) rest told (more, those, inl also) are =
      let here : AreThosePairs d (pair_with first c ∷ map (pair_with first) more) told = rw also.1 at are in
      let others : List Pair = here.0 in (
        others,
        with_failing first fails changes more others those here.1,
        elim here.2 [
          | inl frees ↦ inl ((fails, also.0, frees.0), frees.1)
          | inr never ↦ inr (λ both. never.0 both.2, never.1)
        ],
      )
  with_failing first fails (c ∷ changes) rest told (more, those, inr never) are =
      (told, with_failing first fails changes more told those (rw never.1 at are), inr (λ both. never.0 both.1, refl))

  -- with a first change that does there is none
  none_with : (first : Change) → (FailsAlone d first → ⊥) → (changes : List Change) → AreThose (FreesTogether d) (map (pair_with first) changes) []
  none_with first never [] = refl
  none_with first never (c ∷ changes) = ([], none_with first never changes, inr (λ both. never both.0, refl))

  -- of all changes those pairs, which are told of the changes that do not free it alone
  pub only_together : (changes rest : List Change) (told : List Pair) → AreThose (FailsAlone d) changes rest → AreThosePairs d (pairs_of rest) told
      → AreThose (FreesTogether d) (pairs_of changes) told
  only_together [] rest told none are = rw none at are
  only_together (c ∷ changes) rest told (more, those, inl fails) are =
      let here : AreThosePairs d (map (pair_with c) more ++ pairs_of more) told = rw fails.1 at are in
      let both = parted (FreesBoth d) (map (pair_with c) more) (pairs_of more) told here in
      subst (AreThose (FreesTogether d) (map (pair_with c) changes ++ pairs_of changes)) (sym both.4)
      (joined (FreesTogether d) (map (pair_with c) changes) (pairs_of changes) both.0 both.1 (with_failing c fails.0 changes more both.0 those both.2)
      (only_together changes more both.1 those both.3))
  only_together (c ∷ changes) rest told (more, those, inr never) are =
      joined (FreesTogether d) (map (pair_with c) changes) (pairs_of changes) [] told (none_with c never.0 changes) (only_together changes more told those (rw never.1 at are))
