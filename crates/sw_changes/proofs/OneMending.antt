-- A network has one mending, and that one text and one status.
use Rattle.std.proofs.Common.{◌≡◌, ◌∙◌, ℕ, Bool, Global, List, Option, Some, None, Vec, [], ◌∷◌, ap, is_some, length, refl, sym}
use Rattle.std.specs.Prelude.{◌==◌, ◌++◌, ◌&&◌, ◌||◌, IfSome, flat_map, if◌then◌else◌}
use Rattle.std.specs.Option.{option_map, option_map_or}
use Rattle.std.proofs.lemmas.Bool.{false≢true}
use Rattle.sw_config.specs.Entries.{Declaration}
use Rattle.sw_mend.specs.LimitingLaws.{LimitingsAreDetermined}
use Rattle.sw_mend.specs.Limitings.{Limiting}
use Rattle.sw_mend.specs.Laws.{MendsAreDetermined, PairsAreDetermined, UnitMendsAreDetermined}
use Rattle.sw_mend.specs.Mends.{ArePairMends}
use Rattle.sw_mend.specs.declared.change.Pair.{Pair}
use Rattle.sw_mend.specs.declared.change.Trial.{Trial}
use Rattle.sw_output.specs.Lines.{line}
use Rattle.sw_output.specs.VerdictTexts.{misrouted_words}
use Rattle.sw_search.specs.Laws.{VerdictsAreDetermined}
use Rattle.sw_search.specs.declared.verdict.Verdict.TheVariants as verdict
use Rattle.sw_changes.specs.declared.mending.Cures.{Cures}
use Rattle.sw_changes.specs.declared.mending.Mending.{Mending}
use Rattle.sw_changes.specs.declared.mending.Mending.TheVariants.{Misrouted, Free, Cyclic}
use Rattle.sw_changes.specs.MendLaws.{AreSameCures, IsSameMending, MendingsAreDetermined}
use Rattle.sw_changes.specs.MendTexts.{cures_text, has_some, is_cured, limiting_lines, mend_line, mending_status, mending_text, no_pair_line, none_line, pair_line, told_pairs}
use Rattle.sw_changes.specs.Mendings.{AreCures}

-- ---- what frees it

abbrev items : Vec Pair Global → List Pair
items told = told.items

-- the pairs are the same, where both were looked for or neither
one_list : PairsAreDetermined → (d : Declaration) (p q : Option (Vec Pair Global)) → is_some p ≡ is_some q → IfSome p (λ told. ArePairMends d told.items) → IfSome q (λ told. ArePairMends d told.items)
    → option_map items p ≡ option_map items q
one_list doubles d (Some p) (Some q) same h k = ap Some (doubles d p.items q.items h k)
one_list doubles d (Some p) None same h k = absurd (false≢true (sym same))
one_list doubles d None (Some q) same h k = absurd (false≢true same)
one_list doubles d None None same h k = refl

one_cures : LimitingsAreDetermined → MendsAreDetermined → UnitMendsAreDetermined → PairsAreDetermined → (pairs : Bool) (d : Declaration) (a b : Cures) → AreCures pairs d a → AreCures pairs d b → AreSameCures a b
one_cures limitings singles units doubles pairs d a b h k =
    let changes = singles d a.changes.items b.changes.items h.changes k.changes in
    let looked_for : is_some a.pairs ≡ is_some b.pairs =
    h.looked_for ∙ ap (λ (l : List Trial). pairs && length l == 0) changes ∙ sym k.looked_for in
    record {
      limiting = limitings d a.limiting b.limiting h.limiting k.limiting;
      changes = changes;
      units = units d a.units.items b.units.items h.units k.units;
      pairs = one_list doubles d a.pairs b.pairs looked_for h.pairs k.pairs;
    }

pub one_mending : LimitingsAreDetermined → MendsAreDetermined → UnitMendsAreDetermined → PairsAreDetermined → VerdictsAreDetermined → MendingsAreDetermined
one_mending limitings singles units doubles verdicts pairs d (Misrouted i p fault) (Misrouted j q other) h k =
    verdicts d (verdict.Misrouted i p fault) (verdict.Misrouted j q other) h k
one_mending limitings singles units doubles verdicts pairs d (Misrouted i p fault) Free h k = absurd (verdicts d (verdict.Misrouted i p fault) (verdict.Free k.0) h k.1)
one_mending limitings singles units doubles verdicts pairs d (Misrouted i p fault) (Cyclic other) h k =
    absurd (verdicts d (verdict.Misrouted i p fault) (verdict.Cyclic k.0.0) h k.0.1)
one_mending limitings singles units doubles verdicts pairs d Free (Misrouted j q other) h k = absurd (verdicts d (verdict.Free h.0) (verdict.Misrouted j q other) h.1 k)
one_mending limitings singles units doubles verdicts pairs d Free Free h k = tt
one_mending limitings singles units doubles verdicts pairs d Free (Cyclic other) h k = absurd (verdicts d (verdict.Free h.0) (verdict.Cyclic k.0.0) h.1 k.0.1)
one_mending limitings singles units doubles verdicts pairs d (Cyclic cures) (Misrouted j q other) h k =
    absurd (verdicts d (verdict.Cyclic h.0.0) (verdict.Misrouted j q other) h.0.1 k)
one_mending limitings singles units doubles verdicts pairs d (Cyclic cures) Free h k = absurd (verdicts d (verdict.Cyclic h.0.0) (verdict.Free k.0) h.0.1 k.1)
one_mending limitings singles units doubles verdicts pairs d (Cyclic cures) (Cyclic other) h k = one_cures limitings singles units doubles pairs d cures other h.1 k.1

-- ---- what is told of it

-- the pairs that are told, and whether they were looked for
told_of : (p : Option (Vec Pair Global)) → option_map_or items p [] ≡ option_map_or (λ (l : List Pair). l) (option_map items p) []
told_of (Some p) = refl
told_of None = refl

looked_of : (p : Option (Vec Pair Global)) → is_some p ≡ is_some (option_map items p)
looked_of (Some p) = refl
looked_of None = refl

pub same_pairs : (a b : Cures) → AreSameCures a b → told_pairs a ≡ told_pairs b
same_pairs a b same = told_of a.pairs ∙ ap (λ (o : Option (List Pair)). option_map_or (λ (l : List Pair). l) o []) same.pairs ∙ sym (told_of b.pairs)

same_looked : (a b : Cures) → AreSameCures a b → is_some a.pairs ≡ is_some b.pairs
same_looked a b same = looked_of a.pairs ∙ ap (λ (o : Option (List Pair)). is_some o) same.pairs ∙ sym (looked_of b.pairs)

abbrev is_any : Option Limiting → List Trial → List Pair → List Trial → Bool
is_any limiting changes pairs units = is_some limiting || has_some changes || has_some pairs || has_some units

abbrev text_of : Declaration → Option Limiting → List Trial → List Pair → List Trial → Bool → List ℕ
text_of d limiting changes pairs units looked_for =
    if is_any limiting changes pairs units
    then limiting_lines d limiting ++ (flat_map (mend_line d) changes ++ (flat_map (pair_line d) pairs ++ flat_map (mend_line d) units))
    else if looked_for then no_pair_line else none_line

same_text : (d : Declaration) (a b : Cures) → AreSameCures a b → cures_text d a ≡ cures_text d b
same_text d a b same =
    let pairs = same_pairs a b same in
    let looked_for = same_looked a b same in
    λ t. text_of d (same.limiting t) (same.changes t) (pairs t) (same.units t) (looked_for t)

same_status : (a b : Cures) → AreSameCures a b → is_cured a ≡ is_cured b
same_status a b same =
    let pairs = same_pairs a b same in
    λ t. is_any (same.limiting t) (same.changes t) (pairs t) (same.units t)

pub one_text : (d : Declaration) (m n : Mending) → IsSameMending m n → mending_text d m ≡ mending_text d n
one_text d (Misrouted i p fault) (Misrouted j q other) same = λ t. line (misrouted_words d (same.0 t) (same.1 t) (same.2 t) ∷ [])
one_text d Free Free same = refl
one_text d (Cyclic cures) (Cyclic other) same = same_text d cures other same
one_text d m n same = absurd same

pub one_status : (m n : Mending) → IsSameMending m n → mending_status m ≡ mending_status n
one_status (Misrouted i p fault) (Misrouted j q other) same = refl
one_status Free Free same = refl
one_status (Cyclic cures) (Cyclic other) same = ap (λ (b : Bool). if b then 0 else 1) (same_status cures other same)
one_status m n same = absurd same
