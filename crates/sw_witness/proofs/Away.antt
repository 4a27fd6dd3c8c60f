-- Replies taken away one after another, and whether the network is free without them.
use Rattle.std.proofs.Common.{◌≡◌, ◌↔◌, ℕ, ◌+◌, ◌<◌, List, [], ◌∷◌, ◌++◌, append-nil, length, map, take, ◌==◌, Bool, false, true, IsTrue, refl, sym, ap, ◌∙◌, subst}
use Rattle.std.specs.Prelude.{Some, if◌then◌else◌, slice_get, slice_index}
use Rattle.std.proofs.lemmas.Bool.{eq-eqb, eqb-true, false≢true}
use Rattle.std.proofs.lemmas.List.{map_more, nil_from_length}
use Rattle.sw_route.specs.declared.look.Route.{Route}
use Rattle.sw_config.specs.Entries.{Declaration, FlowEntry, SwitchEntry}
use Rattle.sw_config.specs.Limits.{HasNoLimits}
use Rattle.sw_mend.proofs.Numbered.{at_number, grown_at}
use Rattle.sw_mend.specs.Changes.{by_number, changed, changed_by_all, flow_after_all, flow_kept, made_at, route_after_all, switch_after, switch_after_all}
use Rattle.sw_mend.specs.declared.change.Change.{Change}
use Rattle.sw_mend.specs.declared.change.Change.TheVariants.{WithoutReply}
use Rattle.sw_search.specs.Laws.{RoutedAndFree}
use Rattle.sw_witness.specs.Unanswered.{IsFreeWithout, can_not_be_answered, never_answered, number_if, without_replies}
use Rattle.sw_topo.proofs.Lists.{in_front}
use Rattle.sw_mend.proofs.AfterAll.{same_by_number}

-- what is made by a change that keeps each element, and then by others, is made at once
at_once : {A : Type 0} (kept : ℕ → A → A) (make : ℕ → A → List A) (n : ℕ) (xs : List A)
    → by_number (λ k (x : A). make k (kept k x) ++ []) n xs ≡ by_number make n (by_number (λ k (x : A). kept k x ∷ []) n xs)
at_once kept make n [] = refl
at_once kept make n (x ∷ xs) = λ t. append-nil (make n (kept n x)) t ++ at_once kept make (n + 1) xs t

tables_at_once : (flow : ℕ) (changes : List Change) (n : ℕ) (switches : List SwitchEntry)
    → by_number (switch_after_all (WithoutReply flow ∷ changes)) n switches ≡ by_number (switch_after_all changes) n (by_number (switch_after (WithoutReply flow)) n switches)
tables_at_once flow changes n [] = refl
tables_at_once flow changes n (s ∷ switches) =
    λ t. record s { routes = at_once (λ e (r : Route). record r { ports = r.ports }) (route_after_all changes n) 0 s.routes t } ∷ tables_at_once flow changes (n + 1) switches t

first_made : (d : Declaration) (flow : ℕ) (changes : List Change) → changed_by_all d (WithoutReply flow ∷ changes) ≡ changed_by_all (changed d (WithoutReply flow)) changes
first_made d flow changes = λ t. record d {
  switches = tables_at_once flow changes 0 d.switches t;
  flows = at_once (flow_kept (WithoutReply flow)) (flow_after_all changes) 0 d.flows t;
}

same_tables : (n : ℕ) (switches : List SwitchEntry) → by_number (switch_after_all []) n switches ≡ switches
same_tables n [] = refl
same_tables n (s ∷ switches) = λ t. record s { routes = same_by_number 0 s.routes t } ∷ same_tables (n + 1) switches t

-- all these replies taken away at once are taken away one after another
pub all_away : (d : Declaration) (flows : List ℕ) → changed_by_all d (map WithoutReply flows) ≡ without_replies d flows
all_away d [] = λ t. record d { switches = same_tables 0 d.switches t; flows = same_by_number 0 d.flows t }
all_away d (flow ∷ flows) = first_made d flow (map WithoutReply flows) ∙ all_away (changed d (WithoutReply flow)) flows

-- one more of the changes
pub one_more_change : (flows : List ℕ) (i : ℕ) (old new : List Change) → i < length flows → old ≡ map WithoutReply (take i flows)
    → new ≡ old ++ WithoutReply (slice_index flows i) ∷ [] → new ≡ map WithoutReply (take (i + 1) flows)
one_more_change flows i old new lt before more = more ∙ ap (λ l. l ++ WithoutReply (slice_index flows i) ∷ []) before ∙ sym (map_more WithoutReply flows i 0 lt)

-- without replies that can't happen there is nothing to take away
pub none_away : (d : Declaration) (flows : List ℕ) → (length flows == 0) ≡ true → flows ≡ never_answered d → IsTrue false ↔ IsFreeWithout d
none_away d flows none are = (λ never. absurd cc, λ free. absurd (free.some (sym are ∙ nil_from_length flows (eqb-true (length flows) 0 none))))

-- nor is anything told where commands are limited
pub limited_away : (d : Declaration) (b : Bool) → b ≡ false → IsTrue b ↔ HasNoLimits d → IsTrue false ↔ IsFreeWithout d
limited_away d b is limits = (λ never. absurd cc, λ free. absurd (false≢true (sym is ∙ limits.1 free.unlimited)))

pub is_free_without : (d left : Declaration) (flows : List ℕ) (answer : Bool) → (length flows == 0) ≡ false → HasNoLimits d → flows ≡ never_answered d
    → left ≡ changed_by_all d (map WithoutReply flows) → (IsTrue answer ↔ RoutedAndFree left) → IsTrue answer ↔ IsFreeWithout d
is_free_without d left flows answer some unlimited are away free =
    let found : left ≡ without_replies d (never_answered d) = away ∙ all_away d flows ∙ ap (without_replies d) are in (
      λ h. record {
        unlimited = unlimited;
        some = λ none. absurd (false≢true (sym some ∙ eq-eqb (length flows) 0 (ap length (are ∙ none))));
        free = subst RoutedAndFree found (free.0 h);
      },
      λ h. free.1 (subst RoutedAndFree (sym found) h.free),
    )

-- of one flow more: nothing where its replies can happen, else its number
module _ (flows more : List FlowEntry) (n : ℕ) (f : FlowEntry) (answer : Bool) (lt : n < length flows) (here : slice_get (flows ++ more) n ≡ Some f) (is : answer ≡ can_not_be_answered f) where
  made_here : (b : Bool) → answer ≡ b → made_at number_if flows n ≡ (if b then n ∷ [] else [])
  made_here b same = at_number number_if n flows f (in_front flows more n f lt here) ∙ ap (λ t. if t then n ∷ [] else []) (sym is ∙ same)

  pub number_left : (before : List ℕ) → answer ≡ false → before ≡ by_number number_if 0 (take n flows) → before ≡ by_number number_if 0 (take (n + 1) flows)
  number_left before none so_far = grown_at number_if [] before before n flows so_far (sym (append-nil before) ∙ ap (λ l. before ++ l) (sym (made_here false none)))

  pub number_pushed : (before after : List ℕ) → answer ≡ true → before ≡ by_number number_if 0 (take n flows) → after ≡ before ++ n ∷ []
      → after ≡ by_number number_if 0 (take (n + 1) flows)
  number_pushed before after never so_far push = grown_at number_if [] before after n flows so_far (push ∙ ap (λ l. before ++ l) (sym (made_here true never)))
