-- What is taken away for one number: of a flow, of a unit, and of the replies of several flows.
use Rattle.std.proofs.Common.{◌≡◌, ◌∙◌, ◌+◌, ◌<◌, ℕ, Bool, true, false, List, [], ◌∷◌, ◌++◌, Some, ap, arith, inl, inr, length, refl, subst, sym, take}
use Rattle.std.specs.Prelude.{OnOk, Result, count_by, if◌then◌else◌, slice_get}
use Rattle.std.specs.declared.alloc.AllocError.{AllocError}
use Rattle.std.proofs.lemmas.List.Sums.{count_by_more_no, count_by_more_yes}
use Rattle.std.proofs.lemmas.Option.{get_or_from_slice_get, slice_get_cases, slice_get_within}
use Rattle.std.proofs.lemmas.Result.{IfOk-weaker}
use Rattle.sw_config.specs.Entries.{Declaration, FlowEntry, all_flows, reply_flows}
use Rattle.sw_topo.proofs.Lists.{in_front}
use Rattle.sw_mend.specs.Changes.{flow_away, flows_away, is_first_of_several, made_at, replies_away}
use Rattle.sw_mend.specs.Kinds.{away_at, count_of}
use Rattle.sw_mend.specs.declared.change.Change.{Change}
use Rattle.sw_mend.specs.declared.change.Change.TheVariants.{WithoutFlow, WithoutFlowsOf, WithoutReplies}
use Rattle.sw_mend.specs.declared.listing.Kind.{Kind}
use Rattle.sw_mend.specs.declared.listing.Kind.TheVariants as kinds
use Rattle.sw_mend.proofs.Numbered.{at_number}

-- ---- how many of a list pass a test, with one more

module _ {A : Type 0} (test : A → Bool) (xs : List A) (i : ℕ) (x : A) (b : Bool) (count : ℕ) (here : slice_get xs i ≡ Some x) (is : b ≡ test x) (so_far : count ≡ count_by test (take i xs)) where
  pub not_counted : b ≡ false → count ≡ count_by test (take (i + 1) xs)
  not_counted fails = so_far ∙ sym (count_by_more_no test xs i x (slice_get_within xs i x here) (ap test (get_or_from_slice_get xs i x x here) ∙ sym is ∙ fails))

  pub counted : b ≡ true → count + 1 ≡ count_by test (take (i + 1) xs)
  counted passes =
      ap (λ n. n + 1) so_far ∙ sym (count_by_more_yes test xs i x (slice_get_within xs i x here) (ap test (get_or_from_slice_get xs i x x here) ∙ sym is ∙ passes))

-- ---- what is added for a number

-- where the number alone decides
made_within : {A B : Type 0} (make : ℕ → A → List B) (here : List B) (xs : List A) (i : ℕ) → i < length xs → ((x : A) → here ≡ make i x) → here ≡ made_at make xs i
made_within make here xs i lt is =
    elim (slice_get_cases xs i).1 [
      | inl found ↦ is found.0 ∙ sym (at_number make i xs found.0 found.2)
      | inr past ↦ absurd (omega (arith, past.0, lt))
    ]

module _ (d : Declaration) (kind : Kind) (n : ℕ) (r : Result (Unit {0}) AllocError) (old now : List Change) (lt : n < count_of d kind) where
  added_at : (known : Kind) (here : List Change) → kind ≡ known → here ≡ away_at d known n → OnOk r (now ≡ old ++ here) → OnOk r (now ≡ old ++ away_at d kind n)
  added_at known here is same h =
      IfOk-weaker r (λ _. now ≡ old ++ here) (λ _. now ≡ old ++ away_at d kind n)
      (λ _ told. told ∙ ap (λ (l : List Change). old ++ l) (same ∙ ap (λ (k : Kind). away_at d k n) (sym is))) h

  within : (known : Kind) → kind ≡ known → n < count_of d known
  within known is = subst (λ (k : Kind). n < count_of d k) is lt

  pub flow_added : kind ≡ kinds.Flow → OnOk r (now ≡ old ++ WithoutFlow n ∷ []) → OnOk r (now ≡ old ++ away_at d kind n)
  flow_added is = added_at kinds.Flow (WithoutFlow n ∷ []) is (made_within flow_away (WithoutFlow n ∷ []) d.flows n (within kinds.Flow is) (λ x. refl))

  pub unit_added : kind ≡ kinds.Unit → OnOk r (now ≡ old ++ WithoutFlowsOf n ∷ []) → OnOk r (now ≡ old ++ away_at d kind n)
  unit_added is = added_at kinds.Unit (WithoutFlowsOf n ∷ []) is (made_within flows_away (WithoutFlowsOf n ∷ []) d.nodes n (within kinds.Unit is) (λ x. refl))

  pub replies_added : kind ≡ kinds.Replies → (f : FlowEntry) (first : Bool) (from to : ℕ) → slice_get (all_flows d) n ≡ Some f → first ≡ is_first_of_several d.flows n f
      → from ≡ f.from → to ≡ f.to → OnOk r (now ≡ old ++ (if first then WithoutReplies from to ∷ [] else [])) → OnOk r (now ≡ old ++ away_at d kind n)
  replies_added is f first from to here first_is from_is to_is =
      let there : slice_get d.flows n ≡ Some f = in_front d.flows (reply_flows d.flows) n f (within kinds.Replies is) here in
      added_at kinds.Replies (if first then WithoutReplies from to ∷ [] else []) is
      ((λ t. if first_is t then WithoutReplies (from_is t) (to_is t) ∷ [] else []) ∙ sym (at_number (replies_away d.flows) n d.flows f there))
