-- The way of a flow, and what waits on it.
use Rattle.std.proofs.Common.{◌≡◌, Bool, true, false, ◌&&◌, ℕ, zero, suc, ◌+◌, ◌-◌, ◌*◌, ◌<◌, List, [], ◌∷◌, ◌++◌, length, map, All, Contains, Option, Some, None, refl, sym, ap, ◌∙◌, arith, append_assoc}
use Rattle.std.specs.Prelude.{slice_get, if◌then◌else◌}
use Rattle.std.specs.List.{AllByRecursion, list_all}
use Rattle.std.specs.Option.{option_map_or}
use Rattle.std.proofs.lemmas.List.Elements.{All-from_recursion}
use Rattle.std.proofs.lemmas.Option.{get_or_from_slice_get, slice_get_within}
use Rattle.sw_topo.specs.Wiring.{out, partner}
use Rattle.sw_topo.proofs.Ends.{node_starts, port_starts}
use Rattle.sw_config.specs.Entries.{FlowEntry, Declaration, wiring_of}
use Rattle.sw_config.proofs.Steps.{length-link_ends}
use Rattle.sw_flow.specs.declared.place.Place.{Place}
use Rattle.sw_flow.specs.Followers.{followers_of}
use Rattle.sw_flow.specs.Places.{ends_of}
use Rattle.sw_flow.proofs.Walked.{followers_are_listed}
use Rattle.sw_margin.specs.Bends.{answered, answering, first_way, goes_on_to_one, goes_one_way, is_just_enough, stall, start_on, waits_back, way_of}
use Rattle.sw_margin.specs.Waits.{IsWithin}
use Rattle.sw_flow.proofs.Partners.{partner_within}

-- ---- channels of the network

pub channels_paired : (d : Declaration) → length (ends_of d) ≡ 2 * length d.links
channels_paired d = length-link_ends d.links

pub out_within : (d : Declaration) (n c : ℕ) → out (ends_of d) n ≡ Some c → c < length (ends_of d)
out_within d n c e = slice_get_within (ends_of d) c _ (node_starts (wiring_of d) n c e)

pub follower_within : (d : Declaration) (f : FlowEntry) (c k : ℕ) (p : Place) → Contains (followers_of d f c k) p → p.channel < length (ends_of d)
follower_within d f c k p h =
    let step = (followers_are_listed d f c k p).0 h in
    slice_get_within (ends_of d) p.channel _ (port_starts (wiring_of d) step.switch step.named.port p.channel step.named.linked)

and_true : (b : Bool) → (b && true) ≡ b
and_true true = refl
and_true false = refl

module _ (d : Declaration) (f : FlowEntry) where
  abbrev channels : List Place → List ℕ
  channels ps = map (λ (p : Place). p.channel) ps

  abbrev first_of : Place → Option Place
  first_of p = slice_get (followers_of d f p.channel p.deleted) 0

  first_within : (p q : Place) → first_of p ≡ Some q → q.channel < length (ends_of d)
  first_within p q e =
      let fs = followers_of d f p.channel p.deleted in
      follower_within d f p.channel p.deleted q (0, slice_get_within fs 0 q e, get_or_from_slice_get fs 0 q q e)

  -- ---- the way, step by step

  -- from there on nothing follows
  pub ended : (n : ℕ) (p : Place) → first_of p ≡ None → first_way d f n p ≡ []
  ended zero p none = refl
  ended (suc n) p none = ap (λ (o : Option Place). option_map_or (λ q. q ∷ first_way d f n q) o []) none

  goes_on : (n : ℕ) (p q : Place) → first_of p ≡ Some q → first_way d f (suc n) p ≡ q ∷ first_way d f n q
  goes_on n p q some = ap (λ (o : Option Place). option_map_or (λ x. x ∷ first_way d f n x) o []) some

  -- what waits from that place on
  abbrev pub waits_from : ℕ → Place → List (ℕ × ℕ)
  waits_from n p = waits_back (channels (p ∷ first_way d f n p))

  pub waits_begun : (p : Place) → out (ends_of d) f.from ≡ Some p.channel → p.deleted ≡ 0 → answering d f ≡ waits_from (length (ends_of d)) p
  waits_begun p starts whole =
      let at : start_on p.channel ≡ p = λ i. record { channel = p.channel; deleted = (sym whole) i } in
      let way : way_of d f ≡ start_on p.channel ∷ first_way d f (length (ends_of d)) (start_on p.channel) =
      ap (λ (o : Option ℕ). option_map_or (λ c. start_on c ∷ first_way d f (length (ends_of d)) (start_on c)) o []) starts in
      ap (λ (ps : List Place). waits_back (channels ps)) way ∙ ap (λ (q : Place). waits_from (length (ends_of d)) q) at

  pub waits_ended : (n : ℕ) (p : Place) → first_of p ≡ None → waits_from n p ≡ (p.channel, partner p.channel) ∷ []
  waits_ended n p none = ap (λ (ps : List Place). waits_back (channels (p ∷ ps))) (ended n p none)

  -- one step
  pub waits_more : (total i : ℕ) (p q : Place) (old before after : List (ℕ × ℕ)) → i < total → first_of p ≡ Some q → before ++ waits_from (total - i) p ≡ old ++ answering d f
      → after ≡ before ++ (partner q.channel, partner p.channel) ∷ [] → after ++ waits_from (total - (i + 1)) q ≡ old ++ answering d f
  waits_more total i p q old before after lt some so_far more =
      let n : ℕ = total - (i + 1) in
      let count : total - i ≡ suc n = omega arith in
      let w : ℕ × ℕ = (partner q.channel, partner p.channel) in
      let one : waits_from (suc n) p ≡ w ∷ waits_from n q = ap (λ (ps : List Place). waits_back (channels (p ∷ ps))) (goes_on n p q some) in
      let here : before ++ waits_from (total - i) p ≡ before ++ (w ∷ waits_from n q) = ap (λ k. before ++ waits_from k p) count ∙ ap (λ (l : List (ℕ × ℕ)). before ++ l) one in
      ap (λ (l : List (ℕ × ℕ)). l ++ waits_from n q) more ∙ append_assoc before (w ∷ []) (waits_from n q) ∙ sym here ∙ so_far

  -- ---- whether it goes one way

  abbrev alone : Place → Bool
  alone = goes_on_to_one d f

  -- so it does from that place on
  abbrev pub alone_from : ℕ → Place → Bool
  alone_from n p = list_all alone (p ∷ first_way d f n p)

  pub alone_begun : (p : Place) → out (ends_of d) f.from ≡ Some p.channel → p.deleted ≡ 0 → alone_from (length (ends_of d)) p ≡ goes_one_way d f
  alone_begun p starts whole =
      let at : start_on p.channel ≡ p = λ i. record { channel = p.channel; deleted = (sym whole) i } in
      let way : way_of d f ≡ start_on p.channel ∷ first_way d f (length (ends_of d)) (start_on p.channel) =
      ap (λ (o : Option ℕ). option_map_or (λ c. start_on c ∷ first_way d f (length (ends_of d)) (start_on c)) o []) starts in
      sym (ap (list_all alone) way ∙ ap (alone_from (length (ends_of d))) at)

  -- one step
  pub alone_more : (total i : ℕ) (p q : Place) (w : Bool) → i < total → alone p ≡ true → first_of p ≡ Some q → alone_from (total - i) p ≡ w → alone_from (total - (i + 1)) q ≡ w
  alone_more total i p q w lt one some so_far =
      let n : ℕ = total - (i + 1) in
      let count : total - i ≡ suc n = omega arith in
      let here : alone_from (suc n) p ≡ alone_from n q = ap (λ b. b && list_all alone (first_way d f (suc n) p)) one ∙ ap (list_all alone) (goes_on n p q some) in
      sym here ∙ ap (λ k. alone_from k p) (sym count) ∙ so_far

  -- the way ends there
  pub alone_ended : (n : ℕ) (p : Place) → alone p ≡ true → first_of p ≡ None → alone_from n p ≡ true
  alone_ended n p one none = ap (λ b. b && list_all alone (first_way d f n p)) one ∙ ap (list_all alone) (ended n p none)

  pub alone_last : (p : Place) → alone_from 0 p ≡ alone p
  alone_last p = and_true (alone p)

  -- several places follow
  pub not_alone : (n : ℕ) (p : Place) → alone p ≡ false → alone_from n p ≡ false
  not_alone n p several = ap (λ b. b && list_all alone (first_way d f n p)) several

  -- where it starts, too
  pub with_stall : (old after : List (ℕ × ℕ)) (w : ℕ × ℕ) → is_just_enough d f.from ≡ true → old ≡ answering d f → stall d f.from ≡ w ∷ [] → after ≡ old ++ w ∷ [] → after ≡ answered d f
  with_stall old after w enough before one more =
      more ∙ (λ i. before i ++ sym one i) ∙ ap (λ b. answering d f ++ (if b then stall d f.from else [])) (sym enough)

  -- ---- where the waits are

  way_within : (n : ℕ) (p : Place) → AllByRecursion (λ c. c < length (ends_of d)) (channels (first_way d f n p))
  way_within zero p = tt
  way_within (suc n) p = by (first_of p) refl (way_within n)
    where
      by : (o : Option Place) → first_of p ≡ o → ((q : Place) → AllByRecursion (λ c. c < length (ends_of d)) (channels (first_way d f n q)))
          → AllByRecursion (λ c. c < length (ends_of d)) (channels (option_map_or (λ q. q ∷ first_way d f n q) o []))
      by None e rest = tt
      by (Some q) e rest = (first_within p q e, rest q)

  back_within : (cs : List ℕ) → AllByRecursion (λ c. c < length (ends_of d)) cs → AllByRecursion (IsWithin (length (ends_of d))) (waits_back cs)
  back_within [] all = tt
  back_within (c ∷ []) all = (record { from = all.0; to = partner_within d c all.0 }, tt)
  back_within (c ∷ e ∷ cs) all = (record { from = partner_within d e all.1.0; to = partner_within d c all.0 }, back_within (e ∷ cs) all.1)

  pub answering_within : All (IsWithin (length (ends_of d))) (answering d f)
  answering_within = All-from_recursion (IsWithin (length (ends_of d))) (answering d f) (back_within (channels (way_of d f)) (by (out (ends_of d) f.from) refl))
    where
      by : (o : Option ℕ) → out (ends_of d) f.from ≡ o
          → AllByRecursion (λ c. c < length (ends_of d)) (channels (option_map_or (λ c. start_on c ∷ first_way d f (length (ends_of d)) (start_on c)) o []))
      by None e = tt
      by (Some c) e = (out_within d f.from c e, way_within (length (ends_of d)) (start_on c))
