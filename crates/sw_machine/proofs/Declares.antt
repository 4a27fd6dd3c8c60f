-- The packets that a file's flow declares are those that the machine's flow declares.
use Rattle.std.proofs.Common.{◌≡◌, ◌↔◌, ◌<◌, ◌++◌, ℕ, List, length, Option, Some, None, inl, inr, refl, sym, ap, subst, ◌∙◌}
use Rattle.std.specs.Prelude.{slice_get, option_map, is_some, if◌then◌else◌}
use Rattle.std.proofs.lemmas.Option.{same_Some, slice_get_within}
use Rattle.sw_rmap.specs.declared.config.TargetConfig.{TargetConfig}
use Rattle.sw_rmap.specs.Replies.{reply_to}
use Rattle.sw_flow.specs.Entries.{Declaration, FlowEntry, NodeEntry, ReplyEntry, all_flows, reply_flows, target_of}
use Rattle.sw_flow.proofs.FlowLaws.{follow_in_order}
use Rattle.sw_machine.specs.DeclaredPackets.{IsCommandIfLimited, IsDeclaredPacket, IsRightWay, reply_address, reply_from}
use Rattle.sw_machine.specs.DeclaredPackets as file
use Rattle.sw_machine.specs.Network.{AnsweredBy, IsDeclared, left_bytes}
use Rattle.sw_machine.specs.Model.{network_of, reply_number}
use Rattle.sw_machine.specs.Rmap.{answered_to}
use Rattle.sw_machine.proofs.Flows.{flow_at, some_at, slice_get-append_left}

-- what a node answers
same_way : (nodes : List NodeEntry) (n : ℕ) (bytes : List ℕ) → reply_from nodes n bytes ≡ answered_to (target_of nodes n) bytes
same_way nodes n bytes = by (target_of nodes n)
  where
    by : (o : Option TargetConfig) → (if is_some o then reply_to bytes else None) ≡ answered_to o bytes
    by None = refl
    by (Some t) = refl

module _ (d : Declaration) (f : ℕ) (e : FlowEntry) (at : slice_get d.flows f ≡ Some e) where
  declared : f < length d.flows
  declared = slice_get_within d.flows f e at

  here : slice_get (all_flows d) f ≡ Some e
  here = slice_get-append_left d.flows (reply_flows d.flows) f declared ∙ at

  -- the reply flow's address
  replied : (r : ReplyEntry) → e.reply ≡ Some r → (flow_at d (reply_number d f)).address ≡ reply_address r
  replied r has = rw (follow_in_order d f e r at has) refl

  numbered : (flow_at d f).reply ≡ option_map (λ r. reply_number d f) e.reply
  numbered = rw here refl

  answers : (way : Option (List ℕ)) (o : Option ReplyEntry) → e.reply ≡ o → IsRightWay way o → AnsweredBy (network_of d) f way
  unfolding network_of
  answers None o has right = tt
  answers (Some a) None has (inl bad) = absurd cc
  answers (Some a) None has (inr bad) = absurd cc
  answers (Some a) (Some r) has (inl bad) = absurd cc
  answers (Some a) (Some r) has (inr is) =
      let same : a ≡ reply_address r = cc in
      (reply_number d f, numbered ∙ ap (option_map (λ r. reply_number d f)) has, replied r has ∙ sym same)

  goes_right : (way : Option (List ℕ)) (o : Option ReplyEntry) → e.reply ≡ o → AnsweredBy (network_of d) f way → IsRightWay way o
  unfolding network_of
  goes_right None o has h = inl refl
  goes_right (Some a) None has h =
      let bad : None ≡ Some h.0 = sym (numbered ∙ ap (option_map (λ r. reply_number d f)) has) ∙ h.1 in
      absurd cc
  goes_right (Some a) (Some r) has h =
      let is : Some (reply_number d f) ≡ Some h.0 = sym (numbered ∙ ap (option_map (λ r. reply_number d f)) has) ∙ h.1 in
      let number : reply_number d f ≡ h.0 = cc in
      inr (ap Some (sym h.2 ∙ ap (λ (j : ℕ). (flow_at d j).address) (sym number) ∙ replied r has))

  -- the replies that the machine's node gives are those that the file's gives
  same_reply : (cargo : List ℕ) → (network_of d).reply_to ((network_of d).flow f).to (left_bytes (network_of d) f cargo) ≡ reply_from d.nodes e.to (file.left_bytes e ++ cargo)
  unfolding network_of
  same_reply cargo = rw here (sym (same_way d.nodes e.to (file.left_bytes e ++ cargo)))

  pub is_declared : (cargo : List ℕ) → IsDeclaredPacket d f cargo → IsDeclared (network_of d) f cargo
  unfolding network_of
  is_declared cargo p =
      let is : p.entry ≡ e = same_Some p.entry e (sym p.declared ∙ at) in
      record {
        declared = declared;
        some_cargo = p.some;
        within = p.few;
        answered = subst (AnsweredBy (network_of d) f) (sym (same_reply cargo)) (answers (reply_from d.nodes e.to (file.left_bytes e ++ cargo)) e.reply refl (rw is at p.answered));
        command = λ limited. ap (λ (o : Option (List ℕ)). is_some o) (same_reply cargo) ∙ subst (λ (x : FlowEntry). IsCommandIfLimited d.nodes x cargo) is p.command (rw here at limited);
      }

  pub is_packet : (cargo : List ℕ) → IsDeclared (network_of d) f cargo → IsDeclaredPacket d f cargo
  unfolding network_of
  is_packet cargo p = record {
    entry = e;
    declared = at;
    some = p.some_cargo;
    few = p.within;
    answered = goes_right (reply_from d.nodes e.to (file.left_bytes e ++ cargo)) e.reply refl (subst (AnsweredBy (network_of d) f) (same_reply cargo) p.answered);
    command = λ limited. sym (ap (λ (o : Option (List ℕ)). is_some o) (same_reply cargo)) ∙ p.command (rw here limited);
  }

declared_flow : (d : Declaration) (f : ℕ) (cargo : List ℕ) → IsDeclared (network_of d) f cargo → f < length d.flows
unfolding network_of
declared_flow d f cargo p = p.declared

pub declared_are_declared : (d : Declaration) (f : ℕ) (cargo : List ℕ) → IsDeclaredPacket d f cargo ↔ IsDeclared (network_of d) f cargo
declared_are_declared d f cargo = (
  λ p. is_declared d f p.entry p.declared cargo p,
  λ p. let e = some_at d.flows f (declared_flow d f cargo p) in is_packet d f e.0 e.1 cargo p,
)
