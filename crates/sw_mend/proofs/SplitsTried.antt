-- The splits that are tried, in words.
use Rattle.std.proofs.Common.{◌≡◌, ◌≢◌, ℕ, zero, suc, ◌+◌, ◌*◌, ◌<◌, ◌≤◌, ◌&&◌, true, false, not, eqb, List, [], ◌∷◌, length, Contains, Option, Some, None, is_some, option_map, ap, arith, inl, inr, refl, subst, sym, ◌∙◌}
use Rattle.std.specs.Prelude.{option_and_then, slice_get, unwrap_or, if◌then◌else◌}
use Rattle.std.specs.Option.{option_to_list}
use Rattle.std.proofs.lemmas.Bool.{and_parts, false≢true, ne_eqb}
use Rattle.std.proofs.lemmas.Option.{get_or_from_slice_get, none-some, slice_get_cases, slice_get_within}
use Rattle.sw_topo.specs.declared.place.PlaceEnd.{PlaceEnd}
use Rattle.sw_topo.specs.declared.place.PlaceEnd.TheVariants.{Switch}
use Rattle.sw_topo.specs.Wiring.{out, out_of, partner}
use Rattle.sw_topo.specs.Checked.{first_below}
use Rattle.sw_topo.proofs.Converse.{first_is_least}
use Rattle.sw_topo.proofs.Ends.{node_only, node_starts}
use Rattle.sw_config.specs.Entries.{LinkEntry, NodeEntry, Declaration, capacities, link_ends, wiring_of}
use Rattle.sw_config.specs.Valid.{IsValid}
use Rattle.sw_config.proofs.Steps.{length-link_ends}
use Rattle.sw_flow.specs.Places.{ends_of, end_of, out_at}
use Rattle.sw_flow.proofs.Listed.{Contains-head}
use Rattle.sw_flow.proofs.Partners.{partner_within}
use Rattle.sw_mend.specs.Splits.{buffer_of, free_port_below, is_free_port, link_beside, own_links, splits, target_link}
use Rattle.sw_mend.specs.SplitLaws.{IsTried, SplitsInWords}
use Rattle.sw_mend.specs.declared.change.TargetLink.{TargetLink}
use Rattle.sw_mend.proofs.SplitLinks.{IsFound, found_in, made_in}
use Rattle.sw_mend.proofs.OneLinkMore.{out_is}

-- ---- free ports

none_of : {A : Type 0} (o : Option A) → not (is_some o) ≡ true → o ≡ None
none_of None is = refl
none_of (Some x) is = absurd (false≢true is)

some_of : {A : Type 0} (o : Option A) → not (is_some o) ≡ false → o ≢ None
some_of None is same = false≢true (sym is)
some_of (Some x) is same = none-some x (sym same)

of_none : {A : Type 0} (o : Option A) → o ≡ None → not (is_some o) ≡ true
of_none None same = refl
of_none (Some x) same = absurd (none-some x (sym same))

of_some : {A : Type 0} (o : Option A) → o ≢ None → not (is_some o) ≡ false
of_some None other = absurd (other refl)
of_some (Some x) other = refl

not_zero : (port : ℕ) → not (eqb port 0) ≡ true → 1 ≤ port
not_zero zero is = absurd (false≢true is)
not_zero (suc port) is = omega arith

some_zero : (port : ℕ) → 1 ≤ port → not (eqb port 0) ≡ true
some_zero port low = ap not (ne_eqb port 0 (λ e. omega (arith, low, e)))

-- the port is the least from 1 to 31 at which no link is
pub record IsLeastFree (ends : List PlaceEnd) (switch port : ℕ) : Type 0 where
  pub low : 1 ≤ port
  pub high : port < 32
  pub free : out_of ends switch port ≡ None
  pub least : (p : ℕ) → 1 ≤ p → p < port → out_of ends switch p ≢ None

pub least_free : (ends : List PlaceEnd) (switch port : ℕ) → first_below (is_free_port ends switch) 32 ≡ Some port → IsLeastFree ends switch port
least_free ends switch port is =
    let l = (first_is_least (is_free_port ends switch) 32 port).0 is in
    let both = and_parts (not (eqb port 0)) (not (is_some (out_of ends switch port))) l.passes in
    record {
      low = not_zero port both.0;
      high = l.within;
      free = none_of (out_of ends switch port) both.1;
      least = λ p low lt. some_of (out_of ends switch p) (ap (λ b. b && not (is_some (out_of ends switch p))) (sym (some_zero p low)) ∙ l.least p lt);
    }

free_least : (ends : List PlaceEnd) (switch port : ℕ) → IsLeastFree ends switch port → first_below (is_free_port ends switch) 32 ≡ Some port
free_least ends switch port is = (first_is_least (is_free_port ends switch) 32 port).1 (record {
  within = is.high;
  passes = λ t. some_zero port is.low t && of_none (out_of ends switch port) is.free t;
  least = below;
})
  where
    below : (p : ℕ) → p < port → is_free_port ends switch p ≡ false
    below zero lt = refl
    below (suc p) lt = λ t. some_zero (suc p) (omega arith) t && of_some (out_of ends switch (suc p)) (is.least (suc p) (omega arith) lt) t

-- ---- buffers

length-capacities : (links : List LinkEntry) → length (capacities links) ≡ 2 * length links
length-capacities [] = refl
length-capacities (l ∷ links) = omega (arith, length-capacities links)

module _ (d : Declaration) (link : TargetLink) (valid : IsValid d) where
  buffer_read : (c n : ℕ) → c < length (ends_of d) → buffer_of d.links c ≡ n → slice_get (capacities d.links) c ≡ Some n
  buffer_read c n lt is =
      let size : length (capacities d.links) ≡ length (ends_of d) = length-capacities d.links ∙ sym (length-link_ends d.links) in
      elim (slice_get_cases (capacities d.links) c).1 [
        | inl there ↦ there.2 ∙ ap Some (sym (get_or_from_slice_get (capacities d.links) c there.0 0 there.2) ∙ is)
        | inr past ↦ absurd (omega (arith, size, lt, past.0))
      ]

  read_buffer : (c n : ℕ) → slice_get (capacities d.links) c ≡ Some n → buffer_of d.links c ≡ n
  read_buffer c n at = get_or_from_slice_get (capacities d.links) c n 0 at

  -- ---- what is found is as it is told

  found_tried : IsFound d link → IsTried d link
  found_tried found =
      let port = least_free (ends_of d) link.switch link.port found.port in
      let out = out_is d link valid found in
      let within : found.channel < length (ends_of d) = slice_get_within (ends_of d) found.channel _ (node_starts (wiring_of d) link.node found.channel found.starts) in
      record {
        target = ap (λ (o : Option NodeEntry). is_some (option_and_then (λ (e : NodeEntry). e.target) o)) found.at ∙ found.target;
        answers = found.answers;
        leads = ap (end_of d) out ∙ found.leads;
        low = port.low;
        high = omega (arith, port.high);
        free = port.free;
        least = port.least;
        near = ap (λ c. slice_get (capacities d.links) (partner c)) out ∙ buffer_read (partner found.channel) link.near (partner_within d found.channel within) found.near;
        far = ap (slice_get (capacities d.links)) out ∙ buffer_read found.channel link.far within found.far;
      }

  -- ---- and what is so told is tried

  tried_listed : IsTried d link → Contains (splits d) link
  unfolding free_port_below
  tried_listed is = by (slice_get d.nodes link.node) refl
    where
      by : (o : Option NodeEntry) → slice_get d.nodes link.node ≡ o → Contains (splits d) link
      by None at = absurd (false≢true (sym (ap (λ (o : Option NodeEntry). is_some (option_and_then (λ (e : NodeEntry). e.target) o)) at) ∙ is.target))
      by (Some entry) at =
          let linked = node_only (wiring_of d) valid.sound link.node (slice_get_within d.nodes link.node entry at) in
          let channel : ℕ = linked.0 in
          let first : out (link_ends d.links) link.node ≡ Some channel = (linked.1).first in
          let out_same : out_at d link.node ≡ channel = ap (λ o. unwrap_or o 0) first in
          let ends : slice_get (link_ends d.links) (partner channel) ≡ Some (Switch link.switch link.beside) = ap (end_of d) (sym out_same) ∙ is.leads in
          let near : buffer_of d.links (partner channel) ≡ link.near = read_buffer (partner channel) link.near (ap (λ c. slice_get (capacities d.links) (partner c)) (sym out_same) ∙ is.near) in
          let far : buffer_of d.links channel ≡ link.far = read_buffer channel link.far (ap (slice_get (capacities d.links)) (sym out_same) ∙ is.far) in
          let port : free_port_below 32 (link_ends d.links) link.switch ≡ Some link.port =
          free_least (ends_of d) link.switch link.port (record { low = is.low; high = omega (arith, is.high); free = is.free; least = is.least }) in
          let beside : link_beside d link.node channel (Switch link.switch link.beside) ≡ Some link =
          (λ t. option_map (λ (q : ℕ). record { node = link.node; switch = link.switch; beside = link.beside; port = q; near = near t; far = far t }) (port t)) in
          let told : target_link d link.node ≡ Some link =
          ap (option_and_then (λ (c : ℕ). option_and_then (link_beside d link.node c) (slice_get (link_ends d.links) (partner c)))) first
          ∙ ap (option_and_then (link_beside d link.node channel)) ends ∙ beside in
          let target : is_some entry.target ≡ true = ap (λ (o : Option NodeEntry). is_some (option_and_then (λ (e : NodeEntry). e.target) o)) (sym at) ∙ is.target in
          let made : own_links d link.node entry ≡ link ∷ [] =
          (λ t. if target t && is.answers t then option_to_list (told t) else []) in
          let e : 0 + link.node ≡ link.node = omega arith in
          made_in (own_links d) 0 d.nodes link link.node entry at (subst (λ n. Contains (own_links d n entry) link) (sym e) (subst (λ l. Contains l link) (sym made) (Contains-head link [])))

pub splits_in_words : SplitsInWords
splits_in_words d link valid = (λ here. found_tried d link valid (found_in d link here), tried_listed d link valid)
