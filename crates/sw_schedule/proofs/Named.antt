-- The declared flow of a name.
use Rattle.std.proofs.Common.{◌≡◌, ℕ, ◌<◌, ◌≤◌, List, [], ◌++◌, length, Some, None, refl, sym, ap, ◌∙◌, arith, Option, true}
use Rattle.std.specs.Prelude.{position}
use Rattle.std.specs.Str.{bytes_eq, is_utf8}
use Rattle.std.proofs.lemmas.List.{length-map, map-append}
use Rattle.sw_config.specs.Entries.{FlowEntry, Declaration, flow_names, reply_flows, all_flows}
use Rattle.sw_schedule.specs.Lines.{flow_of}
use Rattle.sw_config.proofs.Positions.{position-none, position-in_first, position-in_second}

module _ (d : Declaration) (name : List ℕ) where
  both : flow_names (all_flows d) ≡ flow_names d.flows ++ flow_names (reply_flows d.flows)
  both = map-append (λ (f : FlowEntry). f.name) d.flows (reply_flows d.flows)

  pub named_none : position (bytes_eq name) (flow_names (all_flows d)) ≡ None → position (bytes_eq name) (flow_names d.flows) ≡ None
  named_none e = position-none (bytes_eq name) (flow_names d.flows) (flow_names (reply_flows d.flows)) (ap (position (bytes_eq name)) (sym both) ∙ e)

  pub named_declared : (i : ℕ) → position (bytes_eq name) (flow_names (all_flows d)) ≡ Some i → i < length d.flows → position (bytes_eq name) (flow_names d.flows) ≡ Some i
  named_declared i e lt =
      let count : length (flow_names d.flows) ≡ length d.flows = rw length-map refl in
      position-in_first (bytes_eq name) (flow_names d.flows) (flow_names (reply_flows d.flows)) i (ap (position (bytes_eq name)) (sym both) ∙ e) (omega (arith, count))

  pub named_reply : (i : ℕ) → position (bytes_eq name) (flow_names (all_flows d)) ≡ Some i → length d.flows ≤ i → position (bytes_eq name) (flow_names d.flows) ≡ None
  named_reply i e le =
      let count : length (flow_names d.flows) ≡ length d.flows = rw length-map refl in
      position-in_second (bytes_eq name) (flow_names d.flows) (flow_names (reply_flows d.flows)) i [] (ap (position (bytes_eq name)) (sym both) ∙ e) (omega (arith, count))

-- the flow of a word that is this name
pub named_is : (d : Declaration) (word name : List ℕ) (found : Option ℕ) → name ≡ word → is_utf8 word ≡ true → position (bytes_eq name) (flow_names d.flows) ≡ found → found ≡ flow_of d word
named_is d word name found is valid e = sym e ∙ ap (λ n. position (bytes_eq n) (flow_names d.flows)) is ∙ sym (rw valid refl)
