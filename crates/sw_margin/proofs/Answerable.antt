-- Which flows are told of as answered.
use Rattle.std.proofs.Common.{◌≡◌, Bool, true, false, not, ℕ, ◌<◌, length, Option, Some, option_map, sym, ap, ◌∙◌}
use Rattle.std.specs.Option.{option_map_or}
use Rattle.std.specs.Prelude.{is_some, slice_get, ◌&&◌}
use Rattle.sw_config.specs.Entries.{FlowEntry, ReplyEntry, Declaration, all_flows, reply_flows}
use Rattle.sw_topo.proofs.Lists.{in_front, is_some-map}
use Rattle.sw_margin.specs.Bends.{goes_one_way, is_answerable}

module _ (d : Declaration) (i : ℕ) (f : FlowEntry) (here : slice_get (all_flows d) i ≡ Some f) (lt : i < length d.flows) {R : Type 0} (g : R → ReplyEntry) (reply : Option R) (is : option_map g reply ≡ f.reply) (none : Bool) (asked : is_some reply ≡ not none) where
  answered : is_some f.reply ≡ not none
  answered = ap is_some (sym is) ∙ is_some-map g reply ∙ asked

  declared : option_map_or (is_answerable d) (slice_get d.flows i) false ≡ is_answerable d f
  declared = ap (λ (o : Option FlowEntry). option_map_or (is_answerable d) o false) (in_front d.flows (reply_flows d.flows) i f lt here)

  pub unanswered : (result : Bool) → none ≡ true → result ≡ goes_one_way d f → result ≡ option_map_or (is_answerable d) (slice_get d.flows i) false
  unanswered result so way = way ∙ sym (declared ∙ ap (λ (b : Bool). not b && goes_one_way d f) (answered ∙ ap not so))

  pub has_reply : none ≡ false → none ≡ option_map_or (is_answerable d) (slice_get d.flows i) false
  has_reply so = so ∙ sym (declared ∙ ap (λ (b : Bool). not b && goes_one_way d f) (answered ∙ ap not so))
