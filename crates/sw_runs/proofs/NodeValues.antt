-- The value of one node more.
use Rattle.std.proofs.Common.{List, Some, [], ◌∷◌, ap, get_or, map, ℕ, ◌++◌, ◌+◌, ◌<◌, ◌∙◌, ◌≡◌, length, sym, arith}
use Rattle.std.proofs.lemmas.List.FromFn.{map-range_with_len_more}
use Rattle.std.specs.Global.{Vec}
use Rattle.std.specs.List.{range_with_len}
use Rattle.std.specs.Option.{option_map}
use Rattle.std.specs.Prelude.{slice_get}
use Rattle.serde_json.specs.Data.{Data}
use Rattle.sw_char.specs.PacketView.{PacketView}
use Rattle.sw_config.specs.Entries.{Declaration, NodeEntry}
use Rattle.sw_output.specs.ChannelTexts.{node_name}
use Rattle.sw_output.proofs.NodeLines.{name_is, packets_are}

module _ (value : List ℕ → List PacketView → Data) (d : Declaration) (all : List (Vec PacketView)) where
  abbrev one : ℕ → Data
  one n = value (node_name d n) (get_or (map (λ (p : Vec PacketView). p.items) all) n [])

  pub values_more : (n : ℕ) (name : List ℕ) (before after : List Data) (here : Data) (q : Vec PacketView) → before ≡ map one (range_with_len 0 n)
      → here ≡ value name q.items
      → option_map (λ (e : NodeEntry). e.name) (slice_get d.nodes n) ≡ Some name → n < length all → q ≡ get_or all n q → after ≡ before ++ here ∷ []
      → after ≡ map one (range_with_len 0 (n + 1))
  values_more n name before after here q so_far made named lt at more =
      let same : here ≡ one n = made ∙ ap (λ (w : List ℕ). value w q.items) (name_is (slice_get d.nodes n) name named)
      ∙ ap (value (node_name d n)) (packets_are all n q lt at) in
      let place : 0 + n ≡ n = omega arith in
      more ∙ ap (λ l. l ++ here ∷ []) so_far ∙ ap (λ v. map one (range_with_len 0 n) ++ v ∷ []) same ∙ sym (map-range_with_len_more one 0 n n place)
