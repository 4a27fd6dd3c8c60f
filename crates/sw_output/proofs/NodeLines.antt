-- The lines of one node more.
use Rattle.std.proofs.Common.{List, None, Option, Some, [], ap, append_assoc, get_or, length, map, refl, sym, ℕ, ◌++◌, ◌+◌, ◌<◌, ◌∙◌, ◌≡◌}
use Rattle.std.proofs.lemmas.List.{get_or-map}
use Rattle.std.specs.Global.{Vec}
use Rattle.std.specs.List.{flat_map, range_with_len}
use Rattle.std.specs.Option.{option_map, option_map_or}
use Rattle.std.specs.Prelude.{codes, slice_get}
use Rattle.sw_char.specs.PacketView.{PacketView}
use Rattle.sw_config.specs.Entries.{Declaration, NodeEntry}
use Rattle.sw_output.specs.ChannelTexts.{node_name}
use Rattle.sw_output.specs.PacketTexts.{bytes_text, end_text, packet_line}
use Rattle.sw_output.proofs.EachLine.{number_added, lines_more as one_line_more}

-- the name that a node has
pub name_is : (o : Option NodeEntry) (name : List ℕ) → option_map (λ (e : NodeEntry). e.name) o ≡ Some name → name ≡ option_map_or (λ (e : NodeEntry). e.name) o []
name_is None name is = absurd cc
name_is (Some e) name is = cc

pub packets_are : (all : List (Vec PacketView)) (n : ℕ) (q : Vec PacketView) → n < length all → q ≡ get_or all n q → q.items ≡ get_or (map (λ (p : Vec PacketView). p.items) all) n []
packets_are all n q lt is = ap (λ (p : Vec PacketView). p.items) is ∙ sym (get_or-map (λ (p : Vec PacketView). p.items) all n q [] lt)

-- the line of a packet, as it is written
pub packet_line_is : (name : List ℕ) (p : PacketView) (bytes end before after : List ℕ) → bytes ≡ bytes_text p.bytes → end ≡ end_text p.end
    → after ≡ before ++ (codes "packet " ++ (name ++ (codes " " ++ (bytes ++ (codes " " ++ (end ++ codes "\n")))))) → after ≡ before ++ packet_line name p
packet_line_is name p bytes end before after bytes_are end_is more =
    more ∙ (λ i. before ++ (codes "packet " ++ (name ++ (codes " " ++ (bytes_are i ++ (codes " " ++ (end_is i ++ codes "\n")))))))

-- two parts of a text, and the lines of all nodes behind them
pub parts_joined : (line : ℕ → List ℕ) (first second text : List ℕ) (n m : ℕ) → text ≡ (first ++ second) ++ flat_map line (range_with_len 0 n) → n ≡ m
    → text ≡ first ++ (second ++ flat_map line (range_with_len 0 m))
parts_joined line first second text n m so_far all =
    so_far ∙ append_assoc first second (flat_map line (range_with_len 0 n)) ∙ ap (λ (k : ℕ). first ++ (second ++ flat_map line (range_with_len 0 k))) all

module _ (text : List ℕ → List PacketView → List ℕ) (d : Declaration) (all : List (Vec PacketView)) where
  abbrev one : ℕ → List ℕ
  one n = text (node_name d n) (get_or (map (λ (p : Vec PacketView). p.items) all) n [])

  pub lines_more : (n : ℕ) (name before here after : List ℕ) (q : Vec PacketView) → before ≡ flat_map one (range_with_len 0 n) → here ≡ text name q.items → option_map (λ (e : NodeEntry). e.name) (slice_get d.nodes n) ≡ Some name
      → n < length all → q ≡ get_or all n q → after ≡ before ++ here → after ≡ flat_map one (range_with_len 0 (n + 1))
  lines_more n name before here after q so_far line named lt at is =
      let same : here ≡ one n = line ∙ ap (λ (w : List ℕ). text w q.items) (name_is (slice_get d.nodes n) name named) ∙ ap (text (node_name d n)) (packets_are all n q lt at) in
      one_line_more one n before here here after so_far same refl is

  -- the same behind what stands there
  pub lines_added : (n : ℕ) (start name before here after : List ℕ) (q : Vec PacketView) → before ≡ start ++ flat_map one (range_with_len 0 n) → here ≡ text name q.items
      → option_map (λ (e : NodeEntry). e.name) (slice_get d.nodes n) ≡ Some name → n < length all → q ≡ get_or all n q → after ≡ before ++ here
      → after ≡ start ++ flat_map one (range_with_len 0 (n + 1))
  lines_added n start name before here after q so_far line named lt at is =
      let same : here ≡ one n = line ∙ ap (λ (w : List ℕ). text w q.items) (name_is (slice_get d.nodes n) name named) ∙ ap (text (node_name d n)) (packets_are all n q lt at) in
      number_added one n start before after so_far (is ∙ ap (λ (l : List ℕ). before ++ l) same)
