-- The test for declared packets.
use Rattle.std.proofs.Common.{◌≡◌, ℕ, ◌≤◌, Bool, true, false, ◌&&◌, List, ◌++◌, length, Option, Some, None, IsTrue, refl, ap, inl, inr}
use Rattle.std.specs.Prelude.{is_some, nat_le, not, slice_get, ◌↔◌, ◌||◌}
use Rattle.std.specs.Option.{option_map_or}
use Rattle.std.proofs.lemmas.Slice.Eq.{bytes_eq-Decides}
use Rattle.std.proofs.lemmas.Bool.{and_parts, and_from, leb-true, le-leb}
use Rattle.sw_flow.specs.Entries.{ReplyEntry, FlowEntry, Declaration}
use Rattle.sw_flow.specs.Limits.{is_limited}
use Rattle.sw_machine.specs.DeclaredPackets.{reply_address, reply_from, left_bytes, IsCommandIfLimited, IsRightWay, IsDeclaredPacket, is_right_way, is_answered_rightly, is_command_if_limited, is_declared_packet}
use Rattle.sw_machine.specs.ModelLaws.{DeclaredPacketsPass}
use Rattle.sw_flow.proofs.Lists.{same_bool}

right_way : (way : Option (List ℕ)) (reply : Option ReplyEntry) → is_right_way way reply ≡ true → IsRightWay way reply
right_way None reply e = inl refl
right_way (Some w) None e = absurd cc
right_way (Some w) (Some r) e = inr (ap Some ((bytes_eq-Decides w (reply_address r)).0 e))

way_passes : (way : Option (List ℕ)) (reply : Option ReplyEntry) → IsRightWay way reply → is_right_way way reply ≡ true
way_passes None reply p = refl
way_passes (Some w) None (inl e) = absurd cc
way_passes (Some w) None (inr e) = absurd cc
way_passes (Some w) (Some r) (inl e) = absurd cc
way_passes (Some w) (Some r) (inr e) = let same : w ≡ reply_address r = cc in (bytes_eq-Decides w (reply_address r)).1 same

limited_passes : (d : Declaration) (cargo : List ℕ) (f : FlowEntry) → is_command_if_limited d.nodes cargo f ≡ true → IsCommandIfLimited d.nodes f cargo
limited_passes d cargo f e limited = rw limited at e

passes_limited : (d : Declaration) (cargo : List ℕ) (f : FlowEntry) → IsCommandIfLimited d.nodes f cargo → is_command_if_limited d.nodes cargo f ≡ true
passes_limited d cargo f so = by (is_limited d.nodes f) refl
  where
    by : (t : Bool) → is_limited d.nodes f ≡ t → (not t || is_some (reply_from d.nodes f.to (left_bytes f ++ cargo))) ≡ true
    by false is = refl
    by true is = so is

-- a packet of the flow goes right, and is a command where it has to be
abbrev passes_flow : Declaration → List ℕ → FlowEntry → Bool
passes_flow d cargo f = is_answered_rightly d.nodes cargo f && is_command_if_limited d.nodes cargo f

test_parts : (d : Declaration) (flow : ℕ) (cargo : List ℕ) (o : Option FlowEntry) → slice_get d.flows flow ≡ o → 1 ≤ length cargo → length cargo ≤ 33554432 → option_map_or (passes_flow d cargo) o false ≡ true → IsDeclaredPacket d flow cargo
test_parts d flow cargo None is some few e = absurd cc
test_parts d flow cargo (Some f) is some few e =
    let both = and_parts (is_answered_rightly d.nodes cargo f) (is_command_if_limited d.nodes cargo f) e in
    record { entry = f; declared = is; some = some; few = few; answered = right_way (reply_from d.nodes f.to (left_bytes f ++ cargo)) f.reply both.0; command = limited_passes d cargo f both.1 }

passed : (d : Declaration) (flow : ℕ) (cargo : List ℕ) → is_declared_packet d flow cargo ≡ true → IsDeclaredPacket d flow cargo
passed d flow cargo e =
    let outer = and_parts (nat_le 1 (length cargo) && nat_le (length cargo) 33554432) (option_map_or (passes_flow d cargo) (slice_get d.flows flow) false) e in
    let inner = and_parts (nat_le 1 (length cargo)) (nat_le (length cargo) 33554432) outer.0 in
    test_parts d flow cargo (slice_get d.flows flow) refl (leb-true 1 (length cargo) inner.0) (leb-true (length cargo) 33554432 inner.1) outer.1

passes : (d : Declaration) (flow : ℕ) (cargo : List ℕ) → IsDeclaredPacket d flow cargo → is_declared_packet d flow cargo ≡ true
passes d flow cargo p =
    let right : is_answered_rightly d.nodes cargo p.entry ≡ true = way_passes (reply_from d.nodes p.entry.to (left_bytes p.entry ++ cargo)) p.entry.reply p.answered in
    let both : passes_flow d cargo p.entry ≡ true = and_from (is_answered_rightly d.nodes cargo p.entry) (is_command_if_limited d.nodes cargo p.entry) right (passes_limited d cargo p.entry p.command) in
    let found : option_map_or (passes_flow d cargo) (slice_get d.flows flow) false ≡ true = rw p.declared both in
    and_from (nat_le 1 (length cargo) && nat_le (length cargo) 33554432) (option_map_or (passes_flow d cargo) (slice_get d.flows flow) false)
    (and_from (nat_le 1 (length cargo)) (nat_le (length cargo) 33554432) (le-leb 1 (length cargo) p.some) (le-leb (length cargo) 33554432 p.few))
    found

pub declared_packets_pass : DeclaredPacketsPass
declared_packets_pass d flow cargo = (passed d flow cargo, passes d flow cargo)

pub same_test : (b : Bool) (d : Declaration) (flow : ℕ) (cargo : List ℕ) → (IsTrue b ↔ IsDeclaredPacket d flow cargo) → b ≡ is_declared_packet d flow cargo
same_test b d flow cargo so = same_bool b (is_declared_packet d flow cargo) (λ e. passes d flow cargo (so.0 e)) (λ e. so.1 (passed d flow cargo e))
