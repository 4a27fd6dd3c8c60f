use Rattle.std.proofs.Common.{◌≡◌, map}
use Rattle.serde_json.specs.Data.{no_members}
use Rattle.serde_json.specs.View.{members_view}
use Rattle.sw_json.specs.Objects.{member_value, with_members}
use Rattle.sw_json.proofs.objects.object_of.Given as goal

abbrev pub invariant-loop-member : goal.invariant-loop-member
invariant-loop-member l = members_view l.object.entries ≡ with_members (map (λ m. (m.0.now, member_value m.1)) l.yielded) no_members
