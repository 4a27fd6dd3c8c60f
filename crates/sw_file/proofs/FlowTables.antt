-- A table of a flow is read exactly where it is as the words say.
use Rattle.std.proofs.Common.{◌≡◌, ◌≢◌, ℕ, ◌≤◌, ◌&&◌, Bool, true, false, List, length, Option, Some, None, Ok, Err, All, refl, sym, subst, ap, ◌∙◌}
use Rattle.std.specs.Prelude.{nat_le, is_some, IfSome, if◌then◌else◌}
use Rattle.std.proofs.lemmas.Bool.{leb-true, le-leb, false≢true}
use Rattle.toml.specs.Data.{Members}
use Rattle.sw_config.specs.Entries.{NodeEntry, ReplyEntry, FlowEntry, target_of}
use Rattle.sw_config.specs.Valid.{has_no_leading_zero, IsOutstanding, IsReply}
use Rattle.sw_text.specs.declared.keys.Key.TheVariants.{From, To, Address, Left, Reply, Path, Initiator, Outstanding}
use Rattle.sw_text.specs.declared.keys.Section.TheVariants as section
use Rattle.sw_text.specs.declared.keys.Version.{Version}
use Rattle.sw_text.specs.declared.fault.KeyFault.TheVariants.{OutOfRange}
use Rattle.sw_text.specs.declared.fault.TextFault.TheVariants as fault
use Rattle.sw_text.specs.Table.{only_known, number_at, number_or, number_or_none, numbers_or_none}
use Rattle.sw_text.specs.SectionKeys.{flow_keys, reply_keys}
use Rattle.sw_file.specs.Names.{new_name, place_at}
use Rattle.sw_file.specs.FlowTables.{node_names, address_at, reply_of, reply_or_none, can_reply, addressed, replies_at, flow_of}
use Rattle.sw_file.specs.Values.{IsNumber, IsTableOf, HasOr, HasIfAny}
use Rattle.sw_file.specs.Tables.{HasBytes, HasOutstanding, IsReplyTable, IsFlowTable}
use Rattle.sw_file.proofs.Known.{well, passed}
use Rattle.sw_file.proofs.Values.{has_number, has_number_it, has_number_or, number_or_is, has_number_or_none, number_or_none_is, has_numbers_or, numbers_or_is, has_if_any, if_any_is}
use Rattle.sw_file.proofs.Tables.{passes, has_new_name, new_name_is, refers, place_is}
use Rattle.sw_text.proofs.Results.{bind_ok, test_passed}

-- the address bytes
has_address : (i : ℕ) (ms : Members) (bytes : List ℕ) → address_at i ms ≡ Ok bytes → HasBytes Address ms bytes × (length bytes ≤ 32)
unfolding address_at
has_address i ms bytes h =
    let read = bind_ok (numbers_or_none (section.Flow i) Address 255 ms) (λ a. if nat_le (length a) 32 then Ok a else Err (fault.Key OutOfRange (section.Flow i) Address)) bytes h in
    let fits = test_passed (nat_le (length read.0) 32) read.0 bytes (fault.Key OutOfRange (section.Flow i) Address) read.2 in
    (has_numbers_or (section.Flow i) Address ms 255 bytes (read.1 ∙ ap Ok fits.1), subst (λ (l : List ℕ). length l ≤ 32) fits.1 (leb-true (length read.0) 32 fits.0))

address_is : (i : ℕ) (ms : Members) (bytes : List ℕ) → HasBytes Address ms bytes → length bytes ≤ 32 → address_at i ms ≡ Ok bytes
unfolding address_at
address_is i ms bytes is few = rw (numbers_or_is (section.Flow i) Address ms 255 bytes is, le-leb (length bytes) 32 few) refl

has_way : (i : ℕ) (ms : Members) (way : List ℕ × ℕ) → addressed i ms ≡ Ok way → HasBytes Address ms way.0 × (length way.0 ≤ 32) × HasOr (IsNumber 0 (length way.0)) 0 Left ms way.1
unfolding addressed
has_way i ms way h =
    well (address_at i ms) way (λ f is. rw is at h) (λ address at_address.
    well (number_or (section.Flow i) Left 0 (length address) 0 ms) way (λ f is. rw (at_address, is) at h) (λ left at_left.
    let made : Ok (address, left) ≡ Ok way = rw (at_address, at_left) at h in
    let same : (address, left) ≡ way = cc in
    let bytes = has_address i ms address at_address in
    subst (λ (w : List ℕ × ℕ). HasBytes Address ms w.0 × (length w.0 ≤ 32) × HasOr (IsNumber 0 (length w.0)) 0 Left ms w.1) same
    (bytes.0, bytes.1, has_number_or (section.Flow i) Left ms 0 (length address) 0 left at_left)))

way_is : (i : ℕ) (ms : Members) (address : List ℕ) (left : ℕ) → HasBytes Address ms address → length address ≤ 32 → HasOr (IsNumber 0 (length address)) 0 Left ms left → addressed i ms ≡ Ok (address, left)
unfolding addressed
way_is i ms address left is few left_is = rw (address_is i ms address is few, number_or_is (section.Flow i) Left ms 0 (length address) 0 left left_is) refl

-- where replies go
is_reply : (version : Version) (i : ℕ) (ms : Members) (r : ReplyEntry) → reply_of version i ms ≡ Ok r → IsReplyTable version ms r
unfolding reply_of
is_reply version i ms r h =
    well (only_known (section.Reply i) (reply_keys version) ms) r (λ f is. rw is at h) (λ u keys.
    well (numbers_or_none (section.Reply i) Path 255 ms) r (λ f is. rw (keys, is) at h) (λ path at_path.
    well (number_at (section.Reply i) Initiator 0 255 ms) r (λ f is. rw (keys, at_path, is) at h) (λ initiator at_initiator.
    well (number_or_none (section.Reply i) Outstanding 1 65535 ms) r (λ f is. rw (keys, at_path, at_initiator, is) at h) (λ outstanding at_outstanding.
    let made : Ok (record { path = path; initiator = initiator; outstanding = outstanding }) ≡ Ok r = rw (keys, at_path, at_initiator, at_outstanding) at h in
    let same : record { path = path; initiator = initiator; outstanding = outstanding } ≡ r = cc in
    subst (IsReplyTable version ms) same (record {
      keys = passed (section.Reply i) (reply_keys version) ms u keys;
      path = has_numbers_or (section.Reply i) Path ms 255 path at_path;
      initiator = has_number (section.Reply i) Initiator ms 0 255 initiator at_initiator;
      outstanding = has_number_or_none (section.Reply i) Outstanding ms 1 65535 outstanding at_outstanding;
    })))))

reply_is : (version : Version) (i : ℕ) (ms : Members) (r : ReplyEntry) → IsReplyTable version ms r → reply_of version i ms ≡ Ok r
unfolding reply_of
reply_is version i ms r is =
    rw (
      passes (section.Reply i) (reply_keys version) ms is.keys,
      numbers_or_is (section.Reply i) Path ms 255 r.path is.path,
      has_number_it (section.Reply i) Initiator ms 0 255 r.initiator is.initiator,
      number_or_none_is (section.Reply i) Outstanding ms 1 65535 r.outstanding is.outstanding,
    ) refl

five : (a b c d e : Bool) → (a && b && c && d && e) ≡ true → (a ≡ true) × (b ≡ true) × (c ≡ true) × (d ≡ true) × (e ≡ true)
five false b c d e h = absurd (false≢true h)
five true false c d e h = absurd (false≢true h)
five true true false d e h = absurd (false≢true h)
five true true true false e h = absurd (false≢true h)
five true true true true false h = absurd (false≢true h)
five true true true true true h = (refl, refl, refl, refl, refl)

-- a limit that was read is in its range
pub limited : (ms : Members) (o : Option ℕ) → HasOutstanding ms o → IfSome o IsOutstanding
limited ms None is = tt
limited ms (Some n) is = record { low = is.is.least; high = is.is.most }

comes_back : (version : Version) (nodes : List NodeEntry) (to : ℕ) (ms : Members) (o : Option ReplyEntry) → HasIfAny (IsTableOf (IsReplyTable version)) Reply ms o → can_reply nodes to o ≡ true → IfSome o (IsReply nodes to)
comes_back version nodes to ms None is h = tt
comes_back version nodes to ms (Some r) is h =
    let all = five (nat_le (length r.path) 12) (has_no_leading_zero r.path) (nat_le 32 r.initiator) (nat_le r.initiator 254) (is_some (target_of nodes to)) h in
    record { path = leb-true (length r.path) 12 all.0; leading = all.1; low_initiator = leb-true 32 r.initiator all.2; high_initiator = leb-true r.initiator 254 all.3; outstanding = limited is.is.members r.outstanding is.is.is.outstanding; target = all.4 }

can_come_back : (nodes : List NodeEntry) (to : ℕ) (o : Option ReplyEntry) → IfSome o (IsReply nodes to) → can_reply nodes to o ≡ true
can_come_back nodes to None is = refl
can_come_back nodes to (Some r) is = rw (le-leb (length r.path) 12 is.path, is.leading, le-leb 32 r.initiator is.low_initiator, le-leb r.initiator 254 is.high_initiator, is.target) refl

has_replies : (version : Version) (i : ℕ) (nodes : List NodeEntry) (to : ℕ) (ms : Members) (o : Option ReplyEntry) → replies_at version i nodes to ms ≡ Ok o → HasIfAny (IsTableOf (IsReplyTable version)) Reply ms o × IfSome o (IsReply nodes to)
unfolding replies_at reply_or_none
has_replies version i nodes to ms o h =
    let read = bind_ok (reply_or_none version i ms) (λ r. if can_reply nodes to r then Ok r else Err (fault.ReplyShape i)) o h in
    let fits = test_passed (can_reply nodes to read.0) read.0 o (fault.ReplyShape i) read.2 in
    let any = has_if_any (section.Flow i) Reply ms (IsReplyTable version) (reply_of version i) (λ t r. is_reply version i t r) o (read.1 ∙ ap Ok fits.1) in
    (any, comes_back version nodes to ms o any (ap (can_reply nodes to) (sym fits.1) ∙ fits.0))

replies_is : (version : Version) (i : ℕ) (nodes : List NodeEntry) (to : ℕ) (ms : Members) (o : Option ReplyEntry) → HasIfAny (IsTableOf (IsReplyTable version)) Reply ms o → IfSome o (IsReply nodes to) → replies_at version i nodes to ms ≡ Ok o
unfolding replies_at reply_or_none
replies_is version i nodes to ms o is way = rw (if_any_is (section.Flow i) Reply ms (IsReplyTable version) (reply_of version i) (λ t r. reply_is version i t r) o is, can_come_back nodes to o way) refl

-- a flow
pub is_flow : (version : Version) (i : ℕ) (nodes : List NodeEntry) (taken : List (List ℕ)) (ms : Members) (e : FlowEntry) → flow_of version i nodes taken ms ≡ Ok e → IsFlowTable version nodes ms e × All (λ k. k ≢ e.name) taken
unfolding flow_of
is_flow version i nodes taken ms e h =
    well (only_known (section.Flow i) flow_keys ms) e (λ f is. rw is at h) (λ u keys.
    well (new_name (section.Flow i) taken ms) e (λ f is. rw (keys, is) at h) (λ name at_name.
    well (place_at (section.Flow i) From (node_names nodes) ms) e (λ f is. rw (keys, at_name, is) at h) (λ from at_from.
    well (place_at (section.Flow i) To (node_names nodes) ms) e (λ f is. rw (keys, at_name, at_from, is) at h) (λ to at_to.
    well (addressed i ms) e (λ f is. rw (keys, at_name, at_from, at_to, is) at h) (λ way at_way.
    well (replies_at version i nodes to ms) e (λ f is. rw (keys, at_name, at_from, at_to, at_way, is) at h) (λ reply at_reply.
    let made : Ok (record { name = name; from = from; to = to; address = way.0; left = way.1; reply = reply }) ≡ Ok e = rw (keys, at_name, at_from, at_to, at_way, at_reply) at h in
    let same : record { name = name; from = from; to = to; address = way.0; left = way.1; reply = reply } ≡ e = cc in
    let named = has_new_name (section.Flow i) taken ms name at_name in
    let bytes = has_way i ms way at_way in
    let replies = has_replies version i nodes to ms reply at_reply in
    subst (λ (x : FlowEntry). IsFlowTable version nodes ms x × All (λ k. k ≢ x.name) taken) same (
      record {
        keys = passed (section.Flow i) flow_keys ms u keys;
        named = named.0;
        from = refers (section.Flow i) From (node_names nodes) ms from at_from;
        to = refers (section.Flow i) To (node_names nodes) ms to at_to;
        address = bytes.0;
        few = bytes.1;
        left = bytes.2;
        reply = replies.0;
        way = replies.1;
      },
      named.1,
    )))))))

pub flow_is : (version : Version) (i : ℕ) (nodes : List NodeEntry) (taken : List (List ℕ)) (ms : Members) (e : FlowEntry) → IsFlowTable version nodes ms e → All (λ k. k ≢ e.name) taken → flow_of version i nodes taken ms ≡ Ok e
unfolding flow_of
flow_is version i nodes taken ms e is new =
    rw (
      passes (section.Flow i) flow_keys ms is.keys,
      new_name_is (section.Flow i) taken ms e.name is.named new,
      place_is (section.Flow i) From (node_names nodes) ms e.from is.from,
      place_is (section.Flow i) To (node_names nodes) ms e.to is.to,
      way_is i ms e.address e.left is.address is.few is.left,
      replies_is version i nodes e.to ms e.reply is.reply is.way,
    ) refl
