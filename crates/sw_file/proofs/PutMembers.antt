-- What a table holds after one member was put into it, and what a table with known keys alone holds.
use Rattle.std.proofs.Common.{◌≡◌, ℕ, Bool, true, false, List, Option, Some, None, IsSome, Ordering, Less, Equal, Greater, nat_cmp, refl, sym, ◌∙◌, inl, inr}
use Rattle.std.specs.Cmp.Lexicographic.{slice_cmp}
use Rattle.std.specs.Ordering.{is_eq, match_ordering}
use Rattle.std.proofs.lemmas.Bool.{cases_Bool, true≢false}
use Rattle.std.proofs.lemmas.Cmp.{nat_list_cmp_total, tied_itself}
use Rattle.std.proofs.lemmas.Map.Text.{is_eq-slice_cmp}
use Rattle.std.proofs.lemmas.Slice.Eq.{bytes_eq-Decides}
use Rattle.toml.specs.Data.{Data, Members, no_members, member, get_member}
use Rattle.sw_text.specs.declared.keys.Key.{Key}
use Rattle.sw_text.specs.Table.{is_known}
use Rattle.sw_text.specs.KeyLaws.{HasOnly}
use Rattle.sw_file.specs.Tree.{put}

pub equal_names : (k l : List ℕ) → is_eq (slice_cmp nat_cmp k l) ≡ true → k ≡ l
equal_names k l same = (bytes_eq-Decides k l).0 (sym (is_eq-slice_cmp k l) ∙ same)

equal_order : (o : Ordering) → o ≡ Equal → is_eq o ≡ true
equal_order o same = rw same refl

skipped : (o : Ordering) (a : Option Data) (d : Data) → is_eq o ≡ false → match_ordering o a (Some d) a ≡ a
skipped Less a d off = refl
skipped Equal a d off = absurd (true≢false off)
skipped Greater a d off = refl

other_at : (k l m : List ℕ) (d e : Data) (ms : Members) (o : Ordering) → slice_cmp nat_cmp l m ≡ o → is_eq (slice_cmp nat_cmp k l) ≡ false → get_member k (put l d ms) ≡ get_member k ms
    → get_member k (match_ordering o (member l d (member m e ms)) (member m d ms) (member m e (put l d ms))) ≡ get_member k (member m e ms)
other_at k l m d e ms Less is off rest = skipped (slice_cmp nat_cmp k l) (get_member k (member m e ms)) d off
other_at k l m d e ms Equal is off rest =
    let same : l ≡ m = equal_names l m (equal_order (slice_cmp nat_cmp l m) is) in
    let off' : is_eq (slice_cmp nat_cmp k m) ≡ false = rw same at off in
    skipped (slice_cmp nat_cmp k m) (get_member k ms) d off' ∙ sym (skipped (slice_cmp nat_cmp k m) (get_member k ms) e off')
other_at k l m d e ms Greater is off rest = rw rest refl

-- another member stays
pub get_other : (k l : List ℕ) (d : Data) (ms : Members) → is_eq (slice_cmp nat_cmp k l) ≡ false → get_member k (put l d ms) ≡ get_member k ms
get_other k l d no_members off = skipped (slice_cmp nat_cmp k l) None d off
get_other k l d (member m e ms) off = other_at k l m d e ms (slice_cmp nat_cmp l m) refl off (get_other k l d ms off)

same_at : (k m : List ℕ) (d e : Data) (ms : Members) (o : Ordering) → slice_cmp nat_cmp k m ≡ o → get_member k (put k d ms) ≡ Some d
    → get_member k (match_ordering o (member k d (member m e ms)) (member m d ms) (member m e (put k d ms))) ≡ Some d
same_at k m d e ms Less is rest = rw (tied_itself nat_list_cmp_total k) refl
same_at k m d e ms Equal is rest = rw is refl
same_at k m d e ms Greater is rest = rw is rest

-- the new member is there
pub get_same : (k : List ℕ) (d : Data) (ms : Members) → get_member k (put k d ms) ≡ Some d
get_same k d no_members = rw (tied_itself nat_list_cmp_total k) refl
get_same k d (member m e ms) = same_at k m d e ms (slice_cmp nat_cmp k m) refl (get_same k d ms)

-- the keys stay known
pub only_put : (keys : List Key) (k : List ℕ) (d : Data) (ms : Members) → is_known keys k ≡ true → HasOnly keys ms → HasOnly keys (put k d ms)
only_put keys k d ms known only = λ name stands.
    elim (cases_Bool (is_eq (slice_cmp nat_cmp name k))) [
      | inl same ↦ let is : name ≡ k = equal_names name k same in rw is known
      | inr off ↦ only name (rw (get_other name k d ms off) at stands)
    ]

pub only_more : (keys more : List Key) (ms : Members) → ((name : List ℕ) → is_known keys name ≡ true → is_known more name ≡ true) → HasOnly keys ms → HasOnly more ms
only_more keys more ms wider only = λ name stands. wider name (only name stands)

none_unless : (o : Option Data) (b : Bool) → (IsSome o → b ≡ true) → b ≡ false → o ≡ None
none_unless None b stands off = refl
none_unless (Some d) b stands off = absurd (true≢false (sym (stands refl) ∙ off))

-- nothing stands at a name that is not known
pub absent_name : (keys : List Key) (ms : Members) (name : List ℕ) → HasOnly keys ms → is_known keys name ≡ false → get_member name ms ≡ None
absent_name keys ms name only off = none_unless (get_member name ms) (is_known keys name) (only name) off
