-- A map of the program beside the table that it stands for, where one member is put into it, and where it is copied.
use Rattle.std.proofs.Common.{◌≡◌, ℕ, List, [], ◌∷◌, String, Global, Ordering, Less, Equal, Greater, nat_cmp, string_bytes, is_some, refl, sym, ap, ◌∙◌}
use Rattle.std.specs.List.{AllZip}
use Rattle.std.specs.Ordering.{match_ordering}
use Rattle.std.specs.BTreeMap.{insert_entry, is_at}
use Rattle.std.specs.Map.{lookup}
use Rattle.std.specs.Cmp.Lexicographic.{slice_cmp}
use Rattle.std.specs.String.{string_cmp}
use Rattle.toml.specs.Data.{get_member}
use Rattle.toml.specs.declared.value.Value.{Value}
use Rattle.toml.specs.View.{view, members_view}
use Rattle.toml.proofs.Views.{Entry, view-lookup}
use Rattle.sw_file.specs.Tree.{put}
use Rattle.sw_topo.proofs.Lists.{is_some-map}

match_members : (o : Ordering) (a b c : List Entry) → members_view (match_ordering o a b c) ≡ match_ordering o (members_view a) (members_view b) (members_view c)
match_members Less a b c = refl
match_members Equal a b c = refl
match_members Greater a b c = refl

pub inserted : (es : List Entry) (k : String Global) (v : Value) → members_view (insert_entry string_cmp es k v) ≡ put (string_bytes k) (view v) (members_view es)
inserted [] k v = refl
inserted (e ∷ es) k v = match_members (string_cmp k e.0) _ _ _ ∙ rw (inserted es k v)

pub cloned : (es fs : List Entry) → AllZip (λ (p q : Entry). (string_bytes q.0 ≡ string_bytes p.0) × (view q.1 ≡ view p.1)) es fs → members_view fs ≡ members_view es
cloned [] [] all = refl
cloned [] (f ∷ fs) all = absurd all
cloned (e ∷ es) [] all = absurd all
cloned (e ∷ es) (f ∷ fs) all = rw (all.0.0, all.0.1, cloned es fs all.1) refl

-- whether a name stands in the table
pub contains : (name : List ℕ) (es : List Entry) → is_some (lookup (is_at (λ k. slice_cmp nat_cmp name (string_bytes k))) es) ≡ is_some (get_member name (members_view es))
contains name es = sym (is_some-map view _) ∙ ap is_some (view-lookup name es)
