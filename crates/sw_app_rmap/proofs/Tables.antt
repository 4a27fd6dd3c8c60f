-- Maps of the program beside the tables that they stand for.
use Rattle.std.proofs.Common.{◌≡◌, ℕ, List, [], ◌∷◌, String, Global, Ordering, Greater, nat_cmp, string_bytes, codes, refl, ap, ◌∙◌}
use Rattle.std.specs.BTreeMap.{insert_entry}
use Rattle.std.specs.Cmp.Lexicographic.{slice_cmp}
use Rattle.std.specs.Ordering.{match_ordering}
use Rattle.std.specs.String.{string_cmp}
use Rattle.toml.specs.Data.{Data, member, no_members}
use Rattle.toml.specs.declared.value.Value.{Value}
use Rattle.toml.specs.View.{members_view, view}
use Rattle.toml.proofs.Views.{Entry}

-- a member that is put into an empty table
pub first_put : (es : List Entry) (k : String Global) (v : Value) (name : List ℕ) → es ≡ [] → string_bytes k ≡ name → members_view (insert_entry string_cmp es k v) ≡ member name (view v) no_members
first_put es k v name none named = rw none (ap (λ (n : List ℕ). member n (view v) no_members) named)

later : (x y : List ℕ) → x ≡ codes "flow" → y ≡ codes "cargo" → slice_cmp nat_cmp x y ≡ Greater
later x y e f = rw (e, f) refl

goes_last : {X : Type 0} (o : Ordering) (a b c : X) → o ≡ Greater → match_ordering o a b c ≡ c
goes_last o a b c e = rw e refl

-- a flow's name that is put into a table with a cargo alone
pub flow_put : (es : List Entry) (k : String Global) (v : Value) (cargo : Data) → members_view es ≡ member (codes "cargo") cargo no_members → string_bytes k ≡ codes "flow"
    → members_view (insert_entry string_cmp es k v) ≡ member (codes "cargo") cargo (member (codes "flow") (view v) no_members)
flow_put [] k v cargo are named = absurd cc
flow_put (e ∷ []) k v cargo are named =
    let first : string_bytes e.0 ≡ codes "cargo" = cc in
    let value : view e.1 ≡ cargo = cc in
    ap members_view (goes_last (string_cmp k e.0) ((k, v) ∷ e ∷ []) ((e.0, v) ∷ []) (e ∷ (k, v) ∷ []) (later (string_bytes k) (string_bytes e.0) named first))
    ∙ ap (λ (n : List ℕ). member n (view e.1) (member (string_bytes k) (view v) no_members)) first
    ∙ ap (λ (x : Data). member (codes "cargo") x (member (string_bytes k) (view v) no_members)) value
    ∙ ap (λ (n : List ℕ). member (codes "cargo") cargo (member n (view v) no_members)) named
flow_put (e ∷ f ∷ es) k v cargo are named = absurd cc
