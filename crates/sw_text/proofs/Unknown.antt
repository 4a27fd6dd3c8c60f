-- The least unknown name of a table.
use Rattle.std.proofs.Common.{◌≡◌, ◌↔◌, ℕ, Bool, true, false, List, Option, Some, None, IsSome, Ok, Err, Ordering, Less, Equal, Greater, nat_cmp, refl, sym, ap, ◌∙◌, inl, inr, ◌⊎◌}
use Rattle.std.specs.Cmp.Lexicographic.{slice_cmp}
use Rattle.std.specs.Ordering.{is_eq, is_lt, match_ordering, ordering_reverse}
use Rattle.std.proofs.lemmas.Bool.{cases_Bool, true≢false}
use Rattle.std.proofs.lemmas.Cmp.{nat_list_cmp_total, tied_itself}
use Rattle.std.proofs.lemmas.Map.Text.{is_eq-slice_cmp}
use Rattle.std.proofs.lemmas.Slice.Eq.{bytes_eq-Decides}
use Rattle.toml.specs.Data.{Data, Members, no_members, member, get_member}
use Rattle.sw_text.specs.declared.keys.Key.{Key}
use Rattle.sw_text.specs.declared.keys.Section.{Section}
use Rattle.sw_text.specs.declared.fault.TextFault.TheVariants.{UnknownKey}
use Rattle.sw_text.specs.Table.{is_known, member_names, lesser, least_unknown, only_known}
use Rattle.sw_text.specs.KeyLaws.{HasOnly, IsLeastUnknown, RefusesLeastUnknown}

tied : (name k : List ℕ) → slice_cmp nat_cmp name k ≡ Equal → name ≡ k
tied name k equal = (bytes_eq-Decides name k).0 (sym (is_eq-slice_cmp name k) ∙ ap is_eq equal)

not_less_itself : (name : List ℕ) → slice_cmp nat_cmp name name ≡ Less → ⊥
not_less_itself name less = let same = tied_itself nat_list_cmp_total name in cc

-- what stands in a table is its first member, or stands in the rest
by_order : (name k : List ℕ) (d : Data) (ms : Members) (o : Ordering) → slice_cmp nat_cmp name k ≡ o → IsSome (match_ordering o (get_member name ms) (Some d) (get_member name ms)) → (name ≡ k) ⊎ IsSome (get_member name ms)
by_order name k d ms Less is stands = inr stands
by_order name k d ms Equal is stands = inl (tied name k is)
by_order name k d ms Greater is stands = inr stands

first_or_rest : (name k : List ℕ) (d : Data) (ms : Members) → IsSome (get_member name (member k d ms)) → (name ≡ k) ⊎ IsSome (get_member name ms)
first_or_rest name k d ms stands = by_order name k d ms (slice_cmp nat_cmp name k) refl stands

stands_first : (k : List ℕ) (d : Data) (ms : Members) → IsSome (get_member k (member k d ms))
stands_first k d ms = rw (tied_itself nat_list_cmp_total k) refl

either_way : (o : Ordering) (a : Option Data) (d : Data) → IsSome a → IsSome (match_ordering o a (Some d) a)
either_way Less a d stands = stands
either_way Equal a d stands = refl
either_way Greater a d stands = stands

stands_in_rest : (name k : List ℕ) (d : Data) (ms : Members) → IsSome (get_member name ms) → IsSome (get_member name (member k d ms))
stands_in_rest name k d ms stands = either_way (slice_cmp nat_cmp name k) (get_member name ms) d stands

known_and_unknown : (b : Bool) → b ≡ true → b ≡ false → ⊥
known_and_unknown b t f = true≢false (sym t ∙ f)

pub less_is : (o : Ordering) → is_lt o ≡ true → o ≡ Less
less_is Less yes_less = refl
less_is Equal yes_less = absurd (true≢false (sym yes_less))
less_is Greater yes_less = absurd (true≢false (sym yes_less))

pub no_name_fault : (s : Section) (keys : List Key) (ms : Members) (name : List ℕ) → least_unknown keys (member_names ms) ≡ Some name → only_known s keys ms ≡ Err (UnknownKey s name)
no_name_fault s keys ms name found = rw found refl

pub no_name_passes : (s : Section) (keys : List Key) (ms : Members) → least_unknown keys (member_names ms) ≡ None → only_known s keys ms ≡ Ok tt
no_name_passes s keys ms none = rw none refl

-- of a table whose least unknown name is found, or has none
Tells : List Key → Members → Option (List ℕ) → Type 0
Tells keys ms None = HasOnly keys ms
Tells keys ms (Some name) = IsLeastUnknown keys ms name

after_known : (keys : List Key) (k : List ℕ) (d : Data) (ms : Members) (o : Option (List ℕ)) → is_known keys k ≡ true → Tells keys ms o → Tells keys (member k d ms) o
unfolding Tells
after_known keys k d ms None known only = λ name stands.
    elim (first_or_rest name k d ms stands) [
      | inl same ↦ rw same known
      | inr rest ↦ only name rest
    ]
after_known keys k d ms (Some l) known is = record {
  stands = stands_in_rest l k d ms is.stands;
  unknown = is.unknown;
  least = λ other stands unknown. elim (first_or_rest other k d ms stands) [
    | inl same ↦ absurd (known_and_unknown (is_known keys k) known (rw same at unknown))
    | inr rest ↦ is.least other rest unknown
  ];
}

-- the first name is the least, where the least of the rest is not less
not_less : (other k l : List ℕ) (o : Ordering) → slice_cmp nat_cmp l k ≡ o → is_lt o ≡ false → slice_cmp nat_cmp other k ≡ Less → slice_cmp nat_cmp other l ≡ Less
not_less other k l Less is not less = absurd cc
not_less other k l Equal is not less = rw (tied l k is) less
not_less other k l Greater is not less =
    let back : slice_cmp nat_cmp k l ≡ Less = nat_list_cmp_total.antisymm k l ∙ ap ordering_reverse is in
    nat_list_cmp_total.trans other k l less back

least_of_two : (keys : List Key) (k l : List ℕ) (d : Data) (ms : Members) → is_known keys k ≡ false → IsLeastUnknown keys ms l → IsLeastUnknown keys (member k d ms) (lesser k (Some l))
least_of_two keys k l d ms unknown is =
    elim (cases_Bool (is_lt (slice_cmp nat_cmp l k))) [
      | inl less ↦ rw less record {
        stands = stands_in_rest l k d ms is.stands;
        unknown = is.unknown;
        least = λ other stands new. elim (first_or_rest other k d ms stands) [
          | inl same ↦ λ lower. not_less_itself l (nat_list_cmp_total.trans l k l (less_is (slice_cmp nat_cmp l k) less) (rw same at lower))
          | inr rest ↦ is.least other rest new
        ];
      }
      | inr more ↦ rw more record {
        stands = stands_first k d ms;
        unknown = unknown;
        least = λ other stands new. elim (first_or_rest other k d ms stands) [
          | inl same ↦ λ lower. not_less_itself k (rw same at lower)
          | inr rest ↦ λ lower. is.least other rest new (not_less other k l (slice_cmp nat_cmp l k) refl more lower)
        ];
      }
    ]

after_unknown : (keys : List Key) (k : List ℕ) (d : Data) (ms : Members) (o : Option (List ℕ)) → is_known keys k ≡ false → Tells keys ms o → Tells keys (member k d ms) (Some (lesser k o))
unfolding Tells
after_unknown keys k d ms None unknown only = record {
  stands = stands_first k d ms;
  unknown = unknown;
  least = λ other stands new. elim (first_or_rest other k d ms stands) [
    | inl same ↦ λ lower. not_less_itself k (rw same at lower)
    | inr rest ↦ absurd (known_and_unknown (is_known keys other) (only other rest) new)
  ];
}
after_unknown keys k d ms (Some l) unknown is = least_of_two keys k l d ms unknown is

tells : (keys : List Key) (ms : Members) → Tells keys ms (least_unknown keys (member_names ms))
unfolding Tells
tells keys no_members = λ name stands. absurd (true≢false (sym stands))
tells keys (member k d ms) =
    elim (cases_Bool (is_known keys k)) [
      | inl known ↦ rw known (after_known keys k d ms (least_unknown keys (member_names ms)) known (tells keys ms))
      | inr unknown ↦ rw unknown (after_unknown keys k d ms (least_unknown keys (member_names ms)) unknown (tells keys ms))
    ]

-- there is one least unknown name
one_least : (keys : List Key) (ms : Members) (m n : List ℕ) → IsLeastUnknown keys ms m → IsLeastUnknown keys ms n → (o : Ordering) → slice_cmp nat_cmp m n ≡ o → m ≡ n
one_least keys ms m n a b Less is = absurd (b.least m a.stands a.unknown is)
one_least keys ms m n a b Equal is = tied m n is
one_least keys ms m n a b Greater is = absurd (a.least n b.stands b.unknown (nat_list_cmp_total.antisymm n m ∙ ap ordering_reverse is))

passes : (s : Section) (keys : List Key) (ms : Members) (o : Option (List ℕ)) → least_unknown keys (member_names ms) ≡ o → Tells keys ms o → (only_known s keys ms ≡ Ok tt) ↔ HasOnly keys ms
unfolding Tells
passes s keys ms None is only = ((λ _. only), (λ _. no_name_passes s keys ms is))
passes s keys ms (Some l) is least =
    ((λ ok. let failed = no_name_fault s keys ms l is in absurd cc), (λ only. absurd (known_and_unknown (is_known keys l) (only l least.stands) least.unknown)))

fails : (s : Section) (keys : List Key) (ms : Members) (o : Option (List ℕ)) → least_unknown keys (member_names ms) ≡ o → Tells keys ms o → (name : List ℕ) → (only_known s keys ms ≡ Err (UnknownKey s name)) ↔ IsLeastUnknown keys ms name
unfolding Tells
fails s keys ms None is only name =
    ((λ failed. let passed = no_name_passes s keys ms is in absurd cc), (λ least. absurd (known_and_unknown (is_known keys name) (only name least.stands) least.unknown)))
fails s keys ms (Some l) is least name = (
  (λ failed. let here = no_name_fault s keys ms l is in let same : l ≡ name = cc in rw (← same) least),
  (λ other. let same : l ≡ name = one_least keys ms l name least other (slice_cmp nat_cmp l name) refl in rw (← same) (no_name_fault s keys ms l is)),
)

pub refuses_least_unknown : RefusesLeastUnknown
refuses_least_unknown s keys ms =
    (passes s keys ms (least_unknown keys (member_names ms)) refl (tells keys ms), fails s keys ms (least_unknown keys (member_names ms)) refl (tells keys ms))
