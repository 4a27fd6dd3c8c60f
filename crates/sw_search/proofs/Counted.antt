-- Counts of places and of dependencies.
use Rattle.std.proofs.Common.{◌≡◌, ◌≢◌, ℕ, ◌+◌, ◌≤◌, List, [], ◌∷◌, map, length, get_or, Contains, Vec, Global, refl, sym, ap, ◌∙◌, subst, arith, All}
use Rattle.std.specs.Prelude.{AllPairs, sum}
use Rattle.std.specs.List.{AllByRecursion}
use Rattle.std.proofs.lemmas.List.Elements.{All-from_recursion, recursion_from_All}
use Rattle.sw_config.specs.Entries.{FlowEntry, Declaration, all_flows}
use Rattle.sw_config.specs.Valid.{IsValid}
use Rattle.sw_flow.specs.declared.place.Place.{Place}
use Rattle.sw_flow.specs.Places.{ends_of, IsPlaceList}
use Rattle.sw_cert.specs.Grammar.{IsBlock}
use Rattle.sw_cert.specs.Reading.{items_of}
use Rattle.sw_graph.specs.Rows.{row}
use Rattle.sw_search.specs.Findings.{IsDependencyCount, IsPlaceCount}
use Rattle.sw_search.specs.Lists.{AreListed, AreRows}
use Rattle.sw_search.proofs.Blocks.{are_blocks}
use Rattle.sw_search.proofs.Pairs.{count_pairs, few_numbers, listed_pair, once_listed, once_pairs, pair_listed, pairs_from}
use Rattle.sw_search.proofs.Zips.{zip_map}

-- ---- places

short_items : (lists : List (Vec Place Global)) → AllByRecursion IsBlock (map items_of lists) → AllByRecursion (λ (v : Vec Place Global). length v.items ≤ 67584) lists
short_items [] h = tt
short_items (v ∷ lists) h = (h.0.0, short_items lists h.1)

pub short_lists : (d : Declaration) (lists : List (Vec Place Global)) → IsValid d → length (ends_of d) ≤ 2048 → AreListed d lists → All (λ (v : Vec Place Global). length v.items ≤ 67584) lists
short_lists d lists valid few listed = All-from_recursion (λ (v : Vec Place Global). length v.items ≤ 67584) lists (short_items lists (are_blocks d lists valid few listed))

lengths : (lists : List (Vec Place Global)) → map length (map items_of lists) ≡ map (λ (v : Vec Place Global). length v.items) lists
lengths [] = refl
lengths (v ∷ lists) = ap (λ (l : List ℕ). length v.items ∷ l) (lengths lists)

pub places_counted : (d : Declaration) (lists : List (Vec Place Global)) → AreListed d lists → (count : ℕ) → count ≡ sum (map (λ (v : Vec Place Global). length v.items) lists) → IsPlaceCount d count
places_counted d lists listed count is = record {
  places = map items_of lists;
  listed = zip_map (λ (f : FlowEntry) (v : Vec Place Global). IsPlaceList d f v.items) items_of (IsPlaceList d) (λ f v h. h) (all_flows d) lists listed;
  counted = is ∙ ap sum (sym (lengths lists));
}

-- ---- dependencies

pub short_rows : (d : Declaration) (rows : List (Vec ℕ Global)) → length (ends_of d) ≤ 2048 → AreRows d rows → All (λ (v : Vec ℕ Global). length v.items ≤ 2048) rows
short_rows d rows few h i v lt =
    let n = few_numbers (length rows) (get_or rows i v).items (h.graph i v lt) (h.once i v lt) in
    let size = h.size in
    omega arith

pub dependencies_counted : (d : Declaration) (rows : List (Vec ℕ Global)) → AreRows d rows → (count : ℕ) → count ≡ sum (map (λ (v : Vec ℕ Global). length v.items) rows) → IsDependencyCount d count
dependencies_counted d rows h count is = record {
  pairs = pairs_from 0 rows;
  once = once_pairs (pairs_from 0 rows) (once_listed 0 rows (recursion_from_All (λ (v : Vec ℕ Global). AllPairs (λ x y. x ≢ y) v.items) rows h.once));
  member = λ p. (
    λ m.
        let r = pair_listed 0 rows p m in
        let first = r.first in
        let at : r.index ≡ p.0 = omega arith in
        (h.exact p.0 p.1).0 (subst (λ (c : ℕ). Contains (row rows c) p.1) at r.second),
    λ depends.
        let at : 0 + p.0 ≡ p.0 = omega arith in
        subst (λ (c : ℕ). Contains (pairs_from 0 rows) (c, p.1)) at (listed_pair 0 rows p.0 p.1 ((h.exact p.0 p.1).1 depends)),
  );
  counted = is ∙ count_pairs 0 rows;
}
