-- The rows, step by step.
use Rattle.std.proofs.Common.{◌≡◌, ◌≢◌, if◌then◌else◌, ℕ, zero, suc, ◌+◌, ◌<◌, inl, inr, Bool, true, false, List, [], ◌∷◌, ◌++◌, filter_map, length, get_or, Option, Some, None, refl, sym, ap, ◌∙◌, subst, arith, Contains, length-append}
use Rattle.std.specs.Prelude.{slice_get, slice_index, AllPairs, Vec}
use Rattle.std.specs.Option.{option_to_list}
use Rattle.std.specs.List.{cons_option}
use Rattle.std.specs.declared.alloc.Global.{Global}
use Rattle.std.proofs.lemmas.Bool.{cases_eq}
use Rattle.std.proofs.lemmas.List.{get_or_default}
use Rattle.std.proofs.lemmas.List.Elements.{Contains-get_or}
use Rattle.std.proofs.lemmas.List.Kept.{AllPairs-from_increasing, AllPairs-cons}
use Rattle.sw_topo.specs.declared.place.PlaceEnd.{PlaceEnd}
use Rattle.sw_topo.specs.declared.place.PlaceEnd.TheVariants.{Node, Switch}
use Rattle.sw_topo.specs.Wiring.{Wiring, out, out_of, partner}
use Rattle.sw_topo.specs.Ports.{ports_of}
use Rattle.sw_topo.proofs.Ends.{port_starts}
use Rattle.sw_topo.proofs.PortWalk.{ports_listed}
use Rattle.sw_config.specs.Entries.{Declaration, wiring_of}
use Rattle.sw_flow.specs.Places.{ends_of, end_of}
use Rattle.sw_flow.proofs.Listed.{Contains-from_filter_map}
use Rattle.sw_graph.specs.Rows.{row}
use Rattle.sw_graph.proofs.Listed.{row_read}
use Rattle.sw_graph.specs.Rounds.{is_marked}
use Rattle.sw_cycle.specs.Rows.{AreOnce, AreRows, row_at_end, row_of}

-- ---- one more row

row_before : (rows : List (Vec ℕ Global)) (v : Vec ℕ Global) (c : ℕ) → c < length rows → row (rows ++ v ∷ []) c ≡ row rows c
row_before [] v c lt = absurd (omega arith)
row_before (x ∷ rows) v zero lt = refl
row_before (x ∷ rows) v (suc c) lt = row_before rows v c (omega arith)

row_last : (rows : List (Vec ℕ Global)) (v : Vec ℕ Global) (c : ℕ) → c ≡ length rows → row (rows ++ v ∷ []) c ≡ v.items
row_last [] v zero e = refl
row_last [] v (suc c) e = absurd (omega arith)
row_last (x ∷ rows) v zero e = absurd (omega arith)
row_last (x ∷ rows) v (suc c) e = row_last rows v c (omega arith)

module _ (d : Declaration) (sets : List ℕ) (marks : List Bool) where
  pub rows_none : AreRows d sets marks 0 []
  rows_none = record { size = refl; each = λ c lt. absurd (omega arith) }

  pub rows_more : (n : ℕ) (rows : List (Vec ℕ Global)) (v : Vec ℕ Global) → AreRows d sets marks n rows → v.items ≡ row_of d sets marks n → AreRows d sets marks (n + 1) (rows ++ v ∷ [])
  rows_more n rows v a is =
      let size = a.size in
      record {
        size = length-append rows (v ∷ []) ∙ omega arith;
        each = λ c lt. elim (cases_eq c n) [
          | inl same ↦ row_last rows v c (omega arith) ∙ is ∙ ap (row_of d sets marks) (sym same)
          | inr other ↦ row_before rows v c (omega arith) ∙ a.each c (omega arith)
        ];
      }

  -- the row as the code makes it
  pub row_is : (c set channel : ℕ) (w : Wiring) (items : List ℕ) → w ≡ wiring_of d → channel ≡ c → set ≡ slice_index sets c
      → items ≡ row_at_end w.ends set marks (slice_get w.ends (partner channel)) → items ≡ row_of d sets marks c
  unfolding row_of
  row_is c set channel w items wired same at is =
      is ∙ ap (λ (v : Wiring). row_at_end v.ends set marks (slice_get v.ends (partner channel))) wired ∙ ap (λ (k : ℕ). row_at_end (ends_of d) set marks (slice_get (ends_of d) (partner k))) same
      ∙ ap (λ (s : ℕ). row_at_end (ends_of d) s marks (end_of d c)) at

-- ---- no channel twice

tail_apart : (x : ℕ) (xs : List ℕ) → AllPairs (λ a b. a ≢ b) (x ∷ xs) → AllPairs (λ a b. a ≢ b) xs
tail_apart x xs h = λ i j p ij lt. h (suc i) (suc j) p (omega arith) (omega arith)

head_apart : (x y : ℕ) (xs : List ℕ) → AllPairs (λ a b. a ≢ b) (x ∷ xs) → Contains xs y → x ≢ y
head_apart x y xs h here = λ same. h 0 (suc here.0) y (omega arith) (let lt = here.1 in omega arith) (same ∙ sym here.2)

-- where no two elements give the same
filter_apart : (h : ℕ → Option ℕ) → ((p q e : ℕ) → h p ≡ Some e → h q ≡ Some e → p ≡ q) → (xs : List ℕ) → AllPairs (λ a b. a ≢ b) xs → AllPairs (λ a b. a ≢ b) (filter_map h xs)
filter_apart h one [] apart = λ i j p ij lt. absurd (omega arith)
filter_apart h one (x ∷ xs) apart = by (h x) refl (filter_apart h one xs (tail_apart x xs apart))
  where
    by : (o : Option ℕ) → h x ≡ o → AllPairs (λ a b. a ≢ b) (filter_map h xs) → AllPairs (λ a b. a ≢ b) (cons_option o (filter_map h xs))
    by None e rest = rest
    by (Some y) e rest = AllPairs-cons (λ a b. a ≢ b) y (filter_map h xs) (λ i p lt same.
        let later = Contains-from_filter_map h xs (get_or (filter_map h xs) i p) (Contains-get_or (filter_map h xs) i p lt) in
        head_apart x later.0 xs apart later.1 (one x later.0 y e (later.2 ∙ ap Some (sym same)))) rest

ports_apart : (set : ℕ) → AllPairs (λ a b. a ≢ b) (ports_of set)
ports_apart set = λ i j p ij lt same. let below = AllPairs-from_increasing (ports_of set) (ports_listed set).rising i j p ij lt in omega arith

module _ (w : Wiring) where
  one_port : (s p q e : ℕ) → out_of w.ends s p ≡ Some e → out_of w.ends s q ≡ Some e → p ≡ q
  one_port s p q e at_p at_q =
      let two : Some (Switch s p) ≡ Some (Switch s q) = sym (port_starts w s p e at_p) ∙ port_starts w s q e at_q in
      cc

  row_apart : (set : ℕ) (marks : List Bool) (o : Option PlaceEnd) → AllPairs (λ a b. a ≢ b) (row_at_end w.ends set marks o)
  row_apart set marks None = λ i j p ij lt. absurd (omega arith)
  row_apart set marks (Some (Switch s p)) = filter_apart (out_of w.ends s) (one_port s) (ports_of set) (ports_apart set)
  row_apart set marks (Some (Node n)) = by (is_marked marks n) (out w.ends n)
    where
      by : (b : Bool) (o : Option ℕ) → AllPairs (λ a b. a ≢ b) (if b then option_to_list o else [])
      by false o = λ i j p ij lt. absurd (omega arith)
      by true None = λ i j p ij lt. absurd (omega arith)
      by true (Some e) = λ i j p ij lt. absurd (omega arith)

pub rows_once : (d : Declaration) (sets : List ℕ) (marks : List Bool) (n : ℕ) (rows : List (Vec ℕ Global)) → AreRows d sets marks n rows → AreOnce rows
unfolding row_of
rows_once d sets marks n rows a c v lt =
    let size = a.size in
    let at : row rows c ≡ (get_or rows c v).items = row_read rows c (get_or rows c v) lt (get_or_default rows c v (get_or rows c v) lt) in
    subst (AllPairs (λ x y. x ≢ y)) (sym (a.each c (omega arith)) ∙ at) (row_apart (wiring_of d) (slice_index sets c) marks (end_of d c))
