use Rattle.std.proofs.Common.{◌≡◌, ◌+◌, ◌<◌, ◌∷◌, ◌++◌, [], ℕ, List, All, length, take, get_or, not, sym, ap, ◌∙◌, subst}
use Rattle.std.specs.List.{flat_map}
use Rattle.std.proofs.lemmas.Grind.{flat_map-append}
use Rattle.std.proofs.lemmas.List.{take_all, take_more, append-nil}
use Rattle.std.proofs.lemmas.List.Elements.{All-get_or}
use Rattle.sw_graph.specs.Rows.{row}
use Rattle.sw_graph.proofs.Listed.{row_within}
use Rattle.sw_graph.proofs.Adding.{added_none, added_step, kept_step}
use Rattle.sw_graph.proofs.search.add_next.Goals.{then-is_none+in_ok-push, else-is_none}
use Rattle.sw_graph.proofs.search.add_next.Goals as goal

pub loop-c-init : goal.loop-c-init
loop-c-init c = added_none c.args.count c.args.steps.now c.args.level.now.items

pub row_of-d-items-requires : goal.row_of-d-items-requires
row_of-d-items-requires c = All-get_or (λ d. d < length c.args.rows.now) c.args.from.now c.loop-c.c-index 0 c.loop-c-test.true c.requires.inside

pub loop-d-init : goal.loop-d-init
loop-d-init c = rw (append-nil (flat_map (row c.args.rows.now) (take c.loop-c.c-index c.args.from.now))) c.loop-c.invariant

pub loop-d-preserved : goal.loop-d-preserved
loop-d-preserved c =
    let from = c.args.from.now in
    let rows = c.args.rows.now in
    let old = c.args.steps.now in
    let e = get_or from c.loop-c.c-index 0 in
    let before : List ℕ = flat_map (row rows) (take c.loop-c.c-index from) in
    let xs = c.row_of-d-items.result.now in
    let i = c.loop-d.d-index in
    let steps = c.loop-d.steps in
    let level = c.loop-d.level.items in
    let lt = All-get_or (λ d. d < length rows) from c.loop-c.c-index 0 c.loop-c-test.true c.requires.inside in
    let within = All-get_or (λ d. d < length rows) xs i 0 c.loop-d-test.true (subst (λ (l : List ℕ). All (λ d. d < length rows) l) (sym c.row_of-d-items.ensures) (row_within rows e c.requires.graph lt)) in
    let inside : c.from-at.result < length steps = subst (λ (n : ℕ). c.from-at.result < n) (sym (c.loop-d.invariant.size ∙ c.requires.size)) (subst (λ (k : ℕ). k < length rows) (sym c.from-at.ensures) within) in
    elim c.if-is_none.branch [
      | then-is_none+in_ok-push w ↦
          added_step before xs i c.args.count c.from-at.result old steps _ c.args.level.now.items level _ c.loop-d-test.true c.from-at.ensures c.loop-d.invariant inside (c.is_none.ensures ∙ ap not w.if-is_none.true)
          w.steps-is (ap (λ v. v.items) w.level-is ∙ w.in_ok-push.ensures.items)
      | else-is_none w ↦
          kept_step before xs i c.args.count c.from-at.result old steps _ c.args.level.now.items level _ c.loop-d-test.true c.from-at.ensures c.loop-d.invariant (c.is_none.ensures ∙ ap not w.if-is_none.false)
          w.steps-is (ap (λ v. v.items) w.level-is)
    ]

pub loop-c-preserved : goal.loop-c-preserved
loop-c-preserved c =
    let xs = c.args.from.now in
    let f = row c.args.rows.now in
    let i = c.loop-c.c-index in
    let e = get_or xs i 0 in
    let items = c.row_of-d-items.result.now in
    let one : flat_map f (e ∷ []) ≡ f e = append-nil (f e) in
    let parts : flat_map f (take (i + 1) xs) ≡ flat_map f (take i xs) ++ items = ap (flat_map f) (take_more xs i 0 c.loop-c-test.true) ∙ flat_map-append f (take i xs) (e ∷ []) ∙ ap (λ l. flat_map f (take i xs) ++ l) (one ∙ sym c.row_of-d-items.ensures) in
    let all = ap (λ l. flat_map f (take i xs) ++ l) (take_all c.loop-d.d-index items c.loop-d-test.false) in
    rw (parts, sym all) c.loop-d.invariant

pub returns : goal.returns
returns c = rw (take_all c.loop-c.c-index c.args.from.now c.loop-c-test.false) at c.loop-c.invariant

pub bounds-steps-at : goal.bounds-steps-at
bounds-steps-at c =
    let rows = c.args.rows.now in
    let xs = c.row_of-d-items.result.now in
    let e = get_or c.args.from.now c.loop-c.c-index 0 in
    let lt = All-get_or (λ d. d < length rows) c.args.from.now c.loop-c.c-index 0 c.loop-c-test.true c.requires.inside in
    let within = All-get_or (λ d. d < length rows) xs c.loop-d.d-index 0 c.loop-d-test.true (subst (λ (l : List ℕ). All (λ d. d < length rows) l) (sym c.row_of-d-items.ensures) (row_within rows e c.requires.graph lt)) in
    subst (λ (n : ℕ). c.from-at.result < n) (sym (c.loop-d.invariant.size ∙ c.requires.size)) (subst (λ (k : ℕ). k < length rows) (sym c.from-at.ensures) within)

pub bounds-steps-at-then-is_none : goal.bounds-steps-at-then-is_none
bounds-steps-at-then-is_none c =
    let rows = c.args.rows.now in
    let xs = c.row_of-d-items.result.now in
    let e = get_or c.args.from.now c.loop-c.c-index 0 in
    let lt = All-get_or (λ d. d < length rows) c.args.from.now c.loop-c.c-index 0 c.loop-c-test.true c.requires.inside in
    let within = All-get_or (λ d. d < length rows) xs c.loop-d.d-index 0 c.loop-d-test.true (subst (λ (l : List ℕ). All (λ d. d < length rows) l) (sym c.row_of-d-items.ensures) (row_within rows e c.requires.graph lt)) in
    subst (λ (n : ℕ). c.from-at.result < n) (sym (c.loop-d.invariant.size ∙ c.requires.size)) (subst (λ (k : ℕ). k < length rows) (sym c.from-at.ensures) within)
