use Rattle.std.proofs.Common.{◌≡◌, ◌∙◌, [], ap, false, get_or, map, option_map, rules, sym, true}
use Rattle.std.proofs.lemmas.Result.{IfOk-weaker}
use Rattle.std.specs.Str.{str_eq_ignore_ascii_case}
use Rattle.sw_topo.specs.Checked.{first_of}
use Rattle.sw_faults.specs.Nearest.{nearest}
use Rattle.sw_faults.proofs.Firsts.{first_here, near_first, near_second, none_still, none_there}
use Rattle.sw_faults.proofs.nearest.like.Goals as goal

pub returns-then-eq_ignore_ascii_case : goal.returns-then-eq_ignore_ascii_case
returns-then-eq_ignore_ascii_case c =
    let passes : str_eq_ignore_ascii_case (get_or c.args.texts.now c.loop-text.text-index record { ref_ptr = (0, 0); now = [] }).now c.args.name.now ≡ true = search rules in
    let here = first_here (λ t. str_eq_ignore_ascii_case t c.args.name.now) (λ t. t.now) c.args.texts.now c.loop-text.text-index record { ref_ptr = (0, 0); now = [] } c.loop-text-test.true c.loop-text.invariant passes in
    ap (λ found. first_of found (nearest c.args.name.now (map (λ t. t.now) c.args.texts.now))) (sym here)

pub loop-text-preserved : goal.loop-text-preserved
loop-text-preserved c =
    let fails : str_eq_ignore_ascii_case (get_or c.args.texts.now c.loop-text.text-index record { ref_ptr = (0, 0); now = [] }).now c.args.name.now ≡ false = search rules in
    none_still (λ t. str_eq_ignore_ascii_case t c.args.name.now) (λ t. t.now) c.args.texts.now c.loop-text.text-index record { ref_ptr = (0, 0); now = [] } c.loop-text-test.true c.loop-text.invariant fails

pub returns-in-Some : goal.returns-in-Some
returns-in-Some c =
    let name = c.args.name.now in
    let none = none_there (λ t. str_eq_ignore_ascii_case t name) (λ t. t.now) c.args.texts.now c.loop-text.text-index c.loop-text-test.false c.loop-text.invariant in
    near_first name (map (λ t. t.now) c.args.texts.now) c.in-Some.text.now none (sym (ap (option_map (λ t. t.now)) c.in-Some.is) ∙ c.in_ok-text.ensures)

pub returns-in-None : goal.returns-in-None
returns-in-None c =
    let name = c.args.name.now in
    let none = none_there (λ t. str_eq_ignore_ascii_case t name) (λ t. t.now) c.args.texts.now c.loop-text.text-index c.loop-text-test.false c.loop-text.invariant in
    let farther = sym (ap (option_map (λ t. t.now)) c.in-None.is) ∙ c.in_ok-text.ensures in
    IfOk-weaker c.first_at-in-None.result _ _ (λ o is. near_second name (map (λ t. t.now) c.args.texts.now) _ none farther is) c.first_at-in-None.ensures
