-- Targets where commands may have to wait: that they differ, and what comes to one of two targets may have to wait, is that commands wait at two places.
use Rattle.std.proofs.Common.{◌≡◌, ℕ, Bool, true, false, not, ◌&&◌, ◌||◌, Option, Some, None, refl, sym, ap, ◌∙◌, eq-eqb}
use Rattle.std.specs.Prelude.{◌==◌, if◌then◌else◌}
use Rattle.std.proofs.lemmas.Bool.{eqb-true, false≢true}
use Rattle.sw_config.specs.Entries.{Declaration}
use Rattle.sw_config.specs.Limits.{may_make_wait}
use Rattle.sw_linter.specs.FlowPlaces.{FlowPlace}
use Rattle.sw_linter.specs.Lints.{can_block}
use Rattle.sw_linter.specs.Marks.{is_same_wait, waits_at}
use Rattle.sw_topo.proofs.Lists.{same_bool}

-- where the commands of the flow may have to wait
abbrev pub waits : Declaration → FlowPlace → Option ℕ
waits d v = waits_at d v.flow.to

-- the commands of w wait elsewhere than those of v
abbrev pub elsewhere : Declaration → FlowPlace → FlowPlace → Bool
elsewhere d v w = not (is_same_wait (waits d w) (waits d v))

pub same_wait : (a b : Option ℕ) → is_same_wait a b ≡ true → a ≡ b
same_wait None None is = refl
same_wait None (Some n) is = absurd (false≢true is)
same_wait (Some m) None is = absurd (false≢true is)
same_wait (Some m) (Some n) is = ap Some (eqb-true m n is)

pub itself : (a : Option ℕ) → is_same_wait a a ≡ true
itself None = refl
itself (Some m) = eq-eqb m m refl

eqb_sym : (a b : ℕ) → (a == b) ≡ (b == a)
eqb_sym a b = same_bool (a == b) (b == a) (λ is. eq-eqb b a (sym (eqb-true a b is))) (λ is. eq-eqb a b (sym (eqb-true b a is)))

pub turned : (a b : Option ℕ) → is_same_wait a b ≡ is_same_wait b a
turned None None = refl
turned None (Some n) = refl
turned (Some m) None = refl
turned (Some m) (Some n) = eqb_sym m n

-- two nodes, and what comes to one of them may have to wait
waits_apart : (m n : ℕ) (wait : ℕ → Bool) → not (n == m) && (wait m || wait n) ≡ not (is_same_wait (if wait n then Some n else None) (if wait m then Some m else None))
waits_apart m n wait = by (wait m) refl (wait n) refl (n == m) refl
  where
    by : (a : Bool) → wait m ≡ a → (b : Bool) → wait n ≡ b → (e : Bool) → (n == m) ≡ e
        → not e && (a || b) ≡ not (is_same_wait (if b then Some n else None) (if a then Some m else None))
    by true one true two e is = and_true (not e) ∙ ap not (sym is)
      where
        and_true : (x : Bool) → x && true ≡ x
        and_true true = refl
        and_true false = refl
    by true one false two true is = absurd (false≢true (sym two ∙ ap wait (eqb-true n m is) ∙ one))
    by true one false two false is = refl
    by false one true two true is = absurd (false≢true (sym one ∙ ap wait (sym (eqb-true n m is)) ∙ two))
    by false one true two false is = refl
    by false one false two true is = refl
    by false one false two false is = refl

pub can_block_is : (d : Declaration) (v w : FlowPlace) → can_block d v w ≡ elsewhere d v w
can_block_is d v w = waits_apart v.flow.to w.flow.to (may_make_wait d)
