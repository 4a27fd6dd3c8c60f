-- What a walk over words keeps of the matches, where it meets no fault.
use Rattle.std.proofs.Common.{◌≡◌, Bool, List, ℕ, Option, Some, None, [], ◌∷◌, true, false, refl, ap, subst, zero, suc, cond, drop, length, is_some}
use Rattle.std.specs.Prelude.{encode_utf8, find, slice_get}
use Rattle.std.specs.List.{fold}
use Rattle.std.specs.Option.{option_map_or, unwrap_or}
use Rattle.std.specs.Str.{bytes_eq, chars}
use Rattle.clap.specs.Lexer.{long_of, short_of}
use Rattle.clap.specs.Kinds.{Kinds, or_else}
use Rattle.clap.specs.Faults.{bundle_fault, bundle_step_fault, default_fault, defaults_fault, flag_word_fault, flags_fault, long_fault, option_fault, other_fault, positional_fault, react_fault, settle_fault, short_fault, step_fault, stray_fault, turn_fault, use_fault, walk_fault, word_fault}
use Rattle.clap.specs.Simple.{Shape}
use Rattle.clap.specs.Walk.{Held, Names, Outcome, Row, Rule, Step, Text, Waiting, Walk, after_flag, after_step, arg_by_id, arg_by_index, arg_by_long, arg_by_short, attached_value, bundle_met, bundle_step, done, flag_met, idle, long_met, long_or_other, next, option, option_met, option_word, plain, plain_word, positional, reacted, refused, settled, settled_rows, short_met, short_or_plain, subcommand, subcommand_met, subcommand_or_other, takes_values, to_positional, trailing, used, used_by_id, value, waits, walked, walked_from, with_default, word_met}
use Rattle.clap.specs.declared.error.kind.ErrorKind.TheVariants as kind

-- P holds of each
abbrev pub Each : {X : Type 0} → (X → Type 0) → List X → Type 0
Each P [] = Unit {0}
Each P (x ∷ xs) = P x × Each P xs

-- what is found passes the test, and P holds of it
pub found_in : {X : Type 0} (P : X → Type 0) (test : X → Bool) (xs : List X) (x : X) → Each P xs → find test xs ≡ Some x → P x × (test x ≡ true)
found_in P test [] x each is = absurd cc
found_in P test (y ∷ ys) x each is = go (test y) refl is (found_in P test ys x each.1)
  where
    go : (b : Bool) → test y ≡ b → cond b (Some y) (find test ys) ≡ Some x → (find test ys ≡ Some x → P x × (test x ≡ true)) → P x × (test x ≡ true)
    go true passes e rest =
        let same : y ≡ x = ap (λ o. unwrap_or o y) e in
        subst (λ z. P z × (test z ≡ true)) same (each.0, passes)
    go false fails e rest = rest e

-- two steps meet no fault where both meet none
pub first_none : (a b : Kinds) → or_else a b ≡ [] → a ≡ []
first_none [] b e = refl
first_none (k ∷ ks) b e = e

pub then_none : (a b : Kinds) → or_else a b ≡ [] → b ≡ []
then_none [] b e = e
then_none (k ∷ ks) b e = absurd cc

-- a use of the argument that meets no fault keeps P of each row
abbrev pub Keeps : (Row → Type 0) → Bool → Rule → Type 0
Keeps P again a = (values : List Text) (rows : List Row) → use_fault again a values rows ≡ [] → Each P rows → Each P (used a values rows)

-- and so does its default
abbrev pub KeepsDefault : (Row → Type 0) → Rule → Type 0
KeepsDefault P a = (rows : List Row) → default_fault rows a ≡ [] → Each P rows → Each P (with_default rows a)

module _ (P : Row → Type 0) (c : List Rule) (again : Bool) (kept : Each (Keeps P again) c) where
  -- the argument that is found, if any, keeps P
  by_test : (test : Rule → Bool) (a : Rule) → find test c ≡ Some a → Keeps P again a
  by_test test a is = (found_in (Keeps P again) test c a kept is).0

  settled_keeps : (h : Held) → settle_fault c again h ≡ [] → Each P h.rows → Each P (settled c h).rows
  settled_keeps h e each = go h.pending e
    where
      found : (o : Option Rule) (values : List Text) → ((a : Rule) → o ≡ Some a → Keeps P again a)
          → option_map_or (λ a. use_fault again a values h.rows) o [] ≡ [] → Each P (used_by_id o values h.rows)
      found None values keeps f = each
      found (Some a) values keeps f = keeps a refl values h.rows f each

      go : (p : Option (Text × List Text)) → option_map_or (λ p. option_map_or (λ a. use_fault again a p.1 h.rows) (arg_by_id c p.0) []) p [] ≡ []
          → Each P (settled_rows c p h.rows)
      go None f = each
      go (Some p) f = found (arg_by_id c p.0) p.1 (by_test _) f

  reacted_keeps : (a : Rule) → Keeps P again a → (values : List Text) (h : Held) → react_fault c again a values h ≡ [] → Each P h.rows
      → Each P (reacted c a values h).rows
  reacted_keeps a keeps values h e each =
      keeps values (settled c h).rows (then_none (settle_fault c again h) _ e) (settled_keeps h (first_none _ _ e) each)

  option_keeps : (a : Rule) → Keeps P again a → (v : Option Text) (h : Held) → option_fault c again a v h ≡ [] → Each P h.rows
      → Each P (option_met c a v h).0.rows
  option_keeps a keeps (Some v) h e each = reacted_keeps a keeps (v ∷ []) h e each
  option_keeps a keeps None h e each = settled_keeps h e each

  long_keeps : (o : Option Rule) → ((a : Rule) → o ≡ Some a → Keeps P again a) → (v : Option Text) (h : Held) → long_fault c again o v h ≡ []
      → Each P h.rows → Each P (long_met c o v h).0.rows
  long_keeps None keeps v h e each = each
  long_keeps (Some a) keeps v h e each = go (takes_values a) e
    where
      flag : (v : Option Text) → cond (is_some v) (kind.TooManyValues ∷ []) (react_fault c again a [] h) ≡ [] → Each P (flag_met c a v h).0.rows
      flag (Some v) f = each
      flag None f = reacted_keeps a (keeps a refl) [] h f each

      go : (b : Bool) → cond b (option_fault c again a v h) (cond (is_some v) (kind.TooManyValues ∷ []) (react_fault c again a [] h)) ≡ []
          → Each P (cond b (option_met c a v h) (flag_met c a v h)).0.rows
      go true f = option_keeps a (keeps a refl) v h f each
      go false f = flag v f

  short_keeps : (o : Option Rule) → ((a : Rule) → o ≡ Some a → Keeps P again a) → (rest : Text) (h : Held) (fault : Held → Kinds) (more : Held → Held × Outcome)
      → ((g : Held) → fault g ≡ [] → Each P g.rows → Each P (more g).0.rows)
      → short_fault c again o rest h fault ≡ [] → Each P h.rows → Each P (short_met c o rest h more).0.rows
  short_keeps None keeps rest h fault more after e each = each
  short_keeps (Some a) keeps rest h fault more after e each = go (takes_values a) e
    where
      go : (b : Bool) → cond b (option_fault c again a (attached_value rest) h) (or_else (react_fault c again a [] h) (fault (reacted c a [] h))) ≡ []
          → Each P (cond b (option_met c a (attached_value rest) h) (more (reacted c a [] h))).0.rows
      go true f = option_keeps a (keeps a refl) (attached_value rest) h f each
      go false f = after (reacted c a [] h) (then_none (react_fault c again a [] h) _ f) (reacted_keeps a (keeps a refl) [] h (first_none _ _ f) each)

  bundle_step_keeps : (o : Option ℕ) (flags : Text) (skip : ℕ) (so_far : Outcome) (h : Held) (fault : Text → ℕ → Held → Kinds)
      (more : Text → ℕ → Outcome → Held → Held × Outcome)
      → ((t : Text) (k : ℕ) (x : Outcome) (g : Held) → fault t k g ≡ [] → Each P g.rows → Each P (more t k x g).0.rows)
      → bundle_step_fault c again o flags skip h fault ≡ [] → Each P h.rows → Each P (bundle_step c o flags skip so_far h more).0.rows
  bundle_step_keeps None flags skip so_far h fault more after e each = each
  bundle_step_keeps (Some x) flags zero so_far h fault more after e each =
      let rest = drop (length (encode_utf8 x)) flags in
      short_keeps (arg_by_short c x) (by_test _) rest h (fault rest 0) (more rest 0 done) (after rest 0 done) e each
  bundle_step_keeps (Some x) flags (suc skip) so_far h fault more after e each =
      after (drop (length (encode_utf8 x)) flags) skip so_far h e each

  bundle_keeps : (k : ℕ) (flags : Text) (skip : ℕ) (so_far : Outcome) (h : Held) → flags_fault c again k flags skip h ≡ [] → Each P h.rows
      → Each P (bundle_met c k flags skip so_far h).0.rows
  unfolding flags_fault bundle_met
  bundle_keeps zero flags skip so_far h e each = each
  bundle_keeps (suc k) flags skip so_far h e each =
      bundle_step_keeps (slice_get (chars flags) 0) flags skip so_far h (flags_fault c again k) (bundle_met c k) (bundle_keeps k) e each

  plain_keeps : (waiting : Waiting) (word : Text) (h : Held) → Each P h.rows → Each P (plain_word c waiting word h).0.rows
  plain_keeps idle word h each = each
  plain_keeps positional word h each = each
  plain_keeps (option id) word h each = go (arg_by_id c id)
    where
      go : (o : Option Rule) → Each P (option_word o id word h).0.rows
      go None = each
      go (Some a) = each

  after_keeps : (waiting : Waiting) (word : Text) (h : Held) (outcome : Outcome) → Each P h.rows → Each P (after_flag c waiting word h outcome).0.rows
  after_keeps waiting word h done each = each
  after_keeps waiting word h (waits id) each = each
  after_keeps waiting word h plain each = plain_keeps waiting word h each
  after_keeps waiting word h refused each = plain_keeps waiting word h each

  flag_word_keeps : (o : Option (Text × Option Text)) (waiting : Waiting) (word : Text) (h : Held) → flag_word_fault c again o word h ≡ [] → Each P h.rows
      → Each P (long_or_other c waiting word o h).0.rows
  flag_word_keeps (Some p) waiting word h e each =
      let met = long_met c (arg_by_long c p.0) p.1 h in
      after_keeps waiting word met.0 met.1 (long_keeps (arg_by_long c p.0) (by_test _) p.1 h e each)
  flag_word_keeps None waiting word h e each = go (short_of word) e
    where
      go : (o : Option Text) → option_map_or (λ flags. bundle_fault c again flags h) o [] ≡ [] → Each P (short_or_plain c waiting word o h).0.rows
      go None f = plain_keeps waiting word h each
      go (Some flags) f =
          let met = bundle_met c (length flags) flags h.skip plain (record h { skip = 0 }) in
          after_keeps waiting word met.0 met.1 (bundle_keeps (length flags) flags h.skip plain (record h { skip = 0 }) f each)

module _ (P : Row → Type 0) (s : Shape) (kept : Each (Keeps P s.args_override_self) s.rules) where
  other_keeps : (o : Option Text) (waiting : Waiting) (position : ℕ) (word : Text) (h : Held) → other_fault s o word h ≡ [] → Each P h.rows
      → Each P (subcommand_or_other s.rules o waiting position word h).0.rows
  other_keeps (Some name) waiting position word h e each = each
  other_keeps None waiting position word h e each = go (bytes_eq word (45 ∷ 45 ∷ [])) e
    where
      go : (b : Bool) → cond b [] (flag_word_fault s.rules s.args_override_self (long_of word) word h) ≡ []
          → Each P (cond b (h, trailing position) (long_or_other s.rules waiting word (long_of word) h)).0.rows
      go true f = each
      go false f = flag_word_keeps P s.rules s.args_override_self kept (long_of word) waiting word h f each

  word_keeps : (names : Names) (is_trailing : Bool) (waiting : Waiting) (position : ℕ) (word : Text) (h : Held) → word_fault s names is_trailing waiting word h ≡ []
      → Each P h.rows → Each P (word_met s.rules names is_trailing waiting position word h).0.rows
  word_keeps names true waiting position word h e each = each
  word_keeps names false waiting position word h e each = other_keeps (subcommand_met names waiting word) waiting position word h e each

  step_keeps : (word : Text) (w : Walk) (h : Held) (step : Step) → step_fault s w.position h step ≡ [] → Each P h.rows
      → Each P (after_step s.rules word w h step).held.rows
  step_keeps word w h (next waiting) e each = each
  step_keeps word w h (trailing position) e each = each
  step_keeps word w h (subcommand name) e each = each
  step_keeps word w h value e each = go (arg_by_index s.rules w.position) e
    where
      held : (a : Rule) (b : Bool) → cond b [] (settle_fault s.rules s.args_override_self h) ≡ [] → Each P (cond b h (settled s.rules h)).rows
      held a true f = each
      held a false f = settled_keeps P s.rules s.args_override_self kept h f each

      go : (o : Option Rule) → option_map_or (λ a. positional_fault s.rules s.args_override_self a h) o (stray_fault s) ≡ []
          → Each P (to_positional s.rules o word w h).held.rows
      go None f = each
      go (Some a) f = held a _ f

  walked_keeps : (names : Names) (w : Walk) (word : Text) → turn_fault s names w word ≡ [] → Each P w.held.rows → Each P (walked s.rules names w word).held.rows
  unfolding walked
  walked_keeps names w word e each = go w.stopped e
    where
      met : Held × Step
      met = word_met s.rules names w.is_trailing w.waiting w.position word w.held

      go : (o : Option (Text × List Text))
          → cond (is_some o) [] (or_else (word_fault s names w.is_trailing w.waiting word w.held) (step_fault s w.position met.0 met.1)) ≡ []
          → Each P (walked_from s.rules names o w word).held.rows
      go (Some p) f = each
      go None f =
          step_keeps word w met.0 met.1 (then_none (word_fault s names w.is_trailing w.waiting word w.held) _ f)
          (word_keeps names w.is_trailing w.waiting w.position word w.held (first_none _ _ f) each)

  pub walk_keeps : (names : Names) (words : List Text) (w : Walk) → walk_fault s names w words ≡ [] → Each P w.held.rows
      → Each P (fold (walked s.rules names) w words).held.rows
  unfolding walk_fault
  walk_keeps names [] w e each = each
  walk_keeps names (word ∷ rest) w e each =
      walk_keeps names rest (walked s.rules names w word) (then_none (turn_fault s names w word) _ e) (walked_keeps names w word (first_none _ _ e) each)

  pub end_keeps : (h : Held) → settle_fault s.rules s.args_override_self h ≡ [] → Each P h.rows → Each P (settled s.rules h).rows
  end_keeps h e each = settled_keeps P s.rules s.args_override_self kept h e each

pub defaults_keep : (P : Row → Type 0) (rules : List Rule) (rows : List Row) → Each (KeepsDefault P) rules → defaults_fault rows rules ≡ [] → Each P rows
    → Each P (fold with_default rows rules)
unfolding defaults_fault
defaults_keep P [] rows kept e each = each
defaults_keep P (a ∷ rest) rows kept e each =
    defaults_keep P rest (with_default rows a) kept.1 (then_none (default_fault rows a) _ e) (kept.0 rows (first_none _ _ e) each)
