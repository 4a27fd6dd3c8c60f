-- A walk that meets no fault stops at no subcommand `help`.
use Rattle.std.proofs.Common.{◌≡◌, ◌&&◌, Bool, List, ℕ, Option, Some, None, [], ◌∷◌, true, false, not, refl, cond, codes, is_some}
use Rattle.std.specs.List.{fold}
use Rattle.std.specs.Str.{bytes_eq}
use Rattle.clap.specs.Lexer.{long_of, short_of}
use Rattle.clap.specs.Kinds.{or_else}
use Rattle.clap.specs.Faults.{other_fault, step_fault, turn_fault, walk_fault, word_fault}
use Rattle.clap.specs.Simple.{Shape}
use Rattle.clap.specs.Walk.{Held, Names, Outcome, Rule, Step, Text, Waiting, Walk, after_flag, after_step, arg_by_index, done, idle, long_or_other, next, option, plain, plain_word, positional, refused, short_or_plain, subcommand, subcommand_met, subcommand_or_other, to_positional, trailing, value, waits, walked, walked_from, word_met}
use Rattle.clap.specs.declared.error.kind.ErrorKind.TheVariants as kind
use Rattle.sw_args.proofs.Kept.{first_none, then_none}

-- the walk stopped nowhere, or at another name
abbrev pub NotAtHelp : Option (Text × List Text) → Type 0
NotAtHelp None = Unit {0}
NotAtHelp (Some p) = bytes_eq p.0 (codes "help") ≡ false

-- the step enters no subcommand, or one of another name
abbrev NotToHelp : Step → Type 0
NotToHelp (subcommand name) = bytes_eq name (codes "help") ≡ false
NotToHelp (next waiting) = Unit {0}
NotToHelp (trailing position) = Unit {0}
NotToHelp value = Unit {0}

plain_other : (c : List Rule) (waiting : Waiting) (word : Text) (h : Held) → NotToHelp (plain_word c waiting word h).1
plain_other c idle word h = tt
plain_other c positional word h = tt
plain_other c (option id) word h = tt

flag_other : (c : List Rule) (waiting : Waiting) (word : Text) (h : Held) (outcome : Outcome) → NotToHelp (after_flag c waiting word h outcome).1
flag_other c waiting word h done = tt
flag_other c waiting word h (waits id) = tt
flag_other c waiting word h plain = plain_other c waiting word h
flag_other c waiting word h refused = plain_other c waiting word h

short_other : (c : List Rule) (waiting : Waiting) (word : Text) (o : Option Text) (h : Held) → NotToHelp (short_or_plain c waiting word o h).1
short_other c waiting word None h = plain_other c waiting word h
short_other c waiting word (Some flags) h = flag_other c waiting word _ _

long_other : (c : List Rule) (waiting : Waiting) (word : Text) (o : Option (Text × Option Text)) (h : Held) → NotToHelp (long_or_other c waiting word o h).1
long_other c waiting word None h = short_other c waiting word (short_of word) h
long_other c waiting word (Some p) h = flag_other c waiting word _ _

module _ (s : Shape) (enabled : s.disable_help_subcommand ≡ false) where
  word_other : (o : Option Text) (waiting : Waiting) (position : ℕ) (word : Text) (h : Held) → other_fault s o word h ≡ []
      → NotToHelp (subcommand_or_other s.rules o waiting position word h).1
  word_other (Some name) waiting position word h e = go (bytes_eq name (codes "help")) refl s.disable_help_subcommand enabled e
    where
      go : (b : Bool) → bytes_eq name (codes "help") ≡ b → (disabled : Bool) → disabled ≡ false
          → cond (b && not disabled) (kind.DisplayHelp ∷ kind.InvalidSubcommand ∷ []) [] ≡ [] → bytes_eq name (codes "help") ≡ false
      go false is disabled off f = is
      go true is true off f = absurd cc
      go true is false off f = absurd cc
  word_other None waiting position word h e = go (bytes_eq word (45 ∷ 45 ∷ []))
    where
      go : (b : Bool) → NotToHelp (cond b (h, trailing position) (long_or_other s.rules waiting word (long_of word) h)).1
      go true = tt
      go false = long_other s.rules waiting word (long_of word) h

  met_other : (names : Names) (is_trailing : Bool) (waiting : Waiting) (position : ℕ) (word : Text) (h : Held) → word_fault s names is_trailing waiting word h ≡ []
      → NotToHelp (word_met s.rules names is_trailing waiting position word h).1
  met_other names true waiting position word h e = tt
  met_other names false waiting position word h e = word_other (subcommand_met names waiting word) waiting position word h e

  step_other : (word : Text) (w : Walk) (h : Held) (step : Step) → NotToHelp step → NotAtHelp w.stopped → NotAtHelp (after_step s.rules word w h step).stopped
  step_other word w h (next waiting) other before = before
  step_other word w h (trailing position) other before = before
  step_other word w h (subcommand name) other before = other
  step_other word w h value other before = go (arg_by_index s.rules w.position)
    where
      go : (o : Option Rule) → NotAtHelp (to_positional s.rules o word w h).stopped
      go None = before
      go (Some a) = tt

  walked_other : (names : Names) (w : Walk) (word : Text) → turn_fault s names w word ≡ [] → NotAtHelp w.stopped → NotAtHelp (walked s.rules names w word).stopped
  unfolding walked
  walked_other names w word e before = go w.stopped e before
    where
      met : Held × Step
      met = word_met s.rules names w.is_trailing w.waiting w.position word w.held

      go : (o : Option (Text × List Text))
          → cond (is_some o) [] (or_else (word_fault s names w.is_trailing w.waiting word w.held) (step_fault s w.position met.0 met.1)) ≡ []
          → NotAtHelp o → NotAtHelp (walked_from s.rules names o w word).stopped
      go (Some p) f other = other
      go None f other = step_other word w met.0 met.1 (met_other names w.is_trailing w.waiting w.position word w.held (first_none _ _ f)) before

  pub not_at_help : (names : Names) (words : List Text) (w : Walk) → walk_fault s names w words ≡ [] → NotAtHelp w.stopped
      → NotAtHelp (fold (walked s.rules names) w words).stopped
  unfolding walk_fault
  not_at_help names [] w e before = before
  not_at_help names (word ∷ rest) w e before =
      not_at_help names rest (walked s.rules names w word) (then_none (turn_fault s names w word) _ e) (walked_other names w word (first_none _ _ e) before)
