-- Two initiator addresses between two nodes, one earlier flow more at a time.
use Rattle.std.proofs.Common.{◌≡◌, ◌∙◌, ◌+◌, ℕ, arith, Option, Some, ap, sym}
use Rattle.std.specs.Prelude.{option_and_then, option_map, slice_get}
use Rattle.std.specs.List.{range_with_len}
use Rattle.sw_config.specs.Entries.{Declaration, FlowEntry, ReplyEntry}
use Rattle.sw_linter.specs.Lints.{differing, first_made, other_initiator, two_initiators}
use Rattle.sw_linter.specs.declared.lint.Lint.{Lint}
use Rattle.sw_linter.specs.declared.lint.Lint.TheVariants.{TwoInitiators}

-- what is told of an earlier flow
pub differs : (d : Declaration) (i : ℕ) (f : FlowEntry) (initiator j : ℕ) (g : FlowEntry) (o : Option ℕ) → slice_get d.flows j ≡ Some g → other_initiator f initiator g ≡ o
    → differing d i f initiator j ≡ option_map (λ one. TwoInitiators j i one initiator) o
differs d i f initiator j g o here is =
    ap (λ q. option_map (λ one. TwoInitiators j i one initiator) (option_and_then (other_initiator f initiator) q)) here
    ∙ ap (option_map (λ one. TwoInitiators j i one initiator)) is

-- the number as that of a step from 0
pub at_first : (d : Declaration) (i : ℕ) (f : FlowEntry) (initiator j : ℕ) (o : Option Lint) → differing d i f initiator j ≡ o → differing d i f initiator (0 + j) ≡ o
at_first d i f initiator j o is = let same : 0 + j ≡ j = omega arith in ap (differing d i f initiator) same ∙ is

-- of a flow with that reply
pub of_reply : (d : Declaration) (i : ℕ) (f : FlowEntry) (r : ReplyEntry) (initiator : ℕ) → f.reply ≡ Some r → initiator ≡ r.initiator
    → two_initiators d i f ≡ first_made (differing d i f initiator) (range_with_len 0 i)
of_reply d i f r initiator has is =
    ap (λ (o : Option ReplyEntry). option_and_then (λ (s : ReplyEntry). first_made (differing d i f s.initiator) (range_with_len 0 i)) o) has
    ∙ ap (λ n. first_made (differing d i f n) (range_with_len 0 i)) (sym is)
