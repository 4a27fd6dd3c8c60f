-- What is told of one kind of slip after the other.
use Rattle.std.proofs.Common.{◌≡◌, ◌∙◌, ℕ, ◌+◌, ◌<◌, List, [], ◌∷◌, ◌++◌, ap, append-nil, append_assoc, get_or, length, sym, take}
use Rattle.std.specs.Prelude.{flat_map}
use Rattle.std.proofs.lemmas.List.{flat_map_more, take_more}
use Rattle.sw_config.specs.Entries.{Declaration}
use Rattle.sw_linter.specs.Marks.{MarkLists, NodeLists, doubtful_by, slip_lints, unused_by}
use Rattle.sw_linter.specs.declared.entries.EntrySlip.TheVariants.{Unused, OneLinked, Back}
use Rattle.sw_linter.specs.declared.lint.Lint.{Lint}
use Rattle.sw_linter.specs.declared.slips.Slip.{Slip}
use Rattle.sw_linter.specs.declared.slips.Slip.TheVariants.{Address, Node, Switch, Target, Entry, Link}
use Rattle.sw_linter.specs.declared.addresses.AddressSlip.TheVariants as address
use Rattle.sw_linter.specs.Lints.{addressed}

-- one kind more, with what is noted of nodes
pub slip_more : (d : Declaration) (n v : NodeLists) (m : MarkLists) (slips : List Slip) (i : ℕ) (e : Slip) (before after : List Lint) → v ≡ n → i < length slips
    → before ≡ flat_map (slip_lints d n m) (take i slips) → after ≡ before ++ slip_lints d v m (get_or slips i e) → after ≡ flat_map (slip_lints d n m) (take (i + 1) slips)
slip_more d n v m slips i e before after are lt so_far more =
    let slip : Slip = get_or slips i e in
    more ∙ (λ j. so_far j ++ slip_lints d (are j) m slip) ∙ flat_map_more (slip_lints d n m) [] (take i slips) slip ∙ ap (flat_map (slip_lints d n m)) (sym (take_more slips i e lt))

ten : (a b c e f g h i j k : List Lint) → a ++ (b ++ (c ++ (e ++ (f ++ (g ++ (h ++ (i ++ (j ++ (k ++ []))))))))) ≡ ((a ++ (b ++ (c ++ e))) ++ (f ++ (g ++ h))) ++ (i ++ (j ++ k))
ten a b c e f g h i j k =
    let last : List Lint = i ++ (j ++ k) in
    ap (λ l. a ++ (b ++ (c ++ (e ++ (f ++ (g ++ (h ++ (i ++ (j ++ l))))))))) (append-nil k)
    ∙ ap (λ l. a ++ (b ++ (c ++ (e ++ (f ++ l))))) (sym (append_assoc g h last))
    ∙ ap (λ l. a ++ (b ++ (c ++ (e ++ l)))) (sym (append_assoc f (g ++ h) last))
    ∙ ap (λ l. a ++ (b ++ l)) (sym (append_assoc c e ((f ++ (g ++ h)) ++ last)))
    ∙ ap (λ l. a ++ l) (sym (append_assoc b (c ++ e) ((f ++ (g ++ h)) ++ last)))
    ∙ sym (append_assoc a (b ++ (c ++ e)) ((f ++ (g ++ h)) ++ last))
    ∙ sym (append_assoc (a ++ (b ++ (c ++ e))) (f ++ (g ++ h)) last)

-- all kinds
abbrev pub kinds : List Slip
kinds =
    Node ∷ Switch ∷ Target ∷ Entry Unused ∷ Entry OneLinked ∷ Entry Back ∷ Link ∷ Address address.Target ∷ Address address.Initiator
    ∷ Address address.Initiators ∷ []

pub all_slips : (d : Declaration) (n : NodeLists) (m : MarkLists) → flat_map (slip_lints d n m) kinds ≡ (unused_by d n m ++ doubtful_by d m) ++ addressed d
all_slips d n m =
    ten (slip_lints d n m Node) (slip_lints d n m Switch) (slip_lints d n m Target) (slip_lints d n m (Entry Unused)) (slip_lints d n m (Entry OneLinked)) (slip_lints d n m (Entry Back)) (slip_lints d n m Link)
    (slip_lints d n m (Address address.Target)) (slip_lints d n m (Address address.Initiator)) (slip_lints d n m (Address address.Initiators))
