-- The loop that makes a set of the ports that are listed.
use Rattle.std.proofs.Common.{◌≡◌, ℕ, ◌+◌, ◌<◌, ◌≤◌, ◌^◌, Bool, true, false, List, length, take, get_or, Option, Some, Ok, refl, sym, ap, ◌∙◌, arith}
use Rattle.std.specs.Prelude.{zero, suc, ◌==◌, nat_le, bit_or, IfSome}
use Rattle.std.proofs.lemmas.List.{take_more, take_all}
use Rattle.std.proofs.lemmas.Bool.{le-leb}
use Rattle.toml.specs.Data.{Members}
use Rattle.sw_topo.specs.Ports.{port_set}
use Rattle.sw_topo.proofs.PortBits.{port_set_push}
use Rattle.sw_text.specs.declared.keys.Section.{Section}
use Rattle.sw_text.specs.declared.keys.Key.TheVariants.{Ports}
use Rattle.sw_text.specs.Table.{numbers_at}
use Rattle.sw_file.specs.Switches.{ports_at}

pub port_more : (items : List ℕ) (i p set new : ℕ) (made : Option ℕ) → i < length items → made ≡ Some p → IfSome made (λ q. q ≡ get_or items i 0) → set ≡ port_set (take i items) → new ≡ bit_or set (2 ^ p) → new ≡ port_set (take (i + 1) items)
port_more items i p set new made lt is value so_far put =
    let same : p ≡ get_or items i 0 = rw is at value in
    rw (put, same, so_far) (sym (ap port_set (take_more items i 0 lt) ∙ port_set_push (take i items) (get_or items i 0)))

some_listed : (n : ℕ) (none : Bool) → none ≡ (n == 0) → none ≡ false → nat_le 1 n ≡ true
some_listed zero none is is_not = let clash : true ≡ false = sym is ∙ is_not in absurd cc
some_listed (suc n) none is is_not = le-leb 1 (suc n) (omega arith)

pub ports_are : (s : Section) (ms : Members) (numbers items : List ℕ) (i size count set : ℕ) (none : Bool) → numbers_at s Ports 31 ms ≡ Ok numbers → size ≡ length numbers → none ≡ (size == 0) → none ≡ false → count ≡ length numbers → count ≤ 32
    → items ≡ numbers → length items ≤ i → set ≡ port_set (take i items) → ports_at s ms ≡ Ok set
unfolding ports_at
ports_are s ms numbers items i size count set none at_numbers sized is_none listed counted few same past so_far =
    let some : nat_le 1 (length numbers) ≡ true = some_listed (length numbers) none (is_none ∙ ap (λ n. n == 0) sized) listed in
    let all : set ≡ port_set numbers = so_far ∙ ap port_set (take_all i items past ∙ same) in
    let short : nat_le (length numbers) 32 ≡ true = rw (← counted) (le-leb count 32 few) in
    rw (at_numbers, some, short, all) refl
