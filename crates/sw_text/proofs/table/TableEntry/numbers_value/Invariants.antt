use Rattle.std.proofs.Common.{◌≡◌, ◌≤◌, All, map, take, Ok}
use Rattle.toml.specs.View.{view}
use Rattle.sw_text.specs.Gives.{each}
use Rattle.sw_text.specs.Table.{number_value}
use Rattle.sw_text.proofs.table.TableEntry.numbers_value.Given as goal

abbrev pub invariant-loop-value : goal.invariant-loop-value
invariant-loop-value l = record {
  so_far : each (number_value l.self.section l.key 0 l.high) (take l.value-index (map view l.value-items)) ≡ Ok l.numbers.items;
  within : All (λ n. n ≤ l.high) l.numbers.items;
}
