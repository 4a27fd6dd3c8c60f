-- Flows of which the same is noted: their packets go the same ways, to the same node, and answers are wanted of both or of neither.
use Rattle.std.specs.Prelude.{◌≡◌, ℕ, ◌+◌, List, Some, is_some, slice_get}
use Rattle.sw_config.specs.Entries.{FlowEntry}

pub record AreAlike (f g : FlowEntry) : Type 0 where
  pub from : f.from ≡ g.from
  pub to : f.to ≡ g.to
  pub address : f.address ≡ g.address
  pub replies : is_some f.reply ≡ is_some g.reply

-- the flow of that number is like the one before it
pub record IsLikeLast (flows : List FlowEntry) (number : ℕ) : Type 0 where
  pub last : ℕ
  pub next : number ≡ last + 1
  pub flow : FlowEntry
  pub before : FlowEntry
  pub listed : slice_get flows number ≡ Some flow
  pub listed_before : slice_get flows last ≡ Some before
  pub alike : AreAlike flow before
