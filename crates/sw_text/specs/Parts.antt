-- Texts in parts (this project's choice).
use Rattle.std.specs.Prelude.{ℕ, List, Vec}
use Rattle.std.specs.List.{flat_map}
use Rattle.std.specs.declared.alloc.Global.{Global}

-- the parts one after another
abbrev pub joined : List (Vec ℕ Global) → List ℕ
joined parts = flat_map (λ part. part.items) parts
