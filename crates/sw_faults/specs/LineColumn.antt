-- Lines and columns of a text: lines end with LF, and both count from 1.
use Rattle.std.specs.Prelude.{ℕ, ◌+◌, ◌==◌, not, List, take, reverse, count_by}
use Rattle.std.specs.List.{prefix_len}

-- how many lines end in a text
abbrev pub line_ends : List ℕ → ℕ
line_ends text = count_by (λ b. b == 10) text

-- how many bytes stand behind the last line that ends in a text
abbrev pub bytes_behind : List ℕ → ℕ
bytes_behind text = prefix_len (λ b. not (b == 10)) (reverse text)

-- the line of the byte at an offset: one more than the lines that end before it
abbrev pub line_of : List ℕ → ℕ → ℕ
line_of text offset = line_ends (take offset text) + 1

-- its column: one more than the bytes of its line before it
abbrev pub column_of : List ℕ → ℕ → ℕ
column_of text offset = bytes_behind (take offset text) + 1
