use Rattle.std.specs.Prelude.{ℕ, ◌+◌, List, take, count_by, ◌==◌, Bool, not}
use Rattle.std.specs.List.{suffix_len}

abbrev pub is_line_feed : ℕ → Bool
is_line_feed byte = byte == 10

-- one more than the line feeds before the offset
abbrev pub line_at : List ℕ → ℕ → ℕ
line_at text offset = 1 + count_by is_line_feed (take offset text)

-- one more than the bytes before the offset that stand after the last line feed there
abbrev pub column_at : List ℕ → ℕ → ℕ
column_at text offset = 1 + suffix_len (λ byte. not (is_line_feed byte)) (take offset text)
