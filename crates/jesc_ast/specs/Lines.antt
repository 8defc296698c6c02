-- Where the lines of a text begin, and the place of an offset by them.
use Rattle.std.specs.Prelude.{◌≡◌, ℕ, ◌+◌, ◌-◌, nat_le, ◌==◌, if◌then◌else◌, List, [], ◌∷◌, count_by, slice_get, Some}
use Rattle.std.specs.List.Sorted.{IsStrictlyIncreasing}
use Rattle.jesc_text.specs.declared.place.Place.{Place}
use Rattle.jesc_text.specs.declared.place.Span.{Span}

-- the first offset is 0, and the offsets rise
pub record IsLines (lines : List ℕ) : Type 0 where
  pub first : slice_get lines 0 ≡ Some 0
  pub rise : IsStrictlyIncreasing lines

-- the offsets after the line feeds of bytes that begin at this offset
abbrev pub after_line_feeds : List ℕ → ℕ → List ℕ
after_line_feeds [] offset = []
after_line_feeds (byte ∷ bytes) offset =
    let others = after_line_feeds bytes (offset + 1) in if byte == 10 then (offset + 1) ∷ others else others

-- where the lines of a text begin
abbrev pub lines_of : List ℕ → List ℕ
lines_of text = 0 ∷ after_line_feeds text 0

-- the last of these offsets that is at most this one
abbrev pub line_start : List ℕ → ℕ → ℕ
line_start [] offset = 0
line_start (start ∷ starts) offset = if nat_le start offset then (let later = line_start starts offset in if nat_le start later then later else start) else 0

-- the place of a span's first byte
abbrev pub place_at : List ℕ → Span → Place
place_at lines span = record {
  file = span.file;
  line = count_by (λ start. nat_le start span.from) lines;
  col = span.from - line_start lines span.from + 1;
}
