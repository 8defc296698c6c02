-- Lines, one after another, in the bytes.
use Rattle.std.proofs.Common.{◌≡◌, ℕ, ◌+◌, ◌-◌, ◌≤◌, List, [], ◌∷◌, ◌++◌, length, take, drop, refl, sym, ap, ◌∙◌, subst, arith, append_assoc, None}
use Rattle.std.specs.Prelude.{All, map}
use Rattle.std.proofs.Math.Seq.{take-add}
use Rattle.std.proofs.lemmas.List.{take_rest, take_at, drop-drop, length-drop, length-take-le, append-nil, map_push, length-append, drop_all}
use Rattle.jesc_cert.specs.declared.cert.Cert.{Cert}
use Rattle.jesc_cert.specs.declared.cert.CertLine.{CertLine}
use Rattle.jesc_cert.specs.Texts.{ended, IsBlock, IsLine, line_text, cond_text, block_lines, blocks_lines}
use Rattle.jesc_cert.specs.Inner.{Without, IsFeed, StopsAt, StopsBehind, IsLineText, IsCondText, IsReadLine, IsReadCond, IsCond, AreLines, AreBlocks, IsNextBlock}
use Rattle.jesc_cert.proofs.Pieces.{split_same, no_split}
use Rattle.jesc_cert.proofs.Printing.{ended_joined}

-- the lines take so many bytes at the front
pub record Takes (bytes : List ℕ) (n : ℕ) (lines : List (List ℕ)) : Type 0 where
  pub room : n ≤ length bytes
  pub are : take n bytes ≡ ended lines

pub joined : (bytes : List ℕ) (n m : ℕ) (ls ms : List (List ℕ)) → Takes bytes n ls → Takes (drop n bytes) m ms → Takes bytes (n + m) (ls ++ ms)
joined bytes n m ls ms a b = record {
  room = omega (arith, a.room, b.room, length-drop n bytes);
  are = take-add n m bytes ∙ (λ i. a.are i ++ b.are i) ∙ sym (ended_joined ls ms);
}

-- the line at the front
pub feed_takes : (bytes : List ℕ) (count : ℕ) → IsFeed bytes count → Takes bytes (count + 1) (take count bytes ∷ [])
feed_takes bytes count feed = record {
  room = omega (arith, feed.within);
  are =
      ap (take (count + 1)) (feed.are ∙ sym (append_assoc (take count bytes) (10 ∷ []) (drop (count + 1) bytes)))
      ∙ take_at (take count bytes ++ 10 ∷ []) (drop (count + 1) bytes) (count + 1) (length-append (take count bytes) (10 ∷ []) ∙ ap (λ k. k + 1) (length-take-le count bytes (omega (arith, feed.within))));
}

-- ---- where no further line stands

pub stops_without : (P : List ℕ → Type 0) (bytes : List ℕ) → Without 10 bytes → StopsAt P bytes
stops_without P bytes w = λ next rest e apart p. no_split 10 bytes next rest w e

pub stops_feed : (P : List ℕ → Type 0) (bytes : List ℕ) (count : ℕ) → IsFeed bytes count → (P (take count bytes) → ⊥) → StopsAt P bytes
stops_feed P bytes count feed never = λ next rest e apart p.
    let same = split_same 10 (take count bytes) next (10 ∷ drop (count + 1) bytes) (10 ∷ rest) feed.apart apart refl refl (sym feed.are ∙ e) in
    never (subst P (sym same.0) p)

pub stops_end : (P : List ℕ → Type 0) (bytes : List ℕ) (n : ℕ) → length bytes ≤ n → StopsAt P (drop n bytes)
stops_end P bytes n l = stops_without P (drop n bytes) (subst (Without 10) (sym (drop_all n bytes l)) tt)

pub no_line : (bytes : List ℕ) (count : ℕ) → IsFeed bytes count → IsReadLine (take count bytes) None → StopsAt IsLineText bytes
no_line bytes count feed none = stops_feed IsLineText bytes count feed (λ (l, is, e). none l is e)

pub no_cond : (bytes : List ℕ) (count : ℕ) → IsFeed bytes count → IsReadCond (take count bytes) None → StopsAt IsCondText bytes
no_cond bytes count feed none = stops_feed IsCondText bytes count feed (λ (duty, number, is, e). none duty number is e)

-- ---- one more

pub line_more : (bytes : List ℕ) (at count : ℕ) (lines : List CertLine) (line : CertLine) → Takes bytes at (map line_text lines) → IsFeed (drop at bytes) count → take count (drop at bytes) ≡ line_text line
    → Takes bytes (at + (count + 1)) (map line_text (lines ++ line ∷ []))
line_more bytes at count lines line before feed e =
    subst (Takes bytes (at + (count + 1))) (ap (λ t. map line_text lines ++ t ∷ []) e ∙ sym (map_push line_text lines line))
    (joined bytes at (count + 1) (map line_text lines) (take count (drop at bytes) ∷ []) before (feed_takes (drop at bytes) count feed))

blocks_joined : (bs : List (List ℕ × ℕ × Cert)) (b : List ℕ × ℕ × Cert) → blocks_lines (bs ++ b ∷ []) ≡ blocks_lines bs ++ block_lines b
blocks_joined [] b = append-nil (block_lines b)
blocks_joined (x ∷ bs) b = ap (λ t. block_lines x ++ t) (blocks_joined bs b) ∙ sym (append_assoc (block_lines x) (blocks_lines bs) (block_lines b))

pub block_more : (bytes : List ℕ) (at count : ℕ) (bs : List (List ℕ × ℕ × Cert)) (b : List ℕ × ℕ × Cert) → Takes bytes at (blocks_lines bs) → IsNextBlock (drop at bytes) b count → Takes bytes (at + count) (blocks_lines (bs ++ b ∷ []))
block_more bytes at count bs b before next =
    subst (Takes bytes (at + count)) (sym (blocks_joined bs b)) (joined bytes at count (blocks_lines bs) (block_lines b) before (record { room = next.room; are = next.are }))

pub stops_behind : (bytes : List ℕ) (at count : ℕ) (bs : List (List ℕ × ℕ × Cert)) (b : List ℕ × ℕ × Cert) → IsNextBlock (drop at bytes) b count → StopsBehind (bs ++ b ∷ []) (drop (at + count) bytes)
stops_behind bytes at count [] b next = subst (StopsAt IsLineText) (drop-drop count at bytes) next.stops
stops_behind bytes at count (x ∷ bs) b next = subst (StopsAt IsLineText) (drop-drop count at bytes) next.stops

-- the line that begins a block, and the block's lines
pub block_is : (bytes : List ℕ) (first count : ℕ) (duty : List ℕ) (number : ℕ) (lines : List CertLine) → IsFeed bytes first → IsCond duty number → take first bytes ≡ cond_text duty number → AreLines (drop (first + 1) bytes) lines count
    → IsNextBlock bytes (duty, number, record { lines = lines }) (first + 1 + count)
block_is bytes first count duty number lines feed cond e are =
    let takes = joined bytes (first + 1) count (take first bytes ∷ []) (map line_text lines) (feed_takes bytes first feed) (record { room = are.room; are = are.are }) in
    record {
      some = omega arith;
      room = takes.room;
      is = record { some = cond.some; name = cond.name; number = cond.small; lines = are.all };
      are = takes.are ∙ ap (λ t. ended (t ∷ map line_text lines)) e;
      stops = subst (StopsAt IsLineText) (drop-drop count (first + 1) bytes) are.stops;
    }

-- ---- slices of the bytes

pub feed_at : (bytes : List ℕ) (at count : ℕ) → IsFeed (take (length bytes - at) (drop at bytes)) count → IsFeed (drop at bytes) count
feed_at bytes at count feed = subst (λ (t : List ℕ). IsFeed t count) (take_rest bytes at) feed

pub slice_at : (bytes : List ℕ) (at count : ℕ) → take (at + count - at) (drop at bytes) ≡ take count (drop at bytes)
slice_at bytes at count = let e : at + count - at ≡ count = omega arith in ap (λ n. take n (drop at bytes)) e

pub lines_are : (bytes : List ℕ) (lines : List CertLine) (at : ℕ) → Takes bytes at (map line_text lines) → All IsLine lines → StopsAt IsLineText (drop at bytes) → AreLines bytes lines at
lines_are bytes lines at takes all stops = record { room = takes.room; all = all; are = takes.are; stops = stops }

pub blocks_are : (bytes : List ℕ) (bs : List (List ℕ × ℕ × Cert)) (at : ℕ) → Takes bytes at (blocks_lines bs) → All IsBlock bs → StopsBehind bs (drop at bytes) → StopsAt IsCondText (drop at bytes) → AreBlocks bytes bs at
blocks_are bytes bs at takes all lines conds = record { room = takes.room; all = all; are = takes.are; lines = lines; conds = conds }
