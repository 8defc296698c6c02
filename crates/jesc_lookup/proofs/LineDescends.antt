-- What is kept while the rows of the classes of a path are added, from the last to the first.
use Rattle.std.proofs.Common.{◌≡◌, ℕ, zero, suc, ◌+◌, ◌-◌, ◌<◌, ◌≤◌, List, [], ◌∷◌, ◌++◌, length, get_or, take, drop, ap, sym, ◌∙◌, subst, arith, append_assoc}
use Rattle.std.proofs.lemmas.List.{drop_all, drop_more, get_or-take, get_or_default, length-append, length-take}
use Rattle.std.proofs.Math.Seq.{drop-append_seam, get_or-append_right}
use Rattle.std.specs.List.{All}
use Rattle.jesc_classes.specs.Order.{Graph}
use Rattle.jesc_lookup.specs.declared.lines.Line.{Line}
use Rattle.jesc_lookup.specs.Lines.{IsLine}
use Rattle.jesc_lookup.specs.LineSets.{Marks, map_in, added, AddsLine, AreAbove, Climbs, IsClosed, Merges}
use Rattle.jesc_lookup.specs.Maps.{Map}
use Rattle.jesc_lookup.proofs.LineGrowth.{grows_more, merges_more, merges_none}
use Rattle.jesc_lookup.proofs.LinePaths.{behind, closed_path}

-- the rows of the classes from the place on are merged
pub record Descending (rows : List (List ℕ)) (mid : List Map) (b : Line) (new : List Map) (e : Line) (start end : ℕ) : Type 0 where
  pub merges : Merges mid b new e (behind rows (drop end b.extra))
  pub low : start ≤ end
  pub high : end ≤ length b.extra

pub descends_first : (rows : List (List ℕ)) (mid : List Map) (b : Line) (start end : ℕ) → b.version < length mid → start ≤ length b.extra → end ≡ length b.extra → Descending rows mid b mid b start end
descends_first rows mid b start end there l e = record {
  merges = subst (λ xs. Merges mid b mid b (behind rows xs)) (sym (drop_all end b.extra (omega (arith, e)))) (merges_none mid b there);
  low = omega (arith, l, e);
  high = omega (arith, e);
}

pub descends_more : (rows : List (List ℕ)) (mid : List Map) (b : Line) (old : List Map) (d : Line) (new : List Map) (e : Line) (start end : ℕ) → Descending rows mid b old d start end → start < end →
    Merges old d new e (get_or rows (get_or b.extra (end - 1) 0) []) → Descending rows mid b new e start (end - 1)
descends_more rows mid b old d new e start zero down l m = absurd (omega (arith, l))
descends_more rows mid b old d new e start (suc end) down l m =
    let lower : suc end - 1 ≡ end = omega arith in
    let next : suc end ≡ end + 1 = omega arith in
    let inside : end < length b.extra = omega (arith, down.high) in
    let cons : drop end b.extra ≡ get_or b.extra end 0 ∷ drop (suc end) b.extra = drop_more b.extra end 0 inside ∙ ap (λ i. get_or b.extra end 0 ∷ drop i b.extra) (sym next) in
    let one = subst (λ i. Merges old d new e (get_or rows (get_or b.extra i 0) [])) lower m in
    let all = merges_more mid b old d new e (behind rows (drop (suc end) b.extra)) (get_or rows (get_or b.extra end 0) []) down.merges one in
    record {
      merges = subst (λ i. Merges mid b new e (behind rows (drop i b.extra))) (sym lower) (subst (λ xs. Merges mid b new e (behind rows xs)) (sym cons) all);
      low = omega (arith, l);
      high = omega (arith, down.high);
    }

-- ---- the items that are read

pub longer : (a : List ℕ) (b : List ℕ) → take (length a) b ≡ a → length a ≤ length b
longer a b e = omega (arith, length-take (length a) b, ap length e)

pub same_item : (a : List ℕ) (b : List ℕ) (i : ℕ) → take (length a) b ≡ a → i < length a → get_or b i 0 ≡ get_or a i 0
same_item a b i e l = sym (get_or-take (length a) b i 0 l) ∙ ap (λ xs. get_or xs i 0) e

pub item_below : (graph : Graph) (old : List Map) (a : Line) (mid : List Map) (b : Line) (class i : ℕ) → Climbs graph old a mid b class → length a.extra ≤ i → i < length b.extra → get_or b.extra i 0 < length graph
item_below graph old a mid b class i climbs l h =
    let size : length b.extra ≡ length a.extra + length climbs.path = ap length climbs.extra ∙ length-append a.extra climbs.path in
    subst (λ x. x < length graph) (sym (ap (λ xs. get_or xs i 0) climbs.extra ∙ get_or-append_right a.extra climbs.path i 0 l)) (climbs.below (i - length a.extra) 0 (omega (arith, size, l, h)))

pub row_below : (graph : Graph) (rows : List (List ℕ)) (at most : ℕ) (row xs : List ℕ) → All (All (λ c. c < length graph)) rows → at < length rows → length graph ≤ most → xs ≡ get_or rows at [] → All (λ c. c < most) xs
row_below graph rows at most row xs all l le e = subst (All (λ c. c < most)) (sym e) (λ k d h. let one = all at [] l k d h in omega (arith, one, le))

-- ---- the whole line

module _ (graph : Graph) (rows : List (List ℕ)) (old : List Map) (a : Line) (mid : List Map) (b : Line) (new : List Map) (e : Line) (class : ℕ) (climbs : Climbs graph old a mid b class) (merges : Merges mid b new e (behind rows climbs.path)) (above : AreAbove graph rows class) where
  whole : (line other : List ℕ) → Marks (map_in old a) line → IsClosed graph line → IsLine graph class other → climbs.path ++ added (line ++ climbs.path) (behind rows climbs.path) ≡ added line other
  whole line other m closed l =
      closed_path graph rows above.within above.acyclic above.line line class climbs.path (climbs.is_path line m) above.own above.above closed other l

  adds : AddsLine graph old a new e class
  adds = record {
    grows = grows_more old a mid b new e climbs.grows merges.grows;
    extra = λ line other m closed l.
        merges.extra (line ++ climbs.path) (climbs.marks line m) ∙ ap (λ xs. xs ++ added (line ++ climbs.path) (behind rows climbs.path)) climbs.extra
        ∙ append_assoc a.extra climbs.path (added (line ++ climbs.path) (behind rows climbs.path)) ∙ ap (λ xs. a.extra ++ xs) (whole line other m closed l);
    marks = λ line other m closed l.
        subst (Marks (map_in new e)) (append_assoc line climbs.path (added (line ++ climbs.path) (behind rows climbs.path)) ∙ ap (λ xs. line ++ xs) (whole line other m closed l))
        (merges.marks (line ++ climbs.path) (climbs.marks line m));
  }

pub adds_line : (graph : Graph) (rows : List (List ℕ)) (old : List Map) (a : Line) (mid : List Map) (b : Line) (new : List Map) (e : Line) (class start end : ℕ) → Climbs graph old a mid b class → Descending rows mid b new e start end → AreAbove graph rows class → end ≤ start →
    start ≡ length a.extra → AddsLine graph old a new e class
adds_line graph rows old a mid b new e class start end climbs down above l f =
    let is_end : end ≡ length a.extra = omega (arith, down.low, l, f) in
    let is_path : drop end b.extra ≡ climbs.path = ap (λ i. drop i b.extra) is_end ∙ ap (drop (length a.extra)) climbs.extra ∙ drop-append_seam a.extra climbs.path in
    adds graph rows old a mid b new e class climbs (subst (λ xs. Merges mid b new e (behind rows xs)) is_path down.merges) above

-- ---- one row

module _ (graph : Graph) (rows : List (List ℕ)) (old : List Map) (a : Line) (mid : List Map) (b : Line) (versions : List Map) (d : Line) (class start end : ℕ) (climbs : Climbs graph old a mid b class) (down : Descending rows mid b versions d start end) (few : start < end) (is_start : start ≡ length a.extra) (seen : List ℕ) (is_seen : seen ≡ d.extra) where
  read : get_or seen (end - 1) 0 ≡ get_or b.extra (end - 1) 0
  read = ap (λ xs. get_or xs (end - 1) 0) is_seen ∙ same_item b.extra d.extra (end - 1) down.merges.grows.extra (omega (arith, down.high, few))

  there : get_or seen (end - 1) 0 < length graph
  there = subst (λ x. x < length graph) (sym read) (item_below graph old a mid b class (end - 1) climbs (omega (arith, is_start, few)) (omega (arith, down.high, few)))

  module _ (count : length rows ≡ length graph) (row xs : List ℕ) (is_row : row ≡ get_or rows (get_or seen (end - 1) 0) row) (is_xs : xs ≡ row) where
    inside : get_or seen (end - 1) 0 < length rows
    inside = omega (arith, there, count)

    pub is_read : xs ≡ get_or rows (get_or b.extra (end - 1) 0) []
    is_read = is_xs ∙ is_row ∙ get_or_default rows (get_or seen (end - 1) 0) row [] inside ∙ ap (λ i. get_or rows i []) read

    pub all_below : All (All (λ c. c < length graph)) rows → length graph ≤ length (map_in old a) → All (λ c. c < length (map_in versions d)) xs
    all_below all room = row_below graph rows (get_or seen (end - 1) 0) (length (map_in versions d)) row xs all inside (omega (arith, room, climbs.grows.size, down.merges.grows.size)) (is_xs ∙ is_row ∙ get_or_default rows (get_or seen (end - 1) 0) row [] inside)
