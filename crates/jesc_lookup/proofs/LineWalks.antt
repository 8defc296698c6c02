-- What is kept while the classes get their lines in order.
use Rattle.std.proofs.Common.{◌≡◌, ℕ, zero, suc, ◌+◌, ◌<◌, ◌≤◌, ◌⊎◌, inl, inr, List, [], ◌∷◌, length, get_or, set, replicate, Option, None, refl, ap, sym, ◌∙◌, subst, arith}
use Rattle.std.proofs.lemmas.List.{get_or-set_same, get_or-set_other, length-replicate, length-set}
use Rattle.std.specs.List.{All}
use Rattle.jesc_classes.specs.Order.{Graph, Above}
use Rattle.jesc_classes.specs.laws.Orders.{same}
use Rattle.jesc_lookup.specs.declared.lines.Line.{Line}
use Rattle.jesc_lookup.specs.Lines.{AreExtras, IsExtra}
use Rattle.jesc_lookup.specs.LineSets.{Marks, AreKnown, HasLine, IsHeld}
use Rattle.jesc_lookup.specs.Maps.{Map}
use Rattle.jesc_lookup.specs.Numbering.{IsArranged}
use Rattle.jesc_lookup.specs.laws.Lines.{above_first, arranged_acyclic, line_there, place_of}
use Rattle.jesc_lookup.proofs.LineGrowth.{no_fewer, old_map}

-- a version and a row are those of the class
pub record HasOwn (graph : Graph) (versions : List Map) (held : List ℕ) (rows : List (List ℕ)) (class : ℕ) : Type 0 where
  pub is_held : IsHeld graph versions (get_or held class 0) class
  pub extra : IsExtra graph class (get_or rows class [])

-- the first so many classes of the order have their lines
pub record Walks (graph : Graph) (order : List ℕ) (taken : ℕ) (versions : List Map) (held : List ℕ) (rows : List (List ℕ)) : Type 0 where
  pub rows_count : length rows ≡ length graph
  pub held_count : length held ≡ length graph
  pub below : All (All (λ c. c < length graph)) rows
  pub first : 0 < length versions
  pub room : length graph ≤ length (get_or versions 0 [])
  pub empty : Marks (get_or versions 0 []) []
  pub each : (j : ℕ) → j < taken → HasOwn graph versions held rows (get_or order j 0)

-- ---- no class has its line

no_marks : (n : ℕ) → Marks (replicate n None) []
no_marks zero d = refl
no_marks (suc n) zero = refl
no_marks (suc n) (suc d) = no_marks n d

all_blank : (n k : ℕ) (d : List ℕ) → k < length (replicate {A = List ℕ} n []) → get_or (replicate {A = List ℕ} n []) k d ≡ []
all_blank zero k d l = absurd (omega (arith, l))
all_blank (suc n) zero d l = refl
all_blank (suc n) (suc k) d l = all_blank n k d (omega (arith, l))

none_below : (n most : ℕ) → All (All (λ c. c < most)) (replicate n [])
none_below n most k d l = subst (All (λ c. c < most)) (sym (all_blank n k d l)) (λ i e h. absurd (omega (arith, h)))

pub walks_first : (graph : Graph) (order : List ℕ) (size : ℕ) (versions : List Map) (held : List ℕ) (rows : List (List ℕ)) → size ≡ length graph → (n : ℕ) × (size ≤ n) × (versions ≡ replicate n None ∷ []) → held ≡ replicate (length graph) 0 →
    rows ≡ replicate (length graph) [] → Walks graph order 0 versions held rows
walks_first graph order size versions held rows is_size v is_held is_rows =
    let is_map : replicate v.0 None ≡ get_or versions 0 [] = ap (λ ms. get_or ms 0 []) (sym v.2) in
    record {
      rows_count = ap length is_rows ∙ length-replicate {A = List ℕ} (length graph) [];
      held_count = ap length is_held ∙ length-replicate (length graph) 0;
      below = subst (All (All (λ c. c < length graph))) (sym is_rows) (none_below (length graph) (length graph));
      first = omega (arith, ap length v.2);
      room = omega (arith, ap length (sym is_map), length-replicate {A = Option ℕ} v.0 None, is_size, v.1);
      empty = subst (λ m. Marks m []) is_map (no_marks v.0);
      each = λ j l. absurd (omega (arith, l));
    }

-- ---- one more class

module _ (graph : Graph) (order : List ℕ) (arranged : IsArranged graph order) (taken : ℕ) (versions : List Map) (held : List ℕ) (rows : List (List ℕ)) (walks : Walks graph order taken versions held rows) where
  module _ (l : taken < length order) where
    abbrev class : ℕ
    class = get_or order taken 0

    own_above : (d : ℕ) → Above graph class d → HasOwn graph versions held rows d
    own_above d a = let p = above_first graph order arranged class d taken a (l, refl) in subst (HasOwn graph versions held rows) p.2.1 (walks.each p.0 p.1)

    pub known : AreKnown graph rows held versions (get_or order taken 0)
    known = record {
      given = arranged.below taken l;
      within = arranged.within;
      acyclic = arranged_acyclic graph order arranged;
      rows_count = walks.rows_count;
      held_count = walks.held_count;
      below = walks.below;
      line = line_there graph order arranged;
      above = λ d a. (own_above d a).extra;
      is_held = λ d a. (own_above d a).is_held;
      first = walks.first;
      room = walks.room;
      empty = walks.empty;
    }

    module _ (new : List Map) (line : Line) (has : HasLine graph versions new class line) where
      abbrev more_held : List ℕ
      more_held = set held class line.version

      abbrev more_rows : List (List ℕ)
      more_rows = set rows class line.extra

      in_held : class < length held
      in_held = omega (arith, walks.held_count, arranged.below taken l)

      in_rows : class < length rows
      in_rows = omega (arith, walks.rows_count, arranged.below taken l)

      still_held : (d version : ℕ) → IsHeld graph versions version d → IsHeld graph new version d
      still_held d version h =
          let is_map = old_map versions new version has.kept h.there in
          record {
            there = omega (arith, h.there, no_fewer versions new has.kept);
            room = subst (λ m. length graph ≤ length m) (sym is_map) h.room;
            marks = λ t k. subst (λ m. Marks m t) (sym is_map) (h.marks t k);
          }

      own : HasOwn graph new more_held more_rows class
      own = record {
        is_held = subst (λ v. IsHeld graph new v class) (sym (get_or-set_same held class line.version 0 in_held)) has.held;
        extra = subst (IsExtra graph class) (sym (get_or-set_same rows class line.extra [] in_rows)) has.extra;
      }

      others : (d : ℕ) → (d ≡ class → ⊥) → HasOwn graph versions held rows d → HasOwn graph new more_held more_rows d
      others d n h = record {
        is_held = subst (λ v. IsHeld graph new v d) (sym (get_or-set_other held class d line.version 0 n)) (still_held d (get_or held d 0) h.is_held);
        extra = subst (IsExtra graph d) (sym (get_or-set_other rows class d line.extra [] n)) h.extra;
      }

      rows_below : All (All (λ c. c < length graph)) more_rows
      rows_below k d h = by (same k class)
        where
          size : length more_rows ≡ length rows
          size = length-set rows class line.extra

          inside : k < length rows
          inside = omega (arith, h, size)

          by : (k ≡ class) ⊎ (k ≡ class → ⊥) → All (λ c. c < length graph) (get_or more_rows k d)
          by (inl e) = subst (λ x. All (λ c. c < length graph) (get_or more_rows x d)) (sym e) (subst (All (λ c. c < length graph)) (sym (get_or-set_same rows class line.extra d in_rows)) has.below)
          by (inr n) = subst (All (λ c. c < length graph)) (sym (get_or-set_other rows class k line.extra d n)) (walks.below k d inside)

      pub walks_more : Walks graph order (taken + 1) new (set held (get_or order taken 0) line.version) (set rows (get_or order taken 0) line.extra)
      walks_more =
          let is_map = old_map versions new 0 has.kept walks.first in
          record {
            rows_count = length-set rows class line.extra ∙ walks.rows_count;
            held_count = length-set held class line.version ∙ walks.held_count;
            below = rows_below;
            first = omega (arith, walks.first, no_fewer versions new has.kept);
            room = subst (λ m. length graph ≤ length m) (sym is_map) walks.room;
            empty = subst (λ m. Marks m []) (sym is_map) walks.empty;
            each = λ j h. elim (same j taken) [
              | inl e ↦ subst (λ i. HasOwn graph new more_held more_rows (get_or order i 0)) (sym e) own
              | inr n ↦ let low : j < taken = omega (arith, h, n) in others (get_or order j 0) (arranged.apart j taken low l) (walks.each j low)
            ];
          }

  -- ---- every class has its line

  pub walks_last : length order ≤ taken → AreExtras graph rows
  walks_last all = record {
    count = walks.rows_count;
    each = λ class l. let p = place_of graph order arranged class l in subst (λ x. IsExtra graph x (get_or rows x [])) p.1.1 (walks.each p.0 (omega (arith, p.1.0, all))).extra;
  }
