-- What is kept while the lines of the supertypes of a class are joined.
use Rattle.std.proofs.Common.{◌≡◌, ℕ, ◌+◌, ◌<◌, ◌≤◌, Bool, true, false, ◌||◌, List, [], ◌∷◌, ◌++◌, length, get_or, take, ◌⊎◌, inl, inr, refl, ap, sym, ◌∙◌, subst, arith, nat_eq, eqb-true, append_assoc, append-nil}
use Rattle.std.proofs.lemmas.List.{length-append, take_all, take_more}
use Rattle.std.proofs.lemmas.List.Elements.{Contains-append_left, Contains-append_right, Contains-append_cases, Contains-get_or}
use Rattle.std.proofs.Math.Seq.{get_or-append_seam, take-append_seam}
use Rattle.std.specs.List.{Contains, list_any}
use Rattle.jesc_classes.specs.Order.{Graph, supers, Above, direct, IsAcyclic}
use Rattle.jesc_classes.specs.laws.Orders.{later, here, first_or_later, nothing}
use Rattle.jesc_lookup.specs.declared.lines.Line.{Line}
use Rattle.jesc_lookup.specs.Lines.{merged, IsLine, line_of, AreMerged, no_more, one_more, IsExtra}
use Rattle.jesc_lookup.specs.LineSets.{Marks, map_in, added, AddsLine, AreAbove, AreKnown, HasLine, IsClosed, IsRoom}
use Rattle.jesc_lookup.specs.Maps.{Map, with_at}
use Rattle.jesc_lookup.specs.laws.Lines.{both_ways, one_line, line_above, merged_cases, merged_left, merged_right}
use Rattle.jesc_lookup.proofs.LineGrowth.{added_in, added_out, added_append, merged_is, same_marks, marks_more, size_with, begins_more}
use Rattle.jesc_lookup.proofs.LinePaths.{above_all, above_inside}

-- ---- what is added to like lines

-- to lines that have the same of the classes the same is added
added_alike : (a b xs : List ℕ) → ((d : ℕ) → Contains xs d → list_any (nat_eq d) a ≡ list_any (nat_eq d) b) → added a xs ≡ added b xs
added_alike a b [] f = refl
added_alike a b (x ∷ xs) f = elim (both_ways (list_any (nat_eq x) a)) [
  | inl e ↦ added_in a x xs e ∙ added_alike a b xs (λ d c. f d (later x xs d c)) ∙ sym (added_in b x xs (sym (f x (here x xs)) ∙ e))
  | inr e ↦
      added_out a x xs e ∙ ap (λ ys. x ∷ ys) (added_alike (a ++ x ∷ []) (b ++ x ∷ []) xs (λ d c. longer d (f d (later x xs d c)))) ∙ sym (added_out b x xs (sym (f x (here x xs)) ∙ e))
]
  where
    any_append : (xs ys : List ℕ) (d : ℕ) → list_any (nat_eq d) (xs ++ ys) ≡ list_any (nat_eq d) xs || list_any (nat_eq d) ys
    any_append [] ys d = refl
    any_append (x ∷ xs) ys d = ap (λ b. nat_eq d x || b) (any_append xs ys d) ∙ or_or (nat_eq d x) (list_any (nat_eq d) xs) (list_any (nat_eq d) ys)
      where
        or_or : (a b c : Bool) → (a || (b || c)) ≡ ((a || b) || c)
        or_or true b c = refl
        or_or false b c = refl

    longer : (d : ℕ) → list_any (nat_eq d) a ≡ list_any (nat_eq d) b → list_any (nat_eq d) (a ++ x ∷ []) ≡ list_any (nat_eq d) (b ++ x ∷ [])
    longer d e = any_append a (x ∷ []) d ∙ ap (λ t. t || list_any (nat_eq d) (x ∷ [])) e ∙ sym (any_append b (x ∷ []) d)

skipped : (class : ℕ) (line xs : List ℕ) → (Contains xs class → ⊥) → added (class ∷ line) xs ≡ added line xs
skipped class line xs n = added_alike (class ∷ line) line xs (λ d c. by d c (both_ways (nat_eq d class)))
  where
    by : (d : ℕ) → Contains xs d → (nat_eq d class ≡ true) ⊎ (nat_eq d class ≡ false) → (nat_eq d class || list_any (nat_eq d) line) ≡ list_any (nat_eq d) line
    by d c (inl e) = absurd (n (subst (Contains xs) (eqb-true d class e) c))
    by d c (inr e) = ap (λ b. b || list_any (nat_eq d) line) e

added_twice : (line xs : List ℕ) → added line (added line xs) ≡ added line xs
added_twice line [] = refl
added_twice line (x ∷ xs) = elim (both_ways (list_any (nat_eq x) line)) [
  | inl e ↦ ap (added line) (added_in line x xs e) ∙ added_twice line xs ∙ sym (added_in line x xs e)
  | inr e ↦
      ap (added line) (added_out line x xs e) ∙ added_out line x (added (line ++ x ∷ []) xs) e ∙ ap (λ ys. x ∷ ys) (added_twice (line ++ x ∷ []) xs)
      ∙ sym (added_out line x xs e)
]

-- ---- lines

module _ (graph : Graph) where
  -- no class stands twice
  fresh_merged : (line classes whole : List ℕ) → AreMerged graph line classes whole → added [] line ≡ line → added [] whole ≡ whole
  fresh_merged _ _ _ (no_more line) f = f
  fresh_merged _ _ _ (one_more line class classes other whole l m) f =
      fresh_merged (merged line other) classes whole m
      (ap (added []) (merged_is line other) ∙ added_append [] line (added line other) ∙ ap (λ xs. xs ++ added xs (added line other)) f
      ∙ ap (λ xs. line ++ xs) (added_twice line other) ∙ sym (merged_is line other))

  fresh_line : (class : ℕ) (line : List ℕ) → IsLine graph class line → added [] line ≡ line
  fresh_line _ _ (line_of class line m) = fresh_merged (class ∷ []) (supers graph class) line m refl

  merged_last : (line classes whole : List ℕ) → AreMerged graph line classes whole → (class : ℕ) (other : List ℕ) → IsLine graph class other → AreMerged graph line (classes ++ class ∷ []) (merged whole other)
  merged_last _ _ _ (no_more line) class other l = one_more line class [] other (merged line other) l (no_more (merged line other))
  merged_last _ _ _ (one_more line c classes o whole k m) class other l = one_more line c (classes ++ class ∷ []) o (merged whole other) k (merged_last (merged line o) classes whole m class other l)

  pub closed_line : (class : ℕ) (line : List ℕ) → IsLine graph class line → IsClosed graph line
  closed_line class line l c d k a = (line_above graph class line l d).1 (elim ((line_above graph class line l c).0 k) [
    | inl e ↦ inr (subst (λ x. Above graph x d) e a)
    | inr b ↦ inr (above_all graph class c d b a)
  ])

  closed_added : (line other : List ℕ) → IsClosed graph line → IsClosed graph other → IsClosed graph (line ++ added line other)
  closed_added line other f g c d k a =
      subst (λ xs. Contains xs d) (merged_is line other) (elim (merged_cases line other c (subst (λ xs. Contains xs c) (sym (merged_is line other)) k)) [
        | inl m ↦ merged_left line other d (f c d m a)
        | inr m ↦ merged_right line other d (g c d m a)
      ])

  -- a class isn't on the line of a class above it
  not_above : IsAcyclic graph → (class above : ℕ) (line : List ℕ) → Above graph class above → IsLine graph above line → Contains line class → ⊥
  not_above acyclic class above line r l c = elim ((line_above graph above line l class).0 c) [
    | inl e ↦ acyclic class (subst (Above graph class) (sym e) r)
    | inr b ↦ acyclic class (above_all graph class above class r b)
  ]

-- ---- the lines of the first supertypes are joined

-- the class and the lines of the supertypes of the first so many places, the first of which has that line
pub record Joined (graph : Graph) (versions : List Map) (line : Line) (class taken : ℕ) (first : List ℕ) : Type 0 where
  pub are : AreMerged graph (class ∷ []) (take taken (supers graph class)) (class ∷ (first ++ line.extra))
  pub closed : IsClosed graph (first ++ line.extra)
  pub marks : Marks (map_in versions line) (first ++ line.extra)

pub record Joins (graph : Graph) (old versions : List Map) (line : Line) (class taken : ℕ) : Type 0 where
  pub kept : take (length old) versions ≡ old
  pub room : IsRoom graph versions line
  pub none : supers graph class ≡ [] → (line.extra ≡ []) × Marks (map_in versions line) []
  pub some : (first : ℕ) (rest : List ℕ) → supers graph class ≡ first ∷ rest → (other : List ℕ) → IsLine graph first other → Joined graph versions line class taken other

module _ (graph : Graph) (rows : List (List ℕ)) (held : List ℕ) (old : List Map) (class : ℕ) (are : AreKnown graph rows held old class) where
  is_above : (s : ℕ) (rest : List ℕ) → supers graph class ≡ s ∷ rest → Above graph class s
  is_above s rest e = direct class s (subst (λ xs. Contains xs s) (sym e) (here s rest))

  pub held_there : (s : ℕ) (rest : List ℕ) → supers graph class ≡ s ∷ rest → s < length held
  held_there s rest e = let l = above_inside graph are.within class s (is_above s rest e) in omega (arith, l, are.held_count)

  pub joins_none : (line : Line) → supers graph class ≡ [] → line.version ≡ 0 → line.extra ≡ [] → take (length old) old ≡ old → Joins graph old old line class 1
  joins_none line e is_version is_extra kept = record {
    kept = kept;
    room = record { there = omega (arith, is_version, are.first); room = subst (λ v. length graph ≤ length (get_or old v [])) (sym is_version) are.room };
    none = λ f. (is_extra, subst (λ v. Marks (get_or old v []) []) (sym is_version) are.empty);
    some = λ s rest f other l. absurd (no s rest (sym e ∙ f));
  }
    where
      no : (s : ℕ) (rest : List ℕ) → [] ≡ s ∷ rest → ⊥
      no s rest h = cc

  pub joins_first : (line : Line) (s : ℕ) (rest : List ℕ) → supers graph class ≡ s ∷ rest → line.version ≡ get_or held s 0 → line.extra ≡ [] → take (length old) old ≡ old → Joins graph old old line class 1
  joins_first line s rest e is_version is_extra kept =
      let h = are.is_held s (is_above s rest e) in
      record {
        kept = kept;
        room = record { there = subst (λ v. v < length old) (sym is_version) h.there; room = subst (λ v. length graph ≤ length (get_or old v [])) (sym is_version) h.room };
        none = λ f. absurd (no (sym f ∙ e));
        some = λ t more f other l. joined t more f other l;
      }
    where
      no : [] ≡ s ∷ rest → ⊥
      no h = cc

      head_of : (t : ℕ) (more : List ℕ) → s ∷ rest ≡ t ∷ more → s ≡ t
      head_of t more h = cc

      joined : (t : ℕ) (more : List ℕ) → supers graph class ≡ t ∷ more → (other : List ℕ) → IsLine graph t other → Joined graph old line class 1 other
      joined t more f other l =
          let is_head : s ≡ t = head_of t more (sym e ∙ f) in
          let held_is = are.is_held t (is_above t more f) in
          let whole : other ++ line.extra ≡ other = ap (λ xs. other ++ xs) is_extra ∙ append-nil other in
          let one : merged (class ∷ []) other ≡ class ∷ other =
          merged_is (class ∷ []) other ∙ ap (λ xs. class ∷ xs) (skipped class [] other (not_above graph are.acyclic class t other (is_above t more f) l) ∙ fresh_line graph t other l) in
          record {
            are = subst (λ xs. AreMerged graph (class ∷ []) (take 1 xs) (class ∷ (other ++ line.extra))) (sym f)
                (subst (λ xs. AreMerged graph (class ∷ []) (t ∷ []) (class ∷ xs)) (sym whole)
                (one_more (class ∷ []) t [] other (class ∷ other) l (subst (λ xs. AreMerged graph xs [] (class ∷ other)) (sym one) (no_more (class ∷ other)))));
            closed = subst (IsClosed graph) (sym whole) (closed_line graph t other l);
            marks = subst (Marks (map_in old line)) (sym whole) (subst (λ v. Marks (get_or old v []) other) (sym (is_version ∙ ap (λ x. get_or held x 0) is_head)) (held_is.marks other l));
          }

  -- one more supertype

  module _ (versions : List Map) (line : Line) (taken : ℕ) (joins : Joins graph old versions line class taken) (l : taken < length (supers graph class)) where
    abbrev next : ℕ
    next = get_or (supers graph class) taken 0

    next_above : Above graph class next
    next_above = direct class next (Contains-get_or (supers graph class) taken 0 l)

    pub next_inside : next < length graph
    next_inside = above_inside graph are.within class next next_above

    pub above_next : AreAbove graph rows next
    above_next = record {
      within = are.within;
      acyclic = are.acyclic;
      count = are.rows_count;
      own = are.above next next_above;
      above = λ d a. are.above d (above_all graph class next d next_above a);
      below = are.below;
      line = are.line;
    }

    pub joins_more : (new : List Map) (b : Line) → AddsLine graph versions line new b next → Joins graph old new b class (taken + 1)
    joins_more new b adds = record {
      kept = begins_more old versions new joins.kept adds.grows.kept;
      room = record { there = adds.grows.there; room = omega (arith, joins.room.room, adds.grows.size) };
      none = λ e. absurd (nothing next (subst (λ xs. Contains xs next) e (Contains-get_or (supers graph class) taken 0 l)));
      some = λ s rest e other k. more s rest e other k (joins.some s rest e other k) (are.line next next_inside);
    }
      where
        more : (s : ℕ) (rest : List ℕ) → supers graph class ≡ s ∷ rest → (other : List ℕ) → IsLine graph s other → Joined graph versions line class taken other → (t : List ℕ) × IsLine graph next t → Joined graph new b class (taken + 1) other
        more s rest e other k j t =
            let old_line = other ++ line.extra in
            let is_extra = adds.extra old_line t.0 j.marks j.closed t.1 in
            let whole : old_line ++ added old_line t.0 ≡ other ++ b.extra = append_assoc other line.extra (added old_line t.0) ∙ ap (λ xs. other ++ xs) (sym is_extra) in
            let one : merged (class ∷ old_line) t.0 ≡ class ∷ (other ++ b.extra) =
            merged_is (class ∷ old_line) t.0 ∙ ap (λ xs. class ∷ (old_line ++ xs)) (skipped class old_line t.0 (not_above graph are.acyclic class next t.0 next_above t.1)) ∙ ap (λ xs. class ∷ xs) whole in
            record {
              are = subst (λ xs. AreMerged graph (class ∷ []) xs (class ∷ (other ++ b.extra))) (sym (take_more (supers graph class) taken 0 l))
                  (subst (AreMerged graph (class ∷ []) (take taken (supers graph class) ++ next ∷ [])) one (merged_last graph (class ∷ []) (take taken (supers graph class)) (class ∷ old_line) j.are next t.0 t.1));
              closed = subst (IsClosed graph) whole (closed_added graph old_line t.0 j.closed (closed_line graph next t.0 t.1));
              marks = subst (Marks (map_in new b)) whole (adds.marks old_line t.0 j.marks j.closed t.1);
            }

  -- ---- the whole line

  module _ (versions : List Map) (line : Line) (taken : ℕ) (joins : Joins graph old versions line class taken) (all : length (supers graph class) ≤ taken) where
    module _ (new : List Map) (b : Line) (is_new : new ≡ versions ++ with_at (map_in versions line) class 0 ∷ []) (is_version : b.version ≡ length versions) (is_extra : b.extra ≡ line.extra) where
      is_map : map_in new b ≡ with_at (map_in versions line) class 0
      is_map = ap (λ v. get_or new v []) is_version ∙ ap (λ ms. get_or ms (length versions) []) is_new ∙ get_or-append_seam versions (with_at (map_in versions line) class 0) [] []

      begun : take (length versions) new ≡ versions
      begun = ap (take (length versions)) is_new ∙ take-append_seam versions (with_at (map_in versions line) class 0 ∷ [])

      -- the marks of a line that begins with the class
      with_class : (rest : List ℕ) → Marks (map_in versions line) rest → Marks (map_in new b) (class ∷ rest)
      with_class rest m =
          subst (λ x. Marks x (class ∷ rest)) (sym is_map)
          (same_marks (with_at (map_in versions line) class 0) (rest ++ class ∷ []) (class ∷ rest)
          (λ d c. elim (Contains-append_cases rest (class ∷ []) d c) [ inl k ↦ later class rest d k | inr k ↦ Contains-append_left (class ∷ []) rest d k ])
          (λ d c. elim (first_or_later class rest d c) [
            | inl e ↦ subst (Contains (rest ++ class ∷ [])) e (Contains-append_right rest (class ∷ []) class (here class []))
            | inr k ↦ Contains-append_left rest (class ∷ []) d k
          ])
          (marks_more (map_in versions line) rest class (omega (arith, are.given, joins.room.room)) m))

      -- the line and its extra
      record IsWhole (rest : List ℕ) : Type 0 where
        is_line : IsLine graph class (class ∷ rest)
        marks : Marks (map_in versions line) rest

      whole_none : supers graph class ≡ [] → IsWhole []
      whole_none e = record { is_line = line_of class (class ∷ []) (subst (λ xs. AreMerged graph (class ∷ []) xs (class ∷ [])) (sym e) (no_more (class ∷ []))); marks = (joins.none e).1 }

      whole_some : (s : ℕ) (rest : List ℕ) → supers graph class ≡ s ∷ rest → (other : List ℕ) → IsLine graph s other → IsWhole (other ++ line.extra)
      whole_some s rest e other k =
          let j = joins.some s rest e other k in
          record { is_line = line_of class (class ∷ (other ++ line.extra)) (subst (λ xs. AreMerged graph (class ∷ []) xs (class ∷ (other ++ line.extra))) (take_all taken (supers graph class) all) j.are); marks = j.marks }

      some_whole : (xs : List ℕ) → supers graph class ≡ xs → (rest : List ℕ) × IsWhole rest
      some_whole [] e = ([], whole_none e)
      some_whole (s ∷ more) e = let t = are.line s (above_inside graph are.within class s (is_above s more e)) in (t.0 ++ line.extra, whole_some s more e t.0 t.1)

      is_extra_of : (xs : List ℕ) → supers graph class ≡ xs → IsExtra graph class b.extra
      is_extra_of [] e = rw e (is_extra ∙ (joins.none e).0, (whole_none e).is_line)
      is_extra_of (s ∷ more) e = rw e (λ t k. subst (λ xs. IsLine graph class (class ∷ (t ++ xs))) (sym is_extra) (whole_some s more e t k).is_line)

      on_line : (xs : List ℕ) → supers graph class ≡ xs → (d : ℕ) → Contains line.extra d → d < length graph
      on_line [] e d c = absurd (nothing d (subst (λ xs. Contains xs d) (joins.none e).0 c))
      on_line (s ∷ more) e d c =
          let t = are.line s (above_inside graph are.within class s (is_above s more e)) in
          let w = whole_some s more e t.0 t.1 in
          elim ((line_above graph class (class ∷ (t.0 ++ line.extra)) w.is_line d).0 (later class (t.0 ++ line.extra) d (Contains-append_right t.0 line.extra d c))) [
            | inl f ↦ subst (λ x. x < length graph) (sym f) are.given
            | inr a ↦ above_inside graph are.within class d a
          ]

      pub has_line : HasLine graph old new class b
      has_line = record {
        kept = begins_more old versions new joins.kept begun;
        extra = is_extra_of (supers graph class) refl;
        below = λ k d l. on_line (supers graph class) refl (get_or b.extra k d) (subst (λ xs. Contains xs (get_or b.extra k d)) is_extra (Contains-get_or b.extra k d l));
        held = record {
          there = omega (arith, is_version, ap length is_new, length-append versions (with_at (map_in versions line) class 0 ∷ []));
          room = omega (arith, joins.room.room, ap length is_map, size_with (map_in versions line) class 0);
          marks = λ t k. let w = some_whole (supers graph class) refl in subst (Marks (map_in new b)) (one_line graph class (class ∷ w.0) t w.1.is_line k) (with_class w.0 w.1.marks);
        };
      }
