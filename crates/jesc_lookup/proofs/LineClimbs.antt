-- What is kept while the first supertypes of a class are added to a line.
use Rattle.std.proofs.Common.{◌≡◌, ℕ, ◌<◌, true, false, List, [], ◌∷◌, ◌++◌, length, get_or, Some, None, refl, ap, sym, ◌∙◌, subst, arith, append_assoc, append-nil}
use Rattle.std.proofs.lemmas.List.{get_or_default}
use Rattle.std.proofs.lemmas.List.Elements.{All-push}
use Rattle.std.specs.List.{All, Contains, slice_get}
use Rattle.jesc_classes.specs.Order.{Graph, supers, IsWithin}
use Rattle.jesc_classes.specs.laws.Orders.{here}
use Rattle.jesc_lookup.specs.declared.lines.Line.{Line}
use Rattle.jesc_lookup.specs.LineSets.{Marks, map_in, Grows, Meets, Climbs, IsPath, known, top, up}
use Rattle.jesc_lookup.specs.Maps.{Map}
use Rattle.jesc_lookup.proofs.LineGrowth.{added_in, added_out, grows_itself, grows_more}
use Rattle.jesc_lookup.proofs.LinePaths.{super_inside}

-- a path to the next class was added, and what is missing of the path goes on from there
pub record Climbing (graph : Graph) (old : List Map) (a : Line) (class : ℕ) (new : List Map) (b : Line) (next : ℕ) : Type 0 where
  pub grows : Grows old a new b
  pub given : next < length graph
  pub path : List ℕ
  pub extra : b.extra ≡ a.extra ++ path
  pub below : All (λ c. c < length graph) path
  pub is_path : (line : List ℕ) → Marks (map_in old a) line → (rest : List ℕ) → IsPath graph (line ++ path) next rest → IsPath graph line class (path ++ rest)
  pub marks : (line : List ℕ) → Marks (map_in old a) line → Marks (map_in new b) (line ++ path)

module _ (graph : Graph) (old : List Map) (a : Line) (class : ℕ) where
  pub climbs_first : a.version < length old → class < length graph → Climbing graph old a class old a class
  climbs_first there given = record {
    grows = grows_itself old a there;
    given = given;
    path = [];
    extra = sym (append-nil a.extra);
    below = λ k d l. absurd (omega (arith, l));
    is_path = λ line m rest p. subst (λ l. IsPath graph l class rest) (append-nil line) p;
    marks = λ line m. subst (Marks (map_in old a)) (sym (append-nil line)) m;
  }

  module _ (mid : List Map) (b : Line) (next : ℕ) (new : List Map) (e : Line) (climbing : Climbing graph old a class mid b next) where
    pub climbs_known : Meets mid b new e next false → Climbs graph old a new e class
    climbs_known meets = record {
      grows = grows_more old a mid b new e climbing.grows meets.merges.grows;
      path = climbing.path;
      extra = meets.same refl ∙ climbing.extra;
      below = climbing.below;
      is_path = λ line m.
          subst (IsPath graph line class) (append-nil climbing.path)
          (climbing.is_path line m [] (known (line ++ climbing.path) next (meets.is_old (line ++ climbing.path) (climbing.marks line m))));
      marks = λ line m.
          let old_one = meets.is_old (line ++ climbing.path) (climbing.marks line m) in
          subst (Marks (map_in new e)) (ap (λ xs. (line ++ climbing.path) ++ xs) (added_in (line ++ climbing.path) next [] old_one) ∙ append-nil (line ++ climbing.path))
          (meets.merges.marks (line ++ climbing.path) (climbing.marks line m));
    }

    module _ (meets : Meets mid b new e next true) where
      more_extra : e.extra ≡ a.extra ++ (climbing.path ++ next ∷ [])
      more_extra = meets.more refl ∙ ap (λ xs. xs ++ next ∷ []) climbing.extra ∙ append_assoc a.extra climbing.path (next ∷ [])

      more_marks : (line : List ℕ) → Marks (map_in old a) line → Marks (map_in new e) (line ++ (climbing.path ++ next ∷ []))
      more_marks line m =
          let new_one = meets.is_old (line ++ climbing.path) (climbing.marks line m) in
          subst (Marks (map_in new e)) (ap (λ xs. (line ++ climbing.path) ++ xs) (added_out (line ++ climbing.path) next [] new_one) ∙ append_assoc line climbing.path (next ∷ []))
          (meets.merges.marks (line ++ climbing.path) (climbing.marks line m))

      pub climbs_top : supers graph next ≡ [] → Climbs graph old a new e class
      climbs_top none = record {
        grows = grows_more old a mid b new e climbing.grows meets.merges.grows;
        path = climbing.path ++ next ∷ [];
        extra = more_extra;
        below = All-push (λ c. c < length graph) climbing.path next climbing.below climbing.given;
        is_path = λ line m. climbing.is_path line m (next ∷ []) (top (line ++ climbing.path) next (meets.is_old (line ++ climbing.path) (climbing.marks line m)) none);
        marks = more_marks;
      }

      pub climbs_on : (first : ℕ) (rest : List ℕ) → IsWithin graph → supers graph next ≡ first ∷ rest → Climbing graph old a class new e first
      climbs_on first rest within is_first = record {
        grows = grows_more old a mid b new e climbing.grows meets.merges.grows;
        given = super_inside graph within next first (subst (λ xs. Contains xs first) (sym is_first) (here first rest));
        path = climbing.path ++ next ∷ [];
        extra = more_extra;
        below = All-push (λ c. c < length graph) climbing.path next climbing.below climbing.given;
        is_path = λ line m more p.
            subst (IsPath graph line class) (sym (append_assoc climbing.path (next ∷ []) more))
            (climbing.is_path line m (next ∷ more) (up (line ++ climbing.path) next first rest more (meets.is_old (line ++ climbing.path) (climbing.marks line m)) is_first (subst (λ l. IsPath graph l first more) (sym (append_assoc line climbing.path (next ∷ []))) p)));
        marks = more_marks;
      }

-- ---- rows as the code reads them

pub row_is : (graph : Graph) (class : ℕ) (row xs : List ℕ) → class < length graph → row ≡ get_or graph class row → xs ≡ row → xs ≡ supers graph class
row_is graph class row xs l e f = f ∙ e ∙ get_or_default graph class row [] l

pub first_none : (xs : List ℕ) → None ≡ slice_get xs 0 → xs ≡ []
first_none [] e = refl
first_none (x ∷ xs) e = absurd (no e)
  where
    no : None ≡ Some x → ⊥
    no h = cc

pub first_some : (xs : List ℕ) (x : ℕ) → Some x ≡ slice_get xs 0 → (rest : List ℕ) × (xs ≡ x ∷ rest)
first_some [] x e = absurd (no e)
  where
    no : Some x ≡ None → ⊥
    no h = cc
first_some (y ∷ xs) x e = (xs, ap (λ z. z ∷ xs) (same_one e))
  where
    same_one : Some x ≡ Some y → y ≡ x
    same_one h = cc
