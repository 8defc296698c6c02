-- The graph that headings name has a row of each class, and every number in it is that of a class.
use Rattle.std.proofs.Common.{◌≡◌, ℕ, zero, suc, ◌+◌, ◌<◌, Bool, true, false, List, [], ◌∷◌, ◌++◌, map, length, Option, Some, None, ◌⊎◌, inl, inr, refl, arith, bytes_eq, if◌then◌else◌}
use Rattle.std.proofs.lemmas.List.{length-map}
use Rattle.std.specs.List.{All, AllByRecursion}
use Rattle.jesc_ast.specs.declared.word.Word.{Word}
use Rattle.jesc_ast.specs.declared.class.ClassTree.{ClassTree}
use Rattle.jesc_tree.specs.Programs.{predefined}
use Rattle.jesc_classes.specs.Order.{Graph, IsWithin}
use Rattle.jesc_classes.specs.Headings.{Source, class_names, first_from, class_named, with_class, classes_named, extended_by, graph_of}

-- ---- how many classes there are

-- the row of a given class
abbrev pub row : List Source → Source → List ℕ
row given s = extended_by given s.tree s.tree.extends ++ classes_named given s.tree.implements

pub graph_length : (given : List Source) → length (graph_of given) ≡ length given + 7
graph_length given = omega (arith, length-map given (row given))

names_length : (given : List Source) → length (class_names given) ≡ length given + 7
names_length given = omega (arith, length-map given (λ s. s.tree.name.text))

-- ---- a name means one of them

some_if : (b : Bool) (i j : ℕ) (rest : Option ℕ) → (if b then Some i else rest) ≡ Some j → (j ≡ i) ⊎ (rest ≡ Some j)
some_if true i j rest e = inl (cc)
some_if false i j rest e = inr e

first_within : (i : ℕ) (name : List ℕ) (names : List (List ℕ)) (j : ℕ) → first_from i name names ≡ Some j → j < i + length names
first_within i name [] j e = cc
first_within i name (n ∷ names) j e =
    elim (some_if (bytes_eq name n) i j (first_from (i + 1) name names) e) [
      | inl f ↦ omega (arith, f)
      | inr f ↦ omega (arith, first_within (i + 1) name names j f)
    ]

pub class_within : (given : List Source) (name : List ℕ) (j : ℕ) → class_named given name ≡ Some j → j < length given + 7
class_within given name j e = omega (arith, first_within 0 name (class_names given) j e, names_length given)

-- ---- the numbers of a row

module _ (given : List Source) where
  abbrev Below : ℕ → Type 0
  Below a = a < length (graph_of given)

  below : (name : List ℕ) (j : ℕ) → class_named given name ≡ Some j → Below j
  below name j e = omega (arith, class_within given name j e, graph_length given)

  first_too : (x : ℕ) (xs : List ℕ) → Below x → All Below xs → All Below (x ∷ xs)
  first_too x xs b all zero d l = b
  first_too x xs b all (suc k) d l = all k d (omega (arith, l))

  none : All Below []
  none k d l = absurd (omega (arith, l))

  both : (xs ys : List ℕ) → All Below xs → All Below ys → All Below (xs ++ ys)
  both [] ys h k = k
  both (x ∷ xs) ys h k = first_too x (xs ++ ys) (h zero x (omega arith)) (both xs ys (λ i d l. h (suc i) d (omega (arith, l))) k)

  named_within : (ws : List Word) → All Below (classes_named given ws)
  named_within [] = none
  named_within (w ∷ ws) = by (class_named given w.text) refl (named_within ws)
    where
      by : (o : Option ℕ) → class_named given w.text ≡ o → All Below (classes_named given ws) → All Below (with_class o (classes_named given ws))
      by None e rest = rest
      by (Some j) e rest = first_too j (classes_named given ws) (below w.text j e) rest

  extended_within : (c : ClassTree) (ws : List Word) → All Below (extended_by given c ws)
  extended_within c [] = by c.is_interface
    where
      by : (b : Bool) → All Below (if b then [] else (0 ∷ []))
      by true = none
      by false = first_too 0 [] (omega (arith, graph_length given)) none
  extended_within c (w ∷ ws) = named_within (w ∷ ws)

  rows_first : (r : List ℕ) (rows : Graph) → All Below r → All (All Below) rows → All (All Below) (r ∷ rows)
  rows_first r rows b all zero d l = b
  rows_first r rows b all (suc k) d l = all k d (omega (arith, l))

  no_rows : All (All Below) []
  no_rows k d l = absurd (omega (arith, l))

  rows_both : (rows more : Graph) → All (All Below) rows → All (All Below) more → All (All Below) (rows ++ more)
  rows_both [] more h k = k
  rows_both (r ∷ rows) more h k = rows_first r (rows ++ more) (h zero r (omega arith)) (rows_both rows more (λ i d l. h (suc i) d (omega (arith, l))) k)

  given_within : (all : List Source) → All (All Below) (map (row given) all)
  given_within [] = no_rows
  given_within (s ∷ all) =
      rows_first (row given s) (map (row given) all)
      (both (extended_by given s.tree s.tree.extends) (classes_named given s.tree.implements) (extended_within s.tree s.tree.extends) (named_within s.tree.implements)) (given_within all)

  -- rows of one number each
  abbrev alone : List ℕ → Graph
  alone [] = []
  alone (x ∷ xs) = (x ∷ []) ∷ alone xs

  alone_within : (xs : List ℕ) → AllByRecursion (λ x. x < 7) xs → All (All Below) (alone xs)
  alone_within [] h = no_rows
  alone_within (x ∷ xs) h = rows_first (x ∷ []) (alone xs) (first_too x [] (omega (arith, h.0, graph_length given)) none) (alone_within xs h.1)

  predefined_within : All (All Below) (map (λ p. p.1) predefined)
  predefined_within =
      let others : List ℕ = 0 ∷ 1 ∷ 1 ∷ 2 ∷ 4 ∷ 4 ∷ [] in
      rows_first [] (alone others) none (alone_within others (omega arith, (omega arith, (omega arith, (omega arith, (omega arith, (omega arith, tt)))))))

  within : IsWithin (graph_of given)
  within = rows_both (map (λ p. p.1) predefined) (map (row given) given) predefined_within (given_within given)

pub graph_within : (given : List Source) → IsWithin (graph_of given)
graph_within given = within given
