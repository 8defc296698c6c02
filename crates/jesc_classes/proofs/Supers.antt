-- The classes that a heading names are its class's supertypes.
use Rattle.std.proofs.Common.{◌≡◌, ℕ, zero, suc, ◌+◌, ◌<◌, List, [], ◌∷◌, map, length, get_or, Option, Some, None, inl, inr, refl, ap, sym, ◌∙◌, subst, arith}
use Rattle.std.proofs.lemmas.List.Elements.{All-contains, Contains-append_left, Contains-append_right}
use Rattle.std.specs.List.{All, Contains, slice_get}
use Rattle.jesc_ast.specs.declared.word.Word.{Word}
use Rattle.jesc_classes.specs.Clauses.{NamesSuper, IsNumber}
use Rattle.jesc_classes.specs.Headings.{Source, class_named, with_class, classes_named, extended_by, graph_of, IsOnCycle}
use Rattle.jesc_classes.specs.Order.{Graph, direct, further, IsAcyclic, IsWithin, supers}
use Rattle.jesc_classes.specs.laws.Graphs.{row}

module _ (given : List Source) where
  later : (o : Option ℕ) (xs : List ℕ) (q : ℕ) → Contains xs q → Contains (with_class o xs) q
  later None xs q c = c
  later (Some x) xs q c = (suc c.0, omega (arith, c.1), c.2)

  here : (o : Option ℕ) (xs : List ℕ) (q : ℕ) → o ≡ Some q → Contains (with_class o xs) q
  here o xs q e = subst (λ (p : Option ℕ). Contains (with_class p xs) q) (sym e) (0, omega arith, refl)

  among : (words : List Word) (k : ℕ) (d : Word) (j : ℕ) → k < length words → class_named given (get_or words k d).text ≡ Some j → Contains (classes_named given words) j
  among [] k d j l e = absurd (omega (arith, l))
  among (w ∷ words) zero d j l e = here (class_named given w.text) (classes_named given words) j e
  among (w ∷ words) (suc k) d j l e = later (class_named given w.text) (classes_named given words) j (among words k d j (omega (arith, l)) e)

  among_extended : (s : Source) (words : List Word) (k : ℕ) (d : Word) (j : ℕ) → k < length words → class_named given (get_or words k d).text ≡ Some j → Contains (extended_by given s.tree words) j
  among_extended s [] k d j l e = absurd (omega (arith, l))
  among_extended s (w ∷ words) k d j l e = among (w ∷ words) k d j l e

  row_at : (all : List Source) (n : ℕ) (s : Source) → slice_get all n ≡ Some s → get_or (map (row given) all) n [] ≡ row given s
  row_at [] n s e = cc
  row_at (x ∷ all) zero s e = let same : x ≡ s = cc in ap (row given) same
  row_at (x ∷ all) (suc n) s e = row_at all n s e

  supers_at : (i : ℕ) (s : Source) → IsNumber given i s → supers (graph_of given) i ≡ row given s
  supers_at i s number =
      let n = number.0 in
      let behind : 7 + n ≡ suc (suc (suc (suc (suc (suc (suc n)))))) = omega arith in
      ap (supers (graph_of given)) (number.1 ∙ behind) ∙ row_at given n s number.2

  pub extended_known : (i : ℕ) (s : Source) → IsNumber given i s → All (NamesSuper given i) s.tree.extends
  extended_known i s number k d l j e =
      subst (λ (xs : List ℕ). Contains xs j) (sym (supers_at i s number))
      (Contains-append_left (extended_by given s.tree s.tree.extends) (classes_named given s.tree.implements) j (among_extended s s.tree.extends k d j l e))

  pub implemented_known : (i : ℕ) (s : Source) → IsNumber given i s → All (NamesSuper given i) s.tree.implements
  implemented_known i s number k d l j e =
      subst (λ (xs : List ℕ). Contains xs j) (sym (supers_at i s number))
      (Contains-append_right (extended_by given s.tree s.tree.extends) (classes_named given s.tree.implements) j (among s.tree.implements k d j l e))

-- ---- cycles

beyond : (graph : Graph) (a b : ℕ) → Contains (supers graph a) b → a < length graph
beyond [] a b c = absurd (omega (arith, c.1))
beyond (x ∷ graph) zero b c = omega arith
beyond (x ∷ graph) (suc a) b c = let r = beyond graph a b c in omega (arith, r)

pub above_within : (graph : Graph) (a b : ℕ) → IsWithin graph → Contains (supers graph a) b → b < length graph
above_within graph a b within c = All-contains (λ x. x < length graph) (supers graph a) b (within a [] (beyond graph a b c)) c

pub no_cycle : (given : List Source) (class above : ℕ) → IsAcyclic (graph_of given) → Contains (supers (graph_of given) class) above → IsOnCycle given class above → ⊥
no_cycle given class above acyclic c cycle =
    acyclic class (elim cycle [
      | inl e ↦ direct class class (subst (λ (x : ℕ). Contains (supers (graph_of given) class) x) e c)
      | inr k ↦ further class above class c k
    ])
