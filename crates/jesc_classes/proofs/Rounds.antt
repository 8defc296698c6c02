-- One round of the giving of ids: the least of the ready classes is the next one.
use Rattle.std.proofs.Common.{◌≡◌, ◌↔◌, ℕ, true≢false, Option, Some, None, IsSome, ◌+◌, ◌-◌, ◌<◌, ◌≤◌, List, [], ◌∷◌, ◌++◌, length, ◌⊎◌, inl, inr, refl, sym, subst, arith}
use Rattle.std.proofs.lemmas.List.{length-append}
use Rattle.std.proofs.lemmas.List.Elements.{All-contains}
use Rattle.std.specs.BTreeMap.Range.{IsLtBy}
use Rattle.std.specs.Cmp.{ranks}
use Rattle.std.specs.List.{All, Contains}
use Rattle.std.specs.Ordering.{nat_cmp, MatchOrdering}
use Rattle.jesc_classes.specs.declared.order.Progress.{Progress}
use Rattle.jesc_classes.specs.Order.{Graph, supers, IsReady, IsNext, IsOrder, ended, next}
use Rattle.jesc_classes.specs.Progress.{IsSized, Keeps, Stands}
use Rattle.jesc_classes.specs.laws.Orders.{AreClasses, few_classes, first_or_later, here, later, no_classes, nothing, one_class_more}

-- every order that goes on from here is one from the beginning
pub record Gives (graph : Graph) (p : Progress) : Type 0 where
  pub sized : IsSized (length graph) p
  pub keeps : Keeps graph [] p
  pub classes : AreClasses graph p.order
  pub goes_on : (order : List ℕ) → IsOrder graph p.order order → IsOrder graph [] order

pub begins : (graph : Graph) (p : Progress) → p.order ≡ [] → IsSized (length graph) p → Keeps graph [] p → Gives graph p
begins graph p empty sized keeps = record {
  sized = sized;
  keeps = keeps;
  classes = subst (λ o. AreClasses graph o) (sym empty) (no_classes graph);
  goes_on = λ order o. subst (λ d. IsOrder graph d order) empty o;
}

module _ (graph : Graph) (p : Progress) (gives : Gives graph p) where
  is_among : (class : ℕ) → IsReady graph p.order class → Contains p.ready.keys class
  is_among class r = elim (gives.keeps.each class r.given r.waits) [
    | inl c ↦ c
    | inr o ↦ elim o [
      | inl v ↦ absurd (v.1 (All-contains (Contains p.order) (supers graph class) v.0 r.above (subst (λ x. Contains (supers graph x) v.0) v.4 (gives.keeps.rows_say v.0 v.1 v.2 v.3).1)))
      | inr c ↦ absurd (nothing class c)
    ]
  ]

  pub stops : p.ready.keys ≡ [] → IsOrder graph [] p.order
  stops none = gives.goes_on p.order (ended p.order (λ class r. nothing class (subst (λ xs. Contains xs class) none (is_among class r))))

  module _ (class : ℕ) (rest : List ℕ) (split : p.ready.keys ≡ class ∷ rest) (greater : All (IsLtBy nat_cmp class) rest) where
    above : (q : ℕ) → Contains rest q → class < q
    above q c = subst (λ r. MatchOrdering r (class < q) (class ≡ q) (q < class)) (All-contains (IsLtBy nat_cmp class) rest q greater c) (ranks class q)

    either : (q : ℕ) → Contains p.ready.keys q → (class ≡ q) ⊎ Contains rest q
    either q c = first_or_later class rest q (subst (λ xs. Contains xs q) split c)

    pub is_ready : IsReady graph p.order class
    is_ready = gives.keeps.ready_say class (subst (λ xs. Contains xs class) (sym split) (here class rest))

    pub left : Contains rest class → ⊥
    left c = let l = above class c in omega (arith, l)

    pub popped : Stands graph p.order p.has_id.items rest p.waiting.items (class ∷ [])
    popped = record {
      marks_say = gives.keeps.marks_say;
      ready_say = λ q c. gives.keeps.ready_say q (subst (λ xs. Contains xs q) (sym split) (later class rest q c));
      rows_say = gives.keeps.rows_say;
      each = λ q l n. elim (gives.keeps.each q l n) [
        | inl c ↦ elim (either q c) [ inl e ↦ inr (inr (subst (λ x. Contains (class ∷ []) x) e (here class []))) | inr o ↦ inl o ]
        | inr o ↦ elim o [ inl v ↦ inr (inl v) | inr c ↦ absurd (nothing q c) ]
      ];
    }

    is_next : IsNext graph p.order class
    is_next = record {
      ready = is_ready;
      first = λ q r l. elim (either q (is_among q r)) [
        | inl e ↦ absurd (omega (arith, e, l))
        | inr o ↦ let m = above q o in omega (arith, l, m)
      ];
    }

    classes_more : AreClasses graph (p.order ++ class ∷ [])
    classes_more = one_class_more graph p.order class is_ready gives.classes

    pub gives_more : (new : Progress) → new.order ≡ p.order ++ class ∷ [] → IsSized (length graph) new → Keeps graph [] new → Gives graph new
    gives_more new grows sized keeps = record {
      sized = sized;
      keeps = keeps;
      classes = subst (λ o. AreClasses graph o) (sym grows) classes_more;
      goes_on = λ order o. gives.goes_on order (next p.order order class is_next (subst (λ d. IsOrder graph d order) grows o));
    }

    pub fewer : (order : List ℕ) → order ≡ p.order ++ class ∷ [] → length graph - length order < length graph - length p.order
    fewer order grows =
        let size = subst (λ o. length o ≡ length p.order + 1) (sym grows) (length-append p.order (class ∷ [])) in
        let few = few_classes graph (p.order ++ class ∷ []) classes_more in
        let same = subst (λ o. length o ≤ length graph) (sym grows) few in
        omega (arith, size, same)

-- where there is no least one, there is none
pub none_left : (least : Option ℕ) (ready : List ℕ) → IsSome least ↔ (0 < length ready) → ((class : ℕ) → least ≡ Some class → ⊥) → ready ≡ []
none_left None [] some none = refl
none_left None (q ∷ qs) some none = absurd (true≢false (sym (some.1 (omega arith))))
none_left (Some class) ready some none = absurd (none class refl)
