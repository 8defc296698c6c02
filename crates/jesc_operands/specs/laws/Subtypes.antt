-- What fits by the function fits by the relation, and the other way round.
use Rattle.std.specs.Prelude.{◌≡◌, ◌↔◌, ℕ, ◌<◌, ◌≤◌, ◌==◌, true, false, Option, Some, None, List, ◌⊎◌, slice_get, unwrap_or, option_map}
use Rattle.std.specs.List.{All, Contains, list_any}
use Rattle.std.proofs.Common.{refl, sym, ap, ◌∙◌, subst, inl, inr, arith, zero, suc, true≢false, eqb-true, eq-eqb}
use Rattle.std.proofs.lemmas.Bool.{or_cases, or_left, or_right}
use Rattle.std.proofs.lemmas.List.Folds.{Any-from_list_any, list_any_at}
use Rattle.jesc_tree.specs.Ids.{if_there, ty_ids}
use Rattle.jesc_tree.specs.declared.ids.ClassId.{ClassId}
use Rattle.jesc_tree.specs.declared.ty.Elem.{Elem}
use Rattle.jesc_tree.specs.declared.ty.Elem.TheVariants as elem
use Rattle.jesc_tree.specs.declared.ty.Ty.{Ty}
use Rattle.jesc_tree.specs.declared.ty.Ty.TheVariants as ty
use Rattle.jesc_tree.specs.declared.class.Class.{Class}
use Rattle.jesc_tree.specs.declared.class.Field.{Field}
use Rattle.jesc_tree.specs.declared.class.Method.{Method}
use Rattle.jesc_tree.specs.Subtypes.{class_id, supertypes, Extends, Reaches, itself, further, Subtype, reflexive, transitive, declared, below_object, array_below_object, array, Fits, subtype}
use Rattle.jesc_tree.specs.Programs.{IsInRange, IsProgram, IsLawful}
use Rattle.jesc_tree.specs.laws.Forms.{takes_null, Below, ElemFit, Sub, Fit}
use Rattle.jesc_tree.specs.laws.Fitting.{fit_of, fits_of, fits_by_form}
use Rattle.jesc_operands.specs.Operands.{IsInterface}
use Rattle.jesc_operands.specs.Deciding.{supertypes_of, is_below, is_subclass, is_subelement, is_subtype, fits, is_throwable, is_interface}

-- a test that fails is not passed
pub never : {A : Type 0} → false ≡ true → A
never e = absurd (true≢false (sym e))

at : {X : Type 0} (P : X → Type 0) (xs : List X) (x : X) → All P xs → Contains xs x → P x
at P xs x all c = subst P c.2 (all c.0 x c.1)

-- ---- headings

module _ (classes : List Class) where
  named : (a s : ℕ) (o : Option Class) → slice_get classes a ≡ o → Contains (if_there supertypes o) s → Extends classes a s
  named a s None e c = absurd (omega (arith, c.1))
  named a s (Some d) e c = (d, e, c)

  reaches : (fuel a b : ℕ) → is_below classes fuel a b ≡ true → Reaches classes a b
  reaches zero a b e = never e
  reaches (suc fuel) a b e = elim (or_cases (a == b) (list_any (λ s. is_below classes fuel s b) (supertypes_of classes a)) e) [
    | inl same ↦ subst (λ c. Reaches classes a c) (eqb-true a b same) (itself a)
    | inr one ↦
        let k = Any-from_list_any (λ s. is_below classes fuel s b) (supertypes_of classes a) one in
        further a k.1 b (named a k.1 (slice_get classes a) refl (k.0, k.2, k.3)) (reaches fuel k.1 b k.4)
  ]

  -- ---- the law on interfaces

  interface_of : (i : ClassId) (o : Option Class) → slice_get classes i.0 ≡ o → unwrap_or (option_map (λ c. c.is_interface) o) false ≡ true → IsInterface classes (ty.Ref i)
  interface_of i None e h = never h
  interface_of i (Some c) e h = (i, refl, (c, e, h))

  interfaces : (t : Ty) → is_interface classes t ≡ true → IsInterface classes t
  interfaces (ty.Ref i) h = interface_of i (slice_get classes i.0) refl h
  interfaces t h = never h

  pub is_interface_exactly : (t : Ty) → (is_interface classes t ≡ true) ↔ IsInterface classes t
  is_interface_exactly t = (
    interfaces t,
    (λ x. subst (λ s. is_interface classes s ≡ true) (sym x.1) (ap (λ o. unwrap_or (option_map (λ (c : Class). c.is_interface) o) false) x.2.1 ∙ x.2.2)),
  )

module _ (classes : List Class) (fields : List Field) (methods : List Method) (program : IsProgram classes fields methods) where
  smaller : (a b : ℕ) → Extends classes a b → b < a
  smaller a b e = at (λ s. s < a) (supertypes e.0) b (program.supertypes_first a e.0 e.1) e.2

  falls : (a b : ℕ) → Reaches classes a b → b ≤ a
  falls a b (itself c) = omega arith
  falls a b (further c d e x r) = omega (arith, smaller c d x, falls d e r)

  -- with a fuel above the class's id the function finds each way by headings
  is_found : (fuel a b : ℕ) → a < fuel → Reaches classes a b → is_below classes fuel a b ≡ true
  is_found zero a b l r = absurd (omega (arith, l))
  is_found (suc fuel) a b l (itself c) = or_left (c == c) (list_any (λ s. is_below classes fuel s c) (supertypes_of classes c)) (eq-eqb c c refl)
  is_found (suc fuel) a b l (further c d e x r) =
      let h = subst (λ o. Contains (if_there supertypes o) d) (sym x.1) x.2 in
      let less = smaller c d x in
      let one = is_found fuel d e (omega (arith, l, less)) r in
      or_right (c == e) (list_any (λ s. is_below classes fuel s e) (supertypes_of classes c))
      (list_any_at (λ s. is_below classes fuel s e) (supertypes_of classes c) h.0 d h.1 (subst (λ s. is_below classes fuel s e ≡ true) (sym h.2) one))

  is_subclass_exactly : (a b : ℕ) → (is_subclass classes a b ≡ true) ↔ Below classes a b
  is_subclass_exactly a b = (
    (λ e. elim (or_cases (b == 0) (is_below classes (suc a) a b) e) [ inl z ↦ inl (eqb-true b 0 z) | inr r ↦ inr (reaches classes (suc a) a b r) ]),
    (λ x. elim x [
      | inl z ↦ or_left (b == 0) (is_below classes (suc a) a b) (eq-eqb b 0 z)
      | inr r ↦ or_right (b == 0) (is_below classes (suc a) a b) (is_found (suc a) a b (omega arith) r)
    ]),
  )

  -- ---- forms of types

  same_int_elem : (f : Elem) → is_subelement classes elem.Int f ≡ true → elem.Int ≡ f
  same_int_elem elem.Int e = refl
  same_int_elem f e = never e

  same_long_elem : (f : Elem) → is_subelement classes elem.Long f ≡ true → elem.Long ≡ f
  same_long_elem elem.Long e = refl
  same_long_elem f e = never e

  same_truth_elem : (f : Elem) → is_subelement classes elem.Bool f ≡ true → elem.Bool ≡ f
  same_truth_elem elem.Bool e = refl
  same_truth_elem f e = never e

  is_subelement_exactly : (e f : Elem) → (is_subelement classes e f ≡ true) ↔ ElemFit classes e f
  is_subelement_exactly (elem.Ref a) (elem.Ref b) = is_subclass_exactly a.0 b.0
  is_subelement_exactly (elem.Ref a) f = ((λ h. never h), (λ x. absurd x))
  is_subelement_exactly elem.Int f = (same_int_elem f, λ h. subst (λ g. is_subelement classes elem.Int g ≡ true) h refl)
  is_subelement_exactly elem.Long f = (same_long_elem f, λ h. subst (λ g. is_subelement classes elem.Long g ≡ true) h refl)
  is_subelement_exactly elem.Bool f = (same_truth_elem f, λ h. subst (λ g. is_subelement classes elem.Bool g ≡ true) h refl)

  same_void : (t : Ty) → is_subtype classes ty.Void t ≡ true → ty.Void ≡ t
  same_void ty.Void e = refl
  same_void t e = never e

  same_null : (t : Ty) → is_subtype classes ty.Null t ≡ true → ty.Null ≡ t
  same_null ty.Null e = refl
  same_null t e = never e

  same_int : (t : Ty) → is_subtype classes ty.Int t ≡ true → ty.Int ≡ t
  same_int ty.Int e = refl
  same_int t e = never e

  same_long : (t : Ty) → is_subtype classes ty.Long t ≡ true → ty.Long ≡ t
  same_long ty.Long e = refl
  same_long t e = never e

  same_truth : (t : Ty) → is_subtype classes ty.Bool t ≡ true → ty.Bool ≡ t
  same_truth ty.Bool e = refl
  same_truth t e = never e

  is_subtype_exactly : (s t : Ty) → (is_subtype classes s t ≡ true) ↔ Sub classes s t
  is_subtype_exactly (ty.Ref a) (ty.Ref b) = is_subclass_exactly a.0 b.0
  is_subtype_exactly (ty.Ref a) t = ((λ h. never h), (λ x. absurd x))
  is_subtype_exactly (ty.Array e) (ty.Ref b) = ((λ h. inl (eqb-true b.0 0 h)), (λ x. elim x [ inl z ↦ eq-eqb b.0 0 z | inr n ↦ absurd n ]))
  is_subtype_exactly (ty.Array e) (ty.Array f) = let k = is_subelement_exactly e f in ((λ h. inr (k.0 h)), (λ x. elim x [ inl n ↦ absurd n | inr y ↦ k.1 y ]))
  is_subtype_exactly (ty.Array e) t = ((λ h. never h), (λ x. elim x [ inl n ↦ absurd n | inr n ↦ absurd n ]))
  is_subtype_exactly ty.Void t = (same_void t, λ h. subst (λ u. is_subtype classes ty.Void u ≡ true) h refl)
  is_subtype_exactly ty.Null t = (same_null t, λ h. subst (λ u. is_subtype classes ty.Null u ≡ true) h refl)
  is_subtype_exactly ty.Int t = (same_int t, λ h. subst (λ u. is_subtype classes ty.Int u ≡ true) h refl)
  is_subtype_exactly ty.Long t = (same_long t, λ h. subst (λ u. is_subtype classes ty.Long u ≡ true) h refl)
  is_subtype_exactly ty.Bool t = (same_truth t, λ h. subst (λ u. is_subtype classes ty.Bool u ≡ true) h refl)

  null_fits : (t : Ty) → fits classes ty.Null t ≡ takes_null t
  null_fits ty.Null = refl
  null_fits (ty.Ref c) = refl
  null_fits (ty.Array e) = refl
  null_fits t = refl

  int_fits : (t : Ty) → fits classes ty.Int t ≡ true → (ty.Int ≡ t) ⊎ (ty.Long ≡ t)
  int_fits ty.Int e = inl refl
  int_fits ty.Long e = inr refl
  int_fits t e = never e

  fits_by_cases : (s t : Ty) → (fits classes s t ≡ true) ↔ Fit classes s t
  fits_by_cases (ty.Ref a) t = is_subtype_exactly (ty.Ref a) t
  fits_by_cases (ty.Array e) t = is_subtype_exactly (ty.Array e) t
  fits_by_cases ty.Void t = is_subtype_exactly ty.Void t
  fits_by_cases ty.Null t = ((λ h. sym (null_fits t) ∙ h), (λ h. null_fits t ∙ h))
  fits_by_cases ty.Int t = (
    int_fits t,
    (λ x. elim x [ inl h ↦ subst (λ u. fits classes ty.Int u ≡ true) h refl | inr h ↦ subst (λ u. fits classes ty.Int u ≡ true) h refl ]),
  )
  fits_by_cases ty.Long t = is_subtype_exactly ty.Long t
  fits_by_cases ty.Bool t = is_subtype_exactly ty.Bool t

  -- ---- two types that fit each other

  below_both : (a b : ℕ) → Below classes a b → Below classes b a → a ≡ b
  below_both a b (inl p) (inl q) = omega (arith, p, q)
  below_both a b (inl p) (inr r) = let f = falls b a r in omega (arith, p, f)
  below_both a b (inr r) (inl q) = let f = falls a b r in omega (arith, q, f)
  below_both a b (inr r) (inr s) = let f = falls a b r in let g = falls b a s in omega (arith, f, g)

  elem_both : (e f : Elem) → ElemFit classes e f → ElemFit classes f e → e ≡ f
  elem_both (elem.Ref a) (elem.Ref b) p q = ap (λ n. elem.Ref (class_id n)) (below_both a.0 b.0 p q)
  elem_both (elem.Ref a) f p q = absurd p
  elem_both elem.Int f p q = p
  elem_both elem.Long f p q = p
  elem_both elem.Bool f p q = p

  nothing : {A : Type 0} → ⊥ ⊎ ⊥ → A
  nothing (inl e) = absurd e
  nothing (inr e) = absurd e

  fit_both : (s t : Ty) → Fit classes s t → Fit classes t s → s ≡ t
  fit_both (ty.Ref a) (ty.Ref b) p q = ap (λ n. ty.Ref (class_id n)) (below_both a.0 b.0 p q)
  fit_both (ty.Ref a) t p q = absurd p
  fit_both (ty.Array e) (ty.Ref b) p q = absurd q
  fit_both (ty.Array e) (ty.Array f) (inl p) q = absurd p
  fit_both (ty.Array e) (ty.Array f) (inr p) (inl q) = absurd q
  fit_both (ty.Array e) (ty.Array f) (inr p) (inr q) = ap (λ g. ty.Array g) (elem_both e f p q)
  fit_both (ty.Array e) t p q = nothing p
  fit_both ty.Null ty.Null p q = refl
  fit_both ty.Null (ty.Ref b) p q = absurd q
  fit_both ty.Null (ty.Array f) p q = nothing q
  fit_both ty.Null t p q = never p
  fit_both ty.Int t (inl p) q = p
  fit_both ty.Int t (inr p) q = sym (subst (λ u. Fit classes u ty.Int) (sym p) q) ∙ p
  fit_both ty.Void t p q = p
  fit_both ty.Long t p q = p
  fit_both ty.Bool t p q = p

  pub fits_both : (s t : Ty) → Fits classes s t → Fits classes t s → s ≡ t
  fits_both s t p q = fit_both s t (fit_of classes fields methods program s t p) (fit_of classes fields methods program t s q)

-- ---- the laws

-- what a subtype has in common with its supertype
abbrev kind : Ty → ℕ
kind ty.Void = 0
kind ty.Null = 1
kind ty.Int = 2
kind ty.Long = 3
kind ty.Bool = 4
kind (ty.Ref c) = 5
kind (ty.Array e) = 5

same_kind : (classes : List Class) (s t : Ty) → Subtype classes s t → kind s ≡ kind t
same_kind classes s t (reflexive u) = refl
same_kind classes s t (transitive u v w p q) = same_kind classes u v p ∙ same_kind classes v w q
same_kind classes s t (declared a b e) = refl
same_kind classes s t (below_object a c i e) = refl
same_kind classes s t (array_below_object e) = refl
same_kind classes s t (array a b p) = refl

module _ (classes : List Class) (fields : List Field) (methods : List Method) (lawful : IsLawful classes fields methods) where
  pub fits_exactly : (s t : Ty) → All (IsInRange classes fields methods) (ty_ids s) → (fits classes s t ≡ true) ↔ Fits classes s t
  fits_exactly s t within =
      let f = fits_by_form classes fields methods lawful s t within in
      let g = fits_by_cases classes fields methods lawful.program s t in
      ((λ e. f.1 (g.0 e)), (λ x. g.1 (f.0 x)))

  of_class : (c : ClassId) (t : Ty) → Fits classes (ty.Ref c) t → Subtype classes (ty.Ref c) t
  of_class c t (subtype u v p) = p

  throwable : (t : Ty) → All (IsInRange classes fields methods) (ty_ids t) → is_throwable classes t ≡ true → Subtype classes t (ty.Ref (class_id 1))
  throwable (ty.Ref c) within e =
      of_class c (ty.Ref (class_id 1)) (fits_of classes fields methods lawful (ty.Ref c) (ty.Ref (class_id 1)) within ((is_subtype_exactly classes fields methods lawful.program (ty.Ref c) (ty.Ref (class_id 1))).0 e))
  throwable t within e = never e

  is_throwable_of : (t : Ty) → Subtype classes t (ty.Ref (class_id 1)) → kind t ≡ 5 → Fit classes t (ty.Ref (class_id 1)) → is_throwable classes t ≡ true
  is_throwable_of (ty.Ref c) p k x = (is_subtype_exactly classes fields methods lawful.program (ty.Ref c) (ty.Ref (class_id 1))).1 x
  is_throwable_of (ty.Array e) p k x = (is_subtype_exactly classes fields methods lawful.program (ty.Array e) (ty.Ref (class_id 1))).1 x
  is_throwable_of t p k x = absurd (omega (arith, k))

  pub is_throwable_exactly : (t : Ty) → All (IsInRange classes fields methods) (ty_ids t) → (is_throwable classes t ≡ true) ↔ Subtype classes t (ty.Ref (class_id 1))
  is_throwable_exactly t within = (
    throwable t within,
    (λ p. is_throwable_of t p (same_kind classes t (ty.Ref (class_id 1)) p) (fit_of classes fields methods lawful.program t (ty.Ref (class_id 1)) (subtype t (ty.Ref (class_id 1)) p))),
  )
