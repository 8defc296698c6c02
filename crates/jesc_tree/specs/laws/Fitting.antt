-- What fits, by the forms of the two types: the relation and its forms agree in a lawful program.
use Rattle.std.specs.Prelude.{◌≡◌, ◌↔◌, ℕ, ◌<◌, ◌≤◌, true, Option, Some, None, List, [], ◌∷◌, ◌++◌, map, length, ◌⊎◌, IsSomeAnd}
use Rattle.std.proofs.Common.{refl, sym, subst, inl, inr, arith, zero, suc, true≢false}
use Rattle.std.specs.List.{All, Contains}
use Rattle.std.proofs.lemmas.Option.{slice_get_cases}
use Rattle.jesc_tree.specs.Ids.{of_class, ty_ids}
use Rattle.jesc_tree.specs.declared.ids.ClassId.{ClassId}
use Rattle.jesc_tree.specs.declared.ty.Elem.{Elem}
use Rattle.jesc_tree.specs.declared.ty.Elem.TheVariants as elem
use Rattle.jesc_tree.specs.declared.ty.Ty.{Ty}
use Rattle.jesc_tree.specs.declared.ty.Ty.TheVariants.{Void, Null, Int, Long, Bool as Truth, Ref, Array}
use Rattle.jesc_tree.specs.declared.class.Class.{Class}
use Rattle.jesc_tree.specs.declared.class.Field.{Field}
use Rattle.jesc_tree.specs.declared.class.Method.{Method}
use Rattle.jesc_tree.specs.Subtypes.{class_id, IsAt, parent_list, Reaches, itself, further, supertypes, Subtype, reflexive, transitive, declared, below_object, array_below_object, array, Fits, subtype, widened, null_object, null_array}
use Rattle.jesc_tree.specs.Programs.{IsInRange, IsProgram, IsLawful}
use Rattle.jesc_tree.specs.laws.Forms.{class_of, element_of, element_class, takes_null, Below, ElemFit, ArrayFit, Sub, Fit}

at_all : {X : Type 0} (P : X → Type 0) (xs : List X) (x : X) → All P xs → Contains xs x → P x
at_all P xs x all c = subst P c.2 (all c.0 x c.1)

mapped : {X : Type 0} (o : Option X) (P Q : X → Type 0) → ((x : X) → P x → Q x) → IsSomeAnd o P → IsSomeAnd o Q
mapped None P Q f p = p
mapped (Some x) P Q f p = f x p

module _ (classes : List Class) (fields : List Field) (methods : List Method) (program : IsProgram classes fields methods) where
  falls : (a b : ℕ) → Reaches classes a b → b ≤ a
  falls a b (itself c) = omega arith
  falls a b (further c d e x r) = omega (arith, at_all (λ s. s < c) (supertypes x.0) d (program.supertypes_first c x.0 x.1) x.2, falls d e r)

  reaches_on : (a b c : ℕ) → Reaches classes a b → Reaches classes b c → Reaches classes a c
  reaches_on a b c (itself d) s = s
  reaches_on a b c (further d e f x r) s = further d e c x (reaches_on e f c r s)

  under_object : (b c : ℕ) → b ≡ 0 → Below classes b c → c ≡ 0
  under_object b c e (inl f) = f
  under_object b c e (inr r) = (let f = falls b c r in omega (arith, e, f))

  below_on : (a b c : ℕ) → Below classes a b → Below classes b c → Below classes a c
  below_on a b c (inl e) q = inl (under_object b c e q)
  below_on a b c (inr r) (inl e) = inl e
  below_on a b c (inr r) (inr s) = inr (reaches_on a b c r s)

  elem_self : (e : Elem) → ElemFit classes e e
  elem_self (elem.Ref a) = inr (itself a.0)
  elem_self elem.Int = refl
  elem_self elem.Long = refl
  elem_self elem.Bool = refl

  elem_on : (e f g : Elem) → ElemFit classes e f → ElemFit classes f g → ElemFit classes e g
  elem_on (elem.Ref a) (elem.Ref b) g p q = mapped (element_class g) (Below classes b.0) (Below classes a.0) (λ c r. below_on a.0 b.0 c p r) q
  elem_on (elem.Ref a) elem.Int g p q = absurd p
  elem_on (elem.Ref a) elem.Long g p q = absurd p
  elem_on (elem.Ref a) elem.Bool g p q = absurd p
  elem_on elem.Int f g p q = subst (λ x. ElemFit classes x g) (sym p) q
  elem_on elem.Long f g p q = subst (λ x. ElemFit classes x g) (sym p) q
  elem_on elem.Bool f g p q = subst (λ x. ElemFit classes x g) (sym p) q

  sub_self : (t : Ty) → Sub classes t t
  sub_self (Ref a) = inr (itself a.0)
  sub_self (Array e) = inr (elem_self e)
  sub_self Void = refl
  sub_self Null = refl
  sub_self Int = refl
  sub_self Long = refl
  sub_self Truth = refl

  nowhere : {A : Type 0} → ⊥ ⊎ ⊥ → A
  nowhere (inl e) = absurd e
  nowhere (inr e) = absurd e

  array_on : (e : Elem) (t u : Ty) → ArrayFit classes e t → Sub classes t u → ArrayFit classes e u
  array_on e (Ref b) u (inl p) q = inl (mapped (class_of u) (Below classes b.0) (λ c. c ≡ 0) (λ c r. under_object b.0 c p r) q)
  array_on e (Ref b) u (inr p) q = absurd p
  array_on e (Array f) u (inl p) q = absurd p
  array_on e (Array f) u (inr p) (inl q) = inl q
  array_on e (Array f) u (inr p) (inr q) = inr (mapped (element_of u) (ElemFit classes f) (ElemFit classes e) (λ g r. elem_on e f g p r) q)
  array_on e Void u p q = nowhere p
  array_on e Null u p q = nowhere p
  array_on e Int u p q = nowhere p
  array_on e Long u p q = nowhere p
  array_on e Truth u p q = nowhere p

  sub_on : (s t u : Ty) → Sub classes s t → Sub classes t u → Sub classes s u
  sub_on (Ref a) (Ref b) u p q = mapped (class_of u) (Below classes b.0) (Below classes a.0) (λ c r. below_on a.0 b.0 c p r) q
  sub_on (Ref a) (Array e) u p q = absurd p
  sub_on (Ref a) Void u p q = absurd p
  sub_on (Ref a) Null u p q = absurd p
  sub_on (Ref a) Int u p q = absurd p
  sub_on (Ref a) Long u p q = absurd p
  sub_on (Ref a) Truth u p q = absurd p
  sub_on (Array e) t u p q = array_on e t u p q
  sub_on Void t u p q = subst (λ x. Sub classes x u) (sym p) q
  sub_on Null t u p q = subst (λ x. Sub classes x u) (sym p) q
  sub_on Int t u p q = subst (λ x. Sub classes x u) (sym p) q
  sub_on Long t u p q = subst (λ x. Sub classes x u) (sym p) q
  sub_on Truth t u p q = subst (λ x. Sub classes x u) (sym p) q

  sub_of : (s t : Ty) → Subtype classes s t → Sub classes s t
  sub_of s t (reflexive u) = sub_self u
  sub_of s t (transitive u v w p q) = sub_on u v w (sub_of u v p) (sub_of v w q)
  sub_of s t (declared a b e) = inr (further a b b e (itself b))
  sub_of s t (below_object a c i e) = inl refl
  sub_of s t (array_below_object e) = inl refl
  sub_of s t (array a b p) = inr (sub_of (Ref (class_id a)) (Ref (class_id b)) p)

  widen : (s t : Ty) → Sub classes s t → Fit classes s t
  widen (Ref a) t p = p
  widen (Array e) t p = p
  widen Void t p = p
  widen Null t p = subst (λ x. takes_null x ≡ true) p refl
  widen Int t p = inl p
  widen Long t p = p
  widen Truth t p = p

  -- what fits has the forms
  pub fit_of : (s t : Ty) → Fits classes s t → Fit classes s t
  fit_of s t (subtype u v p) = widen u v (sub_of u v p)
  fit_of s t widened = inr refl
  fit_of s t (null_object c) = refl
  fit_of s t (null_array e) = refl

  -- ---- back

  reaches_sub : (a b : ℕ) → Reaches classes a b → Subtype classes (Ref (class_id a)) (Ref (class_id b))
  reaches_sub a b (itself c) = reflexive (Ref (class_id c))
  reaches_sub a b (further c d e x r) = transitive (Ref (class_id c)) (Ref (class_id d)) (Ref (class_id e)) (declared c d x) (reaches_sub d e r)

class_at : (classes : List Class) (a : ℕ) → a < length classes → (c : Class) × IsAt classes a c
class_at classes a w = elim ((slice_get_cases classes a).1) [
  | inl k ↦ (k.0, k.2)
  | inr k ↦ absurd (omega (arith, k.0, w))
]

module _ (classes : List Class) (fields : List Field) (methods : List Method) (lawful : IsLawful classes fields methods) where
  program : IsProgram classes fields methods
  program = lawful.program

  -- every class lies below Object
  to_object : (n a : ℕ) → a < n → a < length classes → Subtype classes (Ref (class_id a)) (Ref (class_id 0))
  to_object zero a l w = absurd (omega (arith, l))
  to_object (suc n) a l w = let k = class_at classes a w in by (λ p m v. to_object n p m v) k.0 k.1 k.0.parent refl
    where
      by : ((p : ℕ) → p < n → p < length classes → Subtype classes (Ref (class_id p)) (Ref (class_id 0))) → (c : Class) → IsAt classes a c → (o : Option ClassId) → c.parent ≡ o → Subtype classes (Ref (class_id a)) (Ref (class_id 0))
      by rest c here None e = elim ((lawful.headings a c here).superclass.0 e) [
        | inl z ↦ subst (λ x. Subtype classes (Ref (class_id x)) (Ref (class_id 0))) (sym z) (reflexive (Ref (class_id 0)))
        | inr i ↦ below_object a c here i
      ]
      by rest c here (Some p) e =
          let named : Contains (supertypes c) p.0 = subst (λ o. Contains (parent_list o ++ map (λ (i : ClassId). i.0) c.interfaces) p.0) (sym e) (0, omega arith, refl) in
          let less : p.0 < a = at_all (λ s. s < a) (supertypes c) p.0 (program.supertypes_first a c here) named in
          transitive (Ref (class_id a)) (Ref (class_id p.0)) (Ref (class_id 0)) (declared a p.0 (c, here, named)) (rest p.0 (omega (arith, less, l)) (omega (arith, less, w)))

  below_sub : (a b : ℕ) → a < length classes → Below classes a b → Subtype classes (Ref (class_id a)) (Ref (class_id b))
  below_sub a b w (inl e) = subst (λ x. Subtype classes (Ref (class_id a)) (Ref (class_id x))) (sym e) (to_object (suc a) a (omega arith) w)
  below_sub a b w (inr r) = reaches_sub classes fields methods program a b r

  in_range : (a : ClassId) (t : Ty) → ty_ids t ≡ of_class a ∷ [] → All (IsInRange classes fields methods) (ty_ids t) → a.0 < length classes
  in_range a t e all = at_all (IsInRange classes fields methods) (of_class a ∷ []) (of_class a) (subst (λ xs. All (IsInRange classes fields methods) xs) e all) (0, omega arith, refl)

  elem_sub : (e f : Elem) → All (IsInRange classes fields methods) (ty_ids (Array e)) → ElemFit classes e f → Subtype classes (Array e) (Array f)
  elem_sub (elem.Ref a) (elem.Ref b) all p = array a.0 b.0 (below_sub a.0 b.0 (in_range a (Array (elem.Ref a)) refl all) p)
  elem_sub (elem.Ref a) elem.Int all p = absurd p
  elem_sub (elem.Ref a) elem.Long all p = absurd p
  elem_sub (elem.Ref a) elem.Bool all p = absurd p
  elem_sub elem.Int f all p = subst (λ x. Subtype classes (Array elem.Int) (Array x)) p (reflexive (Array elem.Int))
  elem_sub elem.Long f all p = subst (λ x. Subtype classes (Array elem.Long) (Array x)) p (reflexive (Array elem.Long))
  elem_sub elem.Bool f all p = subst (λ x. Subtype classes (Array elem.Bool) (Array x)) p (reflexive (Array elem.Bool))

  array_sub : (e : Elem) (t : Ty) → All (IsInRange classes fields methods) (ty_ids (Array e)) → ArrayFit classes e t → Subtype classes (Array e) t
  array_sub e (Ref b) all (inl p) = subst (λ x. Subtype classes (Array e) (Ref (class_id x))) (sym p) (array_below_object e)
  array_sub e (Ref b) all (inr p) = absurd p
  array_sub e (Array f) all (inl p) = absurd p
  array_sub e (Array f) all (inr p) = elem_sub e f all p
  array_sub e Void all p = nowhere classes fields methods program p
  array_sub e Null all p = nowhere classes fields methods program p
  array_sub e Int all p = nowhere classes fields methods program p
  array_sub e Long all p = nowhere classes fields methods program p
  array_sub e Truth all p = nowhere classes fields methods program p

  -- what has the forms fits
  pub fits_of : (s t : Ty) → All (IsInRange classes fields methods) (ty_ids s) → Fit classes s t → Fits classes s t
  fits_of (Ref a) (Ref b) all p = subtype (Ref a) (Ref b) (below_sub a.0 b.0 (in_range a (Ref a) refl all) p)
  fits_of (Ref a) (Array e) all p = absurd p
  fits_of (Ref a) Void all p = absurd p
  fits_of (Ref a) Null all p = absurd p
  fits_of (Ref a) Int all p = absurd p
  fits_of (Ref a) Long all p = absurd p
  fits_of (Ref a) Truth all p = absurd p
  fits_of (Array e) t all p = subtype (Array e) t (array_sub e t all p)
  fits_of Void t all p = subst (λ x. Fits classes Void x) p (subtype Void Void (reflexive Void))
  fits_of Null Null all p = subtype Null Null (reflexive Null)
  fits_of Null (Ref c) all p = null_object c
  fits_of Null (Array e) all p = null_array e
  fits_of Null Void all p = absurd (true≢false (sym p))
  fits_of Null Int all p = absurd (true≢false (sym p))
  fits_of Null Long all p = absurd (true≢false (sym p))
  fits_of Null Truth all p = absurd (true≢false (sym p))
  fits_of Int t all (inl p) = subst (λ x. Fits classes Int x) p (subtype Int Int (reflexive Int))
  fits_of Int t all (inr p) = subst (λ x. Fits classes Int x) p widened
  fits_of Long t all p = subst (λ x. Fits classes Long x) p (subtype Long Long (reflexive Long))
  fits_of Truth t all p = subst (λ x. Fits classes Truth x) p (subtype Truth Truth (reflexive Truth))

  pub fits_by_form : (s t : Ty) → All (IsInRange classes fields methods) (ty_ids s) → Fits classes s t ↔ Fit classes s t
  fits_by_form s t all = (fit_of classes fields methods program s t, fits_of s t all)
