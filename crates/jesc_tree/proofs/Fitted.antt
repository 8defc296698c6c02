-- From the forms of two types to what fits.
use Rattle.std.proofs.Common.{◌≡◌, ◌↔◌, Bool, true, List, sym, subst, Result, IfOk, Ok, Err}
use Rattle.std.specs.List.{All}
use Rattle.jesc_tree.specs.declared.ty.Ty.{Ty}
use Rattle.jesc_tree.specs.declared.class.Class.{Class}
use Rattle.jesc_tree.specs.declared.class.Field.{Field}
use Rattle.jesc_tree.specs.declared.class.Method.{Method}
use Rattle.jesc_tree.specs.Ids.{ty_ids}
use Rattle.jesc_tree.specs.Subtypes.{Fits}
use Rattle.jesc_tree.specs.Programs.{IsInRange, IsLawful}
use Rattle.jesc_tree.specs.laws.Forms.{Fit}
use Rattle.jesc_tree.specs.laws.Fitting.{fits_by_form}

module _ (classes : List Class) (fields : List Field) (methods : List Method) (lawful : IsLawful classes fields methods) (s t : Ty)
    (within : All (IsInRange classes fields methods) (ty_ids s)) where
  pub told : (P : Type 0) → Fit classes s t ≡ P → (b : Bool) → (b ≡ true) ↔ P → (b ≡ true) ↔ Fits classes s t
  told P e b h =
      let f = fits_by_form classes fields methods lawful s t within in
      let g = subst (λ (X : Type 0). (b ≡ true) ↔ X) (sym e) h in
      (λ y. f.1 (g.0 y), λ x. g.1 (f.0 x))

  pub told_ok : {E : Type 0} (P : Type 0) → Fit classes s t ≡ P → (r : Result Bool E) → IfOk r (λ yes. (yes ≡ true) ↔ P) → IfOk r (λ yes. (yes ≡ true) ↔ Fits classes s t)
  told_ok P e (Ok b) h = told P e b h
  told_ok P e (Err x) h = h
