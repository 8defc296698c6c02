use Rattle.std.proofs.Common.{◌≡◌, ◌↔◌, ◌∙◌, ap, sym, subst, ◌⊎◌, inl, inr, true, false, true≢false}
use Rattle.std.specs.Prelude.{IsSomeAnd}
use Rattle.jesc_tree.specs.laws.Forms.{Fit, Below, ArrayFit, takes_null}
use Rattle.jesc_tree.specs.declared.ty.Ty.TheVariants.{Void, Int, Long, Bool as Truth}
use Rattle.jesc_tree.proofs.Fitted.{told, told_ok}
use Rattle.jesc_tree.proofs.program.Program.fits.Goals as goal

pub returns-in-Some : goal.returns-in-Some
returns-in-Some c =
    let p = c.args.self.now in
    told_ok p.classes p.fields p.methods c.requires.lawful c.args.from c.args.to c.requires.within (Below p.classes c.in-Ref.low.0 c.in-Some.high)
    (ap (λ s. Fit p.classes s c.args.to) c.in-Ref.is ∙ ap (λ o. IsSomeAnd o (Below p.classes c.in-Ref.low.0)) (sym c.in-Some.ensures)) c.is_below.result c.is_below.ensures

pub returns-in-None : goal.returns-in-None
returns-in-None c =
    let p = c.args.self.now in
    told p.classes p.fields p.methods c.requires.lawful c.args.from c.args.to c.requires.within ⊥
    (ap (λ s. Fit p.classes s c.args.to) c.in-Ref.is ∙ ap (λ o. IsSomeAnd o (Below p.classes c.in-Ref.low.0)) (sym c.in-None.ensures)) false (λ e. true≢false (sym e), λ e. absurd e)

pub returns-in-Array : goal.returns-in-Array
returns-in-Array c =
    let p = c.args.self.now in
    told_ok p.classes p.fields p.methods c.requires.lawful c.args.from c.args.to c.requires.within (ArrayFit p.classes c.in-Array.elem c.args.to)
    (ap (λ s. Fit p.classes s c.args.to) c.in-Array.is) c.array_fits.result c.array_fits.ensures

pub returns-in-Null : goal.returns-in-Null
returns-in-Null c =
    let p = c.args.self.now in
    told p.classes p.fields p.methods c.requires.lawful c.args.from c.args.to c.requires.within (takes_null c.args.to ≡ true)
    (ap (λ s. Fit p.classes s c.args.to) c.in-Null.is) c.takes_null.result (λ e. sym c.takes_null.ensures ∙ e, λ e. c.takes_null.ensures ∙ e)

pub returns-in-Long : goal.returns-in-Long
returns-in-Long c =
    let p = c.args.self.now in
    told p.classes p.fields p.methods c.requires.lawful c.args.from c.args.to c.requires.within (Long ≡ c.args.to)
    (ap (λ s. Fit p.classes s c.args.to) c.in-Long.is) c.is_same-in-Long.result (subst (λ s. (c.is_same-in-Long.result ≡ true) ↔ (s ≡ c.args.to)) c.in-Long.is c.is_same-in-Long.ensures)

pub returns-in-Bool : goal.returns-in-Bool
returns-in-Bool c =
    let p = c.args.self.now in
    told p.classes p.fields p.methods c.requires.lawful c.args.from c.args.to c.requires.within (Truth ≡ c.args.to)
    (ap (λ s. Fit p.classes s c.args.to) c.in-Bool.is) c.is_same-in-Bool.result (subst (λ s. (c.is_same-in-Bool.result ≡ true) ↔ (s ≡ c.args.to)) c.in-Bool.is c.is_same-in-Bool.ensures)

pub returns-in-Void : goal.returns-in-Void
returns-in-Void c =
    let p = c.args.self.now in
    told p.classes p.fields p.methods c.requires.lawful c.args.from c.args.to c.requires.within (Void ≡ c.args.to)
    (ap (λ s. Fit p.classes s c.args.to) c.in-Void.is) c.is_same-in-Void.result (subst (λ s. (c.is_same-in-Void.result ≡ true) ↔ (s ≡ c.args.to)) c.in-Void.is c.is_same-in-Void.ensures)

pub returns-then-is_same : goal.returns-then-is_same
returns-then-is_same c =
    let p = c.args.self.now in
    let e = subst (λ s. s ≡ c.args.to) c.in-Int.is (c.is_same.ensures.0 c.if-is_same.true) in
    told p.classes p.fields p.methods c.requires.lawful c.args.from c.args.to c.requires.within ((Int ≡ c.args.to) ⊎ (Long ≡ c.args.to))
    (ap (λ s. Fit p.classes s c.args.to) c.in-Int.is) c.is_same.result (λ y. inl e, λ x. c.if-is_same.true)

pub returns-else-is_same : goal.returns-else-is_same
returns-else-is_same c =
    let p = c.args.self.now in
    told p.classes p.fields p.methods c.requires.lawful c.args.from c.args.to c.requires.within ((Int ≡ c.args.to) ⊎ (Long ≡ c.args.to))
    (ap (λ s. Fit p.classes s c.args.to) c.in-Int.is) c.is_same-else-is_same.result (
      (λ y. inr (c.is_same-else-is_same.ensures.0 y)),
      (λ x. elim x [
        | inl e ↦ absurd (true≢false (sym (c.is_same.ensures.1 (subst (λ s. s ≡ c.args.to) (sym c.in-Int.is) e)) ∙ c.if-is_same.false))
        | inr e ↦ c.is_same-else-is_same.ensures.1 e
      ]),
    )
