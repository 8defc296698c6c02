use Rattle.std.proofs.Common.{sym, subst, ◌∙◌, rules}
use Rattle.jesc_logic.specs.declared.formula.FormulaNode.TheViews.{the_lemmas}
use Rattle.jesc_logic.specs.Terms.{IsIn, Keeps}
use Rattle.jesc_logic.specs.Claims.{at_most, equal, both, either, Each, shape}
use Rattle.jesc_logic.specs.laws.Keeping.{each_in, are_in}
use Rattle.jesc_logic.proofs.Shapes.{le_is, eq_is, and_is, or_is, le_shape, eq_shape, and_shape, or_shape}
use Rattle.jesc_logic.proofs.Instances.{at_most_puts, equal_puts, both_put, either_puts, made_puts}
use Rattle.jesc_logic.proofs.terms.Terms.+formula_with.Goals as goal

pub returns-in_ok-b-in-Le-clause-instance : goal.returns-in_ok-b-in-Le-clause-instance
returns-in_ok-b-in-Le-clause-instance t c =
    let old = c.args.self.now in
    let mid = c.term_with.new.self in
    let new = c.term_with-in-Le.new.self in
    let x = c.in-Le in
    let e = le_is c.args.f.now x.a x.b (sym c.get.ensures ∙ x.is) in
    let there : Each (IsIn old) (at_most x.a x.b) = subst (Each (IsIn old)) e c.requires.f in
    made_puts old new c.args.args.now c.args.f.now (at_most x.a x.b) _ (at_most c.in_ok-a-in-Le.a c.in_ok-b-in-Le.b) e (le_shape c.in_ok-a-in-Le.a c.in_ok-b-in-Le.b)
    (at_most_puts old c.args.args.now c.requires.args mid c.in_ok-a-in-Le.ensures.keeps new c.in_ok-b-in-Le.ensures.keeps x.a x.b c.in_ok-a-in-Le.a c.in_ok-b-in-Le.b there.1 c.in_ok-a-in-Le.ensures.term c.in_ok-b-in-Le.ensures.term)
    c.made-in-Le.result c.made-in-Le.ensures.shape

pub returns-in_ok-b-in-Eq-clause-instance : goal.returns-in_ok-b-in-Eq-clause-instance
returns-in_ok-b-in-Eq-clause-instance t c =
    let old = c.args.self.now in
    let mid = c.term_with-in-Eq.new.self in
    let new = c.term_with-in-Eq-2.new.self in
    let x = c.in-Eq in
    let e = eq_is c.args.f.now x.a x.b (sym c.get.ensures ∙ x.is) in
    let there : Each (IsIn old) (equal x.a x.b) = subst (Each (IsIn old)) e c.requires.f in
    made_puts old new c.args.args.now c.args.f.now (equal x.a x.b) _ (equal c.in_ok-a-in-Eq.a c.in_ok-b-in-Eq.b) e (eq_shape c.in_ok-a-in-Eq.a c.in_ok-b-in-Eq.b)
    (equal_puts old c.args.args.now c.requires.args mid c.in_ok-a-in-Eq.ensures.keeps new c.in_ok-b-in-Eq.ensures.keeps x.a x.b c.in_ok-a-in-Eq.a c.in_ok-b-in-Eq.b there.1 c.in_ok-a-in-Eq.ensures.term c.in_ok-b-in-Eq.ensures.term)
    c.made-in-Eq.result c.made-in-Eq.ensures.shape

pub formula_with-requires-in-And-2 : goal.formula_with-requires-in-And-2
formula_with-requires-in-And-2 t c =
    let old = c.args.self.now in
    let mid = c.formula_with-in-And.new.self in
    let x = c.in-And in
    let k : Keeps old mid = c.in_ok-g-in-And.ensures.keeps in
    let there : Each (IsIn old) (both (shape x.g) (shape x.h)) = subst (Each (IsIn old)) (and_is c.args.f.now x.g x.h (sym c.get.ensures ∙ x.is)) c.requires.f in
    (search (rules, the_lemmas), (c.requires.few, (each_in old mid k (shape x.h) there.1, are_in old mid k c.args.args.now c.requires.args)))

pub returns-in_ok-h-in-And-clause-instance : goal.returns-in_ok-h-in-And-clause-instance
returns-in_ok-h-in-And-clause-instance t c =
    let old = c.args.self.now in
    let mid = c.formula_with-in-And.new.self in
    let new = c.formula_with-in-And-2.new.self in
    let x = c.in-And in
    let e = and_is c.args.f.now x.g x.h (sym c.get.ensures ∙ x.is) in
    let there : Each (IsIn old) (both (shape x.g) (shape x.h)) = subst (Each (IsIn old)) e c.requires.f in
    made_puts old new c.args.args.now c.args.f.now (both (shape x.g) (shape x.h)) _ (both (shape c.in_ok-g-in-And.g) (shape c.in_ok-h-in-And.h)) e (and_shape c.in_ok-g-in-And.g c.in_ok-h-in-And.h)
    (both_put old c.args.args.now c.requires.args mid c.in_ok-g-in-And.ensures.keeps new c.in_ok-h-in-And.ensures.keeps (shape x.g) (shape x.h) (shape c.in_ok-g-in-And.g) (shape c.in_ok-h-in-And.h) there.1 c.in_ok-g-in-And.ensures.instance c.in_ok-h-in-And.ensures.instance)
    c.made-in-And.result c.made-in-And.ensures.shape

pub formula_with-requires-in-Or-2 : goal.formula_with-requires-in-Or-2
formula_with-requires-in-Or-2 t c =
    let old = c.args.self.now in
    let mid = c.formula_with-in-Or.new.self in
    let x = c.in-Or in
    let k : Keeps old mid = c.in_ok-g-in-Or.ensures.keeps in
    let there : Each (IsIn old) (either (shape x.g) (shape x.h)) = subst (Each (IsIn old)) (or_is c.args.f.now x.g x.h (sym c.get.ensures ∙ x.is)) c.requires.f in
    (search (rules, the_lemmas), (c.requires.few, (each_in old mid k (shape x.h) there.1, are_in old mid k c.args.args.now c.requires.args)))

pub returns-in_ok-h-in-Or-clause-instance : goal.returns-in_ok-h-in-Or-clause-instance
returns-in_ok-h-in-Or-clause-instance t c =
    let old = c.args.self.now in
    let mid = c.formula_with-in-Or.new.self in
    let new = c.formula_with-in-Or-2.new.self in
    let x = c.in-Or in
    let e = or_is c.args.f.now x.g x.h (sym c.get.ensures ∙ x.is) in
    let there : Each (IsIn old) (either (shape x.g) (shape x.h)) = subst (Each (IsIn old)) e c.requires.f in
    made_puts old new c.args.args.now c.args.f.now (either (shape x.g) (shape x.h)) _ (either (shape c.in_ok-g-in-Or.g) (shape c.in_ok-h-in-Or.h)) e (or_shape c.in_ok-g-in-Or.g c.in_ok-h-in-Or.h)
    (either_puts old c.args.args.now c.requires.args mid c.in_ok-g-in-Or.ensures.keeps new c.in_ok-h-in-Or.ensures.keeps (shape x.g) (shape x.h) (shape c.in_ok-g-in-Or.g) (shape c.in_ok-h-in-Or.h) there.1 c.in_ok-g-in-Or.ensures.instance c.in_ok-h-in-Or.ensures.instance)
    c.made-in-Or.result c.made-in-Or.ensures.shape
