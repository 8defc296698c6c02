use Rattle.std.proofs.Common.{[], ◌∷◌, sym, subst, arith, ℕ, ◌≤◌, length, IfOk}
use Rattle.std.proofs.lemmas.List.Elements.{All-cons}
use Rattle.jesc_logic.specs.declared.terms.TermId.{TermId}
use Rattle.jesc_logic.specs.Terms.{Term, StandsFor, IsIn, Keeps, ArePlaces, term_at}
use Rattle.jesc_logic.specs.Substitution.{put, terms_at}
use Rattle.jesc_logic.specs.laws.Keeping.{stands, is_in}
use Rattle.jesc_logic.proofs.Putting.{put_closed, length-map_terms, stands_in, one_in, is_three, at_arity, two_made, three_made, variable_put}
use Rattle.jesc_logic.proofs.terms.Terms.+term_with.Goals as goal

pub returns-then-not-is_open-clause-term : goal.returns-then-not-is_open-clause-term
returns-then-not-is_open-clause-term t c =
    let few : length (terms_at c.args.self.now c.args.args.now) ≤ 32 = omega (arith, length-map_terms c.args.self.now c.args.args.now, c.requires.few) in
    subst (StandsFor c.args.self.now c.args.id) (sym (put_closed (terms_at c.args.self.now c.args.args.now) few (term_at c.args.self.now c.args.id) (sym c.if-not-is_open.ensures.mark)))
    (stands c.args.self.now c.args.id c.requires.id)

pub returns-then-arity-eq0-clause-term : goal.returns-then-arity-eq0-clause-term
returns-then-arity-eq0-clause-term t c =
    let x = c.in-App in
    let old = c.args.self.now in
    let h = at_arity old c.args.id x.symbol x.arity 0 x.a x.b x.c c.if-arity-eq0.true x.ensures.term in
    subst (λ (r : TermId). StandsFor old r (put (terms_at old c.args.args.now) (term_at old c.args.id))) (sym c.variable.ensures)
    (variable_put old c.args.args.now c.args.id x.symbol c.requires.id c.requires.args h)

pub app-requires-clause-args : goal.app-requires-clause-args
app-requires-clause-args t c =
    let last = c.term_with.new.self in
    let a = c.in_ok-a-in-App in
    one_in last a.a (stands_in last a.a _ a.ensures.term)

pub app-requires-then-arity-eq2-clause-args : goal.app-requires-then-arity-eq2-clause-args
app-requires-then-arity-eq2-clause-args t c =
    let mid = c.term_with.new.self in
    let last = c.term_with-in-App.new.self in
    let a = c.in_ok-a-in-App in
    let b = c.in_ok-b-in-App in
    All-cons (IsIn last) a.a (b.b ∷ []) (is_in mid last b.ensures.keeps a.a (stands_in mid a.a _ a.ensures.term)) (one_in last b.b (stands_in last b.b _ b.ensures.term))

pub returns-then-arity-eq2-clause-term : goal.returns-then-arity-eq2-clause-term
returns-then-arity-eq2-clause-term t c =
    let x = c.in-App in
    let a = c.in_ok-a-in-App in
    let b = c.in_ok-b-in-App in
    let old = c.args.self.now in
    let mid = c.term_with.new.self in
    let last = c.term_with-in-App.new.self in
    let p : ArePlaces c.args.id.0 2 x.a.0 x.b.0 x.c.0 = subst (λ (n : ℕ). ArePlaces c.args.id.0 n x.a.0 x.b.0 x.c.0) c.if-arity-eq2.true x.ensures.below in
    let in_old : IsIn old x.b = omega (arith, p.1, c.requires.id) in
    let e = two_made old c.args.args.now c.requires.args c.args.id x.symbol mid last x.a x.b x.c a.a b.b (at_arity old c.args.id x.symbol x.arity 2 x.a x.b x.c c.if-arity-eq2.true x.ensures.term) in_old a.ensures.keeps a.ensures.term b.ensures.keeps b.ensures.term in
    subst (λ (u : Term). IfOk c.app-then-arity-eq2.result (λ r. StandsFor c.app-then-arity-eq2.new.self r u)) e c.app-then-arity-eq2.ensures.term

pub app-requires-in-App-clause-args : goal.app-requires-in-App-clause-args
app-requires-in-App-clause-args t c =
    let mid = c.term_with.new.self in
    let mid2 = c.term_with-in-App.new.self in
    let last = c.term_with-in-App-2.new.self in
    let a = c.in_ok-a-in-App in
    let b = c.in_ok-b-in-App in
    let d = c.in_ok-c-in-App in
    let first = is_in mid2 last d.ensures.keeps a.a (is_in mid mid2 b.ensures.keeps a.a (stands_in mid a.a _ a.ensures.term)) in
    let second = is_in mid2 last d.ensures.keeps b.b (stands_in mid2 b.b _ b.ensures.term) in
    All-cons (IsIn last) a.a (b.b ∷ d.c ∷ []) first (All-cons (IsIn last) b.b (d.c ∷ []) second (one_in last d.c (stands_in last d.c _ d.ensures.term)))

pub returns-in_ok-c-in-App-clause-term : goal.returns-in_ok-c-in-App-clause-term
returns-in_ok-c-in-App-clause-term t c =
    let x = c.in-App in
    let a = c.in_ok-a-in-App in
    let b = c.in_ok-b-in-App in
    let d = c.in_ok-c-in-App in
    let old = c.args.self.now in
    let mid = c.term_with.new.self in
    let mid2 = c.term_with-in-App.new.self in
    let last = c.term_with-in-App-2.new.self in
    let three = is_three c.args.id.0 x.arity x.a.0 x.b.0 x.c.0 x.ensures.below c.if-arity-eq0.false c.if-arity-eq1.false c.if-arity-eq2.false in
    let p : ArePlaces c.args.id.0 3 x.a.0 x.b.0 x.c.0 = subst (λ (n : ℕ). ArePlaces c.args.id.0 n x.a.0 x.b.0 x.c.0) three x.ensures.below in
    let b_in : IsIn old x.b = omega (arith, p.1, c.requires.id) in
    let c_in : IsIn old x.c = omega (arith, p.2, c.requires.id) in
    let e =
    three_made old c.args.args.now c.requires.args c.args.id x.symbol mid mid2 last x.a x.b x.c a.a b.b d.c
    (at_arity old c.args.id x.symbol x.arity 3 x.a x.b x.c three x.ensures.term) b_in c_in
    a.ensures.keeps a.ensures.term b.ensures.keeps b.ensures.term d.ensures.keeps d.ensures.term in
    subst (λ (u : Term). IfOk c.app-in-App.result (λ r. StandsFor c.app-in-App.new.self r u)) e c.app-in-App.ensures.term
