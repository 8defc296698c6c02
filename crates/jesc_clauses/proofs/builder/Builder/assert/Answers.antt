use Rattle.std.proofs.Common.{SFits, ℕ, ◌<◌, ◌≤◌, ◌^◌, ℤ, [], ◌∷◌, length, sym, ap, ◌∙◌, subst, arith}
use Rattle.std.proofs.Math.Bool.{or-false}
use Rattle.std.proofs.lemmas.Int.{ints, to_z-of_z}
use Rattle.std.specs.Int.{w32}
use Rattle.std.specs.Prelude.{unsigned_abs}
use Rattle.std.proofs.lemmas.List.Elements.{All-nil, All-cons}
use Rattle.jesc_logic.specs.Claims.{shape}
use Rattle.jesc_clauses.specs.declared.builder.Truth.TheVariants.{Constant}
use Rattle.jesc_clauses.specs.Clausified.{IsLiteral}
use Rattle.jesc_clauses.specs.Builders.{IsClausePut, IsTruth, is_true}
use Rattle.jesc_clauses.specs.Countermodels.{is_true_literal}
use Rattle.jesc_clauses.proofs.Asserting.{true_asserted, clause_asserted}
use Rattle.jesc_clauses.proofs.builder.Builder.assert.Goals as goal

fits : (k : ℤ) (n : ℕ) → unsigned_abs k ≤ n → n < 2 ^ 31 → SFits w32 k
fits k n small few = omega (arith, ints)

pub returns-in-Constant-true-clause-asserted : goal.returns-in-Constant-true-clause-asserted
returns-in-Constant-true-clause-asserted c =
    true_asserted c.args.sums.now c.args.terms.now c.truth_of.new.terms c.args.self.now c.truth_of.new.self c.requires.built c.requires.sums (shape c.args.f.now) c.in_ok-truth_of.field-0 c.in_ok-truth_of.ensures.told c.in_ok-truth_of.ensures.tells
    (c.in-Constant-true.is ∙ ap Constant c.in-Constant-true.field-0-test)

pub returns-in_ok-put_clause-in-Constant-false-clause-asserted : goal.returns-in_ok-put_clause-in-Constant-false-clause-asserted
returns-in_ok-put_clause-in-Constant-false-clause-asserted c =
    let is = c.in-Constant-false.is ∙ ap Constant c.in-Constant-false.field-0-test in
    clause_asserted c.args.sums.now c.args.terms.now c.truth_of.new.terms c.args.self.now c.truth_of.new.self c.requires.built c.requires.sums (shape c.args.f.now) c.in_ok-truth_of.field-0 c.in_ok-truth_of.ensures.told c.in_ok-truth_of.ensures.tells
    [] (All-nil _) (omega arith) (λ v. ap (is_true v c.truth_of.new.self.atoms) (sym is)) c.put_clause.new.self c.in_ok-put_clause-in-Constant-false.ensures

pub returns-in_ok-put_clause-in-Literal-clause-asserted : goal.returns-in_ok-put_clause-in-Literal-clause-asserted
returns-in_ok-put_clause-in-Literal-clause-asserted c =
    let k = c.in-Literal.literal in
    let scoped : IsLiteral (length c.truth_of.new.self.atoms) k = subst (IsTruth (length c.truth_of.new.self.atoms)) c.in-Literal.is c.in_ok-truth_of.ensures.told.is in
    let put = subst (λ (n : ℤ). IsClausePut c.truth_of.new.self c.put_clause-in-Literal.new.self (n ∷ [])) (to_z-of_z w32 k (fits k (length c.truth_of.new.self.atoms) scoped.1 c.in_ok-truth_of.ensures.told.built.few)) c.in_ok-put_clause-in-Literal.ensures in
    clause_asserted c.args.sums.now c.args.terms.now c.truth_of.new.terms c.args.self.now c.truth_of.new.self c.requires.built c.requires.sums (shape c.args.f.now) c.in_ok-truth_of.field-0 c.in_ok-truth_of.ensures.told c.in_ok-truth_of.ensures.tells
    (k ∷ []) (All-cons (IsLiteral (length c.truth_of.new.self.atoms)) k [] scoped (All-nil (IsLiteral (length c.truth_of.new.self.atoms)))) (omega arith)
    (λ v. or-false (is_true_literal v c.truth_of.new.self.atoms k) ∙ ap (is_true v c.truth_of.new.self.atoms) (sym c.in-Literal.is)) c.put_clause-in-Literal.new.self put
