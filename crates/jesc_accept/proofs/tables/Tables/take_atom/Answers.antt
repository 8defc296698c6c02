use Rattle.std.proofs.Common.{ℕ, ℤ, [], ◌∷◌, ◌++◌, ap, sym, subst, ◌∙◌, rules, FitsSigned}
use mir.Syntax.{w128}
use Rattle.std.proofs.lemmas.Bool.{false≢true}
use Rattle.std.proofs.lemmas.Int.{to_z-of_z}
use Rattle.jesc_accept.specs.States.{IsSumOf}
use Rattle.jesc_accept.proofs.Taking.{not_normal, takes_atom}
use Rattle.jesc_accept.proofs.tables.Tables.take_atom.Goals as goal

pub returns-then-not-is_atom : goal.returns-then-not-is_atom
returns-then-not-is_atom c =
    let h = rw c.in-Some.is at c.in_ok-row.ensures in
    not_normal c.args.self.now c.args.self.now c.args.numbers.now c.in-Some.row (subst (λ (n : ℕ). IsSumOf n c.args.numbers.now c.in-Some.row) c.len.ensures h) (λ y. false≢true (sym c.if-not-is_atom.true ∙ c.is_atom.ensures.1 y))

pub returns : goal.returns
returns c =
    let h = rw c.in-Some.is at c.in_ok-row.ensures in
    let fits : FitsSigned w128 c.in-Some.row.bound = search rules in
    let same = ap (λ (b : ℤ). c.args.self.now.atoms ++ record { form = c.in-Some.row.form; bound = b } ∷ []) (to_z-of_z w128 c.in-Some.row.bound fits) in
    takes_atom c.args.self.now _ c.args.numbers.now c.in-Some.row _ c.requires (c.in_ok-push.ensures ∙ same) c.end_lemma.ensures (subst (λ (n : ℕ). IsSumOf n c.args.numbers.now c.in-Some.row) c.len.ensures h) (c.is_atom.ensures.0 c.if-not-is_atom.false)
