use Rattle.std.proofs.Common.{ℤ, ◌^◌, ◌≤◌, Err, sym, subst}
use Rattle.std.proofs.lemmas.Int.{to_z-of_z}
use Rattle.std.specs.Int.{w128}
use Rattle.std.specs.Prelude.{unsigned_abs}
use Rattle.jesc_clauses.specs.Merges.{OnWide}
use Rattle.jesc_clauses.specs.Readers.{IsMultipleOf, IsWideMultipleOf}
use Rattle.jesc_clauses.specs.declared.lin.Lin.{Lin}
use Rattle.jesc_clauses.proofs.Wide.{handed}
use Rattle.jesc_clauses.proofs.Combining.{lins, factor_small, product_arguments, product_is_plain, product_read, product_wide}
use Rattle.jesc_clauses.proofs.reader.Reader.product.Goals as goal

pub product_of-requires-clause-lins : goal.product_of-requires-clause-lins
product_of-requires-clause-lins c = lins c.args.terms.now c.args.self.now.sums c.args.self.now.opaques c.requires.reader

pub product_of-requires-clause-k : goal.product_of-requires-clause-k
product_of-requires-clause-k c = subst (λ (k : ℤ). unsigned_abs k ≤ 2 ^ 94) (sym (to_z-of_z w128 c.args.k c.ranges.k)) (factor_small c.args.terms.now c.args.self.now.sums c.args.self.now.opaques c.requires.reader c.args.factor c.args.a c.args.id c.args.k c.requires.k c.requires.term c.requires.factor)

pub put-requires-clause-plain : goal.put-requires-clause-plain
put-requires-clause-plain c = product_is_plain c.args.terms.now c.args.self.now.sums c.args.self.now.opaques c.requires.reader c.args.factor c.args.a c.args.id c.args.k c.requires.k c.requires.term

pub put-requires-clause-args : goal.put-requires-clause-args
put-requires-clause-args c = product_arguments c.args.terms.now c.args.self.now.sums c.args.self.now.opaques c.requires.reader c.args.factor c.args.a c.args.id c.args.k c.requires.k c.requires.term c.requires.factor c.requires.a

pub put-requires-clause-read : goal.put-requires-clause-read
put-requires-clause-read c = product_read c.args.terms.now c.args.self.now.sums c.args.self.now.opaques c.requires.reader c.args.factor c.args.a c.args.id c.args.k c.requires.k c.requires.term c.in_ok-lin.lin (subst (λ (k : ℤ). IsMultipleOf c.args.self.now.sums k c.args.a.0 c.in_ok-lin.lin) (to_z-of_z w128 c.args.k c.ranges.k) c.in_ok-lin.ensures.made)

pub returns-in_err-lin-clause-wide : goal.returns-in_err-lin-clause-wide
returns-in_err-lin-clause-wide c =
    handed (Unit {0}) Lin _ _ (product_wide c.args.terms.now c.args.self.now.sums c.args.self.now.opaques c.requires.reader c.args.factor c.args.a c.args.id c.args.k c.requires.k c.requires.term) c.from_residual.result c.in_err-lin.field-0.0 c.from_residual.ensures.1 (subst (λ (k : ℤ). OnWide {T = Lin} (IsWideMultipleOf c.args.self.now.sums k c.args.a.0) (Err c.in_err-lin.field-0.0)) (to_z-of_z w128 c.args.k c.ranges.k) c.in_err-lin.ensures.wide)
