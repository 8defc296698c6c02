use Rattle.std.proofs.Common.{sym}
use Rattle.std.proofs.lemmas.Int.{to_z-of_z}
use Rattle.jesc_first.proofs.Texts.{number_fits}
use Rattle.jesc_first.proofs.Equal.{number_found, number_over, number_under, number_missing}
use Rattle.jesc_first.proofs.reader.sums.number.Goals as goal

pub returns-in-Some : goal.returns-in-Some
returns-in-Some c = number_found c.args.text.now c.in-Some.n _ (to_z-of_z _ c.in-Some.n (number_fits c.args.text.now c.in-Some.n c.in-Some.ensures)) c.in-Some.ensures c.if-n-ge0.true c.if-n-le2147483647.true

pub returns-in_default : goal.returns-in_default
returns-in_default c = number_over c.args.text.now c.in-Some.n _ (to_z-of_z _ c.in-Some.n (number_fits c.args.text.now c.in-Some.n c.in-Some.ensures)) c.in-Some.ensures c.if-n-le2147483647.false

pub returns-in_default-2 : goal.returns-in_default-2
returns-in_default-2 c = number_under c.args.text.now c.in-Some.n _ (to_z-of_z _ c.in-Some.n (number_fits c.args.text.now c.in-Some.n c.in-Some.ensures)) c.in-Some.ensures c.if-n-ge0.false

pub returns-in_default-3 : goal.returns-in_default-3
returns-in_default-3 c = sym (number_missing c.args.text.now c.in_default.ensures)
