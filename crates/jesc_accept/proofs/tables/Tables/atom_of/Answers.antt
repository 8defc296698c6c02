use Rattle.std.proofs.Common.{arith}
use Rattle.std.proofs.lemmas.Int.{ints}
use Rattle.jesc_accept.proofs.Literals.{short_size}
use Rattle.jesc_accept.proofs.tables.Tables.atom_of.Goals as goal

pub returns-then-literal-gt0-clause-short : goal.returns-then-literal-gt0-clause-short
returns-then-literal-gt0-clause-short c = short_size _ _ c.args.literal c.wide_atom.ensures.short (omega (arith, ints))

pub returns-then-literal-lt0-clause-short : goal.returns-then-literal-lt0-clause-short
returns-then-literal-lt0-clause-short c = short_size _ _ c.args.literal c.wide_atom-then-literal-lt0.ensures.short (omega (arith, ints))
