use Rattle.std.proofs.Common.{◌≡◌, List, sym, subst}
use Rattle.std.proofs.Math.Logic.{∥∥₁_map}
use Rattle.jesc_ast.specs.declared.class.File.{File}
use Rattle.jesc_classes.specs.Given.{AreGiven}
use Rattle.jesc_headings.proofs.Growing.{given}
use Rattle.jesc_headings.proofs.parsed.Parsed.files.Goals as goal

pub returns : goal.returns
returns c = subst (λ (files : List File). ∥ AreGiven files ∥₁) (sym c.as_slice.ensures) (∥∥₁_map c.args.self.now.spelled (given c.args.self.now.files c.args.self.now.tokens))
