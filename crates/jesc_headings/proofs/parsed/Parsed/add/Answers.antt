use Rattle.std.proofs.Common.{◌≡◌, ◌+◌, ◌++◌, ◌∷◌, [], List, length, sym, ap, subst, arith}
use Rattle.std.proofs.Math.Logic.{∥∥₁_map}
use Rattle.jesc_ast.specs.declared.class.File.{File}
use Rattle.jesc_classes.specs.Given.{IsSpelled}
use Rattle.jesc_headings.specs.Counted.{AreCounted}
use Rattle.jesc_headings.proofs.Growing.{counted_more}
use Rattle.jesc_headings.proofs.parsed.Parsed.add.Goals as goal

pub invariant_of-self-2 : goal.invariant_of-self-2
invariant_of-self-2 c =
    let old = c.args.self.now in
    let tokens = c.in-Ok.tokens in
    let file = c.in-Ok-parse_file.file in
    let together = c.saturating_add-together.result in
    let is_spelled : IsSpelled tokens file = record { spans = c.in-Ok.ensures.spans; short = omega (arith, ap length c.in-Ok.ensures.text, c.if-bytes-gt1048576.false); spelled = c.in-Ok-parse_file.ensures.found.0 } in
    let sum : together ≡ old.tokens + length tokens.list = omega (arith, c.saturating_add-together.ensures, c.len.ensures, c.if-together-gt8388608.false) in
    record {
      spelled = subst (λ (files : List File). ∥ AreCounted files together ∥₁) (sym c.in_ok-push.ensures.ok) (∥∥₁_map old.spelled (λ h. counted_more old.files old.tokens tokens file together h is_spelled sum (omega (arith, c.if-together-gt8388608.false))));
    }
