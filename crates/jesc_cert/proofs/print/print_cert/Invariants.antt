use Rattle.std.proofs.Common.{◌≡◌, [], ◌∷◌, ◌++◌, take}
use Rattle.std.specs.Prelude.{map}
use Rattle.jesc_cert.specs.Texts.{cond_text, line_text, ended}
use Rattle.jesc_cert.proofs.print.print_cert.Given as goal

abbrev pub invariant-loop-line : goal.invariant-loop-line
invariant-loop-line l = l.into ≡ (l.fn.into ++ ended (cond_text l.duty l.number ∷ [])) ++ ended (map line_text (take l.line-index l.line-items))
