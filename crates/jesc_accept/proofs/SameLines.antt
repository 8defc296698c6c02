-- A line by its kind and its numbers.
use Rattle.std.proofs.Common.{◌≡◌, List, ℤ, sym, subst}
use Rattle.jesc_cert.specs.declared.cert.CertKind.{CertKind}
use Rattle.jesc_cert.specs.declared.cert.CertLine.{CertLine}
use Rattle.jesc_accept.specs.States.{line_of}

-- what is said of the line of this kind and of these numbers is said of the line
pub of_line : (P : CertLine → Type 0) (line : CertLine) (kind : CertKind) (numbers : List ℤ) → line.kind ≡ kind → numbers ≡ line.numbers → P (line_of kind numbers) → P line
of_line P line kind numbers k n t = subst (λ ns. P (line_of line.kind ns)) n (subst (λ c. P (line_of c numbers)) (sym k) t)
