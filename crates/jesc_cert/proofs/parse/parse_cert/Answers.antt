use Rattle.std.proofs.Common.{◌≡◌, ◌+◌, sym, subst, ℕ, take, Err}
use Rattle.std.specs.Prelude.{count_by}
use Rattle.jesc_text.specs.Places.{is_line_feed}
use Rattle.jesc_cert.specs.Texts.{IsBad}
use Rattle.jesc_cert.specs.Inner.{IsReadFile}
use Rattle.jesc_cert.proofs.Files.{bad_line}
use Rattle.jesc_cert.proofs.parse.parse_cert.Goals as goal

pub returns-clause-bad : goal.returns-clause-bad
returns-clause-bad c =
    let bytes = c.args.bytes.now in
    let at = c.in-Err.at in
    let stuck : IsReadFile bytes (Err at) = subst (IsReadFile bytes) c.in-Err.is c.in_ok-certs.ensures in
    let lines : count_by is_line_feed (take at bytes) ≡ c.line_feeds-line.result = sym c.line_feeds-line.ensures in
    subst (λ (n : ℕ). IsBad bytes (n + 1)) lines (bad_line bytes at stuck)
