use Rattle.std.proofs.Common.{◌≡◌, codes, refl, sym, ◌∙◌}
use Rattle.std.specs.String.{string_bytes}
use Rattle.std.proofs.lemmas.Slice.Eq.{bytes_eq-Decides}
use Rattle.jesc_engine.proofs.CommandWords.{are_files}
use Rattle.jesc_engine.proofs.words.file_words.Goals as goal

pub returns-in-len1-up-clause-names : goal.returns-in-len1-up-clause-names
returns-in-len1-up-clause-names c =
    let files = c.are_file_words.ensures.0 c.if-are_file_words.true in
    let text = bytes_eq-Decides c.as_str.result.now (codes "--esc") in
    let esc : string_bytes c.esc-item.result ≡ codes "--esc" = sym c.as_str.ensures.value ∙ text.0 (sym c.eq.ensures ∙ c.if-eq.true) in
    are_files c.args.words.now _ c.esc-item.result c.in-len1-up.len_at_least c.esc-item.is refl esc files.0 files.1 files.2
