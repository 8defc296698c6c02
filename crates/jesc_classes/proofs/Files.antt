-- The classes of files, file by file.
use Rattle.std.proofs.Common.{◌≡◌, ℕ, ◌+◌, ◌<◌, List, [], ◌∷◌, ◌++◌, length, map, take, get_or, refl, ap, sym, ◌∙◌, append_assoc, append-nil}
use Rattle.std.proofs.lemmas.List.{take_more}
use Rattle.jesc_ast.specs.declared.class.File.{File}
use Rattle.jesc_classes.specs.Headings.{source, sources}

sources-append : (files more : List File) → sources (files ++ more) ≡ sources files ++ sources more
sources-append [] more = refl
sources-append (f ∷ files) more =
    ap (λ s. map (source f.lines) f.classes ++ s) (sources-append files more) ∙ sym (append_assoc (map (source f.lines) f.classes) (sources files) (sources more))

pub sources_more : (files : List File) (i : ℕ) (f : File) → i < length files → f ≡ get_or files i f → sources (take (i + 1) files) ≡ sources (take i files) ++ map (source f.lines) f.classes
sources_more files i f inside is =
    ap sources (take_more files i f inside ∙ ap (λ x. take i files ++ x ∷ []) (sym is))
    ∙ sources-append (take i files) (f ∷ [])
    ∙ ap (λ s. sources (take i files) ++ s) (append-nil (map (source f.lines) f.classes))
