-- The FILE words are those behind the first.
use Rattle.std.proofs.Common.{◌≡◌, ◌-◌, ◌≤◌, List, [], ◌∷◌, length, take, drop, get_or, map, codes, All, String, sym, ◌∙◌, ap, subst, arith}
use Rattle.std.specs.String.{string_bytes}
use Rattle.std.specs.declared.alloc.Global.{Global}
use Rattle.std.proofs.lemmas.List.{take_all}
use Rattle.jesc_engine.specs.Command.{IsFileWord, IsCommand, names_of}

pub are_files : (words files : List (String Global)) (esc : String Global) → 1 ≤ length words → esc ≡ get_or words 0 esc
    → files ≡ take (length words - 1) (drop 1 words) → string_bytes esc ≡ codes "--esc" → 1 ≤ length files → length files ≤ 64 → All IsFileWord files
    → IsCommand words × (map string_bytes files ≡ names_of words)
are_files [] files esc some first rest is one most each = absurd (omega arith)
are_files (w ∷ ws) files esc some first rest is one most each =
    let same : files ≡ ws = rest ∙ take_all (length (w ∷ ws) - 1) ws (omega arith) in
    ((ap string_bytes (sym first) ∙ is, subst (λ fs. 1 ≤ length fs) same one, subst (λ fs. length fs ≤ 64) same most, subst (All IsFileWord) same each), ap (map string_bytes) same)
