-- The offsets at which lines begin are found byte by byte.
use Rattle.std.proofs.Common.{◌≡◌, ◌≢◌, ℕ, ◌+◌, ◌≤◌, ◌<◌, true, false, List, [], ◌∷◌, ◌++◌, length, drop, get_or, refl, sym, ap, ◌∙◌, append_assoc, arith}
use Rattle.std.specs.Prelude.{◌==◌}
use Rattle.std.proofs.lemmas.List.{drop_more, drop_all, append-nil}
use Rattle.std.proofs.lemmas.Bool.Decides.{nat_tests}
use Rattle.jesc_ast.specs.Lines.{after_line_feeds, lines_of}

-- those found in so many bytes, and those behind them, are all
abbrev pub Finds : List ℕ → ℕ → List ℕ → Type 0
Finds text i lines = lines ++ after_line_feeds (drop i text) i ≡ lines_of text

behind_other : (text : List ℕ) (i : ℕ) → i < length text → (get_or text i 0 == 10) ≡ false → after_line_feeds (drop i text) i ≡ after_line_feeds (drop (i + 1) text) (i + 1)
behind_other text i lt other = rw (drop_more text i 0 lt) (rw other refl)

behind_feed : (text : List ℕ) (i : ℕ) → i < length text → (get_or text i 0 == 10) ≡ true
    → after_line_feeds (drop i text) i ≡ (i + 1) ∷ after_line_feeds (drop (i + 1) text) (i + 1)
behind_feed text i lt feed = rw (drop_more text i 0 lt) (rw feed refl)

pub found_other : (text lines more : List ℕ) (i : ℕ) → i < length text → get_or text i 0 ≢ 10 → Finds text i lines → more ≡ lines → Finds text (i + 1) more
found_other text lines more i lt other found same =
    let test : (get_or text i 0 == 10) ≡ false = grind (arith, nat_tests) in
    rw same (ap (λ (z : List ℕ). lines ++ z) (sym (behind_other text i lt test)) ∙ found)

pub found_feed : (text lines more : List ℕ) (i : ℕ) → i < length text → get_or text i 0 ≡ 10 → Finds text i lines → more ≡ lines ++ (i + 1) ∷ [] → Finds text (i + 1) more
found_feed text lines more i lt feed found gained =
    let test : (get_or text i 0 == 10) ≡ true = grind (arith, nat_tests) in
    rw gained (append_assoc lines ((i + 1) ∷ []) (after_line_feeds (drop (i + 1) text) (i + 1)) ∙ ap (λ (z : List ℕ). lines ++ z) (sym (behind_feed text i lt test)) ∙ found)

pub found_all : (text lines : List ℕ) (i : ℕ) → length text ≤ i → Finds text i lines → lines ≡ lines_of text
found_all text lines i le found = sym (append-nil lines) ∙ ap (λ (z : List ℕ). lines ++ after_line_feeds z i) (sym (drop_all i text le)) ∙ found
