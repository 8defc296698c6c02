-- One more file beside those that are counted.
use Rattle.std.proofs.Common.{◌≡◌, ℕ, ◌+◌, ◌≤◌, List, [], ◌∷◌, ◌++◌, map, length, refl, sym, ap, ◌∙◌, subst, arith, append_assoc}
use Rattle.std.specs.Prelude.{sum}
use Rattle.std.specs.List.{AllZip, sum_by}
use Rattle.std.proofs.lemmas.List.Sums.{sum-map, sum_by-append, sum_by-cons}
use Rattle.jesc_lexer.specs.declared.token.Tokens.{Tokens}
use Rattle.jesc_ast.specs.declared.class.File.{File}
use Rattle.jesc_classes.specs.Given.{IsSpelled, AreGiven, AreSpelled}
use Rattle.jesc_headings.specs.Counted.{AreCounted}

one_more : (all : List Tokens) (files : List File) (tokens : Tokens) (file : File) → AllZip IsSpelled all files → IsSpelled tokens file → AllZip IsSpelled (all ++ tokens ∷ []) (files ++ file ∷ [])
one_more [] [] tokens file each s = (s, each)
one_more [] (f ∷ files) tokens file each s = absurd each
one_more (t ∷ all) [] tokens file each s = absurd each
one_more (t ∷ all) (f ∷ files) tokens file each s = (each.0, one_more all files tokens file each.1 s)

counts : Tokens → ℕ
counts tokens = length tokens.list

more_counted : (all : List Tokens) (tokens : Tokens) → sum (map (λ t. length t.list) (all ++ tokens ∷ [])) ≡ sum (map (λ t. length t.list) all) + length tokens.list
unfolding counts
more_counted all tokens =
    let last : sum_by counts (tokens ∷ []) ≡ length tokens.list = sum_by-cons counts tokens [] ∙ omega arith in
    omega (arith, sum-map counts (all ++ tokens ∷ []), sum_by-append counts all (tokens ∷ []), last, sum-map counts all)

pub counted_more : (files : List File) (count : ℕ) (tokens : Tokens) (file : File) (together : ℕ) → AreCounted files count → IsSpelled tokens file
    → together ≡ count + length tokens.list → together ≤ 8388608 → AreCounted (files ++ file ∷ []) together
counted_more files count tokens file together h s e few = record {
  all = h.all ++ tokens ∷ [];
  each = one_more h.all files tokens file h.each s;
  together = more_counted h.all tokens ∙ ap (λ n. n + length tokens.list) h.together ∙ sym e;
  few = few;
}

pub given : (files : List File) (count : ℕ) → AreCounted files count → AreGiven files
given files count h = (h.all, record { each = h.each; few = subst (λ n. n ≤ 8388608) (sym h.together) h.few })
