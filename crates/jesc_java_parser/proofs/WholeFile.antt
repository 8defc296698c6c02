-- The parser of files gives the only file that the lexemes spell, and refuses where none goes on.
use Rattle.std.proofs.Common.{◌≡◌, ℕ, ◌+◌, ◌-◌, ◌≤◌, ◌<◌, true, false, List, [], ◌∷◌, ◌++◌, length, take, drop, Ok, Err, refl, sym, ap, ◌∙◌, subst, arith}
use Rattle.std.proofs.lemmas.List.{take-append-drop}
use Rattle.jesc_ast.specs.Lexemes.{Lexeme}
use Rattle.jesc_ast.specs.FileTrees.{SourceUnit}
use Rattle.jesc_ast.specs.Depth.{depth, nesting, of_classes, IsFileWithinLimits}
use Rattle.jesc_ast.specs.Members.{SpellsUnit}
use Rattle.jesc_jml_grammar.specs.declared.fault.Fault.{Fault}
use Rattle.jesc_jml_grammar.specs.declared.fault.Fault.TheVariants.{Unexpected, Deep}
use Rattle.jesc_jml_grammar.specs.Steps.{Outcome, head}
use Rattle.jesc_jml_grammar.specs.laws.Refining.{ok_is, Stops}
use Rattle.jesc_jml_parser.specs.laws.Places.{split_at, one_more}
use Rattle.jesc_jml_grammar.specs.ClauseFound.{Sized, sized}
use Rattle.jesc_jml_parser.specs.LongestAnswers.{IsRefused, IsStuck}
use Rattle.jesc_java_grammar.specs.FileReading.{whole_file}
use Rattle.jesc_java_parser.proofs.FileStable.{refines_whole_file}
use Rattle.jesc_java_parser.proofs.CompleteFile.{file_complete}

abbrev deepest : SourceUnit → ℕ
deepest t = of_classes depth 1 t.classes

abbrev nested : SourceUnit → ℕ
nested t = of_classes nesting 0 t.classes

abbrev answer : SourceUnit → Outcome (Sized SourceUnit)
answer t = Ok (sized t (deepest t), [])

apart : (t : SourceUnit) (f : Fault) (r : Outcome (Sized SourceUnit)) → r ≡ answer t → r ≡ Err f → ⊥
apart t f r e g = cc

-- ---- one file

-- within the limits it is read, and nothing else is
pub file_only : (limit : ℕ) (ts : List Lexeme) (t : SourceUnit) → length ts < limit → SpellsUnit t ts → IsFileWithinLimits t → whole_file limit 200 3 ts ≡ answer t
file_only limit ts t few s within = file_complete limit 200 3 t ts s within.shallow within.flat few

-- lexemes spell one file at most
pub file_unique : (t t' : SourceUnit) (ts : List Lexeme) → SpellsUnit t ts → SpellsUnit t' ts → t ≡ t'
file_unique t t' ts s s' =
    let first = file_complete (length ts + 1) (deepest t + deepest t') (nested t + nested t') t ts s (omega arith) (omega arith) (omega arith) in
    let second = file_complete (length ts + 1) (deepest t + deepest t') (nested t + nested t') t' ts s' (omega arith) (omega arith) (omega arith) in
    ap (λ (z : Sized SourceUnit). z.tree) (ok_is (sized t (deepest t)) (sized t' (deepest t')) [] [] (sym first ∙ second)).0

-- ---- no file goes on where the parser stopped

none_stopped : (fault : ℕ → Fault) (limit room k : ℕ) (ts : List Lexeme) (n : ℕ) → Stops fault (whole_file limit room k) ts n → (other : List Lexeme)
    → head other ≡ head (drop (length ts - n) ts) → (t : SourceUnit) → SpellsUnit t (take (length ts - n) ts ++ other) → deepest t ≤ room → nested t ≤ k
    → length (take (length ts - n) ts ++ other) < limit → ⊥
none_stopped fault limit room k ts n S other same t s shallow flat few =
    let at = split_at ts S.taken S.rest n S.parts S.left in
    let stop : whole_file limit room k (take (length ts - n) ts ++ other) ≡ Err (fault (length other)) =
    ap (λ (z : List Lexeme). whole_file limit room k (z ++ other)) at.0 ∙ S.again other (same ∙ ap head at.1) in
    apart t (fault (length other)) (whole_file limit room k (take (length ts - n) ts ++ other))
    (file_complete limit room k t (take (length ts - n) ts ++ other) s shallow flat few) stop

none_unexpected : (limit room k : ℕ) (ts : List Lexeme) (n : ℕ) → whole_file limit room k ts ≡ Err (Unexpected n) → (other : List Lexeme)
    → head other ≡ head (drop (length ts - n) ts) → (t : SourceUnit) → SpellsUnit t (take (length ts - n) ts ++ other) → ⊥
none_unexpected limit room k ts n is other same t s =
    let limit' : ℕ = limit + length (take (length ts - n) ts ++ other) + 1 in
    none_stopped Unexpected limit' (room + deepest t) (k + nested t) ts n
    ((refines_whole_file false limit limit' (omega arith) room (room + deepest t) (omega arith) (λ e. absurd cc) k (k + nested t) (omega arith) (λ e. absurd cc)).errs ts n is)
    other same t s (omega arith) (omega arith) (omega arith)

none_deep : (limit room k : ℕ) (ts : List Lexeme) (n : ℕ) → whole_file limit room k ts ≡ Err (Deep n) → (other : List Lexeme)
    → head other ≡ head (drop (length ts - n) ts) → (t : SourceUnit) → SpellsUnit t (take (length ts - n) ts ++ other) → deepest t ≤ room → nested t ≤ k → ⊥
none_deep limit room k ts n is other same t s shallow flat =
    let limit' : ℕ = limit + length (take (length ts - n) ts ++ other) + 1 in
    none_stopped Deep limit' room k ts n
    ((refines_whole_file true limit limit' (omega arith) room room (omega arith) (λ e. refl) k k (omega arith) (λ e. refl)).deeps refl ts n is)
    other same t s shallow flat (omega arith)

-- ---- refusals

abbrev NoneFits : (SourceUnit → Type 0) → List Lexeme → ℕ → Type 0
NoneFits Allowed ts at = (other : List Lexeme) → head other ≡ head (drop at ts) → (t : SourceUnit) → SpellsUnit t (take at ts ++ other) → Allowed t → ⊥

at_lexeme : (Allowed : SourceUnit → Type 0) (ts : List Lexeme) (at : ℕ) → NoneFits Allowed ts at → at < length ts → (t : SourceUnit) (more : List Lexeme)
    → SpellsUnit t (take (at + 1) ts ++ more) → Allowed t → ⊥
at_lexeme Allowed ts at none lt t more s allowed =
    let x = one_more ts more at lt in
    none (x.0 ∷ more) x.1 t (subst (SpellsUnit t) x.2 s) allowed

at_end : (Allowed : SourceUnit → Type 0) (ts : List Lexeme) (at : ℕ) → NoneFits Allowed ts at → (t : SourceUnit) → SpellsUnit t ts → Allowed t → ⊥
at_end Allowed ts at none t s allowed = none (drop at ts) refl t (subst (SpellsUnit t) (sym (take-append-drop at ts)) s) allowed

-- No file begins with the lexemes up to one that was not expected.
pub file_unexpected : (limit room k : ℕ) (ts : List Lexeme) (n : ℕ) → whole_file limit room k ts ≡ Err (Unexpected n) → IsRefused SpellsUnit ts (length ts - n)
file_unexpected limit room k ts n is =
    let none : NoneFits (λ t. Unit {0}) ts (length ts - n) = λ other same t s free. none_unexpected limit room k ts n is other same t s in
    record {
      within = omega arith;
      lexeme = λ lt b. at_lexeme (λ t. Unit {0}) ts (length ts - n) none lt b.0 b.1 b.2 tt;
      end = λ at t s. at_end (λ t. Unit {0}) ts (length ts - n) none t s tt;
    }

-- No file within the limits begins with those up to one that is too deep.
pub file_deep : (limit : ℕ) (ts : List Lexeme) (n : ℕ) → whole_file limit 200 3 ts ≡ Err (Deep n) → IsStuck SpellsUnit IsFileWithinLimits ts (length ts - n)
file_deep limit ts n is =
    let none : NoneFits IsFileWithinLimits ts (length ts - n) = λ other same t s allowed. none_deep limit 200 3 ts n is other same t s allowed.shallow allowed.flat in
    record {
      within = omega arith;
      lexeme = λ lt b. at_lexeme IsFileWithinLimits ts (length ts - n) none lt b.0 b.1 b.2 b.3;
      end = λ at t s allowed. at_end IsFileWithinLimits ts (length ts - n) none t s allowed;
    }
