use Rattle.std.proofs.Common.{◌≡◌, ◌<◌, ◌≤◌, ℕ, List, [], ◌∷◌, ◌++◌, refl, sym, ◌∙◌, ap, codes, Bool, true, false, if◌then◌else◌, cond, nat_lt, arith}
use Rattle.std.proofs.lemmas.Bool.Decides.{nat_tests}
use Rattle.jesc_lexer.specs.Lexemes.{sign_len, first_fit, note_signs, double_signs, single_signs}
use Rattle.jesc_lexer.proofs.Signs.{fit_else}
use Rattle.jesc_lexer.proofs.sign.sign_len.Goals as goal

-- the signs of annotations come first, then `<-`, then the others
parts : (note arrow : Bool) (bytes : List ℕ) (n m : ℕ) → n ≡ first_fit (if note then note_signs else []) bytes → m ≡ first_fit (if arrow then codes "<-" ∷ [] else []) bytes
    → sign_len note arrow bytes ≡ cond (nat_lt 0 n) n (cond (nat_lt 0 m) m (first_fit (double_signs ++ single_signs) bytes))
unfolding sign_len
parts true true bytes n m first second = rw (first, second) (fit_else note_signs (codes "<-" ∷ (double_signs ++ single_signs)) bytes refl ∙ ap (λ k. cond (nat_lt 0 (first_fit note_signs bytes)) (first_fit note_signs bytes) k) (fit_else (codes "<-" ∷ []) (double_signs ++ single_signs) bytes refl))
parts true false bytes n m first second = rw (first, second) (fit_else note_signs (double_signs ++ single_signs) bytes refl)
parts false true bytes n m first second = rw (first, second) (fit_else (codes "<-" ∷ []) (double_signs ++ single_signs) bytes refl)
parts false false bytes n m first second = rw (first, second) refl

some : (n k : ℕ) → 0 < n → cond (nat_lt 0 n) n k ≡ n
some n k h = grind (arith, nat_tests)

none : (n k : ℕ) → n ≤ 0 → cond (nat_lt 0 n) n k ≡ k
none n k h = grind (arith, nat_tests)

pub returns-then-of_notes-gt0 : goal.returns-then-of_notes-gt0
returns-then-of_notes-gt0 c =
    let n = c.note_sign_len-of_notes.result in
    sym (parts c.args.note c.args.arrow c.args.bytes.now n _ c.note_sign_len-of_notes.ensures refl ∙ some n _ c.if-of_notes-gt0.true)

pub returns-then-of_arrow-gt0 : goal.returns-then-of_arrow-gt0
returns-then-of_arrow-gt0 c =
    let n = c.note_sign_len-of_notes.result in
    let m = c.arrow_len-of_arrow.result in
    sym (parts c.args.note c.args.arrow c.args.bytes.now n m c.note_sign_len-of_notes.ensures c.arrow_len-of_arrow.ensures ∙ none n _ c.if-of_notes-gt0.false ∙ some m _ c.if-of_arrow-gt0.true)

pub returns : goal.returns
returns c =
    let n = c.note_sign_len-of_notes.result in
    let m = c.arrow_len-of_arrow.result in
    sym (parts c.args.note c.args.arrow c.args.bytes.now n m c.note_sign_len-of_notes.ensures c.arrow_len-of_arrow.ensures ∙ none n _ c.if-of_notes-gt0.false ∙ none m _ c.if-of_arrow-gt0.false ∙ sym c.plain_sign_len.ensures)
