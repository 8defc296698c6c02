-- Places in a list of lexemes.
use Rattle.std.proofs.Common.{◌≡◌, ℕ, zero, suc, ◌+◌, ◌-◌, ◌≤◌, ◌<◌, List, [], ◌∷◌, ◌++◌, length, take, drop, refl, sym, ap, append_assoc, arith, add-one}
use Rattle.std.proofs.lemmas.List.{length-append, take_at, drop_at}
use Rattle.jesc_ast.specs.Lexemes.{Lexeme}
use Rattle.jesc_jml_grammar.specs.Steps.{head}

split_parts : (u v : List Lexeme) (n : ℕ) → n ≡ length v
    → (take (length (u ++ v) - n) (u ++ v) ≡ u) × (drop (length (u ++ v) - n) (u ++ v) ≡ v) × (n ≤ length (u ++ v))
split_parts u v n len =
    let at : length u ≡ length (u ++ v) - n = omega (arith, length-append u v) in
    (take_at u v (length (u ++ v) - n) at, drop_at u v (length (u ++ v) - n) at, omega (arith, length-append u v))

pub split_at : (ts u v : List Lexeme) (n : ℕ) → ts ≡ u ++ v → n ≡ length v
    → (take (length ts - n) ts ≡ u) × (drop (length ts - n) ts ≡ v) × (n ≤ length ts)
split_at ts u v n parts len = rw parts (split_parts u v n len)

pub next_lexeme : (ts : List Lexeme) (at : ℕ) → at < length ts → (x : Lexeme) × (xs : List Lexeme) × (drop at ts ≡ x ∷ xs) × (take (suc at) ts ≡ take at ts ++ x ∷ [])
next_lexeme [] at lt = absurd (omega arith)
next_lexeme (t ∷ ts) zero lt = (t, ts, refl, refl)
next_lexeme (t ∷ ts) (suc at) lt = let r = next_lexeme ts at (omega arith) in (r.0, r.1, r.2, ap (λ (z : List Lexeme). t ∷ z) r.3)

-- the lexemes up to this place and others, with the one at it first among the others
pub one_more : (ts more : List Lexeme) (at : ℕ) → at < length ts
    → (x : Lexeme) × (head (x ∷ more) ≡ head (drop at ts)) × (take (at + 1) ts ++ more ≡ take at ts ++ x ∷ more)
one_more ts more at lt =
    let n = next_lexeme ts at lt in
    (n.0, sym (ap head n.2), rw (add-one, n.3) (append_assoc (take at ts) (n.0 ∷ []) more))
