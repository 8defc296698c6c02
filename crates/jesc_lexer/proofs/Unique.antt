-- A file gives one thing.
use Rattle.std.proofs.Common.{◌≡◌, ◌<◌, ℕ, List, length, sym, ap, ◌∙◌, subst, arith, Result, Ok, Err, ◌⊎◌, inl, inr}
use Rattle.std.specs.Str.{IsUtf8, IsValidUpTo}
use Rattle.std.proofs.Math.Seq.{take-length}
use Rattle.std.proofs.lemmas.Str.{utf8_valid_len-IsValidUpTo}
use Rattle.jesc_lexer.specs.declared.token.Token.{Token}
use Rattle.jesc_lexer.specs.declared.token.Tokens.{Tokens}
use Rattle.jesc_lexer.specs.declared.piece.Refusal.{Refusal}
use Rattle.jesc_lexer.specs.declared.file.LexError.{LexError}
use Rattle.jesc_lexer.specs.declared.file.LexError.TheVariants.{Refused, OutOfMemory}
use Rattle.jesc_lexer.specs.Inner.{Gives}
use Rattle.jesc_lexer.specs.Lexed.{IsEscape, IsNoText, HasEscape, IsRead, Outcome, Lexed, IsTold, Answers}

not_both : (bytes : List ℕ) (n : ℕ) → IsUtf8 bytes → IsValidUpTo bytes n → ⊥
not_both bytes n utf8 valid = valid.longest (length bytes) valid.short (subst (λ t. IsUtf8 t) (sym (take-length bytes)) utf8)

same_refusal : (r s : Refusal) → r.number ≡ s.number → r.at ≡ s.at → r.character ≡ s.character → r ≡ s
same_refusal r s number at character =
    ap (λ n. let v : Refusal = record { number = n; at = r.at; character = r.character } in v) number
    ∙ ap (λ n. let v : Refusal = record { number = s.number; at = n; character = r.character } in v) at
    ∙ ap (λ n. let v : Refusal = record { number = s.number; at = s.at; character = n } in v) character

equal : (i j : ℕ) → (j < i → ⊥) → (i < j → ⊥) → i ≡ j
equal i j up down = grind arith

first_is : (bytes : List ℕ) (i j : ℕ) → IsEscape bytes i → IsEscape bytes j → ((k : ℕ) → k < i → ¬ (IsEscape bytes k)) → ((k : ℕ) → k < j → ¬ (IsEscape bytes k)) → i ≡ j
first_is bytes i j here there before_i before_j =
    let up : j < i → ⊥ = λ h. before_i j h there in
    let down : i < j → ⊥ = λ h. before_j i h here in
    equal i j up down

two_refusals : (file : ℕ) (bytes : List ℕ) (r s : Refusal) → IsNoText bytes r ⊎ (HasEscape bytes r ⊎ IsRead file bytes (Err r)) → IsNoText bytes s ⊎ (HasEscape bytes s ⊎ IsRead file bytes (Err s)) → r ≡ s
two_refusals file bytes r s (inl a) (inl b) = same_refusal r s (a.number ∙ sym b.number) (sym (utf8_valid_len-IsValidUpTo bytes r.at a.at) ∙ utf8_valid_len-IsValidUpTo bytes s.at b.at) (a.character ∙ sym b.character)
two_refusals file bytes r s (inl a) (inr (inl b)) = absurd (not_both bytes r.at b.utf8 a.at)
two_refusals file bytes r s (inl a) (inr (inr b)) = absurd (not_both bytes r.at b.utf8 a.at)
two_refusals file bytes r s (inr (inl a)) (inl b) = absurd (not_both bytes s.at a.utf8 b.at)
two_refusals file bytes r s (inr (inr a)) (inl b) = absurd (not_both bytes s.at a.utf8 b.at)
two_refusals file bytes r s (inr (inl a)) (inr (inl b)) = same_refusal r s (a.number ∙ sym b.number) (first_is bytes r.at s.at a.at b.at a.first b.first) (a.character ∙ sym b.character)
two_refusals file bytes r s (inr (inl a)) (inr (inr b)) = absurd (b.plain r.at a.at)
two_refusals file bytes r s (inr (inr a)) (inr (inl b)) = absurd (a.plain s.at b.at)
two_refusals file bytes r s (inr (inr a)) (inr (inr b)) = let same = sym a.reads ∙ b.reads in cc

not_read : (file : ℕ) (bytes : List ℕ) (tokens : List Token) (s : Refusal) → IsRead file bytes (Ok tokens) → IsNoText bytes s ⊎ (HasEscape bytes s ⊎ IsRead file bytes (Err s)) → ⊥
not_read file bytes tokens s read (inl b) = not_both bytes s.at read.utf8 b.at
not_read file bytes tokens s read (inr (inl b)) = read.plain s.at b.at
not_read file bytes tokens s read (inr (inr b)) = let same = sym read.reads ∙ b.reads in cc

pub one : (file : ℕ) (bytes : List ℕ) (one other : Outcome) → Lexed file bytes one → Lexed file bytes other → one ≡ other
one file bytes (Ok tokens) (Ok others) a b = sym a.reads ∙ b.reads
one file bytes (Ok tokens) (Err s) a b = absurd (not_read file bytes tokens s a b)
one file bytes (Err r) (Ok tokens) a b = absurd (not_read file bytes tokens r b a)
one file bytes (Err r) (Err s) a b = ap Err (two_refusals file bytes r s a b)

pub answers : (file : ℕ) (bytes : List ℕ) (outcome : Outcome) (result : Result Tokens LexError) → Gives file bytes result → Lexed file bytes outcome → Answers file bytes outcome result
answers file bytes (Ok tokens) (Ok found) gives lexed = let same = one file bytes (Ok found.list) (Ok tokens) gives.1 lexed in cc
answers file bytes (Err refusal) (Ok found) gives lexed = not_read file bytes found.list refusal gives.1 lexed
answers file bytes (Ok tokens) (Err (Refused number place word)) gives lexed = not_read file bytes tokens gives.0 lexed gives.1
answers file bytes (Err refusal) (Err (Refused number place word)) gives lexed =
    let same : gives.0 ≡ refusal = two_refusals file bytes gives.0 refusal gives.1 lexed in
    subst (λ r. IsTold file bytes r number place word) same gives.2
answers file bytes (Ok tokens) (Err OutOfMemory) gives lexed = tt
answers file bytes (Err refusal) (Err OutOfMemory) gives lexed = tt
