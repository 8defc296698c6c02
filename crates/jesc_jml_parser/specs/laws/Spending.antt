-- Laws of parsers: how many lexemes an answer takes, and a stop at the limits.
use Rattle.std.proofs.Common.{◌≡◌, ◌⊎◌, ℕ, ◌+◌, ◌≤◌, ◌<◌, Bool, true, false, if◌then◌else◌, List, [], ◌∷◌, ◌++◌, length, Ok, Err, refl, sym, ap, ◌∙◌, subst, append_assoc, arith, inl, inr}
use Rattle.std.proofs.lemmas.List.{length-append}
use Rattle.jesc_ast.specs.Lexemes.{Lexeme}
use Rattle.jesc_jml_grammar.specs.declared.mark.Mark.{Mark}
use Rattle.jesc_jml_grammar.specs.declared.fault.Fault.TheVariants.{Unexpected, Deep, Long}
use Rattle.jesc_jml_grammar.specs.Steps.{Outcome, Parser, and_then, refuse, too_deep, mark_at, same_mark, take_one, expect}
use Rattle.jesc_jml_grammar.specs.Reading.{is_quantifier_mark}

-- stops at a quantifier, or with so many lexemes taken, where so many were taken before
pub record DeepAt (note : Bool) (need before : ℕ) (ts : List Lexeme) (n : ℕ) : Type 0 where
  pub taken : List Lexeme
  pub rest : List Lexeme
  pub parts : ts ≡ taken ++ rest
  pub left : n ≡ length rest
  pub cause : (is_quantifier_mark (mark_at note rest) ≡ true) ⊎ (need ≤ before + length taken)

-- what an answer says of the lexemes taken, those before among them, and what a stop at a limit says
abbrev pub Spent : (note : Bool) (limit need : ℕ) {A : Type 0} → (ℕ → A → Type 0) → ℕ → List Lexeme → Outcome A → Type 0
Spent note limit need P before ts (Ok p) = (taken : List Lexeme) × (ts ≡ taken ++ p.1) × P (before + length taken) p.0
Spent note limit need P before ts (Err (Unexpected n)) = Unit {0}
Spent note limit need P before ts (Err (Deep n)) = DeepAt note need before ts n
Spent note limit need P before ts (Err Long) = limit < before + length ts

module _ (note : Bool) (limit need : ℕ) where
  abbrev S : {A : Type 0} → (ℕ → A → Type 0) → ℕ → List Lexeme → Outcome A → Type 0
  S = Spent note limit need

  pub spent_after : {A : Type 0} (P : ℕ → A → Type 0) (c : ℕ) (ts taken mid : List Lexeme) → ts ≡ taken ++ mid → (r : Outcome A) → S P (c + length taken) mid r → S P c ts r
  spent_after P c ts taken mid parts (Ok p) (more, rest, holds) = (
    taken ++ more,
    parts ∙ ap (λ (z : List Lexeme). taken ++ z) rest ∙ sym (append_assoc taken more p.1),
    (let same : c + length taken + length more ≡ c + length (taken ++ more) = omega (arith, length-append taken more) in subst (λ (n : ℕ). P n p.0) same holds),
  )
  spent_after P c ts taken mid parts (Err (Unexpected n)) h = tt
  spent_after P c ts taken mid parts (Err (Deep n)) h = record {
    taken = taken ++ h.taken;
    rest = h.rest;
    parts = parts ∙ ap (λ (z : List Lexeme). taken ++ z) h.parts ∙ sym (append_assoc taken h.taken h.rest);
    left = h.left;
    cause = elim h.cause [ inl word ↦ inl word | inr many ↦ inr (omega (arith, length-append taken h.taken)) ];
  }
  spent_after P c ts taken mid parts (Err Long) h = omega (arith, length-append taken mid, ap length parts)

  pub spent_bind : {A B : Type 0} (f : A → Parser B) {P : ℕ → A → Type 0} (Q : ℕ → B → Type 0) (c : ℕ) (ts : List Lexeme) (r : Outcome A) → S P c ts r
      → ((x : A) (mid : List Lexeme) (c' : ℕ) → P c' x → S Q c' mid (f x mid)) → S Q c ts (and_then r f)
  spent_bind f Q c ts (Ok p) (taken, parts, holds) next = spent_after Q c ts taken p.1 parts (f p.0 p.1) (next p.0 p.1 (c + length taken) holds)
  spent_bind f Q c ts (Err (Unexpected n)) h next = tt
  spent_bind f Q c ts (Err (Deep n)) h next = h
  spent_bind f Q c ts (Err Long) h next = h

  pub spent_if : {A : Type 0} (P : ℕ → A → Type 0) (c : ℕ) (b : Bool) (p q : Parser A) (ts : List Lexeme)
      → (b ≡ true → S P c ts (p ts)) → (b ≡ false → S P c ts (q ts)) → S P c ts ((if b then p else q) ts)
  spent_if P c true p q ts yes' no' = yes' refl
  spent_if P c false p q ts yes' no' = no' refl

  pub spent_pure : {A : Type 0} (P : ℕ → A → Type 0) (c : ℕ) (x : A) (ts : List Lexeme) → P c x → S P c ts (Ok (x, ts))
  spent_pure P c x ts holds = let same : c ≡ c + length {A = Lexeme} [] = omega arith in ([], refl, subst (λ (n : ℕ). P n x) same holds)

  pub spent_deep : {A : Type 0} (P : ℕ → A → Type 0) (c : ℕ) (ts : List Lexeme) → (is_quantifier_mark (mark_at note ts) ≡ true) ⊎ (need ≤ c) → S {A = A} P c ts (too_deep ts)
  spent_deep P c ts cause = record { taken = []; rest = ts; parts = refl; left = refl; cause = elim cause [ inl word ↦ inl word | inr many ↦ inr (omega arith) ] }

  pub spent_one : (c : ℕ) (ts : List Lexeme) → S (λ c' x. c' ≡ c + 1) c ts (take_one ts)
  unfolding take_one
  spent_one c [] = tt
  spent_one c (t ∷ ts) = (t ∷ [], refl, omega arith)

  pub spent_expect : (mark : Mark) (c : ℕ) (ts : List Lexeme) → S (λ c' x. c' ≡ c + 1) c ts (expect note mark ts)
  unfolding expect
  spent_expect mark c ts = spent_if (λ c' x. c' ≡ c + 1) c (same_mark (mark_at note ts) mark) take_one refuse ts (λ is. spent_one c ts) (λ is. tt)

-- from the count of an inner parser to that of the whole
pub spent_shift : (note : Bool) (limit need need' : ℕ) {A : Type 0} (P P' : ℕ → A → Type 0) (c c' : ℕ) (ts : List Lexeme) → c ≤ c' → need' + c ≤ need + c'
    → ((t : ℕ) (x : A) → P (c + t) x → P' (c' + t) x) → (r : Outcome A) → Spent note limit need P c ts r → Spent note limit need' P' c' ts r
spent_shift note limit need need' P P' c c' ts le enough up (Ok p) (taken, parts, holds) = (taken, parts, up (length taken) p.0 holds)
spent_shift note limit need need' P P' c c' ts le enough up (Err (Unexpected n)) h = tt
spent_shift note limit need need' P P' c c' ts le enough up (Err (Deep n)) h = record {
  taken = h.taken;
  rest = h.rest;
  parts = h.parts;
  left = h.left;
  cause = elim h.cause [ inl word ↦ inl word | inr many ↦ inr (omega arith) ];
}
spent_shift note limit need need' P P' c c' ts le enough up (Err Long) h = omega arith
