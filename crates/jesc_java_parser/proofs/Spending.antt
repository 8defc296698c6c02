-- Laws of the parsers of both sides: how many lexemes an answer takes, and a stop at the limits.
use Rattle.std.proofs.Common.{◌≡◌, ◌⊎◌, ℕ, zero, suc, ◌+◌, ◌≤◌, ◌<◌, Bool, true, false, if◌then◌else◌, List, [], ◌∷◌, ◌++◌, length, Ok, Err, refl, sym, ap, ◌∙◌, subst, append_assoc, arith, inl, inr}
use Rattle.std.proofs.lemmas.List.{length-append}
use Rattle.jesc_ast.specs.Lexemes.{Lexeme}
use Rattle.jesc_jml_grammar.specs.declared.mark.Mark.{Mark}
use Rattle.jesc_jml_grammar.specs.declared.fault.Fault.TheVariants.{Unexpected, Deep, Long}
use Rattle.jesc_jml_grammar.specs.Steps.{Outcome, Parser, and_then, ◌>>◌, refuse, too_deep, mark_at, same_mark, take_one, expect}
use Rattle.jesc_jml_grammar.specs.Reading.{is_quantifier_mark}
use Rattle.jesc_jml_grammar.specs.ClauseLists.{until, separated}
use Rattle.jesc_jml_parser.specs.laws.ClauseSpending.{Later}
use Rattle.jesc_jml_parser.specs.laws.Spending.{Spent}
use Rattle.jesc_java_grammar.specs.Lexing.{next_is, take_if}

-- a quantifier of one of the sides stands there
abbrev pub AtQuantifier : List Lexeme → Type 0
AtQuantifier ts = (note : Bool) × (is_quantifier_mark (mark_at note ts) ≡ true)

-- stops at a quantifier, or with so many lexemes taken, where so many were taken before
pub record DeepThere (need before : ℕ) (ts : List Lexeme) (n : ℕ) : Type 0 where
  pub taken : List Lexeme
  pub rest : List Lexeme
  pub parts : ts ≡ taken ++ rest
  pub left : n ≡ length rest
  pub cause : AtQuantifier rest ⊎ (need ≤ before + length taken)

-- what an answer says of the lexemes taken, those before among them, and what a stop at a limit says
abbrev pub Spends : (limit need : ℕ) {A : Type 0} → (ℕ → A → Type 0) → ℕ → List Lexeme → Outcome A → Type 0
Spends limit need P before ts (Ok p) = (taken : List Lexeme) × (ts ≡ taken ++ p.1) × P (before + length taken) p.0
Spends limit need P before ts (Err (Unexpected n)) = Unit {0}
Spends limit need P before ts (Err (Deep n)) = DeepThere need before ts n
Spends limit need P before ts (Err Long) = limit < before + length ts

-- from the count of a parser of one side to that of the whole
pub of_side : (note : Bool) (limit need need' : ℕ) {A : Type 0} (P P' : ℕ → A → Type 0) (c c' : ℕ) (ts : List Lexeme) → c ≤ c' → need' + c ≤ need + c'
    → ((t : ℕ) (x : A) → P (c + t) x → P' (c' + t) x) → (r : Outcome A) → Spent note limit need P c ts r → Spends limit need' P' c' ts r
of_side note limit need need' P P' c c' ts le enough up (Ok p) (taken, parts, holds) = (taken, parts, up (length taken) p.0 holds)
of_side note limit need need' P P' c c' ts le enough up (Err (Unexpected n)) h = tt
of_side note limit need need' P P' c c' ts le enough up (Err (Deep n)) h = record {
  taken = h.taken;
  rest = h.rest;
  parts = h.parts;
  left = h.left;
  cause = elim h.cause [ inl word ↦ inl (note, word) | inr many ↦ inr (omega arith) ];
}
of_side note limit need need' P P' c c' ts le enough up (Err Long) h = omega arith

-- from the count of a parser inside
pub of_inner : (limit need need' : ℕ) {A : Type 0} (P P' : ℕ → A → Type 0) (c c' : ℕ) (ts : List Lexeme) → c ≤ c' → need' + c ≤ need + c'
    → ((t : ℕ) (x : A) → P (c + t) x → P' (c' + t) x) → (r : Outcome A) → Spends limit need P c ts r → Spends limit need' P' c' ts r
of_inner limit need need' P P' c c' ts le enough up (Ok p) (taken, parts, holds) = (taken, parts, up (length taken) p.0 holds)
of_inner limit need need' P P' c c' ts le enough up (Err (Unexpected n)) h = tt
of_inner limit need need' P P' c c' ts le enough up (Err (Deep n)) h = record {
  taken = h.taken;
  rest = h.rest;
  parts = h.parts;
  left = h.left;
  cause = elim h.cause [ inl word ↦ inl word | inr many ↦ inr (omega arith) ];
}
of_inner limit need need' P P' c c' ts le enough up (Err Long) h = omega arith

module _ (limit need : ℕ) where
  abbrev pub S : {A : Type 0} → (ℕ → A → Type 0) → ℕ → List Lexeme → Outcome A → Type 0
  S = Spends limit need

  spends_after : {A : Type 0} (P : ℕ → A → Type 0) (c : ℕ) (ts taken mid : List Lexeme) → ts ≡ taken ++ mid → (r : Outcome A) → S P (c + length taken) mid r → S P c ts r
  spends_after P c ts taken mid parts (Ok p) (more, rest, holds) = (
    taken ++ more,
    parts ∙ ap (λ (z : List Lexeme). taken ++ z) rest ∙ sym (append_assoc taken more p.1),
    (let same : c + length taken + length more ≡ c + length (taken ++ more) = omega (arith, length-append taken more) in subst (λ (n : ℕ). P n p.0) same holds),
  )
  spends_after P c ts taken mid parts (Err (Unexpected n)) h = tt
  spends_after P c ts taken mid parts (Err (Deep n)) h = record {
    taken = taken ++ h.taken;
    rest = h.rest;
    parts = parts ∙ ap (λ (z : List Lexeme). taken ++ z) h.parts ∙ sym (append_assoc taken h.taken h.rest);
    left = h.left;
    cause = elim h.cause [ inl word ↦ inl word | inr many ↦ inr (omega (arith, length-append taken h.taken)) ];
  }
  spends_after P c ts taken mid parts (Err Long) h = omega (arith, length-append taken mid, ap length parts)

  -- ---- steps

  -- a chain of parsers, by what the first one takes
  pub after : {A B : Type 0} (P : ℕ → A → Type 0) (f : A → Parser B) (Q : ℕ → B → Type 0) (c : ℕ) (ts : List Lexeme) (r : Outcome A) → S P c ts r
      → ((x : A) (mid : List Lexeme) (c' : ℕ) → P c' x → S Q c' mid (f x mid)) → S Q c ts (and_then r f)
  after P f Q c ts (Ok p) (taken, parts, holds) next = spends_after Q c ts taken p.1 parts (f p.0 p.1) (next p.0 p.1 (c + length taken) holds)
  after P f Q c ts (Err (Unexpected n)) h next = tt
  after P f Q c ts (Err (Deep n)) h next = h
  after P f Q c ts (Err Long) h next = h

  pub either : {A : Type 0} (P : ℕ → A → Type 0) (c : ℕ) (b : Bool) (p q : Parser A) (ts : List Lexeme) → S P c ts (p ts) → S P c ts (q ts) → S P c ts ((if b then p else q) ts)
  either P c true p q ts first second = first
  either P c false p q ts first second = second

  pub done : {A : Type 0} (P : ℕ → A → Type 0) (c : ℕ) (x : A) (ts : List Lexeme) → P c x → S P c ts (Ok (x, ts))
  done P c x ts holds = let same : c ≡ c + length {A = Lexeme} [] = omega arith in ([], refl, subst (λ (n : ℕ). P n x) same holds)

  pub deep : {A : Type 0} (P : ℕ → A → Type 0) (c : ℕ) (ts : List Lexeme) → need ≤ c → S {A = A} P c ts (too_deep ts)
  deep P c ts many = record { taken = []; rest = ts; parts = refl; left = refl; cause = inr (omega arith) }

  pub one : (b c : ℕ) → b ≤ c + 1 → (ts : List Lexeme) → S (Later b) c ts (take_one ts)
  unfolding take_one
  one b c le [] = tt
  one b c le (t ∷ ts) = (t ∷ [], refl, omega arith)

  pub marked : (b c : ℕ) → b ≤ c + 1 → (note : Bool) (mark : Mark) (ts : List Lexeme) → S (Later b) c ts (expect note mark ts)
  unfolding expect
  marked b c le note mark ts = either (Later b) c (same_mark (mark_at note ts) mark) take_one refuse ts (one b c le ts) tt

  pub taken_if : (b c : ℕ) → b ≤ c + 1 → (test : Lexeme → Bool) (ts : List Lexeme) → S (Later b) c ts (take_if test ts)
  unfolding take_if
  taken_if b c le test ts = either (Later b) c (next_is test ts) take_one refuse ts (one b c le ts) tt

  pub after_mark : {B : Type 0} (note : Bool) (mark : Mark) (f : Lexeme → Parser B) (Q : ℕ → B → Type 0) (c : ℕ) (ts : List Lexeme)
      → ((x : Lexeme) (mid : List Lexeme) (c' : ℕ) → c < c' → S Q c' mid (f x mid)) → S Q c ts (and_then (expect note mark ts) f)
  after_mark note mark f Q c ts next = after (Later (c + 1)) f Q c ts (expect note mark ts) (marked (c + 1) c (omega arith) note mark ts) (λ x mid c' late. next x mid c' (omega arith))

  pub after_test : {B : Type 0} (test : Lexeme → Bool) (f : Lexeme → Parser B) (Q : ℕ → B → Type 0) (c : ℕ) (ts : List Lexeme)
      → ((x : Lexeme) (mid : List Lexeme) (c' : ℕ) → c < c' → S Q c' mid (f x mid)) → S Q c ts (and_then (take_if test ts) f)
  after_test test f Q c ts next = after (Later (c + 1)) f Q c ts (take_if test ts) (taken_if (c + 1) c (omega arith) test ts) (λ x mid c' late. next x mid c' (omega arith))

  -- ---- lists, of whose items each takes a lexeme, behind so many at least

  module _ {A B : Type 0} (begins : List Lexeme → Bool) (item : Parser A) (add : B → A → B) (least : ℕ)
      (items : (c : ℕ) → least ≤ c → (ts : List Lexeme) → S (Later (c + 1)) c ts (item ts)) where
    pub listed : (b n : ℕ) (found : B) (c : ℕ) → limit < n + c → b ≤ c → least ≤ c → (ts : List Lexeme) → S (Later b) c ts (until begins item add n found ts)
    unfolding until
    listed b zero found c turns late some ts = omega arith
    listed b (suc n) found c turns late some ts =
        either (Later b) c (begins ts) _ _ ts
        (after (Later (c + 1)) _ (Later b) c ts (item ts) (items c some ts) (λ x mid c1 e1. listed b n (add found x) c1 (omega arith) (omega arith) (omega arith) mid))
        (done (Later b) c found ts late)

  module _ {A B : Type 0} (begins : List Lexeme → Bool) (sign : Parser Lexeme) (item : Parser A) (add : B → A → B)
      (signs : (c : ℕ) → 1 ≤ c → (ts : List Lexeme) → S (Later (c + 1)) c ts (sign ts)) (items : (c : ℕ) → 1 ≤ c → (ts : List Lexeme) → S (Later (c + 1)) c ts (item ts)) where
    signed : (c : ℕ) → 1 ≤ c → (ts : List Lexeme) → S (Later (c + 1)) c ts ((sign >> item) ts)
    signed c some ts =
        after (Later (c + 1)) (λ _. item) (Later (c + 1)) c ts (sign ts) (signs c some ts) (λ x mid c1 e1.
        of_inner limit need need (Later (c1 + 1)) (Later (c + 1)) c1 c1 mid (omega arith) (omega arith) (λ t y late. omega arith) (item mid) (items c1 (omega arith) mid))

    pub spaced : (b : ℕ) (found : B) (c : ℕ) → b ≤ c + 1 → 1 ≤ c → (ts : List Lexeme) → S (Later b) c ts (separated begins sign item add limit found ts)
    unfolding separated
    spaced b found c late some ts =
        after (Later (c + 1)) _ (Later b) c ts (item ts) (items c some ts) (λ x mid c1 e1.
        listed begins (sign >> item) add 1 signed b limit (add found x) c1 (omega arith) (omega arith) (omega arith) mid)
