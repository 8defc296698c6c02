-- What an answer says of the lexemes that were taken.
use Rattle.std.proofs.Common.{◌≡◌, ℕ, ◌≤◌, ◌<◌, Bool, true, false, List, [], ◌∷◌, ◌++◌, Ok, Err, refl, subst}
use Rattle.std.specs.Prelude.{if◌then◌else◌}
use Rattle.jesc_ast.specs.Lexemes.{Lexeme}
use Rattle.jesc_jml_grammar.specs.declared.mark.Mark.{Mark}
use Rattle.jesc_jml_grammar.specs.declared.mark.Mark.TheVariants as m
use Rattle.jesc_jml_grammar.specs.Marks.{lexeme_mark}
use Rattle.jesc_jml_grammar.specs.Steps.{Outcome, Parser, and_then, mark_at, take_one, refuse, same_mark, expect}
use Rattle.jesc_jml_grammar.specs.Reading.{Parsed, Start, at_first, behind_name, behind_bracket}
use Rattle.jesc_jml_parser.specs.laws.SoundMarks.{same_is}
use Rattle.jesc_jml_parser.specs.laws.SoundPieces.{IsSpelled}

-- ---- what an answer says, where there is one

abbrev pub Gives : {A : Type 0} → Outcome A → (A → List Lexeme → Type 0) → Type 0
Gives (Ok p) Q = Q p.0 p.1
Gives (Err d) Q = Unit {0}

pub gives_bind : {A B : Type 0} (f : A → Parser B) {P : A → List Lexeme → Type 0} (Q : B → List Lexeme → Type 0) (r : Outcome A)
    → Gives r P → ((x : A) (mid : List Lexeme) → P x mid → Gives (f x mid) Q) → Gives (and_then r f) Q
gives_bind f Q (Ok p) h next = next p.0 p.1 h
gives_bind f Q (Err d) h next = tt

pub gives_if : {A : Type 0} (b : Bool) (p q : Parser A) (Q : A → List Lexeme → Type 0) (ts : List Lexeme)
    → (b ≡ true → Gives (p ts) Q) → (b ≡ false → Gives (q ts) Q) → Gives ((if b then p else q) ts) Q
gives_if true p q Q ts here there = here refl
gives_if false p q Q ts here there = there refl

pub gives_so : {A : Type 0} (P Q : A → List Lexeme → Type 0) (r : Outcome A) → Gives r P → ((x : A) (rest : List Lexeme) → P x rest → Q x rest) → Gives r Q
gives_so P Q (Ok p) h next = next p.0 p.1 h
gives_so P Q (Err d) h next = tt

pub gives_ok : {A : Type 0} (r : Outcome A) (P : A → List Lexeme → Type 0) (x : A) (rest : List Lexeme) → Gives r P → r ≡ Ok (x, rest) → P x rest
gives_ok {A} r P x rest h e = subst (λ (z : Outcome A). Gives z P) e h

-- ---- one lexeme

pub record Took (note : Bool) (wanted : Mark) (ts : List Lexeme) (x : Lexeme) (rest : List Lexeme) : Type 0 where
  pub at : ts ≡ x ∷ rest
  pub mark : lexeme_mark note x ≡ wanted

pub took_one : (note : Bool) (ts : List Lexeme) → Gives (take_one ts) (Took note (mark_at note ts) ts)
unfolding take_one mark_at
took_one note [] = tt
took_one note (x ∷ xs) = record { at = refl; mark = refl }

pub took : (note : Bool) (mark : Mark) (ts : List Lexeme) → Gives (expect note mark ts) (Took note mark ts)
unfolding expect
took note mark ts =
    gives_if (same_mark (mark_at note ts) mark) take_one refuse (Took note mark ts) ts
    (λ e. subst (λ (z : Mark). Gives (take_one ts) (Took note z ts)) (same_is (mark_at note ts) mark e) (took_one note ts))
    (λ e. tt)

-- ---- a whole expression

-- the lexemes that a start was read from
abbrev pub start_lexemes : Start → List Lexeme
start_lexemes at_first = []
start_lexemes (behind_name x) = x ∷ []
start_lexemes (behind_bracket x p) = x ∷ p ∷ []

-- a name, and a name with a left bracket behind it, on this side
abbrev pub IsStart : Bool → Start → Type 0
IsStart note at_first = Unit {0}
IsStart note (behind_name x) = lexeme_mark note x ≡ m.Name
IsStart note (behind_bracket x p) = (lexeme_mark note x ≡ m.Name) × (lexeme_mark note p ≡ m.LeftBracket)

-- These lexemes spell the tree, with those taken before them, and the rest is left. No part that binds less tightly
-- than `least` stands at its top; a new array alone stands where 12 is the least.
pub record Taken (note : Bool) (room quantifiers least : ℕ) (before ts : List Lexeme) (p : Parsed) (rest : List Lexeme) : Type 0 where
  pub taken : List Lexeme
  pub parts : ts ≡ taken ++ rest
  pub is : IsSpelled note room quantifiers (before ++ taken) p
  pub tight : least ≤ 11 → least ≤ p.strength

-- the parser of inner expressions takes what spells them
abbrev pub TakesWhole : Bool → ℕ → (ℕ → ℕ → Start → Parser Parsed) → Type 0
TakesWhole note room inner = (k least : ℕ) → 0 < least → (start : Start) → IsStart note start → (ts : List Lexeme)
    → Gives (inner k least start ts) (Taken note room k least (start_lexemes start) ts)
