-- The recognizer on lexemes that fit pieces, one after another.
use Rattle.std.proofs.Common.{◌≡◌, ℕ, Bool, true, false, ◌&&◌, not, List, [], ◌∷◌, ◌++◌, refl, ap, ◌∙◌, Option, Some, None}
use Rattle.jesc_lexer.specs.declared.token.TokenKind.{TokenKind}
use Rattle.jesc_lexer.specs.declared.token.TokenKind.TheVariants.{Word}
use Rattle.jesc_ast.specs.Lexemes.{Lexeme}
use Rattle.jesc_first.specs.declared.reader.phase.Phase.{Phase}
use Rattle.jesc_first.specs.Spelling.{Piece, Fits, word}
use Rattle.jesc_first.specs.Names.{IsNew}
use Rattle.jesc_first.specs.Parsing.{Texts, same_kind, is_plain, is_name_text, slot_in}
use Rattle.jesc_first.specs.Recognizing.{State, is_new, put, put_by, step, run_on, run}
use Rattle.jesc_first.proofs.CompleteBase.{Spans}
use Rattle.jesc_first.proofs.CompleteNames.{name_passes, slot_new}

-- a state, by its phase and whether `\result` was told
abbrev pub here : Texts → Texts → Texts → Bool → Phase → Bool → State
here classes methods scope returns phase told =
    record { phase = phase; classes = classes; methods = methods; scope = scope; returns = returns; told = told }

-- a lexeme that fits the next piece is taken
pub takes : (s new : State) (ts : List Lexeme) (p : Piece) (ps : List Piece) (rest : List Lexeme) → Spans ts (p ∷ ps) rest → ((x : Lexeme) → Fits x p → step s x ≡ Some new)
    → (mid : List Lexeme) × (run s ts ≡ run new mid) × Spans mid ps rest
takes s new [] p ps rest h k = absurd h
takes s new (t ∷ ts) p ps rest h k = (ts, ap (λ (o : Option State). run_on o ts) (k t h.0), h.1)

-- Lexemes take the recognizer from one state to another, where `\result` may be told on the way.
pub record Passes (outcome : Bool) (from to : Bool → State) (told : Bool) (ts rest : List Lexeme) : Type 0 where
  pub after : Bool
  pub ran : run (from told) ts ≡ run (to after) rest
  pub same : outcome ≡ false → after ≡ told

abbrev pub Carries : Bool → (Bool → State) → (Bool → State) → List Lexeme → List Lexeme → Type 0
Carries outcome from to ts rest = (told : Bool) → Passes outcome from to told ts rest

pub carries_none : (outcome : Bool) (from : Bool → State) (ts rest : List Lexeme) → ts ≡ rest → Carries outcome from from ts rest
carries_none outcome from ts rest e told = record { after = told; ran = ap (run (from told)) e; same = λ o. refl }

pub carries_then : (outcome : Bool) (from via to : Bool → State) (ts mid rest : List Lexeme) → Carries outcome from via ts mid → Carries outcome via to mid rest → Carries outcome from to ts rest
carries_then outcome from via to ts mid rest p q told =
    let first = p told in
    let second = q first.after in
    record { after = second.after; ran = first.ran ∙ second.ran; same = λ o. second.same o ∙ first.same o }

-- where `\result` may not stand, nothing is told of it
pub carried : (from to : Bool → State) (ts rest : List Lexeme) → Carries false from to ts rest → (told : Bool) → run (from told) ts ≡ run (to told) rest
carried from to ts rest p told = (p told).ran ∙ ap (λ (b : Bool). run (to b) rest) ((p told).same refl)

pub carries_any : (outcome : Bool) (from to : Bool → State) (ts rest : List Lexeme) → Carries false from to ts rest → Carries outcome from to ts rest
carries_any outcome from to ts rest p told = record { after = (p told).after; ran = (p told).ran; same = λ o. (p told).same refl }

-- a lexeme that tells nothing of `\result`
pub carries_one : (outcome : Bool) (from to : Bool → State) (ts : List Lexeme) (p : Piece) (ps : List Piece) (rest : List Lexeme) → Spans ts (p ∷ ps) rest
    → ((told : Bool) (x : Lexeme) → Fits x p → step (from told) x ≡ Some (to told))
    → (mid : List Lexeme) × Carries outcome from to ts mid × Spans mid ps rest
carries_one outcome from to [] p ps rest h k = absurd h
carries_one outcome from to (t ∷ ts) p ps rest h k =
    (ts, λ told. record { after = told; ran = ap (λ (o : Option State). run_on o ts) (k told t h.0); same = λ o. refl }, h.1)

-- a new name is taken, and put to the names
pub new_fits : (names : Texts) (text : List ℕ) (x : Lexeme) → IsNew names text → Fits x (word false text) → (is_new names x ≡ true) × (put names x.text ≡ names ++ text ∷ [])
new_fits names text x n f =
    let plain : is_plain x ≡ true = ap (λ (k : TokenKind). same_kind k Word && not x.note) f.kind ∙ ap (λ (b : Bool). not b) f.note in
    let named : is_name_text x.text ≡ true = ap is_name_text f.text ∙ name_passes text n.0 in
    let none : slot_in names x.text ≡ None = ap (slot_in names) f.text ∙ slot_new names text n in
    (rw (plain, named, none) refl, ap (put_by names x.text) none ∙ ap (λ (t : List ℕ). names ++ t ∷ []) f.text)
