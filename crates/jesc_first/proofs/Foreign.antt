-- Names of a specification, and the heading behind it.
use Rattle.std.proofs.Common.{◌≡◌, ℕ, Bool, true, false, ◌&&◌, not, if◌then◌else◌, List, [], ◌∷◌, ◌++◌, suc, refl, sym, ap, ◌∙◌, arith, append_assoc, Option, Some, None, All, Contains, Result, Ok, Err, IfOk, IfSome, subst}
use Rattle.std.specs.Option.{is_some}
use Rattle.std.proofs.lemmas.List.Elements.{All-nil, All-cons, All-push}
use Rattle.jesc_lexer.specs.declared.token.TokenKind.TheVariants.{Word}
use Rattle.jesc_ast.specs.Lexemes.{Lexeme}
use Rattle.jesc_first.specs.declared.reader.cursor.Cursor.{Cursor}
use Rattle.jesc_first.specs.declared.reader.phase.Phase.{Phase}
use Rattle.jesc_first.specs.declared.reader.phase.Phase.TheVariants.{Methods}
use Rattle.jesc_first.specs.Seen.{seen}
use Rattle.jesc_first.specs.Parsing.{Texts, same_kind, is_name_text, slot_in, behind_notes}
use Rattle.jesc_first.specs.Recognizing.{State, is_before_part, step}
use Rattle.jesc_first.specs.Recognized.{Steps}
use Rattle.jesc_first.specs.Fronts.{HasHeading, IsBehindNotes, IsStrange, IsForeignPlace}
use Rattle.jesc_first.proofs.SoundBase.{all_three, same_kind_is}
use Rattle.jesc_first.proofs.SoundSums.{name_is, slot_missing}
use Rattle.jesc_first.proofs.InClauses.{IsTaken, before_any, taken_more, before_part}

abbrev Noted : Lexeme → Type 0
Noted x = x.note ≡ true

-- the recognizer has taken the lexemes of annotations up to the place, and stands at the phase
pub record IsReadTo (tokens place : List Lexeme) (phase : Phase) : Type 0 where
  pub behind : IsBehindNotes tokens place
  pub taken : IsTaken behind.front phase

pub read_none : (ts place : List Lexeme) (phase : Phase) → place ≡ ts → phase ≡ Methods → IsReadTo ts place phase
read_none ts place phase e p =
    record { behind = record { front = []; split = sym e; noted = All-nil Noted }; taken = subst (IsTaken []) (sym p) before_any }

pub read_more : (ts place : List Lexeme) (s : State) (x : Lexeme) (rest : List Lexeme) (goes : Bool) (new : State)
    → IsReadTo ts place s.phase → place ≡ x ∷ rest → x.note ≡ true → Steps (step s x) goes new → goes ≡ true → IsReadTo ts rest new.phase
read_more ts place s x rest goes new r e n steps went =
    let b = r.behind in
    record {
      behind = record {
        front = b.front ++ x ∷ [];
        split = b.split ∙ ap (λ (xs : List Lexeme). b.front ++ xs) e ∙ sym (append_assoc b.front (x ∷ []) rest);
        noted = All-push Noted b.front x b.noted n;
      };
      taken = taken_more b.front s x goes new r.taken n steps went;
    }

no_slot : (names : Texts) (text : List ℕ) (found : Option ℕ) → slot_in names text ≡ found → not (is_some found) ≡ true → ¬ (Contains names text)
no_slot names text None e h c = slot_missing names text e c
no_slot names text (Some slot) e h c = absurd (cc)

pub strange_here : (ts : List Lexeme) (names : Texts) (place : List Lexeme) (phase : Phase) (x : Lexeme) (rest : List Lexeme) → IsReadTo ts place phase → place ≡ x ∷ rest → x.note ≡ true
    → is_before_part phase ≡ true → (same_kind x.kind Word && is_name_text x.text && not (is_some (slot_in names x.text))) ≡ true → IsStrange ts names place
strange_here ts names place phase x rest r e n p h =
    let three = all_three (same_kind x.kind Word) (is_name_text x.text) (not (is_some (slot_in names x.text))) h in
    let word : x.kind ≡ Word = same_kind_is x.kind Word three.0 in
    record {
      behind = r.behind;
      name = x;
      rest = rest;
      first = e;
      is_word = word;
      is_noted = n;
      named = name_is x.text three.1;
      placed = before_part r.behind.front x phase r.taken p word n;
      strange = no_slot names x.text (slot_in names x.text) refl three.2;
    }

-- ---- what stands behind a specification

behind_front : (front rest : List Lexeme) → All Noted front → behind_notes (front ++ rest) ≡ behind_notes rest
behind_front [] rest h = refl
behind_front (x ∷ front) rest h = let n : x.note ≡ true = h 0 x (omega arith) in rw n (behind_front front rest (λ k d l. h (suc k) d (omega arith)))

-- the lexemes up to the next one outside annotations
notes : (ts : List Lexeme) → (front : List Lexeme) × (ts ≡ front ++ behind_notes ts) × All Noted front
notes [] = ([], refl, All-nil Noted)
notes (x ∷ ts) = by x.note refl (notes ts)
  where
    by : (b : Bool) → x.note ≡ b → (front : List Lexeme) × (ts ≡ front ++ behind_notes ts) × All Noted front
        → (front : List Lexeme) × ((x ∷ ts) ≡ front ++ (if b then behind_notes ts else x ∷ ts)) × All Noted front
    by true n (front, split, noted) = (x ∷ front, ap (λ (xs : List Lexeme). x ∷ xs) split, All-cons Noted x front n noted)
    by false n h = ([], refl, All-nil Noted)

pub foreign_is : (ts : List Lexeme) (names : Texts) (place : List Lexeme) → HasHeading (behind_notes ts) names → IsStrange ts names place → IsForeignPlace ts place
foreign_is ts names place h s =
    let behind : behind_notes ts ≡ behind_notes s.rest =
    ap behind_notes s.behind.split ∙ behind_front s.behind.front place s.behind.noted ∙ ap behind_notes s.first ∙ behind_front (s.name ∷ []) s.rest (All-cons Noted s.name [] s.is_noted (All-nil Noted)) in
    let clauses = notes s.rest in
    let tail : s.rest ≡ clauses.0 ++ h.taken.front ++ h.rest =
    clauses.1 ∙ ap (λ (xs : List Lexeme). clauses.0 ++ xs) (sym behind ∙ h.taken.split) ∙ sym (append_assoc clauses.0 h.taken.front h.rest) in
    record {
      front = s.behind.front;
      split = s.behind.split;
      foreign = record {
        name = s.name;
        clauses = clauses.0;
        heading = h.taken.front;
        rest = h.rest;
        parts = s.first ∙ ap (λ (xs : List Lexeme). s.name ∷ xs) tail;
        is_word = s.is_word;
        named = s.named;
        placed = s.placed;
        noted = All-cons Noted s.name clauses.0 s.is_noted clauses.2;
        result = h.result;
        method = h.method;
        parameters = h.parameters;
        matched = h.taken.fits;
        foreign = λ c. s.strange (h.among s.name.text c);
      };
    }

-- as the code finds it
pub foreign_found : {E : Type 0} (ts : List Lexeme) (names : Texts) (result : Result (Option Cursor) E) → HasHeading (behind_notes ts) names
    → IfOk result (λ found. IfSome found (λ place. IsStrange ts names (seen place))) → IfOk result (λ found. IfSome found (λ place. IsForeignPlace ts (seen place)))
foreign_found ts names (Ok (Some place)) h s = foreign_is ts names (seen place) h s
foreign_found ts names (Ok None) h s = tt
foreign_found ts names (Err e) h s = tt
