-- What the rules of the parser take from the front of the tokens: relations that compose.
use Rattle.std.proofs.Common.{◌≡◌, ℕ, zero, suc, Bool, true, false, ◌&&◌, not, if◌then◌else◌, List, [], ◌∷◌, ◌++◌, length, refl, sym, ap, ◌∙◌, subst, append_assoc, Option, Some, None, IfSome}
use Rattle.std.proofs.lemmas.Slice.Eq.{bytes_eq-Decides}
use Rattle.std.specs.Str.{bytes_eq}
use Rattle.jesc_lexer.specs.declared.token.TokenKind.{TokenKind}
use Rattle.jesc_lexer.specs.declared.token.TokenKind.TheVariants.{Word, Backslash, Number as Digits, Sign}
use Rattle.jesc_ast.specs.Lexemes.{Lexeme}
use Rattle.jesc_first.specs.Spelling.{Piece, Fits, Match}
pub use Rattle.jesc_first.specs.Fronts.{Taken}
use Rattle.jesc_first.specs.Parsing.{Parsed, and_then, same_kind, same_side, is_token, expected, optional, Turn, turned, many, repeated, stateless, list_read}

-- where the parser answers, this holds of what it read and of what is left
pub record Gives {A : Type 0} (p : Parsed A) (P : A → List Lexeme → Type 0) : Type 0 where
  pub given : (x : A) (rest : List Lexeme) → p ≡ Some (x, rest) → P x rest

-- pieces that match one after another
match_append : (a : List Lexeme) (ps : List Piece) (b : List Lexeme) (qs : List Piece) → Match a ps → Match b qs → Match (a ++ b) (ps ++ qs)
match_append [] [] b qs h k = k
match_append [] (p ∷ ps) b qs h k = absurd h
match_append (t ∷ a) [] b qs h k = absurd h
match_append (t ∷ a) (p ∷ ps) b qs h k = (h.0, match_append a ps b qs h.1 k)

-- nothing is taken
pub taken_none : (ts : List Lexeme) → Taken ts [] ts
taken_none ts = record { front = []; split = refl; fits = tt }

-- pieces taken one after another
pub taken_append : {ts mid rest : List Lexeme} {ps qs : List Piece} → Taken ts ps mid → Taken mid qs rest → Taken ts (ps ++ qs) rest
taken_append {ts} {mid} {rest} {ps} {qs} h k = record {
  front = h.front ++ k.front;
  split = h.split ∙ ap (λ (x : List Lexeme). h.front ++ x) k.split ∙ sym (append_assoc h.front k.front rest);
  fits = match_append h.front ps k.front qs h.fits k.fits;
}

-- one piece, and then more
pub taken_cons : {ts mid rest : List Lexeme} {p : Piece} {qs : List Piece} → Taken ts (p ∷ []) mid → Taken mid qs rest → Taken ts (p ∷ qs) rest
taken_cons {ts} {mid} {rest} {p} {qs} h k = record {
  front = h.front ++ k.front;
  split = h.split ∙ ap (λ (x : List Lexeme). h.front ++ x) k.split ∙ sym (append_assoc h.front k.front rest);
  fits = match_append h.front (p ∷ []) k.front qs h.fits k.fits;
}

-- a parser that answers, with what holds of the answer
pub gives_some : {A : Type 0} (x : A) (rest : List Lexeme) (P : A → List Lexeme → Type 0) → P x rest → Gives (Some (x, rest)) P
gives_some x rest P h = record { given = λ y end e. some_is (x, rest) (y, end) P e h }
  where
    some_is : {A : Type 0} (a b : A × List Lexeme) (P : A → List Lexeme → Type 0) → Some a ≡ Some b → P a.0 a.1 → P b.0 b.1
    some_is {A} a b P e h = subst (λ (r : Option (A × List Lexeme)). IfSome r (λ q. P q.0 q.1)) e h

-- a parser that refuses
pub gives_none : {A : Type 0} (P : A → List Lexeme → Type 0) → Gives {A = A} None P
gives_none P = record { given = λ x rest e. absurd (cc) }

-- one parser after another
pub gives_bind : {A B : Type 0} (p : Parsed A) (next : A → List Lexeme → Parsed B) (P : A → List Lexeme → Type 0) (Q : B → List Lexeme → Type 0)
    → Gives p P → ((x : A) (mid : List Lexeme) → P x mid → Gives (next x mid) Q) → Gives (and_then p next) Q
gives_bind None next P Q h k = gives_none Q
gives_bind (Some read) next P Q h k = k read.0 read.1 (h.given read.0 read.1 refl)

-- a weaker claim
pub gives_weaker : {A : Type 0} (p : Parsed A) (P Q : A → List Lexeme → Type 0) → Gives p P → ((x : A) (rest : List Lexeme) → P x rest → Q x rest) → Gives p Q
gives_weaker p P Q h k = record { given = λ x rest e. k x rest (h.given x rest e) }

-- an answer behind a test
pub gives_if : {A : Type 0} (b : Bool) (x : A) (rest : List Lexeme) (P : A → List Lexeme → Type 0) → (b ≡ true → P x rest) → Gives (if b then Some (x, rest) else None) P
gives_if true x rest P h = gives_some x rest P (h refl)
gives_if false x rest P h = gives_none P

-- one of two parsers, by a test
pub gives_either : {A : Type 0} (b : Bool) (p q : Parsed A) (P : A → List Lexeme → Type 0) → (b ≡ true → Gives p P) → (b ≡ false → Gives q P) → Gives (if b then p else q) P
gives_either true p q P h k = h refl
gives_either false p q P h k = k refl

pub and_left : (a b : Bool) → (a && b) ≡ true → a ≡ true
and_left true b h = refl
and_left false b h = h

pub and_right : (a b : Bool) → (a && b) ≡ true → b ≡ true
and_right true b h = h
and_right false b h = absurd (cc)

pub all_three : (a b c : Bool) → (a && b && c) ≡ true → (a ≡ true) × (b ≡ true) × (c ≡ true)
all_three true true c h = (refl, refl, h)
all_three true false c h = absurd (cc)
all_three false b c h = absurd (cc)

pub not_true : (b : Bool) → not b ≡ true → b ≡ false
not_true true h = absurd (cc)
not_true false h = refl

pub same_kind_is : (a b : TokenKind) → same_kind a b ≡ true → a ≡ b
same_kind_is Word Word h = refl
same_kind_is Backslash Backslash h = refl
same_kind_is Digits Digits h = refl
same_kind_is Sign Sign h = refl
same_kind_is Word Backslash h = absurd (cc)
same_kind_is Word Digits h = absurd (cc)
same_kind_is Word Sign h = absurd (cc)
same_kind_is Backslash Word h = absurd (cc)
same_kind_is Backslash Digits h = absurd (cc)
same_kind_is Backslash Sign h = absurd (cc)
same_kind_is Digits Word h = absurd (cc)
same_kind_is Digits Backslash h = absurd (cc)
same_kind_is Digits Sign h = absurd (cc)
same_kind_is Sign Word h = absurd (cc)
same_kind_is Sign Backslash h = absurd (cc)
same_kind_is Sign Digits h = absurd (cc)

pub same_side_is : (a b : Bool) → same_side a b ≡ true → a ≡ b
same_side_is true b h = sym h
same_side_is false true h = absurd (cc)
same_side_is false false h = refl

-- a piece anywhere, and one at an offset
abbrev pub loose : TokenKind → Bool → List ℕ → Piece
loose kind note text = record { kind = kind; text = text; note = note; at = None }

abbrev pub firm : TokenKind → Bool → List ℕ → ℕ → Piece
firm kind note text at = record { kind = kind; text = text; note = note; at = Some at }

-- one token that fits one piece
pub taken_one : (token : Lexeme) (rest : List Lexeme) (p : Piece) → Fits token p → Taken (token ∷ rest) (p ∷ []) rest
taken_one token rest p h = record { front = token ∷ []; split = refl; fits = (h, tt) }

-- a token of this kind, side and text, with its offset
pub record IsNext (kind : TokenKind) (note : Bool) (text : List ℕ) (tokens : List Lexeme) (at : ℕ) (rest : List Lexeme) : Type 0 where
  pub loosely : Taken tokens (loose kind note text ∷ []) rest
  pub firmly : Taken tokens (firm kind note text at ∷ []) rest

-- the test of a token
pub token_fits : (kind : TokenKind) (note : Bool) (text : List ℕ) (token : Lexeme) → is_token kind note text token ≡ true → Fits token (loose kind note text)
token_fits kind note text token h =
    let three = all_three (same_kind token.kind kind) (same_side token.note note) (bytes_eq token.text text) h in
    record { kind = same_kind_is token.kind kind three.0; text = (bytes_eq-Decides token.text text).0 three.2; note = same_side_is token.note note three.1; at = tt }

pub token_fits_at : (kind : TokenKind) (note : Bool) (text : List ℕ) (token : Lexeme) → is_token kind note text token ≡ true → Fits token (firm kind note text token.span.from)
token_fits_at kind note text token h = let f = token_fits kind note text token h in record { kind = f.kind; text = f.text; note = f.note; at = refl }

-- the test of the next token
pub token_is : (kind : TokenKind) (note : Bool) (text : List ℕ) (token : Lexeme) (rest : List Lexeme) → is_token kind note text token ≡ true → IsNext kind note text (token ∷ rest) token.span.from rest
token_is kind note text token rest h = record {
  loosely = taken_one token rest (loose kind note text) (token_fits kind note text token h);
  firmly = taken_one token rest (firm kind note text token.span.from) (token_fits_at kind note text token h);
}

-- an expected token
pub expected_sound : (kind : TokenKind) (note : Bool) (text : List ℕ) (tokens : List Lexeme) → Gives (expected kind note text tokens) (IsNext kind note text tokens)
expected_sound kind note text [] = gives_none (IsNext kind note text [])
expected_sound kind note text (token ∷ rest) = gives_if (is_token kind note text token) token.span.from rest (IsNext kind note text (token ∷ rest)) (token_is kind note text token rest)

-- what begins with a token that may be missing
pub gives_optional : {A : Type 0} (read : Parsed ℕ) (tokens : List Lexeme) (next : ℕ → List Lexeme → Parsed (Option A)) (P : ℕ → List Lexeme → Type 0) (Q : Option A → List Lexeme → Type 0)
    → Gives read P → Q None tokens → ((at : ℕ) (mid : List Lexeme) → P at mid → Gives (next at mid) Q) → Gives (optional read tokens next) Q
gives_optional None tokens next P Q h n k = gives_some None tokens Q n
gives_optional (Some read) tokens next P Q h n k = k read.0 read.1 (h.given read.0 read.1 refl)

-- ---- repetition

-- one thing after another, each in the state that the one before left
abbrev pub Chain : {S A : Type 0} → (S → List Lexeme → A → S → List Lexeme → Type 0) → S → List Lexeme → List A → S → List Lexeme → Type 0
Chain R s tokens [] end rest = (s ≡ end) × (tokens ≡ rest)
Chain {S} R s tokens (x ∷ xs) end rest = (next : S) × (mid : List Lexeme) × R s tokens x next mid × Chain R next mid xs end rest

-- one thing where there is one, and else nothing is taken
abbrev pub Once : {S A : Type 0} → (S → List Lexeme → A → S → List Lexeme → Type 0) → S → List Lexeme → Option A → S → List Lexeme → Type 0
Once R s tokens (Some x) end rest = R s tokens x end rest
Once R s tokens None end rest = (s ≡ end) × (tokens ≡ rest)

turned_sound : {S A : Type 0} (R : S → List Lexeme → A → S → List Lexeme → Type 0) (s : S) (tokens : List Lexeme) (found : Option A) (next : S) (mid : List Lexeme) (more : Parsed (List A × S))
    → Once R s tokens found next mid → Gives more (λ read rest. Chain R next mid read.0 read.1 rest)
    → Gives (turned found next mid more) (λ read rest. Chain R s tokens read.0 read.1 rest)
turned_sound {S} {A} R s tokens None next mid more h k = gives_some ([], next) mid (λ (read : List A × S) rest. Chain R s tokens read.0 read.1 rest) h
turned_sound {S} {A} R s tokens (Some x) next mid more h k =
    gives_bind more _ (λ read rest. Chain R next mid read.0 read.1 rest) (λ (read : List A × S) rest. Chain R s tokens read.0 read.1 rest) k (λ xs end c.
    gives_some (x ∷ xs.0, xs.1) end (λ (read : List A × S) rest. Chain R s tokens read.0 read.1 rest) (next, mid, h, c))

-- a repeated rule, by what one turn takes
many_sound : {S A : Type 0} (turn : Turn S A) (R : S → List Lexeme → A → S → List Lexeme → Type 0)
    → ((s : S) (tokens : List Lexeme) → Gives (turn s tokens) (λ found rest. Once R s tokens found.0 found.1 rest))
    → (fuel : ℕ) (s : S) (tokens : List Lexeme) → Gives (many turn fuel s tokens) (λ read rest. Chain R s tokens read.0 read.1 rest)
unfolding many
many_sound {S} {A} turn R h zero s tokens = gives_none (λ (read : List A × S) rest. Chain R s tokens read.0 read.1 rest)
many_sound {S} {A} turn R h (suc fuel) s tokens =
    gives_bind (turn s tokens) _ (λ found rest. Once R s tokens found.0 found.1 rest) (λ (read : List A × S) rest. Chain R s tokens read.0 read.1 rest) (h s tokens) (λ found rest one.
    turned_sound R s tokens found.0 found.1 rest (many turn fuel found.1 rest) one (many_sound turn R h fuel found.1 rest))

pub repeated_sound : {S A : Type 0} (turn : Turn S A) (R : S → List Lexeme → A → S → List Lexeme → Type 0)
    → ((s : S) (tokens : List Lexeme) → Gives (turn s tokens) (λ found rest. Once R s tokens found.0 found.1 rest))
    → (s : S) (tokens : List Lexeme) → Gives (repeated turn s tokens) (λ read rest. Chain R s tokens read.0 read.1 rest)
repeated_sound turn R h s tokens = many_sound turn R h (suc (length tokens)) s tokens

-- a repeated rule without a state
abbrev pub Stateless : {A : Type 0} → (List Lexeme → A → List Lexeme → Type 0) → Bool → List Lexeme → A → Bool → List Lexeme → Type 0
Stateless R s tokens x end rest = R tokens x rest

abbrev pub Found : {A : Type 0} → (List Lexeme → A → List Lexeme → Type 0) → List Lexeme → Option A → List Lexeme → Type 0
Found R tokens None rest = tokens ≡ rest
Found R tokens (Some x) rest = R tokens x rest

abbrev pub Row : {A : Type 0} → (List Lexeme → A → List Lexeme → Type 0) → List Lexeme → List A → List Lexeme → Type 0
Row R tokens [] rest = tokens ≡ rest
Row R tokens (x ∷ xs) rest = (mid : List Lexeme) × R tokens x mid × Row R mid xs rest

found_once : {A : Type 0} (R : List Lexeme → A → List Lexeme → Type 0) (s : Bool) (tokens : List Lexeme) (found : Option A) (rest : List Lexeme)
    → Found R tokens found rest → Once (Stateless R) s tokens found s rest
found_once R s tokens None rest h = (refl, h)
found_once R s tokens (Some x) rest h = h

chain_row : {A : Type 0} (R : List Lexeme → A → List Lexeme → Type 0) (s : Bool) (tokens : List Lexeme) (xs : List A) (end : Bool) (rest : List Lexeme)
    → Chain (Stateless R) s tokens xs end rest → Row R tokens xs rest
chain_row R s tokens [] end rest h = h.1
chain_row R s tokens (x ∷ xs) end rest (next, mid, one, more) = (mid, one, chain_row R next mid xs end rest more)

read_sound : {S A : Type 0} (p : Parsed (List A × S)) (P : List A × S → List Lexeme → Type 0) (Q : List A → List Lexeme → Type 0)
    → Gives p P → ((read : List A × S) (rest : List Lexeme) → P read rest → Q read.0 rest) → Gives (list_read p) Q
read_sound None P Q h k = gives_none Q
read_sound (Some read) P Q h k = gives_some read.0.0 read.1 Q (k read.0 read.1 (h.given read.0 read.1 refl))

-- a row of things, by what one takes
pub list_sound : {A : Type 0} (rule : List Lexeme → Parsed (Option A)) (R : List Lexeme → A → List Lexeme → Type 0)
    → ((tokens : List Lexeme) → Gives (rule tokens) (Found R tokens))
    → (tokens : List Lexeme) → Gives (list_read (repeated (stateless rule) true tokens)) (Row R tokens)
list_sound {A} rule R h tokens =
    read_sound (repeated (stateless rule) true tokens) (λ read rest. Chain (Stateless R) true tokens read.0 read.1 rest) (Row R tokens)
    (repeated_sound (stateless rule) (Stateless R) (λ s ts.
    gives_bind (rule ts) _ (Found R ts) (λ (found : Option A × Bool) rest. Once (Stateless R) s ts found.0 found.1 rest) (h ts) (λ found rest one.
    gives_some (found, s) rest (λ (found : Option A × Bool) rest. Once (Stateless R) s ts found.0 found.1 rest) (found_once R s ts found rest one))) true tokens)
    (λ read rest c. chain_row R true tokens read.0 read.1 rest c)
