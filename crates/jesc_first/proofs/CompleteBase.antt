-- Tokens that fit pieces, one after another, and what single rules then read.
use Rattle.std.proofs.Common.{◌≡◌, ℕ, ◌+◌, ◌<◌, Bool, true, false, ◌&&◌, List, [], ◌∷◌, ◌++◌, length, suc, zero, refl, ap, ◌∙◌, arith, Option, Some, None, IfSome}
use Rattle.std.specs.Str.{bytes_eq}
use Rattle.jesc_lexer.specs.declared.token.TokenKind.{TokenKind}
use Rattle.jesc_ast.specs.Lexemes.{Lexeme}
use Rattle.jesc_first.specs.Spelling.{Piece, Fits, Match}
use Rattle.jesc_first.specs.Parsing.{Parsed, same_kind, same_side, is_token, expected, begins_with, Turn, many, repeated, stateless, list_read}

-- the tokens begin with ones that fit the pieces, and the rest comes after those
abbrev pub Spans : List Lexeme → List Piece → List Lexeme → Type 0
Spans tokens [] rest = tokens ≡ rest
Spans [] (piece ∷ pieces) rest = ⊥
Spans (token ∷ tokens) (piece ∷ pieces) rest = Fits token piece × Spans tokens pieces rest

-- tokens whose lexemes match the pieces span them, and nothing is left
pub match_spans : (ts : List Lexeme) (ps : List Piece) → Match ts ps → Spans ts ps []
match_spans [] [] h = refl
match_spans [] (p ∷ ps) h = absurd h
match_spans (t ∷ ts) [] h = absurd h
match_spans (t ∷ ts) (p ∷ ps) h = (h.0, match_spans ts ps h.1)

-- pieces one after another are spanned one after another
pub spans_split : (ts : List Lexeme) (ps qs : List Piece) (rest : List Lexeme) → Spans ts (ps ++ qs) rest → (mid : List Lexeme) × Spans ts ps mid × Spans mid qs rest
spans_split ts [] qs rest h = (ts, refl, h)
spans_split [] (p ∷ ps) qs rest h = absurd h
spans_split (t ∷ ts) (p ∷ ps) qs rest h = let r = spans_split ts ps qs rest h.1 in (r.0, (h.0, r.1), r.2)

-- each piece takes a token
pub spans_length : (ts : List Lexeme) (ps : List Piece) (rest : List Lexeme) → Spans ts ps rest → length ts ≡ length ps + length rest
spans_length ts [] rest h = let e : length ts ≡ length rest = ap length h in omega arith
spans_length [] (p ∷ ps) rest h = absurd h
spans_length (t ∷ ts) (p ∷ ps) rest h = let e = spans_length ts ps rest h.1 in omega arith

-- whether a piece is of this kind, side and text
abbrev pub piece_is : Piece → TokenKind → Bool → List ℕ → Bool
piece_is p kind note text = same_kind p.kind kind && same_side p.note note && bytes_eq p.text text

-- a test of a token is the test of the piece that it fits
pub fits_is : (kind : TokenKind) (note : Bool) (text : List ℕ) (t : Lexeme) (p : Piece) → Fits t p → is_token kind note text t ≡ piece_is p kind note text
fits_is kind note text t p f =
    ap (λ (k : TokenKind). same_kind k kind && same_side t.note note && bytes_eq t.text text) f.kind
    ∙ ap (λ (n : Bool). same_kind p.kind kind && same_side n note && bytes_eq t.text text) f.note
    ∙ ap (λ (x : List ℕ). same_kind p.kind kind && same_side p.note note && bytes_eq x text) f.text

-- the next token fits this piece
abbrev pub Heads : List Lexeme → Piece → Type 0
Heads [] p = ⊥
Heads (t ∷ ts) p = Fits t p

-- where the first piece is fitted
pub spans_heads : (ts : List Lexeme) (p : Piece) (ps : List Piece) (rest : List Lexeme) → Spans ts (p ∷ ps) rest → Heads ts p
spans_heads [] p ps rest h = absurd h
spans_heads (t ∷ ts) p ps rest h = h.0

-- the expected token is read where the next piece is the like
pub expected_next : (kind : TokenKind) (note : Bool) (text : List ℕ) (ts : List Lexeme) (p : Piece) (ps : List Piece) (rest : List Lexeme)
    → Spans ts (p ∷ ps) rest → piece_is p kind note text ≡ true
    → (offset : ℕ) × (mid : List Lexeme) × (expected kind note text ts ≡ Some (offset, mid)) × Spans mid ps rest × IfSome p.at (λ a. offset ≡ a)
expected_next kind note text [] p ps rest h e = absurd h
expected_next kind note text (t ∷ ts) p ps rest h e =
    let q : is_token kind note text t ≡ true = fits_is kind note text t p h.0 ∙ e in
    (t.span.from, ts, rw q refl, h.1, h.0.at)

-- nothing is read where the next piece is another
pub expected_other : (kind : TokenKind) (note : Bool) (text : List ℕ) (ts : List Lexeme) (p : Piece) → Heads ts p → piece_is p kind note text ≡ false → expected kind note text ts ≡ None
expected_other kind note text [] p h e = absurd h
expected_other kind note text (t ∷ ts) p h e =
    let q : is_token kind note text t ≡ false = fits_is kind note text t p h ∙ e in rw q refl

-- whether the next token is this one
pub begins_is : (kind : TokenKind) (note : Bool) (text : List ℕ) (ts : List Lexeme) (p : Piece) → Heads ts p → begins_with kind note text ts ≡ piece_is p kind note text
begins_is kind note text [] p h = absurd h
begins_is kind note text (t ∷ ts) p h = fits_is kind note text t p h

-- the turns of a rule that read these, one after another, and then find nothing more
abbrev pub Turns : {S A : Type 0} → Turn S A → S → List Lexeme → List A → S → List Lexeme → Type 0
Turns turn s ts [] end rest = turn s ts ≡ Some ((None, end), rest)
Turns {S} {A} turn s ts (x ∷ xs) end rest =
    (next : S) × (mid : List Lexeme) × (turn s ts ≡ Some ((Some x, next), mid)) × (length mid < length ts) × Turns turn next mid xs end rest

-- with more turns than there are tokens all of them are read
pub many_turns : {S A : Type 0} (turn : Turn S A) (xs : List A) (fuel : ℕ) (s : S) (ts : List Lexeme) (end : S) (rest : List Lexeme)
    → length ts < fuel → Turns turn s ts xs end rest → many turn fuel s ts ≡ Some ((xs, end), rest)
unfolding many
many_turns turn xs zero s ts end rest l h = absurd (omega arith)
many_turns turn [] (suc fuel) s ts end rest l h = rw h refl
many_turns turn (x ∷ xs) (suc fuel) s ts end rest l h =
    let k = many_turns turn xs fuel h.0 h.1 end rest (omega (arith, h.3)) h.4 in
    rw (h.2, k) refl

-- all turns of a repetition are read
pub repeated_turns : {S A : Type 0} (turn : Turn S A) (xs : List A) (s : S) (ts : List Lexeme) (end : S) (rest : List Lexeme)
    → Turns turn s ts xs end rest → repeated turn s ts ≡ Some ((xs, end), rest)
repeated_turns turn xs s ts end rest h = many_turns turn xs (suc (length ts)) s ts end rest (omega arith) h

-- the same for a rule that keeps no state
abbrev pub Reads : {A : Type 0} → (List Lexeme → Parsed (Option A)) → List Lexeme → List A → List Lexeme → Type 0
Reads rule ts [] rest = rule ts ≡ Some (None, rest)
Reads rule ts (x ∷ xs) rest = (mid : List Lexeme) × (rule ts ≡ Some (Some x, mid)) × (length mid < length ts) × Reads rule mid xs rest

-- reading without a state is reading with one that stays
reads_turns : {A : Type 0} (rule : List Lexeme → Parsed (Option A)) (ts : List Lexeme) (xs : List A) (rest : List Lexeme)
    → Reads rule ts xs rest → Turns (stateless rule) true ts xs true rest
reads_turns rule ts [] rest h = rw h refl
reads_turns rule ts (x ∷ xs) rest h = (true, h.0, rw h.1 refl, h.2, reads_turns rule h.0 xs rest h.3)

-- all that a repeated rule reads is a list
pub list_reads : {A : Type 0} (rule : List Lexeme → Parsed (Option A)) (ts : List Lexeme) (xs : List A) (rest : List Lexeme)
    → Reads rule ts xs rest → list_read (repeated (stateless rule) true ts) ≡ Some (xs, rest)
list_reads rule ts xs rest h = rw (repeated_turns (stateless rule) xs true ts true rest (reads_turns rule ts xs rest h)) refl
