-- The steps of the two readings.
use Rattle.std.proofs.Common.{◌≡◌, ◌≤◌, ◌<◌, ℕ, ◌+◌, ◌-◌, List, [], ◌∷◌, ◌++◌, length, drop, take, refl, sym, ap, ◌∙◌, subst, arith, Bool, true, zero, suc, Result, Ok, Err}
use Rattle.std.proofs.lemmas.List.{drop_all, length-drop, drop-drop}
use Rattle.std.specs.Str.{IsUtf8}
use Rattle.std.proofs.lemmas.Str.{IsUtf8-drop}
use Rattle.jesc_lexer.specs.declared.token.Token.{Token}
use Rattle.jesc_lexer.specs.declared.token.TokenKind.{TokenKind}
use Rattle.jesc_lexer.specs.declared.piece.Piece.{Piece}
use Rattle.jesc_lexer.specs.declared.piece.Piece.TheVariants.{Blank, Lexeme, Bad}
use Rattle.jesc_lexer.specs.declared.piece.Note.{Note}
use Rattle.jesc_lexer.specs.declared.piece.CodePiece.TheVariants.{Annotation}
use Rattle.jesc_lexer.specs.declared.piece.Refusal.{Refusal}
use Rattle.jesc_lexer.specs.declared.piece.Stop.{Stop}
use Rattle.jesc_lexer.specs.declared.piece.Stop.TheVariants.{Refused, OutOfMemory}
use Rattle.jesc_lexer.specs.Inner.{StandsAt, AreBefore, Ends, IsStep, end_of, Continues, Reads, StopsBy, fits_at}
use Rattle.jesc_lexer.specs.Texts.{IsTokenText}
use Rattle.jesc_lexer.proofs.KindTexts.{texts_more, text_is}
use Rattle.jesc_lexer.specs.Spans.{AreSpans}
use Rattle.jesc_lexer.specs.Pieces.{note_piece, code_piece}
use Rattle.jesc_lexer.specs.Reading.{token, after_represents, behind, behind_code, note_tokens, code_tokens, and_then}

-- the bytes of a piece that is read already are passed over
note_skips : (text : List ℕ) (file : ℕ) (block : Bool) (bytes : List ℕ) (within at : ℕ) (tokens : List Token)
    → note_tokens text file block bytes within at tokens ≡ note_tokens text file block (drop within bytes) 0 (at + within) tokens
unfolding note_tokens
note_skips text file block [] zero at tokens = refl
note_skips text file block [] (suc within) at tokens = refl
note_skips text file block (b ∷ bytes) zero at tokens = let same : at ≡ at + 0 = omega arith in ap (λ n. note_tokens text file block (b ∷ bytes) 0 n tokens) same
note_skips text file block (b ∷ bytes) (suc within) at tokens =
    let same : at + 1 + within ≡ at + suc within = omega arith in
    note_skips text file block bytes within (at + 1) tokens ∙ ap (λ n. note_tokens text file block (drop within bytes) 0 n tokens) same

code_skips : (text : List ℕ) (file : ℕ) (bytes : List ℕ) (within at : ℕ) (tokens : List Token)
    → code_tokens text file bytes within at tokens ≡ code_tokens text file (drop within bytes) 0 (at + within) tokens
unfolding code_tokens
code_skips text file [] zero at tokens = refl
code_skips text file [] (suc within) at tokens = refl
code_skips text file (b ∷ bytes) zero at tokens = let same : at ≡ at + 0 = omega arith in ap (λ n. code_tokens text file (b ∷ bytes) 0 n tokens) same
code_skips text file (b ∷ bytes) (suc within) at tokens =
    let same : at + 1 + within ≡ at + suc within = omega arith in
    code_skips text file bytes within (at + 1) tokens ∙ ap (λ n. code_tokens text file (drop within bytes) 0 n tokens) same

-- the reading goes on behind a piece of n bytes
pub note_goes : (text : List ℕ) (file : ℕ) (block : Bool) (bytes : List ℕ) (at n : ℕ) (tokens more : List Token) → 0 < length bytes → 0 < n
    → Continues (λ next. behind next file true at tokens (note_piece block (after_represents text tokens) bytes)) (Ok n) more
    → note_tokens text file block bytes 0 at tokens ≡ note_tokens text file block (drop n bytes) 0 (at + n) more
unfolding note_tokens
note_goes text file block [] at n tokens more some positive goes = absurd (omega arith)
note_goes text file block (b ∷ bytes) at zero tokens more some positive goes = absurd (omega arith)
note_goes text file block (b ∷ bytes) at (suc n) tokens more some positive goes =
    let less : suc n - 1 ≡ n = omega arith in
    let same : at + 1 + n ≡ at + suc n = omega arith in
    goes (λ n more. note_tokens text file block bytes (n - 1) (at + 1) more)
    ∙ ap (λ k. note_tokens text file block bytes k (at + 1) more) less
    ∙ note_skips text file block bytes n (at + 1) more
    ∙ ap (λ k. note_tokens text file block (drop n bytes) 0 k more) same

pub note_stops : (text : List ℕ) (file : ℕ) (block : Bool) (bytes : List ℕ) (at : ℕ) (tokens more : List Token) (refusal : Refusal) → 0 < length bytes
    → Continues (λ next. behind next file true at tokens (note_piece block (after_represents text tokens) bytes)) (Err (Refused refusal)) more
    → note_tokens text file block bytes 0 at tokens ≡ Err refusal
unfolding note_tokens
note_stops text file block [] at tokens more refusal some stops = absurd (omega arith)
note_stops text file block (b ∷ bytes) at tokens more refusal some stops = stops (λ n more. note_tokens text file block bytes (n - 1) (at + 1) more)

pub note_ends : (text : List ℕ) (file : ℕ) (block : Bool) (bytes : List ℕ) (at n : ℕ) (tokens : List Token) → length bytes ≤ n → note_tokens text file block (drop n bytes) 0 at tokens ≡ Ok tokens
unfolding note_tokens
note_ends text file block bytes at n tokens past = ap (λ t. note_tokens text file block t 0 at tokens) (drop_all n bytes past)

pub code_goes : (text : List ℕ) (file : ℕ) (bytes : List ℕ) (at n : ℕ) (tokens more : List Token) → 0 < length bytes → 0 < n
    → Continues (λ next. behind_code next text file at bytes tokens (code_piece bytes)) (Ok n) more
    → code_tokens text file bytes 0 at tokens ≡ code_tokens text file (drop n bytes) 0 (at + n) more
unfolding code_tokens
code_goes text file [] at n tokens more some positive goes = absurd (omega arith)
code_goes text file (b ∷ bytes) at zero tokens more some positive goes = absurd (omega arith)
code_goes text file (b ∷ bytes) at (suc n) tokens more some positive goes =
    let less : suc n - 1 ≡ n = omega arith in
    let same : at + 1 + n ≡ at + suc n = omega arith in
    goes (λ n more. code_tokens text file bytes (n - 1) (at + 1) more)
    ∙ ap (λ k. code_tokens text file bytes k (at + 1) more) less
    ∙ code_skips text file bytes n (at + 1) more
    ∙ ap (λ k. code_tokens text file (drop n bytes) 0 k more) same

pub code_stops : (text : List ℕ) (file : ℕ) (bytes : List ℕ) (at : ℕ) (tokens more : List Token) (refusal : Refusal) → 0 < length bytes
    → Continues (λ next. behind_code next text file at bytes tokens (code_piece bytes)) (Err (Refused refusal)) more
    → code_tokens text file bytes 0 at tokens ≡ Err refusal
unfolding code_tokens
code_stops text file [] at tokens more refusal some stops = absurd (omega arith)
code_stops text file (b ∷ bytes) at tokens more refusal some stops = stops (λ n more. code_tokens text file bytes (n - 1) (at + 1) more)

pub code_ends : (text : List ℕ) (file : ℕ) (bytes : List ℕ) (at n : ℕ) (tokens : List Token) → length bytes ≤ n → code_tokens text file (drop n bytes) 0 at tokens ≡ Ok tokens
unfolding code_tokens
code_ends text file bytes at n tokens past = ap (λ t. code_tokens text file t 0 at tokens) (drop_all n bytes past)

-- one token more, behind all others
more_spans : (size from at : ℕ) (tokens : List Token) (new : Token) → AreSpans size from tokens → end_of from tokens ≤ new.span.from → new.span.from < new.span.to → new.span.to ≤ size
    → AreSpans size from (tokens ++ new ∷ [])
more_spans size from at [] new spans behind some within = (behind, some, within, tt)
more_spans size from at (token ∷ tokens) new spans behind some within = (spans.0, spans.1, spans.2, more_spans size token.span.to at tokens new spans.3 behind some within)

end_more : (from : ℕ) (tokens : List Token) (new : Token) → end_of from (tokens ++ new ∷ []) ≡ new.span.to
end_more from [] new = refl
end_more from (token ∷ tokens) new = end_more token.span.to tokens new

pub before_more : (text rest : List ℕ) (at : ℕ) (tokens : List Token) (file : ℕ) (note : Bool) (kind : TokenKind) (n : ℕ) → AreBefore text at tokens → Ends rest n → at + length rest ≤ length text
    → StandsAt text at rest → IsTokenText note kind (take n rest) → AreBefore text (at + n) (tokens ++ token file note at kind n ∷ [])
before_more text rest at tokens file note kind n before ends within stands own = record {
  spans = more_spans (length text) 0 at tokens (token file note at kind n) before.spans before.ended (omega (arith, ends.some)) (omega (arith, within, ends.edge.0));
  ended = omega (arith, end_more 0 tokens (token file note at kind n));
  texts = texts_more text tokens (token file note at kind n) before.texts (subst (λ t. IsTokenText note kind t) (sym (text_is text rest file at n note kind stands ends.edge.0)) own);
}

pub before_later : (text : List ℕ) (at later : ℕ) (tokens : List Token) → at ≤ later → AreBefore text at tokens → AreBefore text later tokens
before_later text at later tokens h before = record { spans = before.spans; ended = omega (arith, before.ended); texts = before.texts }

-- a turn of a loop over the pieces
pub note_turn : (text : List ℕ) (file : ℕ) (block : Bool) (inside : List ℕ) (start at n : ℕ) (tokens more : List Token) → at < length inside → 0 < n
    → Continues (λ next. behind next file true (start + at) tokens (note_piece block (after_represents text tokens) (drop at inside))) (Ok n) more
    → note_tokens text file block (drop at inside) 0 (start + at) tokens ≡ note_tokens text file block (drop (at + n) inside) 0 (start + (at + n)) more
note_turn text file block inside start at n tokens more within some goes =
    let place : start + at + n ≡ start + (at + n) = omega arith in
    let rest : 0 < length (drop at inside) = omega (arith, length-drop at inside) in
    note_goes text file block (drop at inside) (start + at) n tokens more rest some goes
    ∙ ap (λ t. note_tokens text file block t 0 (start + at + n) more) (drop-drop n at inside)
    ∙ ap (λ k. note_tokens text file block (drop (at + n) inside) 0 k more) place

pub code_turn : (text : List ℕ) (file : ℕ) (at n : ℕ) (tokens more : List Token) → at < length text → 0 < n
    → Continues (λ next. behind_code next text file at (drop at text) tokens (code_piece (drop at text))) (Ok n) more
    → code_tokens text file (drop at text) 0 at tokens ≡ code_tokens text file (drop (at + n) text) 0 (at + n) more
code_turn text file at n tokens more within some goes =
    let rest : 0 < length (drop at text) = omega (arith, length-drop at text) in
    code_goes text file (drop at text) at n tokens more rest some goes
    ∙ ap (λ t. code_tokens text file t 0 (at + n) more) (drop-drop n at text)

pub utf8_turn : (text : List ℕ) (at n : ℕ) → IsUtf8 (drop at text) → Ends (drop at text) n → IsUtf8 (drop (at + n) text)
utf8_turn text at n utf8 ends = subst (λ t. IsUtf8 t) (drop-drop n at text) (IsUtf8-drop (drop at text) n utf8 ends.edge)

pub within_turn : (text : List ℕ) (at n : ℕ) → at < length text → Ends (drop at text) n → (at + n ≤ length text) × (0 < n)
within_turn text at n within ends = (omega (arith, length-drop at text, ends.edge.0), ends.some)

pub step_fits : (rest : List ℕ) (size at : ℕ) (piece : Piece) → IsStep rest piece → at + length rest ≤ size → size ≤ 1048576 → fits_at at piece
step_fits rest size at (Blank n) step within short = tt
step_fits rest size at (Lexeme kind n) step within short = omega (arith, step.edge.0)
step_fits rest size at (Bad number character) step within short = tt

-- a reading that ends early
pub note_fails : (text : List ℕ) (file : ℕ) (block : Bool) (bytes : List ℕ) (at : ℕ) (tokens more : List Token) (stop : Stop) → 0 < length bytes
    → Continues (λ next. behind next file true at tokens (note_piece block (after_represents text tokens) bytes)) (Err stop) more
    → Reads (note_tokens text file block bytes 0 at tokens) (Err stop) more
note_fails text file block bytes at tokens more (Refused refusal) some stops = note_stops text file block bytes at tokens more refusal some stops
note_fails text file block bytes at tokens more OutOfMemory some stops = tt

pub code_fails : (text : List ℕ) (file : ℕ) (bytes : List ℕ) (at : ℕ) (tokens more : List Token) (stop : Stop) → 0 < length bytes
    → Continues (λ next. behind_code next text file at bytes tokens (code_piece bytes)) (Err stop) more
    → Reads (code_tokens text file bytes 0 at tokens) (Err stop) more
code_fails text file bytes at tokens more (Refused refusal) some stops = code_stops text file bytes at tokens more refusal some stops
code_fails text file bytes at tokens more OutOfMemory some stops = tt

pub same_reading : (a b : Result (List Token) Refusal) (stop : Stop) (tokens : List Token) → a ≡ b → Reads b (Err stop) tokens → Reads a (Err stop) tokens
same_reading a b (Refused refusal) tokens same reads = same ∙ reads
same_reading a b OutOfMemory tokens same reads = tt

-- an annotation is read on behind its inside
pub annotation_goes : (text : List ℕ) (file at : ℕ) (bytes : List ℕ) (note : Note) (tokens more : List Token)
    → note_tokens text file note.block (take (note.to - note.from) (drop note.from bytes)) 0 (at + note.from) tokens ≡ Ok more
    → Continues (λ next. behind_code next text file at bytes tokens (Annotation note)) (Ok note.length) more
annotation_goes text file at bytes note tokens more reads = λ next. ap (λ r. and_then r (next note.length)) reads

pub annotation_fails : (text : List ℕ) (file at : ℕ) (bytes : List ℕ) (note : Note) (tokens more : List Token) (stop : Stop)
    → Reads (note_tokens text file note.block (take (note.to - note.from) (drop note.from bytes)) 0 (at + note.from) tokens) (Err stop) more
    → Continues (λ next. behind_code next text file at bytes tokens (Annotation note)) (Err stop) more
annotation_fails text file at bytes note tokens more (Refused refusal) reads = λ next. ap (λ r. and_then r (next note.length)) reads
annotation_fails text file at bytes note tokens more OutOfMemory reads = tt

-- a later bound holds too
pub stops_later : (A B : Type 0) (stop : Stop) (most later : ℕ) → most ≤ later → StopsBy {A = A} most (Err stop) → StopsBy {A = B} later (Err stop)
stops_later A B (Refused refusal) most later h stops = omega (arith, stops, h)
stops_later A B OutOfMemory most later h stops = tt
