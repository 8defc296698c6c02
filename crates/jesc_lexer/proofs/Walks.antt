-- The readings of a file with tokens, taken apart into their pieces.
use Rattle.std.proofs.Common.{◌≡◌, ◌≤◌, ◌<◌, ℕ, ◌+◌, ◌-◌, List, [], ◌∷◌, ◌++◌, length, drop, take, refl, sym, ap, ◌∙◌, subst, arith, Bool, true, false, zero, suc, Result, Ok, Err, append-nil, append_assoc, length-drop}
use Rattle.std.specs.Str.{IsUtf8}
use Rattle.std.proofs.lemmas.Str.{IsUtf8-drop, IsUtf8-between}
use Rattle.jesc_lexer.specs.declared.token.Token.{Token}
use Rattle.jesc_lexer.specs.declared.token.TokenKind.{TokenKind}
use Rattle.jesc_lexer.specs.declared.piece.Piece.{Piece}
use Rattle.jesc_lexer.specs.declared.piece.Piece.TheVariants.{Blank, Lexeme, Bad}
use Rattle.jesc_lexer.specs.declared.piece.Note.{Note}
use Rattle.jesc_lexer.specs.declared.piece.CodePiece.{CodePiece}
use Rattle.jesc_lexer.specs.declared.piece.CodePiece.TheVariants.{Plain, Annotation}
use Rattle.jesc_lexer.specs.declared.piece.Refusal.{Refusal}
use Rattle.jesc_lexer.specs.declared.piece.Stop.TheVariants.{Refused}
use Rattle.jesc_lexer.specs.Inner.{Ends, IsStep}
use Rattle.jesc_lexer.specs.Pieces.{note_piece, code_piece}
use Rattle.jesc_lexer.specs.Reading.{token, after_represents, behind, behind_code, note_tokens, code_tokens}
use Rattle.jesc_lexer.proofs.Steps.{NoteEnds, IsCodeStep, note_step, code_step}
use Rattle.jesc_lexer.proofs.Readings.{note_goes, note_stops, code_goes, code_stops, annotation_goes, annotation_fails}

-- the bytes of an annotation's inside from an offset on, the tokens before it, and those that it has
pub data NoteWalk (text : List ℕ) (file : ℕ) (block : Bool) : ℕ → List ℕ → List Token → List Token → Type 0 where
  note_ends : (at : ℕ) (before : List Token) → NoteWalk text file block at [] before []
  note_blank : (at n : ℕ) (bytes : List ℕ) (before more : List Token) → IsUtf8 bytes → Ends bytes n → note_piece block (after_represents text before) bytes ≡ Blank n
      → NoteWalk text file block (at + n) (drop n bytes) before more → NoteWalk text file block at bytes before more
  note_lexeme : (at n : ℕ) (kind : TokenKind) (bytes : List ℕ) (before more : List Token) → IsUtf8 bytes → Ends bytes n
      → note_piece block (after_represents text before) bytes ≡ Lexeme kind n
      → NoteWalk text file block (at + n) (drop n bytes) (before ++ token file true at kind n ∷ []) more
      → NoteWalk text file block at bytes before (token file true at kind n ∷ more)

pub data CodeWalk (text : List ℕ) (file : ℕ) : ℕ → List ℕ → List Token → List Token → Type 0 where
  code_ends : (at : ℕ) (before : List Token) → CodeWalk text file at [] before []
  code_blank : (at n : ℕ) (bytes : List ℕ) (before more : List Token) → IsUtf8 bytes → Ends bytes n → code_piece bytes ≡ Plain (Blank n)
      → CodeWalk text file (at + n) (drop n bytes) before more → CodeWalk text file at bytes before more
  code_lexeme : (at n : ℕ) (kind : TokenKind) (bytes : List ℕ) (before more : List Token) → IsUtf8 bytes → Ends bytes n → code_piece bytes ≡ Plain (Lexeme kind n)
      → CodeWalk text file (at + n) (drop n bytes) (before ++ token file false at kind n ∷ []) more
      → CodeWalk text file at bytes before (token file false at kind n ∷ more)
  code_note : (at : ℕ) (note : Note) (bytes : List ℕ) (before noted more : List Token) → IsUtf8 bytes → NoteEnds bytes note → code_piece bytes ≡ Annotation note
      → NoteWalk text file note.block (at + note.from) (take (note.to - note.from) (drop note.from bytes)) before noted
      → CodeWalk text file (at + note.length) (drop note.length bytes) (before ++ noted) more
      → CodeWalk text file at bytes before (noted ++ more)

-- the tokens that a reading adds
pub record Adds (before all : List Token) (Walk : List Token → Type 0) : Type 0 where
  pub more : List Token
  pub whole : all ≡ before ++ more
  pub walk : Walk more

one_more : (before : List Token) (new : Token) (more all : List Token) → all ≡ (before ++ new ∷ []) ++ more → all ≡ before ++ new ∷ more
one_more before new more all whole = whole ∙ append_assoc before (new ∷ []) more

shorter : (bytes : List ℕ) (n fuel : ℕ) → Ends bytes n → length bytes ≤ suc fuel → length (drop n bytes) ≤ fuel
shorter bytes n fuel ends enough = omega (arith, length-drop n bytes, ends.some, ends.edge.0)

pub note_walk : (fuel : ℕ) (text : List ℕ) (file : ℕ) (block : Bool) (at : ℕ) (bytes : List ℕ) (before all : List Token) → length bytes ≤ fuel → IsUtf8 bytes
    → note_tokens text file block bytes 0 at before ≡ Ok all → Adds before all (λ more. NoteWalk text file block at bytes before more)
unfolding note_tokens
note_walk fuel text file block at [] before all enough utf8 reads =
    let same : before ≡ all = cc in record { more = []; whole = sym same ∙ sym (append-nil before); walk = note_ends at before }
note_walk zero text file block at (b ∷ bytes) before all enough utf8 reads = absurd (omega arith)
note_walk (suc fuel) text file block at (b ∷ bytes) before all enough utf8 reads =
    by_piece (note_piece block (after_represents text before) (b ∷ bytes)) refl (note_step block (after_represents text before) (b ∷ bytes) utf8)
    (λ n later more ends read. note_walk fuel text file block (at + n) (drop n (b ∷ bytes)) later more (shorter (b ∷ bytes) n fuel ends enough) (IsUtf8-drop (b ∷ bytes) n utf8 ends.edge) read)
  where
    some : 0 < length (b ∷ bytes)
    some = omega arith

    by_piece : (piece : Piece) → note_piece block (after_represents text before) (b ∷ bytes) ≡ piece → IsStep (b ∷ bytes) (note_piece block (after_represents text before) (b ∷ bytes))
        → ((n : ℕ) (later more : List Token) → Ends (b ∷ bytes) n → note_tokens text file block (drop n (b ∷ bytes)) 0 (at + n) later ≡ Ok more
        → Adds later more (λ new. NoteWalk text file block (at + n) (drop n (b ∷ bytes)) later new))
        → Adds before all (λ more. NoteWalk text file block at (b ∷ bytes) before more)
    by_piece (Blank n) is step next =
        let ends : Ends (b ∷ bytes) n = subst (IsStep (b ∷ bytes)) is step in
        let goes = note_goes text file block (b ∷ bytes) at n before before some ends.some (λ go. ap (behind go file true at before) is) in
        let rest = next n before all ends (sym goes ∙ reads) in
        record { more = rest.more; whole = rest.whole; walk = note_blank at n (b ∷ bytes) before rest.more utf8 ends is rest.walk }
    by_piece (Lexeme kind n) is step next =
        let ends : Ends (b ∷ bytes) n = subst (IsStep (b ∷ bytes)) is step in
        let new = token file true at kind n in
        let goes = note_goes text file block (b ∷ bytes) at n before (before ++ new ∷ []) some ends.some (λ go. ap (behind go file true at before) is) in
        let rest = next n (before ++ new ∷ []) all ends (sym goes ∙ reads) in
        record {
          more = new ∷ rest.more;
          whole = one_more before new rest.more all rest.whole;
          walk = note_lexeme at n kind (b ∷ bytes) before rest.more utf8 ends is rest.walk;
        }
    by_piece (Bad number character) is step next =
        let refusal : Refusal = record { number = number; at = at; character = character } in
        let stops = note_stops text file block (b ∷ bytes) at before before refusal some (λ go. ap (behind go file true at before) is) in
        let both = sym stops ∙ reads in absurd (cc)

inside_text : (bytes : List ℕ) (note : Note) → IsUtf8 bytes → NoteEnds bytes note → IsUtf8 (take (note.to - note.from) (drop note.from bytes))
inside_text bytes note utf8 ends = IsUtf8-between bytes note.from note.to utf8 ends.order ends.from ends.to

pub code_walk : (fuel : ℕ) (text : List ℕ) (file : ℕ) (at : ℕ) (bytes : List ℕ) (before all : List Token) → length bytes ≤ fuel → IsUtf8 bytes
    → code_tokens text file bytes 0 at before ≡ Ok all → Adds before all (λ more. CodeWalk text file at bytes before more)
unfolding code_tokens
code_walk fuel text file at [] before all enough utf8 reads =
    let same : before ≡ all = cc in record { more = []; whole = sym same ∙ sym (append-nil before); walk = code_ends at before }
code_walk zero text file at (b ∷ bytes) before all enough utf8 reads = absurd (omega arith)
code_walk (suc fuel) text file at (b ∷ bytes) before all enough utf8 reads =
    by_piece (code_piece (b ∷ bytes)) refl (code_step (b ∷ bytes) utf8)
    (λ n later more ends read. code_walk fuel text file (at + n) (drop n (b ∷ bytes)) later more (shorter (b ∷ bytes) n fuel ends enough) (IsUtf8-drop (b ∷ bytes) n utf8 ends.edge) read)
  where
    some : 0 < length (b ∷ bytes)
    some = omega arith

    by_piece : (piece : CodePiece) → code_piece (b ∷ bytes) ≡ piece → IsCodeStep (b ∷ bytes) (code_piece (b ∷ bytes))
        → ((n : ℕ) (later more : List Token) → Ends (b ∷ bytes) n → code_tokens text file (drop n (b ∷ bytes)) 0 (at + n) later ≡ Ok more
        → Adds later more (λ new. CodeWalk text file (at + n) (drop n (b ∷ bytes)) later new))
        → Adds before all (λ more. CodeWalk text file at (b ∷ bytes) before more)
    by_piece (Plain (Blank n)) is step next =
        let ends : Ends (b ∷ bytes) n = subst (IsCodeStep (b ∷ bytes)) is step in
        let goes = code_goes text file (b ∷ bytes) at n before before some ends.some (λ go. ap (behind_code go text file at (b ∷ bytes) before) is) in
        let rest = next n before all ends (sym goes ∙ reads) in
        record { more = rest.more; whole = rest.whole; walk = code_blank at n (b ∷ bytes) before rest.more utf8 ends is rest.walk }
    by_piece (Plain (Lexeme kind n)) is step next =
        let ends : Ends (b ∷ bytes) n = subst (IsCodeStep (b ∷ bytes)) is step in
        let new = token file false at kind n in
        let goes = code_goes text file (b ∷ bytes) at n before (before ++ new ∷ []) some ends.some (λ go. ap (behind_code go text file at (b ∷ bytes) before) is) in
        let rest = next n (before ++ new ∷ []) all ends (sym goes ∙ reads) in
        record {
          more = new ∷ rest.more;
          whole = one_more before new rest.more all rest.whole;
          walk = code_lexeme at n kind (b ∷ bytes) before rest.more utf8 ends is rest.walk;
        }
    by_piece (Plain (Bad number character)) is step next =
        let refusal : Refusal = record { number = number; at = at; character = character } in
        let stops = code_stops text file (b ∷ bytes) at before before refusal some (λ go. ap (behind_code go text file at (b ∷ bytes) before) is) in
        let both = sym stops ∙ reads in absurd (cc)
    by_piece (Annotation note) is step next =
        let ends : NoteEnds (b ∷ bytes) note = subst (IsCodeStep (b ∷ bytes)) is step in
        by_note ends (note_tokens text file note.block (take (note.to - note.from) (drop note.from (b ∷ bytes))) 0 (at + note.from) before) refl
      where
        by_note : NoteEnds (b ∷ bytes) note → (reading : Result (List Token) Refusal)
            → note_tokens text file note.block (take (note.to - note.from) (drop note.from (b ∷ bytes))) 0 (at + note.from) before ≡ reading
            → Adds before all (λ more. CodeWalk text file at (b ∷ bytes) before more)
        by_note ends (Ok mid) read =
            let inside = take (note.to - note.from) (drop note.from (b ∷ bytes)) in
            let noted = note_walk (length inside) text file note.block (at + note.from) inside before mid (omega arith) (inside_text (b ∷ bytes) note utf8 ends) read in
            let goes = code_goes text file (b ∷ bytes) at note.length before mid some ends.ends.some
            (λ go. ap (behind_code go text file at (b ∷ bytes) before) is ∙ annotation_goes text file at (b ∷ bytes) note before mid read go) in
            let later = subst (λ l. Adds l all (λ new. CodeWalk text file (at + note.length) (drop note.length (b ∷ bytes)) l new)) noted.whole (next note.length mid all ends.ends (sym goes ∙ reads)) in
            record {
              more = noted.more ++ later.more;
              whole = later.whole ∙ append_assoc before noted.more later.more;
              walk = code_note at note (b ∷ bytes) before noted.more later.more utf8 ends is noted.walk later.walk;
            }
        by_note ends (Err refusal) read =
            let stops = code_stops text file (b ∷ bytes) at before before refusal some
            (λ go. ap (behind_code go text file at (b ∷ bytes) before) is ∙ annotation_fails text file at (b ∷ bytes) note before before (Refused refusal) read go) in
            let both = sym stops ∙ reads in absurd (cc)
