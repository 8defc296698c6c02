-- The pieces of a reading are the input elements of the text.
use Rattle.std.proofs.Common.{◌≡◌, ◌<◌, ℕ, ◌+◌, ◌-◌, List, [], ◌∷◌, ◌++◌, length, drop, take, refl, sym, ap, ◌∙◌, subst, arith, Bool, true, false, not, cond, ◌&&◌, nat_eq, codes, Some, append_assoc, length-drop, length-take-le, take-append-drop}
use Rattle.std.specs.List.{prefix_len, suffix_len, starts_with, list_any}
use Rattle.std.specs.Str.{IsUtf8}
use Rattle.std.proofs.lemmas.List.{drop-drop, take_all}
use Rattle.std.proofs.lemmas.List.Sums.{prefix_len-le-length, suffix_len-le-length}
use Rattle.jesc_lexer.specs.Characters.{is_white, is_line_feed, is_at_sign, begins}
use Rattle.jesc_lexer.specs.Elements.{IsBlank, IsInLine, EndsLine, IsClosed, IsNoComment, IsMargin, IsInside, inside_ends, inside_blank, inside_line_comment, inside_block_comment, inside_token, IsCode, code_ends as all_ends, code_blank as all_blank, code_line_comment, code_block_comment, code_token, code_line_note, code_block_note}
use Rattle.jesc_lexer.specs.Lexed.{IsLexed}
use Rattle.jesc_lexer.specs.Pieces.{line_len, closing, blank_len}
use Rattle.jesc_lexer.specs.Reading.{token, after_represents}
use Rattle.jesc_lexer.specs.Inner.{Ends, IsTextOf}
use Rattle.jesc_lexer.specs.Texts.{IsTokenText}
use Rattle.jesc_lexer.specs.declared.token.Token.{Token}
use Rattle.jesc_lexer.specs.declared.token.TokenKind.{TokenKind}
use Rattle.jesc_lexer.specs.declared.piece.Note.{Note}
use Rattle.jesc_lexer.proofs.Edges.{begins_first}
use Rattle.jesc_lexer.proofs.Fronts.{run_stops}
use Rattle.jesc_lexer.proofs.KindTexts.{all_prefix, token_of}
use Rattle.jesc_lexer.proofs.Parts.{all_drop, all_suffix, at_sign_first, closed_rest, is_closed, is_plain, inside_is, is_trimmed}
use Rattle.jesc_lexer.proofs.Shapes.{IsLexeme, CodeSkip, is_white_run, is_line_comment, is_block_comment, CodeNote, is_line_note, is_block_note, IsCodeShape, code_shape, NoteSkip, is_note_white, is_note_line, is_note_block, IsNoteShape, note_shape}
use Rattle.jesc_lexer.proofs.Steps.{closing_place, fits, run_some}
use Rattle.jesc_lexer.proofs.Walks.{NoteWalk, note_ends, note_blank, note_lexeme, CodeWalk, code_ends, code_blank, code_lexeme, code_note, code_walk}

-- ---- what all elements have in common

abbrev stays : ℕ → Bool
stays b = not (is_line_feed b)

-- the parts of a line comment behind its `//`
record LineParts (bytes : List ℕ) : Type 0 where
  pub whole : bytes ≡ codes "//" ++ (take (line_len (drop 2 bytes)) (drop 2 bytes) ++ drop (2 + line_len (drop 2 bytes)) bytes)
  pub size : length (take (line_len (drop 2 bytes)) (drop 2 bytes)) ≡ line_len (drop 2 bytes)
  pub within : IsInLine (take (line_len (drop 2 bytes)) (drop 2 bytes))
  pub ends : EndsLine (drop (2 + line_len (drop 2 bytes)) bytes)
  pub rest : drop 2 bytes ≡ take (line_len (drop 2 bytes)) (drop 2 bytes) ++ drop (2 + line_len (drop 2 bytes)) bytes

line_parts : (bytes : List ℕ) → starts_with nat_eq bytes (codes "//") ≡ true → LineParts bytes
line_parts bytes fit =
    let rest = drop 2 bytes in
    let n = line_len rest in
    let later : drop n rest ≡ drop (2 + n) bytes = drop-drop n 2 bytes in
    let cut : rest ≡ take n rest ++ drop (2 + n) bytes = sym (take-append-drop n rest) ∙ ap (λ l. take n rest ++ l) later in
    record {
      whole = fits bytes (codes "//") fit ∙ ap (λ l. codes "//" ++ l) cut;
      size = length-take-le n rest (prefix_len-le-length stays rest);
      within = all_prefix stays rest;
      ends = ap (begins stays) (sym later) ∙ run_stops stays rest;
      rest = cut;
    }

-- the parts of a block comment behind its `/*`
record BlockParts (bytes : List ℕ) (k : ℕ) : Type 0 where
  pub whole : bytes ≡ codes "/*" ++ (take k (drop 2 bytes) ++ (codes "*/" ++ drop (k + 4) bytes))
  pub size : length (take k (drop 2 bytes)) ≡ k
  pub closed : IsClosed (take k (drop 2 bytes))
  pub rest : drop 2 bytes ≡ take k (drop 2 bytes) ++ (codes "*/" ++ drop (k + 4) bytes)

block_parts : (bytes : List ℕ) (k : ℕ) → starts_with nat_eq bytes (codes "/*") ≡ true → closing (drop 2 bytes) ≡ Some k → BlockParts bytes k
block_parts bytes k fit found =
    let rest = drop 2 bytes in
    let closes = closing_place rest k found in
    let place : 2 + (k + 2) ≡ k + 4 = omega arith in
    let later : drop (k + 2) rest ≡ drop (k + 4) bytes = drop-drop (k + 2) 2 bytes ∙ ap (λ i. drop i bytes) place in
    let cut : rest ≡ take k rest ++ (codes "*/" ++ drop (k + 4) bytes) = closed_rest rest k closes ∙ ap (λ l. take k rest ++ (codes "*/" ++ l)) later in
    record {
      whole = fits bytes (codes "/*") fit ∙ ap (λ l. codes "/*" ++ l) cut;
      size = length-take-le k rest (omega (arith, closes.within));
      closed = is_closed rest k found;
      rest = cut;
    }

white_blank : (bytes : List ℕ) → begins is_white bytes ≡ true → IsBlank (take (prefix_len is_white bytes) bytes)
white_blank bytes white =
    let first = begins_first is_white bytes white in
    record {
      some = omega (arith, run_some is_white bytes first.0 first.1, length-take-le (prefix_len is_white bytes) bytes (prefix_len-le-length is_white bytes));
      white = all_prefix is_white bytes;
    }

white_size : (bytes : List ℕ) → length (take (prefix_len is_white bytes) bytes) ≡ prefix_len is_white bytes
white_size bytes = length-take-le (prefix_len is_white bytes) bytes (prefix_len-le-length is_white bytes)

-- ---- the inside of an annotation

inside_at : (file : ℕ) (block : Bool) (tokens : List Token) (at there : ℕ) (bytes text : List ℕ) → at ≡ there → bytes ≡ text → IsInside file block at bytes tokens → IsInside file block there text tokens
inside_at file block tokens at there bytes text same spells inside = subst (λ k. IsInside file block k text tokens) same (subst (λ l. IsInside file block at l tokens) spells inside)

inside_token_at : (file : ℕ) (block arrow : Bool) (at n : ℕ) (kind : TokenKind) (bytes : List ℕ) (tokens : List Token) → Ends bytes n → IsUtf8 bytes → IsLexeme true arrow bytes kind n
    → IsInside file block (at + n) (drop n bytes) tokens → IsInside file block at bytes (token file true at kind n ∷ tokens)
inside_token_at file block arrow at n kind bytes tokens ends utf8 lexeme rest =
    let size : length (take n bytes) ≡ n = length-take-le n bytes ends.edge.0 in
    let whole : take n bytes ++ drop n bytes ≡ bytes = take-append-drop n bytes in
    let own : IsTokenText true kind (take n bytes) = subst (IsTextOf true bytes) lexeme.taken (token_of true arrow bytes utf8 (λ _. refl)) in
    let none : IsNoComment (take n bytes ++ drop n bytes) = subst IsNoComment (sym whole) (lexeme.no_line, lexeme.no_block) in
    let made : IsInside file block at (take n bytes ++ drop n bytes) (token file true at kind (length (take n bytes)) ∷ tokens) = inside_token at kind (take n bytes) (drop n bytes) tokens own none (subst (λ k. IsInside file block (at + k) (drop n bytes) tokens) (sym size) rest) in
    subst (λ l. IsInside file block at l (token file true at kind n ∷ tokens)) whole (subst (λ k. IsInside file block at (take n bytes ++ drop n bytes) (token file true at kind k ∷ tokens)) size made)

inside_blank_at : (file : ℕ) (block : Bool) (at : ℕ) (bytes : List ℕ) (tokens : List Token) → begins is_white bytes ≡ true
    → IsInside file block (at + blank_len block bytes) (drop (blank_len block bytes) bytes) tokens → IsInside file block at bytes tokens
unfolding blank_len
inside_blank_at file block at bytes tokens white rest = by_line (block && list_any is_line_feed (take (prefix_len is_white bytes) bytes)) refl rest
  where
    by_line : (v : Bool) → (block && list_any is_line_feed (take (prefix_len is_white bytes) bytes)) ≡ v
        → IsInside file block (at + cond v (prefix_len is_white bytes + prefix_len is_at_sign (drop (prefix_len is_white bytes) bytes)) (prefix_len is_white bytes))
        (drop (cond v (prefix_len is_white bytes + prefix_len is_at_sign (drop (prefix_len is_white bytes) bytes)) (prefix_len is_white bytes)) bytes) tokens
        → IsInside file block at bytes tokens
    by_line false plain rest =
        let n = prefix_len is_white bytes in
        let size = white_size bytes in
        let offset : at + n ≡ at + (length (take n bytes) + 0) = omega (arith, size) in
        subst (λ l. IsInside file block at l tokens) (take-append-drop n bytes)
        (inside_blank at (take n bytes) [] (drop n bytes) tokens (white_blank bytes white) (run_stops is_white bytes)
        (subst (λ v. IsMargin v [] (drop n bytes)) (sym plain) refl)
        (subst (λ k. IsInside file block k (drop n bytes) tokens) offset rest))
    by_line true line rest =
        let n = prefix_len is_white bytes in
        let xs = drop n bytes in
        let m = prefix_len is_at_sign xs in
        let size = white_size bytes in
        let signs : length (take m xs) ≡ m = length-take-le m xs (prefix_len-le-length is_at_sign xs) in
        let offset : at + (n + m) ≡ at + (length (take n bytes) + length (take m xs)) = omega (arith, size, signs) in
        let behind : drop (n + m) bytes ≡ drop m xs = sym (drop-drop m n bytes) in
        let whole : take n bytes ++ (take m xs ++ drop m xs) ≡ bytes = ap (λ l. take n bytes ++ l) (take-append-drop m xs) ∙ take-append-drop n bytes in
        subst (λ l. IsInside file block at l tokens) whole
        (inside_blank at (take n bytes) (take m xs) (drop m xs) tokens (white_blank bytes white)
        (ap (begins is_white) (take-append-drop m xs) ∙ run_stops is_white bytes)
        (subst (λ v. IsMargin v (take m xs) (drop m xs)) (sym line) (all_prefix is_at_sign xs, run_stops is_at_sign xs))
        (inside_at file block tokens (at + (n + m)) _ (drop (n + m) bytes) (drop m xs) offset behind rest))

line_at_slashes : (bytes : List ℕ) → starts_with nat_eq bytes (codes "//") ≡ true → line_len bytes ≡ 2 + line_len (drop 2 bytes)
line_at_slashes bytes fit =
    let whole = fits bytes (codes "//") fit in
    ap line_len whole ∙ two (line_len (drop 2 bytes))
  where
    two : (n : ℕ) → 1 + (1 + n) ≡ 2 + n
    two n = omega arith

inside_skip : (file : ℕ) (block : Bool) (at : ℕ) (bytes : List ℕ) (n : ℕ) (tokens : List Token) → NoteSkip block bytes n
    → IsInside file block (at + n) (drop n bytes) tokens → IsInside file block at bytes tokens
inside_skip file block at bytes n tokens (is_note_white white) rest = inside_blank_at file block at bytes tokens white rest
inside_skip file block at bytes n tokens (is_note_line fit) rest =
    let parts = line_parts bytes fit in
    let k = line_len (drop 2 bytes) in
    let n_is = line_at_slashes bytes fit in
    let size = parts.size in
    let offset : at + line_len bytes ≡ at + (2 + length (take k (drop 2 bytes))) = omega (arith, n_is, size) in
    let behind : drop (line_len bytes) bytes ≡ drop (2 + k) bytes = ap (λ i. drop i bytes) n_is in
    subst (λ l. IsInside file block at l tokens) (sym parts.whole)
    (inside_line_comment at (take k (drop 2 bytes)) (drop (2 + k) bytes) tokens parts.within parts.ends
    (inside_at file block tokens (at + line_len bytes) _ (drop (line_len bytes) bytes) (drop (2 + k) bytes) offset behind rest))
inside_skip file block at bytes n tokens (is_note_block k fit line found) rest =
    let parts = block_parts bytes k fit found in
    let size = parts.size in
    let offset : at + (k + 4) ≡ at + (length (take k (drop 2 bytes)) + 4) = omega (arith, size) in
    subst (λ l. IsInside file block at l tokens) (sym parts.whole)
    (inside_block_comment at (take k (drop 2 bytes)) (drop (k + 4) bytes) tokens (rw line refl) parts.closed
    (subst (λ i. IsInside file block i (drop (k + 4) bytes) tokens) offset rest))

note_elements : (text : List ℕ) (file : ℕ) (block : Bool) (at : ℕ) (bytes : List ℕ) (before more : List Token) → NoteWalk text file block at bytes before more → IsInside file block at bytes more
note_elements text file block at bytes before more (note_ends _ _) = inside_ends at
note_elements text file block at bytes before more (note_blank _ n _ _ _ own ends is rest) =
    let shape = subst (IsNoteShape block (after_represents text before) bytes) is (note_shape block (after_represents text before) bytes) in
    inside_skip file block at bytes n more shape (note_elements text file block (at + n) (drop n bytes) before more rest)
note_elements text file block at bytes before more (note_lexeme _ n kind _ _ later own ends is rest) =
    let shape = subst (IsNoteShape block (after_represents text before) bytes) is (note_shape block (after_represents text before) bytes) in
    inside_token_at file block (after_represents text before) at n kind bytes later ends own shape
    (note_elements text file block (at + n) (drop n bytes) (before ++ token file true at kind n ∷ []) later rest)

-- ---- code

code_at : (file : ℕ) (tokens : List Token) (at there : ℕ) (bytes text : List ℕ) → at ≡ there → bytes ≡ text → IsCode file at bytes tokens → IsCode file there text tokens
code_at file tokens at there bytes text same spells code = subst (λ k. IsCode file k text tokens) same (subst (λ l. IsCode file at l tokens) spells code)

code_token_at : (file at n : ℕ) (kind : TokenKind) (bytes : List ℕ) (tokens : List Token) → Ends bytes n → IsUtf8 bytes → IsLexeme false false bytes kind n
    → IsCode file (at + n) (drop n bytes) tokens → IsCode file at bytes (token file false at kind n ∷ tokens)
code_token_at file at n kind bytes tokens ends utf8 lexeme rest =
    let size : length (take n bytes) ≡ n = length-take-le n bytes ends.edge.0 in
    let whole : take n bytes ++ drop n bytes ≡ bytes = take-append-drop n bytes in
    let own : IsTokenText false kind (take n bytes) = subst (IsTextOf false bytes) lexeme.taken (token_of false false bytes utf8 (λ h. h)) in
    let none : IsNoComment (take n bytes ++ drop n bytes) = subst IsNoComment (sym whole) (lexeme.no_line, lexeme.no_block) in
    let made : IsCode file at (take n bytes ++ drop n bytes) (token file false at kind (length (take n bytes)) ∷ tokens) = code_token at kind (take n bytes) (drop n bytes) tokens own none (subst (λ k. IsCode file (at + k) (drop n bytes) tokens) (sym size) rest) in
    subst (λ l. IsCode file at l (token file false at kind n ∷ tokens)) whole (subst (λ k. IsCode file at (take n bytes ++ drop n bytes) (token file false at kind k ∷ tokens)) size made)

code_skip : (file at : ℕ) (bytes : List ℕ) (n : ℕ) (tokens : List Token) → CodeSkip bytes n → IsCode file (at + n) (drop n bytes) tokens → IsCode file at bytes tokens
code_skip file at bytes n tokens (is_white_run white) rest =
    let k = prefix_len is_white bytes in
    subst (λ l. IsCode file at l tokens) (take-append-drop k bytes)
    (all_blank at (take k bytes) (drop k bytes) tokens (white_blank bytes white) (run_stops is_white bytes)
    (subst (λ i. IsCode file (at + i) (drop k bytes) tokens) (sym (white_size bytes)) rest))
code_skip file at bytes n tokens (is_line_comment fit plain unmarked) rest =
    let parts = line_parts bytes fit in
    let k = line_len (drop 2 bytes) in
    let body = take k (drop 2 bytes) in
    subst (λ l. IsCode file at l tokens) (sym parts.whole)
    (code_line_comment at body (drop (2 + k) bytes) tokens parts.within parts.ends (is_plain (drop 2 bytes) body (drop (2 + k) bytes) parts.rest plain unmarked)
    (subst (λ i. IsCode file (at + (2 + i)) (drop (2 + k) bytes) tokens) (sym parts.size) rest))
code_skip file at bytes n tokens (is_block_comment k fit found plain unmarked) rest =
    let parts = block_parts bytes k fit found in
    let body = take k (drop 2 bytes) in
    subst (λ l. IsCode file at l tokens) (sym parts.whole)
    (code_block_comment at body (drop (k + 4) bytes) tokens parts.closed (is_plain (drop 2 bytes) body (codes "*/" ++ drop (k + 4) bytes) parts.rest plain unmarked)
    (subst (λ i. IsCode file (at + (i + 4)) (drop (k + 4) bytes) tokens) (sym parts.size) rest))

-- the at signs that begin a body, of which one is there
lead_some : (body : List ℕ) → starts_with nat_eq body (codes "@") ≡ true → 0 < length (take (prefix_len is_at_sign body) body)
lead_some body marked =
    let first = begins_first is_at_sign body (sym (at_sign_first body) ∙ marked) in
    omega (arith, run_some is_at_sign body first.0 first.1, length-take-le (prefix_len is_at_sign body) body (prefix_len-le-length is_at_sign body))

code_noted : (file at : ℕ) (bytes : List ℕ) (note : Note) (noted tokens : List Token) → CodeNote bytes note
    → IsInside file note.block (at + note.from) (take (note.to - note.from) (drop note.from bytes)) noted
    → IsCode file (at + note.length) (drop note.length bytes) tokens → IsCode file at bytes (noted ++ tokens)
code_noted file at bytes note noted tokens (is_line_note fit marked) inside rest =
    let parts = line_parts bytes fit in
    let k = line_len (drop 2 bytes) in
    let body = take k (drop 2 bytes) in
    let behind = drop (2 + k) bytes in
    let lead = prefix_len is_at_sign body in
    let leads = prefix_len-le-length is_at_sign body in
    let signs = take lead body in
    let own = drop lead body in
    let signs_size : length signs ≡ lead = length-take-le lead body leads in
    let own_size : length own ≡ length body - lead = length-drop lead body in
    let body_size : length body ≡ k = parts.size in
    let shown : take (2 + length body - (2 + lead)) (drop (2 + lead) bytes) ≡ own = inside_is bytes body behind lead (length body) parts.rest leads (omega arith) ∙ take_all (length body - lead) own (omega (arith, own_size)) in
    let cut : body ++ behind ≡ signs ++ (own ++ behind) = ap (λ l. l ++ behind) (sym (take-append-drop lead body)) ∙ append_assoc signs own behind in
    let whole : bytes ≡ codes "//" ++ (signs ++ (own ++ behind)) = parts.whole ∙ ap (λ l. codes "//" ++ l) cut in
    let place : at + (2 + lead) ≡ at + (2 + length signs) = omega (arith, signs_size) in
    let later : at + (2 + k) ≡ at + (2 + (length signs + length own)) = omega (arith, signs_size, own_size, body_size, leads) in
    subst (λ l. IsCode file at l (noted ++ tokens)) (sym whole)
    (code_line_note at signs own behind noted tokens (lead_some body marked) (all_prefix is_at_sign body) (run_stops is_at_sign body)
    (all_drop stays lead body parts.within) parts.ends
    (inside_at file false noted _ _ _ own place shown inside)
    (subst (λ i. IsCode file i behind tokens) later rest))
code_noted file at bytes note noted tokens (is_block_note k fit found marked) inside rest =
    let parts = block_parts bytes k fit found in
    let body = take k (drop 2 bytes) in
    let behind = drop (k + 4) bytes in
    let lead = prefix_len is_at_sign body in
    let leads = prefix_len-le-length is_at_sign body in
    let signs = take lead body in
    let xs = drop lead body in
    let trails = suffix_len is_at_sign xs in
    let longs = suffix_len-le-length is_at_sign xs in
    let xs_size : length xs ≡ length body - lead = length-drop lead body in
    let m = length xs - trails in
    let own = take m xs in
    let trail = drop m xs in
    let signs_size : length signs ≡ lead = length-take-le lead body leads in
    let own_size : length own ≡ m = length-take-le m xs (omega arith) in
    let trail_size : length trail ≡ length xs - m = length-drop m xs in
    let body_size : length body ≡ k = parts.size in
    let last : length body - trails - lead ≡ m = omega (arith, xs_size, leads, longs) in
    let shown : take (2 + (length body - trails) - (2 + lead)) (drop (2 + lead) bytes) ≡ own = inside_is bytes body (codes "*/" ++ behind) lead (length body - trails) parts.rest (omega (arith, xs_size, longs, leads)) (omega arith) ∙ ap (λ i. take i xs) last in
    let own_trail : xs ≡ own ++ trail = sym (take-append-drop m xs) in
    let body_is : body ≡ signs ++ (own ++ trail) = sym (take-append-drop lead body) ∙ ap (λ l. signs ++ l) own_trail in
    let cut : body ++ (codes "*/" ++ behind) ≡ signs ++ (own ++ (trail ++ (codes "*/" ++ behind))) = ap (λ l. l ++ (codes "*/" ++ behind)) body_is ∙ append_assoc signs (own ++ trail) (codes "*/" ++ behind) ∙ ap (λ l. signs ++ l) (append_assoc own trail (codes "*/" ++ behind)) in
    let whole : bytes ≡ codes "/*" ++ (signs ++ (own ++ (trail ++ (codes "*/" ++ behind)))) = parts.whole ∙ ap (λ l. codes "/*" ++ l) cut in
    let place : at + (2 + lead) ≡ at + (2 + length signs) = omega (arith, signs_size) in
    let later : at + (k + 4) ≡ at + (length signs + (length own + length trail) + 4) = omega (arith, signs_size, own_size, trail_size, xs_size, body_size, leads, longs) in
    subst (λ l. IsCode file at l (noted ++ tokens)) (sym whole)
    (code_block_note at signs own trail behind noted tokens (lead_some body marked) (all_prefix is_at_sign body) (is_trimmed body) (all_suffix is_at_sign xs)
    (subst IsClosed body_is parts.closed)
    (inside_at file true noted _ _ _ own place shown inside)
    (subst (λ i. IsCode file i behind tokens) later rest))

code_elements : (text : List ℕ) (file : ℕ) (at : ℕ) (bytes : List ℕ) (before more : List Token) → CodeWalk text file at bytes before more → IsCode file at bytes more
code_elements text file at bytes before more (code_ends _ _) = all_ends at
code_elements text file at bytes before more (code_blank _ n _ _ _ own ends is rest) =
    code_skip file at bytes n more (subst (IsCodeShape bytes) is (code_shape bytes)) (code_elements text file (at + n) (drop n bytes) before more rest)
code_elements text file at bytes before more (code_lexeme _ n kind _ _ later own ends is rest) =
    code_token_at file at n kind bytes later ends own (subst (IsCodeShape bytes) is (code_shape bytes))
    (code_elements text file (at + n) (drop n bytes) (before ++ token file false at kind n ∷ []) later rest)
code_elements text file at bytes before more (code_note _ note _ _ noted later own ends is inside rest) =
    code_noted file at bytes note noted later (subst (IsCodeShape bytes) is (code_shape bytes))
    (note_elements text file note.block (at + note.from) (take (note.to - note.from) (drop note.from bytes)) before noted inside)
    (code_elements text file (at + note.length) (drop note.length bytes) (before ++ noted) later rest)

pub elements_of_file : (file : ℕ) (text : List ℕ) (tokens : List Token) → IsLexed file text tokens → IsCode file 0 text tokens
elements_of_file file text tokens lexed =
    let walk = code_walk (length text) text file 0 text [] tokens (omega arith) lexed.utf8 lexed.reads in
    subst (IsCode file 0 text) (sym walk.whole) (code_elements text file 0 text [] walk.more walk.walk)
