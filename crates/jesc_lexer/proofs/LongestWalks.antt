-- All tokens of a reading are the longest at their places.
use Rattle.std.proofs.Common.{◌≡◌, ◌<◌, ℕ, ◌+◌, ◌-◌, List, [], ◌∷◌, ◌++◌, length, drop, take, refl, sym, ap, ◌∙◌, subst, arith, Bool, true, false, not, get_or, ◌⊎◌, inl, inr, append-nil, append_assoc, length-take-le, take-append-drop}
use Rattle.std.specs.List.{prefix_len, suffix_len}
use Rattle.std.specs.Str.{IsUtf8}
use Rattle.std.proofs.lemmas.Str.{IsUtf8-drop, IsUtf8-nil}
use Rattle.std.proofs.lemmas.List.{drop-drop, drop-append-le, drop_more}
use Rattle.std.proofs.lemmas.List.Sums.{prefix_len-le-length}
use Rattle.std.proofs.lemmas.Bool.Decides.{nat_tests}
use Rattle.jesc_lexer.specs.Characters.{is_line_feed, is_at_sign, begins}
use Rattle.jesc_lexer.specs.Lexed.{IsLexed}
use Rattle.jesc_lexer.specs.Longest.{IsLongest}
use Rattle.jesc_lexer.specs.Pieces.{line_len}
use Rattle.jesc_lexer.specs.Reading.{token, after_represents}
use Rattle.jesc_lexer.specs.Inner.{Ends}
use Rattle.jesc_lexer.specs.declared.token.Token.{Token}
use Rattle.jesc_lexer.specs.declared.piece.Note.{Note}
use Rattle.jesc_lexer.proofs.Fronts.{IsStopped, is_stop, run_stops}
use Rattle.jesc_lexer.proofs.Longest.{longest_here}
use Rattle.jesc_lexer.proofs.Shapes.{CodeNote, is_line_note, is_block_note, IsCodeShape, IsNoteShape, code_shape, note_shape}
use Rattle.jesc_lexer.proofs.Steps.{NoteEnds, closing_place, kept_byte}
use Rattle.jesc_lexer.proofs.Walks.{NoteWalk, note_ends, note_blank, note_lexeme, CodeWalk, code_ends, code_blank, code_lexeme, code_note, code_walk}

-- each of these tokens behind the others
abbrev AllLongest : List ℕ → List Token → List Token → Type 0
AllLongest text before [] = Unit {0}
AllLongest text before (new ∷ more) = IsLongest text before new × AllLongest text (before ++ new ∷ []) more

all_longest-append : (text : List ℕ) (before noted more : List Token) → AllLongest text before noted → AllLongest text (before ++ noted) more → AllLongest text before (noted ++ more)
all_longest-append text before [] more first second = subst (λ l. AllLongest text l more) (append-nil before) second
all_longest-append text before (new ∷ noted) more first second =
    (first.0, all_longest-append text (before ++ new ∷ []) noted more first.1 (subst (λ l. AllLongest text l more) (sym (append_assoc before (new ∷ []) noted)) second))

-- ---- what stands behind an annotation's inside

stopped_at : (bytes : List ℕ) (n : ℕ) → n < length bytes → is_stop (get_or bytes n 0) ≡ true → IsStopped (drop n bytes)
stopped_at bytes n within stop = subst IsStopped (sym (drop_more bytes n 0 within)) stop

stopped_line : (rest : List ℕ) → begins (λ b. not (is_line_feed b)) rest ≡ false → IsStopped rest
stopped_line [] ends = tt
stopped_line (c ∷ rest) ends = feed c ends
  where
    feed : (c : ℕ) → not (is_line_feed c) ≡ false → is_stop c ≡ true
    feed c ends = grind (arith, nat_tests)

stop_of : (b : ℕ) → (is_at_sign b ≡ true) ⊎ (b ≡ 42) → is_stop b ≡ true
stop_of b (inl sign) = grind (arith, nat_tests)
stop_of b (inr star) = rw star refl

note_stopped : (bytes : List ℕ) (note : Note) → CodeNote bytes note → IsStopped (drop note.to bytes)
note_stopped bytes note (is_line_note fit marked) =
    let rest = drop 2 bytes in
    let n = line_len rest in
    let size : length (take n rest) ≡ n = length-take-le n rest (prefix_len-le-length (λ b. not (is_line_feed b)) rest) in
    let place : drop (2 + length (take n rest)) bytes ≡ drop n rest = ap (λ k. drop (2 + k) bytes) size ∙ sym (drop-drop n 2 bytes) in
    subst IsStopped (sym place) (stopped_line (drop n rest) (run_stops (λ b. not (is_line_feed b)) rest))
note_stopped bytes note (is_block_note k fit closed marked) =
    let rest = drop 2 bytes in
    let closes = closing_place rest k closed in
    let body = take k rest in
    let size : length body ≡ k = length-take-le k rest (omega (arith, closes.within)) in
    let n = length body - suffix_len is_at_sign (drop (prefix_len is_at_sign body) body) in
    let within : n < length rest = omega (arith, size, closes.within) in
    subst IsStopped (drop-drop n 2 bytes) (stopped_at rest n within (stop_of (get_or rest n 0) (kept_byte rest k closes)))

-- ---- the readings

step_spells : (text : List ℕ) (at n : ℕ) (bytes behind : List ℕ) → drop at text ≡ bytes ++ behind → Ends bytes n → drop (at + n) text ≡ drop n bytes ++ behind
step_spells text at n bytes behind spells ends = sym (drop-drop n at text) ∙ ap (drop n) spells ∙ drop-append-le n bytes behind ends.edge.0

filled : (bytes : List ℕ) (n : ℕ) → Ends bytes n → 0 < length bytes
filled bytes n ends = omega (arith, ends.some, ends.edge.0)

note_longest : (text : List ℕ) (file : ℕ) (block : Bool) (behind : List ℕ) → IsUtf8 behind → IsStopped behind → (at : ℕ) (bytes : List ℕ) (before more : List Token)
    → drop at text ≡ bytes ++ behind → NoteWalk text file block at bytes before more → AllLongest text before more
note_longest text file block behind utf8 stopped at bytes before more spells (note_ends _ _) = tt
note_longest text file block behind utf8 stopped at bytes before more spells (note_blank _ n _ _ _ own ends is rest) =
    note_longest text file block behind utf8 stopped (at + n) (drop n bytes) before more (step_spells text at n bytes behind spells ends) rest
note_longest text file block behind utf8 stopped at bytes before more spells (note_lexeme _ n kind _ _ later own ends is rest) =
    let shape = subst (IsNoteShape block (after_represents text before) bytes) is (note_shape block (after_represents text before) bytes) in
    let new = token file true at kind n in (
      longest_here text file at n true kind bytes behind before (record { spells = spells; rest_text = own; behind_text = utf8; stopped = stopped }) (filled bytes n ends) ends shape.taken,
      note_longest text file block behind utf8 stopped (at + n) (drop n bytes) (before ++ new ∷ []) later (step_spells text at n bytes behind spells ends) rest,
    )

-- an annotation's inside, and what stands behind it
inside_spells : (bytes : List ℕ) (note : Note) → NoteEnds bytes note → drop note.from bytes ≡ take (note.to - note.from) (drop note.from bytes) ++ drop note.to bytes
inside_spells bytes note ends =
    let place : note.from + (note.to - note.from) ≡ note.to = omega (arith, ends.order) in
    sym (take-append-drop (note.to - note.from) (drop note.from bytes))
    ∙ ap (λ l. take (note.to - note.from) (drop note.from bytes) ++ l) (drop-drop (note.to - note.from) note.from bytes ∙ ap (λ k. drop k bytes) place)

code_longest : (text : List ℕ) (file : ℕ) (at : ℕ) (bytes : List ℕ) (before more : List Token) → drop at text ≡ bytes → CodeWalk text file at bytes before more → AllLongest text before more
code_longest text file at bytes before more spells (code_ends _ _) = tt
code_longest text file at bytes before more spells (code_blank _ n _ _ _ own ends is rest) =
    code_longest text file (at + n) (drop n bytes) before more (sym (drop-drop n at text) ∙ ap (drop n) spells) rest
code_longest text file at bytes before more spells (code_lexeme _ n kind _ _ later own ends is rest) =
    let shape = subst (IsCodeShape bytes) is (code_shape bytes) in
    let new = token file false at kind n in (
      longest_here text file at n false kind bytes [] before (record { spells = spells ∙ sym (append-nil bytes); rest_text = own; behind_text = IsUtf8-nil; stopped = tt }) (filled bytes n ends) ends shape.taken,
      code_longest text file (at + n) (drop n bytes) (before ++ new ∷ []) later (sym (drop-drop n at text) ∙ ap (drop n) spells) rest,
    )
code_longest text file at bytes before more spells (code_note _ note _ _ noted later own ends is inside rest) =
    let shape = subst (IsCodeShape bytes) is (code_shape bytes) in
    let behind = drop note.to bytes in
    let here : drop (at + note.from) text ≡ take (note.to - note.from) (drop note.from bytes) ++ behind = sym (drop-drop note.from at text) ∙ ap (drop note.from) spells ∙ inside_spells bytes note ends in
    let first = note_longest text file note.block behind (IsUtf8-drop bytes note.to own ends.to) (note_stopped bytes note shape) (at + note.from) (take (note.to - note.from) (drop note.from bytes)) before noted here inside in
    all_longest-append text before noted later first (code_longest text file (at + note.length) (drop note.length bytes) (before ++ noted) later (sym (drop-drop note.length at text) ∙ ap (drop note.length) spells) rest)

-- ---- each token of a file

one_longest : (text : List ℕ) (before others after : List Token) (new : Token) → AllLongest text before (others ++ new ∷ after) → IsLongest text (before ++ others) new
one_longest text before [] after new all = subst (λ l. IsLongest text l new) (sym (append-nil before)) all.0
one_longest text before (other ∷ others) after new all =
    subst (λ l. IsLongest text l new) (append_assoc before (other ∷ []) others) (one_longest text (before ++ other ∷ []) others after new all.1)

pub longest_of_file : (file : ℕ) (text : List ℕ) (tokens before after : List Token) (new : Token) → IsLexed file text tokens → tokens ≡ before ++ new ∷ after → IsLongest text before new
longest_of_file file text tokens before after new lexed whole =
    let walk = code_walk (length text) text file 0 text [] tokens (omega arith) lexed.utf8 lexed.reads in
    let all : AllLongest text [] walk.more = code_longest text file 0 text [] walk.more refl walk.walk in
    one_longest text [] before after new (subst (AllLongest text []) (sym walk.whole ∙ whole) all)
