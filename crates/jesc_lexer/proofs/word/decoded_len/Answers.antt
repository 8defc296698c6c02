use Rattle.std.proofs.Common.{sym, ◌∙◌, ap, ◌≡◌, ◌≤◌, ◌+◌, arith, length, drop, Some, subst, true, false}
use Rattle.std.specs.Str.{IsUtf8, chars}
use Rattle.std.specs.Char.{len_utf8}
use Rattle.std.proofs.lemmas.Str.{IsCharBoundary-from_drop, drop_past_char, len_utf8_bounds, IsCharBoundary-past_char}
use Rattle.jesc_lexer.specs.Characters.{first_of, is_word_part}
use Rattle.jesc_lexer.specs.Lexemes.{word_len}
use Rattle.jesc_lexer.proofs.Words.{Past, past_first, word_len_more, word_len_stops, word_len_none}
use Rattle.jesc_lexer.proofs.word.decoded_len.Goals as goal

pub rest_of-requires : goal.rest_of-requires
rest_of-requires c = IsCharBoundary-from_drop c.args.text.now c.loop-c.length c.loop-c.invariant.within c.loop-c.invariant.utf8

pub loop-c-smaller : goal.loop-c-smaller
loop-c-smaller c =
    let text = c.args.text.now in
    let n = c.loop-c.length in
    let first : first_of (chars (drop n text)) ≡ Some c.in-Some.c = ap (λ t. first_of (chars t)) (sym c.rest_of.ensures) ∙ sym c.in-Some.ensures in
    let past : Past (drop n text) c.in-Some.c = past_first (drop n text) c.in-Some.c c.loop-c.invariant.utf8 first in
    let edge = IsCharBoundary-past_char text past.rest n c.in-Some.c c.loop-c.invariant.within c.loop-c.invariant.utf8 past.spelled in
    let some = (len_utf8_bounds c.in-Some.c).0 in
    let within : n + len_utf8 c.in-Some.c ≤ length text = edge.0 in
    omega (arith, c.len_utf8-length.ensures.value, some, within)

pub loop-c-preserved : goal.loop-c-preserved
loop-c-preserved c =
    let text = c.args.text.now in
    let n = c.loop-c.length in
    let size : c.len_utf8-length.result ≡ len_utf8 c.in-Some.c = c.len_utf8-length.ensures.value in
    let first : first_of (chars (drop n text)) ≡ Some c.in-Some.c = ap (λ t. first_of (chars t)) (sym c.rest_of.ensures) ∙ sym c.in-Some.ensures in
    let past : Past (drop n text) c.in-Some.c = past_first (drop n text) c.in-Some.c c.loop-c.invariant.utf8 first in
    let edge = IsCharBoundary-past_char text past.rest n c.in-Some.c c.loop-c.invariant.within c.loop-c.invariant.utf8 past.spelled in
    let after : drop (n + c.len_utf8-length.result) text ≡ past.rest = ap (λ k. drop (n + k) text) size ∙ drop_past_char text past.rest n c.in-Some.c past.spelled in
    let goes : is_word_part c.in-Some.c ≡ true = sym c.is_word_part.ensures ∙ c.if-not-is_word_part.false in
    let counted = word_len_more (drop n text) c.in-Some.c past goes in
    record {
      within = omega (arith, size, edge.0);
      utf8 = subst (λ t. IsUtf8 t) (sym after) past.utf8;
      so_far = ap (λ t. n + c.len_utf8-length.result + word_len t) after ∙ omega (arith, size, counted, c.loop-c.invariant.so_far);
    }

pub returns-then-not-is_word_part : goal.returns-then-not-is_word_part
returns-then-not-is_word_part c =
    let text = c.args.text.now in
    let n = c.loop-c.length in
    let first : first_of (chars (drop n text)) ≡ Some c.in-Some.c = ap (λ t. first_of (chars t)) (sym c.rest_of.ensures) ∙ sym c.in-Some.ensures in
    let stops : is_word_part c.in-Some.c ≡ false = sym c.is_word_part.ensures ∙ c.if-not-is_word_part.true in
    let ended = word_len_stops (drop n text) c.in-Some.c first stops in
    omega (arith, ended, c.loop-c.invariant.so_far)

pub returns-in_default : goal.returns-in_default
returns-in_default c =
    let text = c.args.text.now in
    let n = c.loop-c.length in
    let ended = word_len_none (drop n text) (ap (λ t. first_of (chars t)) (sym c.rest_of.ensures) ∙ sym (c.in_default.ensures)) in
    omega (arith, ended, c.loop-c.invariant.so_far)
