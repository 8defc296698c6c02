use Rattle.std.proofs.Common.{refl, sym, ◌∙◌, ◌≡◌, [], true, false}
use Rattle.jesc_lexer.specs.Lexemes.{double_signs, single_signs, any_fit}
use Rattle.jesc_lexer.proofs.Signs.{fit_same}
use Rattle.jesc_lexer.proofs.sign.plain_sign_len.Goals as goal

pub returns-then-begins_double : goal.returns-then-begins_double
returns-then-begins_double c =
    let hit : any_fit double_signs c.args.bytes.now ≡ true = sym c.begins_double.ensures ∙ c.if-begins_double.true in
    sym (fit_same 2 double_signs single_signs c.args.bytes.now refl ∙ rw hit refl)

pub returns-then-begins_single : goal.returns-then-begins_single
returns-then-begins_single c =
    let miss : any_fit double_signs c.args.bytes.now ≡ false = sym c.begins_double.ensures ∙ c.if-begins_double.false in
    let hit : any_fit single_signs c.args.bytes.now ≡ true = sym c.begins_single.ensures ∙ c.if-begins_single.true in
    sym (fit_same 2 double_signs single_signs c.args.bytes.now refl ∙ rw miss (fit_same 1 single_signs [] c.args.bytes.now refl ∙ rw hit refl))

pub returns : goal.returns
returns c =
    let miss : any_fit double_signs c.args.bytes.now ≡ false = sym c.begins_double.ensures ∙ c.if-begins_double.false in
    let none : any_fit single_signs c.args.bytes.now ≡ false = sym c.begins_single.ensures ∙ c.if-begins_single.false in
    sym (fit_same 2 double_signs single_signs c.args.bytes.now refl ∙ rw miss (fit_same 1 single_signs [] c.args.bytes.now refl ∙ rw none refl))
