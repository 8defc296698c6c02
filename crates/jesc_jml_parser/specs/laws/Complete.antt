-- The reader reads each expression that the grammar has, where there is room for it.
use Rattle.std.proofs.Common.{◌≡◌, ℕ, ◌≤◌, ◌<◌, Bool, false, List, ◌++◌, length, length-append, Ok, arith}
use Rattle.jesc_ast.specs.Lexemes.{Lexeme}
use Rattle.jesc_ast.specs.Trees.{Expression, Expressions}
use Rattle.jesc_ast.specs.Expressions.{Spells, is_number, is_true, is_false, is_null, is_this, is_outcome, is_plain_name, is_paren, is_member, is_index, is_unary, is_binary, is_choose, is_cast, is_instance_of, is_own_call, is_super_call, is_call, is_new_object, is_new_array, is_old, is_fresh, is_quantifier, SpellsArguments, no_arguments, some_arguments, SpellsMore, no_more, one_more}
use Rattle.jesc_ast.specs.Depth.{depth, nesting}
use Rattle.jesc_jml_grammar.specs.Steps.{mark_at}
use Rattle.jesc_jml_grammar.specs.Reading.{at_first, expr}
use Rattle.jesc_jml_parser.specs.laws.Edges.{goes_on}
use Rattle.jesc_jml_parser.specs.laws.CompleteSteps.{IsRead, Climbs, read_whole}
use Rattle.jesc_jml_parser.specs.laws.CompleteArguments.{IsReadAsArguments, IsReadAsMore, no_more_read, one_more_read, no_arguments_read, some_arguments_read}
use Rattle.jesc_jml_parser.specs.laws.CompleteLonger.{binary_climbs, choose_climbs, instance_climbs, member_climbs, index_climbs, call_climbs}
use Rattle.jesc_jml_parser.specs.laws.CompleteLeaves.{number_climbs, true_climbs, false_climbs, null_climbs, this_climbs, outcome_climbs, name_climbs, own_call_climbs, super_call_climbs, unary_climbs, old_climbs, fresh_climbs, object_climbs, array_climbs}
use Rattle.jesc_jml_parser.specs.laws.CompleteQuantifiers.{quantifier_climbs}
use Rattle.jesc_jml_parser.specs.laws.CompleteGroups.{paren_climbs, cast_climbs}

module _ (note : Bool) (limit : ℕ) where
  whole : {k : ℕ} {e : Expression} {u : List Lexeme} → Spells note k e u → Climbs note limit k e u → IsRead note limit k e u
  whole = read_whole note limit

  mutual
    pub climbs : {k : ℕ} {e : Expression} {u : List Lexeme} → Spells note k e u → length u ≤ limit → Climbs note limit k e u
    climbs (is_number s x) le = number_climbs note limit s x
    climbs (is_true s) le = true_climbs note limit s
    climbs (is_false s) le = false_climbs note limit s
    climbs (is_null s) le = null_climbs note limit s
    climbs (is_this s) le = this_climbs note limit s
    climbs (is_outcome t s) le = outcome_climbs note limit t s
    climbs (is_plain_name s x t) le = name_climbs note limit s x t
    climbs (is_paren p q n e u h) le = paren_climbs note limit p q n e u h (whole h (climbs h (omega (arith, length-append {A = Lexeme}))))
    climbs (is_member n e u dot s x h strong t) le = member_climbs note limit n e u dot s x h strong (climbs h (omega (arith, length-append {A = Lexeme}))) t
    climbs (is_index n m e i u v p q h strong hi) le = index_climbs note limit n m e i u v p q h strong (climbs h (omega (arith, length-append {A = Lexeme}))) hi (whole hi (climbs hi (omega (arith, length-append {A = Lexeme}))))
    climbs (is_unary op s n e u is h strong) le = unary_climbs note limit op s n e u is strong (whole h (climbs h (omega (arith, length-append {A = Lexeme}))))
    climbs (is_binary op s k l r m n a b u v is ha la hb lb) le = binary_climbs note limit op s k l r m n a b u v is ha la (climbs ha (omega (arith, length-append {A = Lexeme}))) (whole hb (climbs hb (omega (arith, length-append {A = Lexeme})))) lb
    climbs (is_choose p q k m n c a b t u v hc lc ha hb) le = choose_climbs note limit p q k m n c a b t u v hc lc (climbs hc (omega (arith, length-append {A = Lexeme}))) ha (whole ha (climbs ha (omega (arith, length-append {A = Lexeme})))) hb (whole hb (climbs hb (omega (arith, length-append {A = Lexeme}))))
    climbs (is_cast p q t n e u v ht h strong before) le = cast_climbs note limit p q t n e u v ht h strong before (whole h (climbs h (omega (arith, length-append {A = Lexeme}))))
    climbs (is_instance_of s n e t u v h strong ht) le = instance_climbs note limit s n e t u v h strong (climbs h (omega (arith, length-append {A = Lexeme}))) ht
    climbs (is_own_call s p q x es u t h) le = own_call_climbs note limit s p q x es u t (arguments h (omega (arith, length-append {A = Lexeme})))
    climbs (is_super_call r dot s p q x es u t h) le = super_call_climbs note limit r dot s p q x es u t (arguments h (omega (arith, length-append {A = Lexeme})))
    climbs (is_call n e dot s p q x es u v h strong t hs) le = call_climbs note limit n e dot s p q x es u v h strong (climbs h (omega (arith, length-append {A = Lexeme}))) t (arguments hs (omega (arith, length-append {A = Lexeme})))
    climbs (is_new_object r s p q x es u t h) le = object_climbs note limit r s p q x es u t (arguments h (omega (arith, length-append {A = Lexeme})))
    climbs (is_new_array r s p q x n e u t h) le = array_climbs note limit r s p q x n e u t h (whole h (climbs h (omega (arith, length-append {A = Lexeme}))))
    climbs (is_old t r p q n e u h) le = old_climbs note limit t r p q n e u h (whole h (climbs h (omega (arith, length-append {A = Lexeme}))))
    climbs (is_fresh t r p q n e u h) le = fresh_climbs note limit t r p q n e u h (whole h (climbs h (omega (arith, length-append {A = Lexeme}))))
    climbs (is_quantifier side p f i s p1 p2 s2 p3 s3 p4 p5 q all low_strict high_strict w x c d l m n low high e t u v is is_named hl ll is_low is_high hh lh he) le =
        quantifier_climbs note limit side p f i s p1 p2 s2 p3 s3 p4 p5 q all low_strict high_strict w x c d l m n low high e t u v is is_named hl ll
        (whole hl (climbs hl (omega (arith, length-append {A = Lexeme})))) is_low is_high hh lh (whole hh (climbs hh (omega (arith, length-append {A = Lexeme})))) he (whole he (climbs he (omega (arith, length-append {A = Lexeme}))))

    arguments : {es : Expressions} {u : List Lexeme} → SpellsArguments note es u → length u < limit → IsReadAsArguments note limit es u
    arguments no_arguments le = no_arguments_read note limit
    arguments (some_arguments n e es u v he hes) le = some_arguments_read note limit n e es u v he hes (omega (arith, length-append {A = Lexeme})) (whole he (climbs he (omega (arith, length-append {A = Lexeme})))) (more hes (omega (arith, length-append {A = Lexeme})))

    more : {es : Expressions} {u : List Lexeme} → SpellsMore note es u → length u ≤ limit → IsReadAsMore note limit es u
    more no_more le = no_more_read note limit
    more (one_more s n e es u v he hes) le = one_more_read note limit n e es s u v he hes (whole he (climbs he (omega (arith, length-append {A = Lexeme})))) (more hes (omega (arith, length-append {A = Lexeme})))

-- The lexemes of an expression are read as this expression, and nothing behind them, where what stands behind does not go on
-- with it. Where only what binds as tightly as an index may go on, no member is read: so `least` is 11 at most.
pub expr_complete : (note : Bool) (limit room quantifiers least k : ℕ) (e : Expression) (u rest : List Lexeme) → Spells note k e u → least ≤ k → least ≤ 11
    → depth e ≤ room → nesting e ≤ quantifiers → length u ≤ limit → goes_on least e (mark_at note rest) ≡ false
    → expr note limit room quantifiers least at_first (u ++ rest) ≡ Ok (record { tree = e; depth = depth e; strength = k }, rest)
expr_complete note limit room quantifiers least k e u rest spelled le low deep nests short stops =
    (whole note limit spelled (climbs note limit spelled short)).is room quantifiers least rest le low deep nests stops

-- the same of arguments before a closing parenthesis
pub arguments_complete : (note : Bool) (limit : ℕ) {es : Expressions} {u : List Lexeme} → SpellsArguments note es u → length u < limit → IsReadAsArguments note limit es u
arguments_complete note limit h short = arguments note limit h short
