-- The texts of the lexemes that spell an expression are those of the expression's tokens.
use Rattle.std.proofs.Common.{◌≡◌, ℕ, Bool, List, [], ◌∷◌, ◌++◌, refl, sym, ap, ◌∙◌, append_assoc}
use Rattle.std.specs.Prelude.{if◌then◌else◌}
use Rattle.std.proofs.lemmas.List.{map-append}
use Rattle.jesc_ast.specs.declared.word.TypeTree.{TypeTree}
use Rattle.jesc_ast.specs.Lexemes.{Lexeme}
use Rattle.jesc_ast.specs.Trees.{Expression, Expressions}
use Rattle.jesc_ast.specs.Expressions.{SpellsType, is_plain_type, is_array_type, IsBound, is_strict, is_weak, IsQuantifier, is_forall, is_exists, Spells, is_number, is_true, is_false, is_null, is_this, is_outcome, is_plain_name, is_paren, is_member, is_index, is_unary, is_binary, is_choose, is_cast, is_instance_of, is_own_call, is_super_call, is_call, is_new_object, is_new_array, is_old, is_fresh, is_quantifier, SpellsArguments, no_arguments, some_arguments, SpellsMore, no_more, one_more, SpellsExpression}
use Rattle.jesc_ast.specs.Spelled.{Spelled, text_of, texts, fixed, given, spell_type, spell, spell_arguments, spell_more}

-- the texts of lexemes one behind the other
pub joined : (u v : List Lexeme) (a b : List Spelled) → texts u ≡ a → texts v ≡ b → texts (u ++ v) ≡ a ++ b
joined u v a b first second = map-append text_of u v ∙ ap (λ l. l ++ texts v) first ∙ ap (λ l. a ++ l) second

-- behind one more
pub behind : (x : Spelled) (a b : List Spelled) → a ≡ b → x ∷ a ≡ x ∷ b
behind x a b same = ap (λ l. x ∷ l) same

-- behind one that is another's text
pub headed : (x y : Spelled) (a b : List Spelled) → x ≡ y → a ≡ b → x ∷ a ≡ y ∷ b
headed x y a b first rest = ap (λ z. z ∷ a) first ∙ ap (λ l. y ∷ l) rest

pub type_spelled : (note : Bool) (t : TypeTree) (u : List Lexeme) → SpellsType note t u → texts u ≡ spell_type note t
type_spelled note t u (is_plain_type s x word) = refl
type_spelled note t u (is_array_type s p q x word) = refl

bound_text : (note : Bool) (w : List ℕ) (strict : Bool) → IsBound w strict → given note w ≡ (if strict then fixed note "<" else fixed note "<=")
bound_text note w strict is_strict = refl
bound_text note w strict is_weak = refl

quantifier_text : (note : Bool) (w : List ℕ) (all : Bool) → IsQuantifier w all → given note w ≡ (if all then fixed note "\\forall" else fixed note "\\exists")
quantifier_text note w all is_forall = refl
quantifier_text note w all is_exists = refl

mutual
  pub spelled : (note : Bool) (n : ℕ) (e : Expression) (u : List Lexeme) → Spells note n e u → texts u ≡ spell note e
  spelled note n e u (is_number s x) = refl
  spelled note n e u (is_true s) = refl
  spelled note n e u (is_false s) = refl
  spelled note n e u (is_null s) = refl
  spelled note n e u (is_this s) = refl
  spelled note n e u (is_outcome noted s) = refl
  spelled note n e u (is_plain_name s x name) = refl
  spelled note n e u (is_paren p q m f v inner) = behind _ _ _ (joined v _ _ _ (spelled note m f v inner) refl)
  spelled note n e u (is_member m f v dot s x base le name) = joined v _ _ _ (spelled note m f v base) refl
  spelled note n e u (is_index m k f i v w p q base le inner) = joined v _ _ _ (spelled note m f v base) (behind _ _ _ (joined w _ _ _ (spelled note k i w inner) refl))
  spelled note n e u (is_unary op s m f v prefix inner le) = behind _ _ _ (spelled note m f v inner)
  spelled note n e u (is_binary op s k l r m o a b v w operator left le right ge) = joined v _ _ _ (spelled note m a v left) (behind _ _ _ (spelled note o b w right))
  spelled note n e u (is_choose p q k m o c a b t v w test le first second) =
      joined t _ _ _ (spelled note k c t test) (behind _ _ _ (joined v _ _ _ (spelled note m a v first) (behind _ _ _ (spelled note o b w second))))
  spelled note n e u (is_cast p q t m f v w type inner le cast) = behind _ _ _ (joined v _ _ _ (type_spelled note t v type) (behind _ _ _ (spelled note m f w inner)))
  spelled note n e u (is_instance_of s m f t v w inner le type) = joined v _ _ _ (spelled note m f v inner) (behind _ _ _ (type_spelled note t w type))
  spelled note n e u (is_own_call s p q x es v name args) = behind _ _ _ (behind _ _ _ (joined v _ _ _ (arguments_spelled note es v args) refl))
  spelled note n e u (is_super_call r dot s p q x es v name args) =
      behind _ _ _ (behind _ _ _ (behind _ _ _ (behind _ _ _ (joined v _ _ _ (arguments_spelled note es v args) refl))))
  spelled note n e u (is_call m f dot s p q x es v w base le name args) =
      joined v _ _ _ (spelled note m f v base) (behind _ _ _ (behind _ _ _ (behind _ _ _ (joined w _ _ _ (arguments_spelled note es w args) refl))))
      ∙ sym (append_assoc (spell note f) (fixed note "." ∷ []) _)
  spelled note n e u (is_new_object r s p q x es v name args) = behind _ _ _ (behind _ _ _ (behind _ _ _ (joined v _ _ _ (arguments_spelled note es v args) refl)))
  spelled note n e u (is_new_array r s p q x m f v word inner) = behind _ _ _ (behind _ _ _ (behind _ _ _ (joined v _ _ _ (spelled note m f v inner) refl)))
  spelled note n e u (is_old noted r p q m f v inner) = behind _ _ _ (behind _ _ _ (joined v _ _ _ (spelled note m f v inner) refl))
  spelled note n e u (is_fresh noted r p q m f v inner) = behind _ _ _ (behind _ _ _ (joined v _ _ _ (spelled note m f v inner) refl))
  spelled note n e u (is_quantifier noted p f i s p1 p2 s2 p3 s3 p4 p5 q all low_strict high_strict w x c d l m o low high body t v z quantifier name first le below above second ge inner) =
      behind _ _ _ (headed _ _ _ _ (quantifier_text note w all quantifier) (behind _ _ _ (behind _ _ _ (behind _ _ _
      (joined t _ _ _ (spelled note l low t first) (headed _ _ _ _ (bound_text note c low_strict below) (behind _ _ _ (behind _ _ _ (behind _ _ _ (headed _ _ _ _ (bound_text note d high_strict above)
      (joined v _ _ _ (spelled note m high v second) (behind _ _ _ (joined z _ _ _ (spelled note o body z inner) refl)))))))))))))

  pub arguments_spelled : (note : Bool) (es : Expressions) (u : List Lexeme) → SpellsArguments note es u → texts u ≡ spell_arguments note es
  arguments_spelled note es u no_arguments = refl
  arguments_spelled note es u (some_arguments n e fs v w first rest) = joined v w _ _ (spelled note n e v first) (more_spelled note fs w rest)

  pub more_spelled : (note : Bool) (es : Expressions) (u : List Lexeme) → SpellsMore note es u → texts u ≡ spell_more note es
  more_spelled note es u no_more = refl
  more_spelled note es u (one_more s n e fs v w first rest) = behind _ _ _ (joined v w _ _ (spelled note n e v first) (more_spelled note fs w rest))

pub expression_spelled : (note : Bool) (e : Expression) (u : List Lexeme) → SpellsExpression note e u → texts u ≡ spell note e
expression_spelled note e u spells = spelled note spells.0 e u spells.1
