-- Each node of a tree has a lexeme of its own.
use Rattle.std.proofs.Common.{ℕ, Bool, ◌≤◌, List, length, arith}
use Rattle.std.proofs.lemmas.List.{length-append}
use Rattle.jesc_ast.specs.Lexemes.{Lexeme}
use Rattle.jesc_ast.specs.Trees.{Expression, Expressions}
use Rattle.jesc_ast.specs.Depth.{depth, greatest_depth}
use Rattle.jesc_ast.specs.Expressions.{Spells, is_number, is_true, is_false, is_null, is_this, is_outcome, is_plain_name, is_paren, is_member, is_index, is_unary, is_binary, is_choose, is_cast, is_instance_of, is_own_call, is_super_call, is_call, is_new_object, is_new_array, is_old, is_fresh, is_quantifier, SpellsArguments, no_arguments, some_arguments, SpellsMore, no_more, one_more}

mutual
  pub depth_below : (note : Bool) (k : ℕ) (e : Expression) (u : List Lexeme) → Spells note k e u → depth e ≤ length u
  depth_below note _ _ _ (is_number s x) = omega arith
  depth_below note _ _ _ (is_true s) = omega arith
  depth_below note _ _ _ (is_false s) = omega arith
  depth_below note _ _ _ (is_null s) = omega arith
  depth_below note _ _ _ (is_this s) = omega arith
  depth_below note _ _ _ (is_outcome side s) = omega arith
  depth_below note _ _ _ (is_plain_name s x named) = omega arith
  depth_below note _ _ _ (is_paren p q n e u a) = omega (arith, length-append {A = Lexeme}, depth_below note n e u a)
  depth_below note _ _ _ (is_member n e u dot s x a le named) = omega (arith, length-append {A = Lexeme}, depth_below note n e u a)
  depth_below note _ _ _ (is_index n m e i u v p q a le b) = omega (arith, length-append {A = Lexeme}, depth_below note n e u a, depth_below note m i v b)
  depth_below note _ _ _ (is_unary op s n e u prefix a le) = omega (arith, depth_below note n e u a)
  depth_below note _ _ _ (is_binary op s k l r m n a b u v operator left less right more) =
      omega (arith, length-append {A = Lexeme}, depth_below note m a u left, depth_below note n b v right)
  depth_below note _ _ _ (is_choose p q k m n c a b t u v test le left right) =
      omega (arith, length-append {A = Lexeme}, depth_below note k c t test, depth_below note m a u left, depth_below note n b v right)
  depth_below note _ _ _ (is_cast p q t n e u v type_is a le before) = omega (arith, length-append {A = Lexeme}, depth_below note n e v a)
  depth_below note _ _ _ (is_instance_of s n e t u v a le type_is) = omega (arith, length-append {A = Lexeme}, depth_below note n e u a)
  depth_below note _ _ _ (is_own_call s p q x es u named all) = omega (arith, length-append {A = Lexeme}, greatest_below note es u all)
  depth_below note _ _ _ (is_super_call r dot s p q x es u named all) = omega (arith, length-append {A = Lexeme}, greatest_below note es u all)
  depth_below note _ _ _ (is_call n e dot s p q x es u v a le named all) =
      omega (arith, length-append {A = Lexeme}, depth_below note n e u a, greatest_below note es v all)
  depth_below note _ _ _ (is_new_object r s p q x es u named all) = omega (arith, length-append {A = Lexeme}, greatest_below note es u all)
  depth_below note _ _ _ (is_new_array r s p q x n e u typed a) = omega (arith, length-append {A = Lexeme}, depth_below note n e u a)
  depth_below note _ _ _ (is_old side r p q n e u a) = omega (arith, length-append {A = Lexeme}, depth_below note n e u a)
  depth_below note _ _ _ (is_fresh side r p q n e u a) = omega (arith, length-append {A = Lexeme}, depth_below note n e u a)
  depth_below note _ _ _ (is_quantifier side p f i s p1 p2 s2 p3 s3 p4 p5 q all low_strict high_strict w x c d l m n low high e t u v word named a le first second b more inside) =
      omega (arith, length-append {A = Lexeme}, depth_below note l low t a, depth_below note m high u b, depth_below note n e v inside)

  pub greatest_below : (note : Bool) (es : Expressions) (u : List Lexeme) → SpellsArguments note es u → greatest_depth es ≤ length u
  greatest_below note _ _ no_arguments = omega arith
  greatest_below note _ _ (some_arguments n e es u v a more) =
      omega (arith, length-append {A = Lexeme}, depth_below note n e u a, others_below note es v more)

  pub others_below : (note : Bool) (es : Expressions) (u : List Lexeme) → SpellsMore note es u → greatest_depth es ≤ length u
  others_below note _ _ no_more = omega arith
  others_below note _ _ (one_more s n e es u v a more) =
      omega (arith, length-append {A = Lexeme}, depth_below note n e u a, others_below note es v more)
