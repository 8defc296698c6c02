-- A parser of expressions with more room answers the same.
use Rattle.std.proofs.Common.{◌≡◌, ℕ, zero, suc, ◌-◌, ◌≤◌, Bool, true, false, List, [], length, Ok, Err, refl, ap, ◌∙◌, arith}
use Rattle.std.specs.Prelude.{if◌then◌else◌, nat_lt, nat_le, ◌&&◌, ◌||◌}
use Rattle.jesc_text.specs.declared.place.Span.{Span}
use Rattle.jesc_ast.specs.declared.word.TypeTree.{TypeTree}
use Rattle.jesc_ast.specs.Lexemes.{Lexeme, join}
use Rattle.jesc_ast.specs.Expressions.{type_tree, span_of}
use Rattle.jesc_ast.specs.Trees.{Receiver, implied, on, name, member}
use Rattle.jesc_jml_grammar.specs.declared.mark.Mark.{Mark}
use Rattle.jesc_jml_grammar.specs.declared.mark.Mark.TheVariants as m
use Rattle.jesc_jml_grammar.specs.declared.fault.Fault.TheVariants.{Unexpected}
use Rattle.jesc_jml_grammar.specs.Steps.{Parser, mark_at, too_deep, refuse, same_mark, ◌>>=◌, expect}
use Rattle.jesc_jml_grammar.specs.Reading as spec
use Rattle.jesc_jml_grammar.specs.Reading.{Parsed, Listed, Start, at_first, behind_name, behind_bracket, opens_at, allows_prefix, casts, grows, is_type_mark, is_quantifier_mark, is_bound_mark, right_of, with_last, nothing, leaf, lone_name, over, word_of}
use Rattle.jesc_jml_grammar.specs.laws.Refining.{Refines, refines_pure, refines_refuse, refines_deep, refines_peek, refines_take_one, refines_bind, refines_if, refines_expect, refines_peek_again, refines_unbounded, refines_long, mark_at-head}

-- where there is room on the left, there is on the right
pub refines_room : (same : Bool) {A : Type 0} (b b' : Bool) (p q : Parser A) → (b ≡ true → b' ≡ true) → (same ≡ true → b ≡ b') → Refines same p q
    → Refines same (if b then p else too_deep) (if b' then q else too_deep)
refines_room same true true p q up eq h = h
refines_room same true false p q up eq h = let no : false ≡ true = up refl in absurd cc
refines_room same false true p q up eq h = record {
  oks = λ ts rest x e. absurd cc;
  errs = λ ts n e. absurd cc;
  deeps = λ s ts n e. let no : false ≡ true = eq s in absurd cc;
}
refines_room same false false p q up eq h = refines_deep same

module _ (same note : Bool) (limit limit' : ℕ) (limits : limit ≤ limit') (room room' : ℕ) (rooms : room ≤ room')
    (same_rooms : same ≡ true → room ≡ room') (less more : ℕ → ℕ → Start → Parser Parsed)
    (h : (n n' : ℕ) → n ≤ n' → (same ≡ true → n ≡ n') → (least : ℕ) (start : Start) → Refines same (less n least start) (more n' least start))
    (k k' : ℕ) (ks : k ≤ k') (same_ks : same ≡ true → k ≡ k') where
  chain : {A B : Type 0} (p q : Parser A) (f g : A → Parser B) → Refines same p q → ((x : A) → Refines same (f x) (g x)) → Refines same (p >>= f) (q >>= g)
  chain = refines_bind same

  here : (least : ℕ) (start : Start) → Refines same (less k least start) (more k' least start)
  here = h k k' ks same_ks

  inside : (least : ℕ) (start : Start) → Refines same (less (k - 1) least start) (more (k' - 1) least start)
  inside = h (k - 1) (k' - 1) (omega arith) (λ s. ap (λ (n : ℕ). n - 1) (same_ks s))

  eat : (mark : Mark) → Refines same (expect note mark) (expect note mark)
  eat = refines_expect same note

  refines_deeper : {A : Type 0} (p q : Parser A) → Refines same p q
      → Refines same (spec.deeper note limit room less k p) (spec.deeper note limit' room' more k' q)
  refines_deeper p q hp = refines_room same (nat_lt 0 room) (nat_lt 0 room') p q (grind arith) (λ s. ap (nat_lt 0) (same_rooms s)) hp

  refines_more_arguments : (n n' : ℕ) → n ≤ n' → (es : Listed)
      → Refines same (spec.more_arguments note limit room less k n es) (spec.more_arguments note limit' room' more k' n' es)
  unfolding spec.more_arguments
  refines_more_arguments zero n' le es = refines_long same _
  refines_more_arguments (suc n) zero le es = absurd (omega arith)
  refines_more_arguments (suc n) (suc n') le es =
      chain _ _ _ _ (refines_peek same note) (λ mark. refines_if same (same_mark mark m.Comma) _ _ _ _
      (chain _ _ _ _ (eat m.Comma) (λ p. chain _ _ _ _ (here 1 at_first) (λ e. refines_more_arguments n n' (omega arith) (with_last es e))))
      (refines_pure same es))

  refines_some_arguments : Refines same (spec.some_arguments note limit room less k) (spec.some_arguments note limit' room' more k')
  unfolding spec.some_arguments
  refines_some_arguments = chain _ _ _ _ (here 1 at_first) (λ e. refines_more_arguments limit limit' limits (with_last nothing e))

  pub refines_arguments : Refines same (spec.arguments note limit room less k) (spec.arguments note limit' room' more k')
  unfolding spec.arguments
  refines_arguments = chain _ _ _ _ (refines_peek same note) (λ mark. refines_if same (same_mark mark m.RightParen) _ _ _ _ (refines_pure same nothing) refines_some_arguments)

  pub refines_called : (first : Span) (r : Receiver) (depth : ℕ) (x : Lexeme)
      → Refines same (spec.called note limit room less k first r depth x) (spec.called note limit' room' more k' first r depth x)
  unfolding spec.called
  refines_called first r depth x = chain _ _ _ _ (eat m.LeftParen) (λ p. chain _ _ _ _ refines_arguments (λ es. chain _ _ _ _ (eat m.RightParen) (λ q. refines_pure same _)))

  pub refines_type_behind : (x : Lexeme) → Refines same (spec.type_behind note limit room less k x) (spec.type_behind note limit' room' more k' x)
  unfolding spec.type_behind
  refines_type_behind x = chain _ _ _ _ (refines_peek same note) (λ mark. refines_if same (same_mark mark m.LeftBracket) _ _ _ _
      (chain _ _ _ _ (eat m.LeftBracket) (λ p. chain _ _ _ _ (eat m.RightBracket) (λ q. refines_pure same (type_tree (join x.span q.span) x.text true))))
      (refines_pure same (type_tree x.span x.text false)))

  refines_type_word : Refines same (spec.type_word note limit room less k) (spec.type_word note limit' room' more k')
  unfolding spec.type_word
  refines_type_word = chain _ _ _ _ (refines_peek same note) (λ mark. refines_if same (is_type_mark mark) _ _ _ _ (refines_take_one same) (refines_refuse same))

  pub refines_type : Refines same (spec.type_ note limit room less k) (spec.type_ note limit' room' more k')
  unfolding spec.type_
  refines_type = chain _ _ _ _ refines_type_word refines_type_behind

  refines_cast_operand : (p : Lexeme) (t : TypeTree) → Refines same (spec.cast_operand note limit room less k p t) (spec.cast_operand note limit' room' more k' p t)
  unfolding spec.cast_operand
  refines_cast_operand p t = chain _ _ _ _ (here 10 at_first) (λ e. refines_pure same _)

  refines_cast_behind : (p x : Lexeme) → Refines same (spec.cast_behind note limit room less k p x) (spec.cast_behind note limit' room' more k' p x)
  unfolding spec.cast_behind
  refines_cast_behind p x = chain _ _ _ _ (refines_type_behind x) (λ t. chain _ _ _ _ (eat m.RightParen) (λ q. refines_cast_operand p t))

  refines_typed_cast : (p : Lexeme) → Refines same (spec.typed_cast note limit room less k p) (spec.typed_cast note limit' room' more k' p)
  unfolding spec.typed_cast
  refines_typed_cast p = chain _ _ _ _ refines_type_word (λ x. refines_cast_behind p x)

  pub refines_grouped : (p : Lexeme) (start : Start) → Refines same (spec.grouped note limit room less k p start) (spec.grouped note limit' room' more k' p start)
  unfolding spec.grouped
  refines_grouped p start = chain _ _ _ _ (here 1 start) (λ e. chain _ _ _ _ (eat m.RightParen) (λ q. refines_pure same _))

  refines_closed_name : (least : ℕ) (p x : Lexeme) → Refines same (spec.closed_name note limit room less k least p x) (spec.closed_name note limit' room' more k' least p x)
  unfolding spec.closed_name
  refines_closed_name least p x = chain _ _ _ _ (eat m.RightParen) (λ q. chain _ _ _ _ (refines_peek same note)
      (λ mark. refines_if same (casts mark && allows_prefix least) _ _ _ _ (refines_cast_operand p (type_tree x.span x.text false)) (refines_pure same (lone_name p x q))))

  refines_array_cast : (p x : Lexeme) → Refines same (spec.array_cast note limit room less k p x) (spec.array_cast note limit' room' more k' p x)
  unfolding spec.array_cast
  refines_array_cast p x = chain _ _ _ _ (eat m.RightBracket) (λ q. chain _ _ _ _ (eat m.RightParen) (λ r. refines_cast_operand p _))

  refines_bracketed_name : (least : ℕ) (p x : Lexeme) → Refines same (spec.bracketed_name note limit room less k least p x) (spec.bracketed_name note limit' room' more k' least p x)
  unfolding spec.bracketed_name
  refines_bracketed_name least p x = chain _ _ _ _ (eat m.LeftBracket) (λ b. chain _ _ _ _ (refines_peek same note)
      (λ mark. refines_if same (same_mark mark m.RightBracket && allows_prefix least) _ _ _ _ (refines_array_cast p x) (refines_grouped p (behind_bracket x b))))

  refines_behind_name : (least : ℕ) (p x : Lexeme) (mark : Mark)
      → Refines same (spec.behind_name_by note limit room less k least p x mark) (spec.behind_name_by note limit' room' more k' least p x mark)
  refines_behind_name least p x m.RightParen = refines_closed_name least p x
  refines_behind_name least p x m.LeftBracket = refines_bracketed_name least p x
  refines_behind_name least p x _ = refines_grouped p (behind_name x)

  refines_named_group : (least : ℕ) (p : Lexeme) → Refines same (spec.named_group note limit room less k least p) (spec.named_group note limit' room' more k' least p)
  unfolding spec.named_group
  refines_named_group least p = chain _ _ _ _ (eat m.Name) (λ x. chain _ _ _ _ (refines_peek same note) (λ mark. refines_behind_name least p x mark))

  refines_quantifier_word : Refines same (spec.quantifier_word note limit room less k) (spec.quantifier_word note limit' room' more k')
  unfolding spec.quantifier_word
  refines_quantifier_word = chain _ _ _ _ (refines_peek same note) (λ mark. refines_if same (is_quantifier_mark mark) _ _ _ _
      (refines_room same (nat_lt 0 k) (nat_lt 0 k') _ _ (grind arith) (λ s. ap (nat_lt 0) (same_ks s)) (chain _ _ _ _ (refines_take_one same) (λ x. refines_pure same (same_mark mark m.Forall))))
      (refines_refuse same))

  refines_bound_sign : Refines same (spec.bound_sign note limit room less k) (spec.bound_sign note limit' room' more k')
  unfolding spec.bound_sign
  refines_bound_sign = chain _ _ _ _ (refines_peek same note) (λ mark. refines_if same (is_bound_mark mark) _ _ _ _
      (chain _ _ _ _ (refines_take_one same) (λ x. refines_pure same (same_mark mark m.Less))) (refines_refuse same))

  refines_same_name : (x : Lexeme) → Refines same (spec.same_name note limit room less k x) (spec.same_name note limit' room' more k' x)
  unfolding spec.same_name
  refines_same_name x = chain _ _ _ _ (refines_peek_again same note x.text) (λ b. refines_if same b _ _ _ _ (refines_take_one same) (refines_refuse same))

  refines_bounds : (x : Lexeme) → Refines same (spec.bounds note limit room less k x) (spec.bounds note limit' room' more k' x)
  unfolding spec.bounds
  refines_bounds x = chain _ _ _ _ (inside 8 at_first) (λ low. chain _ _ _ _ refines_bound_sign (λ b. chain _ _ _ _ (refines_same_name x) (λ y.
      chain _ _ _ _ (eat m.And) (λ a. chain _ _ _ _ (refines_same_name x) (λ z. chain _ _ _ _ refines_bound_sign (λ d.
      chain _ _ _ _ (inside 8 at_first) (λ high. refines_pure same _)))))))

  pub refines_quantified : (p : Lexeme) → Refines same (spec.quantified note limit room less k p) (spec.quantified note limit' room' more k' p)
  unfolding spec.quantified
  refines_quantified p = chain _ _ _ _ refines_quantifier_word (λ all. chain _ _ _ _ (eat m.Int) (λ i. chain _ _ _ _ (eat m.Name) (λ x.
      chain _ _ _ _ (eat m.Semicolon) (λ s. chain _ _ _ _ (refines_bounds x) (λ b. chain _ _ _ _ (eat m.Semicolon) (λ r.
      chain _ _ _ _ (inside 1 at_first) (λ e. chain _ _ _ _ (eat m.RightParen) (λ q. refines_pure same _))))))))

  refines_typed_group : (least : ℕ) (p : Lexeme) → Refines same (spec.typed_group note limit room less k least p) (spec.typed_group note limit' room' more k' least p)
  refines_typed_group least p = refines_if same (allows_prefix least) _ _ _ _ (refines_typed_cast p) (refines_grouped p at_first)

  refines_group_by : (least : ℕ) (p : Lexeme) (mark : Mark)
      → Refines same (spec.group_by note limit room less k least p mark) (spec.group_by note limit' room' more k' least p mark)
  refines_group_by least p m.Forall = refines_quantified p
  refines_group_by least p m.Exists = refines_quantified p
  refines_group_by least p m.Int = refines_typed_group least p
  refines_group_by least p m.Long = refines_typed_group least p
  refines_group_by least p m.Boolean = refines_typed_group least p
  refines_group_by least p m.Name = refines_named_group least p
  refines_group_by least p _ = refines_grouped p at_first

  refines_group : (least : ℕ) → Refines same (spec.group note limit room less k least) (spec.group note limit' room' more k' least)
  unfolding spec.group
  refines_group least = chain _ _ _ _ (eat m.LeftParen) (λ p. chain _ _ _ _ (refines_peek same note) (λ mark. refines_group_by least p mark))

  refines_after_name : (x : Lexeme) → Refines same (spec.after_name note limit room less k x) (spec.after_name note limit' room' more k' x)
  unfolding spec.after_name
  refines_after_name x = chain _ _ _ _ (refines_peek same note) (λ mark. refines_if same (same_mark mark m.LeftParen) _ _ _ _ (refines_called x.span implied 0 x) (refines_pure same (leaf (name x.span x.text))))

  refines_named : Refines same (spec.named note limit room less k) (spec.named note limit' room' more k')
  unfolding spec.named
  refines_named = chain _ _ _ _ (eat m.Name) refines_after_name

  refines_prefixed : Refines same (spec.prefixed note limit room less k) (spec.prefixed note limit' room' more k')
  unfolding spec.prefixed
  refines_prefixed = chain _ _ _ _ (refines_take_one same) (λ op. chain _ _ _ _ (here 10 at_first) (λ e. refines_pure same _))

  refines_sized : (r x : Lexeme) → Refines same (spec.sized note limit room less k r x) (spec.sized note limit' room' more k' r x)
  unfolding spec.sized
  refines_sized r x = chain _ _ _ _ (eat m.LeftBracket) (λ p. chain _ _ _ _ (here 1 at_first) (λ n. chain _ _ _ _ (eat m.RightBracket) (λ q. refines_pure same _)))

  refines_constructed : (r x : Lexeme) → Refines same (spec.constructed note limit room less k r x) (spec.constructed note limit' room' more k' r x)
  unfolding spec.constructed
  refines_constructed r x = chain _ _ _ _ (eat m.LeftParen) (λ p. chain _ _ _ _ refines_arguments (λ es. chain _ _ _ _ (eat m.RightParen) (λ q. refines_pure same _)))

  refines_created_by : (r x : Lexeme) (mark : Mark) → Refines same (spec.created_by note limit room less k r x mark) (spec.created_by note limit' room' more k' r x mark)
  refines_created_by r x m.LeftParen = refines_constructed r x
  refines_created_by r x m.LeftBracket = refines_deeper _ _ (refines_sized r x)
  refines_created_by r x _ = refines_refuse same

  refines_new_of_name : (r : Lexeme) → Refines same (spec.new_of_name note limit room less k r) (spec.new_of_name note limit' room' more k' r)
  unfolding spec.new_of_name
  refines_new_of_name r = chain _ _ _ _ (eat m.Name) (λ x. chain _ _ _ _ (refines_peek same note) (λ mark. refines_created_by r x mark))

  refines_new_of_word : (r : Lexeme) → Refines same (spec.new_of_word note limit room less k r) (spec.new_of_word note limit' room' more k' r)
  unfolding spec.new_of_word
  refines_new_of_word r = chain _ _ _ _ (refines_take_one same) (λ x. refines_sized r x)

  refines_new_by : (r : Lexeme) (mark : Mark) → Refines same (spec.new_by note limit room less k r mark) (spec.new_by note limit' room' more k' r mark)
  refines_new_by r m.Name = refines_new_of_name r
  refines_new_by r m.Int = refines_deeper _ _ (refines_new_of_word r)
  refines_new_by r m.Long = refines_deeper _ _ (refines_new_of_word r)
  refines_new_by r m.Boolean = refines_deeper _ _ (refines_new_of_word r)
  refines_new_by r _ = refines_refuse same

  refines_created : Refines same (spec.created note limit room less k) (spec.created note limit' room' more k')
  unfolding spec.created
  refines_created = chain _ _ _ _ (eat m.New) (λ r. chain _ _ _ _ (refines_peek same note) (λ mark. refines_new_by r mark))

  refines_super_called : Refines same (spec.super_called note limit room less k) (spec.super_called note limit' room' more k')
  unfolding spec.super_called
  refines_super_called = chain _ _ _ _ (eat m.Super) (λ r. chain _ _ _ _ (eat m.Dot) (λ dot. chain _ _ _ _ (eat m.Name) (λ x. refines_called _ _ _ x)))

  refines_old_value : Refines same (spec.old_value note limit room less k) (spec.old_value note limit' room' more k')
  unfolding spec.old_value
  refines_old_value = chain _ _ _ _ (eat m.Old) (λ r. chain _ _ _ _ (eat m.LeftParen) (λ p. chain _ _ _ _ (here 1 at_first) (λ e. chain _ _ _ _ (eat m.RightParen) (λ q. refines_pure same _))))

  refines_fresh_value : Refines same (spec.fresh_value note limit room less k) (spec.fresh_value note limit' room' more k')
  unfolding spec.fresh_value
  refines_fresh_value = chain _ _ _ _ (eat m.Fresh) (λ r. chain _ _ _ _ (eat m.LeftParen) (λ p. chain _ _ _ _ (here 1 at_first) (λ e. chain _ _ _ _ (eat m.RightParen) (λ q. refines_pure same _))))

  refines_nested_by : (least : ℕ) (mark : Mark) → Refines same (spec.nested_by note limit room less k least mark) (spec.nested_by note limit' room' more k' least mark)
  refines_nested_by least m.LeftParen = refines_group least
  refines_nested_by least m.Plus = refines_prefixed
  refines_nested_by least m.Minus = refines_prefixed
  refines_nested_by least m.Not = refines_prefixed
  refines_nested_by least m.Old = refines_old_value
  refines_nested_by least m.Fresh = refines_fresh_value
  refines_nested_by least _ = refines_refuse same

  refines_nested : (least : ℕ) (mark : Mark) → Refines same (spec.nested note limit room less k least mark) (spec.nested note limit' room' more k' least mark)
  refines_nested least mark = refines_deeper _ _ (refines_nested_by least mark)

  refines_nested_prefix : (least : ℕ) (mark : Mark)
      → Refines same (spec.nested_prefix note limit room less k least mark) (spec.nested_prefix note limit' room' more k' least mark)
  refines_nested_prefix least mark = refines_if same (allows_prefix least) _ _ _ _ (refines_nested least mark) (refines_refuse same)

  refines_literal : (mark : Mark) → Refines same (spec.literal note limit room less k mark) (spec.literal note limit' room' more k' mark)
  unfolding spec.literal
  refines_literal mark = chain _ _ _ _ (refines_take_one same) (λ x. refines_pure same _)

  refines_first_by : (least : ℕ) (mark : Mark) → Refines same (spec.first_by note limit room less k least mark) (spec.first_by note limit' room' more k' least mark)
  refines_first_by least m.Number = refines_literal m.Number
  refines_first_by least m.True = refines_literal m.True
  refines_first_by least m.False = refines_literal m.False
  refines_first_by least m.Null = refines_literal m.Null
  refines_first_by least m.This = refines_literal m.This
  refines_first_by least m.Result = refines_literal m.Result
  refines_first_by least m.Name = refines_named
  refines_first_by least m.New = refines_created
  refines_first_by least m.Super = refines_super_called
  refines_first_by least m.LeftParen = refines_nested least m.LeftParen
  refines_first_by least m.Plus = refines_nested_prefix least m.Plus
  refines_first_by least m.Minus = refines_nested_prefix least m.Minus
  refines_first_by least m.Not = refines_nested_prefix least m.Not
  refines_first_by least m.Old = refines_nested least m.Old
  refines_first_by least m.Fresh = refines_nested least m.Fresh
  refines_first_by least _ = refines_refuse same

  refines_first : (least : ℕ) → Refines same (spec.first note limit room less k least) (spec.first note limit' room' more k' least)
  unfolding spec.first
  refines_first least = chain _ _ _ _ (refines_peek same note) (refines_first_by least)

  refines_operated : (a : Parsed) (mark : Mark) → Refines same (spec.operated note limit room less k a mark) (spec.operated note limit' room' more k' a mark)
  unfolding spec.operated
  refines_operated a mark = chain _ _ _ _ (refines_take_one same) (λ op. chain _ _ _ _ (here (right_of mark) at_first) (λ b. refines_pure same _))

  refines_chosen : (a : Parsed) → Refines same (spec.chosen note limit room less k a) (spec.chosen note limit' room' more k' a)
  unfolding spec.chosen
  refines_chosen c = chain _ _ _ _ (eat m.Question) (λ p. chain _ _ _ _ (here 1 at_first) (λ a. chain _ _ _ _ (eat m.Colon) (λ q. chain _ _ _ _ (here 1 at_first) (λ b. refines_pure same _))))

  refines_tested : (a : Parsed) → Refines same (spec.tested note limit room less k a) (spec.tested note limit' room' more k' a)
  unfolding spec.tested
  refines_tested a = chain _ _ _ _ (eat m.InstanceOf) (λ i. chain _ _ _ _ refines_type (λ t. refines_pure same _))

  refines_after_member : (a : Parsed) (dot x : Lexeme) → Refines same (spec.after_member note limit room less k a dot x) (spec.after_member note limit' room' more k' a dot x)
  unfolding spec.after_member
  refines_after_member a dot x = chain _ _ _ _ (refines_peek same note) (λ mark. refines_if same (same_mark mark m.LeftParen) _ _ _ _
      (refines_called (span_of a.tree) (on a.tree dot.span) a.depth x) (refines_pure same (over 12 a (member (join (span_of a.tree) x.span) a.tree dot.span (word_of x)))))

  refines_dotted : (a : Parsed) → Refines same (spec.dotted note limit room less k a) (spec.dotted note limit' room' more k' a)
  unfolding spec.dotted
  refines_dotted a = chain _ _ _ _ (eat m.Dot) (λ dot. chain _ _ _ _ (eat m.Name) (λ x. refines_after_member a dot x))

  refines_indexed_behind : (a : Parsed) (p : Lexeme) → Refines same (spec.indexed_behind note limit room less k a p) (spec.indexed_behind note limit' room' more k' a p)
  unfolding spec.indexed_behind
  refines_indexed_behind a p = chain _ _ _ _ (here 1 at_first) (λ i. chain _ _ _ _ (eat m.RightBracket) (λ q. refines_pure same _))

  refines_indexed : (a : Parsed) → Refines same (spec.indexed note limit room less k a) (spec.indexed note limit' room' more k' a)
  unfolding spec.indexed
  refines_indexed a = chain _ _ _ _ (eat m.LeftBracket) (λ p. refines_indexed_behind a p)

  refines_longer_by : (a : Parsed) (mark : Mark) → Refines same (spec.longer_by note limit room less k a mark) (spec.longer_by note limit' room' more k' a mark)
  refines_longer_by a m.Question = refines_chosen a
  refines_longer_by a m.InstanceOf = refines_tested a
  refines_longer_by a m.Dot = refines_dotted a
  refines_longer_by a m.LeftBracket = refines_indexed a
  refines_longer_by a _ = refines_operated a _

  pub refines_climb : (least n n' : ℕ) → n ≤ n' → (same ≡ true → n ≡ n') → (a : Parsed)
      → Refines same (spec.climb note limit room less k least n a) (spec.climb note limit' room' more k' least n' a)
  unfolding spec.climb
  refines_climb least zero zero le eq a = refines_deep same
  refines_climb least zero (suc n') le eq a = refines_unbounded same _ (λ s. absurd (omega (arith, eq s)))
  refines_climb least (suc n) zero le eq a = absurd (omega arith)
  refines_climb least (suc n) (suc n') le eq a =
      chain _ _ _ _ (refines_peek same note) (λ mark. refines_if same (grows a.strength mark least) _ _ _ _
      (refines_room same (nat_le a.depth room) (nat_le a.depth room') _ _ (grind arith) (λ s. ap (nat_le a.depth) (same_rooms s))
      (chain _ _ _ _ (refines_longer_by a mark) (λ b. refines_climb least n n' (omega arith) (λ s. omega (arith, eq s)) b)))
      (refines_pure same a))

  refines_begun : (least : ℕ) (start : Start) → Refines same (spec.begun note limit room less k least start) (spec.begun note limit' room' more k' least start)
  refines_begun least at_first = chain _ _ _ _ (refines_first least) (λ a. refines_climb least (suc room) (suc room') (omega arith) (λ s. ap (λ (n : ℕ). suc n) (same_rooms s)) a)
  refines_begun least (behind_name x) = chain _ _ _ _ (refines_after_name x) (λ a. refines_climb least (suc room) (suc room') (omega arith) (λ s. ap (λ (n : ℕ). suc n) (same_rooms s)) a)
  refines_begun least (behind_bracket x p) = chain _ _ _ _ (refines_indexed_behind _ p) (λ a. refines_climb least room room' rooms same_rooms a)

shut_false : (b : Bool) → (b || true) ≡ false → ⊥
shut_false true e = cc
shut_false false e = cc

shut_prefix : (note : Bool) (limit room : ℕ) (inner : ℕ → ℕ → Start → Parser Parsed) (k least : ℕ) (mark : Mark) (b : Bool) → (b || false) ≡ false → (ts : List Lexeme)
    → (if b then spec.nested note limit room inner k least mark else refuse) ts ≡ Err (Unexpected (length ts))
shut_prefix note limit room inner k least mark true e ts = absurd cc
shut_prefix note limit room inner k least mark false e ts = refl

-- what can't begin an expression is refused
pub shut : (note : Bool) (limit room : ℕ) (inner : ℕ → ℕ → Start → Parser Parsed) (k least : ℕ) (mark : Mark) → opens_at least mark ≡ false → (ts : List Lexeme)
    → spec.first_by note limit room inner k least mark ts ≡ Err (Unexpected (length ts))
shut note limit room inner k least m.Name e ts = absurd (shut_false (allows_prefix least) e)
shut note limit room inner k least m.Number e ts = absurd (shut_false (allows_prefix least) e)
shut note limit room inner k least m.True e ts = absurd (shut_false (allows_prefix least) e)
shut note limit room inner k least m.False e ts = absurd (shut_false (allows_prefix least) e)
shut note limit room inner k least m.Null e ts = absurd (shut_false (allows_prefix least) e)
shut note limit room inner k least m.This e ts = absurd (shut_false (allows_prefix least) e)
shut note limit room inner k least m.New e ts = absurd (shut_false (allows_prefix least) e)
shut note limit room inner k least m.Super e ts = absurd (shut_false (allows_prefix least) e)
shut note limit room inner k least m.Result e ts = absurd (shut_false (allows_prefix least) e)
shut note limit room inner k least m.Old e ts = absurd (shut_false (allows_prefix least) e)
shut note limit room inner k least m.Fresh e ts = absurd (shut_false (allows_prefix least) e)
shut note limit room inner k least m.LeftParen e ts = absurd (shut_false (allows_prefix least) e)
shut note limit room inner k least m.Plus e ts = shut_prefix note limit room inner k least m.Plus (allows_prefix least) e ts
shut note limit room inner k least m.Minus e ts = shut_prefix note limit room inner k least m.Minus (allows_prefix least) e ts
shut note limit room inner k least m.Not e ts = shut_prefix note limit room inner k least m.Not (allows_prefix least) e ts
shut note limit room inner k least _ e ts = refl

stopped : (b : Bool) (ts : List Lexeme) (n : ℕ) → (if b then too_deep {A = Parsed} else refuse) ts ≡ Err (Unexpected n) → (b ≡ false) × (n ≡ length ts)
stopped true ts n e = absurd cc
stopped false ts n e = (refl, cc)

not_done : (b : Bool) (ts rest : List Lexeme) (x : Parsed) → (if b then too_deep {A = Parsed} else refuse) ts ≡ Ok (x, rest) → ⊥
not_done true ts rest x e = cc
not_done false ts rest x e = cc

refines_no_room : (same note : Bool) (limit room : ℕ) (inner : ℕ → ℕ → Start → Parser Parsed) (k least : ℕ) → (same ≡ true → ⊥)
    → Refines same (spec.no_room note least) (spec.begun note limit room inner k least at_first)
unfolding spec.no_room spec.first
refines_no_room same note limit room inner k least other = record {
  oks = λ ts rest x e. absurd (not_done (opens_at least (mark_at note ts)) ts rest x e);
  errs = λ ts n e.
      let at = stopped (opens_at least (mark_at note ts)) ts n e in
      record {
        taken = [];
        rest = ts;
        parts = refl;
        left = at.1;
        again = λ more next.
            let closed : opens_at least (mark_at note more) ≡ false = ap (opens_at least) (mark_at-head note ts more next) ∙ at.0 in
            rw (shut note limit room inner k least (mark_at note more) closed more) refl;
      };
  deeps = λ s ts n e. absurd (other s);
}

-- more room, the same answer
pub refines_expr : (same note : Bool) (limit limit' : ℕ) → limit ≤ limit' → (room room' : ℕ) → room ≤ room' → (same ≡ true → room ≡ room')
    → (k k' : ℕ) → k ≤ k' → (same ≡ true → k ≡ k') → (least : ℕ) (start : Start) → Refines same (spec.expr note limit room k least start) (spec.expr note limit' room' k' least start)
unfolding spec.expr spec.no_room
refines_expr same note limit limit' limits zero zero rooms sr k k' ks sk least (behind_name x) = refines_deep same
refines_expr same note limit limit' limits zero zero rooms sr k k' ks sk least (behind_bracket x p) = refines_deep same
refines_expr same note limit limit' limits zero zero rooms sr k k' ks sk least at_first =
    refines_bind same _ _ _ _ (refines_peek same note) (λ mark. refines_if same (opens_at least mark) _ _ _ _ (refines_deep same) (refines_refuse same))
refines_expr same note limit limit' limits zero (suc room') rooms sr k k' ks sk least at_first =
    refines_no_room same note limit' room' (spec.expr note limit' room') k' least (λ s. absurd (omega (arith, sr s)))
refines_expr same note limit limit' limits zero (suc room') rooms sr k k' ks sk least (behind_name x) = refines_unbounded same _ (λ s. absurd (omega (arith, sr s)))
refines_expr same note limit limit' limits zero (suc room') rooms sr k k' ks sk least (behind_bracket x p) = refines_unbounded same _ (λ s. absurd (omega (arith, sr s)))
refines_expr same note limit limit' limits (suc room) zero rooms sr k k' ks sk least start = absurd (omega arith)
refines_expr same note limit limit' limits (suc room) (suc room') rooms sr k k' ks sk least start =
    refines_begun same note limit limit' limits room room' (omega arith) (λ s. omega (arith, sr s)) (spec.expr note limit room) (spec.expr note limit' room')
    (λ n n' le eq. refines_expr same note limit limit' limits room room' (omega arith) (λ s. omega (arith, sr s)) n n' le eq) k k' ks sk least start

-- what no expression begins with is refused, however much room there is
pub shut_expr : (note : Bool) (limit room k least : ℕ) (ts : List Lexeme) → opens_at least (mark_at note ts) ≡ false
    → spec.expr note limit room k least at_first ts ≡ Err (Unexpected (length ts))
unfolding spec.expr spec.no_room spec.first
shut_expr note limit zero k least ts e = rw e refl
shut_expr note limit (suc room) k least ts e = rw (shut note limit room (spec.expr note limit room) k least (mark_at note ts) e ts) refl
