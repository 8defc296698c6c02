-- A parser that is short of room or turns has taken many lexemes.
use Rattle.std.proofs.Common.{◌≡◌, ◌⊎◌, ℕ, zero, suc, ◌+◌, ◌-◌, ◌≤◌, ◌<◌, Bool, true, false, ◌&&◌, if◌then◌else◌, nat_lt, nat_le, List, length, drop, Ok, Err, sym, ap, subst, arith, inl, inr}
use Rattle.std.proofs.lemmas.List.{length-append}
use Rattle.std.proofs.lemmas.Bool.{ltb-false, leb-false}
use Rattle.jesc_text.specs.declared.place.Span.{Span}
use Rattle.jesc_ast.specs.declared.word.TypeTree.{TypeTree}
use Rattle.jesc_ast.specs.Lexemes.{Lexeme, join}
use Rattle.jesc_ast.specs.Trees.{Receiver, implied, super, on, name, member, paren, cast, unary, binary, choose, index, instance_of, new_array, old, fresh}
use Rattle.jesc_ast.specs.Expressions.{span_of, type_tree}
use Rattle.jesc_jml_grammar.specs.declared.mark.Mark.{Mark}
use Rattle.jesc_jml_grammar.specs.declared.mark.Mark.TheVariants as m
use Rattle.jesc_jml_grammar.specs.declared.fault.Fault.TheVariants.{Deep, Long}
use Rattle.jesc_jml_grammar.specs.Steps.{Outcome, Parser, and_then, refuse, too_deep, mark_at, same_mark, take_one, expect, is_name_again}
use Rattle.jesc_jml_grammar.specs.Reading as spec
use Rattle.jesc_jml_grammar.specs.Reading.{Parsed, Listed, Bounds, Start, at_first, behind_name, behind_bracket, opens_at, allows_prefix, binds, casts, grows, is_type_mark, is_quantifier_mark, is_bound_mark, right_of, with_last, nothing, leaf, word_of, over, over_two, over_three, lone_name, expr}
use Rattle.jesc_jml_parser.specs.laws.Places.{split_at}
use Rattle.jesc_jml_parser.specs.laws.Spending.{DeepAt, Spent, spent_bind, spent_if, spent_pure, spent_deep, spent_one, spent_expect, spent_shift}

-- the lexemes that were taken before
abbrev pub started : Start → ℕ
started at_first = 0
started (behind_name x) = 1
started (behind_bracket x p) = 2

-- a tree is no deeper than its lexemes are many
abbrev pub Shallow : ℕ → Parsed → Type 0
Shallow c p = p.depth ≤ c

module _ (note : Bool) (limit room : ℕ) (inner : ℕ → ℕ → Start → Parser Parsed)
    (h : (quantifiers least : ℕ) (start : Start) (ts : List Lexeme) → Spent note limit (room - 1) Shallow (started start) ts (inner quantifiers least start ts)) (k : ℕ) where
  abbrev S : {A : Type 0} → (ℕ → A → Type 0) → ℕ → List Lexeme → Outcome A → Type 0
  S = Spent note limit room

  -- a chain of parsers, by what the first one takes
  after : {A B : Type 0} (P : ℕ → A → Type 0) (f : A → Parser B) (Q : ℕ → B → Type 0) (c : ℕ) (ts : List Lexeme) (r : Outcome A) → S P c ts r
      → ((x : A) (mid : List Lexeme) (c' : ℕ) → P c' x → S Q c' mid (f x mid)) → S Q c ts (and_then r f)
  after P f Q c ts r first next = spent_bind note limit room f Q c ts r first next

  after_one : {B : Type 0} (f : Lexeme → Parser B) (Q : ℕ → B → Type 0) (c : ℕ) (ts : List Lexeme)
      → ((x : Lexeme) (mid : List Lexeme) (c' : ℕ) → c' ≡ c + 1 → S Q c' mid (f x mid)) → S Q c ts (and_then (take_one ts) f)
  after_one f Q c ts next = after (λ c' x. c' ≡ c + 1) f Q c ts (take_one ts) (spent_one note limit room c ts) next

  after_mark : {B : Type 0} (mark : Mark) (f : Lexeme → Parser B) (Q : ℕ → B → Type 0) (c : ℕ) (ts : List Lexeme)
      → ((x : Lexeme) (mid : List Lexeme) (c' : ℕ) → c' ≡ c + 1 → S Q c' mid (f x mid)) → S Q c ts (and_then (expect note mark ts) f)
  after_mark mark f Q c ts next = after (λ c' x. c' ≡ c + 1) f Q c ts (expect note mark ts) (spent_expect note limit room mark c ts) next

  after_tree : {B : Type 0} (quantifiers least : ℕ) (start : Start) (f : Parsed → Parser B) (Q : ℕ → B → Type 0) (c : ℕ) → suc (started start) ≤ c → (ts : List Lexeme)
      → ((e : Parsed) (mid : List Lexeme) (c' : ℕ) → e.depth + c ≤ c' + started start → c ≤ c' + started start → S Q c' mid (f e mid))
      → S Q c ts (and_then (inner quantifiers least start ts) f)
  after_tree quantifiers least start f Q c le ts next =
      after (λ c' e. e.depth + c ≤ c' + started start) f Q c ts (inner quantifiers least start ts)
      (spent_shift note limit (room - 1) room Shallow (λ c' e. e.depth + c ≤ c' + started start) (started start) c ts (omega arith) (omega arith) (λ t x holds. omega arith)
      (inner quantifiers least start ts) (h quantifiers least start ts))
      (λ e mid c' low. next e mid c' low (omega arith))

  done : {A : Type 0} (P : ℕ → A → Type 0) (c : ℕ) (x : A) (ts : List Lexeme) → P c x → S P c ts (Ok (x, ts))
  done = spent_pure note limit room

  either : {A : Type 0} (P : ℕ → A → Type 0) (c : ℕ) (b : Bool) (p q : Parser A) (ts : List Lexeme) → S P c ts (p ts) → S P c ts (q ts) → S P c ts ((if b then p else q) ts)
  either P c b p q ts first second = spent_if note limit room P c b p q ts (λ is. first) (λ is. second)

  spent_deeper : {A : Type 0} (P : ℕ → A → Type 0) (c : ℕ) (p : Parser A) (ts : List Lexeme) → S P c ts (p ts) → S P c ts (spec.deeper note limit room inner k p ts)
  spent_deeper P c p ts enough =
      spent_if note limit room P c (nat_lt 0 room) p too_deep ts (λ is. enough) (λ is. spent_deep note limit room P c ts (inr (omega (arith, ltb-false 0 room is))))

  -- ---- lists of arguments

  abbrev Listing : ℕ → ℕ → Listed → Type 0
  Listing c c' es = (es.depth + c ≤ c') × (c ≤ c')

  spent_more_arguments : (start n : ℕ) (es : Listed) (c : ℕ) → limit < n + c → es.depth + start ≤ c → start ≤ c → (ts : List Lexeme)
      → S (Listing start) c ts (spec.more_arguments note limit room inner k n es ts)
  unfolding spec.more_arguments
  spent_more_arguments start zero es c turns low late ts = omega arith
  spent_more_arguments start (suc n) es c turns low late ts =
      either (Listing start) c (same_mark (mark_at note ts) m.Comma) _ _ ts
      (after_mark m.Comma _ (Listing start) c ts (λ p mid c1 e1.
      after_tree k 1 at_first _ (Listing start) c1 (omega arith) mid (λ e end c2 e2 l2.
      spent_more_arguments start n (with_last es e) c2 (omega arith) (omega arith) (omega arith) end)))
      (done (Listing start) c es ts (low, late))

  spent_some_arguments : (c : ℕ) → 1 ≤ c → (ts : List Lexeme) → S (Listing c) c ts (spec.some_arguments note limit room inner k ts)
  unfolding spec.some_arguments
  spent_some_arguments c one ts =
      after_tree k 1 at_first _ (Listing c) c one ts (λ e mid c1 e1 l1.
      spent_more_arguments c limit (with_last nothing e) c1 (omega arith) (omega arith) (omega arith) mid)

  pub spent_arguments : (c : ℕ) → 1 ≤ c → (ts : List Lexeme) → S (Listing c) c ts (spec.arguments note limit room inner k ts)
  unfolding spec.arguments
  spent_arguments c one ts =
      either (Listing c) c (same_mark (mark_at note ts) m.RightParen) _ _ ts (done (Listing c) c nothing ts (omega arith, omega arith)) (spent_some_arguments c one ts)

  -- a tree, with more lexemes taken than before
  abbrev Grown : ℕ → ℕ → Parsed → Type 0
  Grown c c' p = (p.depth ≤ c') × (c < c')

  pub spent_called : (first : Span) (r : Receiver) (depth : ℕ) (x : Lexeme) (c : ℕ) → depth ≤ c → (ts : List Lexeme)
      → S (Grown c) c ts (spec.called note limit room inner k first r depth x ts)
  unfolding spec.called
  spent_called first r depth x c low ts =
      after_mark m.LeftParen _ (Grown c) c ts (λ p mid c1 e1.
      after (Listing c1) _ (Grown c) c1 mid (spec.arguments note limit room inner k mid) (spent_arguments c1 (omega arith) mid) (λ es end c2 (e2, l2).
      after_mark m.RightParen _ (Grown c) c2 end (λ q rest c3 e3.
      done (Grown c) c3 (spec.call_of first r depth x es q) rest (omega arith, omega arith))))

  only_shallow : (c : ℕ) (ts : List Lexeme) (r : Outcome Parsed) → S (Grown c) c ts r → S Shallow c ts r
  only_shallow c ts r grown = spent_shift note limit room room (Grown c) Shallow c c ts (omega arith) (omega arith) (λ t x both. both.0) r grown

  -- ---- types

  abbrev Later : {A : Type 0} → ℕ → ℕ → A → Type 0
  Later c c' x = c ≤ c'

  pub spent_type_behind : (x : Lexeme) (c : ℕ) (ts : List Lexeme) → S (Later c) c ts (spec.type_behind note limit room inner k x ts)
  unfolding spec.type_behind
  spent_type_behind x c ts =
      either (Later c) c (same_mark (mark_at note ts) m.LeftBracket) _ _ ts
      (after_mark m.LeftBracket _ (Later c) c ts (λ p mid c1 e1.
      after_mark m.RightBracket _ (Later c) c1 mid (λ q rest c2 e2.
      done (Later c) c2 (type_tree (join x.span q.span) x.text true) rest (omega arith))))
      (done (Later c) c (type_tree x.span x.text false) ts (omega arith))

  spent_type_word : (c : ℕ) (ts : List Lexeme) → S (λ c' x. c' ≡ c + 1) c ts (spec.type_word note limit room inner k ts)
  unfolding spec.type_word
  spent_type_word c ts = either (λ c' x. c' ≡ c + 1) c (is_type_mark (mark_at note ts)) _ _ ts (spent_one note limit room c ts) tt

  pub spent_type : (c : ℕ) (ts : List Lexeme) → S (Later c) c ts (spec.type_ note limit room inner k ts)
  unfolding spec.type_
  spent_type c ts =
      after (λ c' x. c' ≡ c + 1) _ (Later c) c ts (spec.type_word note limit room inner k ts) (spent_type_word c ts) (λ x mid c1 e1.
      spent_shift note limit room room (Later c1) (Later c) c1 c1 mid (omega arith) (omega arith) (λ t x late. omega arith)
      (spec.type_behind note limit room inner k x mid) (spent_type_behind x c1 mid))

  -- ---- what begins with a parenthesis

  spent_cast_operand : (p : Lexeme) (t : TypeTree) (c : ℕ) → 1 ≤ c → (ts : List Lexeme) → S Shallow c ts (spec.cast_operand note limit room inner k p t ts)
  unfolding spec.cast_operand
  spent_cast_operand p t c one ts = after_tree k 10 at_first _ Shallow c one ts (λ e mid c1 e1 l1. done Shallow c1 (over 10 e (cast (join p.span (span_of e.tree)) t e.tree)) mid (omega arith))

  spent_cast_behind : (p x : Lexeme) (c : ℕ) → 1 ≤ c → (ts : List Lexeme) → S Shallow c ts (spec.cast_behind note limit room inner k p x ts)
  unfolding spec.cast_behind
  spent_cast_behind p x c one ts =
      after (Later c) _ Shallow c ts (spec.type_behind note limit room inner k x ts) (spent_type_behind x c ts) (λ t mid c1 e1.
      after_mark m.RightParen _ Shallow c1 mid (λ q end c2 e2. spent_cast_operand p t c2 (omega arith) end))

  spent_typed_cast : (p : Lexeme) (c : ℕ) → 1 ≤ c → (ts : List Lexeme) → S Shallow c ts (spec.typed_cast note limit room inner k p ts)
  unfolding spec.typed_cast
  spent_typed_cast p c one ts =
      after (λ c' x. c' ≡ c + 1) _ Shallow c ts (spec.type_word note limit room inner k ts) (spent_type_word c ts) (λ x mid c1 e1. spent_cast_behind p x c1 (omega arith) mid)

  pub spent_grouped : (p : Lexeme) (start : Start) (c : ℕ) → suc (started start) ≤ c → (ts : List Lexeme) → S Shallow c ts (spec.grouped note limit room inner k p start ts)
  unfolding spec.grouped
  spent_grouped p start c some ts =
      after_tree k 1 start _ Shallow c some ts (λ e mid c1 e1 l1.
      after_mark m.RightParen _ Shallow c1 mid (λ q rest c2 e2. done Shallow c2 (over 12 e (paren (join p.span q.span) e.tree)) rest (omega arith)))

  spent_closed_name : (least : ℕ) (p x : Lexeme) (c : ℕ) → 1 ≤ c → (ts : List Lexeme) → S Shallow c ts (spec.closed_name note limit room inner k least p x ts)
  unfolding spec.closed_name
  spent_closed_name least p x c one ts =
      after_mark m.RightParen _ Shallow c ts (λ q mid c1 e1.
      either Shallow c1 (casts (mark_at note mid) && allows_prefix least) _ _ mid
      (spent_cast_operand p (type_tree x.span x.text false) c1 (omega arith) mid) (done Shallow c1 (lone_name p x q) mid (omega arith)))

  spent_array_cast : (p x : Lexeme) (c : ℕ) → 1 ≤ c → (ts : List Lexeme) → S Shallow c ts (spec.array_cast note limit room inner k p x ts)
  unfolding spec.array_cast
  spent_array_cast p x c one ts =
      after_mark m.RightBracket _ Shallow c ts (λ q mid c1 e1. after_mark m.RightParen _ Shallow c1 mid (λ r end c2 e2. spent_cast_operand p _ c2 (omega arith) end))

  spent_bracketed_name : (least : ℕ) (p x : Lexeme) (c : ℕ) → 2 ≤ c → (ts : List Lexeme) → S Shallow c ts (spec.bracketed_name note limit room inner k least p x ts)
  unfolding spec.bracketed_name
  spent_bracketed_name least p x c two ts =
      after_mark m.LeftBracket _ Shallow c ts (λ b mid c1 e1.
      either Shallow c1 (same_mark (mark_at note mid) m.RightBracket && allows_prefix least) _ _ mid
      (spent_array_cast p x c1 (omega arith) mid) (spent_grouped p (behind_bracket x b) c1 (omega arith) mid))

  spent_behind_name : (least : ℕ) (p x : Lexeme) (mark : Mark) (c : ℕ) → 2 ≤ c → (ts : List Lexeme) → S Shallow c ts (spec.behind_name_by note limit room inner k least p x mark ts)
  spent_behind_name least p x m.RightParen c two ts = spent_closed_name least p x c (omega arith) ts
  spent_behind_name least p x m.LeftBracket c two ts = spent_bracketed_name least p x c two ts
  spent_behind_name least p x _ c two ts = spent_grouped p (behind_name x) c two ts

  spent_named_group : (least : ℕ) (p : Lexeme) (c : ℕ) → 1 ≤ c → (ts : List Lexeme) → S Shallow c ts (spec.named_group note limit room inner k least p ts)
  unfolding spec.named_group
  spent_named_group least p c one ts =
      after_mark m.Name _ Shallow c ts (λ x mid c1 e1. spent_behind_name least p x (mark_at note mid) c1 (omega arith) mid)

  spent_typed_group : (least : ℕ) (p : Lexeme) (c : ℕ) → 1 ≤ c → (ts : List Lexeme) → S Shallow c ts (spec.typed_group note limit room inner k least p ts)
  spent_typed_group least p c one ts = either Shallow c (allows_prefix least) _ _ ts (spent_typed_cast p c one ts) (spent_grouped p at_first c one ts)

  -- ---- quantifiers

  spent_quantifier_word : (c : ℕ) (ts : List Lexeme) → S (λ c' x. c' ≡ c + 1) c ts (spec.quantifier_word note limit room inner k ts)
  unfolding spec.quantifier_word
  spent_quantifier_word c ts =
      spent_if note limit room (λ c' x. c' ≡ c + 1) c (is_quantifier_mark (mark_at note ts)) _ _ ts
      (λ word. either (λ c' x. c' ≡ c + 1) c (nat_lt 0 k) _ _ ts
      (after_one _ (λ c' x. c' ≡ c + 1) c ts (λ x mid c1 e1. done (λ c' x. c' ≡ c + 1) c1 (same_mark (mark_at note ts) m.Forall) mid e1))
      (spent_deep note limit room {A = Bool} (λ c' x. c' ≡ c + 1) c ts (inl word)))
      (λ other. tt)

  spent_bound_sign : (c : ℕ) (ts : List Lexeme) → S (λ c' x. c' ≡ c + 1) c ts (spec.bound_sign note limit room inner k ts)
  unfolding spec.bound_sign
  spent_bound_sign c ts =
      either (λ c' x. c' ≡ c + 1) c (is_bound_mark (mark_at note ts)) _ _ ts
      (after_one _ (λ c' x. c' ≡ c + 1) c ts (λ x mid c1 e1. done (λ c' x. c' ≡ c + 1) c1 (same_mark (mark_at note ts) m.Less) mid e1)) tt

  spent_same_name : (x : Lexeme) (c : ℕ) (ts : List Lexeme) → S (λ c' y. c' ≡ c + 1) c ts (spec.same_name note limit room inner k x ts)
  unfolding spec.same_name
  spent_same_name x c ts = either (λ c' y. c' ≡ c + 1) c (is_name_again note x.text ts) _ _ ts (spent_one note limit room c ts) tt

  abbrev Bounded : ℕ → ℕ → Bounds → Type 0
  Bounded c c' b = (b.low.depth + c ≤ c') × (b.high.depth + c ≤ c')

  spent_bounds : (x : Lexeme) (c : ℕ) → 1 ≤ c → (ts : List Lexeme) → S (Bounded c) c ts (spec.bounds note limit room inner k x ts)
  unfolding spec.bounds
  spent_bounds x c one ts =
      after_tree (k - 1) 8 at_first _ (Bounded c) c one ts (λ low t1 c1 e1 l1.
      after (λ c' y. c' ≡ c1 + 1) _ (Bounded c) c1 t1 (spec.bound_sign note limit room inner k t1) (spent_bound_sign c1 t1) (λ low_strict t2 c2 e2.
      after (λ c' y. c' ≡ c2 + 1) _ (Bounded c) c2 t2 (spec.same_name note limit room inner k x t2) (spent_same_name x c2 t2) (λ y t3 c3 e3.
      after_mark m.And _ (Bounded c) c3 t3 (λ a t4 c4 e4.
      after (λ c' y. c' ≡ c4 + 1) _ (Bounded c) c4 t4 (spec.same_name note limit room inner k x t4) (spent_same_name x c4 t4) (λ z t5 c5 e5.
      after (λ c' y. c' ≡ c5 + 1) _ (Bounded c) c5 t5 (spec.bound_sign note limit room inner k t5) (spent_bound_sign c5 t5) (λ high_strict t6 c6 e6.
      after_tree (k - 1) 8 at_first _ (Bounded c) c6 (omega arith) t6 (λ high t7 c7 e7 l7.
      done (Bounded c) c7 (record { low = low; low_strict = low_strict; high = high; high_strict = high_strict }) t7 (omega arith, omega arith))))))))

  pub spent_quantified : (p : Lexeme) (c : ℕ) → 1 ≤ c → (ts : List Lexeme) → S Shallow c ts (spec.quantified note limit room inner k p ts)
  unfolding spec.quantified
  spent_quantified p c one ts =
      after (λ c' y. c' ≡ c + 1) _ Shallow c ts (spec.quantifier_word note limit room inner k ts) (spent_quantifier_word c ts) (λ all t1 c1 e1.
      after_mark m.Int _ Shallow c1 t1 (λ i t2 c2 e2.
      after_mark m.Name _ Shallow c2 t2 (λ x t3 c3 e3.
      after_mark m.Semicolon _ Shallow c3 t3 (λ s t4 c4 e4.
      after (Bounded c4) _ Shallow c4 t4 (spec.bounds note limit room inner k x t4) (spent_bounds x c4 (omega arith) t4) (λ b t5 c5 (low, high).
      after_mark m.Semicolon _ Shallow c5 t5 (λ r t6 c6 e6.
      after_tree (k - 1) 1 at_first _ Shallow c6 (omega arith) t6 (λ e t7 c7 e7 l7.
      after_mark m.RightParen _ Shallow c7 t7 (λ q t8 c8 e8.
      done Shallow c8 (spec.quantifier_of (join p.span q.span) all x b e) t8 (omega arith)))))))))

  spent_group_by : (least : ℕ) (p : Lexeme) (mark : Mark) (c : ℕ) → 1 ≤ c → (ts : List Lexeme) → S Shallow c ts (spec.group_by note limit room inner k least p mark ts)
  spent_group_by least p m.Forall c one ts = spent_quantified p c one ts
  spent_group_by least p m.Exists c one ts = spent_quantified p c one ts
  spent_group_by least p m.Int c one ts = spent_typed_group least p c one ts
  spent_group_by least p m.Long c one ts = spent_typed_group least p c one ts
  spent_group_by least p m.Boolean c one ts = spent_typed_group least p c one ts
  spent_group_by least p m.Name c one ts = spent_named_group least p c one ts
  spent_group_by least p _ c one ts = spent_grouped p at_first c one ts

  spent_group : (least c : ℕ) (ts : List Lexeme) → S Shallow c ts (spec.group note limit room inner k least ts)
  unfolding spec.group
  spent_group least c ts = after_mark m.LeftParen _ Shallow c ts (λ p mid c1 e1. spent_group_by least p (mark_at note mid) c1 (omega arith) mid)

  -- ---- other beginnings

  spent_after_name : (x : Lexeme) (c : ℕ) → 1 ≤ c → (ts : List Lexeme) → S Shallow c ts (spec.after_name note limit room inner k x ts)
  unfolding spec.after_name
  spent_after_name x c one ts =
      either Shallow c (same_mark (mark_at note ts) m.LeftParen) _ _ ts
      (only_shallow c ts (spec.called note limit room inner k x.span implied 0 x ts) (spent_called x.span implied 0 x c (omega arith) ts))
      (done Shallow c (leaf (name x.span x.text)) ts one)

  spent_named : (c : ℕ) (ts : List Lexeme) → S Shallow c ts (spec.named note limit room inner k ts)
  unfolding spec.named
  spent_named c ts = after_mark m.Name _ Shallow c ts (λ x mid c1 e1. spent_after_name x c1 (omega arith) mid)

  spent_prefixed : (c : ℕ) (ts : List Lexeme) → S Shallow c ts (spec.prefixed note limit room inner k ts)
  unfolding spec.prefixed
  spent_prefixed c ts =
      after_one _ Shallow c ts (λ op mid c1 e1.
      after_tree k 10 at_first _ Shallow c1 (omega arith) mid (λ e end c2 e2 l2.
      done Shallow c2 (over 10 e (unary (join op.span (span_of e.tree)) (word_of op) e.tree)) end (omega arith)))

  spent_sized : (r x : Lexeme) (c : ℕ) (ts : List Lexeme) → S Shallow c ts (spec.sized note limit room inner k r x ts)
  unfolding spec.sized
  spent_sized r x c ts =
      after_mark m.LeftBracket _ Shallow c ts (λ p t1 c1 e1.
      after_tree k 1 at_first _ Shallow c1 (omega arith) t1 (λ n t2 c2 e2 l2.
      after_mark m.RightBracket _ Shallow c2 t2 (λ q t3 c3 e3.
      done Shallow c3 (over 11 n (new_array (join r.span q.span) (word_of x) n.tree)) t3 (omega arith))))

  spent_constructed : (r x : Lexeme) (c : ℕ) (ts : List Lexeme) → S Shallow c ts (spec.constructed note limit room inner k r x ts)
  unfolding spec.constructed
  spent_constructed r x c ts =
      after_mark m.LeftParen _ Shallow c ts (λ p t1 c1 e1.
      after (Listing c1) _ Shallow c1 t1 (spec.arguments note limit room inner k t1) (spent_arguments c1 (omega arith) t1) (λ es t2 c2 (e2, l2).
      after_mark m.RightParen _ Shallow c2 t2 (λ q t3 c3 e3.
      done Shallow c3 (spec.object_of r x es q) t3 (omega arith))))

  spent_created_by : (r x : Lexeme) (mark : Mark) (c : ℕ) (ts : List Lexeme) → S Shallow c ts (spec.created_by note limit room inner k r x mark ts)
  spent_created_by r x m.LeftParen c ts = spent_constructed r x c ts
  spent_created_by r x m.LeftBracket c ts = spent_deeper Shallow c (spec.sized note limit room inner k r x) ts (spent_sized r x c ts)
  spent_created_by r x _ c ts = tt

  spent_new_of_name : (r : Lexeme) (c : ℕ) (ts : List Lexeme) → S Shallow c ts (spec.new_of_name note limit room inner k r ts)
  unfolding spec.new_of_name
  spent_new_of_name r c ts = after_mark m.Name _ Shallow c ts (λ x mid c1 e1. spent_created_by r x (mark_at note mid) c1 mid)

  spent_new_of_word : (r : Lexeme) (c : ℕ) (ts : List Lexeme) → S Shallow c ts (spec.new_of_word note limit room inner k r ts)
  unfolding spec.new_of_word
  spent_new_of_word r c ts = after_one _ Shallow c ts (λ x mid c1 e1. spent_sized r x c1 mid)

  spent_new_by : (r : Lexeme) (mark : Mark) (c : ℕ) (ts : List Lexeme) → S Shallow c ts (spec.new_by note limit room inner k r mark ts)
  spent_new_by r m.Name c ts = spent_new_of_name r c ts
  spent_new_by r m.Int c ts = spent_deeper Shallow c (spec.new_of_word note limit room inner k r) ts (spent_new_of_word r c ts)
  spent_new_by r m.Long c ts = spent_deeper Shallow c (spec.new_of_word note limit room inner k r) ts (spent_new_of_word r c ts)
  spent_new_by r m.Boolean c ts = spent_deeper Shallow c (spec.new_of_word note limit room inner k r) ts (spent_new_of_word r c ts)
  spent_new_by r _ c ts = tt

  spent_created : (c : ℕ) (ts : List Lexeme) → S Shallow c ts (spec.created note limit room inner k ts)
  unfolding spec.created
  spent_created c ts = after_mark m.New _ Shallow c ts (λ r mid c1 e1. spent_new_by r (mark_at note mid) c1 mid)

  spent_super_called : (c : ℕ) (ts : List Lexeme) → S Shallow c ts (spec.super_called note limit room inner k ts)
  unfolding spec.super_called
  spent_super_called c ts =
      after_mark m.Super _ Shallow c ts (λ r t1 c1 e1.
      after_mark m.Dot _ Shallow c1 t1 (λ dot t2 c2 e2.
      after_mark m.Name _ Shallow c2 t2 (λ x t3 c3 e3.
      only_shallow c3 t3 (spec.called note limit room inner k r.span super 0 x t3) (spent_called r.span super 0 x c3 (omega arith) t3))))

  spent_old_value : (c : ℕ) (ts : List Lexeme) → S Shallow c ts (spec.old_value note limit room inner k ts)
  unfolding spec.old_value
  spent_old_value c ts =
      after_mark m.Old _ Shallow c ts (λ r t1 c1 e1.
      after_mark m.LeftParen _ Shallow c1 t1 (λ p t2 c2 e2.
      after_tree k 1 at_first _ Shallow c2 (omega arith) t2 (λ e t3 c3 e3 l3.
      after_mark m.RightParen _ Shallow c3 t3 (λ q t4 c4 e4.
      done Shallow c4 (over 12 e (old (join r.span q.span) e.tree)) t4 (omega arith)))))

  spent_fresh_value : (c : ℕ) (ts : List Lexeme) → S Shallow c ts (spec.fresh_value note limit room inner k ts)
  unfolding spec.fresh_value
  spent_fresh_value c ts =
      after_mark m.Fresh _ Shallow c ts (λ r t1 c1 e1.
      after_mark m.LeftParen _ Shallow c1 t1 (λ p t2 c2 e2.
      after_tree k 1 at_first _ Shallow c2 (omega arith) t2 (λ e t3 c3 e3 l3.
      after_mark m.RightParen _ Shallow c3 t3 (λ q t4 c4 e4.
      done Shallow c4 (over 12 e (fresh (join r.span q.span) e.tree)) t4 (omega arith)))))

  spent_nested_by : (least : ℕ) (mark : Mark) (c : ℕ) (ts : List Lexeme) → S Shallow c ts (spec.nested_by note limit room inner k least mark ts)
  spent_nested_by least m.LeftParen c ts = spent_group least c ts
  spent_nested_by least m.Plus c ts = spent_prefixed c ts
  spent_nested_by least m.Minus c ts = spent_prefixed c ts
  spent_nested_by least m.Not c ts = spent_prefixed c ts
  spent_nested_by least m.Old c ts = spent_old_value c ts
  spent_nested_by least m.Fresh c ts = spent_fresh_value c ts
  spent_nested_by least _ c ts = tt

  spent_nested : (least : ℕ) (mark : Mark) (c : ℕ) (ts : List Lexeme) → S Shallow c ts (spec.nested note limit room inner k least mark ts)
  spent_nested least mark c ts = spent_deeper Shallow c (spec.nested_by note limit room inner k least mark) ts (spent_nested_by least mark c ts)

  spent_nested_prefix : (least : ℕ) (mark : Mark) (c : ℕ) (ts : List Lexeme) → S Shallow c ts (spec.nested_prefix note limit room inner k least mark ts)
  spent_nested_prefix least mark c ts = either Shallow c (allows_prefix least) _ _ ts (spent_nested least mark c ts) tt

  spent_literal : (mark : Mark) (c : ℕ) (ts : List Lexeme) → S Shallow c ts (spec.literal note limit room inner k mark ts)
  unfolding spec.literal
  spent_literal mark c ts = after_one _ Shallow c ts (λ x mid c1 e1. done Shallow c1 (leaf (spec.literal_of note limit room inner k mark x)) mid (omega arith))

  spent_first_by : (least : ℕ) (mark : Mark) (c : ℕ) (ts : List Lexeme) → S Shallow c ts (spec.first_by note limit room inner k least mark ts)
  spent_first_by least m.Number c ts = spent_literal m.Number c ts
  spent_first_by least m.True c ts = spent_literal m.True c ts
  spent_first_by least m.False c ts = spent_literal m.False c ts
  spent_first_by least m.Null c ts = spent_literal m.Null c ts
  spent_first_by least m.This c ts = spent_literal m.This c ts
  spent_first_by least m.Result c ts = spent_literal m.Result c ts
  spent_first_by least m.Name c ts = spent_named c ts
  spent_first_by least m.New c ts = spent_created c ts
  spent_first_by least m.Super c ts = spent_super_called c ts
  spent_first_by least m.LeftParen c ts = spent_nested least m.LeftParen c ts
  spent_first_by least m.Plus c ts = spent_nested_prefix least m.Plus c ts
  spent_first_by least m.Minus c ts = spent_nested_prefix least m.Minus c ts
  spent_first_by least m.Not c ts = spent_nested_prefix least m.Not c ts
  spent_first_by least m.Old c ts = spent_nested least m.Old c ts
  spent_first_by least m.Fresh c ts = spent_nested least m.Fresh c ts
  spent_first_by least _ c ts = tt

  spent_first : (least c : ℕ) (ts : List Lexeme) → S Shallow c ts (spec.first note limit room inner k least ts)
  unfolding spec.first
  spent_first least c ts = spent_first_by least (mark_at note ts) c ts

  -- ---- what goes on with an expression

  spent_operated : (a : Parsed) (mark : Mark) (c : ℕ) → a.depth ≤ c → (ts : List Lexeme) → S (Grown c) c ts (spec.operated note limit room inner k a mark ts)
  unfolding spec.operated
  spent_operated a mark c low ts =
      after_one _ (Grown c) c ts (λ op t1 c1 e1.
      after_tree k (right_of mark) at_first _ (Grown c) c1 (omega arith) t1 (λ b t2 c2 e2 l2.
      done (Grown c) c2 (over_two (binds mark) a b (binary (join (span_of a.tree) (span_of b.tree)) (word_of op) a.tree b.tree)) t2 (omega arith, omega arith)))

  spent_chosen : (a : Parsed) (c : ℕ) → a.depth ≤ c → (ts : List Lexeme) → S (Grown c) c ts (spec.chosen note limit room inner k a ts)
  unfolding spec.chosen
  spent_chosen a c low ts =
      after_mark m.Question _ (Grown c) c ts (λ p t1 c1 e1.
      after_tree k 1 at_first _ (Grown c) c1 (omega arith) t1 (λ b t2 c2 e2 l2.
      after_mark m.Colon _ (Grown c) c2 t2 (λ q t3 c3 e3.
      after_tree k 1 at_first _ (Grown c) c3 (omega arith) t3 (λ d t4 c4 e4 l4.
      done (Grown c) c4 (over_three 1 a b d (choose (join (span_of a.tree) (span_of d.tree)) a.tree p.span b.tree d.tree)) t4 (omega arith, omega arith)))))

  spent_tested : (a : Parsed) (c : ℕ) → a.depth ≤ c → (ts : List Lexeme) → S (Grown c) c ts (spec.tested note limit room inner k a ts)
  unfolding spec.tested
  spent_tested a c low ts =
      after_mark m.InstanceOf _ (Grown c) c ts (λ i t1 c1 e1.
      after (Later c1) _ (Grown c) c1 t1 (spec.type_ note limit room inner k t1) (spent_type c1 t1) (λ t t2 c2 e2.
      done (Grown c) c2 (over 7 a (instance_of (join (span_of a.tree) t.span) a.tree t)) t2 (omega arith, omega arith)))

  spent_after_member : (a : Parsed) (dot x : Lexeme) (c c' : ℕ) → a.depth ≤ c → c < c' → (ts : List Lexeme)
      → S (Grown c) c' ts (spec.after_member note limit room inner k a dot x ts)
  unfolding spec.after_member
  spent_after_member a dot x c c' low late ts =
      either (Grown c) c' (same_mark (mark_at note ts) m.LeftParen) _ _ ts
      (spent_shift note limit room room (Grown c') (Grown c) c' c' ts (omega arith) (omega arith) (λ t x both. (both.0, omega (arith, both.1)))
      (spec.called note limit room inner k (span_of a.tree) (on a.tree dot.span) a.depth x ts) (spent_called (span_of a.tree) (on a.tree dot.span) a.depth x c' (omega arith) ts))
      (done (Grown c) c' (over 12 a (member (join (span_of a.tree) x.span) a.tree dot.span (word_of x))) ts (omega arith, omega arith))

  spent_dotted : (a : Parsed) (c : ℕ) → a.depth ≤ c → (ts : List Lexeme) → S (Grown c) c ts (spec.dotted note limit room inner k a ts)
  unfolding spec.dotted
  spent_dotted a c low ts =
      after_mark m.Dot _ (Grown c) c ts (λ dot t1 c1 e1.
      after_mark m.Name _ (Grown c) c1 t1 (λ x t2 c2 e2. spent_after_member a dot x c c2 low (omega arith) t2))

  spent_indexed_behind : (a : Parsed) (p : Lexeme) (c c' : ℕ) → a.depth ≤ c → c < c' → (ts : List Lexeme)
      → S (Grown c) c' ts (spec.indexed_behind note limit room inner k a p ts)
  unfolding spec.indexed_behind
  spent_indexed_behind a p c c' low late ts =
      after_tree k 1 at_first _ (Grown c) c' (omega arith) ts (λ i t1 c1 e1 l1.
      after_mark m.RightBracket _ (Grown c) c1 t1 (λ q t2 c2 e2.
      done (Grown c) c2 (over_two 12 a i (index (join (span_of a.tree) q.span) a.tree p.span i.tree)) t2 (omega arith, omega arith)))

  spent_indexed : (a : Parsed) (c : ℕ) → a.depth ≤ c → (ts : List Lexeme) → S (Grown c) c ts (spec.indexed note limit room inner k a ts)
  unfolding spec.indexed
  spent_indexed a c low ts = after_mark m.LeftBracket _ (Grown c) c ts (λ p t1 c1 e1. spent_indexed_behind a p c c1 low (omega arith) t1)

  spent_longer_by : (a : Parsed) (mark : Mark) (c : ℕ) → a.depth ≤ c → (ts : List Lexeme) → S (Grown c) c ts (spec.longer_by note limit room inner k a mark ts)
  spent_longer_by a m.Question c low ts = spent_chosen a c low ts
  spent_longer_by a m.InstanceOf c low ts = spent_tested a c low ts
  spent_longer_by a m.Dot c low ts = spent_dotted a c low ts
  spent_longer_by a m.LeftBracket c low ts = spent_indexed a c low ts
  spent_longer_by a mark c low ts = spent_operated a mark c low ts

  -- turns and lexemes together are enough for the room
  pub spent_climb : (least n : ℕ) (a : Parsed) (c : ℕ) → a.depth ≤ c → room ≤ n + c → (ts : List Lexeme) → S Shallow c ts (spec.climb note limit room inner k least n a ts)
  unfolding spec.climb
  spent_climb least zero a c low enough ts = spent_deep note limit room Shallow c ts (inr (omega arith))
  spent_climb least (suc n) a c low enough ts =
      either Shallow c (grows a.strength (mark_at note ts) least) _ _ ts
      (spent_if note limit room Shallow c (nat_le a.depth room) _ too_deep ts
      (λ fits. after (Grown c) _ Shallow c ts (spec.longer_by note limit room inner k a (mark_at note ts) ts) (spent_longer_by a (mark_at note ts) c low ts)
      (λ b mid c1 (low1, late). spent_climb least n b c1 low1 (omega arith) mid))
      (λ deep. spent_deep note limit room Shallow c ts (inr (omega (arith, leb-false a.depth room deep)))))
      (done Shallow c a ts low)

  spent_begun : (least : ℕ) (start : Start) (ts : List Lexeme) → S Shallow (started start) ts (spec.begun note limit room inner k least start ts)
  spent_begun least at_first ts =
      after Shallow _ Shallow 0 ts (spec.first note limit room inner k least ts) (spent_first least 0 ts) (λ a mid c1 low. spent_climb least (suc room) a c1 low (omega arith) mid)
  spent_begun least (behind_name x) ts =
      after Shallow _ Shallow 1 ts (spec.after_name note limit room inner k x ts) (spent_after_name x 1 (omega arith) ts) (λ a mid c1 low. spent_climb least (suc room) a c1 low (omega arith) mid)
  spent_begun least (behind_bracket x p) ts =
      after (Grown 1) _ Shallow 2 ts (spec.indexed_behind note limit room inner k (leaf (name x.span x.text)) p ts)
      (spent_indexed_behind (leaf (name x.span x.text)) p 1 2 (omega arith) (omega arith) ts) (λ a mid c1 (low, late). spent_climb least room a c1 low (omega arith) mid)

-- ---- the whole

spent_no_room : (note : Bool) (limit least : ℕ) (ts : List Lexeme) → Spent note limit 0 Shallow 0 ts (spec.no_room note least ts)
unfolding spec.no_room
spent_no_room note limit least ts =
    spent_if note limit 0 Shallow 0 (opens_at least (mark_at note ts)) too_deep refuse ts (λ is. spent_deep note limit 0 Shallow 0 ts (inr (omega arith))) (λ is. tt)

pub spent_expr : (note : Bool) (limit room quantifiers least : ℕ) (start : Start) (ts : List Lexeme)
    → Spent note limit (room - 1) Shallow (started start) ts (expr note limit room quantifiers least start ts)
unfolding expr
spent_expr note limit zero quantifiers least at_first ts = spent_no_room note limit least ts
spent_expr note limit zero quantifiers least (behind_name x) ts = spent_deep note limit 0 Shallow 1 ts (inr (omega arith))
spent_expr note limit zero quantifiers least (behind_bracket x p) ts = spent_deep note limit 0 Shallow 2 ts (inr (omega arith))
spent_expr note limit (suc room) quantifiers least start ts =
    let less : suc room - 1 ≡ room = omega arith in
    rw less (spent_begun note limit room (expr note limit room) (λ k n s u. spent_expr note limit room k n s u) quantifiers least start ts)

-- what is read is no deeper than the lexemes taken are many
pub depth_of_taken : (note : Bool) (limit room quantifiers least : ℕ) (ts rest : List Lexeme) (p : Parsed) → expr note limit room quantifiers least at_first ts ≡ Ok (p, rest)
    → p.depth + length rest ≤ length ts
depth_of_taken note limit room quantifiers least ts rest p is =
    let s : Spent note limit (room - 1) Shallow 0 ts (Ok (p, rest)) = subst (Spent note limit (room - 1) Shallow 0 ts) is (spent_expr note limit room quantifiers least at_first ts) in
    omega (arith, s.2, ap length s.1, length-append s.0 rest)

-- it stops for want of room at a quantifier, or with as many lexemes taken as there was room for and one less
pub deep_place : (note : Bool) (limit room quantifiers least : ℕ) (ts : List Lexeme) (n : ℕ) → expr note limit room quantifiers least at_first ts ≡ Err (Deep n)
    → (is_quantifier_mark (mark_at note (drop (length ts - n) ts)) ≡ true) ⊎ (room ≤ (length ts - n) + 1)
deep_place note limit room quantifiers least ts n is =
    let s : DeepAt note (room - 1) 0 ts n = subst (Spent note limit (room - 1) Shallow 0 ts) is (spent_expr note limit room quantifiers least at_first ts) in
    let at = split_at ts s.taken s.rest n s.parts s.left in
    elim s.cause [
      | inl word ↦ inl (subst (λ (z : List Lexeme). is_quantifier_mark (mark_at note z) ≡ true) (sym at.1) word)
      | inr many ↦ inr (omega (arith, s.left, ap length s.parts, length-append s.taken s.rest, many))
    ]

-- a list is never too long where the turns are as many as the lexemes
pub never_long : (note : Bool) (limit room quantifiers least : ℕ) (ts : List Lexeme) → length ts ≤ limit → expr note limit room quantifiers least at_first ts ≡ Err Long → ⊥
never_long note limit room quantifiers least ts few is =
    let s : limit < 0 + length ts = subst (Spent note limit (room - 1) Shallow 0 ts) is (spent_expr note limit room quantifiers least at_first ts) in
    omega arith
