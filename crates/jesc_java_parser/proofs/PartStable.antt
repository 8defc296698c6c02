-- A parser of the parts of a statement with more room answers the same.
use Rattle.std.proofs.Common.{◌≡◌, ℕ, zero, suc, ◌-◌, ◌≤◌, Bool, true, false, refl, ap, arith}
use Rattle.std.specs.Prelude.{if◌then◌else◌, nat_lt, ◌&&◌, codes}
use Rattle.jesc_text.specs.declared.place.Span.{Span}
use Rattle.jesc_ast.specs.declared.word.TypeTree.{TypeTree}
use Rattle.jesc_ast.specs.Lexemes.{Lexeme, join}
use Rattle.jesc_ast.specs.Trees.{Receiver, implied, super, on, name, member}
use Rattle.jesc_ast.specs.Expressions.{span_of, type_tree}
use Rattle.jesc_ast.specs.Statements.{is_target, is_call}
use Rattle.jesc_jml_grammar.specs.declared.mark.Mark.{Mark}
use Rattle.jesc_jml_grammar.specs.declared.mark.Mark.TheVariants as m
use Rattle.jesc_jml_grammar.specs.Steps.{Parser, same_mark, ◌>>=◌, pure, expect}
use Rattle.jesc_jml_grammar.specs.Reading as reading
use Rattle.jesc_jml_grammar.specs.Reading.{Parsed, Start, at_first, behind_name, behind_bracket, word_of, leaf, over, grows}
use Rattle.jesc_jml_grammar.specs.laws.Refining.{Refines, refines_pure, refines_refuse, refines_deep, refines_unbounded, refines_peek, refines_bind, refines_if, refines_expect}
use Rattle.jesc_jml_parser.specs.laws.Stable as stable
use Rattle.jesc_jml_parser.specs.laws.Stable.{refines_room}
use Rattle.jesc_jml_grammar.specs.ClauseFound.{no_items, with_more}
use Rattle.jesc_jml_grammar.specs.laws.ListRefining.{refines_until}
use Rattle.jesc_java_grammar.specs.declared.statement_mark.StatementMark.{StatementMark}
use Rattle.jesc_java_grammar.specs.declared.statement_mark.StatementMark.TheVariants as s
use Rattle.jesc_java_grammar.specs.Lexing.{is_word, is_sign, take_if}
use Rattle.jesc_java_grammar.specs.StatementMarks.{is_assign, is_step, is_invariant}
use Rattle.jesc_java_grammar.specs.StatementReading as spec
use Rattle.jesc_java_parser.proofs.LexingStable.{by_next, refines_take_if, refines_peek_statement}

-- ---- the parts of one statement

module _ (same : Bool) (limit limit' : ℕ) (limits : limit ≤ limit') (room room' : ℕ) (rooms : room ≤ room') (same_rooms : same ≡ true → room ≡ room')
    (less more : Bool → ℕ → ℕ → ℕ → Start → Parser Parsed)
    (h : (note : Bool) (r r' : ℕ) → r ≤ r' → (same ≡ true → r ≡ r') → (n n' : ℕ) → n ≤ n' → (same ≡ true → n ≡ n') → (least : ℕ) (start : Start)
    → Refines same (less note r n least start) (more note r' n' least start))
    (k k' : ℕ) (ks : k ≤ k') (same_ks : same ≡ true → k ≡ k') where
  chain : {A B : Type 0} (p q : Parser A) (f g : A → Parser B) → Refines same p q → ((x : A) → Refines same (f x) (g x)) → Refines same (p >>= f) (q >>= g)
  chain = refines_bind same

  eat : (note : Bool) (mark : Mark) → Refines same (expect note mark) (expect note mark)
  eat = refines_expect same

  take : (test : Lexeme → Bool) → Refines same (take_if test) (take_if test)
  take = refines_take_if same

  done : {A : Type 0} (a : A) → Refines same (pure a) (pure a)
  done = refines_pure same

  here : (note : Bool) (least : ℕ) (start : Start) → Refines same (less note room k least start) (more note room' k' least start)
  here note = h note room room' rooms same_rooms k k' ks same_ks

  whole : (note : Bool) → Refines same (spec.whole limit room less k note) (spec.whole limit' room' more k' note)
  whole note = here note 1 at_first

  lower : room - 1 ≤ room' - 1
  lower = omega arith

  same_lower : same ≡ true → room - 1 ≡ room' - 1
  same_lower s = ap (λ (n : ℕ). n - 1) (same_rooms s)

  pub refines_deeper : {A : Type 0} (p q : Parser A) → Refines same p q → Refines same (spec.deeper limit room less k p) (spec.deeper limit' room' more k' q)
  refines_deeper p q hp = refines_room same (nat_lt 0 room) (nat_lt 0 room') p q (grind arith) (λ e. ap (nat_lt 0) (same_rooms e)) hp

  refines_type : (note : Bool) → Refines same (spec.type_inside limit room less k note) (spec.type_inside limit' room' more k' note)
  refines_type note = stable.refines_type same note limit limit' limits (room - 1) (room' - 1) lower same_lower (less note (room - 1)) (more note (room' - 1))
      (h note (room - 1) (room' - 1) lower same_lower) k k' ks same_ks

  refines_longer : (note : Bool) (a : Parsed) → Refines same (spec.longer limit room less k note a) (spec.longer limit' room' more k' note a)
  unfolding spec.longer
  refines_longer note a = stable.refines_climb same note limit limit' limits (room - 1) (room' - 1) lower same_lower (less note (room - 1)) (more note (room' - 1))
      (h note (room - 1) (room' - 1) lower same_lower) k k' ks same_ks 11 room room' rooms same_rooms a

  one_less : (note : Bool) (least : ℕ) → Refines same (less note (room - 1) k least at_first) (more note (room' - 1) k' least at_first)
  one_less note least = h note (room - 1) (room' - 1) lower same_lower k k' ks same_ks least at_first

  under : room - 2 ≤ room' - 2
  under = omega arith

  same_under : same ≡ true → room - 2 ≡ room' - 2
  same_under s = ap (λ (n : ℕ). n - 2) (same_rooms s)

  refines_quantified : (note : Bool) (p : Lexeme)
      → Refines same (reading.quantified note limit (room - 2) (less note (room - 2)) k p) (reading.quantified note limit' (room' - 2) (more note (room' - 2)) k' p)
  refines_quantified note p = stable.refines_quantified same note limit limit' limits (room - 2) (room' - 2) under same_under (less note (room - 2)) (more note (room' - 2))
      (h note (room - 2) (room' - 2) under same_under) k k' ks same_ks p

  refines_grouped : (note : Bool) (p : Lexeme) (start : Start)
      → Refines same (reading.grouped note limit (room - 2) (less note (room - 2)) k p start) (reading.grouped note limit' (room' - 2) (more note (room' - 2)) k' p start)
  refines_grouped note p start = stable.refines_grouped same note limit limit' limits (room - 2) (room' - 2) under same_under (less note (room - 2)) (more note (room' - 2))
      (h note (room - 2) (room' - 2) under same_under) k k' ks same_ks p start

  refines_headed_group_by : (note : Bool) (p : Lexeme) (mark : Mark)
      → Refines same (spec.headed_group_by limit room less k note p mark) (spec.headed_group_by limit' room' more k' note p mark)
  refines_headed_group_by note p m.Forall = refines_quantified note p
  refines_headed_group_by note p m.Exists = refines_quantified note p
  refines_headed_group_by note p m.Name = chain _ _ _ _ (eat note m.Name) (λ x. refines_grouped note p (behind_name x))
  refines_headed_group_by note p _ = refines_grouped note p at_first

  refines_headed_group : (note : Bool) → Refines same (spec.headed_group limit room less k note) (spec.headed_group limit' room' more k' note)
  unfolding spec.headed_group
  refines_headed_group note = chain _ _ _ _ (eat note m.LeftParen) (λ p. chain _ _ _ _ (refines_peek same note) (refines_headed_group_by note p))

  refines_headed_first : (note : Bool) → Refines same (spec.headed_first limit room less k note) (spec.headed_first limit' room' more k' note)
  unfolding spec.headed_first
  refines_headed_first note = chain _ _ _ _ (refines_peek same note) (λ mark. refines_if same (same_mark mark m.LeftParen) _ _ _ _
      (refines_room same (nat_lt 2 room) (nat_lt 2 room') _ _ (grind arith) (λ e. ap (nat_lt 2) (same_rooms e)) (refines_headed_group note))
      (one_less note 13))

  refines_headed : (note : Bool) → Refines same (spec.headed limit room less k note) (spec.headed limit' room' more k' note)
  unfolding spec.headed
  refines_headed note = chain _ _ _ _ (refines_headed_first note) (refines_longer note)

  refines_called_under : (note : Bool) (first : Span) (r : Receiver) (depth : ℕ) (x : Lexeme)
      → Refines same (spec.called_under limit room less k note first r depth x) (spec.called_under limit' room' more k' note first r depth x)
  unfolding spec.called_under
  refines_called_under note first r depth x =
      refines_room same (nat_lt (suc depth) room) (nat_lt (suc depth) room') _ _ (grind arith) (λ e. ap (nat_lt (suc depth)) (same_rooms e))
      (stable.refines_called same note limit limit' limits (room - 2) (room' - 2) under same_under (less note (room - 2)) (more note (room' - 2))
      (h note (room - 2) (room' - 2) under same_under) k k' ks same_ks first r depth x)

  refines_target_member : (note : Bool) (a : Parsed) (dot x : Lexeme)
      → Refines same (spec.target_member limit room less k note a dot x) (spec.target_member limit' room' more k' note a dot x)
  unfolding spec.target_member
  refines_target_member note a dot x = chain _ _ _ _ (refines_peek same note) (λ mark. refines_if same (same_mark mark m.LeftParen) _ _ _ _
      (refines_called_under note (span_of a.tree) (on a.tree dot.span) a.depth x)
      (done (over 12 a (member (join (span_of a.tree) x.span) a.tree dot.span (word_of x)))))

  refines_target_dotted : (note : Bool) (a : Parsed) → Refines same (spec.target_dotted limit room less k note a) (spec.target_dotted limit' room' more k' note a)
  unfolding spec.target_dotted
  refines_target_dotted note a = chain _ _ _ _ (eat note m.Dot) (λ dot. chain _ _ _ _ (eat note m.Name) (λ x. refines_target_member note a dot x))

  refines_indexed_behind : (note : Bool) (a : Parsed) (p : Lexeme)
      → Refines same (reading.indexed_behind note limit (room - 1) (less note (room - 1)) k a p) (reading.indexed_behind note limit' (room' - 1) (more note (room' - 1)) k' a p)
  unfolding reading.indexed_behind
  refines_indexed_behind note a p = chain _ _ _ _ (one_less note 1) (λ i. chain _ _ _ _ (eat note m.RightBracket) (λ q. done _))

  refines_indexed : (note : Bool) (a : Parsed)
      → Refines same (reading.indexed note limit (room - 1) (less note (room - 1)) k a) (reading.indexed note limit' (room' - 1) (more note (room' - 1)) k' a)
  unfolding reading.indexed
  refines_indexed note a = chain _ _ _ _ (eat note m.LeftBracket) (λ p. refines_indexed_behind note a p)

  -- no other mark binds so tightly
  refines_target_longer_by : (note : Bool) (a : Parsed) (mark : Mark) → grows a.strength mark 11 ≡ true
      → Refines same (spec.target_longer_by limit room less k note a mark) (spec.target_longer_by limit' room' more k' note a mark)
  refines_target_longer_by note a m.Dot grown = refines_target_dotted note a
  refines_target_longer_by note a m.LeftBracket grown = refines_indexed note a
  refines_target_longer_by note a _ grown = absurd cc

  -- a choice, the first branch by what the test says
  refines_choice : {A : Type 0} (b : Bool) (p q p' q' : Parser A) → (b ≡ true → Refines same p q) → Refines same p' q' → Refines same (if b then p else p') (if b then q else q')
  refines_choice true p q p' q' first second = first refl
  refines_choice false p q p' q' first second = second

  refines_target_longer : (note : Bool) (n n' : ℕ) → n ≤ n' → (same ≡ true → n ≡ n') → (a : Parsed)
      → Refines same (spec.target_longer limit room less k note n a) (spec.target_longer limit' room' more k' note n' a)
  unfolding spec.target_longer
  refines_target_longer note zero zero le eq a = refines_deep same
  refines_target_longer note zero (suc n') le eq a = refines_unbounded same _ (λ e. absurd (omega (arith, eq e)))
  refines_target_longer note (suc n) zero le eq a = absurd (omega arith)
  refines_target_longer note (suc n) (suc n') le eq a =
      chain _ _ _ _ (refines_peek same note) (λ mark. refines_choice (grows a.strength mark 11) _ _ _ _
      (λ grown. refines_room same (nat_lt a.depth room) (nat_lt a.depth room') _ _ (grind arith) (λ e. ap (nat_lt a.depth) (same_rooms e))
      (chain _ _ _ _ (refines_target_longer_by note a mark grown) (λ b. refines_target_longer note n n' (omega arith) (λ e. omega (arith, eq e)) b)))
      (done a))

  refines_target_name : (note : Bool) (x : Lexeme) → Refines same (spec.target_name limit room less k note x) (spec.target_name limit' room' more k' note x)
  unfolding spec.target_name
  refines_target_name note x = chain _ _ _ _ (refines_peek same note) (λ mark. refines_if same (same_mark mark m.LeftParen) _ _ _ _
      (refines_called_under note x.span implied 0 x) (done (leaf (name x.span x.text))))

  refines_target_begun : (note : Bool) (start : Start) → Refines same (spec.target_begun limit room less k note start) (spec.target_begun limit' room' more k' note start)
  refines_target_begun note at_first = refines_refuse same
  refines_target_begun note (behind_name x) = refines_target_name note x
  refines_target_begun note (behind_bracket x p) = refines_indexed_behind note (leaf (name x.span x.text)) p

  refines_target_behind : (note : Bool) (start : Start) → Refines same (spec.target_behind limit room less k note start) (spec.target_behind limit' room' more k' note start)
  unfolding spec.target_behind
  refines_target_behind note start = chain _ _ _ _ (refines_target_begun note start) (refines_target_longer note room room' rooms same_rooms)

  refines_target_from : (note : Bool) (start : Start) → Refines same (spec.target_from limit room less k note start) (spec.target_from limit' room' more k' note start)
  refines_target_from note start = refines_deeper _ _ (refines_target_behind note start)

  refines_headed_target : (note : Bool) → Refines same (spec.headed_target limit room less k note) (spec.headed_target limit' room' more k' note)
  unfolding spec.headed_target
  refines_headed_target note = chain _ _ _ _ (refines_headed_first note) (refines_target_longer note room room' rooms same_rooms)

  refines_named_target : (note : Bool) → Refines same (spec.named_target limit room less k note) (spec.named_target limit' room' more k' note)
  unfolding spec.named_target
  refines_named_target note = chain _ _ _ _ (eat note m.Name) (λ x. refines_target_from note (behind_name x))

  refines_postfix_by : (note : Bool) (mark : Mark) → Refines same (spec.postfix_by limit room less k note mark) (spec.postfix_by limit' room' more k' note mark)
  refines_postfix_by note m.Name = refines_deeper _ _ (refines_named_target note)
  refines_postfix_by note _ = refines_headed_target note

  refines_postfix : (note : Bool) → Refines same (spec.postfix limit room less k note) (spec.postfix limit' room' more k' note)
  unfolding spec.postfix
  refines_postfix note = chain _ _ _ _ (refines_peek same note) (refines_postfix_by note)

  refines_target : (note : Bool) → Refines same (spec.target limit room less k note) (spec.target limit' room' more k' note)
  unfolding spec.target
  refines_target note = chain _ _ _ _ (refines_postfix note) (λ e. refines_if same (is_target e.tree) _ _ _ _ (done e) (refines_refuse same))

  refines_assigned : (a : Parsed) → Refines same (spec.assigned limit room less k a) (spec.assigned limit' room' more k' a)
  unfolding spec.assigned
  refines_assigned a = chain _ _ _ _ (take is_assign) (λ op. chain _ _ _ _ (whole false) (λ e. done _))

  refines_stepped : (a : Parsed) → Refines same (spec.stepped limit room less k a) (spec.stepped limit' room' more k' a)
  unfolding spec.stepped
  refines_stepped a = chain _ _ _ _ (take is_step) (λ op. done _)

  refines_changed_by : (a : Parsed) (mark : StatementMark) → Refines same (spec.changed_by limit room less k a mark) (spec.changed_by limit' room' more k' a mark)
  refines_changed_by a s.Assign = refines_assigned a
  refines_changed_by a s.Step = refines_stepped a
  refines_changed_by a _ = refines_refuse same

  refines_changed : (a : Parsed) → Refines same (spec.changed limit room less k a) (spec.changed limit' room' more k' a)
  unfolding spec.changed
  refines_changed a = chain _ _ _ _ (refines_peek_statement same) (refines_changed_by a)

  refines_acted : (calls : Bool) (a : Parsed) → Refines same (spec.acted limit room less k calls a) (spec.acted limit' room' more k' calls a)
  unfolding spec.acted
  refines_acted calls a = refines_if same (is_target a.tree) _ _ _ _ (refines_changed a)
      (refines_if same (calls && is_call a.tree) _ _ _ _ (done _) (refines_refuse same))

  refines_stepped_first : Refines same (spec.stepped_first limit room less k) (spec.stepped_first limit' room' more k')
  unfolding spec.stepped_first
  refines_stepped_first = chain _ _ _ _ (take is_step) (λ op. chain _ _ _ _ (refines_target false) (λ a. done _))

  refines_named_local : (first : Span) (is_final : Bool) (t : TypeTree)
      → Refines same (spec.named_local limit room less k first is_final t) (spec.named_local limit' room' more k' first is_final t)
  unfolding spec.named_local
  refines_named_local first is_final t = chain _ _ _ _ (eat false m.Name) (λ x. chain _ _ _ _ (take (is_sign (codes "=") false)) (λ q. chain _ _ _ _ (whole false) (λ e. done _)))

  refines_typed_local : Refines same (spec.typed_local limit room less k) (spec.typed_local limit' room' more k')
  unfolding spec.typed_local
  refines_typed_local = chain _ _ _ _ (refines_type false) (λ t. refines_named_local t.span false t)

  refines_final_local : Refines same (spec.final_local limit room less k) (spec.final_local limit' room' more k')
  unfolding spec.final_local
  refines_final_local = chain _ _ _ _ (take (is_word (codes "final") false)) (λ f. chain _ _ _ _ (refines_type false) (λ t. refines_named_local f.span true t))

  refines_array_local : (x : Lexeme) → Refines same (spec.array_local limit room less k x) (spec.array_local limit' room' more k' x)
  unfolding spec.array_local
  refines_array_local x = chain _ _ _ _ (eat false m.RightBracket) (λ q. refines_named_local x.span false (type_tree (join x.span q.span) x.text true))

  refines_act_from : (calls : Bool) (start : Start) → Refines same (spec.act_from limit room less k calls start) (spec.act_from limit' room' more k' calls start)
  refines_act_from true start = here false 11 start
  refines_act_from false start = refines_target_from false start

  refines_acted_from : (calls : Bool) (start : Start) → Refines same (spec.acted_from limit room less k calls start) (spec.acted_from limit' room' more k' calls start)
  unfolding spec.acted_from
  refines_acted_from calls start = chain _ _ _ _ (refines_act_from calls start) (refines_acted calls)

  refines_bracketed : (calls : Bool) (x : Lexeme) → Refines same (spec.bracketed limit room less k calls x) (spec.bracketed limit' room' more k' calls x)
  unfolding spec.bracketed
  refines_bracketed calls x = chain _ _ _ _ (eat false m.LeftBracket) (λ p. chain _ _ _ _ (refines_peek same false)
      (λ mark. refines_if same (same_mark mark m.RightBracket) _ _ _ _ (refines_array_local x) (refines_acted_from calls (behind_bracket x p))))

  refines_named_by : (locals calls : Bool) (x : Lexeme) (mark : Mark)
      → Refines same (spec.named_by limit room less k locals calls x mark) (spec.named_by limit' room' more k' locals calls x mark)
  refines_named_by true calls x m.Name = refines_named_local x.span false (type_tree x.span x.text false)
  refines_named_by true calls x m.LeftBracket = refines_bracketed calls x
  refines_named_by locals calls x _ = refines_acted_from calls (behind_name x)

  refines_named : (locals calls : Bool) → Refines same (spec.named limit room less k locals calls) (spec.named limit' room' more k' locals calls)
  unfolding spec.named
  refines_named locals calls = chain _ _ _ _ (eat false m.Name) (λ x. chain _ _ _ _ (refines_peek same false) (refines_named_by locals calls x))

  refines_act_at_head : (calls : Bool) → Refines same (spec.act_at_head limit room less k calls) (spec.act_at_head limit' room' more k' calls)
  refines_act_at_head true = refines_headed false
  refines_act_at_head false = refines_headed_target false

  refines_headed_act : (calls : Bool) → Refines same (spec.headed_act limit room less k calls) (spec.headed_act limit' room' more k' calls)
  unfolding spec.headed_act
  refines_headed_act calls = chain _ _ _ _ (refines_act_at_head calls) (refines_acted calls)

  refines_plain_by : (locals calls : Bool) (mark : Mark) → Refines same (spec.plain_by limit room less k locals calls mark) (spec.plain_by limit' room' more k' locals calls mark)
  refines_plain_by locals calls m.Name = refines_deeper _ _ (refines_named locals calls)
  refines_plain_by true calls m.Int = refines_deeper _ _ refines_typed_local
  refines_plain_by true calls m.Long = refines_deeper _ _ refines_typed_local
  refines_plain_by true calls m.Boolean = refines_deeper _ _ refines_typed_local
  refines_plain_by locals true m.Super = refines_acted_from true at_first
  refines_plain_by locals calls _ = refines_headed_act calls

  refines_plain : (locals calls : Bool) → Refines same (spec.plain limit room less k locals calls) (spec.plain limit' room' more k' locals calls)
  unfolding spec.plain
  refines_plain locals calls = chain _ _ _ _ (refines_peek same false) (refines_plain_by locals calls)

  refines_simple_by : (locals calls : Bool) (mark : StatementMark)
      → Refines same (spec.simple_by limit room less k locals calls mark) (spec.simple_by limit' room' more k' locals calls mark)
  refines_simple_by true calls s.Final = refines_deeper _ _ refines_final_local
  refines_simple_by locals calls s.Step = refines_deeper _ _ refines_stepped_first
  refines_simple_by locals calls s.Other = refines_plain locals calls
  refines_simple_by locals calls _ = refines_refuse same

  pub refines_simple : (locals calls : Bool) → Refines same (spec.simple limit room less k locals calls) (spec.simple limit' room' more k' locals calls)
  unfolding spec.simple
  refines_simple locals calls = chain _ _ _ _ (refines_peek_statement same) (refines_simple_by locals calls)

  pub refines_simple_statement : Refines same (spec.simple_statement limit room less k) (spec.simple_statement limit' room' more k')
  unfolding spec.simple_statement
  refines_simple_statement = chain _ _ _ _ (refines_simple true true) (λ piece. chain _ _ _ _ (eat false m.Semicolon) (λ p. done _))

  refines_super_constructed : (r : Lexeme) → Refines same (spec.super_constructed limit room less k r) (spec.super_constructed limit' room' more k' r)
  unfolding spec.super_constructed
  refines_super_constructed r = chain _ _ _ _ (eat false m.LeftParen) (λ p. chain _ _ _ _
      (stable.refines_arguments same false limit limit' limits room room' rooms same_rooms (less false room) (more false room') (h false room room' rooms same_rooms) k k' ks same_ks)
      (λ es. chain _ _ _ _ (eat false m.RightParen) (λ q. chain _ _ _ _ (eat false m.Semicolon) (λ e. done _))))

  refines_super_method : (r : Lexeme) → Refines same (spec.super_method limit room less k r) (spec.super_method limit' room' more k' r)
  unfolding spec.super_method
  refines_super_method r = chain _ _ _ _ (eat false m.Dot) (λ dot. chain _ _ _ _ (eat false m.Name) (λ x.
      stable.refines_called same false limit limit' limits (room - 1) (room' - 1) lower same_lower (less false (room - 1)) (more false (room' - 1))
      (h false (room - 1) (room' - 1) lower same_lower) k k' ks same_ks r.span super 0 x))

  refines_super_called_on : (r : Lexeme) → Refines same (spec.super_called_on limit room less k r) (spec.super_called_on limit' room' more k' r)
  unfolding spec.super_called_on
  refines_super_called_on r = chain _ _ _ _ (refines_super_method r) (λ a. chain _ _ _ _ (refines_longer false a) (refines_acted true))

  refines_super_acted : (r : Lexeme) → Refines same (spec.super_acted limit room less k r) (spec.super_acted limit' room' more k' r)
  unfolding spec.super_acted
  refines_super_acted r = chain _ _ _ _ (refines_super_called_on r) (λ piece. chain _ _ _ _ (eat false m.Semicolon) (λ p. done _))

  refines_super_by : (r : Lexeme) (mark : Mark) → Refines same (spec.super_by limit room less k r mark) (spec.super_by limit' room' more k' r mark)
  refines_super_by r m.LeftParen = refines_super_constructed r
  refines_super_by r m.Dot = refines_deeper _ _ (refines_super_acted r)
  refines_super_by r _ = refines_refuse same

  pub refines_super_statement : Refines same (spec.super_statement limit room less k) (spec.super_statement limit' room' more k')
  unfolding spec.super_statement
  refines_super_statement = chain _ _ _ _ (eat false m.Super) (λ r. chain _ _ _ _ (refines_peek same false) (refines_super_by r))

  pub refines_optional_value : (end : Mark) → Refines same (spec.optional_value limit room less k end) (spec.optional_value limit' room' more k' end)
  unfolding spec.optional_value
  refines_optional_value end = chain _ _ _ _ (refines_peek same false) (λ mark. refines_if same (same_mark mark end) _ _ _ _ (done spec.no_value)
      (chain _ _ _ _ (whole false) (λ e. done (spec.some_value e))))

  pub refines_condition : Refines same (spec.condition limit room less k) (spec.condition limit' room' more k')
  unfolding spec.condition
  refines_condition = chain _ _ _ _ (eat false m.LeftParen) (λ p. chain _ _ _ _ (whole false) (λ e. chain _ _ _ _ (eat false m.RightParen) (λ q. done e)))

  refines_invariant : Refines same (spec.invariant limit room less k) (spec.invariant limit' room' more k')
  unfolding spec.invariant
  refines_invariant = chain _ _ _ _ (take is_invariant) (λ x. chain _ _ _ _ (whole true) (λ e. chain _ _ _ _ (eat true m.Semicolon) (λ p. done _)))

  pub refines_invariants : Refines same (spec.invariants limit room less k) (spec.invariants limit' room' more k')
  unfolding spec.invariants
  refines_invariants = refines_until same _ (by_next is_invariant) with_more _ _ refines_invariant limit limit' limits no_items

  pub refines_returned : Refines same (spec.returned limit room less k) (spec.returned limit' room' more k')
  unfolding spec.returned
  refines_returned = chain _ _ _ _ (take (is_word (codes "return") false)) (λ r. chain _ _ _ _ (refines_optional_value m.Semicolon) (λ e.
      chain _ _ _ _ (eat false m.Semicolon) (λ p. done _)))

  pub refines_thrown : Refines same (spec.thrown limit room less k) (spec.thrown limit' room' more k')
  unfolding spec.thrown
  refines_thrown = chain _ _ _ _ (take (is_word (codes "throw") false)) (λ r. chain _ _ _ _ (whole false) (λ e. chain _ _ _ _ (eat false m.Semicolon) (λ p. done _)))

  pub refines_broken : Refines same (spec.broken limit room less k) (spec.broken limit' room' more k')
  unfolding spec.broken
  refines_broken = chain _ _ _ _ (take (is_word (codes "break") false)) (λ r. chain _ _ _ _ (eat false m.Semicolon) (λ p. done _))

  pub refines_continued : Refines same (spec.continued limit room less k) (spec.continued limit' room' more k')
  unfolding spec.continued
  refines_continued = chain _ _ _ _ (take (is_word (codes "continue") false)) (λ r. chain _ _ _ _ (eat false m.Semicolon) (λ p. done _))

  pub refines_nothing : Refines same (spec.nothing limit room less k) (spec.nothing limit' room' more k')
  unfolding spec.nothing
  refines_nothing = chain _ _ _ _ (eat false m.Semicolon) (λ p. done _)

  pub refines_asserted : Refines same (spec.asserted limit room less k) (spec.asserted limit' room' more k')
  unfolding spec.asserted
  refines_asserted = chain _ _ _ _ (take (is_word (codes "assert") true)) (λ r. chain _ _ _ _ (whole true) (λ e. chain _ _ _ _ (eat true m.Semicolon) (λ p. done _)))

  pub refines_set : Refines same (spec.set_ limit room less k) (spec.set_ limit' room' more k')
  unfolding spec.set_
  refines_set = chain _ _ _ _ (take (is_word (codes "set") true)) (λ r. chain _ _ _ _ (refines_target true) (λ a.
      chain _ _ _ _ (take (is_sign (codes "=") true)) (λ q. chain _ _ _ _ (whole true) (λ e. chain _ _ _ _ (eat true m.Semicolon) (λ p. done _)))))

  refines_ghost_head : Refines same (spec.ghost_head limit room less k) (spec.ghost_head limit' room' more k')
  unfolding spec.ghost_head
  refines_ghost_head = chain _ _ _ _ (take (is_word (codes "ghost") true)) (λ r. chain _ _ _ _ (refines_type true) (λ t. chain _ _ _ _ (eat true m.Name) (λ x.
      chain _ _ _ _ (take (is_sign (codes "=") true)) (λ q. done _))))

  pub refines_ghost : Refines same (spec.ghost_ limit room less k) (spec.ghost_ limit' room' more k')
  unfolding spec.ghost_
  refines_ghost = chain _ _ _ _ refines_ghost_head (λ start. chain _ _ _ _ (whole true) (λ e. chain _ _ _ _ (eat true m.Semicolon) (λ p. done _)))

  pub refines_for_first : Refines same (spec.for_first limit room less k) (spec.for_first limit' room' more k')
  unfolding spec.for_first
  refines_for_first = chain _ _ _ _ (refines_peek same false) (λ mark. refines_if same (same_mark mark m.Semicolon) _ _ _ _ (done spec.no_part)
      (chain _ _ _ _ (refines_simple true false) (λ piece. done (spec.part_of piece))))

  pub refines_for_last : Refines same (spec.for_last limit room less k) (spec.for_last limit' room' more k')
  unfolding spec.for_last
  refines_for_last = chain _ _ _ _ (refines_peek same false) (λ mark. refines_if same (same_mark mark m.RightParen) _ _ _ _ (done spec.no_part)
      (chain _ _ _ _ (refines_simple false true) (λ piece. done (spec.part_of piece))))
