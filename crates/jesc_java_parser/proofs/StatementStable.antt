-- A parser of statements with more room answers the same.
use Rattle.std.proofs.Common.{◌≡◌, ℕ, zero, suc, ◌-◌, ◌≤◌, Bool, true, false, List, [], Ok, Err, length, refl, ap, arith}
use Rattle.std.specs.Prelude.{if◌then◌else◌, ◌||◌, codes}
use Rattle.jesc_ast.specs.Lexemes.{Lexeme}
use Rattle.jesc_ast.specs.Trees.{Statement, Clause, Catch}
use Rattle.jesc_jml_grammar.specs.declared.mark.Mark.{Mark}
use Rattle.jesc_jml_grammar.specs.declared.mark.Mark.TheVariants as m
use Rattle.jesc_jml_grammar.specs.declared.fault.Fault.TheVariants.{Unexpected}
use Rattle.jesc_jml_grammar.specs.Steps.{Parser, mark_at, too_deep, refuse, same_mark, ◌>>=◌, expect}
use Rattle.jesc_jml_grammar.specs.Reading.{Parsed, Start, at_first, opens_at, is_type_mark}
use Rattle.jesc_jml_grammar.specs.laws.Refining.{Refines, refines_pure, refines_refuse, refines_deep, refines_peek, refines_bind, refines_if, refines_expect, mark_at-head}
use Rattle.jesc_jml_grammar.specs.ClauseFound.{Sized, no_items, with_more}
use Rattle.jesc_jml_grammar.specs.laws.ListRefining.{refines_until}
use Rattle.jesc_java_grammar.specs.declared.statement_mark.StatementMark.{StatementMark}
use Rattle.jesc_java_grammar.specs.declared.statement_mark.StatementMark.TheVariants as s
use Rattle.jesc_java_grammar.specs.declared.statement_mark.Slot.{Slot}
use Rattle.jesc_java_grammar.specs.declared.statement_mark.Slot.TheVariants as slots
use Rattle.jesc_java_grammar.specs.Lexing.{is_word, is_sign, take_if}
use Rattle.jesc_java_grammar.specs.StatementMarks.{statement_mark_at, allows_branch, allows_loop, begins_plain, begins}
use Rattle.jesc_java_grammar.specs.StatementReading as spec
use Rattle.jesc_java_parser.proofs.LexingStable.{statement_mark_at-head, by_next, by_brace, refines_see_if, refines_take_if, refines_peek_statement}
use Rattle.jesc_java_parser.proofs.PartStable.{refines_deeper, refines_simple_statement, refines_super_statement, refines_optional_value, refines_condition, refines_invariants, refines_returned, refines_thrown, refines_broken, refines_continued, refines_nothing, refines_asserted, refines_set, refines_ghost, refines_for_first, refines_for_last}

-- ---- statements

module _ (same : Bool) (limit limit' : ℕ) (limits : limit ≤ limit') (room room' : ℕ) (rooms : room ≤ room') (same_rooms : same ≡ true → room ≡ room')
    (less more : Bool → ℕ → ℕ → ℕ → Start → Parser Parsed)
    (h : (note : Bool) (r r' : ℕ) → r ≤ r' → (same ≡ true → r ≡ r') → (n n' : ℕ) → n ≤ n' → (same ≡ true → n ≡ n') → (least : ℕ) (start : Start)
    → Refines same (less note r n least start) (more note r' n' least start))
    (k k' : ℕ) (ks : k ≤ k') (same_ks : same ≡ true → k ≡ k') (f g : Slot → Parser (Sized Statement)) (inside : (slot : Slot) → Refines same (f slot) (g slot)) where
  link : {A B : Type 0} (p q : Parser A) (f g : A → Parser B) → Refines same p q → ((x : A) → Refines same (f x) (g x)) → Refines same (p >>= f) (q >>= g)
  link = refines_bind same

  taking : (test : Lexeme → Bool) → Refines same (take_if test) (take_if test)
  taking = refines_take_if same

  taken : (note : Bool) (mark : Mark) → Refines same (expect note mark) (expect note mark)
  taken = refines_expect same

  refines_deeper_statement : (p q : Parser (Sized Statement)) → Refines same p q
      → Refines same (spec.deeper_statement limit room less k f p) (spec.deeper_statement limit' room' more k' g q)
  refines_deeper_statement p q hp = refines_deeper same limit limit' limits room room' rooms same_rooms less more h k k' ks same_ks p q hp

  test_refines : Refines same (spec.condition limit room less k) (spec.condition limit' room' more k')
  test_refines = refines_condition same limit limit' limits room room' rooms same_rooms less more h k k' ks same_ks

  below : room - 1 ≤ room' - 1
  below = omega arith

  same_below : same ≡ true → room - 1 ≡ room' - 1
  same_below s = ap (λ (n : ℕ). n - 1) (same_rooms s)

  refines_statements : (first : Sized (List Statement)) → Refines same (spec.statements limit room less k f first) (spec.statements limit' room' more k' g first)
  unfolding spec.statements
  refines_statements first = refines_until same _ by_brace with_more _ _ (inside slots.Any) limit limit' limits first

  refines_body_rest : (first : Sized (List Statement)) → Refines same (spec.body_rest limit room less k f first) (spec.body_rest limit' room' more k' g first)
  unfolding spec.body_rest
  refines_body_rest first = link _ _ _ _ (refines_statements first) (λ ss. link _ _ _ _ (taking (is_sign (codes "}") false)) (λ q. refines_pure same _))

  pub refines_braced : Refines same (spec.braced limit room less k f) (spec.braced limit' room' more k' g)
  unfolding spec.braced
  refines_braced = link _ _ _ _ (taking (is_sign (codes "{") false)) (λ p. refines_body_rest no_items)

  refines_block : Refines same (spec.block_ limit room less k f) (spec.block_ limit' room' more k' g)
  unfolding spec.block_
  refines_block = link _ _ _ _ (taking (is_sign (codes "{") false)) (λ p. link _ _ _ _ (refines_body_rest no_items) (λ b. refines_pure same _))

  refines_super_first : Refines same (spec.super_first limit room less k f) (spec.super_first limit' room' more k' g)
  unfolding spec.super_first
  refines_super_first = link _ _ _ _ (refines_super_statement same limit limit' limits (room - 1) (room' - 1) below same_below less more h k k' ks same_ks)
      (λ t. refines_body_rest (with_more no_items t))

  pub refines_constructor_body : Refines same (spec.constructor_body limit room less k f) (spec.constructor_body limit' room' more k' g)
  unfolding spec.constructor_body
  refines_constructor_body = link _ _ _ _ (taking (is_sign (codes "{") false)) (λ p. link _ _ _ _ (refines_peek same false)
      (λ mark. refines_if same (same_mark mark m.Super) _ _ _ _
      (refines_deeper same limit limit' limits room room' rooms same_rooms less more h k k' ks same_ks _ _ refines_super_first) (refines_body_rest no_items)))

  refines_otherwise : (r : Lexeme) (test : Parsed) (first : Sized Statement)
      → Refines same (spec.otherwise limit room less k f r test first) (spec.otherwise limit' room' more k' g r test first)
  unfolding spec.otherwise
  refines_otherwise r test first = link _ _ _ _ (taking (is_word (codes "else") false)) (λ e. link _ _ _ _ (inside slots.Else) (λ other. refines_pure same _))

  refines_branch_behind : (r : Lexeme) (test : Parsed) (first : Sized Statement)
      → Refines same (spec.branch_behind limit room less k f r test first) (spec.branch_behind limit' room' more k' g r test first)
  unfolding spec.branch_behind
  refines_branch_behind r test first = link _ _ _ _ (refines_see_if same (is_word (codes "else") false))
      (λ other. refines_if same other _ _ _ _ (refines_otherwise r test first) (refines_pure same (spec.branch_of r test first)))

  refines_branch : Refines same (spec.branch_ limit room less k f) (spec.branch_ limit' room' more k' g)
  unfolding spec.branch_
  refines_branch = link _ _ _ _ (taking (is_word (codes "if") false)) (λ r. link _ _ _ _ test_refines (λ test. link _ _ _ _ (inside slots.Then)
      (λ first. refines_branch_behind r test first)))

  refines_while : (cs : Sized (List Clause)) → Refines same (spec.while_ limit room less k f cs) (spec.while_ limit' room' more k' g cs)
  unfolding spec.while_
  refines_while cs = link _ _ _ _ (taking (is_word (codes "while") false)) (λ r. link _ _ _ _ test_refines (λ test. link _ _ _ _ (inside slots.Then)
      (λ turn. refines_pure same _)))

  refines_for_head : Refines same (spec.for_head limit room less k f) (spec.for_head limit' room' more k' g)
  unfolding spec.for_head
  refines_for_head = link _ _ _ _ (taken false m.LeftParen) (λ p.
      link _ _ _ _ (refines_for_first same limit limit' limits (room - 1) (room' - 1) below same_below less more h k k' ks same_ks) (λ first.
      link _ _ _ _ (taken false m.Semicolon) (λ a.
      link _ _ _ _ (refines_optional_value same limit limit' limits room room' rooms same_rooms less more h k k' ks same_ks m.Semicolon) (λ test.
      link _ _ _ _ (taken false m.Semicolon) (λ b.
      link _ _ _ _ (refines_for_last same limit limit' limits (room - 1) (room' - 1) below same_below less more h k k' ks same_ks) (λ last.
      link _ _ _ _ (taken false m.RightParen) (λ q. refines_pure same _)))))))

  refines_for : (cs : Sized (List Clause)) → Refines same (spec.for_ limit room less k f cs) (spec.for_ limit' room' more k' g cs)
  unfolding spec.for_
  refines_for cs = link _ _ _ _ (taking (is_word (codes "for") false)) (λ r. link _ _ _ _ refines_for_head (λ heading. link _ _ _ _ (inside slots.Then)
      (λ turn. refines_pure same _)))

  refines_loop_by : (cs : Sized (List Clause)) (mark : StatementMark) → Refines same (spec.loop_by limit room less k f cs mark) (spec.loop_by limit' room' more k' g cs mark)
  refines_loop_by cs s.While = refines_while cs
  refines_loop_by cs s.For = refines_for cs
  refines_loop_by cs _ = refines_refuse same

  refines_loop : Refines same (spec.loop_ limit room less k f) (spec.loop_ limit' room' more k' g)
  unfolding spec.loop_
  refines_loop = link _ _ _ _ (refines_invariants same limit limit' limits room room' rooms same_rooms less more h k k' ks same_ks)
      (λ cs. link _ _ _ _ (refines_peek_statement same) (refines_loop_by cs))

  refines_optional_final : Refines same (spec.optional_final limit room less k f) (spec.optional_final limit' room' more k' g)
  unfolding spec.optional_final
  refines_optional_final = link _ _ _ _ (refines_see_if same (is_word (codes "final") false)) (λ there. refines_if same there _ _ _ _
      (link _ _ _ _ (taking (is_word (codes "final") false)) (λ x. refines_pure same true)) (refines_pure same false))

  refines_catch_head : Refines same (spec.catch_head limit room less k f) (spec.catch_head limit' room' more k' g)
  unfolding spec.catch_head
  refines_catch_head = link _ _ _ _ (taking (is_word (codes "catch") false)) (λ r. link _ _ _ _ (taken false m.LeftParen) (λ p.
      link _ _ _ _ refines_optional_final (λ is_final. link _ _ _ _ (taken false m.Name) (λ x. link _ _ _ _ (taken false m.Name) (λ y.
      link _ _ _ _ (taken false m.RightParen) (λ q. refines_pure same _))))))

  refines_catch : Refines same (spec.catch_ limit room less k f) (spec.catch_ limit' room' more k' g)
  unfolding spec.catch_
  refines_catch = link _ _ _ _ refines_catch_head (λ heading. link _ _ _ _ refines_braced (λ b. refines_pure same _))

  refines_catches : (first : Sized (List Catch)) → Refines same (spec.catches limit room less k f first) (spec.catches limit' room' more k' g first)
  unfolding spec.catches
  refines_catches first = refines_until same _ (by_next (is_word (codes "catch") false)) with_more _ _ refines_catch limit limit' limits first

  refines_some_catches : Refines same (spec.some_catches limit room less k f) (spec.some_catches limit' room' more k' g)
  unfolding spec.some_catches
  refines_some_catches = link _ _ _ _ refines_catch (λ c. refines_catches (with_more no_items c))

  refines_attempt : Refines same (spec.attempt_ limit room less k f) (spec.attempt_ limit' room' more k' g)
  unfolding spec.attempt_
  refines_attempt = link _ _ _ _ (taking (is_word (codes "try") false)) (λ r. link _ _ _ _ refines_braced (λ b. link _ _ _ _ refines_some_catches
      (λ cs. refines_pure same _)))

  refines_looping : (slot : Slot) → Refines same (spec.looping limit room less k f slot) (spec.looping limit' room' more k' g slot)
  refines_looping slot = refines_if same (allows_loop slot) _ _ _ _ (refines_deeper_statement _ _ refines_loop) (refines_refuse same)

  simple : Refines same (spec.simple_statement limit room less k) (spec.simple_statement limit' room' more k')
  simple = refines_simple_statement same limit limit' limits room room' rooms same_rooms less more h k k' ks same_ks

  refines_other_by : (mark : Mark) → Refines same (spec.other_by limit room less k f mark) (spec.other_by limit' room' more k' g mark)
  refines_other_by m.Semicolon = refines_nothing same limit limit' limits room room' rooms same_rooms less more h k k' ks same_ks
  refines_other_by _ = simple

  refines_other_statement : Refines same (spec.other_statement limit room less k f) (spec.other_statement limit' room' more k' g)
  unfolding spec.other_statement
  refines_other_statement = link _ _ _ _ (refines_peek same false) refines_other_by

  refines_statement_by : (slot : Slot) (mark : StatementMark)
      → Refines same (spec.statement_by limit room less k f slot mark) (spec.statement_by limit' room' more k' g slot mark)
  refines_statement_by slot s.LeftBrace = refines_block
  refines_statement_by slot s.If = refines_if same (allows_branch slot) _ _ _ _ (refines_deeper_statement _ _ refines_branch) (refines_refuse same)
  refines_statement_by slot s.While = refines_looping slot
  refines_statement_by slot s.For = refines_looping slot
  refines_statement_by slot s.Invariant = refines_looping slot
  refines_statement_by slot s.Return = refines_returned same limit limit' limits room room' rooms same_rooms less more h k k' ks same_ks
  refines_statement_by slot s.Throw = refines_deeper_statement _ _ (refines_thrown same limit limit' limits room room' rooms same_rooms less more h k k' ks same_ks)
  refines_statement_by slot s.Break = refines_broken same limit limit' limits room room' rooms same_rooms less more h k k' ks same_ks
  refines_statement_by slot s.Continue = refines_continued same limit limit' limits room room' rooms same_rooms less more h k k' ks same_ks
  refines_statement_by slot s.Try = refines_attempt
  refines_statement_by slot s.Assert = refines_deeper_statement _ _ (refines_asserted same limit limit' limits room room' rooms same_rooms less more h k k' ks same_ks)
  refines_statement_by slot s.Set = refines_deeper_statement _ _ (refines_set same limit limit' limits room room' rooms same_rooms less more h k k' ks same_ks)
  refines_statement_by slot s.Ghost = refines_deeper_statement _ _ (refines_ghost same limit limit' limits room room' rooms same_rooms less more h k k' ks same_ks)
  refines_statement_by slot s.Final = simple
  refines_statement_by slot s.Step = simple
  refines_statement_by slot s.Other = refines_other_statement
  refines_statement_by slot _ = refines_refuse same

  pub refines_begun : (slot : Slot) → Refines same (spec.begun limit room less k f slot) (spec.begun limit' room' more k' g slot)
  unfolding spec.begun
  refines_begun slot = link _ _ _ _ (refines_peek_statement same) (refines_statement_by slot)

-- ---- where no statement has room

or_right : (a b : Bool) → (a || b) ≡ false → b ≡ false
or_right true b e = absurd cc
or_right false b e = e

closed : (mark : Mark) → begins_plain mark ≡ false → opens_at 13 mark ≡ false
closed m.Semicolon e = absurd cc
closed mark e = or_right (is_type_mark mark) (opens_at 13 mark) e

no_paren : (mark : Mark) → opens_at 13 mark ≡ false → same_mark mark m.LeftParen ≡ false
unfolding same_mark
no_paren m.LeftParen e = absurd cc
no_paren _ e = refl

module _ (limit room : ℕ) (more : Bool → ℕ → ℕ → ℕ → Start → Parser Parsed) (k : ℕ) (g : Slot → Parser (Sized Statement)) (ts : List Lexeme)
    (shut : opens_at 13 (mark_at false ts) ≡ false → more false (room - 1) k 13 at_first ts ≡ Err (Unexpected (length ts))) where
  shut_first : opens_at 13 (mark_at false ts) ≡ false → spec.headed_first limit room more k false ts ≡ Err (Unexpected (length ts))
  unfolding spec.headed_first
  shut_first e = rw (no_paren (mark_at false ts) e) (shut e)

  shut_headed : opens_at 13 (mark_at false ts) ≡ false → spec.headed_act limit room more k true ts ≡ Err (Unexpected (length ts))
  unfolding spec.headed_act spec.headed
  shut_headed e = rw (shut_first e) refl

  shut_plain : (mark : Mark) → begins_plain mark ≡ false → spec.headed_act limit room more k true ts ≡ Err (Unexpected (length ts))
      → spec.plain_by limit room more k true true mark ts ≡ Err (Unexpected (length ts))
  shut_plain m.Name e headed = absurd cc
  shut_plain m.Int e headed = absurd cc
  shut_plain m.Long e headed = absurd cc
  shut_plain m.Boolean e headed = absurd cc
  shut_plain m.Super e headed = absurd cc
  shut_plain _ e headed = headed

  shut_simple : statement_mark_at ts ≡ s.Other → begins_plain (mark_at false ts) ≡ false
      → spec.simple_statement limit room more k ts ≡ Err (Unexpected (length ts))
  unfolding spec.simple_statement spec.simple spec.plain
  shut_simple other e = rw other (rw (shut_plain (mark_at false ts) e (shut_headed (closed (mark_at false ts) e))) refl)

  shut_other_by : (mark : Mark) → begins_plain mark ≡ false → spec.simple_statement limit room more k ts ≡ Err (Unexpected (length ts))
      → spec.other_by limit room more k g mark ts ≡ Err (Unexpected (length ts))
  shut_other_by m.Semicolon e simple = absurd cc
  shut_other_by _ e simple = simple

  shut_by : (slot : Slot) (mark : StatementMark) → statement_mark_at ts ≡ mark → begins slot mark (mark_at false ts) ≡ false
      → spec.statement_by limit room more k g slot mark ts ≡ Err (Unexpected (length ts))
  unfolding spec.other_statement
  shut_by slot s.If is e = rw e refl
  shut_by slot s.While is e = rw e refl
  shut_by slot s.For is e = rw e refl
  shut_by slot s.Invariant is e = rw e refl
  shut_by slot s.Other is e = shut_other_by (mark_at false ts) e (shut_simple is e)
  shut_by slot s.RightBrace is e = refl
  shut_by slot s.Else is e = refl
  shut_by slot s.Catch is e = refl
  shut_by slot s.Assign is e = refl
  shut_by slot _ is e = absurd cc

  shut_begun : (slot : Slot) → begins slot (statement_mark_at ts) (mark_at false ts) ≡ false
      → spec.begun limit room more k g slot ts ≡ Err (Unexpected (length ts))
  unfolding spec.begun
  shut_begun slot e = shut_by slot (statement_mark_at ts) refl e

stopped : (b : Bool) (ts : List Lexeme) (n : ℕ) → (if b then too_deep {A = Sized Statement} else refuse) ts ≡ Err (Unexpected n) → (b ≡ false) × (n ≡ length ts)
stopped true ts n e = absurd cc
stopped false ts n e = (refl, cc)

not_done : (b : Bool) (ts rest : List Lexeme) (x : Sized Statement) → (if b then too_deep {A = Sized Statement} else refuse) ts ≡ Ok (x, rest) → ⊥
not_done true ts rest x e = cc
not_done false ts rest x e = cc

-- An expression that the lexeme can't begin is refused there.
abbrev pub Shuts : (Bool → ℕ → ℕ → ℕ → Start → Parser Parsed) → Type 0
Shuts more = (note : Bool) (room k least : ℕ) (ts : List Lexeme) → opens_at least (mark_at note ts) ≡ false → more note room k least at_first ts ≡ Err (Unexpected (length ts))

refines_no_room : (same : Bool) (limit room : ℕ) (more : Bool → ℕ → ℕ → ℕ → Start → Parser Parsed) → Shuts more → (k : ℕ) (g : Slot → Parser (Sized Statement)) (slot : Slot)
    → (same ≡ true → ⊥) → Refines same (spec.no_room slot) (spec.begun limit room more k g slot)
unfolding spec.no_room
refines_no_room same limit room more shut k g slot other = record {
  oks = λ ts rest x e. absurd (not_done (begins slot (statement_mark_at ts) (mark_at false ts)) ts rest x e);
  errs = λ ts n e.
      let at = stopped (begins slot (statement_mark_at ts) (mark_at false ts)) ts n e in
      record {
        taken = [];
        rest = ts;
        parts = refl;
        left = at.1;
        again = λ others next.
            let closed : begins slot (statement_mark_at others) (mark_at false others) ≡ false =
            rw (statement_mark_at-head ts others next) (rw (mark_at-head false ts others next) (at.0)) in
            shut_begun limit room more k g others (λ e. shut false (room - 1) k 13 others e) slot closed;
      };
  deeps = λ s ts n e. absurd (other s);
}

module _ (same : Bool) (limit limit' : ℕ) (limits : limit ≤ limit') (less more : Bool → ℕ → ℕ → ℕ → Start → Parser Parsed)
    (h : (note : Bool) (r r' : ℕ) → r ≤ r' → (same ≡ true → r ≡ r') → (n n' : ℕ) → n ≤ n' → (same ≡ true → n ≡ n') → (least : ℕ) (start : Start)
    → Refines same (less note r n least start) (more note r' n' least start))
    (shut : Shuts more) (k k' : ℕ) (ks : k ≤ k') (same_ks : same ≡ true → k ≡ k') where
  -- more room, the same answer
  pub refines_statement : (room room' : ℕ) → room ≤ room' → (same ≡ true → room ≡ room') → (slot : Slot)
      → Refines same (spec.statement limit less k room slot) (spec.statement limit' more k' room' slot)
  unfolding spec.statement spec.no_room
  refines_statement zero zero rooms sr slot =
      refines_bind same _ _ _ _ (refines_peek_statement same) (λ mark. refines_bind same _ _ _ _ (refines_peek same false)
      (λ plain. refines_if same (begins slot mark plain) _ _ _ _ (refines_deep same) (refines_refuse same)))
  refines_statement zero (suc room') rooms sr slot =
      refines_no_room same limit' room' more shut k' (spec.statement limit' more k' room') slot (λ e. absurd (omega (arith, sr e)))
  refines_statement (suc room) zero rooms sr slot = absurd (omega arith)
  refines_statement (suc room) (suc room') rooms sr slot =
      refines_begun same limit limit' limits room room' (omega arith) (λ e. omega (arith, sr e)) less more h k k' ks same_ks (spec.statement limit less k room)
      (spec.statement limit' more k' room') (refines_statement room room' (omega arith) (λ e. omega (arith, sr e))) slot
