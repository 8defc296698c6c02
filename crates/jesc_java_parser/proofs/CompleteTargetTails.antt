-- What is read as a target with one node of room above each call's arguments is read so with two.
use Rattle.std.proofs.Common.{◌≡◌, ℕ, zero, suc, ◌+◌, ◌-◌, ◌≤◌, ◌<◌, max, Bool, true, false, List, [], ◌∷◌, ◌++◌, length, length-append, Ok, Err, refl, sym, ap, ap₂, ◌∙◌, subst, append_assoc, arith, inl, inr}
use Rattle.std.specs.Prelude.{nat_lt, nat_le}
use Rattle.std.proofs.lemmas.Bool.{cases_Bool, and_parts, leb-true, lt-ltb}
use Rattle.jesc_text.specs.declared.place.Span.{Span}
use Rattle.jesc_ast.specs.Lexemes.{Lexeme, sign, join}
use Rattle.jesc_ast.specs.Trees.{name, member, call, Receiver, implied, on, Expressions, expressions_of, list_of}
use Rattle.jesc_ast.specs.Expressions.{span_of, SpellsArguments}
use Rattle.jesc_ast.specs.Depth.{greatest_depth, greatest_nesting}
use Rattle.jesc_ast.specs.Statements.{is_target}
use Rattle.jesc_jml_grammar.specs.declared.fault.Fault.TheVariants.{Deep}
use Rattle.jesc_jml_grammar.specs.declared.mark.Mark.{Mark}
use Rattle.jesc_jml_grammar.specs.declared.mark.Mark.TheVariants as m
use Rattle.jesc_jml_grammar.specs.Marks.{lexeme_mark}
use Rattle.jesc_jml_grammar.specs.Steps.{Outcome, Parser, and_then, ◌>>=◌, mark_at, same_mark, expect}
use Rattle.jesc_jml_grammar.specs.laws.Refining.{bind_ok, ok_is}
use Rattle.jesc_jml_grammar.specs.Reading as reading
use Rattle.jesc_jml_grammar.specs.Reading.{Parsed, Listed, Start, at_first, behind_name, behind_bracket, word_of, leaf, over, call_of, binds, needs, grows, expr}
use Rattle.jesc_jml_parser.specs.laws.Stable.{refines_climb, refines_expr}
use Rattle.jesc_jml_parser.specs.laws.SoundMarks.{marked}
use Rattle.jesc_jml_parser.specs.laws.SoundSteps.{Gives, gives_bind, gives_so, gives_ok, Took, took, Taken}
use Rattle.jesc_jml_parser.specs.laws.SoundCalls.{TakenCall, called_takes}
use Rattle.jesc_jml_parser.specs.laws.Sound.{expr_takes}
use Rattle.jesc_jml_parser.specs.laws.CompleteArguments.{called_is, expressions_of_list, finished}
use Rattle.jesc_jml_parser.specs.laws.Complete.{arguments_complete}
use Rattle.jesc_java_grammar.specs.FileReading.{expression_of}
use Rattle.jesc_java_grammar.specs.StatementReading as spec
use Rattle.jesc_java_parser.proofs.PieceSound.{headed_first_takes}

-- what an answer is, which leaves no more lexemes than there were
record IsRead (answer : Outcome Parsed) (ts : List Lexeme) (p : Parsed) (rest : List Lexeme) : Type 0 where
  shorter : length rest ≤ length ts
  is : answer ≡ Ok (p, rest)

-- ---- calls

abbrev made : Span → Receiver → ℕ → Lexeme → Span → List Lexeme → Expressions → ℕ → Outcome Parsed
made first r d x q rest es n = finished (record { tree = call (join first q) r (word_of x) es; depth = max d n + 1; strength = 12 }) rest

-- arguments in parentheses are read where there is room for them
call_read : (note : Bool) (limit room quantifiers : ℕ) (first : Span) (r : Receiver) (d : ℕ) (x left right : Lexeme) (part : List Lexeme) (es : Listed) (rest : List Lexeme)
    → lexeme_mark note left ≡ m.LeftParen → lexeme_mark note right ≡ m.RightParen → SpellsArguments note (expressions_of es.trees) part → length part < limit
    → greatest_depth (expressions_of es.trees) ≡ es.depth → es.depth ≤ room → greatest_nesting (expressions_of es.trees) ≤ quantifiers
    → reading.called note limit room (expr note limit room) quantifiers first r d x (left ∷ (part ++ right ∷ rest)) ≡ Ok (call_of first r d x es right, rest)
call_read note limit room quantifiers first r d x left right part es rest at to spelled short same deep flat =
    rw (marked note m.LeftParen left at, marked note m.RightParen right to)
    (called_is note limit room (expr note limit room) quantifiers first r d x left.span right.span
    (record { trees = list_of (expressions_of es.trees); depth = greatest_depth (expressions_of es.trees) }) (part ++ sign note ")" right.span ∷ rest) rest
    ((arguments_complete note limit spelled short).is room quantifiers right.span rest (omega (arith, same)) flat)
    ∙ ap₂ (made first r d x right.span rest) (expressions_of_list (expressions_of es.trees)) same)

module _ (note : Bool) (limit room quantifiers : ℕ) (first : Span) (r : Receiver) (d : ℕ) (x : Lexeme) (ts rest : List Lexeme) (p : Parsed) where
  abbrev IsCall : Type 0
  IsCall = reading.called note limit room (expr note limit room) quantifiers first r d x ts ≡ Ok (p, rest)

  call_found : IsCall → TakenCall note room quantifiers first r d x ts p rest
  call_found read =
      gives_ok (reading.called note limit room (expr note limit room) quantifiers first r d x ts) (TakenCall note room quantifiers first r d x ts) p rest
      (called_takes note limit room (expr note limit room) (λ k least some start known us. expr_takes note limit room k least some start known us) quantifiers first r d x ts) read

  call_deep : (h : TakenCall note room quantifiers first r d x ts p rest) → p.depth ≡ max d h.trees.depth + 1
  call_deep h = ap (λ (z : Parsed). z.depth) h.made

  no_target : TakenCall note room quantifiers first r d x ts p rest → is_target p.tree ≡ false
  no_target h = ap (λ (z : Parsed). is_target z.tree) h.made

  call_shorter : TakenCall note room quantifiers first r d x ts p rest → length rest ≤ length ts
  call_shorter h = omega (arith, ap length h.parts, length-append (h.part ++ h.right ∷ []) rest)

  part_shorter : (h : TakenCall note room quantifiers first r d x ts p rest) → length ts ≤ length rest + limit → length h.part < limit
  part_shorter h few = omega (arith, ap length h.parts, length-append (h.part ++ h.right ∷ []) rest, length-append h.part (h.right ∷ []))

-- with one node less of room, where the call is not so deep
call_lower : (note : Bool) (limit room quantifiers : ℕ) (first : Span) (r : Receiver) (d : ℕ) (x : Lexeme) (ts rest : List Lexeme) (p : Parsed)
    → IsCall note limit (suc room) quantifiers first r d x ts rest p → p.depth ≤ suc room → length ts ≤ length rest + limit
    → IsCall note limit room quantifiers first r d x ts rest p
call_lower note limit room quantifiers first r d x ts rest p read deep few =
    let h = call_found note limit (suc room) quantifiers first r d x ts rest p read in
    let nodes = call_deep note limit (suc room) quantifiers first r d x ts rest p h in
    ap (reading.called note limit room (expr note limit room) quantifiers first r d x)
    (h.parts ∙ ap (λ (z : List Lexeme). h.left ∷ z) (append_assoc h.part (h.right ∷ []) rest))
    ∙ call_read note limit room quantifiers first r d x h.left h.right h.part h.trees rest h.left_mark h.right_mark h.is.spelled
    (part_shorter note limit (suc room) quantifiers first r d x ts rest p h few) h.is.deep (omega (arith, nodes)) h.is.flat
    ∙ ap (λ (z : Parsed). finished z rest) (sym h.made)

-- two nodes below, where there is one above it
call_under : (note : Bool) (limit room quantifiers : ℕ) (first : Span) (r : Receiver) (d : ℕ) (x : Lexeme) (ts rest : List Lexeme) (p : Parsed)
    → IsCall note limit room quantifiers first r d x ts rest p → p.depth ≤ room → length ts ≤ length rest + limit
    → spec.called_under limit (suc room) (expression_of limit) quantifiers note first r d x ts ≡ Ok (p, rest)
unfolding spec.called_under
call_under note limit zero quantifiers first r d x ts rest p read deep few =
    let h = call_found note limit zero quantifiers first r d x ts rest p read in
    absurd (omega (arith, call_deep note limit zero quantifiers first r d x ts rest p h))
call_under note limit (suc room) quantifiers first r d x ts rest p read deep few =
    let h = call_found note limit (suc room) quantifiers first r d x ts rest p read in
    let nodes = call_deep note limit (suc room) quantifiers first r d x ts rest p h in
    let less : suc (suc room) - 2 ≡ room = omega arith in
    rw (lt-ltb (suc d) (suc (suc room)) (omega (arith, nodes)))
    (subst (λ (n : ℕ). IsCall note limit n quantifiers first r d x ts rest p) (sym less) (call_lower note limit room quantifiers first r d x ts rest p read deep few))

-- ---- one turn

module _ (note : Bool) (limit room quantifiers : ℕ) where
  abbrev inner : ℕ → ℕ → Start → Parser Parsed
  inner = expr note limit room

  -- a call that is no target yet
  call_turn : (first : Span) (r : Receiver) (d : ℕ) (x : Lexeme) (ts rest : List Lexeme) (p : Parsed) → IsCall note limit room quantifiers first r d x ts rest p
      → (is_target p.tree ≡ false → p.depth ≤ room) → length ts ≤ length rest + limit
      → IsRead (spec.called_under limit (suc room) (expression_of limit) quantifiers note first r d x ts) ts p rest
  call_turn first r d x ts rest p read fits few =
      let h = call_found note limit room quantifiers first r d x ts rest p read in
      record {
        shorter = call_shorter note limit room quantifiers first r d x ts rest p h;
        is = call_under note limit room quantifiers first r d x ts rest p read (fits (no_target note limit room quantifiers first r d x ts rest p h)) few;
      }

  name_turn : (x : Lexeme) (ts rest : List Lexeme) (p : Parsed) → (is_target p.tree ≡ false → p.depth ≤ room) → length ts ≤ length rest + limit
      → reading.after_name note limit room inner quantifiers x ts ≡ Ok (p, rest)
      → IsRead (spec.target_name limit (suc room) (expression_of limit) quantifiers note x ts) ts p rest
  unfolding reading.after_name spec.target_name
  name_turn x ts rest p fits few read =
      elim (cases_Bool (same_mark (mark_at note ts) m.LeftParen)) [
        | inl there ↦
            let before : reading.after_name note limit room inner quantifiers x ts ≡ reading.called note limit room inner quantifiers x.span implied 0 x ts = rw there refl in
            let now : spec.target_name limit (suc room) (expression_of limit) quantifiers note x ts
            ≡ spec.called_under limit (suc room) (expression_of limit) quantifiers note x.span implied 0 x ts = rw there refl in
            let turn = call_turn x.span implied 0 x ts rest p (sym before ∙ read) fits few in
            record { shorter = turn.shorter; is = now ∙ turn.is }
        | inr none ↦
            let a : Parsed = leaf (name x.span x.text) in
            let before : reading.after_name note limit room inner quantifiers x ts ≡ Ok (a, ts) = rw none refl in
            let now : spec.target_name limit (suc room) (expression_of limit) quantifiers note x ts ≡ Ok (a, ts) = rw none refl in
            let same = ok_is a p ts rest (sym before ∙ read) in
            record { shorter = omega (arith, ap length same.1); is = now ∙ sym before ∙ read }
      ]

  member_turn : (a : Parsed) (dot x : Lexeme) (ts rest : List Lexeme) (p : Parsed) → (is_target p.tree ≡ false → p.depth ≤ room) → length ts ≤ length rest + limit
      → reading.after_member note limit room inner quantifiers a dot x ts ≡ Ok (p, rest)
      → IsRead (spec.target_member limit (suc room) (expression_of limit) quantifiers note a dot x ts) ts p rest
  unfolding reading.after_member spec.target_member
  member_turn a dot x ts rest p fits few read =
      elim (cases_Bool (same_mark (mark_at note ts) m.LeftParen)) [
        | inl there ↦
            let before : reading.after_member note limit room inner quantifiers a dot x ts
            ≡ reading.called note limit room inner quantifiers (span_of a.tree) (on a.tree dot.span) a.depth x ts = rw there refl in
            let now : spec.target_member limit (suc room) (expression_of limit) quantifiers note a dot x ts
            ≡ spec.called_under limit (suc room) (expression_of limit) quantifiers note (span_of a.tree) (on a.tree dot.span) a.depth x ts = rw there refl in
            let turn = call_turn (span_of a.tree) (on a.tree dot.span) a.depth x ts rest p (sym before ∙ read) fits few in
            record { shorter = turn.shorter; is = now ∙ turn.is }
        | inr none ↦
            let b : Parsed = over 12 a (member (join (span_of a.tree) x.span) a.tree dot.span (word_of x)) in
            let before : reading.after_member note limit room inner quantifiers a dot x ts ≡ Ok (b, ts) = rw none refl in
            let now : spec.target_member limit (suc room) (expression_of limit) quantifiers note a dot x ts ≡ Ok (b, ts) = rw none refl in
            let same = ok_is b p ts rest (sym before ∙ read) in
            record { shorter = omega (arith, ap length same.1); is = now ∙ sym before ∙ read }
      ]

  dot_turn : (a : Parsed) (ts rest : List Lexeme) (p : Parsed) → (is_target p.tree ≡ false → p.depth ≤ room) → length ts ≤ length rest + limit
      → reading.dotted note limit room inner quantifiers a ts ≡ Ok (p, rest)
      → IsRead (spec.target_dotted limit (suc room) (expression_of limit) quantifiers note a ts) ts p rest
  unfolding reading.dotted spec.target_dotted
  dot_turn a ts rest p fits few read =
      let one = bind_ok (expect note m.Dot ts) (λ (dot : Lexeme). expect note m.Name >>= (λ (x : Lexeme). reading.after_member note limit room inner quantifiers a dot x)) p rest read in
      let two = bind_ok (expect note m.Name one.1) (λ (x : Lexeme). reading.after_member note limit room inner quantifiers a one.0 x) p rest one.3 in
      let dot = gives_ok (expect note m.Dot ts) (Took note m.Dot ts) one.0 one.1 (took note m.Dot ts) one.2 in
      let named = gives_ok (expect note m.Name one.1) (Took note m.Name one.1) two.0 two.1 (took note m.Name one.1) two.2 in
      let turn = member_turn a one.0 two.0 two.1 rest p fits (omega (arith, ap length dot.at, ap length named.at)) two.3 in
      record {
        shorter = omega (arith, ap length dot.at, ap length named.at, turn.shorter);
        is = rw (one.2, two.2) turn.is;
      }

  abbrev LeavesLess : List Lexeme → Parsed → List Lexeme → Type 0
  LeavesLess ts p rest = length rest ≤ length ts

  index_leaves : (a : Parsed) (b : Lexeme) (ts : List Lexeme) → Gives (reading.indexed_behind note limit room inner quantifiers a b ts) (LeavesLess ts)
  unfolding reading.indexed_behind
  index_leaves a b ts =
      gives_bind _ _ (inner quantifiers 1 at_first ts) (expr_takes note limit room quantifiers 1 (omega arith) at_first tt ts) (λ i mid h.
      gives_bind _ _ (expect note m.RightBracket mid) (took note m.RightBracket mid) (λ q rest right.
      omega (arith, ap length h.parts, length-append h.taken mid, ap length right.at)))

  bracket_leaves : (a : Parsed) (ts : List Lexeme) → Gives (reading.indexed note limit room inner quantifiers a ts) (LeavesLess ts)
  unfolding reading.indexed reading.indexed_behind
  bracket_leaves a ts =
      gives_bind _ _ (expect note m.LeftBracket ts) (took note m.LeftBracket ts) (λ b t1 left.
      gives_bind _ _ (inner quantifiers 1 at_first t1) (expr_takes note limit room quantifiers 1 (omega arith) at_first tt t1) (λ i t2 h.
      gives_bind _ _ (expect note m.RightBracket t2) (took note m.RightBracket t2) (λ q rest right.
      omega (arith, ap length left.at, ap length h.parts, length-append h.taken t2, ap length right.at))))

  turn_read : (mark : Mark) → 11 ≤ binds mark → (a : Parsed) (ts rest : List Lexeme) (p : Parsed) → (is_target p.tree ≡ false → p.depth ≤ room) → length ts ≤ length rest + limit
      → reading.longer_by note limit room inner quantifiers a mark ts ≡ Ok (p, rest)
      → IsRead (spec.target_longer_by limit (suc room) (expression_of limit) quantifiers note a mark ts) ts p rest
  turn_read m.Dot tight a ts rest p fits few read = dot_turn a ts rest p fits few read
  turn_read m.LeftBracket tight a ts rest p fits few read =
      let less : suc room - 1 ≡ room = omega arith in
      record {
        shorter = gives_ok (reading.indexed note limit room inner quantifiers a ts) (LeavesLess ts) p rest (bracket_leaves a ts) read;
        is = subst (λ (n : ℕ). reading.indexed note limit n (expr note limit n) quantifiers a ts ≡ Ok (p, rest)) (sym less) read;
      }
  turn_read _ tight a ts rest p fits few read = absurd (omega arith)

  -- ---- all the turns

  abbrev climbs : ℕ → Parsed → Parser Parsed
  climbs = reading.climb note limit room inner quantifiers 11

  climbs_shorter : (n : ℕ) (a p : Parsed) (ts rest : List Lexeme) → climbs n a ts ≡ Ok (p, rest) → length rest ≤ length ts
  climbs_shorter n a p ts rest read =
      let R = refines_climb true note limit limit (omega arith) room room (omega arith) (λ s. refl) inner inner
      (λ k k' le eq least start. refines_expr true note limit limit (omega arith) room room (omega arith) (λ s. refl) k k' le eq least start)
      quantifiers quantifiers (omega arith) (λ s. refl) 11 n n (omega arith) (λ s. refl) a in
      let found = R.oks ts rest p read in
      omega (arith, ap length found.parts, length-append found.taken rest)

  -- what is no target, but goes on to be one, has a node above it
  has_above : (n : ℕ) (a p : Parsed) (ts rest : List Lexeme) → climbs n a ts ≡ Ok (p, rest) → is_target p.tree ≡ true → is_target a.tree ≡ false → a.depth ≤ room
  unfolding reading.climb
  has_above zero a p ts rest read t other = absurd cc
  has_above (suc n) a p ts rest read t other =
      elim (cases_Bool (grows a.strength (mark_at note ts) 11)) [
        | inl grown ↦ elim (cases_Bool (nat_le a.depth room)) [
          | inl fits ↦ leb-true a.depth room fits
          | inr deep ↦ let stop : climbs (suc n) a ts ≡ Err (Deep (length ts)) = rw (grown, deep) refl in absurd (cc (read, stop))
        ]
        | inr none ↦
            let ended : climbs (suc n) a ts ≡ Ok (a, ts) = rw none refl in
            let same = ap (λ (z : Parsed). is_target z.tree) (ok_is a p ts rest (sym ended ∙ read)).0 in
            absurd (cc (same, t, other))
      ]

  -- with as many turns at least
  turns_read : (n more : ℕ) (a p : Parsed) (ts rest : List Lexeme) → n ≤ more → is_target p.tree ≡ true → length ts ≤ length rest + limit → climbs n a ts ≡ Ok (p, rest)
      → spec.target_longer limit (suc room) (expression_of limit) quantifiers note more a ts ≡ Ok (p, rest)
  unfolding reading.climb spec.target_longer
  turns_read zero more a p ts rest le t few read = absurd cc
  turns_read (suc n) zero a p ts rest le t few read = absurd (omega arith)
  turns_read (suc n) (suc more) a p ts rest le t few read =
      let mark = mark_at note ts in
      elim (cases_Bool (grows a.strength mark 11)) [
        | inl grown ↦ elim (cases_Bool (nat_le a.depth room)) [
          | inl fits ↦
              let goes : climbs (suc n) a ts ≡ and_then (reading.longer_by note limit room inner quantifiers a mark ts) (climbs n) = rw (grown, fits) refl in
              let turn = bind_ok (reading.longer_by note limit room inner quantifiers a mark ts) (climbs n) p rest (sym goes ∙ read) in
              let both = and_parts (nat_le 11 (binds mark)) (nat_le (needs mark) a.strength) grown in
              let left = climbs_shorter n turn.0 p turn.1 rest turn.3 in
              let now = turn_read mark (leb-true 11 (binds mark) both.0) a ts turn.1 turn.0 (has_above n turn.0 p turn.1 rest turn.3 t) (omega (arith, left)) turn.2 in
              let below : nat_lt a.depth (suc room) ≡ true = lt-ltb a.depth (suc room) (omega (arith, leb-true a.depth room fits)) in
              rw (grown, below, now.is) (turns_read n more turn.0 p turn.1 rest (omega arith) t (omega (arith, now.shorter)) turn.3)
          | inr deep ↦ let stop : climbs (suc n) a ts ≡ Err (Deep (length ts)) = rw (grown, deep) refl in absurd (cc (read, stop))
        ]
        | inr none ↦
            let before : climbs (suc n) a ts ≡ Ok (a, ts) = rw none refl in
            let now : spec.target_longer limit (suc room) (expression_of limit) quantifiers note (suc more) a ts ≡ Ok (a, ts) = rw none refl in
            now ∙ sym before ∙ read
      ]

  -- ---- the starts

  from_name : (x : Lexeme) (ts rest : List Lexeme) (p : Parsed) → is_target p.tree ≡ true → length ts ≤ length rest + limit
      → expr note limit (suc room) quantifiers 11 (behind_name x) ts ≡ Ok (p, rest)
      → spec.target_from limit (suc room) (expression_of limit) quantifiers note (behind_name x) ts ≡ Ok (p, rest)
  unfolding expr spec.target_behind
  from_name x ts rest p t few read =
      let turn = bind_ok (reading.after_name note limit room inner quantifiers x ts) (climbs (suc room)) p rest read in
      let left = climbs_shorter (suc room) turn.0 p turn.1 rest turn.3 in
      let now = name_turn x ts turn.1 turn.0 (has_above (suc room) turn.0 p turn.1 rest turn.3 t) (omega (arith, left)) turn.2 in
      rw (lt-ltb 0 (suc room) (omega arith), now.is)
      (turns_read (suc room) (suc room) turn.0 p turn.1 rest (omega arith) t (omega (arith, now.shorter)) turn.3)

  from_bracket : (x b : Lexeme) (ts rest : List Lexeme) (p : Parsed) → is_target p.tree ≡ true → length ts ≤ length rest + limit
      → expr note limit (suc room) quantifiers 11 (behind_bracket x b) ts ≡ Ok (p, rest)
      → spec.target_from limit (suc room) (expression_of limit) quantifiers note (behind_bracket x b) ts ≡ Ok (p, rest)
  unfolding expr spec.target_behind
  from_bracket x b ts rest p t few read =
      let a : Parsed = leaf (name x.span x.text) in
      let less : suc room - 1 ≡ room = omega arith in
      let turn = bind_ok (reading.indexed_behind note limit room inner quantifiers a b ts) (climbs room) p rest read in
      let left : length turn.1 ≤ length ts = gives_ok (reading.indexed_behind note limit room inner quantifiers a b ts) (LeavesLess ts) turn.0 turn.1 (index_leaves a b ts) turn.2 in
      let now : spec.target_index limit (suc room) (expression_of limit) quantifiers note x b ts ≡ Ok (turn.0, turn.1) =
      subst (λ (n : ℕ). reading.indexed_behind note limit n (expr note limit n) quantifiers a b ts ≡ Ok (turn.0, turn.1)) (sym less) turn.2 in
      rw (lt-ltb 0 (suc room) (omega arith), now) (turns_read room (suc room) turn.0 p turn.1 rest (omega arith) t (omega (arith, left)) turn.3)

  head_leaves : (ts : List Lexeme) → Gives (spec.headed_first limit (suc room) (expression_of limit) quantifiers note ts) (LeavesLess ts)
  head_leaves ts =
      gives_so (Taken note (suc room - 1) quantifiers 13 [] ts) (LeavesLess ts) (spec.headed_first limit (suc room) (expression_of limit) quantifiers note ts)
      (headed_first_takes limit (suc room) (expression_of limit) (λ side r k least some start known us. expr_takes side limit r k least some start known us) quantifiers note ts)
      (λ e rest h. omega (arith, ap length h.parts, length-append h.taken rest))

  from_head : (ts rest : List Lexeme) (p : Parsed) → is_target p.tree ≡ true → length ts ≤ length rest + limit
      → spec.headed limit (suc room) (expression_of limit) quantifiers note ts ≡ Ok (p, rest)
      → spec.headed_target limit (suc room) (expression_of limit) quantifiers note ts ≡ Ok (p, rest)
  unfolding spec.headed spec.longer spec.headed_target
  from_head ts rest p t few read =
      let less : suc room - 1 ≡ room = omega arith in
      let turn = bind_ok (spec.headed_first limit (suc room) (expression_of limit) quantifiers note ts)
      (reading.climb note limit (suc room - 1) (expr note limit (suc room - 1)) quantifiers 11 (suc room)) p rest read in
      let left : length turn.1 ≤ length ts = gives_ok (spec.headed_first limit (suc room) (expression_of limit) quantifiers note ts) (LeavesLess ts) turn.0 turn.1 (head_leaves ts) turn.2 in
      let goes : climbs (suc room) turn.0 turn.1 ≡ Ok (p, rest) =
      subst (λ (n : ℕ). reading.climb note limit n (expr note limit n) quantifiers 11 (suc room) turn.0 turn.1 ≡ Ok (p, rest)) less turn.3 in
      rw turn.2 (turns_read (suc room) (suc room) turn.0 p turn.1 rest (omega arith) t (omega (arith, left)) goes)

-- ---- targets

-- behind the first name
pub target_behind_name : (note : Bool) (limit room quantifiers : ℕ) (x : Lexeme) (ts rest : List Lexeme) (p : Parsed) → 1 ≤ room → is_target p.tree ≡ true
    → length ts ≤ length rest + limit → expr note limit room quantifiers 11 (behind_name x) ts ≡ Ok (p, rest)
    → spec.target_from limit room (expression_of limit) quantifiers note (behind_name x) ts ≡ Ok (p, rest)
target_behind_name note limit zero quantifiers x ts rest p some t few read = absurd (omega arith)
target_behind_name note limit (suc room) quantifiers x ts rest p some t few read = from_name note limit room quantifiers x ts rest p t few read

-- behind the first name and a bracket
pub target_behind_bracket : (note : Bool) (limit room quantifiers : ℕ) (x b : Lexeme) (ts rest : List Lexeme) (p : Parsed) → 1 ≤ room → is_target p.tree ≡ true
    → length ts ≤ length rest + limit → expr note limit room quantifiers 11 (behind_bracket x b) ts ≡ Ok (p, rest)
    → spec.target_from limit room (expression_of limit) quantifiers note (behind_bracket x b) ts ≡ Ok (p, rest)
target_behind_bracket note limit zero quantifiers x b ts rest p some t few read = absurd (omega arith)
target_behind_bracket note limit (suc room) quantifiers x b ts rest p some t few read = from_bracket note limit room quantifiers x b ts rest p t few read

-- from what begins it, which is no target yet
pub target_at_head : (note : Bool) (limit room quantifiers : ℕ) (ts rest : List Lexeme) (p : Parsed) → 1 ≤ room → is_target p.tree ≡ true
    → length ts ≤ length rest + limit → spec.headed limit room (expression_of limit) quantifiers note ts ≡ Ok (p, rest)
    → spec.headed_target limit room (expression_of limit) quantifiers note ts ≡ Ok (p, rest)
target_at_head note limit zero quantifiers ts rest p some t few read = absurd (omega arith)
target_at_head note limit (suc room) quantifiers ts rest p some t few read = from_head note limit room quantifiers ts rest p t few read
