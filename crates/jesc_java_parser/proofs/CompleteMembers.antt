-- The lexemes of the members of a class are read as these members.
use Rattle.std.proofs.Common.{◌≡◌, ℕ, zero, suc, ◌≤◌, ◌<◌, max, Bool, true, false, not, ◌&&◌, List, [], ◌∷◌, ◌++◌, length, length-append, Ok, Err, refl, sym, ap, ap₂, ◌∙◌, arith, append_assoc, append-nil, codes, bytes_eq, inl, inr}
use Rattle.std.proofs.lemmas.Bool.{cases_Bool}
use Rattle.jesc_text.specs.declared.place.Span.{Span}
use Rattle.jesc_lexer.specs.declared.token.TokenKind.{TokenKind}
use Rattle.jesc_lexer.specs.declared.token.TokenKind.TheVariants as kinds
use Rattle.jesc_ast.specs.Lexemes.{Lexeme, sign, word, chosen_sign, span_of_all}
use Rattle.jesc_ast.specs.FileTrees.{MemberForm, field, spec_field, Member, member_of}
use Rattle.jesc_ast.specs.Depth.{depth, nesting, of_member, of_members}
use Rattle.jesc_ast.specs.Members.{SpellsMembers, no_members, more_members}
use Rattle.jesc_jml_grammar.specs.declared.fault.Fault.{Fault}
use Rattle.jesc_jml_grammar.specs.declared.fault.Fault.TheVariants.{Unexpected, Long}
use Rattle.jesc_jml_grammar.specs.declared.note_word.NoteWord.{NoteWord}
use Rattle.jesc_jml_grammar.specs.declared.note_word.NoteWord.TheVariants as w
use Rattle.jesc_jml_grammar.specs.Marks.{is_same_side}
use Rattle.jesc_jml_grammar.specs.Steps.{Outcome, Parser, mark_at, same_mark}
use Rattle.jesc_jml_grammar.specs.Reading as reading
use Rattle.jesc_jml_parser.specs.laws.CompleteMarks.{same_text}
use Rattle.jesc_jml_grammar.specs.ClauseMarks.{same_word, word_at, span_at}
use Rattle.jesc_jml_grammar.specs.ClauseLists.{until}
use Rattle.jesc_jml_grammar.specs.ClauseReading.{Sized, sized, Ended, no_items, with_more}
use Rattle.jesc_jml_parser.specs.laws.ClauseSoundMarks.{noted, noted_so, same_word_is}
use Rattle.jesc_jml_parser.specs.laws.ClauseSoundLists.{IsSome, taken_span}
use Rattle.jesc_jml_parser.specs.laws.ClauseCompleteLists.{read_as, until_more, until_ends}
use Rattle.jesc_java_grammar.specs.Lexing.{is_sign_kind, is_sign, next_is}
use Rattle.jesc_java_grammar.specs.FileMarks.{member_mark_at, before_brace}
use Rattle.jesc_java_grammar.specs.FileReading as spec
use Rattle.jesc_java_grammar.specs.FileReading.{expression_of}
use Rattle.jesc_java_parser.proofs.CompleteJava.{form_goes_on}
use Rattle.jesc_java_parser.proofs.CompleteEntries.{form}
use Rattle.jesc_java_parser.proofs.CompleteForms.{IsMember, member_node_read}

-- ---- what no member begins with

closed : (kind : TokenKind) (text : List ℕ) (span : Span) (note : Bool) → (is_sign_kind kind && is_same_side false note && bytes_eq text (codes "}")) ≡ true
    → record { kind = kind; text = text; span = span; note = note } ≡ sign false "}" span
closed kinds.Sign text span false e = ap (λ (z : List ℕ). chosen_sign false z span) (same_text text (codes "}") e)
closed kinds.Sign text span true e = absurd cc
closed _ text span note e = absurd cc

abbrev Stops : Outcome (Ended MemberForm) → Type 0
Stops r = (f : Fault) × (r ≡ Err f)

brace_stops : (limit room quantifiers : ℕ) (s : Span) (ts : List Lexeme) → Stops (form limit room quantifiers (sign false "}" s ∷ ts))
unfolding spec.form spec.code_form spec.java_form spec.modifiers until spec.plain_form spec.other_type reading.type_ reading.type_word word_at mark_at same_mark member_mark_at
brace_stops zero room quantifiers s ts = (Long, refl)
brace_stops (suc limit) room quantifiers s ts = (Unexpected (length (sign false "}" s ∷ ts)), refl)

in_stops : (limit room quantifiers : ℕ) (s : Span) (ts : List Lexeme) → Stops (form limit room quantifiers (word true "in" s ∷ ts))
unfolding spec.form spec.code_form spec.java_form spec.modifiers until spec.plain_form spec.other_type reading.type_ reading.type_word word_at mark_at same_mark member_mark_at
in_stops zero room quantifiers s ts = (Long, refl)
in_stops (suc limit) room quantifiers s ts = (Unexpected (length (word true "in" s ∷ ts)), refl)

module _ (limit room quantifiers : ℕ) (f : Ended MemberForm) (rest : List Lexeme) where
  no_answer : (r : Outcome (Ended MemberForm)) → Stops r → r ≡ Ok (f, rest) → ⊥
  no_answer r s e = let other = s.1 in cc

  no_brace : (ts : List Lexeme) → form limit room quantifiers ts ≡ Ok (f, rest) → next_is (is_sign (codes "}") false) ts ≡ true → ⊥
  no_brace [] read e = cc
  no_brace (x ∷ ts) read e =
      no_answer _ (brace_stops limit room quantifiers x.span ts) (ap (λ (z : Lexeme). form limit room quantifiers (z ∷ ts)) (sym (closed x.kind x.text x.span x.note e)) ∙ read)

  no_in : (ts : List Lexeme) → form limit room quantifiers ts ≡ Ok (f, rest) → word_at ts ≡ w.In → ⊥
  unfolding word_at
  no_in [] read e = cc
  no_in (x ∷ ts) read e =
      no_answer _ (in_stops limit room quantifiers x.span ts)
      (ap (λ (z : Lexeme). form limit room quantifiers (z ∷ ts)) (sym (noted_so kinds.Word (codes "in") x (noted w.In x e))) ∙ read)

-- where `in` is not next, nothing goes on with a member
quiet_ends : (f : MemberForm) (found : NoteWord) → same_word found w.In ≡ false → form_goes_on f found ≡ false
quiet_ends (field ws ty x equals value []) found q = q
quiet_ends (field ws ty x equals value (g ∷ gs)) found q = refl
quiet_ends (spec_field ws ty x equals value []) found q = q
quiet_ends (spec_field ws ty x equals value (g ∷ gs)) found q = refl
quiet_ends _ found q = refl

-- ---- members

module _ (limit room quantifiers : ℕ) where
  abbrev member_parser : Parser (Sized Member)
  member_parser = spec.member limit room (expression_of limit) quantifiers

  member_read : (f : MemberForm) (u rest : List Lexeme) → IsMember limit room quantifiers f u rest
      → member_parser (u ++ rest) ≡ read_as (sized (member_of (span_of_all u) f) (of_member depth 1 f)) rest
  unfolding spec.member
  member_read f u rest h =
      rw (h.is (span_at (u ++ rest))) (ap (λ (z : Span). read_as (sized (member_of z f) (of_member depth 1 f)) rest) (taken_span u (u ++ rest) rest refl h.some))

  -- The lexemes are read as the members, before a closing brace, and `in` does not stand first.
  record AreMembers (ms : List Member) (u rest : List Lexeme) : Type 0 where
    quiet : same_word (word_at (u ++ rest)) w.In ≡ false
    is : (turns : ℕ) (found : Sized (List Member)) → length u < turns
        → until before_brace member_parser with_more turns found (u ++ rest) ≡ read_as (sized (found.tree ++ ms) (max found.depth (of_members depth 1 ms))) rest

  none_read : (q : Span) (rest : List Lexeme) → AreMembers [] [] (sign false "}" q ∷ rest)
  unfolding word_at same_word
  none_read q rest = record {
    quiet = refl;
    is = λ turns found enough.
        let same : found.depth ≡ max found.depth 0 = omega arith in
        until_ends before_brace member_parser with_more turns found (sign false "}" q ∷ rest) enough refl
        ∙ ap₂ (λ (z : List Member) (d : ℕ). read_as (sized z d) (sign false "}" q ∷ rest)) (sym (append-nil found.tree)) same;
  }

  some_length : (u : List Lexeme) → IsSome u → 1 ≤ length u
  some_length [] some = absurd some
  some_length (x ∷ u) some = omega arith

  one_more_turn : (f : MemberForm) (ms : List Member) (u v rest : List Lexeme) → IsMember limit room quantifiers f u (v ++ rest) → AreMembers ms v rest → (turns : ℕ)
      (found : Sized (List Member)) → length (u ++ v) < turns
      → until before_brace member_parser with_more turns found ((u ++ v) ++ rest)
      ≡ read_as (sized (found.tree ++ member_of (span_of_all u) f ∷ ms) (max found.depth (max (of_member depth 1 f) (of_members depth 1 ms)))) rest
  one_more_turn f ms u v rest h more zero found enough = absurd (omega arith)
  one_more_turn f ms u v rest h more (suc turns) found enough =
      let one = sized (member_of (span_of_all u) f) (of_member depth 1 f) in
      let same : max (max found.depth (of_member depth 1 f)) (of_members depth 1 ms) ≡ max found.depth (max (of_member depth 1 f) (of_members depth 1 ms)) = omega arith in
      let begins : before_brace (u ++ (v ++ rest)) ≡ true = ap not (elim (cases_Bool (next_is (is_sign (codes "}") false) (u ++ (v ++ rest)))) as (λ z. next_is (is_sign (codes "}") false) (u ++ (v ++ rest)) ≡ false) [
        | inl e ↦ absurd (no_brace limit room quantifiers _ (v ++ rest) (u ++ (v ++ rest)) (h.is (span_at u)) e)
        | inr e ↦ e
      ]) in
      ap (until before_brace member_parser with_more (suc turns) found) (append_assoc u v rest)
      ∙ until_more before_brace member_parser with_more turns found one (u ++ (v ++ rest)) (v ++ rest) begins (member_read f u (v ++ rest) h)
      ∙ more.is turns (with_more found one) (omega (arith, length-append u v, some_length u h.some))
      ∙ ap₂ (λ (z : List Member) (d : ℕ). read_as (sized z d) rest) (append_assoc found.tree (member_of (span_of_all u) f ∷ []) ms) same

  one_more_read : (f : MemberForm) (ms : List Member) (u v rest : List Lexeme) → IsMember limit room quantifiers f u (v ++ rest) → AreMembers ms v rest
      → AreMembers (member_of (span_of_all u) f ∷ ms) (u ++ v) rest
  one_more_read f ms u v rest h more = record {
    quiet = elim (cases_Bool (same_word (word_at ((u ++ v) ++ rest)) w.In)) [
      | inl e ↦ absurd (no_in limit room quantifiers _ (v ++ rest) (u ++ (v ++ rest)) (h.is (span_at u))
          (ap word_at (sym (append_assoc u v rest)) ∙ same_word_is (word_at ((u ++ v) ++ rest)) w.In e))
      | inr e ↦ e
    ];
    is = λ turns found enough. one_more_turn f ms u v rest h more turns found enough;
  }

  members_from : (ms : List Member) (u : List Lexeme) → SpellsMembers ms u → (q : Span) (rest : List Lexeme) → of_members depth 1 ms ≤ room → of_members nesting 0 ms ≤ quantifiers
      → length u < limit → AreMembers ms u (sign false "}" q ∷ rest)
  members_from _ _ no_members q rest deep flat few = none_read q rest
  members_from _ _ (more_members f ms u v h more) q rest deep flat few =
      let close : List Lexeme = sign false "}" q ∷ rest in
      let lens = length-append u v in
      let others = members_from ms v more q rest (omega arith) (omega arith) (omega arith) in
      one_more_read f ms u v close
      (member_node_read limit room quantifiers f u h (v ++ close) (omega arith) (omega arith) (omega arith) (quiet_ends f (word_at (v ++ close)) others.quiet)) others

  pub members_read : (ms : List Member) (u : List Lexeme) → SpellsMembers ms u → (q : Span) (rest : List Lexeme) → of_members depth 1 ms ≤ room → of_members nesting 0 ms ≤ quantifiers
      → length u < limit
      → spec.members limit room (expression_of limit) quantifiers (u ++ sign false "}" q ∷ rest) ≡ read_as (sized ms (of_members depth 1 ms)) (sign false "}" q ∷ rest)
  unfolding spec.members
  members_read ms u h q rest deep flat few =
      let same : max 0 (of_members depth 1 ms) ≡ of_members depth 1 ms = omega arith in
      (members_from ms u h q rest deep flat few).is limit no_items few ∙ ap (λ (d : ℕ). read_as (sized ms d) (sign false "}" q ∷ rest)) same
