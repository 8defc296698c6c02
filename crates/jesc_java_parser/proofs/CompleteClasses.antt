-- The lexemes of a class are read as this class.
use Rattle.std.proofs.Common.{◌≡◌, ℕ, ◌≤◌, ◌<◌, true, false, List, [], ◌∷◌, ◌++◌, length, length-append, Ok, refl, sym, ap, ◌∙◌, arith, append_assoc, codes, IsTrue}
use Rattle.jesc_text.specs.declared.place.Span.{Span}
use Rattle.jesc_ast.specs.declared.word.Word.{Word}
use Rattle.jesc_ast.specs.Lexemes.{Lexeme, sign, word, chosen_word, kept, join, span_of_all}
use Rattle.jesc_ast.specs.Words.{is_name}
use Rattle.jesc_ast.specs.FileTrees.{Member, Class, class_of}
use Rattle.jesc_ast.specs.Depth.{depth, nesting, of_members}
use Rattle.jesc_ast.specs.Specifications.{SpellsNames, last_name, first_name}
use Rattle.jesc_ast.specs.Members.{SpellsModifiers, SpellsNamesAfter, no_names, some_names, SpellsMembers, is_one_or_none, SpellsClass, is_class, is_interface}
use Rattle.jesc_jml_grammar.specs.declared.mark.Mark.TheVariants as m
use Rattle.jesc_jml_grammar.specs.Steps.{Parser, mark_at, same_mark}
use Rattle.jesc_jml_parser.specs.laws.CompleteMarks.{took_name}
use Rattle.jesc_jml_grammar.specs.ClauseMarks.{span_at}
use Rattle.jesc_jml_grammar.specs.ClauseReading.{Sized, sized}
use Rattle.jesc_jml_parser.specs.laws.ClauseSoundLists.{end_of, end_of_both, IsSome, some_behind, taken_span}
use Rattle.jesc_jml_parser.specs.laws.ClauseCompleteLists.{read_as}
use Rattle.jesc_java_grammar.specs.Lexing.{is_word, is_sign, next_is}
use Rattle.jesc_java_grammar.specs.FileMarks.{member_mark_at, at_modifier, at_code}
use Rattle.jesc_java_grammar.specs.FileReading as spec
use Rattle.jesc_java_grammar.specs.FileReading.{expression_of, Heading}
use Rattle.jesc_java_parser.proofs.CompleteLexing.{took_if}
use Rattle.jesc_java_parser.proofs.CompleteModifiers.{modifiers_read, names_after_read}
use Rattle.jesc_java_parser.proofs.CompleteMembers.{members_read}

-- ---- headings

module _ (limit room quantifiers : ℕ) where
  one_name : (ws : List Word) (u : List Lexeme) → SpellsNames false ws u → is_one_or_none ws ≡ true → (n : Span) (rest : List Lexeme)
      → spec.superclass limit room (expression_of limit) quantifiers (word false "extends" n ∷ (u ++ rest)) ≡ read_as ws rest
  unfolding spec.superclass
  one_name _ _ (last_name s x is) one n rest =
      rw (took_if (is_word (codes "extends") false) (word false "extends" n) (chosen_word false x s ∷ rest) refl) (rw (took_name false x s rest is) refl)
  one_name _ _ (first_name s p x _ _ is (last_name t y also)) one n rest = absurd cc
  one_name _ _ (first_name s p x _ _ is (first_name t q y ws u also more)) one n rest = absurd cc

  superclass_read : (ws : List Word) (t : List Lexeme) → SpellsNamesAfter (codes "extends") ws t → is_one_or_none ws ≡ true → (rest : List Lexeme)
      → next_is (is_word (codes "extends") false) rest ≡ false → spec.superclass limit room (expression_of limit) quantifiers (t ++ rest) ≡ read_as ws rest
  unfolding spec.superclass
  superclass_read _ _ no_names one rest none = rw none refl
  superclass_read _ _ (some_names n ws u h) one rest none = one_name ws u h one n rest

  abbrev class_named : List ℕ → Span → List Word → List Word → Heading
  class_named x n extends implements = record { is_interface = false; name = chosen_word false x n; extends = extends; implements = implements }

  abbrev interface_named : List ℕ → Span → List Word → Heading
  interface_named x n extends = record { is_interface = true; name = chosen_word false x n; extends = extends; implements = [] }

  -- `extends` stands before `implements`
  no_extends : (ws : List Word) (t : List Lexeme) → SpellsNamesAfter (codes "implements") ws t → (p : Span) (rest : List Lexeme)
      → next_is (is_word (codes "extends") false) (t ++ sign false "{" p ∷ rest) ≡ false
  no_extends _ _ no_names p rest = refl
  no_extends _ _ (some_names n ws u h) p rest = refl

  no_comma : (p : Span) (rest : List Lexeme) → at_code m.Comma (sign false "{" p ∷ rest) ≡ false
  unfolding mark_at same_mark
  no_comma p rest = refl

  class_heading_read : (c n p : Span) (x : List ℕ) (extends implements : List Word) (t i rest : List Lexeme) → IsTrue (is_name x) → SpellsNamesAfter (codes "extends") extends t
      → is_one_or_none extends ≡ true → SpellsNamesAfter (codes "implements") implements i → length i ≤ limit
      → spec.heading limit room (expression_of limit) quantifiers (word false "class" c ∷ chosen_word false x n ∷ (t ++ (i ++ sign false "{" p ∷ rest)))
      ≡ read_as (class_named x n extends implements) (sign false "{" p ∷ rest)
  unfolding spec.heading spec.class_heading member_mark_at
  class_heading_read c n p x extends implements t i rest named ht one hi few =
      let open_ : List Lexeme = sign false "{" p ∷ rest in
      rw (took_if (is_word (codes "class") false) (word false "class" c) (chosen_word false x n ∷ (t ++ (i ++ open_))) refl)
      (rw (took_name false x n (t ++ (i ++ open_)) named)
      (rw (superclass_read extends t ht one (i ++ open_) (no_extends implements i hi p rest))
      (rw (names_after_read limit room quantifiers (codes "implements") refl implements i hi open_ few refl (no_comma p rest)) refl)))

  interface_heading_read : (c n p : Span) (x : List ℕ) (extends : List Word) (t rest : List Lexeme) → IsTrue (is_name x) → SpellsNamesAfter (codes "extends") extends t
      → length t ≤ limit
      → spec.heading limit room (expression_of limit) quantifiers (word false "interface" c ∷ chosen_word false x n ∷ (t ++ sign false "{" p ∷ rest))
      ≡ read_as (interface_named x n extends) (sign false "{" p ∷ rest)
  unfolding spec.heading spec.interface_heading member_mark_at
  interface_heading_read c n p x extends t rest named ht few =
      let open_ : List Lexeme = sign false "{" p ∷ rest in
      rw (took_if (is_word (codes "interface") false) (word false "interface" c) (chosen_word false x n ∷ (t ++ open_)) refl)
      (rw (took_name false x n (t ++ open_) named)
      (rw (names_after_read limit room quantifiers (codes "extends") refl extends t ht open_ few refl (no_comma p rest)) refl))

  -- ---- classes

  abbrev class_parser : Parser (Sized Class)
  class_parser = spec.class_ limit room (expression_of limit) quantifiers

  abbrev class_as : Span → List Word → Heading → List Member → Class
  class_as s ws h ms = class_of s ws h.is_interface (record { text = h.name.text; note = h.name.note; span = h.name.span }) h.extends h.implements ms

  -- behind the heading
  rest_read : (first : Span) (ws : List Word) (h : Heading) (p q : Span) (ms : List Member) (u rest : List Lexeme) → SpellsMembers ms u → of_members depth 1 ms ≤ room
      → of_members nesting 0 ms ≤ quantifiers → length u < limit
      → spec.class_rest limit room (expression_of limit) quantifiers first ws h (sign false "{" p ∷ (u ++ sign false "}" q ∷ rest))
      ≡ read_as (sized (class_as (join first q) ws h ms) (of_members depth 1 ms)) rest
  unfolding spec.class_rest
  rest_read first ws h p q ms u rest hm deep flat few =
      rw (took_if (is_sign (codes "{") false) (sign false "{" p) (u ++ sign false "}" q ∷ rest) refl)
      (rw (members_read limit room quantifiers ms u hm q rest deep flat few) (rw (took_if (is_sign (codes "}") false) (sign false "}" q) rest refl) refl))

  class_from : (ws : List Word) (a : List Lexeme) → SpellsModifiers ws a → (h : Heading) (ts behind : List Lexeme) → at_modifier ts ≡ false → length a < limit
      → spec.heading limit room (expression_of limit) quantifiers ts ≡ Ok (h, behind)
      → class_parser (a ++ ts) ≡ spec.class_rest limit room (expression_of limit) quantifiers (span_at (a ++ ts)) ws h behind
  unfolding spec.class_
  class_from ws a ha h ts behind none few read = rw (modifiers_read limit room quantifiers ws a ha [] ts few none) (rw read refl)

  class_bare : (c : Span) (ts : List Lexeme) → at_modifier (word false "class" c ∷ ts) ≡ false
  unfolding member_mark_at
  class_bare c ts = refl

  interface_bare : (c : Span) (ts : List Lexeme) → at_modifier (word false "interface" c ∷ ts) ≡ false
  unfolding member_mark_at
  interface_bare c ts = refl

  -- the span of the lexemes, the last of which has the span q
  whole_span : (u rest : List Lexeme) (q : Span) → IsSome u → end_of (span_at (u ++ rest)) u ≡ q → join (span_at (u ++ rest)) q ≡ span_of_all u
  whole_span u rest q some last = ap (join (span_at (u ++ rest))) (sym last) ∙ taken_span u (u ++ rest) rest refl some

  spelled_class : (c n p q : Span) (ws extends implements : List Word) (x : List ℕ) (ms : List Member) (a t i b rest : List Lexeme) → SpellsModifiers ws a → IsTrue (is_name x)
      → SpellsNamesAfter (codes "extends") extends t → is_one_or_none extends ≡ true → SpellsNamesAfter (codes "implements") implements i → SpellsMembers ms b
      → of_members depth 1 ms ≤ room → of_members nesting 0 ms ≤ quantifiers
      → length (a ++ word false "class" c ∷ chosen_word false x n ∷ (t ++ (i ++ sign false "{" p ∷ (b ++ sign false "}" q ∷ [])))) < limit
      → class_parser ((a ++ word false "class" c ∷ chosen_word false x n ∷ (t ++ (i ++ sign false "{" p ∷ (b ++ sign false "}" q ∷ [])))) ++ rest)
      ≡ read_as (sized (class_of (span_of_all (a ++ word false "class" c ∷ chosen_word false x n ∷ (t ++ (i ++ sign false "{" p ∷ (b ++ sign false "}" q ∷ []))))) ws false
      (kept false x n) extends implements ms) (of_members depth 1 ms)) rest
  spelled_class c n p q ws extends implements x ms a t i b rest ha named ht one hi hm deep flat few =
      let close : List Lexeme = sign false "}" q ∷ [] in
      let open_ : List Lexeme = sign false "{" p ∷ (b ++ close) in
      let head : List Lexeme = word false "class" c ∷ chosen_word false x n ∷ (t ++ (i ++ open_)) in
      let behind : List Lexeme = sign false "{" p ∷ (b ++ sign false "}" q ∷ rest) in
      let ts : List Lexeme = word false "class" c ∷ chosen_word false x n ∷ (t ++ (i ++ behind)) in
      let one_len = length-append a head in
      let two_len = length-append t (i ++ open_) in
      let three_len = length-append i open_ in
      let four_len = length-append b close in
      let same : (a ++ head) ++ rest ≡ a ++ ts = append_assoc a head rest ∙ ap (λ (z : List Lexeme). a ++ word false "class" c ∷ chosen_word false x n ∷ z)
      (append_assoc t (i ++ open_) rest ∙ ap (λ (z : List Lexeme). t ++ z) (append_assoc i open_ rest ∙ ap (λ (z : List Lexeme). i ++ sign false "{" p ∷ z) (append_assoc b close rest))) in
      let last : end_of (span_at ((a ++ head) ++ rest)) (a ++ head) ≡ q = end_of_both (span_at ((a ++ head) ++ rest)) a head ∙ end_of_both n t (i ++ open_) ∙ end_of_both (end_of n t) i open_ ∙ end_of_both p b close in
      ap class_parser same
      ∙ class_from ws a ha (class_named x n extends implements) ts behind (class_bare c _) (omega arith)
      (class_heading_read c n p x extends implements t i (b ++ sign false "}" q ∷ rest) named ht one hi (omega arith))
      ∙ rest_read (span_at (a ++ ts)) ws (class_named x n extends implements) p q ms b rest hm deep flat (omega arith)
      ∙ ap (λ (z : Span). read_as (sized (class_of z ws false (kept false x n) extends implements ms) (of_members depth 1 ms)) rest)
      (ap (λ (z : List Lexeme). join (span_at z) q) (sym same) ∙ whole_span (a ++ head) rest q (some_behind a head tt) last)

  spelled_interface : (c n p q : Span) (ws extends : List Word) (x : List ℕ) (ms : List Member) (a t b rest : List Lexeme) → SpellsModifiers ws a → IsTrue (is_name x)
      → SpellsNamesAfter (codes "extends") extends t → SpellsMembers ms b → of_members depth 1 ms ≤ room → of_members nesting 0 ms ≤ quantifiers
      → length (a ++ word false "interface" c ∷ chosen_word false x n ∷ (t ++ sign false "{" p ∷ (b ++ sign false "}" q ∷ []))) < limit
      → class_parser ((a ++ word false "interface" c ∷ chosen_word false x n ∷ (t ++ sign false "{" p ∷ (b ++ sign false "}" q ∷ []))) ++ rest)
      ≡ read_as (sized (class_of (span_of_all (a ++ word false "interface" c ∷ chosen_word false x n ∷ (t ++ sign false "{" p ∷ (b ++ sign false "}" q ∷ [])))) ws true
      (kept false x n) extends [] ms) (of_members depth 1 ms)) rest
  spelled_interface c n p q ws extends x ms a t b rest ha named ht hm deep flat few =
      let close : List Lexeme = sign false "}" q ∷ [] in
      let open_ : List Lexeme = sign false "{" p ∷ (b ++ close) in
      let head : List Lexeme = word false "interface" c ∷ chosen_word false x n ∷ (t ++ open_) in
      let behind : List Lexeme = sign false "{" p ∷ (b ++ sign false "}" q ∷ rest) in
      let ts : List Lexeme = word false "interface" c ∷ chosen_word false x n ∷ (t ++ behind) in
      let one_len = length-append a head in
      let two_len = length-append t open_ in
      let four_len = length-append b close in
      let same : (a ++ head) ++ rest ≡ a ++ ts = append_assoc a head rest ∙ ap (λ (z : List Lexeme). a ++ word false "interface" c ∷ chosen_word false x n ∷ z)
      (append_assoc t open_ rest ∙ ap (λ (z : List Lexeme). t ++ sign false "{" p ∷ z) (append_assoc b close rest)) in
      let last : end_of (span_at ((a ++ head) ++ rest)) (a ++ head) ≡ q = end_of_both (span_at ((a ++ head) ++ rest)) a head ∙ end_of_both n t open_ ∙ end_of_both p b close in
      ap class_parser same
      ∙ class_from ws a ha (interface_named x n extends) ts behind (interface_bare c _) (omega arith)
      (interface_heading_read c n p x extends t (b ++ sign false "}" q ∷ rest) named ht (omega arith))
      ∙ rest_read (span_at (a ++ ts)) ws (interface_named x n extends) p q ms b rest hm deep flat (omega arith)
      ∙ ap (λ (z : Span). read_as (sized (class_of z ws true (kept false x n) extends [] ms) (of_members depth 1 ms)) rest)
      (ap (λ (z : List Lexeme). join (span_at z) q) (sym same) ∙ whole_span (a ++ head) rest q (some_behind a head tt) last)

  pub class_read : (c : Class) (u : List Lexeme) → SpellsClass c u → (rest : List Lexeme) → of_members depth 1 c.members ≤ room → of_members nesting 0 c.members ≤ quantifiers
      → length u < limit → class_parser (u ++ rest) ≡ read_as (sized c (of_members depth 1 c.members)) rest
  class_read _ _ (is_class c n p q ws extends implements x ms a t i b u ha named ht one hi hm e) rest deep flat few =
      rw e (spelled_class c n p q ws extends implements x ms a t i b rest ha named ht one hi hm deep flat (rw e at few))
  class_read _ _ (is_interface c n p q ws extends x ms a t b u ha named ht hm e) rest deep flat few =
      rw e (spelled_interface c n p q ws extends x ms a t b rest ha named ht hm deep flat (rw e at few))
