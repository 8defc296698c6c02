-- The lexemes of store references are read as these.
use Rattle.std.proofs.Common.{◌≡◌, ℕ, zero, suc, ◌+◌, ◌-◌, ◌≤◌, ◌<◌, true, false, List, [], ◌∷◌, ◌++◌, length, Ok, refl, sym, ap, ◌∙◌, append_assoc, arith, IsTrue, codes}
use Rattle.std.proofs.lemmas.Bool.{lt-ltb, le-leb}
use Rattle.std.proofs.lemmas.List.{length-append}
use Rattle.jesc_text.specs.declared.place.Span.{Span}
use Rattle.jesc_ast.specs.Lexemes.{Lexeme, word, chosen_word, sign, kept, join}
use Rattle.jesc_ast.specs.Words.{is_name}
use Rattle.jesc_ast.specs.Trees.{Expression, name, this, member, index}
use Rattle.jesc_ast.specs.SpecTrees.{Store}
use Rattle.jesc_ast.specs.Expressions.{span_of, Spells, SpellsExpression, is_this, is_plain_name, is_member, is_index}
use Rattle.jesc_ast.specs.Depth.{depth, nesting, of_store}
use Rattle.jesc_ast.specs.Specifications.{is_path, is_index as ends_by_index, SpellsStore, is_path_store, is_star, is_element, is_range, is_all_elements, SpellsSomeStores, last_store, first_store}
use Rattle.jesc_jml_grammar.specs.declared.mark.Mark.{Mark}
use Rattle.jesc_jml_grammar.specs.declared.mark.Mark.TheVariants as m
use Rattle.jesc_jml_grammar.specs.declared.note_word.NoteWord.TheVariants as w
use Rattle.jesc_jml_grammar.specs.Steps.{Outcome, Parser, mark_at, same_mark}
use Rattle.jesc_jml_grammar.specs.Reading.{Parsed, Start, opens, leaf, expr}
use Rattle.jesc_jml_parser.specs.laws.CompleteMarks.{took, took_sign, took_name, name_at, opens_first}
use Rattle.jesc_jml_parser.specs.laws.CompleteSteps.{parsed}
use Rattle.jesc_jml_parser.specs.laws.CompleteArguments.{Closes, closes_bracket}
use Rattle.jesc_jml_grammar.specs.ClauseMarks.{same_word, word_at}
use Rattle.jesc_jml_grammar.specs.ClauseReading as spec
use Rattle.jesc_jml_grammar.specs.ClauseReading.{Sized, sized, Path, plain, with_index, closed, store_of, member_path, star_of, all_of, range_of}
use Rattle.jesc_jml_parser.specs.laws.ClauseCompleteLists.{read_as, took_note, read_expression}

-- ---- the steps of a path

closing : (q : Span) (rest : List Lexeme) → Closes (mark_at true (sign true "]" q ∷ rest))
unfolding mark_at
closing q rest = closes_bracket

ranging : (q : Span) (rest : List Lexeme) → Closes (mark_at true (sign true ".." q ∷ rest))
unfolding mark_at
ranging q rest = record { no_cast = refl; loose = refl; weak = refl }

not_starred : (mark : Mark) → opens mark ≡ true → same_mark mark m.Times ≡ false
unfolding same_mark
not_starred m.Times o = absurd cc
not_starred _ o = refl

module _ (limit room k : ℕ) where
  abbrev inner : ℕ → ℕ → Start → Parser Parsed
  inner = expr true limit room

  abbrev behind : ℕ → Path → Parser (Sized Store)
  behind = spec.store_behind limit room inner k

  first_this : (s : Span) (rest : List Lexeme) → 0 < room → spec.path_first limit room inner k (word true "this" s ∷ rest) ≡ read_as (plain (leaf (this s))) rest
  unfolding spec.path_first spec.path_this mark_at
  first_this s rest some = rw (lt-ltb 0 room some, took true m.This (word true "this" s) rest refl) refl

  first_name : (s : Span) (x : List ℕ) (rest : List Lexeme) → IsTrue (is_name x) → 0 < room
      → spec.path_first limit room inner k (chosen_word true x s ∷ rest) ≡ read_as (plain (leaf (name s x))) rest
  unfolding spec.path_first spec.path_name mark_at
  first_name s x rest named some = rw (name_at true x s named, lt-ltb 0 room some, took_name true x s rest named) refl

  member_step : (n : ℕ) (path : Path) (e : Parsed) (dot s : Span) (x : List ℕ) (rest : List Lexeme) → closed path ≡ e → e.depth < room → IsTrue (is_name x)
      → behind (suc n) path (sign true "." dot ∷ chosen_word true x s ∷ rest) ≡ behind n (member_path e (sign true "." dot) (chosen_word true x s)) rest
  unfolding spec.store_behind spec.store_step spec.path_dotted spec.path_member mark_at
  member_step n path e dot s x rest same low named =
      rw (same, le-leb e.depth room (omega arith), took_sign true m.Dot (codes ".") dot (chosen_word true x s ∷ rest) refl, name_at true x s named, lt-ltb e.depth room low, took_name true x s rest named) refl

  star_step : (n : ℕ) (path : Path) (e : Parsed) (dot q : Span) (rest : List Lexeme) → closed path ≡ e → e.depth ≤ room
      → behind (suc n) path (sign true "." dot ∷ sign true "*" q ∷ rest) ≡ read_as (star_of e (sign true "*" q)) rest
  unfolding spec.store_behind spec.store_step spec.path_dotted spec.starred mark_at
  star_step n path e dot q rest same low =
      rw (same, le-leb e.depth room low, took_sign true m.Dot (codes ".") dot (sign true "*" q ∷ rest) refl, took_sign true m.Times (codes "*") q rest refl) refl

  all_step : (n : ℕ) (path : Path) (e : Parsed) (p s q : Span) (rest : List Lexeme) → closed path ≡ e → e.depth ≤ room
      → behind (suc n) path (sign true "[" p ∷ sign true "*" s ∷ sign true "]" q ∷ rest) ≡ read_as (all_of e (sign true "]" q)) rest
  unfolding spec.store_behind spec.store_step spec.path_bracketed spec.all_starred mark_at same_mark
  all_step n path e p s q rest same low =
      rw (
        same,
        le-leb e.depth room low,
        took_sign true m.LeftBracket (codes "[") p (sign true "*" s ∷ sign true "]" q ∷ rest) refl,
        took_sign true m.Times (codes "*") s (sign true "]" q ∷ rest) refl,
        took_sign true m.RightBracket (codes "]") q rest refl,
      ) refl

  index_step : (n : ℕ) (path : Path) (e i : Parsed) (p q : Span) (ts rest : List Lexeme) → closed path ≡ e → e.depth ≤ room → opens (mark_at true ts) ≡ true
      → spec.expression limit room inner k ts ≡ Ok (i, sign true "]" q ∷ rest)
      → behind (suc n) path (sign true "[" p ∷ ts) ≡ behind n (with_index e (sign true "[" p) i (sign true "]" q)) rest
  unfolding spec.store_behind spec.store_step spec.path_bracketed spec.bounded_by spec.path_index mark_at word_at same_word
  index_step n path e i p q ts rest same low begins read =
      rw (
        same,
        le-leb e.depth room low,
        took_sign true m.LeftBracket (codes "[") p ts refl,
        not_starred (mark_at true ts) begins,
        read,
        took_sign true m.RightBracket (codes "]") q rest refl,
      ) refl

  range_step : (n : ℕ) (path : Path) (e i j : Parsed) (p dots q : Span) (ts us rest : List Lexeme) → closed path ≡ e → e.depth ≤ room → opens (mark_at true ts) ≡ true
      → spec.expression limit room inner k ts ≡ Ok (i, sign true ".." dots ∷ us) → spec.expression limit room inner k us ≡ Ok (j, sign true "]" q ∷ rest)
      → behind (suc n) path (sign true "[" p ∷ ts) ≡ read_as (range_of e i j (sign true "]" q)) rest
  unfolding spec.store_behind spec.store_step spec.path_bracketed spec.bounded_by spec.ranged mark_at word_at same_word
  range_step n path e i j p dots q ts us rest same low begins one two =
      rw (
        same,
        le-leb e.depth room low,
        took_sign true m.LeftBracket (codes "[") p ts refl,
        not_starred (mark_at true ts) begins,
        one,
        took_note w.Range (sign true ".." dots) us refl,
        two,
        took_sign true m.RightBracket (codes "]") q rest refl,
      ) refl

-- ---- paths

-- the lexemes are read as this path, with turns left for what may stand behind it
record ReadsPath (limit room k : ℕ) (e : Expression) (u rest : List Lexeme) : Type 0 where
  path : Path
  closes : closed path ≡ parsed 12 e
  plainly : ends_by_index e ≡ false → path ≡ plain (parsed 12 e)
  turns : ℕ
  enough : suc limit ≤ turns + length u
  is : spec.one_store limit room (expr true limit room) k (u ++ rest) ≡ spec.store_behind limit room (expr true limit room) k turns path rest

path_strength : (n : ℕ) (e : Expression) (u : List Lexeme) → Spells true n e u → IsTrue (is_path e) → n ≡ 12
path_strength n e u (is_this s) p = refl
path_strength n e u (is_plain_name s x named) p = refl
path_strength n e u (is_member l a v dot s x sub strong named) p = refl
path_strength n e u (is_index l j a i v t b q sub strong inside) p = refl
path_strength n e u _ p = absurd cc

module _ (limit room k : ℕ) where
  abbrev parse : Parser Parsed
  parse = spec.expression limit room (expr true limit room) k

  -- a first lexeme
  begun : (e : Expression) (x : Lexeme) (rest : List Lexeme) → spec.path_first limit room (expr true limit room) k (x ∷ rest) ≡ read_as (plain (leaf e)) rest
      → depth e ≡ 1 → ReadsPath limit room k e (x ∷ []) rest
  unfolding spec.one_store
  begun e x rest first one = record {
    path = plain (leaf e);
    closes = ap (λ (d : ℕ). record { tree = e; depth = d; strength = 12 }) (sym one);
    plainly = λ no. ap (λ (d : ℕ). plain (record { tree = e; depth = d; strength = 12 })) (sym one);
    turns = limit;
    enough = omega arith;
    is = rw first refl;
  }

  then_member : (e : Expression) (u : List Lexeme) (dot s : Span) (x : List ℕ) (rest : List Lexeme) → IsTrue (is_name x) → depth e < room → length u ≤ limit
      → ReadsPath limit room k e u (sign true "." dot ∷ chosen_word true x s ∷ rest)
      → ReadsPath limit room k (member (join (span_of e) s) e dot (kept true x s)) (u ++ sign true "." dot ∷ chosen_word true x s ∷ []) rest
  then_member e u dot s x rest named low few h = by h.turns refl
    where
      by : (n : ℕ) → h.turns ≡ n → ReadsPath limit room k (member (join (span_of e) s) e dot (kept true x s)) (u ++ sign true "." dot ∷ chosen_word true x s ∷ []) rest
      by zero t = absurd (omega (arith, h.enough))
      by (suc n) t = record {
        path = member_path (parsed 12 e) (sign true "." dot) (chosen_word true x s);
        closes = refl;
        plainly = λ no. refl;
        turns = n;
        enough = omega (arith, h.enough, length-append u (sign true "." dot ∷ chosen_word true x s ∷ []));
        is = ap (spec.one_store limit room (expr true limit room) k) (append_assoc u (sign true "." dot ∷ chosen_word true x s ∷ []) rest) ∙ h.is
            ∙ ap (λ (z : ℕ). spec.store_behind limit room (expr true limit room) k z h.path (sign true "." dot ∷ chosen_word true x s ∷ rest)) t
            ∙ member_step limit room k n h.path (parsed 12 e) dot s x rest h.closes low named;
      }

  -- an index, whatever stands behind it
  indexed : (n m : ℕ) (path : Path) (e i : Expression) (p q : Span) (v rest : List Lexeme) → closed path ≡ parsed 12 e → depth e ≤ room → (hi : Spells true m i v)
      → depth i ≤ room → nesting i ≤ k → length v ≤ limit
      → spec.store_behind limit room (expr true limit room) k (suc n) path (sign true "[" p ∷ (v ++ sign true "]" q ∷ rest))
      ≡ spec.store_behind limit room (expr true limit room) k n (with_index (parsed 12 e) (sign true "[" p) (parsed m i) (sign true "]" q)) rest
  indexed n m path e i p q v rest same low hi deep flat few =
      index_step limit room k n path (parsed 12 e) (parsed m i) p q (v ++ sign true "]" q ∷ rest) rest same low (opens_first true hi (sign true "]" q ∷ rest))
      (read_expression limit room k i v (sign true "]" q ∷ rest) (m, hi) deep flat few (closing q rest))

  then_index : (m : ℕ) (e i : Expression) (u v : List Lexeme) (p q : Span) (rest : List Lexeme) → depth e ≤ room → Spells true m i v → depth i ≤ room → nesting i ≤ k
      → length u ≤ limit → length v ≤ limit → ReadsPath limit room k e u (sign true "[" p ∷ (v ++ sign true "]" q ∷ rest))
      → ReadsPath limit room k (index (join (span_of e) q) e p i) (u ++ sign true "[" p ∷ (v ++ sign true "]" q ∷ [])) rest
  then_index m e i u v p q rest low hi deep flat few short h = by h.turns refl
    where
      by : (n : ℕ) → h.turns ≡ n → ReadsPath limit room k (index (join (span_of e) q) e p i) (u ++ sign true "[" p ∷ (v ++ sign true "]" q ∷ [])) rest
      by zero t = absurd (omega (arith, h.enough))
      by (suc n) t = record {
        path = with_index (parsed 12 e) (sign true "[" p) (parsed m i) (sign true "]" q);
        closes = refl;
        plainly = λ no. absurd cc;
        turns = n;
        enough = omega (arith, h.enough, length-append u (sign true "[" p ∷ (v ++ sign true "]" q ∷ [])));
        is = ap (spec.one_store limit room (expr true limit room) k)
            (append_assoc u (sign true "[" p ∷ (v ++ sign true "]" q ∷ [])) rest ∙ ap (λ (z : List Lexeme). u ++ sign true "[" p ∷ z) (append_assoc v (sign true "]" q ∷ []) rest))
            ∙ h.is ∙ ap (λ (z : ℕ). spec.store_behind limit room (expr true limit room) k z h.path (sign true "[" p ∷ (v ++ sign true "]" q ∷ rest))) t
            ∙ indexed n m h.path e i p q v rest h.closes low hi deep flat short;
      }

  path_reads : (n : ℕ) (e : Expression) (u : List Lexeme) → Spells true n e u → IsTrue (is_path e) → (rest : List Lexeme) → depth e ≤ room → nesting e ≤ k → length u ≤ limit
      → ReadsPath limit room k e u rest
  path_reads n e u (is_this s) p rest deep flat few = begun (this s) (word true "this" s) rest (first_this limit room k s rest (omega arith)) refl
  path_reads n e u (is_plain_name s x named) p rest deep flat few = begun (name s x) (chosen_word true x s) rest (first_name limit room k s x rest named (omega arith)) refl
  path_reads n e u (is_member l a v dot s x sub strong named) p rest deep flat few =
      then_member a v dot s x rest named (omega arith) (omega (arith, length-append {A = Lexeme}))
      (path_reads l a v sub p (sign true "." dot ∷ chosen_word true x s ∷ rest) (omega arith) flat (omega (arith, length-append {A = Lexeme})))
  path_reads n e u (is_index l j a i v t b q sub strong inside) p rest deep flat few =
      then_index j a i v t b q rest (omega arith) inside (omega arith) (omega arith) (omega (arith, length-append {A = Lexeme})) (omega (arith, length-append {A = Lexeme}))
      (path_reads l a v sub p (sign true "[" b ∷ (t ++ sign true "]" q ∷ rest)) (omega arith) (omega arith) (omega (arith, length-append {A = Lexeme})))
  path_reads n e u _ p rest deep flat few = absurd cc

-- ---- stores

-- it ends a store before it
pub record EndsStore (mark : Mark) : Type 0 where
  pub done : (limit room : ℕ) (inner : ℕ → ℕ → Start → Parser Parsed) (k : ℕ) (path : Path) (ts : List Lexeme)
      → spec.store_step_by limit room inner k path mark ts ≡ read_as (spec.is_read (store_of path)) ts

pub ends_comma : (p : Span) (rest : List Lexeme) → EndsStore (mark_at true (sign true "," p ∷ rest))
unfolding mark_at
ends_comma p rest = record { done = λ limit room inner k path ts. refl }

pub ends_semicolon : (p : Span) (rest : List Lexeme) → EndsStore (mark_at true (sign true ";" p ∷ rest))
unfolding mark_at
ends_semicolon p rest = record { done = λ limit room inner k path ts. refl }

longer_opens : (u v rest : List Lexeme) → ((more : List Lexeme) → opens (mark_at true (u ++ more)) ≡ true) → opens (mark_at true ((u ++ v) ++ rest)) ≡ true
longer_opens u v rest h = ap (λ (z : List Lexeme). opens (mark_at true z)) (append_assoc u v rest) ∙ h (v ++ rest)

store_opens : (t : Store) (u : List Lexeme) → SpellsStore t u → (rest : List Lexeme) → opens (mark_at true (u ++ rest)) ≡ true
store_opens _ _ (is_path_store e u h p none) rest = opens_first true h.1 rest
store_opens _ _ (is_star dot q e u h p) rest = longer_opens u (sign true "." dot ∷ sign true "*" q ∷ []) rest (opens_first true h.1)
store_opens _ _ (is_element p q e i u v h pe hi) rest = longer_opens u (sign true "[" p ∷ (v ++ sign true "]" q ∷ [])) rest (opens_first true h.1)
store_opens _ _ (is_range p dots q e i j u v t h pe hi hj) rest =
    longer_opens u (sign true "[" p ∷ (v ++ sign true ".." dots ∷ (t ++ sign true "]" q ∷ []))) rest (opens_first true h.1)
store_opens _ _ (is_all_elements p s q e u h pe) rest = longer_opens u (sign true "[" p ∷ sign true "*" s ∷ sign true "]" q ∷ []) rest (opens_first true h.1)

pub stores_open : (ts : List Store) (u : List Lexeme) → SpellsSomeStores ts u → (rest : List Lexeme) → opens (mark_at true (u ++ rest)) ≡ true
stores_open _ _ (last_store t u h) rest = store_opens t u h rest
stores_open _ _ (first_store t p ts u v h more) rest = longer_opens u (sign true "," p ∷ v) rest (store_opens t u h)

module _ (limit room k : ℕ) where
  abbrev store_parser : Parser (Sized Store)
  store_parser = spec.one_store limit room (expr true limit room) k

  abbrev store_parser_behind : ℕ → Path → Parser (Sized Store)
  store_parser_behind = spec.store_behind limit room (expr true limit room) k

  ends_step : (n : ℕ) (path : Path) (rest : List Lexeme) → EndsStore (mark_at true rest) → store_parser_behind (suc n) path rest ≡ read_as (store_of path) rest
  unfolding spec.store_behind spec.store_step
  ends_step n path rest ends = rw (ends.done limit room (expr true limit room) k path rest) refl

  more_turns : (a b : ℕ) (path : Path) (ts : List Lexeme) → a ≡ b → store_parser_behind a path ts ≡ store_parser_behind b path ts
  more_turns a b path ts e = ap (λ (z : ℕ). store_parser_behind z path ts) e

  abbrev store_as : Sized Store → List Lexeme → Outcome (Sized Store)
  store_as t rest = read_as t rest

  -- with two turns left at least
  two_turns : (e : Expression) (u ts : List Lexeme) (r : ReadsPath limit room k e u ts) → length u < limit → r.turns ≡ suc (suc (r.turns - 2))
  two_turns e u ts r few = omega (arith, r.enough)

  one_turn : (e : Expression) (u ts : List Lexeme) (r : ReadsPath limit room k e u ts) → length u ≤ limit → r.turns ≡ suc (r.turns - 1)
  one_turn e u ts r few = omega (arith, r.enough)

  path_done : (e : Expression) (u rest : List Lexeme) (r : ReadsPath limit room k e u rest) → length u ≤ limit → ends_by_index e ≡ false → EndsStore (mark_at true rest)
      → store_parser (u ++ rest) ≡ store_as (store_of (plain (parsed 12 e))) rest
  path_done e u rest r few none ends =
      r.is ∙ more_turns r.turns (suc (r.turns - 1)) r.path rest (one_turn e u rest r few) ∙ ends_step (r.turns - 1) r.path rest ends
      ∙ ap (λ (z : Path). store_as (store_of z) rest) (r.plainly none)

  star_done : (dot q : Span) (e : Expression) (u rest : List Lexeme) (r : ReadsPath limit room k e u (sign true "." dot ∷ sign true "*" q ∷ rest)) → length u ≤ limit → depth e ≤ room
      → store_parser (u ++ sign true "." dot ∷ sign true "*" q ∷ rest) ≡ store_as (star_of (parsed 12 e) (sign true "*" q)) rest
  star_done dot q e u rest r few deep =
      r.is ∙ more_turns r.turns (suc (r.turns - 1)) r.path (sign true "." dot ∷ sign true "*" q ∷ rest) (one_turn e u _ r few)
      ∙ star_step limit room k (r.turns - 1) r.path (parsed 12 e) dot q rest r.closes deep

  all_done : (p s q : Span) (e : Expression) (u rest : List Lexeme) (r : ReadsPath limit room k e u (sign true "[" p ∷ sign true "*" s ∷ sign true "]" q ∷ rest)) → length u ≤ limit
      → depth e ≤ room → store_parser (u ++ sign true "[" p ∷ sign true "*" s ∷ sign true "]" q ∷ rest) ≡ store_as (all_of (parsed 12 e) (sign true "]" q)) rest
  all_done p s q e u rest r few deep =
      r.is ∙ more_turns r.turns (suc (r.turns - 1)) r.path (sign true "[" p ∷ sign true "*" s ∷ sign true "]" q ∷ rest) (one_turn e u _ r few)
      ∙ all_step limit room k (r.turns - 1) r.path (parsed 12 e) p s q rest r.closes deep

  element_done : (p q : Span) (e i : Expression) (u v rest : List Lexeme) (h : SpellsExpression true i v) (r : ReadsPath limit room k e u (sign true "[" p ∷ (v ++ sign true "]" q ∷ rest)))
      → length u < limit → length v ≤ limit → depth e ≤ room → depth i ≤ room → nesting i ≤ k → EndsStore (mark_at true rest)
      → store_parser (u ++ sign true "[" p ∷ (v ++ sign true "]" q ∷ rest))
      ≡ store_as (store_of (with_index (parsed 12 e) (sign true "[" p) (parsed h.0 i) (sign true "]" q))) rest
  element_done p q e i u v rest h r few short deep inside flat ends =
      r.is ∙ more_turns r.turns (suc (suc (r.turns - 2))) r.path (sign true "[" p ∷ (v ++ sign true "]" q ∷ rest)) (two_turns e u _ r few)
      ∙ indexed limit room k (suc (r.turns - 2)) h.0 r.path e i p q v rest r.closes deep h.1 inside flat short
      ∙ ends_step (r.turns - 2) (with_index (parsed 12 e) (sign true "[" p) (parsed h.0 i) (sign true "]" q)) rest ends

  range_done : (p dots q : Span) (e i j : Expression) (u v t rest : List Lexeme) (h : SpellsExpression true i v) (g : SpellsExpression true j t)
      (r : ReadsPath limit room k e u (sign true "[" p ∷ (v ++ sign true ".." dots ∷ (t ++ sign true "]" q ∷ rest)))) → length u ≤ limit → length v ≤ limit → length t ≤ limit
      → depth e ≤ room → depth i ≤ room → depth j ≤ room → nesting i ≤ k → nesting j ≤ k
      → store_parser (u ++ sign true "[" p ∷ (v ++ sign true ".." dots ∷ (t ++ sign true "]" q ∷ rest)))
      ≡ store_as (range_of (parsed 12 e) (parsed h.0 i) (parsed g.0 j) (sign true "]" q)) rest
  range_done p dots q e i j u v t rest h g r few short least deep first last flat even =
      r.is ∙ more_turns r.turns (suc (r.turns - 1)) r.path (sign true "[" p ∷ (v ++ sign true ".." dots ∷ (t ++ sign true "]" q ∷ rest))) (one_turn e u _ r few)
      ∙ range_step limit room k (r.turns - 1) r.path (parsed 12 e) (parsed h.0 i) (parsed g.0 j) p dots q (v ++ sign true ".." dots ∷ (t ++ sign true "]" q ∷ rest))
      (t ++ sign true "]" q ∷ rest) rest r.closes deep (opens_first true h.1 (sign true ".." dots ∷ (t ++ sign true "]" q ∷ rest)))
      (read_expression limit room k i v (sign true ".." dots ∷ (t ++ sign true "]" q ∷ rest)) h first flat short (ranging dots (t ++ sign true "]" q ∷ rest)))
      (read_expression limit room k j t (sign true "]" q ∷ rest) g last even least (closing q rest))

  pub store_reads : (t : Store) (u : List Lexeme) → SpellsStore t u → (rest : List Lexeme) → of_store depth 1 t.form ≤ room → of_store nesting 0 t.form ≤ k → length u ≤ limit
      → EndsStore (mark_at true rest) → store_parser (u ++ rest) ≡ read_as (sized t (of_store depth 1 t.form)) rest
  store_reads _ _ (is_path_store e u h p none) rest deep flat few ends = path_done e u rest (path_reads limit room k h.0 e u h.1 p rest deep flat few) few none ends
  store_reads _ _ (is_star dot q e u h p) rest deep flat few ends =
      let short : length u ≤ limit = omega (arith, length-append u (sign true "." dot ∷ sign true "*" q ∷ [])) in
      ap store_parser (append_assoc u (sign true "." dot ∷ sign true "*" q ∷ []) rest)
      ∙ star_done dot q e u rest (path_reads limit room k h.0 e u h.1 p (sign true "." dot ∷ sign true "*" q ∷ rest) deep flat short) short deep
  store_reads _ _ (is_element p q e i u v h pe hi) rest deep flat few ends =
      let lens = length-append u (sign true "[" p ∷ (v ++ sign true "]" q ∷ [])) in
      let inside = length-append v (sign true "]" q ∷ []) in
      ap store_parser (append_assoc u (sign true "[" p ∷ (v ++ sign true "]" q ∷ [])) rest ∙ ap (λ (z : List Lexeme). u ++ sign true "[" p ∷ z) (append_assoc v (sign true "]" q ∷ []) rest))
      ∙ element_done p q e i u v rest hi
      (path_reads limit room k h.0 e u h.1 pe (sign true "[" p ∷ (v ++ sign true "]" q ∷ rest)) (omega arith) (omega arith) (omega arith))
      (omega arith) (omega arith) (omega arith) (omega arith) (omega arith) ends
  store_reads _ _ (is_range p dots q e i j u v t h pe hi hj) rest deep flat few ends =
      let lens = length-append u (sign true "[" p ∷ (v ++ sign true ".." dots ∷ (t ++ sign true "]" q ∷ []))) in
      let inside = length-append v (sign true ".." dots ∷ (t ++ sign true "]" q ∷ [])) in
      let innermost = length-append t (sign true "]" q ∷ []) in
      ap store_parser (simp append_assoc)
      ∙ range_done p dots q e i j u v t rest hi hj
      (path_reads limit room k h.0 e u h.1 pe (sign true "[" p ∷ (v ++ sign true ".." dots ∷ (t ++ sign true "]" q ∷ rest))) (omega arith) (omega arith) (omega arith))
      (omega arith) (omega arith) (omega arith) (omega arith) (omega arith) (omega arith) (omega arith) (omega arith)
  store_reads _ _ (is_all_elements p s q e u h pe) rest deep flat few ends =
      let short : length u ≤ limit = omega (arith, length-append u (sign true "[" p ∷ sign true "*" s ∷ sign true "]" q ∷ [])) in
      ap store_parser (append_assoc u (sign true "[" p ∷ sign true "*" s ∷ sign true "]" q ∷ []) rest)
      ∙ all_done p s q e u rest (path_reads limit room k h.0 e u h.1 pe (sign true "[" p ∷ sign true "*" s ∷ sign true "]" q ∷ rest) deep flat short) short deep
