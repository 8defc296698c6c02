-- What the rules of store references take.
use Rattle.std.proofs.Common.{◌≡◌, ℕ, zero, suc, ◌≤◌, ◌<◌, true, false, List, [], ◌∷◌, ◌++◌, refl, sym, append_assoc, arith}
use Rattle.std.proofs.lemmas.Bool.{leb-true, ltb-true}
use Rattle.std.specs.Prelude.{IsTrue, nat_lt, nat_le, codes}
use Rattle.jesc_lexer.specs.declared.token.TokenKind.TheVariants as kinds
use Rattle.jesc_ast.specs.Lexemes.{Lexeme}
use Rattle.jesc_ast.specs.Trees.{Expression}
use Rattle.jesc_ast.specs.SpecTrees as trees
use Rattle.jesc_ast.specs.SpecTrees.{Store}
use Rattle.jesc_ast.specs.Depth.{depth, nesting, of_store, of_stores}
use Rattle.jesc_ast.specs.Expressions as expressions
use Rattle.jesc_ast.specs.Expressions.{is_this, SpellsExpression}
use Rattle.jesc_ast.specs.Specifications.{is_path, is_index, SpellsStore, is_path_store, is_star, is_element, is_range, is_all_elements, SpellsSomeStores, last_store, first_store, SpellsStores, is_nothing, is_everything, are_stores}
use Rattle.jesc_jml_grammar.specs.declared.mark.Mark.{Mark}
use Rattle.jesc_jml_grammar.specs.declared.mark.Mark.TheVariants as m
use Rattle.jesc_jml_grammar.specs.declared.note_word.NoteWord.{NoteWord}
use Rattle.jesc_jml_grammar.specs.declared.note_word.NoteWord.TheVariants as w
use Rattle.jesc_jml_grammar.specs.Marks.{lexeme_mark}
use Rattle.jesc_jml_grammar.specs.Steps.{Parser, mark_at, same_mark, expect, too_deep}
use Rattle.jesc_jml_grammar.specs.Reading.{Parsed, Start, at_first}
use Rattle.jesc_jml_grammar.specs.ClauseMarks.{same_word, word_at, expect_word, at_mark}
use Rattle.jesc_jml_grammar.specs.ClauseReading as spec
use Rattle.jesc_jml_grammar.specs.ClauseReading.{Sized, with_more, no_items, Path, plain, with_index, closed, store_of, StoreStep, goes_on, is_read}
use Rattle.jesc_jml_parser.specs.laws.SoundMarks.{marked}
use Rattle.jesc_jml_parser.specs.laws.SoundPieces.{IsSpelled, name_piece, member_piece}
use Rattle.jesc_jml_parser.specs.laws.SoundSteps.{Gives, gives_bind, gives_if, gives_so, took, TakesWhole}
use Rattle.jesc_jml_parser.specs.laws.ClauseSoundMarks.{noted, noted_so}
use Rattle.jesc_jml_parser.specs.laws.ClauseSoundLists.{took_word, TakenAs, TakenUntil, separated_takes, IsRead, IsGreatest, read_first, read_more}

-- ---- what is read

-- with another bound of the depth
pub in_room : (room other k : ℕ) (u : List Lexeme) (e : Parsed) → IsSpelled true room k u e → e.depth ≤ other → IsSpelled true other k u e
in_room room other k u e h le = record { spelled = h.spelled; strong = h.strong; deep = h.deep; shallow = le; flat = h.flat }

-- these lexemes spell the expression, which is no deeper than `room`, with its depth and no more than k nested quantifiers
pub record IsExpression (room k : ℕ) (e : Parsed) (u : List Lexeme) : Type 0 where
  pub spelled : SpellsExpression true e.tree u
  pub deep : depth e.tree ≡ e.depth
  pub shallow : e.depth ≤ room
  pub flat : nesting e.tree ≤ k

-- the inner parser takes expressions
abbrev pub TakesExpressions : ℕ → (ℕ → ℕ → Start → Parser Parsed) → Type 0
TakesExpressions room inner = (k : ℕ) (ts : List Lexeme) → Gives (inner k 1 at_first ts) (TakenAs (IsExpression room k) ts)

pub takes_expressions : (room : ℕ) (inner : ℕ → ℕ → Start → Parser Parsed) → TakesWhole true room inner → TakesExpressions room inner
takes_expressions room inner whole k ts =
    gives_so _ (TakenAs (IsExpression room k) ts) (inner k 1 at_first ts) (whole k 1 (omega arith) at_first tt ts) (λ e rest h.
    record {
      taken = h.taken;
      parts = h.parts;
      is = record { spelled = (e.strength, h.is.spelled); deep = h.is.deep; shallow = h.is.shallow; flat = h.is.flat };
    })

-- a path that may go on
pub record IsPart (room k : ℕ) (u : List Lexeme) (e : Parsed) : Type 0 where
  pub whole : IsSpelled true room k u e
  pub tight : 12 ≤ e.strength
  pub path : IsTrue (is_path e.tree)

pub record IsIndexed (room k : ℕ) (u : List Lexeme) (e : Parsed) (p : Lexeme) (i : Parsed) (q : Lexeme) : Type 0 where
  pub front : List Lexeme
  pub back : List Lexeme
  pub parts : u ≡ front ++ p ∷ (back ++ q ∷ [])
  pub base : IsPart room k front e
  pub index : IsExpression room k i back
  pub left : lexeme_mark true p ≡ m.LeftBracket
  pub right : lexeme_mark true q ≡ m.RightBracket

abbrev pub IsPathRead : ℕ → ℕ → Path → List Lexeme → Type 0
IsPathRead room k (plain e) u = IsPart room k u e × (is_index e.tree ≡ false)
IsPathRead room k (with_index e p i q) u = IsIndexed room k u e p i q

abbrev pub store_measure : (Expression → ℕ) → ℕ → Store → ℕ
store_measure f n t = of_store f n t.form

abbrev pub IsStoreRead : ℕ → ℕ → Sized Store → List Lexeme → Type 0
IsStoreRead room k t u = IsRead SpellsStore store_measure room k u t.tree t.depth

abbrev pub AreSomeStores : ℕ → ℕ → Sized (List Store) → List Lexeme → Type 0
AreSomeStores room k ts u = IsRead SpellsSomeStores of_stores room k u ts.tree ts.depth

abbrev pub AreStores : ℕ → ℕ → Sized (List Store) → List Lexeme → Type 0
AreStores room k ts u = IsRead SpellsStores of_stores room k u ts.tree ts.depth

abbrev pub IsStepRead : ℕ → ℕ → List Lexeme → StoreStep → List Lexeme → Type 0
IsStepRead room k all (goes_on path) rest = TakenAs (IsPathRead room k) all path rest
IsStepRead room k all (is_read t) rest = TakenAs (IsStoreRead room k) all t rest

stores_are_greatest : IsGreatest store_measure of_stores
stores_are_greatest = record { none = λ f n. refl; more = λ f n x xs. refl }

stores_at_end : (ts : List Store) (u : List Lexeme) (p : Lexeme) (t : Store) (v : List Lexeme) → SpellsSomeStores ts u → lexeme_mark true p ≡ m.Comma → SpellsStore t v
    → SpellsSomeStores (ts ++ t ∷ []) (u ++ p ∷ v)
stores_at_end _ _ p t v (last_store s u is) comma h = rw (marked true m.Comma p comma) (first_store s p.span (t ∷ []) u v is (last_store t v h))
stores_at_end _ _ p t v (first_store s q ts a u is more) comma h =
    simp append_assoc (first_store s q (ts ++ t ∷ []) a (u ++ p ∷ v) is (stores_at_end ts u p t v more comma h))

-- ---- paths

module _ (room k : ℕ) where
  closed_part : (path : Path) (u : List Lexeme) → IsPathRead room k path u → (closed path).depth ≤ room → IsPart room k u (closed path)
  closed_part (plain e) u h le = h.0
  closed_part (with_index e p i q) u h le = record {
    whole = record {
      spelled = rw (h.parts, marked true m.LeftBracket p h.left, marked true m.RightBracket q h.right)
          (expressions.is_index e.strength h.index.spelled.0 e.tree i.tree h.front h.back p.span q.span h.base.whole.spelled h.base.tight h.index.spelled.1);
      strong = refl;
      deep = rw (h.base.whole.deep, h.index.deep) refl;
      shallow = le;
      flat = omega (arith, h.base.whole.flat, h.index.flat);
    };
    tight = omega arith;
    path = h.base.path;
  }

  store_read : (path : Path) (u : List Lexeme) → IsPathRead room k path u → IsStoreRead room k (store_of path) u
  store_read (plain e) u h = record {
    spelled = is_path_store e.tree u (e.strength, h.0.whole.spelled) h.0.path h.1;
    deep = h.0.whole.deep;
    shallow = h.0.whole.shallow;
    flat = h.0.whole.flat;
  }
  store_read (with_index e p i q) u h = record {
    spelled = rw (h.parts, marked true m.LeftBracket p h.left, marked true m.RightBracket q h.right)
        (is_element p.span q.span e.tree i.tree h.front h.back (e.strength, h.base.whole.spelled) h.base.path h.index.spelled);
    deep = rw (h.base.whole.deep, h.index.deep) refl;
    shallow = omega (arith, h.base.whole.shallow, h.index.shallow);
    flat = omega (arith, h.base.whole.flat, h.index.flat);
  }

module _ (limit room : ℕ) (inner : ℕ → ℕ → Start → Parser Parsed) (reads : TakesExpressions room inner) (k : ℕ) where
  name_takes : (ts : List Lexeme) → 0 < room → Gives (spec.path_name limit room inner k ts) (TakenAs (IsPathRead room k) ts)
  unfolding spec.path_name
  name_takes ts some =
      gives_bind _ _ (expect true m.Name ts) (took true m.Name ts) (λ x rest h.
      record { taken = x ∷ []; parts = h.at; is = (record { whole = name_piece true room k x h.mark some; tight = omega arith; path = refl }, refl) })

  this_takes : (ts : List Lexeme) → 0 < room → Gives (spec.path_this limit room inner k ts) (TakenAs (IsPathRead room k) ts)
  unfolding spec.path_this
  this_takes ts some =
      gives_bind _ _ (expect true m.This ts) (took true m.This ts) (λ x rest h.
      record {
        taken = x ∷ [];
        parts = h.at;
        is = (
          record {
            whole = record { spelled = rw (marked true m.This x h.mark) (is_this x.span); strong = refl; deep = refl; shallow = omega arith; flat = omega arith };
            tight = omega arith;
            path = refl;
          },
          refl,
        );
      })

  path_by_takes : (mark : Mark) (ts : List Lexeme) → 0 < room → Gives (spec.path_by limit room inner k mark ts) (TakenAs (IsPathRead room k) ts)
  path_by_takes m.Name ts some = name_takes ts some
  path_by_takes m.This ts some = this_takes ts some
  path_by_takes _ ts some = tt

  path_first_takes : (ts : List Lexeme) → Gives (spec.path_first limit room inner k ts) (TakenAs (IsPathRead room k) ts)
  unfolding spec.path_first
  path_first_takes ts =
      gives_if (spec.opens_path limit room inner k (mark_at true ts)) _ _ (TakenAs (IsPathRead room k) ts) ts
      (λ e. gives_if (nat_lt 0 room) (spec.path_by limit room inner k (mark_at true ts)) too_deep (TakenAs (IsPathRead room k) ts) ts
      (λ some. path_by_takes (mark_at true ts) ts (ltb-true 0 room some))
      (λ none. tt))
      (λ e. tt)

  -- ---- behind a path

  starred_takes : (e : Parsed) (dot : Lexeme) (u all ts : List Lexeme) → all ≡ u ++ dot ∷ ts → lexeme_mark true dot ≡ m.Dot → IsPart room k u e
      → Gives (spec.starred limit room inner k e ts) (IsStepRead room k all)
  unfolding spec.starred
  starred_takes e dot u all ts parts dotted h =
      gives_bind _ _ (expect true m.Times ts) (took true m.Times ts) (λ q rest star.
      record {
        taken = u ++ dot ∷ q ∷ [];
        parts = rw (parts, star.at) (sym (append_assoc u (dot ∷ q ∷ []) rest));
        is = record {
          spelled = rw (marked true m.Dot dot dotted, marked true m.Times q star.mark) (is_star dot.span q.span e.tree u (e.strength, h.whole.spelled) h.path);
          deep = h.whole.deep;
          shallow = h.whole.shallow;
          flat = h.whole.flat;
        };
      })

  member_takes : (e : Parsed) (dot : Lexeme) (u all ts : List Lexeme) → all ≡ u ++ dot ∷ ts → lexeme_mark true dot ≡ m.Dot → IsPart room k u e → e.depth < room
      → Gives (spec.path_member limit room inner k e dot ts) (IsStepRead room k all)
  unfolding spec.path_member
  member_takes e dot u all ts parts dotted h less =
      gives_bind _ _ (expect true m.Name ts) (took true m.Name ts) (λ x rest named.
      record {
        taken = u ++ dot ∷ x ∷ [];
        parts = rw (parts, named.at) (sym (append_assoc u (dot ∷ x ∷ []) rest));
        is = (
          record {
            whole = in_room (suc room) room k (u ++ dot ∷ x ∷ []) _ (member_piece true room k e u dot x dotted named.mark (omega (arith, h.tight)) h.whole) (omega arith);
            tight = omega arith;
            path = h.path;
          },
          refl,
        );
      })

  behind_dot_takes : (mark : Mark) (e : Parsed) (dot : Lexeme) (u all ts : List Lexeme) → all ≡ u ++ dot ∷ ts → lexeme_mark true dot ≡ m.Dot → IsPart room k u e
      → Gives (spec.behind_dot_by limit room inner k e dot mark ts) (IsStepRead room k all)
  behind_dot_takes m.Times e dot u all ts parts dotted h = starred_takes e dot u all ts parts dotted h
  behind_dot_takes m.Name e dot u all ts parts dotted h =
      gives_if (nat_lt e.depth room) (spec.path_member limit room inner k e dot) too_deep (IsStepRead room k all) ts
      (λ less. member_takes e dot u all ts parts dotted h (ltb-true e.depth room less))
      (λ more. tt)
  behind_dot_takes _ e dot u all ts parts dotted h = tt

  dotted_takes : (e : Parsed) (u all ts : List Lexeme) → all ≡ u ++ ts → IsPart room k u e → Gives (spec.path_dotted limit room inner k e ts) (IsStepRead room k all)
  unfolding spec.path_dotted
  dotted_takes e u all ts parts h =
      gives_bind _ _ (expect true m.Dot ts) (took true m.Dot ts) (λ dot mid dotted.
      behind_dot_takes (mark_at true mid) e dot u all mid (rw (parts, dotted.at) refl) dotted.mark h)

  -- ---- in brackets behind a path

  all_takes : (e : Parsed) (p : Lexeme) (u all ts : List Lexeme) → all ≡ u ++ p ∷ ts → lexeme_mark true p ≡ m.LeftBracket → IsPart room k u e
      → Gives (spec.all_starred limit room inner k e ts) (IsStepRead room k all)
  unfolding spec.all_starred
  all_takes e p u all ts parts left h =
      gives_bind _ _ (expect true m.Times ts) (took true m.Times ts) (λ s mid star.
      gives_bind _ _ (expect true m.RightBracket mid) (took true m.RightBracket mid) (λ q rest right.
      record {
        taken = u ++ p ∷ s ∷ q ∷ [];
        parts = rw (parts, star.at, right.at) (sym (append_assoc u (p ∷ s ∷ q ∷ []) rest));
        is = record {
          spelled = rw (marked true m.LeftBracket p left, marked true m.Times s star.mark, marked true m.RightBracket q right.mark)
              (is_all_elements p.span s.span q.span e.tree u (e.strength, h.whole.spelled) h.path);
          deep = h.whole.deep;
          shallow = h.whole.shallow;
          flat = h.whole.flat;
        };
      }))

  ranged_takes : (e i : Parsed) (p : Lexeme) (u v all ts : List Lexeme) → all ≡ u ++ p ∷ (v ++ ts) → lexeme_mark true p ≡ m.LeftBracket → IsPart room k u e
      → IsExpression room k i v → Gives (spec.ranged limit room inner k e i ts) (IsStepRead room k all)
  unfolding spec.ranged
  ranged_takes e i p u v all ts parts left h g =
      gives_bind _ _ (expect_word w.Range ts) (took_word w.Range ts) (λ dots mid sign.
      gives_bind _ _ (inner k 1 at_first mid) (reads k mid) (λ j end f.
      gives_bind _ _ (expect true m.RightBracket end) (took true m.RightBracket end) (λ q rest right.
      record {
        taken = u ++ p ∷ (v ++ dots ∷ (f.taken ++ q ∷ []));
        parts = rw (parts, sign.at, f.parts, right.at) (sym (simp append_assoc));
        is = record {
          spelled = rw (marked true m.LeftBracket p left, noted_so kinds.Sign (codes "..") dots (noted w.Range dots sign.word), marked true m.RightBracket q right.mark)
              (is_range p.span dots.span q.span e.tree i.tree j.tree u v f.taken (e.strength, h.whole.spelled) h.path g.spelled f.is.spelled);
          deep = rw (h.whole.deep, g.deep, f.is.deep) refl;
          shallow = omega (arith, h.whole.shallow, g.shallow, f.is.shallow);
          flat = omega (arith, h.whole.flat, g.flat, f.is.flat);
        };
      })))

  index_takes : (e i : Parsed) (p : Lexeme) (u v all ts : List Lexeme) → all ≡ u ++ p ∷ (v ++ ts) → lexeme_mark true p ≡ m.LeftBracket → IsPart room k u e
      → IsExpression room k i v → Gives (spec.path_index limit room inner k e p i ts) (IsStepRead room k all)
  unfolding spec.path_index
  index_takes e i p u v all ts parts left h g =
      gives_bind _ _ (expect true m.RightBracket ts) (took true m.RightBracket ts) (λ q rest right.
      record {
        taken = u ++ p ∷ (v ++ q ∷ []);
        parts = rw (parts, right.at) (sym (simp append_assoc));
        is = record { front = u; back = v; parts = refl; base = h; index = g; left = left; right = right.mark };
      })

  bounded_takes : (e : Parsed) (p : Lexeme) (u all ts : List Lexeme) → all ≡ u ++ p ∷ ts → lexeme_mark true p ≡ m.LeftBracket → IsPart room k u e
      → Gives (spec.bounded_by limit room inner k e p ts) (IsStepRead room k all)
  unfolding spec.bounded_by
  bounded_takes e p u all ts parts left h =
      gives_bind _ _ (inner k 1 at_first ts) (reads k ts) (λ i mid g.
      gives_if (same_word (word_at mid) w.Range) (spec.ranged limit room inner k e i) (spec.path_index limit room inner k e p i) (IsStepRead room k all) mid
      (λ range. ranged_takes e i p u g.taken all mid (rw (parts, g.parts) refl) left h g.is)
      (λ other. index_takes e i p u g.taken all mid (rw (parts, g.parts) refl) left h g.is))

  bracketed_takes : (e : Parsed) (u all ts : List Lexeme) → all ≡ u ++ ts → IsPart room k u e → Gives (spec.path_bracketed limit room inner k e ts) (IsStepRead room k all)
  unfolding spec.path_bracketed
  bracketed_takes e u all ts parts h =
      gives_bind _ _ (expect true m.LeftBracket ts) (took true m.LeftBracket ts) (λ p mid left.
      gives_if (same_mark (mark_at true mid) m.Times) (spec.all_starred limit room inner k e) (spec.bounded_by limit room inner k e p) (IsStepRead room k all) mid
      (λ star. all_takes e p u all mid (rw (parts, left.at) refl) left.mark h)
      (λ other. bounded_takes e p u all mid (rw (parts, left.at) refl) left.mark h))

  -- ---- stores

  longer_takes : (path : Path) (f : Parser StoreStep) (u all ts : List Lexeme) → IsPathRead room k path u
      → (IsPart room k u (closed path) → Gives (f ts) (IsStepRead room k all)) → Gives (spec.longer limit room inner k (closed path) f ts) (IsStepRead room k all)
  longer_takes path f u all ts h next =
      gives_if (nat_le (closed path).depth room) f too_deep (IsStepRead room k all) ts
      (λ le. next (closed_part room k path u h (leb-true (closed path).depth room le)))
      (λ more. tt)

  step_by_takes : (mark : Mark) (path : Path) (u all ts : List Lexeme) → all ≡ u ++ ts → IsPathRead room k path u
      → Gives (spec.store_step_by limit room inner k path mark ts) (IsStepRead room k all)
  step_by_takes m.Dot path u all ts parts h = longer_takes path (spec.path_dotted limit room inner k (closed path)) u all ts h (dotted_takes (closed path) u all ts parts)
  step_by_takes m.LeftBracket path u all ts parts h =
      longer_takes path (spec.path_bracketed limit room inner k (closed path)) u all ts h (bracketed_takes (closed path) u all ts parts)
  step_by_takes _ path u all ts parts h = record { taken = u; parts = parts; is = store_read room k path u h }

  step_takes : (path : Path) (u all ts : List Lexeme) → all ≡ u ++ ts → IsPathRead room k path u → Gives (spec.store_step limit room inner k path ts) (IsStepRead room k all)
  unfolding spec.store_step
  step_takes path u all ts parts h = step_by_takes (mark_at true ts) path u all ts parts h

  store_behind_takes : (n : ℕ) (path : Path) (u all ts : List Lexeme) → all ≡ u ++ ts → IsPathRead room k path u
      → Gives (spec.store_behind limit room inner k n path ts) (TakenAs (IsStoreRead room k) all)
  unfolding spec.store_behind
  store_behind_takes zero path u all ts parts h = tt
  store_behind_takes (suc n) path u all ts parts h =
      gives_bind (spec.after_step limit room inner k (spec.store_behind limit room inner k n)) _ (spec.store_step limit room inner k path ts) (step_takes path u all ts parts h) (elim [
        | goes_on longer ↦ λ rest g. store_behind_takes n longer g.taken all rest g.parts g.is
        | is_read t ↦ λ rest g. g
      ])

  pub store_takes : (ts : List Lexeme) → Gives (spec.one_store limit room inner k ts) (TakenAs (IsStoreRead room k) ts)
  unfolding spec.one_store
  store_takes ts =
      gives_bind _ _ (spec.path_first limit room inner k ts) (path_first_takes ts) (λ path mid h. store_behind_takes limit path h.taken ts mid h.parts h.is)

  some_stores_take : (ts : List Lexeme) → Gives (spec.some_stores limit room inner k ts) (TakenUntil (at_mark m.Comma) (AreSomeStores room k) ts)
  unfolding spec.some_stores
  some_stores_take ts =
      separated_takes (at_mark m.Comma) (expect true m.Comma) (spec.one_store limit room inner k) with_more (AreSomeStores room k)
      (λ found u all h e.
      gives_bind _ _ (expect true m.Comma all) (took true m.Comma all) (λ p mid comma.
      gives_so _ (λ t rest. TakenAs (λ (b : Sized (List Store)) (v : List Lexeme). AreSomeStores room k b (u ++ v)) all (with_more found t) rest) (spec.one_store limit room inner k mid)
      (store_takes mid) (λ t rest g.
      record {
        taken = p ∷ g.taken;
        parts = rw (comma.at, g.parts) refl;
        is = read_more store_measure of_stores stores_are_greatest SpellsStore SpellsSomeStores room k found.tree t.tree u g.taken (u ++ p ∷ g.taken) found.depth t.depth h g.is
            (stores_at_end found.tree u p t.tree g.taken h.spelled comma.mark g.is.spelled);
      })))
      limit no_items ts
      (gives_so _ (λ t rest. TakenAs (AreSomeStores room k) ts (with_more no_items t) rest) (spec.one_store limit room inner k ts) (store_takes ts) (λ t rest g.
      record {
        taken = g.taken;
        parts = g.parts;
        is = read_first store_measure of_stores stores_are_greatest SpellsStore SpellsSomeStores room k t.tree g.taken g.taken t.depth g.is (last_store t.tree g.taken g.is.spelled);
      }))

  nothing_takes : (ts : List Lexeme) → Gives (spec.word_store limit room inner k w.Nothing trees.nothing ts) (TakenAs (AreStores room k) ts)
  unfolding spec.word_store
  nothing_takes ts =
      gives_bind _ _ (expect_word w.Nothing ts) (took_word w.Nothing ts) (λ x rest h.
      record {
        taken = x ∷ [];
        parts = h.at;
        is = record {
          spelled = rw (noted_so kinds.Backslash (codes "\\nothing") x (noted w.Nothing x h.word)) (is_nothing x.span);
          deep = refl;
          shallow = omega arith;
          flat = omega arith;
        };
      })

  everything_takes : (ts : List Lexeme) → Gives (spec.word_store limit room inner k w.Everything trees.everything ts) (TakenAs (AreStores room k) ts)
  unfolding spec.word_store
  everything_takes ts =
      gives_bind _ _ (expect_word w.Everything ts) (took_word w.Everything ts) (λ x rest h.
      record {
        taken = x ∷ [];
        parts = h.at;
        is = record {
          spelled = rw (noted_so kinds.Backslash (codes "\\everything") x (noted w.Everything x h.word)) (is_everything x.span);
          deep = refl;
          shallow = omega arith;
          flat = omega arith;
        };
      })

  listed_stores_take : (ts : List Lexeme) → Gives (spec.some_stores limit room inner k ts) (TakenAs (AreStores room k) ts)
  listed_stores_take ts =
      gives_so (TakenUntil (at_mark m.Comma) (AreSomeStores room k) ts) (TakenAs (AreStores room k) ts) (spec.some_stores limit room inner k ts) (some_stores_take ts) (λ found rest h.
      record {
        taken = h.taken;
        parts = h.parts;
        is = record { spelled = are_stores found.tree h.taken h.is.spelled; deep = h.is.deep; shallow = h.is.shallow; flat = h.is.flat };
      })

  stores_by_take : (word : NoteWord) (ts : List Lexeme) → Gives (spec.stores_by limit room inner k word ts) (TakenAs (AreStores room k) ts)
  stores_by_take w.Nothing ts = nothing_takes ts
  stores_by_take w.Everything ts = everything_takes ts
  stores_by_take _ ts = listed_stores_take ts

  pub stores_take : (ts : List Lexeme) → Gives (spec.stores limit room inner k ts) (TakenAs (AreStores room k) ts)
  unfolding spec.stores
  stores_take ts = stores_by_take (word_at ts) ts
