-- What the lists of the grammar take, from what their items take; the spans of lexemes, and how deep lists are.
use Rattle.std.proofs.Common.{◌≡◌, ℕ, zero, suc, ◌≤◌, max, Bool, true, false, List, [], ◌∷◌, ◌++◌, refl, sym, ap, ◌∙◌, append_assoc, arith}
use Rattle.jesc_text.specs.declared.place.Span.{Span}
use Rattle.jesc_ast.specs.declared.word.Word.{Word}
use Rattle.jesc_ast.specs.Lexemes.{Lexeme, join, last_of, span_of_all}
use Rattle.jesc_ast.specs.Trees.{Expression}
use Rattle.jesc_ast.specs.Depth.{depth, nesting}
use Rattle.jesc_ast.specs.Specifications.{SpellsNames, last_name, first_name}
use Rattle.jesc_jml_grammar.specs.declared.mark.Mark.TheVariants as m
use Rattle.jesc_jml_grammar.specs.declared.note_word.NoteWord.{NoteWord}
use Rattle.jesc_jml_grammar.specs.Marks.{lexeme_mark}
use Rattle.jesc_jml_grammar.specs.Steps.{Parser, ◌>>◌, take_one, refuse, expect}
use Rattle.jesc_jml_grammar.specs.Reading.{Parsed, Start, word_of}
use Rattle.jesc_jml_grammar.specs.ClauseMarks.{note_word, same_word, word_at, span_at, expect_word, at_mark}
use Rattle.jesc_jml_grammar.specs.ClauseLists.{until, separated}
use Rattle.jesc_jml_grammar.specs.ClauseReading as spec
use Rattle.jesc_jml_grammar.specs.ClauseReading.{with_word}
use Rattle.jesc_jml_parser.specs.laws.SoundMarks.{marked}
use Rattle.jesc_jml_parser.specs.laws.SoundSteps.{Gives, gives_bind, gives_if, gives_so, took}
use Rattle.jesc_jml_parser.specs.laws.ClauseSoundMarks.{same_word_is}

-- ---- spans

-- the span of the last of these lexemes, or of what stands before them where there is none
abbrev pub end_of : Span → List Lexeme → Span
end_of s [] = s
end_of s (x ∷ xs) = end_of x.span xs

pub end_of_both : (s : Span) (u v : List Lexeme) → end_of s (u ++ v) ≡ end_of (end_of s u) v
end_of_both s [] v = refl
end_of_both s (x ∷ u) v = end_of_both x.span u v

last_is_end : (x : Lexeme) (xs : List Lexeme) → (last_of x xs).span ≡ end_of x.span xs
last_is_end x [] = refl
last_is_end x (y ∷ ys) = last_is_end y ys

pub whole_span : (x : Lexeme) (xs : List Lexeme) → join x.span (end_of x.span xs) ≡ span_of_all (x ∷ xs)
whole_span x xs = ap (λ (s : Span). join x.span s) (sym (last_is_end x xs))

-- one lexeme at least
abbrev pub IsSome : List Lexeme → Type 0
IsSome [] = ⊥
IsSome (x ∷ xs) = Unit {0}

pub some_before : (u v : List Lexeme) → IsSome u → IsSome (u ++ v)
some_before [] v h = absurd h
some_before (x ∷ u) v h = tt

pub some_behind : (u v : List Lexeme) → IsSome v → IsSome (u ++ v)
some_behind [] v h = h
some_behind (x ∷ u) v h = tt

-- the span of the lexemes that were taken, by that of the next lexeme before
pub taken_span : (t ts rest : List Lexeme) → ts ≡ t ++ rest → IsSome t → join (span_at ts) (end_of (span_at ts) t) ≡ span_of_all t
taken_span [] ts rest parts some = absurd some
taken_span (x ∷ t) ts rest parts some = rw parts (whole_span x t)

-- ---- one lexeme

pub record TookWord (wanted : NoteWord) (ts : List Lexeme) (x : Lexeme) (rest : List Lexeme) : Type 0 where
  pub at : ts ≡ x ∷ rest
  pub word : note_word x ≡ wanted

pub took_one_word : (ts : List Lexeme) → Gives (take_one ts) (TookWord (word_at ts) ts)
unfolding take_one word_at
took_one_word [] = tt
took_one_word (x ∷ xs) = record { at = refl; word = refl }

pub took_word : (word : NoteWord) (ts : List Lexeme) → Gives (expect_word word ts) (TookWord word ts)
unfolding expect_word
took_word word ts =
    gives_if (same_word (word_at ts) word) take_one refuse (TookWord word ts) ts
    (λ e. gives_so (TookWord (word_at ts) ts) (TookWord word ts) (take_one ts) (took_one_word ts) (λ x rest h.
    record { at = h.at; word = h.word ∙ same_word_is (word_at ts) word e }))
    (λ e. tt)

-- ---- what was taken

-- the lexemes that were taken are as P says, and the rest is left
pub record TakenAs {B : Type 0} (P : B → List Lexeme → Type 0) (ts : List Lexeme) (found : B) (rest : List Lexeme) : Type 0 where
  pub taken : List Lexeme
  pub parts : ts ≡ taken ++ rest
  pub is : P found taken

-- and the next lexeme begins no item
pub record TakenUntil {B : Type 0} (begins : List Lexeme → Bool) (P : B → List Lexeme → Type 0) (ts : List Lexeme) (found : B) (rest : List Lexeme) : Type 0 where
  pub taken : List Lexeme
  pub parts : ts ≡ taken ++ rest
  pub is : P found taken
  pub ended : begins rest ≡ false

module _ {A B : Type 0} (begins : List Lexeme → Bool) (item : Parser A) (add : B → A → B) (P : B → List Lexeme → Type 0)
    (step : (found : B) (u ts : List Lexeme) → P found u → begins ts ≡ true
    → Gives (item ts) (λ x rest. TakenAs (λ (b : B) (v : List Lexeme). P b (u ++ v)) ts (add found x) rest)) where
  pub until_takes : (n : ℕ) (found : B) (all u ts : List Lexeme) → all ≡ u ++ ts → P found u → Gives (until begins item add n found ts) (TakenUntil begins P all)
  unfolding until
  until_takes zero found all u ts parts h = tt
  until_takes (suc n) found all u ts parts h =
      gives_if (begins ts) _ _ (TakenUntil begins P all) ts
      (λ e.
      gives_bind _ _ (item ts) (step found u ts h e) (λ x rest g.
      until_takes n (add found x) all (u ++ g.taken) rest (rw (parts, g.parts) (sym (append_assoc u g.taken rest))) g.is))
      (λ e. record { taken = u; parts = parts; is = h; ended = e })

module _ {A B : Type 0} (begins : List Lexeme → Bool) (sign : Parser Lexeme) (item : Parser A) (add : B → A → B) (P : B → List Lexeme → Type 0)
    (step : (found : B) (u ts : List Lexeme) → P found u → begins ts ≡ true
    → Gives ((sign >> item) ts) (λ x rest. TakenAs (λ (b : B) (v : List Lexeme). P b (u ++ v)) ts (add found x) rest)) where
  pub separated_takes : (n : ℕ) (found : B) (ts : List Lexeme) → Gives (item ts) (λ x rest. TakenAs P ts (add found x) rest)
      → Gives (separated begins sign item add n found ts) (TakenUntil begins P ts)
  unfolding separated
  separated_takes n found ts first =
      gives_bind _ _ (item ts) first (λ x rest g.
      until_takes begins (sign >> item) add P step n (add found x) ts g.taken rest g.parts g.is)

-- ---- how deep what was read is

-- These lexemes spell it. Its depth is this one and within the room, and its quantifiers nest no deeper than k.
pub record IsRead {A : Type 0} (spells : A → List Lexeme → Type 0) (measure : (Expression → ℕ) → ℕ → A → ℕ) (room k : ℕ) (u : List Lexeme) (a : A) (d : ℕ)
    : Type 0 where
  pub spelled : spells a u
  pub deep : measure depth 1 a ≡ d
  pub shallow : d ≤ room
  pub flat : measure nesting 0 a ≤ k

-- a list's measure is the greatest of its items'
pub record IsGreatest {A : Type 0} (one : (Expression → ℕ) → ℕ → A → ℕ) (all : (Expression → ℕ) → ℕ → List A → ℕ) : Type 0 where
  pub none : (f : Expression → ℕ) (n : ℕ) → all f n [] ≡ 0
  pub more : (f : Expression → ℕ) (n : ℕ) (x : A) (xs : List A) → all f n (x ∷ xs) ≡ max (one f n x) (all f n xs)

module _ {A : Type 0} (one : (Expression → ℕ) → ℕ → A → ℕ) (all : (Expression → ℕ) → ℕ → List A → ℕ) (greatest : IsGreatest one all) where
  pub greatest_at_end : (f : Expression → ℕ) (n : ℕ) (xs : List A) (x : A) → all f n (xs ++ x ∷ []) ≡ max (all f n xs) (one f n x)
  greatest_at_end f n [] x = omega (arith, greatest.more f n x [], greatest.none f n)
  greatest_at_end f n (y ∷ xs) x = omega (arith, greatest.more f n y (xs ++ x ∷ []), greatest.more f n y xs, greatest_at_end f n xs x)

  module _ (spells : A → List Lexeme → Type 0) (spells_all : List A → List Lexeme → Type 0) (room k : ℕ) where
    -- one more at the end
    pub read_more : (xs : List A) (x : A) (u v t : List Lexeme) (d e : ℕ) → IsRead spells_all all room k u xs d → IsRead spells one room k v x e
        → spells_all (xs ++ x ∷ []) t → IsRead spells_all all room k t (xs ++ x ∷ []) (max d e)
    read_more xs x u v t d e h g spelled = record {
      spelled = spelled;
      deep = greatest_at_end depth 1 xs x ∙ (rw (h.deep, g.deep) refl);
      shallow = omega (arith, h.shallow, g.shallow);
      flat = omega (arith, greatest_at_end nesting 0 xs x, h.flat, g.flat);
    }

    pub read_first : (x : A) (v t : List Lexeme) (e : ℕ) → IsRead spells one room k v x e → spells_all (x ∷ []) t → IsRead spells_all all room k t (x ∷ []) (max 0 e)
    read_first x v t e g spelled = record {
      spelled = spelled;
      deep = greatest_at_end depth 1 [] x ∙ (rw (greatest.none depth 1, g.deep) refl);
      shallow = omega (arith, g.shallow);
      flat = omega (arith, greatest_at_end nesting 0 [] x, greatest.none nesting 0, g.flat);
    }

    pub read_none : spells_all [] [] → IsRead spells_all all room k [] [] 0
    read_none spelled = record { spelled = spelled; deep = greatest.none depth 1; shallow = omega arith; flat = omega (arith, greatest.none nesting 0) }

-- ---- names

pub one_name : (note : Bool) (x : Lexeme) → lexeme_mark note x ≡ m.Name → SpellsNames note (word_of x ∷ []) (x ∷ [])
one_name note x named = let at = marked note m.Name x named in rw at.0 (last_name x.span x.text at.1)

pub names_at_end : (note : Bool) (ws : List Word) (u : List Lexeme) (p x : Lexeme) → SpellsNames note ws u → lexeme_mark note p ≡ m.Comma → lexeme_mark note x ≡ m.Name
    → SpellsNames note (ws ++ word_of x ∷ []) (u ++ p ∷ x ∷ [])
names_at_end note _ _ p x (last_name s y is) comma named =
    rw (marked note m.Comma p comma) (first_name s p.span y (word_of x ∷ []) (x ∷ []) is (one_name note x named))
names_at_end note _ _ p x (first_name s q y ws u is more) comma named =
    first_name s q y (ws ++ word_of x ∷ []) (u ++ p ∷ x ∷ []) is (names_at_end note ws u p x more comma named)

module _ (limit room : ℕ) (inner : ℕ → ℕ → Start → Parser Parsed) (k : ℕ) where
  pub names_take : (ts : List Lexeme) → Gives (spec.names limit room inner k ts) (TakenAs (SpellsNames true) ts)
  unfolding spec.names
  names_take ts =
      gives_so (TakenUntil (at_mark m.Comma) (SpellsNames true) ts) (TakenAs (SpellsNames true) ts) (spec.names limit room inner k ts)
      (separated_takes (at_mark m.Comma) (expect true m.Comma) (expect true m.Name) with_word (SpellsNames true)
      (λ ws u all h e.
      gives_bind _ _ (expect true m.Comma all) (took true m.Comma all) (λ p mid comma.
      gives_so _ (λ x rest. TakenAs (λ (b : List Word) (v : List Lexeme). SpellsNames true b (u ++ v)) all (with_word ws x) rest) (expect true m.Name mid) (took true m.Name mid) (λ x rest named.
      record { taken = p ∷ x ∷ []; parts = rw (comma.at, named.at) refl; is = names_at_end true ws u p x h comma.mark named.mark })))
      limit [] ts
      (gives_so _ (λ x rest. TakenAs (SpellsNames true) ts (with_word [] x) rest) (expect true m.Name ts) (took true m.Name ts) (λ x rest named.
      record { taken = x ∷ []; parts = named.at; is = one_name true x named.mark })))
      (λ ws rest h. record { taken = h.taken; parts = h.parts; is = h.is })
