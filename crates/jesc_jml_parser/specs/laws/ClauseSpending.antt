-- How many lexemes the rules of store references and of clauses take, and a stop at the limits.
use Rattle.std.proofs.Common.{◌≡◌, ℕ, zero, suc, ◌+◌, ◌-◌, ◌≤◌, ◌<◌, Bool, true, false, if◌then◌else◌, nat_lt, nat_le, List, [], Ok, arith, inr}
use Rattle.std.proofs.lemmas.Bool.{ltb-false, leb-false}
use Rattle.jesc_ast.specs.Lexemes.{Lexeme}
use Rattle.jesc_ast.specs.Trees.{name}
use Rattle.jesc_ast.specs.SpecTrees.{Store}
use Rattle.jesc_jml_grammar.specs.declared.mark.Mark.{Mark}
use Rattle.jesc_jml_grammar.specs.declared.mark.Mark.TheVariants as m
use Rattle.jesc_jml_grammar.specs.declared.note_word.NoteWord.{NoteWord}
use Rattle.jesc_jml_grammar.specs.declared.note_word.NoteWord.TheVariants as w
use Rattle.jesc_jml_grammar.specs.Steps.{Outcome, Parser, and_then, ◌>>◌, refuse, too_deep, mark_at, same_mark, take_one, expect}
use Rattle.jesc_jml_grammar.specs.Reading as reading
use Rattle.jesc_jml_grammar.specs.Reading.{Parsed, Start, at_first, leaf}
use Rattle.jesc_jml_parser.specs.laws.Spending.{Spent, spent_bind, spent_if, spent_pure, spent_deep, spent_one, spent_expect, spent_shift}
use Rattle.jesc_jml_parser.specs.laws.DeepPlaces.{Shallow}
use Rattle.jesc_jml_grammar.specs.ClauseMarks.{same_word, word_at, at_mark, expect_word}
use Rattle.jesc_jml_grammar.specs.ClauseLists.{until, separated}
use Rattle.jesc_jml_grammar.specs.ClauseReading as spec
use Rattle.jesc_jml_grammar.specs.ClauseReading.{Sized, with_word, Path, plain, with_index, closed, store_of, StoreStep, goes_on, is_read, star_of, all_of, range_of, member_path}

-- as many lexemes as before, or more
abbrev pub Later : {A : Type 0} → ℕ → ℕ → A → Type 0
Later c c' x = c ≤ c'

-- more than before
abbrev pub Past : {A : Type 0} → ℕ → ℕ → A → Type 0
Past c c' x = c < c'

module _ (limit need : ℕ) where
  abbrev pub S : {A : Type 0} → (ℕ → A → Type 0) → ℕ → List Lexeme → Outcome A → Type 0
  S = Spent true limit need

  -- a chain of parsers, by what the first one takes
  pub after : {A B : Type 0} (P : ℕ → A → Type 0) (f : A → Parser B) (Q : ℕ → B → Type 0) (c : ℕ) (ts : List Lexeme) (r : Outcome A) → S P c ts r
      → ((x : A) (mid : List Lexeme) (c' : ℕ) → P c' x → S Q c' mid (f x mid)) → S Q c ts (and_then r f)
  after P f Q c ts r first next = spent_bind true limit need f Q c ts r first next

  pub after_mark : {B : Type 0} (mark : Mark) (f : Lexeme → Parser B) (Q : ℕ → B → Type 0) (c : ℕ) (ts : List Lexeme)
      → ((x : Lexeme) (mid : List Lexeme) (c' : ℕ) → c < c' → S Q c' mid (f x mid)) → S Q c ts (and_then (expect true mark ts) f)
  after_mark mark f Q c ts next = after (λ c' x. c' ≡ c + 1) f Q c ts (expect true mark ts) (spent_expect true limit need mark c ts) (λ x mid c' e. next x mid c' (omega arith))

  pub done : {A : Type 0} (P : ℕ → A → Type 0) (c : ℕ) (x : A) (ts : List Lexeme) → P c x → S P c ts (Ok (x, ts))
  done = spent_pure true limit need

  pub either : {A : Type 0} (P : ℕ → A → Type 0) (c : ℕ) (b : Bool) (p q : Parser A) (ts : List Lexeme) → S P c ts (p ts) → S P c ts (q ts) → S P c ts ((if b then p else q) ts)
  either P c b p q ts first second = spent_if true limit need P c b p q ts (λ is. first) (λ is. second)

  -- a weaker claim
  pub weaker : {A : Type 0} (P Q : ℕ → A → Type 0) (c : ℕ) (ts : List Lexeme) (r : Outcome A) → ((c' : ℕ) (x : A) → P c' x → Q c' x) → S P c ts r → S Q c ts r
  weaker P Q c ts r up h = spent_shift true limit need need P Q c c ts (omega arith) (omega arith) (λ t x holds. up (c + t) x holds) r h

  pub spent_take : (c : ℕ) (ts : List Lexeme) → S (Past c) c ts (take_one ts)
  spent_take c ts = weaker (λ c' x. c' ≡ c + 1) (Past c) c ts (take_one ts) (λ c' x e. omega arith) (spent_one true limit need c ts)

  pub spent_mark : (mark : Mark) (c : ℕ) (ts : List Lexeme) → S (Past c) c ts (expect true mark ts)
  spent_mark mark c ts = weaker (λ c' x. c' ≡ c + 1) (Past c) c ts (expect true mark ts) (λ c' x e. omega arith) (spent_expect true limit need mark c ts)

  pub spent_word : (found : NoteWord) (c : ℕ) (ts : List Lexeme) → S (Past c) c ts (expect_word found ts)
  unfolding expect_word
  spent_word found c ts = either (Past c) c (same_word (word_at ts) found) take_one refuse ts (spent_take c ts) tt

  pub after_word : {B : Type 0} (found : NoteWord) (f : Lexeme → Parser B) (Q : ℕ → B → Type 0) (c : ℕ) (ts : List Lexeme)
      → ((x : Lexeme) (mid : List Lexeme) (c' : ℕ) → c < c' → S Q c' mid (f x mid)) → S Q c ts (and_then (expect_word found ts) f)
  after_word found f Q c ts next = after (Past c) f Q c ts (expect_word found ts) (spent_word found c ts) next

  -- where there is room
  pub when : {A : Type 0} (P : ℕ → A → Type 0) (c : ℕ) (b : Bool) (p : Parser A) (ts : List Lexeme) → S P c ts (p ts) → (b ≡ false → need ≤ c) → S P c ts ((if b then p else too_deep) ts)
  when P c b p ts enough many = spent_if true limit need P c b p too_deep ts (λ is. enough) (λ is. spent_deep true limit need P c ts (inr (many is)))

  -- ---- lists

  module _ {A B : Type 0} (begins : List Lexeme → Bool) (item : Parser A) (add : B → A → B) (items : (c : ℕ) → 1 ≤ c → (ts : List Lexeme) → S (Past c) c ts (item ts)) where
    pub spent_until : (start n : ℕ) (found : B) (c : ℕ) → limit < n + c → start ≤ c → 1 ≤ c → (ts : List Lexeme) → S (Later start) c ts (until begins item add n found ts)
    unfolding until
    spent_until start zero found c turns late one ts = omega arith
    spent_until start (suc n) found c turns late one ts =
        either (Later start) c (begins ts) _ _ ts
        (after (Past c) _ (Later start) c ts (item ts) (items c one ts) (λ x mid c1 e1. spent_until start n (add found x) c1 (omega arith) (omega arith) (omega arith) mid))
        (done (Later start) c found ts late)

  module _ {A B : Type 0} (begins : List Lexeme → Bool) (sign : Parser Lexeme) (item : Parser A) (add : B → A → B)
      (signs : (c : ℕ) (ts : List Lexeme) → S (Past c) c ts (sign ts)) (items : (c : ℕ) → 1 ≤ c → (ts : List Lexeme) → S (Later c) c ts (item ts)) where
    signed : (c : ℕ) → 1 ≤ c → (ts : List Lexeme) → S (Past c) c ts ((sign >> item) ts)
    signed c one ts =
        after (Past c) (λ _. item) (Past c) c ts (sign ts) (signs c ts) (λ x mid c1 e1.
        weaker (Later c1) (Past c) c1 mid (item mid) (λ c' y e. omega arith) (items c1 (omega arith) mid))

    pub spent_more_separated : (start : ℕ) (found : B) (c : ℕ) → start ≤ c → 1 ≤ c → (ts : List Lexeme) → S (Later start) c ts (until begins (sign >> item) add limit found ts)
    spent_more_separated start found c late one ts = spent_until begins (sign >> item) add signed start limit found c (omega arith) late one ts

    pub spent_separated : (found : B) (c : ℕ) → 1 ≤ c → (ts : List Lexeme) → S (Later c) c ts (separated begins sign item add limit found ts)
    unfolding separated
    spent_separated found c one ts =
        after (Later c) _ (Later c) c ts (item ts) (items c one ts) (λ x mid c1 e1. spent_more_separated c (add found x) c1 e1 (omega arith) mid)

-- ---- store references

-- where a path stands, with as many lexemes as it is deep
abbrev pub Reached : ℕ → ℕ → Path → Type 0
Reached c c' path = ((closed path).depth ≤ c') × (c < c')

abbrev pub Stepped : ℕ → ℕ → StoreStep → Type 0
Stepped c c' (goes_on path) = Reached c c' path
Stepped c c' (is_read t) = c ≤ c'

module _ (limit room : ℕ) (inner : ℕ → ℕ → Start → Parser Parsed) (k : ℕ) (h : (ts : List Lexeme) → Spent true limit (room - 1) Shallow 0 ts (inner k 1 at_first ts)) where
  abbrev R : {A : Type 0} → (ℕ → A → Type 0) → ℕ → List Lexeme → Outcome A → Type 0
  R = Spent true limit (room - 1)

  -- a tree, no deeper than the lexemes that it took are many
  pub after_tree : {B : Type 0} (f : Parsed → Parser B) (Q : ℕ → B → Type 0) (c : ℕ) (ts : List Lexeme)
      → ((e : Parsed) (mid : List Lexeme) (c' : ℕ) → e.depth + c ≤ c' → c ≤ c' → R Q c' mid (f e mid)) → R Q c ts (and_then (inner k 1 at_first ts) f)
  after_tree f Q c ts next =
      after limit (room - 1) (λ c' e. e.depth + c ≤ c') f Q c ts (inner k 1 at_first ts)
      (spent_shift true limit (room - 1) (room - 1) Shallow (λ c' e. e.depth + c ≤ c') 0 c ts (omega arith) (omega arith) (λ t x holds. omega arith) (inner k 1 at_first ts) (h ts))
      (λ e mid c' low. next e mid c' low (omega arith))

  pub spent_names : (c : ℕ) → 1 ≤ c → (ts : List Lexeme) → R (Later c) c ts (spec.names limit room inner k ts)
  unfolding spec.names
  spent_names c one ts =
      spent_separated limit (room - 1) (at_mark m.Comma) (expect true m.Comma) (expect true m.Name) with_word (spent_mark limit (room - 1) m.Comma)
      (λ c' o us. weaker limit (room - 1) (Past c') (Later c') c' us (expect true m.Name us) (λ n x e. omega arith) (spent_mark limit (room - 1) m.Name c' us)) [] c one ts

  spent_path_name : (c : ℕ) (ts : List Lexeme) → R (Reached c) c ts (spec.path_name limit room inner k ts)
  unfolding spec.path_name
  spent_path_name c ts = after_mark limit (room - 1) m.Name _ (Reached c) c ts (λ x mid c1 e1. done limit (room - 1) (Reached c) c1 (plain (leaf (name x.span x.text))) mid (omega arith, e1))

  spent_path_this : (c : ℕ) (ts : List Lexeme) → R (Reached c) c ts (spec.path_this limit room inner k ts)
  unfolding spec.path_this
  spent_path_this c ts = after_mark limit (room - 1) m.This _ (Reached c) c ts (λ x mid c1 e1.
      done limit (room - 1) (Reached c) c1 (plain (leaf (reading.literal_of true limit room inner k m.This x))) mid (omega arith, e1))

  spent_path_by : (mark : Mark) (c : ℕ) (ts : List Lexeme) → R (Reached c) c ts (spec.path_by limit room inner k mark ts)
  spent_path_by m.Name c ts = spent_path_name c ts
  spent_path_by m.This c ts = spent_path_this c ts
  spent_path_by _ c ts = tt

  spent_path_first : (c : ℕ) (ts : List Lexeme) → R (Reached c) c ts (spec.path_first limit room inner k ts)
  unfolding spec.path_first
  spent_path_first c ts =
      either limit (room - 1) (Reached c) c (spec.opens_path limit room inner k (mark_at true ts)) _ _ ts
      (when limit (room - 1) (Reached c) c (nat_lt 0 room) _ ts (spent_path_by (mark_at true ts) c ts) (λ none. omega (arith, ltb-false 0 room none))) tt

  spent_starred : (e : Parsed) (c c' : ℕ) → c < c' → (ts : List Lexeme) → R (Stepped c) c' ts (spec.starred limit room inner k e ts)
  unfolding spec.starred
  spent_starred e c c' late ts = after_mark limit (room - 1) m.Times _ (Stepped c) c' ts (λ q mid c1 e1. done limit (room - 1) (Stepped c) c1 (is_read (star_of e q)) mid (omega arith))

  spent_path_member : (e : Parsed) (dot : Lexeme) (c c' : ℕ) → e.depth ≤ c → c < c' → (ts : List Lexeme) → R (Stepped c) c' ts (spec.path_member limit room inner k e dot ts)
  unfolding spec.path_member
  spent_path_member e dot c c' low late ts =
      after_mark limit (room - 1) m.Name _ (Stepped c) c' ts (λ x mid c1 e1. done limit (room - 1) (Stepped c) c1 (goes_on (member_path e dot x)) mid (omega arith, omega arith))

  spent_behind_dot : (e : Parsed) (dot : Lexeme) (mark : Mark) (c c' : ℕ) → e.depth ≤ c → c < c' → (ts : List Lexeme)
      → R (Stepped c) c' ts (spec.behind_dot_by limit room inner k e dot mark ts)
  spent_behind_dot e dot m.Times c c' low late ts = spent_starred e c c' late ts
  spent_behind_dot e dot m.Name c c' low late ts =
      when limit (room - 1) (Stepped c) c' (nat_lt e.depth room) _ ts (spent_path_member e dot c c' low late ts) (λ none. omega (arith, ltb-false e.depth room none))
  spent_behind_dot e dot _ c c' low late ts = tt

  spent_path_dotted : (e : Parsed) (c : ℕ) → e.depth ≤ c → (ts : List Lexeme) → R (Stepped c) c ts (spec.path_dotted limit room inner k e ts)
  unfolding spec.path_dotted
  spent_path_dotted e c low ts = after_mark limit (room - 1) m.Dot _ (Stepped c) c ts (λ dot mid c1 e1. spent_behind_dot e dot (mark_at true mid) c c1 low e1 mid)

  spent_all_starred : (e : Parsed) (c c' : ℕ) → c < c' → (ts : List Lexeme) → R (Stepped c) c' ts (spec.all_starred limit room inner k e ts)
  unfolding spec.all_starred
  spent_all_starred e c c' late ts =
      after_mark limit (room - 1) m.Times _ (Stepped c) c' ts (λ s mid c1 e1.
      after_mark limit (room - 1) m.RightBracket _ (Stepped c) c1 mid (λ q rest c2 e2. done limit (room - 1) (Stepped c) c2 (is_read (all_of e q)) rest (omega arith)))

  spent_ranged : (e i : Parsed) (c c' : ℕ) → c < c' → (ts : List Lexeme) → R (Stepped c) c' ts (spec.ranged limit room inner k e i ts)
  unfolding spec.ranged
  spent_ranged e i c c' late ts =
      after_word limit (room - 1) w.Range _ (Stepped c) c' ts (λ r mid c1 e1.
      after_tree _ (Stepped c) c1 mid (λ j end c2 e2 l2.
      after_mark limit (room - 1) m.RightBracket _ (Stepped c) c2 end (λ q rest c3 e3. done limit (room - 1) (Stepped c) c3 (is_read (range_of e i j q)) rest (omega arith))))

  spent_path_index : (e : Parsed) (p : Lexeme) (i : Parsed) (c c' : ℕ) → e.depth ≤ c → i.depth ≤ c' → c < c' → (ts : List Lexeme)
      → R (Stepped c) c' ts (spec.path_index limit room inner k e p i ts)
  unfolding spec.path_index
  spent_path_index e p i c c' low inside late ts =
      after_mark limit (room - 1) m.RightBracket _ (Stepped c) c' ts (λ q rest c1 e1. done limit (room - 1) (Stepped c) c1 (goes_on (with_index e p i q)) rest (omega arith, omega arith))

  spent_bounded : (e : Parsed) (p : Lexeme) (c c' : ℕ) → e.depth ≤ c → c < c' → (ts : List Lexeme) → R (Stepped c) c' ts (spec.bounded_by limit room inner k e p ts)
  unfolding spec.bounded_by
  spent_bounded e p c c' low late ts =
      after_tree _ (Stepped c) c' ts (λ i mid c1 e1 l1.
      either limit (room - 1) (Stepped c) c1 (same_word (word_at mid) w.Range) _ _ mid (spent_ranged e i c c1 (omega arith) mid)
      (spent_path_index e p i c c1 low (omega arith) (omega arith) mid))

  spent_path_bracketed : (e : Parsed) (c : ℕ) → e.depth ≤ c → (ts : List Lexeme) → R (Stepped c) c ts (spec.path_bracketed limit room inner k e ts)
  unfolding spec.path_bracketed
  spent_path_bracketed e c low ts =
      after_mark limit (room - 1) m.LeftBracket _ (Stepped c) c ts (λ p mid c1 e1.
      either limit (room - 1) (Stepped c) c1 (same_mark (mark_at true mid) m.Times) _ _ mid (spent_all_starred e c c1 e1 mid) (spent_bounded e p c c1 low e1 mid))

  spent_longer : (e : Parsed) (p : Parser StoreStep) (c : ℕ) → e.depth ≤ c → (ts : List Lexeme) → R (Stepped c) c ts (p ts) → R (Stepped c) c ts (spec.longer limit room inner k e p ts)
  spent_longer e p c low ts enough = when limit (room - 1) (Stepped c) c (nat_le e.depth room) p ts enough (λ none. omega (arith, leb-false e.depth room none))

  spent_store_step_by : (path : Path) (mark : Mark) (c : ℕ) → (closed path).depth ≤ c → (ts : List Lexeme) → R (Stepped c) c ts (spec.store_step_by limit room inner k path mark ts)
  spent_store_step_by path m.Dot c low ts = spent_longer (closed path) (spec.path_dotted limit room inner k (closed path)) c low ts (spent_path_dotted (closed path) c low ts)
  spent_store_step_by path m.LeftBracket c low ts =
      spent_longer (closed path) (spec.path_bracketed limit room inner k (closed path)) c low ts (spent_path_bracketed (closed path) c low ts)
  spent_store_step_by path _ c low ts = done limit (room - 1) (Stepped c) c (is_read (store_of path)) ts (omega arith)

  spent_store_step : (path : Path) (c : ℕ) → (closed path).depth ≤ c → (ts : List Lexeme) → R (Stepped c) c ts (spec.store_step limit room inner k path ts)
  unfolding spec.store_step
  spent_store_step path c low ts = spent_store_step_by path (mark_at true ts) c low ts

  spent_after_step : (next : Path → Parser (Sized Store)) (start c c' : ℕ) → start ≤ c
      → ((path : Path) (c1 : ℕ) → (closed path).depth ≤ c1 → c < c1 → (ts : List Lexeme) → R (Later start) c1 ts (next path ts)) → (s : StoreStep) → Stepped c c' s → (ts : List Lexeme)
      → R (Later start) c' ts (spec.after_step limit room inner k next s ts)
  spent_after_step next start c c' late go (goes_on path) reached ts = go path c' reached.0 reached.1 ts
  spent_after_step next start c c' late go (is_read t) reached ts = done limit (room - 1) (Later start) c' t ts (omega arith)

  spent_store_behind : (start n : ℕ) (path : Path) (c : ℕ) → limit < n + c → start ≤ c → (closed path).depth ≤ c → (ts : List Lexeme)
      → R (Later start) c ts (spec.store_behind limit room inner k n path ts)
  unfolding spec.store_behind
  spent_store_behind start zero path c turns late low ts = omega arith
  spent_store_behind start (suc n) path c turns late low ts =
      after limit (room - 1) (Stepped c) _ (Later start) c ts (spec.store_step limit room inner k path ts) (spent_store_step path c low ts) (λ s mid c1 e1.
      spent_after_step (spec.store_behind limit room inner k n) start c c1 late (λ next c2 low2 late2 us. spent_store_behind start n next c2 (omega arith) (omega arith) low2 us) s e1 mid)

  pub spent_one_store : (c : ℕ) → 1 ≤ c → (ts : List Lexeme) → R (Later c) c ts (spec.one_store limit room inner k ts)
  unfolding spec.one_store
  spent_one_store c one ts =
      after limit (room - 1) (Reached c) _ (Later c) c ts (spec.path_first limit room inner k ts) (spent_path_first c ts) (λ path mid c1 (low, late).
      spent_store_behind c limit path c1 (omega arith) (omega arith) low mid)
