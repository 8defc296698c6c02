-- What the recognizer has taken in a specification: whole clauses, or also the beginning of one.
use Rattle.std.proofs.Common.{◌≡◌, ℕ, Bool, true, false, ◌||◌, ◌&&◌, if◌then◌else◌, nat_le, List, [], ◌∷◌, ◌++◌, refl, sym, ap, subst, Option, Some, None, unwrap_or, codes, decimal, inl, inr}
use Rattle.std.specs.Option.{is_some}
use Rattle.std.specs.Str.{bytes_eq}
use Rattle.std.specs.Str.Parse.{digits_value}
use Rattle.std.proofs.lemmas.Slice.Eq.{bytes_eq-Decides}
use Rattle.jesc_lexer.specs.declared.token.TokenKind.{TokenKind}
use Rattle.jesc_lexer.specs.declared.token.TokenKind.TheVariants.{Word, Backslash, Number as Digits, Sign}
use Rattle.jesc_ast.specs.Lexemes.{Lexeme}
use Rattle.jesc_first.specs.declared.tree.Operator.{Operator}
use Rattle.jesc_first.specs.declared.tree.Operator.TheVariants.{Plus, Minus}
use Rattle.jesc_first.specs.declared.tree.Comparison.{Comparison}
use Rattle.jesc_first.specs.declared.tree.Comparison.TheVariants.{Less, AtMost, Greater, AtLeast, Equal}
use Rattle.jesc_first.specs.declared.tree.Part.TheVariants.{Number, Slot, Outcome}
use Rattle.jesc_first.specs.declared.reader.phase.Seat.{Seat}
use Rattle.jesc_first.specs.declared.reader.phase.Seat.TheVariants.{DemandLeft, DemandRight, PromiseLeft, PromiseRight}
use Rattle.jesc_first.specs.declared.reader.phase.Phase.{Phase}
use Rattle.jesc_first.specs.declared.reader.phase.Phase.TheVariants.{Classes, Methods, Demands, Promises, Part as PartPhase, Behind, Result}
use Rattle.jesc_first.specs.Spelling.{Fits, sign, sign_at, operator_text, comparison_text}
use Rattle.jesc_first.specs.Parsing.{Texts, same_side, is_token}
use Rattle.jesc_first.specs.Outside.{IsInCondition}
use Rattle.jesc_first.specs.Recognizing.{State, is_before_part, is_word, is_sign, is_noted, is_promise, is_part_text, is_part, is_operator, is_comparison, to, in_specification, next, learned, entered, step}
use Rattle.jesc_first.specs.Recognized.{Steps}
use Rattle.jesc_first.proofs.SoundBase.{and_right, token_fits, token_fits_at}
use Rattle.jesc_first.proofs.Beginnings.{Spot, before_left, behind_left, before_right, behind_right, IsAnyPart, part_left, part_right, operator_left, operator_right, comparison_next, IsWithin, within_first, within_more, within_name}

-- ---- what the tests of a lexeme say of it

is_some_if : (b : Bool) (n : ℕ) → is_some (if b then Some n else None) ≡ true → b ≡ true
is_some_if true n h = refl
is_some_if false n h = absurd (cc)

part_of : (seat : Seat) (names : Texts) (x : Lexeme) (kind : TokenKind) → x.kind ≡ kind → x.note ≡ true → is_part_text seat names x.text kind ≡ true → IsAnyPart x
part_of seat names x Word k n h scope slot e = (Slot slot, record { kind = k; text = sym e; note = n; at = tt })
part_of seat names x Digits k n h scope slot e =
    let m : ℕ = digits_value 10 x.text in
    let same : bytes_eq x.text (decimal m) ≡ true = and_right (nat_le m 2147483647) (bytes_eq x.text (decimal m)) (is_some_if (nat_le m 2147483647 && bytes_eq x.text (decimal m)) m h) in
    (Number m, record { kind = k; text = (bytes_eq-Decides x.text (decimal m)).0 same; note = n; at = tt })
part_of seat names x Backslash k n h scope slot e =
    let same : bytes_eq x.text (codes "\\result") ≡ true = and_right (is_promise seat) (bytes_eq x.text (codes "\\result")) h in
    (Outcome, record { kind = k; text = (bytes_eq-Decides x.text (codes "\\result")).0 same; note = n; at = tt })
part_of seat names x Sign k n h scope slot e = absurd (cc)

part_there : (seat : Seat) (names : Texts) (x : Lexeme) → x.note ≡ true → is_part seat names x ≡ true → IsAnyPart x
part_there seat names x n h = part_of seat names x x.kind refl n (and_right (same_side x.note (is_noted seat)) (is_part_text seat names x.text x.kind) h)

or_else : {A : Type 0} (a b : Bool) → (a || b) ≡ true → (a ≡ true → A) → (b ≡ true → A) → A
or_else true b h f g = f refl
or_else false b h f g = g h

operator_there : (x : Lexeme) → is_operator true x ≡ true → (operator : Operator) × Fits x (sign_at true (operator_text operator) x.span.from)
operator_there x h =
    or_else (is_sign true (codes "+") x) (is_sign true (codes "-") x) h (λ e. (Plus, token_fits_at Sign true (codes "+") x e)) (λ e. (Minus, token_fits_at Sign true (codes "-") x e))

comparison_there : (x : Lexeme) → is_comparison x ≡ true → (comparison : Comparison) × Fits x (sign true (comparison_text comparison))
comparison_there x h =
    let less : Bool = is_sign true (codes "<") x in
    let at_most : Bool = is_sign true (codes "<=") x in
    let greater : Bool = is_sign true (codes ">") x in
    let at_least : Bool = is_sign true (codes ">=") x in
    or_else (less || at_most || greater || at_least) (is_sign true (codes "==") x) h (λ h.
    or_else (less || at_most || greater) at_least h (λ h.
    or_else (less || at_most) greater h (λ h.
    or_else less at_most h (λ e. (Less, token_fits Sign true (codes "<") x e))
    (λ e. (AtMost, token_fits Sign true (codes "<=") x e)))
    (λ e. (Greater, token_fits Sign true (codes ">") x e)))
    (λ e. (AtLeast, token_fits Sign true (codes ">=") x e)))
    (λ e. (Equal, token_fits Sign true (codes "==") x e))

-- a lexeme of an annotation is none outside them
not_outside : {A : Type 0} (kind : TokenKind) (text : List ℕ) (x : Lexeme) → x.note ≡ true → is_token kind false text x ≡ true → A
not_outside kind text x n h = let outside : x.note ≡ false = (token_fits kind false text x h).note in absurd (cc)

-- ---- tests that choose the phase behind a lexeme

phase_is : (p q : Phase) → Some p ≡ Some q → p ≡ q
phase_is p q e = ap (λ (o : Option Phase). unwrap_or o p) e

by_test : (b : Bool) (p q : Phase) (o : Option Phase) (P : Phase → Type 0) → (if b then Some p else o) ≡ Some q → (b ≡ true → P p) → (o ≡ Some q → P q) → P q
by_test true p q o P e taken otherwise = subst P (phase_is p q e) (taken refl)
by_test false p q o P e taken otherwise = otherwise e

by_only : (b : Bool) (p q : Phase) (P : Phase → Type 0) → to b p ≡ Some q → (b ≡ true → P p) → P q
by_only true p q P e taken = subst P (phase_is p q e) (taken refl)
by_only false p q P e taken = absurd (cc)

-- ---- phases of a specification

-- at a spot of a clause, which is an `ensures` or else a `requires`
abbrev pub phase_at : Bool → Spot → Phase
phase_at false before_left = PartPhase DemandLeft
phase_at false behind_left = Behind DemandLeft
phase_at false before_right = PartPhase DemandRight
phase_at false behind_right = Behind DemandRight
phase_at true before_left = PartPhase PromiseLeft
phase_at true behind_left = Behind PromiseLeft
phase_at true before_right = PartPhase PromiseRight
phase_at true behind_right = Behind PromiseRight

-- the lexemes end between clauses or within one, as the phase says
pub data IsTaken (before : List Lexeme) : Phase → Type 0 where
  before_any : IsTaken before Methods
  behind_demand : IsTaken before Demands
  behind_promise : IsTaken before Promises
  within : (promise : Bool) (spot : Spot) → IsWithin before spot → IsTaken before (phase_at promise spot)

clause_begins : (before : List Lexeme) (demands : Bool) (x : Lexeme) (q : Phase) → x.note ≡ true → in_specification demands x ≡ Some q → IsTaken (before ++ x ∷ []) q
clause_begins before demands x q n e =
    let P : Phase → Type 0 = IsTaken (before ++ x ∷ []) in
    by_test (demands && is_word true (codes "requires") x) (PartPhase DemandLeft) q _ P e
    (λ h. within false before_left (within_first before x (inl (token_fits Word true (codes "requires") x (and_right demands (is_word true (codes "requires") x) h)))))
    (λ e.
    by_test (is_word true (codes "ensures") x) (PartPhase PromiseLeft) q _ P e
    (λ h. within true before_left (within_first before x (inr (token_fits Word true (codes "ensures") x h))))
    (λ e. by_only (is_word false (codes "static") x) Result q P e (λ h. not_outside Word (codes "static") x n h)))

module _ (before : List Lexeme) (x : Lexeme) where
  left_part : (seat : Seat) (names : Texts) → x.note ≡ true → is_part seat names x ≡ true → IsWithin before before_left → IsWithin (before ++ x ∷ []) behind_left
  left_part seat names n h w = within_more before x before_left behind_left w (part_left x (part_there seat names x n h))

  right_part : (seat : Seat) (names : Texts) → x.note ≡ true → is_part seat names x ≡ true → IsWithin before before_right → IsWithin (before ++ x ∷ []) behind_right
  right_part seat names n h w = within_more before x before_right behind_right w (part_right x (part_there seat names x n h))

  left_operator : is_operator true x ≡ true → IsWithin before behind_left → IsWithin (before ++ x ∷ []) before_left
  left_operator h w = let o = operator_there x h in within_more before x behind_left before_left w (operator_left x o.0 x.span.from o.1)

  right_operator : is_operator true x ≡ true → IsWithin before behind_right → IsWithin (before ++ x ∷ []) before_right
  right_operator h w = let o = operator_there x h in within_more before x behind_right before_right w (operator_right x o.0 x.span.from o.1)

  comparison : is_comparison x ≡ true → IsWithin before behind_left → IsWithin (before ++ x ∷ []) before_right
  comparison h w = let c = comparison_there x h in within_more before x behind_left before_right w (comparison_next x c.0 c.1)

  goes_on : (p : Phase) (s : State) (q : Phase) → IsTaken before p → x.note ≡ true → next p s x ≡ Some q → IsTaken (before ++ x ∷ []) q
  goes_on Methods s q before_any n e =
      by_test (is_sign false (codes "}") x) Classes q _ (IsTaken (before ++ x ∷ [])) e (λ h. not_outside Sign (codes "}") x n h) (λ e. clause_begins before true x q n e)
  goes_on Demands s q behind_demand n e = clause_begins before true x q n e
  goes_on Promises s q behind_promise n e = clause_begins before false x q n e
  goes_on p s q (within false before_left w) n e =
      by_only (is_part DemandLeft s.scope x) (Behind DemandLeft) q (IsTaken (before ++ x ∷ [])) e (λ h. within false behind_left (left_part DemandLeft s.scope n h w))
  goes_on p s q (within false behind_left w) n e =
      by_test (is_operator true x) (PartPhase DemandLeft) q _ (IsTaken (before ++ x ∷ [])) e (λ h. within false before_left (left_operator h w)) (λ e.
      by_only (is_comparison x) (PartPhase DemandRight) q (IsTaken (before ++ x ∷ [])) e (λ h. within false before_right (comparison h w)))
  goes_on p s q (within false before_right w) n e =
      by_only (is_part DemandRight s.scope x) (Behind DemandRight) q (IsTaken (before ++ x ∷ [])) e (λ h. within false behind_right (right_part DemandRight s.scope n h w))
  goes_on p s q (within false behind_right w) n e =
      by_test (is_operator true x) (PartPhase DemandRight) q _ (IsTaken (before ++ x ∷ [])) e (λ h. within false before_right (right_operator h w)) (λ e.
      by_only (is_sign true (codes ";") x) Demands q (IsTaken (before ++ x ∷ [])) e (λ h. behind_demand))
  goes_on p s q (within true before_left w) n e =
      by_only (is_part PromiseLeft s.scope x) (Behind PromiseLeft) q (IsTaken (before ++ x ∷ [])) e (λ h. within true behind_left (left_part PromiseLeft s.scope n h w))
  goes_on p s q (within true behind_left w) n e =
      by_test (is_operator true x) (PartPhase PromiseLeft) q _ (IsTaken (before ++ x ∷ [])) e (λ h. within true before_left (left_operator h w)) (λ e.
      by_only (is_comparison x) (PartPhase PromiseRight) q (IsTaken (before ++ x ∷ [])) e (λ h. within true before_right (comparison h w)))
  goes_on p s q (within true before_right w) n e =
      by_only (is_part PromiseRight s.scope x) (Behind PromiseRight) q (IsTaken (before ++ x ∷ [])) e (λ h. within true behind_right (right_part PromiseRight s.scope n h w))
  goes_on p s q (within true behind_right w) n e =
      by_test (is_operator true x) (PartPhase PromiseRight) q _ (IsTaken (before ++ x ∷ [])) e (λ h. within true before_right (right_operator h w)) (λ e.
      by_only (is_sign true (codes ";") x) Promises q (IsTaken (before ++ x ∷ [])) e (λ h. behind_promise))

-- ---- as the code finds it

entered_is : (s new : State) (o : Option Phase) → entered s o ≡ Some new → o ≡ Some new.phase
entered_is s new None e = absurd (cc)
entered_is s new (Some p) e = ap phase_of e
  where
    phase_of : Option State → Option Phase
    phase_of None = None
    phase_of (Some s) = Some s.phase

pub taken_more : (before : List Lexeme) (s : State) (x : Lexeme) (goes : Bool) (new : State) → IsTaken before s.phase → x.note ≡ true → Steps (step s x) goes new → goes ≡ true → IsTaken (before ++ x ∷ []) new.phase
taken_more before s x true new t n steps goes = goes_on before x s.phase s new.phase t n (entered_is (learned s.phase s x) new (next s.phase s x) steps)
taken_more before s x false new t n steps goes = absurd (cc)

pub before_part : (before : List Lexeme) (name : Lexeme) (p : Phase) → IsTaken before p → is_before_part p ≡ true → name.kind ≡ Word → name.note ≡ true → IsInCondition before name
before_part before name Methods before_any h k n = absurd (cc)
before_part before name Demands behind_demand h k n = absurd (cc)
before_part before name Promises behind_promise h k n = absurd (cc)
before_part before name p (within promise before_left w) h k n = within_name before name before_left tt w k n
before_part before name p (within promise before_right w) h k n = within_name before name before_right tt w k n
before_part before name p (within true behind_left w) h k n = absurd (cc)
before_part before name p (within false behind_left w) h k n = absurd (cc)
before_part before name p (within true behind_right w) h k n = absurd (cc)
before_part before name p (within false behind_right w) h k n = absurd (cc)
