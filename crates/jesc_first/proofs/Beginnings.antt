-- Beginnings of a condition that end in a name.
use Rattle.std.proofs.Common.{◌≡◌, ℕ, true, List, [], ◌∷◌, ◌++◌, length, refl, sym, ap, ◌∙◌, subst, append_assoc, append-nil, slice_get, unwrap_or, codes, ◌⊎◌}
use Rattle.jesc_lexer.specs.declared.token.TokenKind.TheVariants.{Word}
use Rattle.jesc_ast.specs.Lexemes.{Lexeme}
use Rattle.jesc_first.specs.declared.tree.Operator.{Operator}
use Rattle.jesc_first.specs.declared.tree.Comparison.{Comparison}
use Rattle.jesc_first.specs.declared.tree.Comparison.TheVariants.{Equal}
use Rattle.jesc_first.specs.declared.tree.Part.{Part}
use Rattle.jesc_first.specs.declared.tree.Part.TheVariants.{Slot}
use Rattle.jesc_first.specs.declared.tree.Operation.{Operation}
use Rattle.jesc_first.specs.declared.tree.Sum.{Sum}
use Rattle.jesc_first.specs.declared.tree.Condition.{Condition}
use Rattle.jesc_first.specs.Spelling.{Piece, Fits, word, sign, sign_at, part_piece, operator_text, operation_pieces, sum_pieces, comparison_text, condition_pieces}
use Rattle.jesc_first.specs.Parsing.{Texts}
use Rattle.jesc_first.specs.Outside.{BeginUpTo, IsInCondition}

-- before or behind a part of one of the sums of a condition
pub data Spot : Type 0 where
  before_left : Spot
  behind_left : Spot
  before_right : Spot
  behind_right : Spot

-- the lexemes and then the name are the beginning of what a condition has from this spot on
abbrev pub GoesOn : Texts → Spot → List Lexeme → Lexeme → Type 0
GoesOn scope before_left xs name = (condition : Condition) × BeginUpTo scope (condition_pieces scope condition) xs name
GoesOn scope behind_left xs name =
    (left : List Operation) × (comparison : Comparison) × (right : Sum)
    × BeginUpTo scope (operation_pieces true scope left ++ sign true (comparison_text comparison) ∷ sum_pieces true scope right) xs name
GoesOn scope before_right xs name = (sum : Sum) × BeginUpTo scope (sum_pieces true scope sum) xs name
GoesOn scope behind_right xs name = (rest : List Operation) × BeginUpTo scope (operation_pieces true scope rest) xs name

-- ---- one lexeme after another

begins_here : (scope : Texts) (slot : ℕ) (more : List Piece) (name : Lexeme) → Fits name (part_piece true scope (Slot slot)) → BeginUpTo scope (part_piece true scope (Slot slot) ∷ more) [] name
begins_here scope slot more name f = record { slot = slot; pieces = []; more = more; spelled = refl; fits = (f, tt) }

begins_more : (scope : Texts) (p : Piece) (whole : List Piece) (x : Lexeme) (xs : List Lexeme) (name : Lexeme) → Fits x p → BeginUpTo scope whole xs name → BeginUpTo scope (p ∷ whole) (x ∷ xs) name
begins_more scope p whole x xs name f b = record {
  slot = b.slot;
  pieces = p ∷ b.pieces;
  more = b.more;
  spelled = ap (λ (ps : List Piece). p ∷ ps) b.spelled;
  fits = (f, b.fits);
}

abbrev one_part : Part → Sum
one_part part = record { first = part; rest = [] }

-- where a name can stand
abbrev pub IsBeforePart : Spot → Type 0
IsBeforePart before_left = Unit {0}
IsBeforePart behind_left = ⊥
IsBeforePart before_right = Unit {0}
IsBeforePart behind_right = ⊥

name_next : (scope : Texts) (slot : ℕ) (spot : Spot) (name : Lexeme) → IsBeforePart spot → Fits name (part_piece true scope (Slot slot)) → GoesOn scope spot [] name
name_next scope slot before_left name b f =
    let sum : Sum = one_part (Slot slot) in
    let condition : Condition = record { left = sum; comparison = Equal; right = sum } in
    (condition, begins_here scope slot (sign true (comparison_text Equal) ∷ sum_pieces true scope sum) name f)
name_next scope slot before_right name b f = (one_part (Slot slot), begins_here scope slot [] name f)
name_next scope slot behind_left name b f = absurd b
name_next scope slot behind_right name b f = absurd b

-- With this lexeme the condition comes from one spot to the next, where the lexeme's text is the name of a slot.
abbrev pub Moves : Spot → Spot → Lexeme → Type 0
Moves spot next x =
    (scope : Texts) (slot : ℕ) → unwrap_or (slice_get scope slot) [] ≡ x.text → (xs : List Lexeme) (name : Lexeme) → GoesOn scope next xs name → GoesOn scope spot (x ∷ xs) name

-- a part, whatever the names, where its text is the name of a slot
abbrev pub IsAnyPart : Lexeme → Type 0
IsAnyPart x = (scope : Texts) (slot : ℕ) → unwrap_or (slice_get scope slot) [] ≡ x.text → (part : Part) × Fits x (part_piece true scope part)

pub part_left : (x : Lexeme) → IsAnyPart x → Moves before_left behind_left x
part_left x part scope slot e xs name (left, comparison, right, begins) =
    let p = part scope slot e in
    let sum : Sum = record { first = p.0; rest = left } in
    let condition : Condition = record { left = sum; comparison = comparison; right = right } in (
      condition,
      begins_more scope (part_piece true scope p.0) (operation_pieces true scope left ++ sign true (comparison_text comparison) ∷ sum_pieces true scope right) x xs name p.1 begins,
    )

pub part_right : (x : Lexeme) → IsAnyPart x → Moves before_right behind_right x
part_right x part scope slot e xs name (rest, begins) =
    let p = part scope slot e in
    let sum : Sum = record { first = p.0; rest = rest } in
    (sum, begins_more scope (part_piece true scope p.0) (operation_pieces true scope rest) x xs name p.1 begins)

pub operator_left : (x : Lexeme) (operator : Operator) (at : ℕ) → Fits x (sign_at true (operator_text operator) at) → Moves behind_left before_left x
operator_left x operator at f scope slot e xs name (condition, begins) =
    let operation : Operation = record { operator = operator; at = at; part = condition.left.first } in (
      operation ∷ condition.left.rest,
      condition.comparison,
      condition.right,
      begins_more scope (sign_at true (operator_text operator) at) (condition_pieces scope condition) x xs name f begins,
    )

pub operator_right : (x : Lexeme) (operator : Operator) (at : ℕ) → Fits x (sign_at true (operator_text operator) at) → Moves behind_right before_right x
operator_right x operator at f scope slot e xs name (sum, begins) =
    let operation : Operation = record { operator = operator; at = at; part = sum.first } in
    (operation ∷ sum.rest, begins_more scope (sign_at true (operator_text operator) at) (sum_pieces true scope sum) x xs name f begins)

pub comparison_next : (x : Lexeme) (comparison : Comparison) → Fits x (sign true (comparison_text comparison)) → Moves behind_left before_right x
comparison_next x comparison f scope slot e xs name (sum, begins) =
    ([], comparison, sum, begins_more scope (sign true (comparison_text comparison)) (sum_pieces true scope sum) x xs name f begins)

-- ---- from the word of a clause on

-- The lexemes end at this spot of the condition of a clause. The names are the texts of the lexemes in it.
pub record IsWithin (before : List Lexeme) (spot : Spot) : Type 0 where
  pub front : List Lexeme
  pub opener : Lexeme
  pub inside : List Lexeme
  pub parts : before ≡ front ++ opener ∷ inside
  pub opens : Fits opener (word true (codes "requires")) ⊎ Fits opener (word true (codes "ensures"))
  pub texts : Texts
  pub leads : (more : Texts) (xs : List Lexeme) (name : Lexeme) → GoesOn (texts ++ more) spot xs name → GoesOn (texts ++ more) before_left (inside ++ xs) name

pub within_first : (before : List Lexeme) (x : Lexeme) → Fits x (word true (codes "requires")) ⊎ Fits x (word true (codes "ensures")) → IsWithin (before ++ x ∷ []) before_left
within_first before x opens = record { front = before; opener = x; inside = []; parts = refl; opens = opens; texts = []; leads = λ more xs name g. g }

text_at : (texts : Texts) (text : List ℕ) (more : Texts) → unwrap_or (slice_get (texts ++ text ∷ more) (length texts)) [] ≡ text
text_at [] text more = refl
text_at (t ∷ texts) text more = text_at texts text more

pub within_more : (before : List Lexeme) (x : Lexeme) (spot next : Spot) → IsWithin before spot → Moves spot next x → IsWithin (before ++ x ∷ []) next
within_more before x spot next w moves = record {
  front = w.front;
  opener = w.opener;
  inside = w.inside ++ x ∷ [];
  parts = ap (λ (ts : List Lexeme). ts ++ x ∷ []) w.parts ∙ append_assoc w.front (w.opener ∷ w.inside) (x ∷ []);
  opens = w.opens;
  texts = w.texts ++ x.text ∷ [];
  leads = λ more xs name g.
      let scope : Texts = w.texts ++ x.text ∷ more in
      let same : ((w.texts ++ x.text ∷ []) ++ more) ≡ scope = append_assoc w.texts (x.text ∷ []) more in
      let there : GoesOn scope next xs name = subst (λ (s : Texts). GoesOn s next xs name) same g in
      let here : GoesOn scope before_left (w.inside ++ x ∷ xs) name = w.leads (x.text ∷ more) (x ∷ xs) name (moves scope (length w.texts) (text_at w.texts x.text more) xs name there) in
      subst (λ (s : Texts). GoesOn s before_left ((w.inside ++ x ∷ []) ++ xs) name) (sym same)
      (subst (λ (ts : List Lexeme). GoesOn scope before_left ts name) (sym (append_assoc w.inside (x ∷ []) xs)) here);
}

pub within_name : (before : List Lexeme) (name : Lexeme) (spot : Spot) → IsBeforePart spot → IsWithin before spot → name.kind ≡ Word → name.note ≡ true → IsInCondition before name
within_name before name spot b w k n =
    let scope : Texts = w.texts ++ name.text ∷ [] in
    let f : Fits name (part_piece true scope (Slot (length w.texts))) = record { kind = k; text = sym (text_at w.texts name.text []); note = n; at = tt } in
    let there : GoesOn scope before_left (w.inside ++ []) name = w.leads (name.text ∷ []) [] name (name_next scope (length w.texts) spot name b f) in
    let here : GoesOn scope before_left w.inside name = subst (λ (ts : List Lexeme). GoesOn scope before_left ts name) (append-nil w.inside) there in
    record { front = w.front; opener = w.opener; inside = w.inside; parts = w.parts; opens = w.opens; scope = scope; condition = here.0; begins = here.1 }
