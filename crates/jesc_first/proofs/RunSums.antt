-- The recognizer takes every sum and condition that keeps the rules on names.
use Rattle.std.proofs.Common.{◌≡◌, ℕ, zero, suc, ◌<◌, ◌≤◌, ◌-◌, Bool, true, false, ◌||◌, List, [], ◌∷◌, ◌++◌, length, length-append, refl, sym, ap, ◌∙◌, subst, arith, Option, Some, All, codes, decimal, slice_get, unwrap_or}
use Rattle.std.specs.Option.{is_some}
use Rattle.std.specs.Str.{bytes_eq}
use Rattle.std.proofs.lemmas.Bool.Decides.{nat_tests}
use Rattle.std.proofs.lemmas.List.Elements.{All-head}
use Rattle.jesc_lexer.specs.declared.token.TokenKind.{TokenKind}
use Rattle.jesc_lexer.specs.declared.token.TokenKind.TheVariants.{Word, Backslash, Sign}
use Rattle.jesc_ast.specs.Lexemes.{Lexeme}
use Rattle.jesc_first.specs.declared.tree.Operator.{Operator}
use Rattle.jesc_first.specs.declared.tree.Operator.TheVariants.{Plus, Minus}
use Rattle.jesc_first.specs.declared.tree.Comparison.{Comparison}
use Rattle.jesc_first.specs.declared.tree.Comparison.TheVariants.{Less, AtMost, Greater, AtLeast, Equal}
use Rattle.jesc_first.specs.declared.tree.Part.{Part}
use Rattle.jesc_first.specs.declared.tree.Part.TheVariants.{Number, Slot, Outcome}
use Rattle.jesc_first.specs.declared.tree.Operation.{Operation}
use Rattle.jesc_first.specs.declared.tree.Sum.{Sum}
use Rattle.jesc_first.specs.declared.tree.Condition.{Condition}
use Rattle.jesc_first.specs.declared.reader.phase.Seat.{Seat}
use Rattle.jesc_first.specs.declared.reader.phase.Seat.TheVariants.{Initial}
use Rattle.jesc_first.specs.declared.reader.phase.Phase.{Phase}
use Rattle.jesc_first.specs.declared.reader.phase.Phase.TheVariants.{Part as PartPhase, Behind}
use Rattle.jesc_first.specs.Spelling.{Piece, Fits, sign, sign_at, part_piece, operator_text, operation_pieces, sum_pieces, comparison_text, condition_pieces}
use Rattle.jesc_first.specs.Names.{IsNew, IsPart, IsSum, IsCondition}
use Rattle.jesc_first.specs.Parsing.{Texts, same_kind, same_side, is_name_text, slot_in, number_in}
use Rattle.jesc_first.specs.Recognizing.{State, is_sign, is_noted, is_below, is_part_text, is_part, is_operator, is_comparison, to, behind_sum, step, run_on}
use Rattle.jesc_first.proofs.CompleteBase.{Spans, spans_split, piece_is, fits_is}
use Rattle.jesc_first.proofs.CompleteNames.{IsScope, all_tail, name_passes, slot_name, slot_found, scope_push, number_read}
use Rattle.jesc_first.proofs.CompleteSums.{same_sides, sided, comparison_stops}
use Rattle.jesc_first.proofs.RunBase.{here, Carries, carries_none, carries_then, carries_one}

-- ---- parts

-- the seat of a sum on this side, at which the parts that keep the rules on names are taken
pub record IsSeat (note outcome : Bool) (names scope : Texts) (seat : Seat) : Type 0 where
  pub side : is_noted seat ≡ note
  pub allows : (x : Lexeme) (part : Part) → IsPart outcome (length names) part → Fits x (part_piece note names part) → is_part seat scope x ≡ true

part_fits : (seat : Seat) (scope : Texts) (x : Lexeme) (p : Piece) → Fits x p → p.note ≡ is_noted seat → is_part_text seat scope p.text p.kind ≡ true → is_part seat scope x ≡ true
part_fits seat scope x p f n e =
    let side : same_side x.note (is_noted seat) ≡ true = ap (λ (b : Bool). same_side b (is_noted seat)) (f.note ∙ n) ∙ same_sides (is_noted seat) in
    let text : is_part_text seat scope x.text x.kind ≡ true =
    ap (λ (t : List ℕ). is_part_text seat scope t x.kind) f.text ∙ ap (is_part_text seat scope p.text) f.kind ∙ e in
    rw (side, text) refl

-- the decimal digits of a number
number_passes : (n : ℕ) → n ≤ 2147483647 → is_some (number_in (decimal n)) ≡ true
number_passes n l = ap is_some (number_read n l)

-- any name stands in a specification
pub demand_seat : (names scope : Texts) (seat : Seat) → IsScope names → is_noted seat ≡ true → ((text : List ℕ) → is_part_text seat scope text Word ≡ is_name_text text) → IsSeat true false names scope seat
demand_seat names scope seat s n w = record { side = n; allows = by }
  where
    by : (x : Lexeme) (part : Part) → IsPart false (length names) part → Fits x (part_piece true names part) → is_part seat scope x ≡ true
    by x (Number m) p f = part_fits seat scope x (part_piece true names (Number m)) f (sym n) (number_passes m p)
    by x (Slot i) p f = part_fits seat scope x (part_piece true names (Slot i)) f (sym n) (w (unwrap_or (slice_get names i) []) ∙ name_passes (unwrap_or (slice_get names i) []) (slot_name names i s p))
    by x Outcome p f = absurd (cc)

pub promise_seat : (outcome : Bool) (names scope : Texts) (seat : Seat) → IsScope names → is_noted seat ≡ true → ((text : List ℕ) → is_part_text seat scope text Word ≡ is_name_text text)
    → is_part_text seat scope (codes "\\result") Backslash ≡ true → IsSeat true outcome names scope seat
promise_seat outcome names scope seat s n w b = record { side = n; allows = by }
  where
    by : (x : Lexeme) (part : Part) → IsPart outcome (length names) part → Fits x (part_piece true names part) → is_part seat scope x ≡ true
    by x (Number m) p f = part_fits seat scope x (part_piece true names (Number m)) f (sym n) (number_passes m p)
    by x (Slot i) p f = part_fits seat scope x (part_piece true names (Slot i)) f (sym n) (w (unwrap_or (slice_get names i) []) ∙ name_passes (unwrap_or (slice_get names i) []) (slot_name names i s p))
    by x Outcome p f = part_fits seat scope x (part_piece true names Outcome) f (sym n) b

-- elsewhere a name that is in scope
below : (n i : ℕ) (found : Option ℕ) → found ≡ Some i → i < n → is_below n found ≡ true
below n i found e l = ap (is_below n) e ∙ grind (arith, nat_tests)

pub scope_seat : (note : Bool) (scope : Texts) (seat : Seat) → IsScope scope → is_noted seat ≡ note
    → ((text : List ℕ) → is_part_text seat scope text Word ≡ is_below (length scope) (slot_in scope text)) → IsSeat note false scope scope seat
scope_seat note scope seat s n w = record { side = n; allows = by }
  where
    by : (x : Lexeme) (part : Part) → IsPart false (length scope) part → Fits x (part_piece note scope part) → is_part seat scope x ≡ true
    by x (Number m) p f = part_fits seat scope x (part_piece note scope (Number m)) f (sym n) (number_passes m p)
    by x (Slot i) p f = part_fits seat scope x (part_piece note scope (Slot i)) f (sym n)
        (w (unwrap_or (slice_get scope i) []) ∙ below (length scope) i (slot_in scope (unwrap_or (slice_get scope i) [])) (slot_found scope i s p) p)
    by x Outcome p f = absurd (cc)

-- a local isn't in scope in its own value
get_front : (scope : Texts) (name : List ℕ) (i : ℕ) → i < length scope → slice_get (scope ++ name ∷ []) i ≡ slice_get scope i
get_front [] name i l = absurd (omega arith)
get_front (x ∷ scope) name zero l = refl
get_front (x ∷ scope) name (suc i) l = get_front scope name i (omega arith)

pub initial_seat : (scope : Texts) (name : List ℕ) → IsScope scope → IsNew scope name → IsSeat false false scope (scope ++ name ∷ []) Initial
initial_seat scope name s n = record { side = refl; allows = by }
  where
    visible : (i : ℕ) → i < length scope → is_part_text Initial (scope ++ name ∷ []) (unwrap_or (slice_get scope i) []) Word ≡ true
    visible i l =
        let place : slot_in (scope ++ name ∷ []) (unwrap_or (slice_get scope i) []) ≡ Some i =
        subst (λ (o : Option (List ℕ)). slot_in (scope ++ name ∷ []) (unwrap_or o []) ≡ Some i) (get_front scope name i l)
        (slot_found (scope ++ name ∷ []) i (scope_push scope name s n) (omega (arith, length-append scope (name ∷ []), l))) in
        below (length (scope ++ name ∷ []) - 1) i (slot_in (scope ++ name ∷ []) (unwrap_or (slice_get scope i) [])) place (omega (arith, length-append scope (name ∷ []), l))

    by : (x : Lexeme) (part : Part) → IsPart false (length scope) part → Fits x (part_piece false scope part) → is_part Initial (scope ++ name ∷ []) x ≡ true
    by x (Number m) p f = part_fits Initial (scope ++ name ∷ []) x (part_piece false scope (Number m)) f refl (number_passes m p)
    by x (Slot i) p f = part_fits Initial (scope ++ name ∷ []) x (part_piece false scope (Slot i)) f refl (visible i p)
    by x Outcome p f = absurd (cc)

-- ---- sums

or_false : (b : Bool) → (b || false) ≡ b
or_false true = refl
or_false false = refl

-- what a part that isn't `\result` tells
told_same : (note outcome : Bool) (names : Texts) (told : Bool) (part : Part) (x : Lexeme) → IsPart outcome (length names) part → Fits x (part_piece note names part) → outcome ≡ false
    → (told || same_kind x.kind Backslash) ≡ told
told_same note outcome names told (Number n) x p f o = ap (λ (k : TokenKind). told || same_kind k Backslash) f.kind ∙ or_false told
told_same note outcome names told (Slot i) x p f o = ap (λ (k : TokenKind). told || same_kind k Backslash) f.kind ∙ or_false told
told_same note outcome names told Outcome x p f o = absurd (cc)

operator_is : (note : Bool) (operator : Operator) (at : ℕ) (x : Lexeme) → Fits x (sign_at note (operator_text operator) at) → is_operator note x ≡ true
operator_is note Plus at x f =
    let plus : is_sign note (codes "+") x ≡ true = fits_is Sign note (codes "+") x (sign_at note (codes "+") at) f ∙ sided note true in
    rw plus refl
operator_is note Minus at x f =
    let plus : is_sign note (codes "+") x ≡ false = fits_is Sign note (codes "+") x (sign_at note (codes "-") at) f ∙ sided note false in
    let minus : is_sign note (codes "-") x ≡ true = fits_is Sign note (codes "-") x (sign_at note (codes "-") at) f ∙ sided note true in
    rw (plus, minus) refl

module _ (classes methods scope : Texts) (returns note outcome : Bool) (names : Texts) (seat : Seat) (s : IsSeat note outcome names scope seat) where
  part_step : (part : Part) (told : Bool) (x : Lexeme) → Fits x (part_piece note names part) → IsPart outcome (length names) part
      → step (here classes methods scope returns (PartPhase seat) told) x ≡ Some (here classes methods scope returns (Behind seat) (told || same_kind x.kind Backslash))
  part_step part told x f p = let q : is_part seat scope x ≡ true = s.allows x part p f in rw q refl

  part_carries : (part : Part) (ts : List Lexeme) (ps : List Piece) (rest : List Lexeme) → Spans ts (part_piece note names part ∷ ps) rest → IsPart outcome (length names) part
      → (mid : List Lexeme) × Carries outcome (here classes methods scope returns (PartPhase seat)) (here classes methods scope returns (Behind seat)) ts mid × Spans mid ps rest
  part_carries part [] ps rest h p = absurd h
  part_carries part (t ∷ ts) ps rest h p = (
    ts,
    λ told. record {
      after = told || same_kind t.kind Backslash;
      ran = ap (λ (o : Option State). run_on o ts) (part_step part told t h.0 p);
      same = told_same note outcome names told part t p h.0;
    },
    h.1,
  )

  operator_step : (operator : Operator) (at : ℕ) (told : Bool) (x : Lexeme) → Fits x (sign_at note (operator_text operator) at)
      → step (here classes methods scope returns (Behind seat) told) x ≡ Some (here classes methods scope returns (PartPhase seat) told)
  operator_step operator at told x f =
      let q : is_operator (is_noted seat) x ≡ true = ap (λ (n : Bool). is_operator n x) s.side ∙ operator_is note operator at x f in
      rw q refl

  operations_carry : (operations : List Operation) (ts rest : List Lexeme) → Spans ts (operation_pieces note names operations) rest → All (λ operation. IsPart outcome (length names) operation.part) operations
      → Carries outcome (here classes methods scope returns (Behind seat)) (here classes methods scope returns (Behind seat)) ts rest
  operations_carry [] ts rest h p = carries_none outcome (here classes methods scope returns (Behind seat)) ts rest h
  operations_carry (o ∷ os) ts rest h p =
      let behind = here classes methods scope returns (Behind seat) in
      let before = here classes methods scope returns (PartPhase seat) in
      let a = carries_one outcome behind before ts (sign_at note (operator_text o.operator) o.at) (part_piece note names o.part ∷ operation_pieces note names os) rest h (operator_step o.operator o.at) in
      let b = part_carries o.part a.0 (operation_pieces note names os) rest a.2 (All-head (λ operation. IsPart outcome (length names) operation.part) o os p) in
      let c = operations_carry os b.0 rest b.2 (all_tail (λ operation. IsPart outcome (length names) operation.part) o os p) in
      carries_then outcome behind before behind ts a.0 rest a.1 (carries_then outcome before behind behind a.0 b.0 rest b.1 c)

  pub sum_carries : (sum : Sum) (ts rest : List Lexeme) → Spans ts (sum_pieces note names sum) rest → IsSum outcome (length names) sum
      → Carries outcome (here classes methods scope returns (PartPhase seat)) (here classes methods scope returns (Behind seat)) ts rest
  sum_carries sum ts rest h p =
      let a = part_carries sum.first ts (operation_pieces note names sum.rest) rest h p.0 in
      carries_then outcome (here classes methods scope returns (PartPhase seat)) (here classes methods scope returns (Behind seat)) (here classes methods scope returns (Behind seat)) ts a.0 rest
      a.1 (operations_carry sum.rest a.0 rest a.2 p.1)

  -- a sign that is no operator ends the sum
  pub end_step : (text : List ℕ) (phase : Phase) (told : Bool) (x : Lexeme) → Fits x (sign note text) → piece_is (sign note text) Sign note (codes "+") ≡ false
      → piece_is (sign note text) Sign note (codes "-") ≡ false → behind_sum seat x ≡ Some phase
      → step (here classes methods scope returns (Behind seat) told) x ≡ Some (here classes methods scope returns phase told)
  end_step text phase told x f a b e =
      let plus : is_sign note (codes "+") x ≡ false = fits_is Sign note (codes "+") x (sign note text) f ∙ a in
      let minus : is_sign note (codes "-") x ≡ false = fits_is Sign note (codes "-") x (sign note text) f ∙ b in
      let none : is_operator note x ≡ false = rw (plus, minus) refl in
      let q : is_operator (is_noted seat) x ≡ false = ap (λ (n : Bool). is_operator n x) s.side ∙ none in
      rw (q, e) refl

-- ---- conditions

comparison_is : (comparison : Comparison) (x : Lexeme) → Fits x (sign true (comparison_text comparison)) → is_comparison x ≡ true
comparison_is comparison x f = by comparison (λ text. fits_is Sign true text x (sign true (comparison_text comparison)) f)
  where
    by : (c : Comparison) → ((text : List ℕ) → is_sign true text x ≡ bytes_eq (comparison_text c) text) → is_comparison x ≡ true
    by Less f = rw (f (codes "<")) refl
    by AtMost f = rw (f (codes "<"), f (codes "<=")) refl
    by Greater f = rw (f (codes "<"), f (codes "<="), f (codes ">")) refl
    by AtLeast f = rw (f (codes "<"), f (codes "<="), f (codes ">"), f (codes ">=")) refl
    by Equal f = rw (f (codes "<"), f (codes "<="), f (codes ">"), f (codes ">="), f (codes "==")) refl

pub condition_carries : (classes methods scope : Texts) (returns outcome : Bool) (names : Texts) (left right : Seat) → IsSeat true outcome names scope left → IsSeat true outcome names scope right
    → ((x : Lexeme) → behind_sum left x ≡ to (is_comparison x) (PartPhase right))
    → (condition : Condition) (ts rest : List Lexeme) → Spans ts (condition_pieces names condition) rest → IsCondition outcome (length names) condition
    → Carries outcome (here classes methods scope returns (PartPhase left)) (here classes methods scope returns (Behind right)) ts rest
condition_carries classes methods scope returns outcome names left right l r turn c ts rest h p =
    let mark = sign true (comparison_text c.comparison) in
    let stops = comparison_stops c.comparison in
    let a = spans_split ts (sum_pieces true names c.left) (mark ∷ sum_pieces true names c.right) rest h in
    let b = carries_one outcome (here classes methods scope returns (Behind left)) (here classes methods scope returns (PartPhase right)) a.0 mark (sum_pieces true names c.right) rest a.2
    (λ told x f.
    end_step classes methods scope returns true outcome names left l (comparison_text c.comparison) (PartPhase right) told x f stops.0 stops.1
    (turn x ∙ ap (λ (t : Bool). to t (PartPhase right)) (comparison_is c.comparison x f))) in
    carries_then outcome (here classes methods scope returns (PartPhase left)) (here classes methods scope returns (Behind left)) (here classes methods scope returns (Behind right)) ts a.0 rest
    (sum_carries classes methods scope returns true outcome names left l c.left ts a.0 a.1 p.0)
    (carries_then outcome (here classes methods scope returns (Behind left)) (here classes methods scope returns (PartPhase right)) (here classes methods scope returns (Behind right)) a.0 b.0 rest
    b.1 (sum_carries classes methods scope returns true outcome names right r c.right b.0 rest b.2 p.1))
