-- The rules read every sum and condition that keeps the rules on names.
use Rattle.std.proofs.Common.{◌≡◌, ℕ, Bool, true, false, ◌&&◌, List, [], ◌∷◌, ◌++◌, length, refl, sym, ap, ◌∙◌, subst, arith, All, Some, None, codes, slice_get, append_assoc}
use Rattle.std.specs.Option.{unwrap_or}
use Rattle.std.specs.Str.{bytes_eq}
use Rattle.std.specs.Fmt.{decimal}
use Rattle.std.proofs.lemmas.List.Elements.{All-head}
use Rattle.jesc_lexer.specs.declared.token.TokenKind.{TokenKind}
use Rattle.jesc_lexer.specs.declared.token.TokenKind.TheVariants.{Word, Backslash, Number as Digits, Sign}
use Rattle.jesc_ast.specs.Lexemes.{Lexeme}
use Rattle.jesc_first.specs.declared.tree.Operator.{Operator}
use Rattle.jesc_first.specs.declared.tree.Operator.TheVariants.{Plus, Minus}
use Rattle.jesc_first.specs.declared.tree.Comparison.{Comparison}
use Rattle.jesc_first.specs.declared.tree.Comparison.TheVariants.{Less, AtMost, Greater, AtLeast, Equal}
use Rattle.jesc_first.specs.declared.tree.Part.{Part}
use Rattle.jesc_first.specs.declared.tree.Part.TheVariants.{Number, Slot, Outcome}
use Rattle.jesc_first.specs.declared.tree.Operation.{Operation}
use Rattle.jesc_first.specs.declared.tree.Sum.{Sum}
use Rattle.jesc_first.specs.declared.tree.Condition.{Condition}
use Rattle.jesc_first.specs.Spelling.{Piece, Fits, sign, sign_at, part_piece, operator_text, operation_pieces, sum_pieces, comparison_text, condition_pieces}
use Rattle.jesc_first.specs.Names.{IsPart, IsSum, IsCondition}
use Rattle.jesc_first.specs.Parsing.{Texts, same_side, is_token, part_of_kind, part_in, operator_in, operation_in, sum_in, comparison_in, condition_in}
use Rattle.jesc_first.proofs.CompleteBase.{Spans, Heads, spans_split, spans_length, spans_heads, fits_is, piece_is, Reads, list_reads}
use Rattle.jesc_first.proofs.CompleteNames.{IsScope, slot_found, number_read, all_tail}

-- each side is itself
pub same_sides : (note : Bool) → same_side note note ≡ true
same_sides true = refl
same_sides false = refl

-- a part is read from a token of its kind and text
part_at : (note outcome : Bool) (scope : Texts) (part : Part) (kind : TokenKind) (text : List ℕ) (t : Lexeme) (ts : List Lexeme)
    → t.kind ≡ kind → t.text ≡ text → t.note ≡ note → part_of_kind outcome scope text kind ≡ Some part → part_in note outcome scope (t ∷ ts) ≡ Some (part, ts)
part_at note outcome scope part kind text t ts k x n e =
    let side : same_side t.note note ≡ true = ap (λ (b : Bool). same_side b note) n ∙ same_sides note in
    let found : part_of_kind outcome scope t.text t.kind ≡ Some part =
    ap (λ (u : List ℕ). part_of_kind outcome scope u t.kind) x ∙ ap (λ (l : TokenKind). part_of_kind outcome scope text l) k ∙ e in
    rw (side, found) refl

-- a part is read where the next piece is it
pub part_next : (note outcome : Bool) (scope : Texts) (part : Part) (ts : List Lexeme) (ps : List Piece) (rest : List Lexeme)
    → Spans ts (part_piece note scope part ∷ ps) rest → IsPart outcome (length scope) part → IsScope scope
    → (mid : List Lexeme) × (part_in note outcome scope ts ≡ Some (part, mid)) × Spans mid ps rest
part_next note outcome scope part [] ps rest h p s = absurd h
part_next note outcome scope (Number n) (t ∷ ts) ps rest h p s =
    (ts, part_at note outcome scope (Number n) Digits (decimal n) t ts h.0.kind h.0.text h.0.note (rw (number_read n p) refl), h.1)
part_next note outcome scope (Slot i) (t ∷ ts) ps rest h p s =
    (ts, part_at note outcome scope (Slot i) Word (unwrap_or (slice_get scope i) []) t ts h.0.kind h.0.text h.0.note (rw (slot_found scope i s p) refl), h.1)
part_next note outcome scope Outcome (t ∷ ts) ps rest h p s =
    (ts, part_at note outcome scope Outcome Backslash (codes "\\result") t ts h.0.kind h.0.text h.0.note (rw p refl), h.1)

-- no operator is read where the next piece is none
pub operator_other : (note : Bool) (ts : List Lexeme) (p : Piece) → Heads ts p → piece_is p Sign note (codes "+") ≡ false → piece_is p Sign note (codes "-") ≡ false
    → operator_in note ts ≡ (None, ts)
operator_other note [] p h a b = absurd h
operator_other note (t ∷ ts) p h a b =
    let plus : is_token Sign note (codes "+") t ≡ false = fits_is Sign note (codes "+") t p h ∙ a in
    let minus : is_token Sign note (codes "-") t ≡ false = fits_is Sign note (codes "-") t p h ∙ b in
    rw (plus, minus) refl

-- a test of a token on its own side
pub sided : (note b : Bool) → (same_side note note && b) ≡ b
sided note b = rw (same_sides note) refl

-- an operator is read, with its offset
operator_next : (note : Bool) (operator : Operator) (at : ℕ) (ts : List Lexeme) (ps : List Piece) (rest : List Lexeme)
    → Spans ts (sign_at note (operator_text operator) at ∷ ps) rest
    → (mid : List Lexeme) × (operator_in note ts ≡ (Some (operator, at), mid)) × Spans mid ps rest
operator_next note operator at [] ps rest h = absurd h
operator_next note Plus at (t ∷ ts) ps rest h =
    let plus : is_token Sign note (codes "+") t ≡ true = fits_is Sign note (codes "+") t (sign_at note (codes "+") at) h.0 ∙ sided note true in
    let place : t.span.from ≡ at = h.0.at in
    (ts, rw plus (ap (λ (n : ℕ). (Some (Plus, n), ts)) place), h.1)
operator_next note Minus at (t ∷ ts) ps rest h =
    let plus : is_token Sign note (codes "+") t ≡ false = fits_is Sign note (codes "+") t (sign_at note (codes "-") at) h.0 ∙ sided note false in
    let minus : is_token Sign note (codes "-") t ≡ true = fits_is Sign note (codes "-") t (sign_at note (codes "-") at) h.0 ∙ sided note true in
    let place : t.span.from ≡ at = h.0.at in
    (ts, rw (plus, minus) (ap (λ (n : ℕ). (Some (Minus, n), ts)) place), h.1)

-- operations are read one after another, up to what is none
operations_read : (note outcome : Bool) (scope : Texts) (operations : List Operation) (ts rest : List Lexeme)
    → Spans ts (operation_pieces note scope operations) rest → All (λ operation. IsPart outcome (length scope) operation.part) operations → IsScope scope
    → operator_in note rest ≡ (None, rest) → Reads (operation_in note outcome scope) ts operations rest
operations_read note outcome scope [] ts rest h p s stop =
    subst (λ (x : List Lexeme). operation_in note outcome scope x ≡ Some (None, rest)) (sym h) (rw stop refl)
operations_read note outcome scope (o ∷ os) ts rest h p s stop =
    let a = operator_next note o.operator o.at ts (part_piece note scope o.part ∷ operation_pieces note scope os) rest h in
    let b = part_next note outcome scope o.part a.0 (operation_pieces note scope os) rest a.2 (All-head (λ operation. IsPart outcome (length scope) operation.part) o os p) s in
    let more = spans_length ts (operation_pieces note scope (o ∷ os)) rest h in
    let less = spans_length b.0 (operation_pieces note scope os) rest b.2 in (
      b.0,
      rw (a.1, b.1) (refl {a = Some (Some o, b.0)}),
      omega arith,
      operations_read note outcome scope os b.0 rest b.2 (all_tail (λ operation. IsPart outcome (length scope) operation.part) o os p) s stop,
    )

-- a sum is read, up to what is no operator
pub sum_read : (note outcome : Bool) (scope : Texts) (sum : Sum) (ts rest : List Lexeme)
    → Spans ts (sum_pieces note scope sum) rest → IsSum outcome (length scope) sum → IsScope scope
    → operator_in note rest ≡ (None, rest) → sum_in note outcome scope ts ≡ Some (sum, rest)
sum_read note outcome scope sum ts rest h p s stop =
    let a = part_next note outcome scope sum.first ts (operation_pieces note scope sum.rest) rest h p.0 s in
    let b = list_reads (operation_in note outcome scope) a.0 sum.rest rest (operations_read note outcome scope sum.rest a.0 rest a.2 p.1 s stop) in
    rw (a.1, b) refl

-- a sum is read before a piece that is no operator
pub sum_next : (note outcome : Bool) (scope : Texts) (sum : Sum) (ts : List Lexeme) (p : Piece) (ps : List Piece) (rest : List Lexeme)
    → Spans ts (sum_pieces note scope sum ++ (p ∷ ps)) rest → IsSum outcome (length scope) sum → IsScope scope
    → piece_is p Sign note (codes "+") ≡ false → piece_is p Sign note (codes "-") ≡ false
    → (mid : List Lexeme) × (sum_in note outcome scope ts ≡ Some (sum, mid)) × Spans mid (p ∷ ps) rest
sum_next note outcome scope sum ts p ps rest h v s a b =
    let k = spans_split ts (sum_pieces note scope sum) (p ∷ ps) rest h in
    (k.0, sum_read note outcome scope sum ts k.0 k.1 v s (operator_other note k.0 p (spans_heads k.0 p ps rest k.2) a b), k.2)

-- a comparison is read
comparison_next : (comparison : Comparison) (ts : List Lexeme) (ps : List Piece) (rest : List Lexeme) → Spans ts (sign true (comparison_text comparison) ∷ ps) rest
    → (mid : List Lexeme) × (comparison_in ts ≡ Some (comparison, mid)) × Spans mid ps rest
comparison_next comparison [] ps rest h = absurd h
comparison_next comparison (t ∷ ts) ps rest h = (ts, by comparison (fits comparison h.0), h.1)
  where
    fits : (c : Comparison) → Fits t (sign true (comparison_text c)) → (text : List ℕ) → is_token Sign true text t ≡ bytes_eq (comparison_text c) text
    fits c f text = fits_is Sign true text t (sign true (comparison_text c)) f

    by : (c : Comparison) → ((text : List ℕ) → is_token Sign true text t ≡ bytes_eq (comparison_text c) text) → comparison_in (t ∷ ts) ≡ Some (c, ts)
    by Less f = rw (f (codes "<")) refl
    by AtMost f = rw (f (codes "<"), f (codes "<=")) refl
    by Greater f = rw (f (codes "<"), f (codes "<="), f (codes ">")) refl
    by AtLeast f = rw (f (codes "<"), f (codes "<="), f (codes ">"), f (codes ">=")) refl
    by Equal f = rw (f (codes "<"), f (codes "<="), f (codes ">"), f (codes ">="), f (codes "==")) refl

-- no comparison is an operator
pub comparison_stops : (comparison : Comparison) → (piece_is (sign true (comparison_text comparison)) Sign true (codes "+") ≡ false) × (piece_is (sign true (comparison_text comparison)) Sign true (codes "-") ≡ false)
comparison_stops Less = (refl, refl)
comparison_stops AtMost = (refl, refl)
comparison_stops Greater = (refl, refl)
comparison_stops AtLeast = (refl, refl)
comparison_stops Equal = (refl, refl)

-- a condition is read before a piece that is no operator
pub condition_next : (outcome : Bool) (scope : Texts) (condition : Condition) (ts : List Lexeme) (p : Piece) (ps : List Piece) (rest : List Lexeme)
    → Spans ts (condition_pieces scope condition ++ (p ∷ ps)) rest → IsCondition outcome (length scope) condition → IsScope scope
    → piece_is p Sign true (codes "+") ≡ false → piece_is p Sign true (codes "-") ≡ false
    → (mid : List Lexeme) × (condition_in outcome scope ts ≡ Some (condition, mid)) × Spans mid (p ∷ ps) rest
condition_next outcome scope c ts p ps rest h v s x y =
    let mark = sign true (comparison_text c.comparison) in
    let regrouped : Spans ts (sum_pieces true scope c.left ++ ((mark ∷ sum_pieces true scope c.right) ++ (p ∷ ps))) rest =
    subst (λ (xs : List Piece). Spans ts xs rest) (append_assoc (sum_pieces true scope c.left) (mark ∷ sum_pieces true scope c.right) (p ∷ ps)) h in
    let stops = comparison_stops c.comparison in
    let left = sum_next true outcome scope c.left ts mark (sum_pieces true scope c.right ++ (p ∷ ps)) rest regrouped v.0 s stops.0 stops.1 in
    let middle = comparison_next c.comparison left.0 (sum_pieces true scope c.right ++ (p ∷ ps)) rest left.2 in
    let right = sum_next true outcome scope c.right middle.0 p ps rest middle.2 v.1 s x y in
    (right.0, rw (left.1, middle.1, right.1) (refl {a = Some (c, right.0)}), right.2)
