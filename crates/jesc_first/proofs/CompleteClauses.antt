-- The rules read every clause of a method that keeps the rules on names.
use Rattle.std.proofs.Common.{◌≡◌, ℕ, ◌≤◌, Bool, true, false, List, [], ◌∷◌, ◌++◌, length, nat_eq, refl, sym, subst, arith, All, Option, Some, None, IfSome, codes}
use Rattle.std.proofs.lemmas.Bool.Decides.{nat_tests}
use Rattle.std.proofs.lemmas.List.Elements.{All-head}
use Rattle.jesc_lexer.specs.declared.token.TokenKind.TheVariants.{Word, Sign}
use Rattle.jesc_ast.specs.Lexemes.{Lexeme}
use Rattle.jesc_first.specs.declared.tree.Part.{Part}
use Rattle.jesc_first.specs.declared.tree.Part.TheVariants.{Number, Slot, Outcome}
use Rattle.jesc_first.specs.declared.tree.Condition.{Condition}
use Rattle.jesc_first.specs.declared.tree.Clause.{Clause}
use Rattle.jesc_first.specs.Spelling.{Piece, word, sign, part_piece, operation_pieces, comparison_text, sum_pieces, condition_pieces, requires_pieces, placed, ensures_pieces}
use Rattle.jesc_first.specs.Names.{IsCondition}
use Rattle.jesc_first.specs.Parsing.{Texts, expected, offset_of_next, demand_in, promise_in, demands_in, promises_in, clauses_in}
use Rattle.jesc_first.proofs.CompleteBase.{Spans, Heads, spans_length, spans_heads, expected_next, expected_other, Reads, list_reads}
use Rattle.jesc_first.proofs.CompleteNames.{IsScope, all_tail}
use Rattle.jesc_first.proofs.CompleteSums.{condition_next}

-- what stands behind other pieces is no longer than all of them
pub length_behind : (ps qs : List Piece) → length qs ≤ length (ps ++ qs)
length_behind [] qs = omega arith
length_behind (p ∷ ps) qs = let k = length_behind ps qs in omega arith

-- demands are read one after another, up to what is none
demands_read : (scope : Texts) (demands : List Condition) (ts rest : List Lexeme) → Spans ts (requires_pieces scope demands) rest
    → All (IsCondition false (length scope)) demands → IsScope scope → expected Word true (codes "requires") rest ≡ None → Reads (demand_in scope) ts demands rest
demands_read scope [] ts rest h v s stop = subst (λ (x : List Lexeme). demand_in scope x ≡ Some (None, rest)) (sym h) (rw stop refl)
demands_read scope (c ∷ cs) ts rest h v s stop =
    let more = requires_pieces scope cs in
    let a = expected_next Word true (codes "requires") ts (word true (codes "requires")) (condition_pieces scope c ++ (sign true (codes ";") ∷ more)) rest h refl in
    let b = condition_next false scope c a.1 (sign true (codes ";")) more rest a.3 (All-head (IsCondition false (length scope)) c cs v) s refl refl in
    let d = expected_next Sign true (codes ";") b.0 (sign true (codes ";")) more rest b.2 refl in
    let all = spans_length a.1 (condition_pieces scope c ++ (sign true (codes ";") ∷ more)) rest a.3 in
    let whole = spans_length ts (requires_pieces scope (c ∷ cs)) rest h in
    let left = spans_length d.1 more rest d.3 in
    let behind = length_behind (condition_pieces scope c) (sign true (codes ";") ∷ more) in
    (d.1, rw (a.2, b.1, d.2) (refl {a = Some (Some c, d.1)}), omega arith, demands_read scope cs d.1 rest d.3 (all_tail (IsCondition false (length scope)) c cs v) s stop)

-- pieces of which the first stands at an offset
pub unplaced : (at : ℕ) (p : Piece) (ps qs : List Piece) (ts rest : List Lexeme) → p.at ≡ None → Spans ts (placed at (p ∷ ps) ++ qs) rest
    → Spans ts ((p ∷ ps) ++ qs) rest × (offset_of_next ts ≡ at)
unplaced at p ps qs [] rest e h = absurd h
unplaced at p ps qs (t ∷ ts) rest e h = (
  (
    record {
      kind = h.0.kind;
      text = h.0.text;
      note = h.0.note;
      at = subst (λ (o : Option ℕ). IfSome o (λ a. t.span.from ≡ a)) (sym e) tt;
    },
    h.1,
  ),
  h.0.at,
)

-- no piece of a part has an offset
pub part_unplaced : (note : Bool) (scope : Texts) (part : Part) → (part_piece note scope part).at ≡ None
part_unplaced note scope (Number n) = refl
part_unplaced note scope (Slot i) = refl
part_unplaced note scope Outcome = refl

-- promises are read one after another, up to what is none
promises_read : (outcome : Bool) (scope : Texts) (promises : List Clause) (ts rest : List Lexeme) → Spans ts (ensures_pieces scope promises) rest
    → All (λ clause. IsCondition outcome (length scope) clause.condition) promises → IsScope scope → expected Word true (codes "ensures") rest ≡ None
    → Reads (promise_in outcome scope) ts promises rest
promises_read outcome scope [] ts rest h v s stop = subst (λ (x : List Lexeme). promise_in outcome scope x ≡ Some (None, rest)) (sym h) (rw stop refl)
promises_read outcome scope (c ∷ cs) ts rest h v s stop =
    let more = ensures_pieces scope cs in
    let pieces = placed c.at (condition_pieces scope c.condition) ++ (sign true (codes ";") ∷ more) in
    let a = expected_next Word true (codes "ensures") ts (word true (codes "ensures")) pieces rest h refl in
    let u = unplaced c.at (part_piece true scope c.condition.left.first)
    (operation_pieces true scope c.condition.left.rest ++ (sign true (comparison_text c.condition.comparison) ∷ sum_pieces true scope c.condition.right))
    (sign true (codes ";") ∷ more) a.1 rest (part_unplaced true scope c.condition.left.first) a.3 in
    let b = condition_next outcome scope c.condition a.1 (sign true (codes ";")) more rest u.0 (All-head (λ clause. IsCondition outcome (length scope) clause.condition) c cs v) s refl refl in
    let d = expected_next Sign true (codes ";") b.0 (sign true (codes ";")) more rest b.2 refl in
    let all = spans_length a.1 (condition_pieces scope c.condition ++ (sign true (codes ";") ∷ more)) rest u.0 in
    let first = spans_length ts (word true (codes "ensures") ∷ pieces) rest h in
    let second = spans_length a.1 pieces rest a.3 in
    let left = spans_length d.1 more rest d.3 in
    let behind = length_behind (condition_pieces scope c.condition) (sign true (codes ";") ∷ more) in
    let place : offset_of_next a.1 ≡ c.at = u.1 in (
      d.1,
      rw (a.2, b.1, d.2, place) (refl {a = Some (Some c, d.1)}),
      omega arith,
      promises_read outcome scope cs d.1 rest d.3 (all_tail (λ clause. IsCondition outcome (length scope) clause.condition) c cs v) s stop,
    )

-- behind demands comes no further one: a promise comes, or what is neither
no_demand : (scope : Texts) (promises : List Clause) (ts rest : List Lexeme) → Spans ts (ensures_pieces scope promises) rest
    → expected Word true (codes "requires") rest ≡ None → expected Word true (codes "requires") ts ≡ None
no_demand scope [] ts rest h stop = subst (λ (x : List Lexeme). expected Word true (codes "requires") x ≡ None) (sym h) stop
no_demand scope (c ∷ cs) ts rest h stop =
    let pieces = placed c.at (condition_pieces scope c.condition) ++ (sign true (codes ";") ∷ ensures_pieces scope cs) in
    expected_other Word true (codes "requires") ts (word true (codes "ensures")) (spans_heads ts (word true (codes "ensures")) pieces rest h) refl

-- the clauses are read, up to the heading
pub clauses_read : (outcome : Bool) (scope : Texts) (demands : List Condition) (promises : List Clause) (ts mid rest : List Lexeme)
    → Spans ts (requires_pieces scope demands) mid → Spans mid (ensures_pieces scope promises) rest
    → All (IsCondition false (length scope)) demands → All (λ clause. IsCondition outcome (length scope) clause.condition) promises → IsScope scope
    → Heads rest (word false (codes "static")) → clauses_in outcome scope ts (length rest) ≡ Some ((demands, promises), rest)
clauses_read outcome scope demands promises ts mid rest h k v w s static =
    let no_requires = expected_other Word true (codes "requires") rest (word false (codes "static")) static refl in
    let no_ensures = expected_other Word true (codes "ensures") rest (word false (codes "static")) static refl in
    let a : demands_in scope ts ≡ Some (demands, mid) =
    list_reads (demand_in scope) ts demands mid (demands_read scope demands ts mid h v s (no_demand scope promises mid rest k no_requires)) in
    let b : promises_in outcome scope mid ≡ Some (promises, rest) =
    list_reads (promise_in outcome scope) mid promises rest (promises_read outcome scope promises mid rest k w s no_ensures) in
    let same : nat_eq (length rest) (length rest) ≡ true = grind (arith, nat_tests) in
    rw (a, b, same) refl
