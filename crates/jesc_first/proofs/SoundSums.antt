-- What the parser's names, parts, sums and conditions take.
use Rattle.std.proofs.Common.{◌≡◌, ℕ, zero, suc, ◌<◌, ◌≤◌, Bool, true, false, ◌&&◌, not, if◌then◌else◌, nat_le, List, [], ◌∷◌, ◌++◌, length, get_or, refl, sym, ap, ◌∙◌, subst, arith, Option, Some, None, All, Contains, slice_get, slice_index_or, unwrap_or, position, option_map, codes, decimal}
use Rattle.std.proofs.lemmas.Grind.{common_steps}
use Rattle.std.proofs.lemmas.Bool.Decides.{nat_tests}
use Rattle.std.proofs.lemmas.Slice.Eq.{bytes_eq-Decides}
use Rattle.std.proofs.lemmas.List.Quantifiers.{position-Some}
use Rattle.std.proofs.lemmas.List.Sums.{fails_before_first, AllPass-from_list_all}
use Rattle.std.proofs.lemmas.List.Elements.{All-nil, All-cons}
use Rattle.std.specs.List.{list_all, position_or_len}
use Rattle.std.specs.Str.{bytes_eq}
use Rattle.std.specs.Str.Parse.{digits_value}
use Rattle.jesc_lexer.specs.declared.token.TokenKind.{TokenKind}
use Rattle.jesc_lexer.specs.declared.token.TokenKind.TheVariants.{Word, Backslash, Number as Digits, Sign}
use Rattle.jesc_ast.specs.Lexemes.{Lexeme}
use Rattle.jesc_first.specs.declared.tree.Operator.{Operator}
use Rattle.jesc_first.specs.declared.tree.Operator.TheVariants.{Plus, Minus}
use Rattle.jesc_first.specs.declared.tree.Comparison.{Comparison}
use Rattle.jesc_first.specs.declared.tree.Comparison.TheVariants.{Less, AtMost, Greater, AtLeast, Equal}
use Rattle.jesc_first.specs.declared.tree.Part.{Part}
use Rattle.jesc_first.specs.declared.tree.Part.TheVariants.{Number, Slot, Outcome}
use Rattle.jesc_first.specs.declared.tree.Operation.{Operation}
use Rattle.jesc_first.specs.declared.tree.Sum.{Sum}
use Rattle.jesc_first.specs.declared.tree.Condition.{Condition}
use Rattle.jesc_first.specs.Names.{is_letter, is_word_byte}
use Rattle.jesc_first.specs.Spelling.{word, sign, sign_at, part_piece, operator_text, operation_pieces, sum_pieces, comparison_text, condition_pieces}
use Rattle.jesc_first.specs.Names.{is_reserved, IsName, IsPart, IsSum, IsCondition}
use Rattle.jesc_first.specs.Parsing.{Texts, same_kind, same_side, is_token, expected, is_word_text, is_name_text, is_plain, name_in, slot_in, part_of_kind, part_and, part_in, operator_in, operation_after, operation_in, operations_in, sum_in, comparison_in, condition_in, value_in}
use Rattle.jesc_first.proofs.SoundBase.{Taken, Gives, IsNext, taken_none, taken_append, taken_cons, taken_one, gives_some, gives_none, gives_bind, gives_if, gives_either, and_left, and_right, not_true, same_kind_is, same_side_is, token_is, expected_sound, Found, Row, list_sound}

-- ---- names

-- a text that is a name
name_text_is : (text : List ℕ) → is_word_text text ≡ true → is_reserved text ≡ false → IsName text
name_text_is [] h r = absurd (cc)
name_text_is (b ∷ bytes) h r =
    (and_left (is_letter b) (list_all is_word_byte bytes) h, AllPass-from_list_all is_word_byte bytes (and_right (is_letter b) (list_all is_word_byte bytes) h), r)

pub name_is : (text : List ℕ) → is_name_text text ≡ true → IsName text
name_is text h =
    name_text_is text (and_left (is_word_text text) (not (is_reserved text)) h)
    (not_true (is_reserved text) (and_right (is_word_text text) (not (is_reserved text)) h))

-- a plain word fits the piece of its text
pub plain_taken : (token : Lexeme) (rest : List Lexeme) → is_plain token ≡ true → Taken (token ∷ rest) (word false token.text ∷ []) rest
plain_taken token rest h =
    taken_one token rest (word false token.text) (record {
      kind = same_kind_is token.kind Word (and_left (same_kind token.kind Word) (not token.note) h);
      text = refl;
      note = not_true token.note (and_right (same_kind token.kind Word) (not token.note) h);
      at = tt;
    })

pub record NameTaken (tokens : List Lexeme) (text : List ℕ) (rest : List Lexeme) : Type 0 where
  pub taken : Taken tokens (word false text ∷ []) rest
  pub valid : IsName text

pub name_sound : (tokens : List Lexeme) → Gives (name_in tokens) (NameTaken tokens)
name_sound [] = gives_none (NameTaken [])
name_sound (token ∷ rest) = gives_if (is_plain token && is_name_text token.text) token.text rest (NameTaken (token ∷ rest)) (λ h.
    record {
      taken = plain_taken token rest (and_left (is_plain token) (is_name_text token.text) h);
      valid = name_is token.text (and_right (is_plain token) (is_name_text token.text) h);
    })

-- ---- slots

get_within : (scope : Texts) (i : ℕ) (d : List ℕ) → i < length scope → slice_get scope i ≡ Some (get_or scope i d)
get_within [] i d h = absurd (omega arith)
get_within (t ∷ scope) zero d h = refl
get_within (t ∷ scope) (suc i) d h = get_within scope i d (omega arith)

-- a slot that was found is in scope, and has the text
pub slot_found : (scope : Texts) (text : List ℕ) (slot : ℕ) → slot_in scope text ≡ Some slot → (slot < length scope) × (unwrap_or (slice_get scope slot) [] ≡ text)
slot_found scope text slot h =
    let p = position-Some (λ (name : List ℕ). bytes_eq text name) scope slot [] h in
    let e : text ≡ get_or scope slot [] = (bytes_eq-Decides text (get_or scope slot [])).0 p.1 in
    (p.0, ap (λ (o : Option (List ℕ)). unwrap_or o []) (get_within scope slot [] p.0) ∙ sym e)

none_before : {X : Type 0} (p : X → Bool) (xs : List X) → position p xs ≡ None → length xs ≤ position_or_len p xs
none_before p xs h = grind (arith, common_steps)

get_same : (scope : Texts) (k : ℕ) (d : List ℕ) → slice_index_or scope k d ≡ get_or scope k d
get_same scope k d = refl

-- a text with no slot isn't in scope
pub slot_missing : (scope : Texts) (text : List ℕ) → slot_in scope text ≡ None → Contains scope text → ⊥
slot_missing scope text h (k, l, e) =
    let long : length scope ≤ position_or_len (λ (name : List ℕ). bytes_eq text name) scope = none_before (λ (name : List ℕ). bytes_eq text name) scope h in
    let fails : bytes_eq text (get_or scope k text) ≡ false = fails_before_first (λ (name : List ℕ). bytes_eq text name) scope k text (omega (arith, long, l)) in
    let same : bytes_eq text (get_or scope k text) ≡ true = (bytes_eq-Decides text (get_or scope k text)).1 (sym e) in
    absurd (cc)

-- ---- parts

pub record PartTaken (note outcome : Bool) (scope : Texts) (tokens : List Lexeme) (part : Part) (rest : List Lexeme) : Type 0 where
  pub taken : Taken tokens (part_piece note scope part ∷ []) rest
  pub valid : IsPart outcome (length scope) part

part_test : (b : Bool) (part : Part) (rest : List Lexeme) (P : Part → List Lexeme → Type 0) → (b ≡ true → P part rest) → Gives (part_and (if b then Some part else None) rest) P
part_test true part rest P h = gives_some part rest P (h refl)
part_test false part rest P h = gives_none P

number_test : (b : Bool) (n : ℕ) (rest : List Lexeme) (P : Part → List Lexeme → Type 0) → (b ≡ true → P (Number n) rest) → Gives (part_and (option_map Number (if b then Some n else None)) rest) P
number_test true n rest P h = gives_some (Number n) rest P (h refl)
number_test false n rest P h = gives_none P

slot_test : (found : Option ℕ) (rest : List Lexeme) (P : Part → List Lexeme → Type 0) → ((slot : ℕ) → found ≡ Some slot → P (Slot slot) rest) → Gives (part_and (option_map Slot found) rest) P
slot_test None rest P h = gives_none P
slot_test (Some slot) rest P h = gives_some (Slot slot) rest P (h slot refl)

at_most : (n m : ℕ) → nat_le n m ≡ true → n ≤ m
at_most n m h = grind (arith, nat_tests)

part_of : (note outcome : Bool) (scope : Texts) (token : Lexeme) (rest : List Lexeme) (kind : TokenKind) → token.kind ≡ kind → token.note ≡ note
    → Gives (part_and (part_of_kind outcome scope token.text kind) rest) (PartTaken note outcome scope (token ∷ rest))
part_of note outcome scope token rest Word k n =
    slot_test (slot_in scope token.text) rest (PartTaken note outcome scope (token ∷ rest)) (λ slot e.
    let s : (slot < length scope) × (unwrap_or (slice_get scope slot) [] ≡ token.text) = slot_found scope token.text slot e in
    record { taken = taken_one token rest (part_piece note scope (Slot slot)) (record { kind = k; text = sym s.1; note = n; at = tt }); valid = s.0 })
part_of note outcome scope token rest Digits k n =
    let m : ℕ = digits_value 10 token.text in
    number_test (nat_le m 2147483647 && bytes_eq token.text (decimal m)) m rest (PartTaken note outcome scope (token ∷ rest)) (λ e.
    record {
      taken = taken_one token rest (part_piece note scope (Number m)) (record {
        kind = k;
        text = (bytes_eq-Decides token.text (decimal m)).0 (and_right (nat_le m 2147483647) (bytes_eq token.text (decimal m)) e);
        note = n;
        at = tt;
      });
      valid = at_most m 2147483647 (and_left (nat_le m 2147483647) (bytes_eq token.text (decimal m)) e);
    })
part_of note outcome scope token rest Backslash k n =
    part_test (outcome && bytes_eq token.text (codes "\\result")) Outcome rest (PartTaken note outcome scope (token ∷ rest)) (λ e.
    record {
      taken = taken_one token rest (part_piece note scope Outcome) (record {
        kind = k;
        text = (bytes_eq-Decides token.text (codes "\\result")).0 (and_right outcome (bytes_eq token.text (codes "\\result")) e);
        note = n;
        at = tt;
      });
      valid = and_left outcome (bytes_eq token.text (codes "\\result")) e;
    })
part_of note outcome scope token rest Sign k n = gives_none (PartTaken note outcome scope (token ∷ rest))

pub part_sound : (note outcome : Bool) (scope : Texts) (tokens : List Lexeme) → Gives (part_in note outcome scope tokens) (PartTaken note outcome scope tokens)
part_sound note outcome scope [] = gives_none (PartTaken note outcome scope [])
part_sound note outcome scope (token ∷ rest) =
    gives_either (same_side token.note note) (part_and (part_of_kind outcome scope token.text token.kind) rest) None (PartTaken note outcome scope (token ∷ rest))
    (λ e. part_of note outcome scope token rest token.kind refl (same_side_is token.note note e))
    (λ e. gives_none (PartTaken note outcome scope (token ∷ rest)))

-- ---- operations

abbrev OperatorTaken : Bool → List Lexeme → Operator × ℕ → List Lexeme → Type 0
OperatorTaken note tokens operator rest = Taken tokens (sign_at note (operator_text operator.0) operator.1 ∷ []) rest

pick_operator : (note : Bool) (token : Lexeme) (rest : List Lexeme) (b c : Bool)
    → (b ≡ true → Taken (token ∷ rest) (sign_at note (codes "+") token.span.from ∷ []) rest) → (c ≡ true → Taken (token ∷ rest) (sign_at note (codes "-") token.span.from ∷ []) rest)
    → let r : Option (Operator × ℕ) × List Lexeme = if b then (Some (Plus, token.span.from), rest) else (if c then (Some (Minus, token.span.from), rest) else (None, token ∷ rest)) in
    Found (OperatorTaken note) (token ∷ rest) r.0 r.1
pick_operator note token rest true c h k = h refl
pick_operator note token rest false true h k = k refl
pick_operator note token rest false false h k = refl

operator_sound : (note : Bool) (tokens : List Lexeme) → Found (OperatorTaken note) tokens (operator_in note tokens).0 (operator_in note tokens).1
operator_sound note [] = refl
operator_sound note (token ∷ rest) =
    pick_operator note token rest (is_token Sign note (codes "+") token) (is_token Sign note (codes "-") token)
    (λ e. (token_is Sign note (codes "+") token rest e).firmly) (λ e. (token_is Sign note (codes "-") token rest e).firmly)

pub record OperationTaken (note outcome : Bool) (scope : Texts) (tokens : List Lexeme) (operation : Operation) (rest : List Lexeme) : Type 0 where
  pub taken : Taken tokens (operation_pieces note scope (operation ∷ [])) rest
  pub valid : IsPart outcome (length scope) operation.part

operation_from : (note outcome : Bool) (scope : Texts) (tokens : List Lexeme) (found : Option (Operator × ℕ)) (mid : List Lexeme)
    → Found (OperatorTaken note) tokens found mid → Gives (operation_after note outcome scope found mid) (Found (OperationTaken note outcome scope) tokens)
operation_from note outcome scope tokens None mid h = gives_some None mid (Found (OperationTaken note outcome scope) tokens) h
operation_from note outcome scope tokens (Some operator) mid h =
    gives_bind (part_in note outcome scope mid) _ (PartTaken note outcome scope mid) (Found (OperationTaken note outcome scope) tokens) (part_sound note outcome scope mid) (λ part rest p.
    let operation : Operation = record { operator = operator.0; at = operator.1; part = part } in
    gives_some (Some operation) rest (Found (OperationTaken note outcome scope) tokens) (record { taken = taken_cons h p.taken; valid = p.valid }))

operation_sound : (note outcome : Bool) (scope : Texts) (tokens : List Lexeme) → Gives (operation_in note outcome scope tokens) (Found (OperationTaken note outcome scope) tokens)
operation_sound note outcome scope tokens = operation_from note outcome scope tokens (operator_in note tokens).0 (operator_in note tokens).1 (operator_sound note tokens)

pub record OperationsTaken (note outcome : Bool) (scope : Texts) (tokens : List Lexeme) (operations : List Operation) (rest : List Lexeme) : Type 0 where
  pub taken : Taken tokens (operation_pieces note scope operations) rest
  pub valid : All (λ operation. IsPart outcome (length scope) operation.part) operations

operations_row : (note outcome : Bool) (scope : Texts) (tokens : List Lexeme) (operations : List Operation) (rest : List Lexeme)
    → Row (OperationTaken note outcome scope) tokens operations rest → OperationsTaken note outcome scope tokens operations rest
operations_row note outcome scope tokens [] rest h = record {
  taken = subst (λ (ts : List Lexeme). Taken tokens [] ts) h (taken_none tokens);
  valid = All-nil (λ (operation : Operation). IsPart outcome (length scope) operation.part);
}
operations_row note outcome scope tokens (operation ∷ operations) rest (mid, one, more) =
    let others : OperationsTaken note outcome scope mid operations rest = operations_row note outcome scope mid operations rest more in
    record {
      taken = taken_append one.taken others.taken;
      valid = All-cons (λ (operation : Operation). IsPart outcome (length scope) operation.part) operation operations one.valid others.valid;
    }

operations_sound : (note outcome : Bool) (scope : Texts) (tokens : List Lexeme) → Gives (operations_in note outcome scope tokens) (Row (OperationTaken note outcome scope) tokens)
operations_sound note outcome scope tokens = list_sound (operation_in note outcome scope) (OperationTaken note outcome scope) (operation_sound note outcome scope) tokens

-- ---- sums and conditions

pub record SumTaken (note outcome : Bool) (scope : Texts) (tokens : List Lexeme) (sum : Sum) (rest : List Lexeme) : Type 0 where
  pub taken : Taken tokens (sum_pieces note scope sum) rest
  pub valid : IsSum outcome (length scope) sum

pub sum_sound : (note outcome : Bool) (scope : Texts) (tokens : List Lexeme) → Gives (sum_in note outcome scope tokens) (SumTaken note outcome scope tokens)
sum_sound note outcome scope tokens =
    gives_bind (part_in note outcome scope tokens) _ (PartTaken note outcome scope tokens) (SumTaken note outcome scope tokens) (part_sound note outcome scope tokens) (λ first mid p.
    gives_bind (operations_in note outcome scope mid) _ (Row (OperationTaken note outcome scope) mid) (SumTaken note outcome scope tokens) (operations_sound note outcome scope mid) (λ operations rest r.
    let others : OperationsTaken note outcome scope mid operations rest = operations_row note outcome scope mid operations rest r in
    let sum : Sum = record { first = first; rest = operations } in
    gives_some sum rest (SumTaken note outcome scope tokens) (record { taken = taken_cons p.taken others.taken; valid = (p.valid, others.valid) })))

abbrev ComparisonTaken : List Lexeme → Comparison → List Lexeme → Type 0
ComparisonTaken tokens comparison rest = Taken tokens (sign true (comparison_text comparison) ∷ []) rest

comparison_sound : (tokens : List Lexeme) → Gives (comparison_in tokens) (ComparisonTaken tokens)
comparison_sound [] = gives_none (ComparisonTaken [])
comparison_sound (token ∷ rest) =
    let P : Comparison → List Lexeme → Type 0 = ComparisonTaken (token ∷ rest) in
    gives_either (is_token Sign true (codes "<") token) _ _ P (λ e. gives_some Less rest P (token_is Sign true (codes "<") token rest e).loosely) (λ _.
    gives_either (is_token Sign true (codes "<=") token) _ _ P (λ e. gives_some AtMost rest P (token_is Sign true (codes "<=") token rest e).loosely) (λ _.
    gives_either (is_token Sign true (codes ">") token) _ _ P (λ e. gives_some Greater rest P (token_is Sign true (codes ">") token rest e).loosely) (λ _.
    gives_either (is_token Sign true (codes ">=") token) _ _ P (λ e. gives_some AtLeast rest P (token_is Sign true (codes ">=") token rest e).loosely) (λ _.
    gives_if (is_token Sign true (codes "==") token) Equal rest P (λ e. (token_is Sign true (codes "==") token rest e).loosely)))))

pub record ConditionTaken (outcome : Bool) (scope : Texts) (tokens : List Lexeme) (condition : Condition) (rest : List Lexeme) : Type 0 where
  pub taken : Taken tokens (condition_pieces scope condition) rest
  pub valid : IsCondition outcome (length scope) condition

pub condition_sound : (outcome : Bool) (scope : Texts) (tokens : List Lexeme) → Gives (condition_in outcome scope tokens) (ConditionTaken outcome scope tokens)
condition_sound outcome scope tokens =
    gives_bind (sum_in true outcome scope tokens) _ (SumTaken true outcome scope tokens) (ConditionTaken outcome scope tokens) (sum_sound true outcome scope tokens) (λ left mid l.
    gives_bind (comparison_in mid) _ (ComparisonTaken mid) (ConditionTaken outcome scope tokens) (comparison_sound mid) (λ comparison end c.
    gives_bind (sum_in true outcome scope end) _ (SumTaken true outcome scope end) (ConditionTaken outcome scope tokens) (sum_sound true outcome scope end) (λ right rest r.
    let condition : Condition = record { left = left; comparison = comparison; right = right } in
    gives_some condition rest (ConditionTaken outcome scope tokens) (record { taken = taken_append l.taken (taken_cons c r.taken); valid = (l.valid, r.valid) }))))

-- a sum outside annotations, and the mark after it
pub record ValueTaken (scope : Texts) (tokens : List Lexeme) (value : Sum) (rest : List Lexeme) : Type 0 where
  pub taken : Taken tokens (sum_pieces false scope value ++ sign false (codes ";") ∷ []) rest
  pub valid : IsSum false (length scope) value

pub value_sound : (scope : Texts) (tokens : List Lexeme) → Gives (value_in scope tokens) (ValueTaken scope tokens)
value_sound scope tokens =
    gives_bind (sum_in false false scope tokens) _ (SumTaken false false scope tokens) (ValueTaken scope tokens) (sum_sound false false scope tokens) (λ value mid s.
    gives_bind (expected Sign false (codes ";") mid) _ (IsNext Sign false (codes ";") mid) (ValueTaken scope tokens) (expected_sound Sign false (codes ";") mid) (λ mark rest m.
    gives_some value rest (ValueTaken scope tokens) (record { taken = taken_append s.taken m.loosely; valid = s.valid })))
