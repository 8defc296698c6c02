-- What the parser's clauses take.
use Rattle.std.proofs.Common.{◌≡◌, ℕ, ◌+◌, Bool, true, false, nat_eq, if◌then◌else◌, List, [], ◌∷◌, ◌++◌, length, drop, refl, sym, ap, ◌∙◌, subst, arith, append_assoc, length-append, Some, All, codes}
use Rattle.std.proofs.lemmas.Bool.Decides.{nat_tests}
use Rattle.std.proofs.lemmas.List.Elements.{All-nil, All-cons}
use Rattle.jesc_lexer.specs.declared.token.TokenKind.TheVariants.{Word, Sign}
use Rattle.jesc_ast.specs.Lexemes.{Lexeme}
use Rattle.jesc_first.specs.declared.tree.Condition.{Condition}
use Rattle.jesc_first.specs.declared.tree.Clause.{Clause}
use Rattle.jesc_first.specs.Spelling.{Piece, Match, word, sign, condition_pieces, requires_pieces, placed, ensures_pieces}
use Rattle.jesc_first.specs.Names.{IsCondition}
use Rattle.jesc_first.specs.Parsing.{Texts, is_token, expected, condition_in, offset_of_next, demand_in, promise_in, demands_in, promises_in, clauses_in, from_static}
use Rattle.jesc_first.proofs.SoundBase.{Taken, Gives, IsNext, taken_none, taken_append, taken_cons, gives_some, gives_bind, gives_if, gives_optional, expected_sound, Found, Row, list_sound}
use Rattle.jesc_first.proofs.SoundSums.{ConditionTaken, condition_sound}

-- pieces up to a mark, and more after it
taken_marked : {ts mid rest : List Lexeme} (p : Piece) (ps : List Piece) (q : Piece) (qs : List Piece) → Taken ts (p ∷ (ps ++ q ∷ [])) mid → Taken mid qs rest → Taken ts (p ∷ (ps ++ q ∷ qs)) rest
taken_marked {ts} {mid} {rest} p ps q qs h k =
    let whole : Taken ts ((p ∷ (ps ++ q ∷ [])) ++ qs) rest = taken_append h k in
    subst (λ (xs : List Piece). Taken ts (p ∷ xs) rest) (append_assoc ps (q ∷ []) qs) whole

-- ---- demands

pub record DemandTaken (scope : Texts) (tokens : List Lexeme) (condition : Condition) (rest : List Lexeme) : Type 0 where
  pub taken : Taken tokens (word true (codes "requires") ∷ (condition_pieces scope condition ++ sign true (codes ";") ∷ [])) rest
  pub valid : IsCondition false (length scope) condition

demand_sound : (scope : Texts) (tokens : List Lexeme) → Gives (demand_in scope tokens) (Found (DemandTaken scope) tokens)
demand_sound scope tokens =
    gives_optional (expected Word true (codes "requires") tokens) tokens _ (IsNext Word true (codes "requires") tokens) (Found (DemandTaken scope) tokens) (expected_sound Word true (codes "requires") tokens) refl (λ at mid w.
    gives_bind (condition_in false scope mid) _ (ConditionTaken false scope mid) (Found (DemandTaken scope) tokens) (condition_sound false scope mid) (λ condition end c.
    gives_bind (expected Sign true (codes ";") end) _ (IsNext Sign true (codes ";") end) (Found (DemandTaken scope) tokens) (expected_sound Sign true (codes ";") end) (λ mark rest m.
    gives_some (Some condition) rest (Found (DemandTaken scope) tokens) (record { taken = taken_cons w.loosely (taken_append c.taken m.loosely); valid = c.valid }))))

pub record DemandsTaken (scope : Texts) (tokens : List Lexeme) (demands : List Condition) (rest : List Lexeme) : Type 0 where
  pub taken : Taken tokens (requires_pieces scope demands) rest
  pub valid : All (IsCondition false (length scope)) demands

demands_row : (scope : Texts) (tokens : List Lexeme) (demands : List Condition) (rest : List Lexeme) → Row (DemandTaken scope) tokens demands rest → DemandsTaken scope tokens demands rest
demands_row scope tokens [] rest h = record {
  taken = subst (λ (ts : List Lexeme). Taken tokens [] ts) h (taken_none tokens);
  valid = All-nil (IsCondition false (length scope));
}
demands_row scope tokens (condition ∷ demands) rest (mid, one, more) =
    let others : DemandsTaken scope mid demands rest = demands_row scope mid demands rest more in
    record {
      taken = taken_marked (word true (codes "requires")) (condition_pieces scope condition) (sign true (codes ";")) (requires_pieces scope demands) one.taken others.taken;
      valid = All-cons (IsCondition false (length scope)) condition demands one.valid others.valid;
    }

demands_sound : (scope : Texts) (tokens : List Lexeme) → Gives (demands_in scope tokens) (Row (DemandTaken scope) tokens)
demands_sound scope tokens = list_sound (demand_in scope) (DemandTaken scope) (demand_sound scope) tokens

-- ---- promises

placed_fits : (front rest : List Lexeme) (ps : List Piece) → Match front ps → Match front (placed (offset_of_next (front ++ rest)) ps)
placed_fits [] rest [] h = tt
placed_fits [] rest (p ∷ ps) h = absurd h
placed_fits (t ∷ front) rest [] h = absurd h
placed_fits (t ∷ front) rest (p ∷ ps) h = (record { kind = h.0.kind; text = h.0.text; note = h.0.note; at = refl }, h.1)

-- the first of the pieces stands where the tokens begin
taken_placed : (ts : List Lexeme) (ps : List Piece) (rest : List Lexeme) → Taken ts ps rest → Taken ts (placed (offset_of_next ts) ps) rest
taken_placed ts ps rest h = record {
  front = h.front;
  split = h.split;
  fits = subst (λ (at : ℕ). Match h.front (placed at ps)) (sym (ap offset_of_next h.split)) (placed_fits h.front rest ps h.fits);
}

pub record PromiseTaken (outcome : Bool) (scope : Texts) (tokens : List Lexeme) (clause : Clause) (rest : List Lexeme) : Type 0 where
  pub taken : Taken tokens (word true (codes "ensures") ∷ (placed clause.at (condition_pieces scope clause.condition) ++ sign true (codes ";") ∷ [])) rest
  pub valid : IsCondition outcome (length scope) clause.condition

promise_sound : (outcome : Bool) (scope : Texts) (tokens : List Lexeme) → Gives (promise_in outcome scope tokens) (Found (PromiseTaken outcome scope) tokens)
promise_sound outcome scope tokens =
    gives_optional (expected Word true (codes "ensures") tokens) tokens _ (IsNext Word true (codes "ensures") tokens) (Found (PromiseTaken outcome scope) tokens) (expected_sound Word true (codes "ensures") tokens) refl (λ at mid w.
    gives_bind (condition_in outcome scope mid) _ (ConditionTaken outcome scope mid) (Found (PromiseTaken outcome scope) tokens) (condition_sound outcome scope mid) (λ condition end c.
    gives_bind (expected Sign true (codes ";") end) _ (IsNext Sign true (codes ";") end) (Found (PromiseTaken outcome scope) tokens) (expected_sound Sign true (codes ";") end) (λ mark rest m.
    let clause : Clause = record { at = offset_of_next mid; condition = condition } in
    gives_some (Some clause) rest (Found (PromiseTaken outcome scope) tokens) (record {
      taken = taken_cons w.loosely (taken_append (taken_placed mid (condition_pieces scope condition) end c.taken) m.loosely);
      valid = c.valid;
    }))))

pub record PromisesTaken (outcome : Bool) (scope : Texts) (tokens : List Lexeme) (promises : List Clause) (rest : List Lexeme) : Type 0 where
  pub taken : Taken tokens (ensures_pieces scope promises) rest
  pub valid : All (λ clause. IsCondition outcome (length scope) clause.condition) promises

promises_row : (outcome : Bool) (scope : Texts) (tokens : List Lexeme) (promises : List Clause) (rest : List Lexeme) → Row (PromiseTaken outcome scope) tokens promises rest → PromisesTaken outcome scope tokens promises rest
promises_row outcome scope tokens [] rest h = record {
  taken = subst (λ (ts : List Lexeme). Taken tokens [] ts) h (taken_none tokens);
  valid = All-nil (λ (clause : Clause). IsCondition outcome (length scope) clause.condition);
}
promises_row outcome scope tokens (clause ∷ promises) rest (mid, one, more) =
    let others : PromisesTaken outcome scope mid promises rest = promises_row outcome scope mid promises rest more in
    record {
      taken = taken_marked (word true (codes "ensures")) (placed clause.at (condition_pieces scope clause.condition)) (sign true (codes ";")) (ensures_pieces scope promises) one.taken others.taken;
      valid = All-cons (λ (clause : Clause). IsCondition outcome (length scope) clause.condition) clause promises one.valid others.valid;
    }

promises_sound : (outcome : Bool) (scope : Texts) (tokens : List Lexeme) → Gives (promises_in outcome scope tokens) (Row (PromiseTaken outcome scope) tokens)
promises_sound outcome scope tokens = list_sound (promise_in outcome scope) (PromiseTaken outcome scope) (promise_sound outcome scope) tokens

-- ---- both, up to the heading

pub record ClausesTaken (outcome : Bool) (scope : Texts) (tokens : List Lexeme) (heading : ℕ) (read : List Condition × List Clause) (rest : List Lexeme) : Type 0 where
  pub taken : Taken tokens (requires_pieces scope read.0 ++ ensures_pieces scope read.1) rest
  pub demands : All (IsCondition false (length scope)) read.0
  pub promises : All (λ clause. IsCondition outcome (length scope) clause.condition) read.1
  pub left : length rest ≡ heading

same_number : (n m : ℕ) → nat_eq n m ≡ true → n ≡ m
same_number n m h = grind (arith, nat_tests)

pub clauses_sound : (outcome : Bool) (scope : Texts) (tokens : List Lexeme) (heading : ℕ) → Gives (clauses_in outcome scope tokens heading) (ClausesTaken outcome scope tokens heading)
clauses_sound outcome scope tokens heading =
    gives_bind (demands_in scope tokens) _ (Row (DemandTaken scope) tokens) (ClausesTaken outcome scope tokens heading) (demands_sound scope tokens) (λ demands mid d.
    gives_bind (promises_in outcome scope mid) _ (Row (PromiseTaken outcome scope) mid) (ClausesTaken outcome scope tokens heading) (promises_sound outcome scope mid) (λ promises rest p.
    let first : DemandsTaken scope tokens demands mid = demands_row scope tokens demands mid d in
    let second : PromisesTaken outcome scope mid promises rest = promises_row outcome scope mid promises rest p in
    let read : List Condition × List Clause = (demands, promises) in
    gives_if (nat_eq (length rest) heading) read rest (ClausesTaken outcome scope tokens heading) (λ e. record {
      taken = taken_append first.taken second.taken;
      demands = first.valid;
      promises = second.valid;
      left = same_number (length rest) heading e;
    })))

drop_front : (a x : List Lexeme) → drop (length a) (a ++ x) ≡ x
drop_front [] x = refl
drop_front (t ∷ a) x = drop_front a x

-- two tails of one list that are of one length
same_tail : (a b x y ts : List Lexeme) → ts ≡ a ++ x → ts ≡ b ++ y → length x ≡ length y → x ≡ y
same_tail a b x y ts p q h =
    let la : length ts ≡ length a + length x = ap length p ∙ length-append a x in
    let lb : length ts ≡ length b + length y = ap length q ∙ length-append b y in
    let n : length a ≡ length b = omega (arith, la, lb, h) in
    sym (drop_front a x) ∙ ap (λ (k : ℕ). drop k (a ++ x)) n ∙ ap (drop (length b)) (sym p ∙ q) ∙ drop_front b y

static_tail : (ts : List Lexeme) → (front : List Lexeme) × (ts ≡ front ++ from_static ts)
static_tail [] = ([], refl)
static_tail (t ∷ ts) = by (is_token Word false (codes "static") t) (static_tail ts)
  where
    by : (b : Bool) → (front : List Lexeme) × (ts ≡ front ++ from_static ts) → (front : List Lexeme) × ((t ∷ ts) ≡ front ++ (if b then t ∷ ts else from_static ts))
    by true h = ([], refl)
    by false h = (t ∷ h.0, ap (λ (xs : List Lexeme). t ∷ xs) h.1)

-- clauses that leave as many tokens as there are from the next `static` on leave those
pub up_to_static : (ts : List Lexeme) (ps : List Piece) (rest : List Lexeme) → Taken ts ps rest → length rest ≡ length (from_static ts) → rest ≡ from_static ts
up_to_static ts ps rest h l = let s : (front : List Lexeme) × (ts ≡ front ++ from_static ts) = static_tail ts in same_tail h.front s.0 rest (from_static ts) ts h.split s.1 l
