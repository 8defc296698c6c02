-- A lexeme whose mark goes on with a tree begins a longer tree.
use Rattle.std.proofs.Common.{◌≡◌, ℕ, ◌≤◌, Bool, true, false, ◌||◌, not, List, [], ◌∷◌, ◌++◌, refl, sym, ap, ◌∙◌, subst, append_assoc, IsTrue, nat_le, codes, inl, inr, arith}
use Rattle.std.proofs.lemmas.Bool.{and_parts, or_cases, or_left, or_right, leb-true}
use Rattle.jesc_text.specs.declared.place.Span.{Span}
use Rattle.jesc_ast.specs.declared.word.TypeTree.{TypeTree}
use Rattle.jesc_ast.specs.Words.{is_name, is_primitive}
use Rattle.jesc_ast.specs.Lexemes.{Lexeme, word, backslash, sign, chosen_word, chosen_sign, number_of, kept, join}
use Rattle.jesc_ast.specs.Trees.{Expression, number, truth, null, this, outcome, name, paren, member, index, unary, binary, choose, cast, instance_of, call, new_object, old, fresh, implied, super, on, no_expressions}
use Rattle.jesc_ast.specs.Expressions.{span_of, type_tree, SpellsType, is_plain_type, is_array_type, IsOperator, is_equivalence, is_inequivalence, is_implication, is_or, is_and, is_equal, is_unequal, is_less, is_less_equal, is_greater, is_greater_equal, is_plus, is_minus, is_times, is_quotient, is_remainder, is_not, is_cast_by, begins_cast, is_cast_before, Spells, is_number, is_true, is_false, is_null, is_this, is_outcome, is_plain_name, is_paren, is_member, is_index, is_unary, is_binary, is_choose, is_cast, is_instance_of, is_own_call, is_super_call, is_call, is_new_object, is_old, is_fresh, no_arguments}
use Rattle.jesc_jml_grammar.specs.declared.mark.Mark.{Mark}
use Rattle.jesc_jml_grammar.specs.declared.mark.Mark.TheVariants as m
use Rattle.jesc_jml_grammar.specs.Marks.{lexeme_mark}
use Rattle.jesc_jml_grammar.specs.Steps.{same_mark}
use Rattle.jesc_jml_grammar.specs.Reading.{binds, needs, right_of, grows, casts, allows_prefix}
use Rattle.jesc_jml_parser.specs.laws.Edges.{operator_mark, strength, goes_inside, goes_on}
use Rattle.jesc_jml_parser.specs.laws.SoundMarks.{marked, same_is}
use Rattle.jesc_jml_parser.specs.laws.SoundLexemes.{is_operator_mark, operates, casting}

-- the lexemes and this one more begin a tree that binds as tightly as `least`
abbrev pub Longer : Bool → ℕ → List Lexeme → Lexeme → Type 0
Longer note least u x = (n : ℕ) × (e : Expression) × (more : List Lexeme) × (least ≤ n) × Spells note n e (u ++ x ∷ more)

-- ---- short lexemes that end a tree

abbrev here : Span
here = record { file = 0; from = 0; to = 0 }

abbrev zero_tree : Expression
zero_tree = number here (codes "0")

abbrev zero_lexeme : Bool → Lexeme
zero_lexeme note = number_of note (codes "0") here

spells_zero : (note : Bool) → Spells note 12 zero_tree (zero_lexeme note ∷ [])
spells_zero note = is_number here (codes "0")

abbrev letter : List ℕ
letter = codes "a"

letter_name : IsTrue (is_name letter)
letter_name = refl

-- ---- what binds a tree

module _ (note : Bool) (x : Lexeme) (least k : ℕ) (e : Expression) (u : List Lexeme) (s : Spells note k e u) where
  as_operator : (mark : Mark) → is_operator_mark mark ≡ true → lexeme_mark note x ≡ mark → least ≤ binds mark → needs mark ≤ k → Longer note least u x
  as_operator mark operator is le left =
      let o = operates note mark operator x is in
      let tree : Expression = binary (join (span_of e) here) (kept note x.text x.span) e zero_tree in (
        binds mark,
        tree,
        zero_lexeme note ∷ [],
        le,
        subst (λ (y : Lexeme). Spells note (binds mark) tree (u ++ y ∷ zero_lexeme note ∷ [])) (sym o.sign)
            (is_binary x.text x.span (binds mark) (needs mark) (right_of mark) k 12 e zero_tree u (zero_lexeme note ∷ []) o.operator s left (spells_zero note) (omega (arith, o.small))),
      )

  as_question : least ≤ 1 → 2 ≤ k → x ≡ sign note "?" x.span → Longer note least u x
  as_question le left same =
      let tree : Expression = choose (join (span_of e) here) e x.span zero_tree zero_tree in
      let more : List Lexeme = zero_lexeme note ∷ sign note ":" here ∷ zero_lexeme note ∷ [] in (
        1,
        tree,
        more,
        le,
        subst (λ (y : Lexeme). Spells note 1 tree (u ++ y ∷ more)) (sym same)
            (is_choose x.span here k 12 12 e zero_tree zero_tree u (zero_lexeme note ∷ []) (zero_lexeme note ∷ []) s left (spells_zero note) (spells_zero note)),
      )

  as_test : least ≤ 7 → 7 ≤ k → x ≡ word note "instanceof" x.span → Longer note least u x
  as_test le left same =
      let t : TypeTree = type_tree here letter false in
      let tree : Expression = instance_of (join (span_of e) here) e t in
      let more : List Lexeme = chosen_word note letter here ∷ [] in (
        7,
        tree,
        more,
        le,
        subst (λ (y : Lexeme). Spells note 7 tree (u ++ y ∷ more)) (sym same) (is_instance_of x.span k e t u more s left (is_plain_type here letter refl)),
      )

  as_dot : least ≤ 11 → 11 ≤ k → x ≡ sign note "." x.span → Longer note least u x
  as_dot le left same =
      let tree : Expression = member (join (span_of e) here) e x.span (kept note letter here) in
      let more : List Lexeme = chosen_word note letter here ∷ [] in (
        12,
        tree,
        more,
        omega arith,
        subst (λ (y : Lexeme). Spells note 12 tree (u ++ y ∷ more)) (sym same) (is_member k e u x.span here letter s left letter_name),
      )

  as_bracket : least ≤ 12 → 12 ≤ k → x ≡ sign note "[" x.span → Longer note least u x
  as_bracket le left same =
      let tree : Expression = index (join (span_of e) here) e x.span zero_tree in
      let more : List Lexeme = zero_lexeme note ∷ sign note "]" here ∷ [] in (
        12,
        tree,
        more,
        le,
        subst (λ (y : Lexeme). Spells note 12 tree (u ++ y ∷ more)) (sym same)
            (is_index k 12 e zero_tree u (zero_lexeme note ∷ []) x.span here s left (spells_zero note)),
      )

  grown : 1 ≤ least → (mark : Mark) → lexeme_mark note x ≡ mark → least ≤ binds mark → needs mark ≤ k → Longer note least u x
  grown one m.Question is le left = as_question le left (marked note m.Question x is)
  grown one m.InstanceOf is le left = as_test le left (marked note m.InstanceOf x is)
  grown one m.Dot is le left = as_dot le left (marked note m.Dot x is)
  grown one m.LeftBracket is le left = as_bracket le left (marked note m.LeftBracket x is)
  grown one m.Iff is le left = as_operator m.Iff refl is le left
  grown one m.NotIff is le left = as_operator m.NotIff refl is le left
  grown one m.Implies is le left = as_operator m.Implies refl is le left
  grown one m.Or is le left = as_operator m.Or refl is le left
  grown one m.And is le left = as_operator m.And refl is le left
  grown one m.Equal is le left = as_operator m.Equal refl is le left
  grown one m.Unequal is le left = as_operator m.Unequal refl is le left
  grown one m.Less is le left = as_operator m.Less refl is le left
  grown one m.LessEqual is le left = as_operator m.LessEqual refl is le left
  grown one m.Greater is le left = as_operator m.Greater refl is le left
  grown one m.GreaterEqual is le left = as_operator m.GreaterEqual refl is le left
  grown one m.Plus is le left = as_operator m.Plus refl is le left
  grown one m.Minus is le left = as_operator m.Minus refl is le left
  grown one m.Times is le left = as_operator m.Times refl is le left
  grown one m.Quotient is le left = as_operator m.Quotient refl is le left
  grown one m.Remainder is le left = as_operator m.Remainder refl is le left
  grown one _ is le left = absurd (omega arith)

  pub grows_begins : 1 ≤ least → grows k (lexeme_mark note x) least ≡ true → Longer note least u x
  grows_begins one g =
      let parts = and_parts (nat_le least (binds (lexeme_mark note x))) (nat_le (needs (lexeme_mark note x)) k) g in
      grown one (lexeme_mark note x) refl (leb-true _ _ parts.0) (leb-true _ _ parts.1)

-- ---- what goes on at the right edge

operator_strength : (note : Bool) (op : List ℕ) (n l r : ℕ) → IsOperator note op n l r → (binds (operator_mark op) ≡ n) × (right_of (operator_mark op) ≡ r) × (1 ≤ r)
operator_strength note op n l r is_equivalence = (refl, refl, omega arith)
operator_strength note op n l r is_inequivalence = (refl, refl, omega arith)
operator_strength note op n l r is_implication = (refl, refl, omega arith)
operator_strength note op n l r (is_or side) = (refl, refl, omega arith)
operator_strength note op n l r (is_and side) = (refl, refl, omega arith)
operator_strength note op n l r (is_equal side) = (refl, refl, omega arith)
operator_strength note op n l r (is_unequal side) = (refl, refl, omega arith)
operator_strength note op n l r (is_less side) = (refl, refl, omega arith)
operator_strength note op n l r (is_less_equal side) = (refl, refl, omega arith)
operator_strength note op n l r (is_greater side) = (refl, refl, omega arith)
operator_strength note op n l r (is_greater_equal side) = (refl, refl, omega arith)
operator_strength note op n l r (is_plus side) = (refl, refl, omega arith)
operator_strength note op n l r (is_minus side) = (refl, refl, omega arith)
operator_strength note op n l r (is_times side) = (refl, refl, omega arith)
operator_strength note op n l r (is_quotient side) = (refl, refl, omega arith)
operator_strength note op n l r (is_remainder side) = (refl, refl, omega arith)

operator_some : (note : Bool) (op : List ℕ) (n l r : ℕ) → IsOperator note op n l r → 1 ≤ n
operator_some note op n l r is_equivalence = omega arith
operator_some note op n l r is_inequivalence = omega arith
operator_some note op n l r is_implication = omega arith
operator_some note op n l r (_) = omega arith

-- a tree is spelled with its own strength
pub spelled_strength : (note : Bool) (k : ℕ) (e : Expression) (u : List Lexeme) → Spells note k e u → strength e ≡ k
spelled_strength note k e u (is_binary op s n l r i j a b v w is left le right more) = (operator_strength note op n l r is).0
spelled_strength note k e u _ = refl

pub some_strength : (note : Bool) (k : ℕ) (e : Expression) (u : List Lexeme) → Spells note k e u → 1 ≤ k
some_strength note k e u (is_binary op s n l r i j a b v w is left le right more) = operator_some note op n l r is
some_strength note k e u _ = omega arith

-- a name in parentheses
paren_name : (note : Bool) (k : ℕ) (e : Expression) (u : List Lexeme) → Spells note k e u → (p : Span) (least : ℕ) (mark : Mark) → goes_inside least (paren p e) mark ≡ true
    → (s : Span) × (y : List ℕ) × (u ≡ chosen_word note y s ∷ []) × IsTrue (is_name y) × (casts mark ≡ true) × (allows_prefix least ≡ true)
paren_name note k e u (is_plain_name s y n) p least mark goes =
    let parts = and_parts (casts mark) (allows_prefix least) goes in
    (s, y, refl, n, parts.0, parts.1)
paren_name note k e u _ p least mark goes = absurd cc

-- a cast's operand begins with the lexeme
abbrev Operand : Bool → Lexeme → Type 0
Operand note x = (n : ℕ) × (e : Expression) × (more : List Lexeme) × (10 ≤ n) × Spells note n e (x ∷ more)

operand_as : (note : Bool) (x y : Lexeme) → x ≡ y → (n : ℕ) (e : Expression) (more : List Lexeme) → 10 ≤ n → Spells note n e (y ∷ more) → Operand note x
operand_as note x y same n e more ten s = (n, e, more, ten, subst (λ (z : Lexeme). Spells note n e (z ∷ more)) (sym same) s)

leaf_operand : (note : Bool) (x y : Lexeme) → x ≡ y → (e : Expression) → Spells note 12 e (y ∷ []) → Operand note x
leaf_operand note x y same e s = operand_as note x y same 12 e [] (omega arith) s

operand : (note : Bool) (x : Lexeme) (mark : Mark) → lexeme_mark note x ≡ mark → casts mark ≡ true → Operand note x
operand note x m.Name is by = let at = marked note m.Name x is in leaf_operand note x (chosen_word note x.text x.span) at.0 (name x.span x.text) (is_plain_name x.span x.text at.1)
operand note x m.Number is by = leaf_operand note x (number_of note x.text x.span) (marked note m.Number x is) (number x.span x.text) (is_number x.span x.text)
operand note x m.True is by = leaf_operand note x (word note "true" x.span) (marked note m.True x is) (truth x.span true) (is_true x.span)
operand note x m.False is by = leaf_operand note x (word note "false" x.span) (marked note m.False x is) (truth x.span false) (is_false x.span)
operand note x m.Null is by = leaf_operand note x (word note "null" x.span) (marked note m.Null x is) (null x.span) (is_null x.span)
operand note x m.This is by = leaf_operand note x (word note "this" x.span) (marked note m.This x is) (this x.span) (is_this x.span)
operand note x m.Result is by =
    let at = marked note m.Result x is in leaf_operand note x (backslash note "\\result" x.span) at.1 (outcome x.span) (is_outcome at.0 x.span)
operand note x m.New is by =
    operand_as note x (word note "new" x.span) (marked note m.New x is) 12 (new_object (join x.span here) (kept note letter here) no_expressions)
    (chosen_word note letter here ∷ sign note "(" here ∷ sign note ")" here ∷ []) (omega arith)
    (is_new_object x.span here here here letter no_expressions [] letter_name no_arguments)
operand note x m.Super is by =
    operand_as note x (word note "super" x.span) (marked note m.Super x is) 12 (call (join x.span here) super (kept note letter here) no_expressions)
    (sign note "." here ∷ chosen_word note letter here ∷ sign note "(" here ∷ sign note ")" here ∷ []) (omega arith)
    (is_super_call x.span here here here here letter no_expressions [] letter_name no_arguments)
operand note x m.Old is by =
    let at = marked note m.Old x is in
    operand_as note x (backslash note "\\old" x.span) at.1 12 (old (join x.span here) zero_tree) (sign note "(" here ∷ zero_lexeme note ∷ sign note ")" here ∷ []) (omega arith)
    (is_old at.0 x.span here here 12 zero_tree (zero_lexeme note ∷ []) (spells_zero note))
operand note x m.Fresh is by =
    let at = marked note m.Fresh x is in
    operand_as note x (backslash note "\\fresh" x.span) at.1 12 (fresh (join x.span here) zero_tree) (sign note "(" here ∷ zero_lexeme note ∷ sign note ")" here ∷ []) (omega arith)
    (is_fresh at.0 x.span here here 12 zero_tree (zero_lexeme note ∷ []) (spells_zero note))
operand note x m.LeftParen is by =
    operand_as note x (sign note "(" x.span) (marked note m.LeftParen x is) 12 (paren (join x.span here) zero_tree) (zero_lexeme note ∷ sign note ")" here ∷ []) (omega arith)
    (is_paren x.span here 12 zero_tree (zero_lexeme note ∷ []) (spells_zero note))
operand note x m.Not is by =
    operand_as note x (sign note "!" x.span) (marked note m.Not x is) 10 (unary (join x.span here) (kept note (codes "!") x.span) zero_tree) (zero_lexeme note ∷ []) (omega arith)
    (is_unary (codes "!") x.span 12 zero_tree (zero_lexeme note ∷ []) is_not (spells_zero note) (omega arith))
operand note x _ is by = absurd cc

-- a cast of what was a name in parentheses
name_cast : (note : Bool) (x : Lexeme) (p q s : Span) (y : List ℕ) (u : List Lexeme) (least : ℕ) → IsTrue (is_name y) → u ≡ chosen_word note y s ∷ []
    → casts (lexeme_mark note x) ≡ true → allows_prefix least ≡ true → Longer note least (sign note "(" p ∷ (u ++ sign note ")" q ∷ [])) x
name_cast note x p q s y u least named same by low =
    let o = operand note x (lexeme_mark note x) refl by in
    let t : TypeTree = type_tree s y false in
    let tree : Expression = cast (join p (span_of o.1)) t o.1 in
    let is_type : SpellsType note t (chosen_word note y s ∷ []) = is_plain_type s y (or_right (is_primitive y) (is_name y) named) in (
      10,
      tree,
      o.2,
      leb-true _ _ low,
      subst (λ (z : List Lexeme). Spells note 10 tree ((sign note "(" p ∷ (z ++ sign note ")" q ∷ [])) ++ x ∷ o.2)) (sym same)
          (is_cast p q t o.0 o.1 (chosen_word note y s ∷ []) (x ∷ o.2) is_type o.4 o.3 (or_right (is_primitive y || false) (is_cast_by x.kind x.text) (casting note (lexeme_mark note x) by x refl))),
    )

longer_type : (note : Bool) (x : Lexeme) (t : TypeTree) (v : List Lexeme) → SpellsType note t v → not t.array ≡ true → lexeme_mark note x ≡ m.LeftBracket
    → (t' : TypeTree) × (more : List Lexeme) × SpellsType note t' (v ++ x ∷ more)
longer_type note x t v (is_plain_type s y word) plain is = (
  type_tree (join s here) y true,
  sign note "]" here ∷ [],
  subst (λ (z : Lexeme). SpellsType note (type_tree (join s here) y true) (chosen_word note y s ∷ z ∷ sign note "]" here ∷ [])) (sym (marked note m.LeftBracket x is))
      (is_array_type s x.span here y word),
)
longer_type note x t v (is_array_type s p q y word) plain is = absurd cc

begins_longer : (v w : List Lexeme) → IsTrue (begins_cast v) → IsTrue (begins_cast (v ++ w))
begins_longer [] w by = absurd cc
begins_longer (y ∷ v) w by = by

still_cast : (t : TypeTree) (v w : List Lexeme) → IsTrue (is_cast_before t v) → IsTrue (is_cast_before t (v ++ w))
still_cast t v w before =
    elim (or_cases (is_primitive t.base || t.array) (begins_cast v) before) [
      | inl typed ↦ or_left (is_primitive t.base || t.array) (begins_cast (v ++ w)) typed
      | inr by ↦ or_right (is_primitive t.base || t.array) (begins_cast (v ++ w)) (begins_longer v w by)
    ]

-- the case that a mark goes on with the tree itself, and the one that it goes on inside
goes_either : (note : Bool) (x : Lexeme) (k : ℕ) (e : Expression) (u : List Lexeme) → Spells note k e u → (least : ℕ) → 1 ≤ least
    → (goes_inside least e (lexeme_mark note x) ≡ true → Longer note least u x) → goes_on least e (lexeme_mark note x) ≡ true → Longer note least u x
goes_either note x k e u s least one inside goes =
    elim (or_cases (grows (strength e) (lexeme_mark note x) least) (goes_inside least e (lexeme_mark note x)) goes) [
      | inl g ↦ grows_begins note x least k e u s one (subst (λ (n : ℕ). grows n (lexeme_mark note x) least ≡ true) (spelled_strength note k e u s) g)
      | inr i ↦ inside i
    ]

goes_inside_begins : (note : Bool) (x : Lexeme) (k : ℕ) (e : Expression) (u : List Lexeme) → Spells note k e u → (least : ℕ) → least ≤ k
    → goes_inside least e (lexeme_mark note x) ≡ true → Longer note least u x
goes_inside_begins note x k e u (is_plain_name s y named) least le goes =
    let same = marked note m.LeftParen x (same_is _ _ goes) in (
      12,
      call (join s here) implied (kept note y s) no_expressions,
      sign note ")" here ∷ [],
      le,
      subst (λ (z : Lexeme). Spells note 12 (call (join s here) implied (kept note y s) no_expressions) (chosen_word note y s ∷ z ∷ sign note ")" here ∷ [])) (sym same)
          (is_own_call s x.span here y no_expressions [] named no_arguments),
    )
goes_inside_begins note x k e u (is_member n a v dot s y sub strong named) least le goes =
    let same = marked note m.LeftParen x (same_is _ _ goes) in
    let tree : Expression = call (join (span_of a) here) (on a dot) (kept note y s) no_expressions in (
      12,
      tree,
      sign note ")" here ∷ [],
      le,
      subst (Spells note 12 tree) (sym (append_assoc v (sign note "." dot ∷ chosen_word note y s ∷ []) (x ∷ sign note ")" here ∷ [])))
          (subst (λ (z : Lexeme). Spells note 12 tree (v ++ sign note "." dot ∷ chosen_word note y s ∷ z ∷ sign note ")" here ∷ [])) (sym same)
          (is_call n a dot s x.span here y no_expressions v [] sub strong named no_arguments)),
    )
goes_inside_begins note x k e u (is_paren p q n a v sub) least le goes =
    let b = paren_name note n a v sub (join p q) least (lexeme_mark note x) goes in
    name_cast note x p q b.0 b.1 v least b.3 b.2 b.4 b.5
goes_inside_begins note x k e u (is_unary op s n a v prefix sub ten) least le goes =
    let L = goes_either note x n a v sub 10 (omega arith) (λ i. goes_inside_begins note x n a v sub 10 ten i) goes in
    (10, unary (join s (span_of L.1)) (kept note op s) L.1, L.2, le, is_unary op s L.0 L.1 (v ++ x ∷ L.2) prefix L.4 L.3)
goes_inside_begins note x k e u (is_binary op s n l r i j a b v w is left enough right more) least le goes =
    let rule = operator_strength note op n l r is in
    let last : right_of (operator_mark op) ≤ j = omega arith in
    let L = goes_either note x j b w right (right_of (operator_mark op)) (omega arith) (λ i. goes_inside_begins note x j b w right (right_of (operator_mark op)) last i) goes in
    let tree : Expression = binary (join (span_of a) (span_of L.1)) (kept note op s) a L.1 in (
      n,
      tree,
      L.2,
      le,
      subst (Spells note n tree) (sym (append_assoc v (chosen_sign note op s ∷ w) (x ∷ L.2)))
          (is_binary op s n l r i L.0 a L.1 v (w ++ x ∷ L.2) is left enough L.4 (omega (arith, L.3))),
    )
goes_inside_begins note x k e u (is_choose p q i j n c a b t v w first some second last) least le goes =
    let L = goes_either note x n b w last 1 (omega arith) (λ i. goes_inside_begins note x n b w last 1 (some_strength note n b w last) i) goes in
    let tree : Expression = choose (join (span_of c) (span_of L.1)) c p a L.1 in (
      1,
      tree,
      L.2,
      le,
      subst (Spells note 1 tree)
          (sym (append_assoc t (sign note "?" p ∷ (v ++ sign note ":" q ∷ w)) (x ∷ L.2) ∙ ap (λ (z : List Lexeme). t ++ sign note "?" p ∷ z) (append_assoc v (sign note ":" q ∷ w) (x ∷ L.2))))
          (is_choose p q i j L.0 c a L.1 t v (w ++ x ∷ L.2) first some second L.4),
    )
goes_inside_begins note x k e u (is_cast p q t n a v w is sub ten before) least le goes =
    let L = goes_either note x n a w sub 10 (omega arith) (λ i. goes_inside_begins note x n a w sub 10 ten i) goes in
    let tree : Expression = cast (join p (span_of L.1)) t L.1 in (
      10,
      tree,
      L.2,
      le,
      subst (Spells note 10 tree) (ap (λ (z : List Lexeme). sign note "(" p ∷ z) (sym (append_assoc v (sign note ")" q ∷ w) (x ∷ L.2))))
          (is_cast p q t L.0 L.1 v (w ++ x ∷ L.2) is L.4 L.3 (still_cast t w (x ∷ L.2) before)),
    )
goes_inside_begins note x k e u (is_instance_of s n a t v w sub seven is) least le goes =
    let parts = and_parts (not t.array) (same_mark (lexeme_mark note x) m.LeftBracket) goes in
    let L = longer_type note x t w is parts.0 (same_is _ _ parts.1) in
    let tree : Expression = instance_of (join (span_of a) L.0.span) a L.0 in (
      7,
      tree,
      L.1,
      le,
      subst (Spells note 7 tree) (sym (append_assoc v (word note "instanceof" s ∷ w) (x ∷ L.1))) (is_instance_of s n a L.0 v (w ++ x ∷ L.1) sub seven L.2),
    )
goes_inside_begins note x k e u _ least le goes = absurd cc

pub goes_on_begins : (note : Bool) (least k : ℕ) (e : Expression) (u : List Lexeme) (x : Lexeme) → Spells note k e u → least ≤ k → 1 ≤ least
    → goes_on least e (lexeme_mark note x) ≡ true → (n : ℕ) × (e' : Expression) × (more : List Lexeme) × (least ≤ n) × Spells note n e' (u ++ x ∷ more)
goes_on_begins note least k e u x s le one goes = goes_either note x k e u s least one (λ i. goes_inside_begins note x k e u s least le i) goes
