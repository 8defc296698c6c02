-- Tables of names that were met before.
use Rattle.std.proofs.Common.{◌≡◌, ℕ, zero, suc, ◌<◌, Bool, true, false, ◌||◌, cond, List, [], ◌∷◌, ◌++◌, map, length, Option, Some, None, Err, inl, inr, refl, ap, sym, ◌∙◌, arith, true≢false, bytes_eq, nat_eq, not, if◌then◌else◌, eqb-true, eq-eqb}
use Rattle.std.specs.List.{list_any, Contains, slice_index_or}
use Rattle.std.specs.Option.{is_some}
use Rattle.std.proofs.lemmas.List.{map-append}
use Rattle.jesc_ast.specs.Lines.{place_at}
use Rattle.jesc_ast.specs.declared.word.Word.{Word}
use Rattle.jesc_ast.specs.declared.class.ParamTree.{ParamTree}
use Rattle.jesc_ast.specs.declared.class.ConstructorTree.{ConstructorTree}
use Rattle.jesc_classes.specs.declared.rule.Rule.{Rule}
use Rattle.jesc_classes.specs.declared.rule.Rule.TheVariants.{N2, N6, N7, N9}
use Rattle.jesc_classes.specs.declared.rule.RuleError.{RuleError}
use Rattle.jesc_classes.specs.declared.rule.RuleError.TheVariants.{Refused}
use Rattle.jesc_classes.specs.Headings.{Source, refusal_at}
use Rattle.jesc_classes.specs.Named.{Named, find}
use Rattle.jesc_members.specs.Fields.{has}
use Rattle.jesc_members.specs.Groups.{NamesModel}
use Rattle.jesc_member_rules.specs.Judging.{AreNames, Decides}
use Rattle.jesc_member_rules.specs.Members.{Breaks, Holds, Judges, parameter_name, represented, constructor_name, constructor_stands, has_as_many}
use Rattle.jesc_member_rules.proofs.JudgingWalk.{broken, decides_if}

some_if : (b : Bool) (v : ℕ) (o : Option ℕ) → is_some (cond b (Some v) o) ≡ (b || is_some o)
some_if true v o = refl
some_if false v o = refl

pub find_any : {X : Type 0} (name : List ℕ) (text : X → List ℕ) (table : List (Named ℕ)) (items : List X) → AreNames text items table → is_some (find name table) ≡ list_any (λ x. bytes_eq name (text x)) items
find_any name text [] [] e = refl
find_any name text [] (x ∷ xs) e = cc
find_any name text (t ∷ ts) [] e = cc
find_any name text (t ∷ ts) (x ∷ xs) e =
    let head : t.0 ≡ text x = cc in
    let tail : map (λ (p : Named ℕ). p.0) ts ≡ map text xs = cc in
    some_if (bytes_eq name t.0) t.1 (find name ts)
    ∙ ap (λ k. bytes_eq name k || is_some (find name ts)) head
    ∙ ap (λ r. bytes_eq name (text x) || r) (find_any name text ts xs tail)

-- one more name in the table
pub more_names : {X : Type 0} (text : X → List ℕ) (table : List (Named ℕ)) (items : List X) (x : X) (name : List ℕ) (v : ℕ) → AreNames text items table → name ≡ text x → AreNames text (items ++ x ∷ []) (table ++ (name, v) ∷ [])
more_names text table items x name v e is =
    map-append (λ (p : Named ℕ). p.0) table ((name, v) ∷ [])
    ∙ ap (λ l. l ++ name ∷ []) e
    ∙ ap (λ n. map text items ++ n ∷ []) is
    ∙ sym (map-append text items (x ∷ []))

module _ (given : List Source) (s : Source) where
  module _ (before : List ParamTree) (p : ParamTree) (names : List (Named ℕ)) (name : List ℕ) (are : AreNames (λ q. q.name.text) before names) (is : name ≡ p.name.text) where
    among : (o : Option ℕ) → o ≡ find name names → list_any (λ q. bytes_eq p.name.text q.name.text) before ≡ is_some o
    among o e = sym (ap (λ k. list_any (λ q. bytes_eq k q.name.text) before) is) ∙ sym (find_any name (λ q. q.name.text) names before are) ∙ ap (λ (x : Option ℕ). is_some x) (sym e)

    pub repeated_parameter : (v : ℕ) (e : RuleError) → Some v ≡ find name names → e ≡ Refused N2 (place_at s.lines p.name.span) p.name.text → Judges {A = Unit {0}} given (Err e) (parameter_name s before p ∷ [])
    repeated_parameter v e there refused = broken given (parameter_name s before p) N2 (place_at s.lines p.name.span) p.name.text e refused (among (Some v) there, refl)

    pub fresh_parameter : None ≡ find name names → Holds given (parameter_name s before p)
    fresh_parameter none r b = true≢false (sym b.0 ∙ among None none)

  module _ (class : ℕ) (w : Word) where
    pub in_interface : (before : List Word) (e : RuleError) → s.tree.is_interface ≡ true → e ≡ Refused N7 (place_at s.lines w.span) w.text → Judges {A = Unit {0}} given (Err e) (represented class s before w ∷ [])
    in_interface before e inside refused = broken given (represented class s before w) N7 (place_at s.lines w.span) w.text e refused (inl inside, refl)

    module _ (before : List Word) (names : List (Named ℕ)) (name : List ℕ) (are : AreNames (λ q. q.text) before names) (is : name ≡ w.text) where
      among_words : (o : Option ℕ) → o ≡ find name names → has w.text before ≡ is_some o
      among_words o e = sym (ap (λ k. list_any (λ q. bytes_eq k q.text) before) is) ∙ sym (find_any name (λ q. q.text) names before are) ∙ ap (λ (x : Option ℕ). is_some x) (sym e)

      pub repeated_clause : (v : ℕ) (e : RuleError) → Some v ≡ find name names → e ≡ Refused N7 (place_at s.lines w.span) w.text → Judges {A = Unit {0}} given (Err e) (represented class s before w ∷ [])
      repeated_clause v e there refused = broken given (represented class s before w) N7 (place_at s.lines w.span) w.text e refused (inr (inl (among_words (Some v) there)), refl)

      pub fresh_clause : (model : Bool) (o : Option Rule) → s.tree.is_interface ≡ false → None ≡ find name names
          → (model ≡ true → (g : ℕ) × NamesModel given class w.text g) × (((g : ℕ) × NamesModel given class w.text g) → model ≡ true)
          → o ≡ (if not model then Some N7 else None) → Decides given (represented class s before w) (place_at s.lines w.span) w.text o
      fresh_clause model o no_interface none means out =
          decides_if given (represented class s before w) (place_at s.lines w.span) w.text N7 (not model) o out
          (λ t. (inr (inr (λ k. true≢false (sym (means.1 k) ∙ not_true model t))), refl))
          (λ t r b. elim b.0 [
            | inl yes_interface ↦ true≢false (sym yes_interface ∙ no_interface)
            | inr other ↦ elim other [
              | inl old ↦ true≢false (sym old ∙ among_words None none)
              | inr never ↦ never (means.0 (not_false model t))
            ]
          ])
        where
          not_true : (b : Bool) → not b ≡ true → b ≡ false
          not_true true e = cc
          not_true false e = refl

          not_false : (b : Bool) → not b ≡ false → b ≡ true
          not_false true e = refl
          not_false false e = cc

-- ---- counts

there_step : {X : Type 0} (n : ℕ) (f : X → ℕ) (x : X) (xs : List X) (b : Bool) → nat_eq n (f x) ≡ b → (list_any (nat_eq n) (map f xs) ≡ true → (d : X) × Contains xs d × (f d ≡ n)) → (b || list_any (nat_eq n) (map f xs)) ≡ true → (d : X) × Contains (x ∷ xs) d × (f d ≡ n)
there_step n f x xs true same later t = (x, (0, omega arith, refl), sym (eqb-true n (f x) same))
there_step n f x xs false same later t = let k = later t in (k.0, (suc k.1.0, omega (arith, k.1.1), k.1.2), k.2)

count_there : {X : Type 0} (n : ℕ) (f : X → ℕ) (xs : List X) → list_any (nat_eq n) (map f xs) ≡ true → (d : X) × Contains xs d × (f d ≡ n)
count_there n f [] e = cc
count_there n f (x ∷ xs) e = there_step n f x xs (nat_eq n (f x)) refl (count_there n f xs) e

absent_step : {X : Type 0} (n : ℕ) (f : X → ℕ) (x d : X) (xs : List X) (b : Bool) → nat_eq n (f x) ≡ b → (list_any (nat_eq n) (map f xs) ≡ false → Contains xs d → ⊥) → (b || list_any (nat_eq n) (map f xs)) ≡ false → f d ≡ n → (k : ℕ) → k < suc (length xs) → slice_index_or (x ∷ xs) k d ≡ d → ⊥
absent_step n f x d xs true same later t is k l at = true≢false t
absent_step n f x d xs false same later t is zero l at = true≢false (sym (eq-eqb n (f x) (sym is ∙ ap f (sym at))) ∙ same)
absent_step n f x d xs false same later t is (suc k) l at = later t (k, omega (arith, l), at)

count_absent : {X : Type 0} (n : ℕ) (f : X → ℕ) (xs : List X) (d : X) → list_any (nat_eq n) (map f xs) ≡ false → f d ≡ n → Contains xs d → ⊥
count_absent n f [] d e is c = absurd (omega (arith, c.1))
count_absent n f (x ∷ xs) d e is c = absent_step n f x d xs (nat_eq n (f x)) refl (λ t k. count_absent n f xs d t is k) e is c.0 c.1 c.2

module _ (given : List Source) (s : Source) (before : List ConstructorTree) (c : ConstructorTree) where
  pub repeated_count : list_any (nat_eq (length c.params)) (map (λ d. length d.params) before) ≡ true → Breaks given (constructor_name s before c) (refusal_at N6 s c.name)
  repeated_count t = inl (count_there (length c.params) (λ (d : ConstructorTree). length d.params) before t, refl)

  pub fresh_count : (o : Option Rule) → list_any (nat_eq (length c.params)) (map (λ d. length d.params) before) ≡ false → o ≡ (if not (constructor_stands s c) then Some N9 else None) → Decides given (constructor_name s before c) (place_at s.lines c.name.span) c.name.text o
  fresh_count o t out =
      let absent : ((d : ConstructorTree) × Contains before d × has_as_many c d) → ⊥ = λ k. count_absent (length c.params) (λ (d : ConstructorTree). length d.params) before k.0 t k.2 k.1 in
      decides_if given (constructor_name s before c) (place_at s.lines c.name.span) c.name.text N9 (not (constructor_stands s c)) o out
      (λ e. inr (absent, inl (false_of (constructor_stands s c) e, refl)))
      (λ e r b. elim b [
        | inl k ↦ absent k.0
        | inr k ↦ elim k.1 [
          | inl m ↦ true≢false (sym (true_of (constructor_stands s c) e) ∙ m.0)
          | inr m ↦ m.1
        ]
      ])
    where
      false_of : (b : Bool) → not b ≡ true → b ≡ false
      false_of true e = cc
      false_of false e = refl

      true_of : (b : Bool) → not b ≡ false → b ≡ true
      true_of true e = refl
      true_of false e = cc
