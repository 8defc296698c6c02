-- Arguments that fit, from one to the next.
use Rattle.std.proofs.Common.{◌≡◌, ℕ, suc, ◌+◌, ◌<◌, ◌≤◌, Bool, true, false, cond, List, Result, Ok, Err, [], ◌∷◌, length, get_or, map, drop, arith, refl, ap, sym, ◌∙◌, subst}
use Rattle.std.proofs.Math.Seq.{drop-cons}
use Rattle.std.proofs.lemmas.List.{get_or-map}
use Rattle.std.specs.Result.{IsErrAnd}
use Rattle.std.proofs.lemmas.Result.{err_from_is_err_and}
use Rattle.std.proofs.Math.ListN.{drop_of_length-le}
use Rattle.jesc_ast.specs.declared.expr.Expr.{Expr}
use Rattle.jesc_ast.specs.Expressions.{span_of}
use Rattle.jesc_ast.specs.Lines.{place_at}
use Rattle.jesc_ast.specs.Trees as ast
use Rattle.jesc_classes.specs.Answers.{Answers, Checked, Refusal, refusal}
use Rattle.jesc_classes.specs.declared.rule.Rule.TheVariants.{Y1}
use Rattle.jesc_operands.specs.Deciding.{fits}
use Rattle.jesc_sites.specs.Parts.{first_word, type_of}
use Rattle.jesc_tree.specs.declared.expr.TExpr.{TExpr}
use Rattle.jesc_classes.specs.declared.rule.RuleError.{RuleError}
use Rattle.jesc_classes.specs.declared.rule.RuleError.TheVariants.{Refused, Limit, OutOfMemory}
use Rattle.jesc_tree.specs.declared.class.Class.{Class}
use Rattle.jesc_tree.specs.declared.class.Param.{Param}
use Rattle.jesc_tree.specs.Trees.{Expression, view}
use Rattle.jesc_references.specs.Calls.{argument_fits, arguments_fit}

module _ (classes : List Class) (lines : List ℕ) where
  -- the arguments from that one on
  abbrev pub from : ℕ → List Expression → List Param → List ast.Expression → Checked (Unit {0})
  from i xs ps es = arguments_fit classes lines (drop i xs) (drop i ps) (drop i es)

  no_params : (x : Expression) (xs : List Expression) (es : List ast.Expression) → arguments_fit classes lines (x ∷ xs) [] es ≡ Ok tt
  no_params x xs es = refl

  no_trees : (x : Expression) (xs : List Expression) (ps : List Param) → arguments_fit classes lines (x ∷ xs) ps [] ≡ Ok tt
  no_trees x xs [] = refl
  no_trees x xs (p ∷ ps) = refl

  pub step : (xs : List Expression) (ps : List Param) (es : List ast.Expression) (i : ℕ) (x : Expression) (p : Param) (e : ast.Expression) → i < length xs → i < length ps → i < length es
      → from i xs ps es ≡ argument_fits classes lines (get_or xs i x) (get_or ps i p) (get_or es i e) (from (i + 1) xs ps es)
  step xs ps es i x p e h k l =
      let next : suc i ≡ i + 1 = omega arith in
      ap (λ r. arguments_fit classes lines r (drop i ps) (drop i es)) (drop-cons xs i x h)
      ∙ (ap (λ r. arguments_fit classes lines (get_or xs i x ∷ drop (suc i) xs) r (drop i es)) (drop-cons ps i p k)
      ∙ (ap (λ r. arguments_fit classes lines (get_or xs i x ∷ drop (suc i) xs) (get_or ps i p ∷ drop (suc i) ps) r) (drop-cons es i e l)
      ∙ ap (λ n. argument_fits classes lines (get_or xs i x) (get_or ps i p) (get_or es i e) (from n xs ps es)) next))

  pub params_end : (xs : List Expression) (ps : List Param) (es : List ast.Expression) (i : ℕ) (x : Expression) → i < length xs → length ps ≤ i → from i xs ps es ≡ Ok tt
  params_end xs ps es i x h k =
      ap (λ r. arguments_fit classes lines r (drop i ps) (drop i es)) (drop-cons xs i x h)
      ∙ (ap (λ r. arguments_fit classes lines (get_or xs i x ∷ drop (suc i) xs) r (drop i es)) (drop_of_length-le ps k)
      ∙ no_params (get_or xs i x) (drop (suc i) xs) (drop i es))

  pub trees_end : (xs : List Expression) (ps : List Param) (es : List ast.Expression) (i : ℕ) (x : Expression) → i < length xs → length es ≤ i → from i xs ps es ≡ Ok tt
  trees_end xs ps es i x h k =
      ap (λ r. arguments_fit classes lines r (drop i ps) (drop i es)) (drop-cons xs i x h)
      ∙ (ap (λ r. arguments_fit classes lines (get_or xs i x ∷ drop (suc i) xs) (drop i ps) r) (drop_of_length-le es k)
      ∙ no_trees (get_or xs i x) (drop (suc i) xs) (drop i ps))

  pub all_end : (xs : List Expression) (ps : List Param) (es : List ast.Expression) (i : ℕ) → length xs ≤ i → from i xs ps es ≡ Ok tt
  all_end xs ps es i k = ap (λ r. arguments_fit classes lines r (drop i ps) (drop i es)) (drop_of_length-le xs k)

-- an argument that doesn't fit is refused whatever comes behind it
chosen_error : (b : Bool) (error : RuleError) (refused rest : Checked (Unit {0})) → Answers {A = Unit {0}} (Err error) (cond b (Ok tt) refused) → Answers {A = Unit {0}} (Err error) (cond b rest refused)
chosen_error false error refused rest h = h
chosen_error true (Refused n p w) refused rest h = cc
chosen_error true (Limit n k) refused rest h = absurd h
chosen_error true OutOfMemory refused rest h = tt

-- and one that fits lets the rest decide
chosen_rest : (b : Bool) (r : Refusal) (rest : Checked (Unit {0})) → cond {A = Checked (Unit {0})} b (Ok tt) (Err r) ≡ Ok tt → cond {A = Checked (Unit {0})} b rest (Err r) ≡ rest
chosen_rest true r rest h = refl
chosen_rest false r rest h = cc

length_mapped : {A B : Type 0} (f : A → B) (xs : List A) → length (map f xs) ≡ length xs
length_mapped f [] = refl
length_mapped f (x ∷ xs) = ap suc (length_mapped f xs)

mapped_at : {A B : Type 0} (f : A → B) (xs : List A) (i : ℕ) (x : A) → x ≡ get_or xs i x → i < length xs → get_or (map f xs) i (f x) ≡ f x
mapped_at f xs i x is h = get_or-map f xs i x (f x) h ∙ ap f (sym is)

within : {A B : Type 0} (f : A → B) (xs : List A) (i : ℕ) → i < length xs → i < length (map f xs)
within f xs i h = subst (λ n. i < n) (sym (length_mapped f xs)) h

beyond : {A B : Type 0} (f : A → B) (xs : List A) (i : ℕ) → length xs ≤ i → length (map f xs) ≤ i
beyond f xs i h = subst (λ n. n ≤ i) (sym (length_mapped f xs)) h

-- the same over the program's trees
module _ (classes : List Class) (lines : List ℕ) (args : List TExpr) (ps : List Param) (trees : List Expr) (i : ℕ) where
  abbrev pub rest_from : ℕ → Checked (Unit {0})
  rest_from k = from classes lines k (map view args) ps (map ast.view trees)

  pub step_at : (x : TExpr) (p : Param) (e : Expr) → x ≡ get_or args i x → p ≡ get_or ps i p → e ≡ get_or trees i e → i < length args → i < length ps → i < length trees
      → rest_from i ≡ argument_fits classes lines (view x) p (ast.view e) (rest_from (i + 1))
  step_at x p e xi pi ei h k l =
      step classes lines (map view args) ps (map ast.view trees) i (view x) p (ast.view e) (within view args i h) k (within ast.view trees i l)
      ∙ (ap (λ g. argument_fits classes lines g (get_or ps i p) (get_or (map ast.view trees) i (ast.view e)) (rest_from (i + 1))) (mapped_at view args i x xi h)
      ∙ (ap (λ g. argument_fits classes lines (view x) g (get_or (map ast.view trees) i (ast.view e)) (rest_from (i + 1))) (sym pi)
      ∙ ap (λ g. argument_fits classes lines (view x) p g (rest_from (i + 1))) (mapped_at ast.view trees i e ei l)))

  pub no_parameter : (x : TExpr) → i < length args → length ps ≤ i → rest_from i ≡ Ok tt
  no_parameter x h k = params_end classes lines (map view args) ps (map ast.view trees) i (view x) (within view args i h) k

  pub no_tree : (x : TExpr) → i < length args → length trees ≤ i → rest_from i ≡ Ok tt
  no_tree x h k = trees_end classes lines (map view args) ps (map ast.view trees) i (view x) (within view args i h) (beyond ast.view trees i k)

pub refuses : (classes : List Class) (lines : List ℕ) (x : Expression) (p : Param) (e : ast.Expression) (rest : Checked (Unit {0})) (r : Result (Unit {0}) RuleError) (error : RuleError) → IsErrAnd r (λ y. y ≡ error)
    → Answers {A = Unit {0}} (Err error) (argument_fits classes lines x p e (Ok tt)) → Answers r (argument_fits classes lines x p e rest)
refuses classes lines x p e rest r error h a =
    let q = err_from_is_err_and r h in
    subst (λ (s : Result (Unit {0}) RuleError). Answers s (argument_fits classes lines x p e rest)) (sym (q.1 ∙ ap Err q.2))
    (chosen_error (fits classes (type_of x) p.ty) error (Err (refusal Y1 (place_at lines (span_of e)) (first_word e))) rest a)

pub goes_on : (classes : List Class) (lines : List ℕ) (x : Expression) (p : Param) (e : ast.Expression) (rest : Checked (Unit {0})) → argument_fits classes lines x p e (Ok tt) ≡ Ok tt → argument_fits classes lines x p e rest ≡ rest
goes_on classes lines x p e rest h = chosen_rest (fits classes (type_of x) p.ty) (refusal Y1 (place_at lines (span_of e)) (first_word e)) rest h
