-- Leaves of the tree, as moves.
use Rattle.std.proofs.Common.{◌≡◌, ℕ, suc, ◌<◌, Bool, true, false, List, [], ◌∷◌, length, get_or, ℤ, pos, Some, None, Result, IfOk, slice_get, refl, sym, ap, ◌∙◌, subst, arith}
use Rattle.std.proofs.lemmas.Option.{slice_get-get_or}
use Rattle.jesc_cert.specs.declared.cert.CertKind.TheVariants.{S, C, M}
use Rattle.std.proofs.lemmas.Result.{IfOk-weaker}
use Rattle.jesc_text.specs.declared.list.OutOfMemory.{OutOfMemory}
use Rattle.jesc_cert.specs.declared.cert.CertLine.{CertLine}
use Rattle.jesc_accept.proofs.SameLines.{of_line}
use Rattle.jesc_accept.specs.declared.tables.Tables.{Tables}
use Rattle.jesc_accept.specs.declared.tree.Tree.{Tree}
use Rattle.jesc_accept.specs.Branches.{Branch}
use Rattle.jesc_accept.specs.Moves.{State, branches, Moves, atom, congruence, linear, step, last, split, clause, lemma}
use Rattle.jesc_accept.specs.States.{AreFalseIn, Closes, Splits, TakesLeaf, line_of, tree_state}

-- what is read at a place stands there
pub stands : {X : Type 0} (xs ys : List X) (x y : X) (i k : ℕ) → ys ≡ xs → y ≡ x → y ≡ get_or ys i y → i ≡ k → k < length xs → slice_get xs k ≡ Some x
stands xs ys x y i k s e r same within =
    let read : get_or xs k x ≡ x = cc in
    slice_get-get_or xs k x within ∙ ap Some read

module _ (tables : Tables) (old new : Tree) (number : ℤ) (k : ℕ) (same : number ≡ pos k) (closes : Closes old new) (literals : List ℤ) (are : AreFalseIn old literals) where
  -- a leaf by a clause
  pub clause_leaf : slice_get tables.clauses.now.clauses k ≡ Some literals → Moves tables.clauses.now (tree_state tables old) (line_of C (number ∷ [])) (tree_state tables new)
  clause_leaf there =
      subst (λ (ends : List Branch). Moves tables.clauses.now (tree_state tables old) (line_of C (number ∷ [])) (record (tree_state tables new) { ends = ends })) (sym (closes are.0 are.1 are.2.0))
      (clause (tree_state tables old) (line_of C (number ∷ [])) k are.0 are.1 literals refl refl (ap (λ n. n ∷ []) same) are.2.0 there are.2.1)

  -- a leaf by a lemma
  pub lemma_leaf : slice_get tables.lemmas k ≡ Some (Some literals) → Moves tables.clauses.now (tree_state tables old) (line_of M (number ∷ [])) (tree_state tables new)
  lemma_leaf there =
      subst (λ (ends : List Branch). Moves tables.clauses.now (tree_state tables old) (line_of M (number ∷ [])) (record (tree_state tables new) { ends = ends })) (sym (closes are.0 are.1 are.2.0))
      (lemma (tree_state tables old) (line_of M (number ∷ [])) k are.0 are.1 literals refl refl (ap (λ n. n ∷ []) same) are.2.0 there are.2.1)

-- a list of one element is that alone
pub lone : {X : Type 0} (xs ys : List X) (d x : X) → x ≡ get_or xs 0 d → xs ≡ ys → length xs ≡ 1 → x ∷ [] ≡ ys
lone [] ys d x r e l = absurd (omega (arith, l))
lone (z ∷ []) ys d x r e l = cc
lone (z ∷ y ∷ xs) ys d x r e l = absurd (omega (arith, l))

-- what a split does is what its line does
pub split_leaf : (tables : Tables) (old new : Tree) (number : ℤ) (b : Bool) → Splits old number new b → TakesLeaf tables old (line_of S (number ∷ [])) new b
split_leaf tables old new number true s =
    subst (λ (ends : List Branch). Moves tables.clauses.now (tree_state tables old) (line_of S (number ∷ [])) (record (tree_state tables new) { ends = ends })) (sym s.3.1.1.1)
    (split (tree_state tables old) (line_of S (number ∷ [])) s.0 s.1 s.2 refl refl (ap (λ n. n ∷ []) s.3.0) s.3.1.0 s.3.1.1.0)
split_leaf tables old new number false s = λ t move. no_split (tree_state tables old) (line_of S (number ∷ [])) t move number refl refl s
  where
    no_split : (from : State) (line : CertLine) (t : State) → Moves tables.clauses.now from line t → (number : ℤ) → line.kind ≡ S → line.numbers ≡ number ∷ []
        → ((a : ℕ) (b : Branch) (rest : List Branch) → number ≡ pos (suc a) → branches from ≡ b ∷ rest → slice_get b a ≡ Some None → ⊥) → ⊥
    no_split _ _ _ (atom _ _ _ _ _ k _ _ _ _) number e n none = cc
    no_split _ _ _ (congruence _ _ _ _ _ _ _ k _ _) number e n none = cc
    no_split _ _ _ (linear _ _ _ _ _ _ _ k _ _ _) number e n none = cc
    no_split _ _ _ (step _ _ _ _ _ k _ _ _ _) number e n none = cc
    no_split _ _ _ (last _ _ _ _ k _ _ _ _ _) number e n none = cc
    no_split _ _ _ (split _ _ a b rest _ _ m o f) number e n none = none a b rest (cc) o f
    no_split _ _ _ (clause _ _ _ _ _ _ _ k _ _ _ _) number e n none = cc
    no_split _ _ _ (lemma _ _ _ _ _ _ _ k _ _ _ _) number e n none = cc

-- and so with the line itself
pub split_line : (tables : Tables) (old new : Tree) (line : CertLine) (number : ℤ) (r : Result Bool OutOfMemory) → IfOk r (Splits old number new) → line.kind ≡ S → number ∷ [] ≡ line.numbers → IfOk r (TakesLeaf tables old line new)
split_line tables old new line number r s kind numbers =
    of_line (λ (l : CertLine). IfOk r (TakesLeaf tables old l new)) line S (number ∷ []) kind numbers (IfOk-weaker r (Splits old number new) (TakesLeaf tables old (line_of S (number ∷ [])) new) (λ b t. split_leaf tables old new number b t) s)
