-- A comparison is read as one truth at most, and so a lemma of two terms has one list of truths, and literals one list of rows.
use Rattle.std.proofs.Common.{◌≡◌, ℕ, zero, suc, List, [], ◌∷◌, ◌++◌, ℤ, pos, negsuc, Some, slice_get, inl, inr, refl, sym, ap, ◌∙◌, subst, arith}
use Rattle.std.proofs.lemmas.Bool.{cases_lt}
use Rattle.jesc_linear.specs.declared.rows.Row.{Row}
use Rattle.jesc_clauses.specs.declared.atom.Atom.{Atom}
use Rattle.jesc_clauses.specs.declared.lin.Lin.{Lin}
use Rattle.jesc_clauses.specs.declared.clause.Opaque.{Opaque}
use Rattle.jesc_clauses.specs.declared.normal.Normal.{Normal}
use Rattle.jesc_clauses.specs.declared.normal.Normal.TheVariants as normal
use Rattle.jesc_clauses.specs.declared.builder.Truth.{Truth}
use Rattle.jesc_clauses.specs.declared.builder.Truth.TheVariants.{Literal}
use Rattle.jesc_clauses.specs.Builders.{turned}
use Rattle.jesc_clauses.proofs.OneNormal.{same_comparison}
use Rattle.jesc_accept.specs.Lemmas.{IsFirstOf, ReadsNormal, ReadsAtMost, Differ, IsCongruence, IsRowOf, AreRowsOf}

-- ---- comparisons

one_first : (atoms : List Atom) (atom : Atom) (j k : ℕ) → IsFirstOf atoms atom j → IsFirstOf atoms atom k → j ≡ k
one_first atoms atom j k p q = elim (cases_lt j k) [
  | inl l ↦ absurd (q.first j l p.there)
  | inr l ↦ elim (cases_lt k j) [
    | inl m ↦ absurd (p.first k m q.there)
    | inr m ↦ omega (arith, l, m)
  ]
]

reads_one : (atoms : List Atom) (n : Normal) (t u : Truth) → ReadsNormal atoms n t → ReadsNormal atoms n u → t ≡ u
reads_one atoms (normal.Constant c) t u p q = p ∙ sym q
reads_one atoms (normal.Holds atom) t u p q = p.1.1 ∙ (ap (λ (k : ℕ). Literal (pos (suc k))) (one_first atoms atom p.0 q.0 p.1.0 q.1.0) ∙ sym q.1.1)
reads_one atoms (normal.Fails atom) t u p q = p.1.1 ∙ (ap (λ (k : ℕ). Literal (negsuc k)) (one_first atoms atom p.0 q.0 p.1.0 q.1.0) ∙ sym q.1.1)

one_truth : (atoms : List Atom) (x y : Lin) (t u : Truth) → ReadsAtMost atoms x y t → ReadsAtMost atoms x y u → t ≡ u
one_truth atoms x y t u p q = reads_one atoms q.normal t u (subst (λ (n : Normal). ReadsNormal atoms n t) (same_comparison x y p.normal q.normal p.is q.is) p.reads) q.reads

-- ---- lemmas of congruence

same_differ : (atoms : List Atom) (xs ys : List Lin) (ts us : List Truth) → Differ atoms xs ys ts → Differ atoms xs ys us → ts ≡ us
same_differ atoms [] [] ts us p q = p ∙ sym q
same_differ atoms [] (y ∷ ys) ts us p q = absurd p
same_differ atoms (x ∷ xs) [] ts us p q = absurd p
same_differ atoms (x ∷ xs) (y ∷ ys) ts us (a, b, rest, (first, (second, (others, are)))) (c, d, more, (third, (fourth, (further, they_are)))) =
    let left : a ≡ c = one_truth atoms x y a c first third in
    let right : b ≡ d = one_truth atoms y x b d second fourth in
    let all : rest ≡ more = same_differ atoms xs ys rest more others further in
    are ∙ ((λ i. turned (left i) ∷ turned (right i) ∷ all i) ∙ sym they_are)

same_some : {X : Type 0} (xs : List X) (i : ℕ) (x y : X) → slice_get xs i ≡ Some x → slice_get xs i ≡ Some y → x ≡ y
same_some xs i x y p q = cc

pub same_truths : (atoms : List Atom) (terms : List Opaque) (i j : ℕ) (ts us : List Truth) → IsCongruence atoms terms i j ts → IsCongruence atoms terms i j us → ts ≡ us
same_truths atoms terms i j ts us p q =
    let a : p.a ≡ q.a = same_some terms i p.a q.a p.first q.first in
    let b : p.b ≡ q.b = same_some terms j p.b q.b p.second q.second in
    let differ : p.differ ≡ q.differ = same_differ atoms q.a.args q.b.args p.differ q.differ
    (subst (λ (y : Opaque). Differ atoms q.a.args y.args p.differ) b (subst (λ (x : Opaque). Differ atoms x.args p.b.args p.differ) a p.arguments)) q.arguments in
    let last : p.last ≡ q.last = one_truth atoms _ _ p.last q.last p.at_most q.at_most in
    p.are ∙ ((λ k. differ k ++ last k ∷ []) ∙ sym q.are)

-- ---- lemmas of linear arithmetic

same_row : (atoms : List Atom) (literal : ℤ) (r s : Row) → IsRowOf atoms literal r → IsRowOf atoms literal s → r ≡ s
same_row atoms (pos zero) r s p q = absurd p
same_row atoms (pos (suc k)) r s p q = p.1.1 ∙ (ap (λ (a : Atom). record { form = a.form; bound = a.bound }) (same_some atoms k p.0 q.0 p.1.0 q.1.0) ∙ sym q.1.1)
same_row atoms (negsuc k) r s p q = let e = same_some atoms k p.0 q.0 p.1.0 q.1.0 in let f = p.1.1 in let g = q.1.1 in cc

pub same_rows : (atoms : List Atom) (literals : List ℤ) (rows others : List Row) → AreRowsOf atoms literals rows → AreRowsOf atoms literals others → rows ≡ others
same_rows atoms [] [] [] p q = refl
same_rows atoms [] (r ∷ rs) others p q = absurd p
same_rows atoms [] [] (s ∷ ss) p q = absurd q
same_rows atoms (k ∷ ks) [] others p q = absurd p
same_rows atoms (k ∷ ks) (r ∷ rs) [] p q = absurd q
same_rows atoms (k ∷ ks) (r ∷ rs) (s ∷ ss) p q =
    let first = same_row atoms k r s p.0 q.0 in
    let rest = same_rows atoms ks rs ss p.1 q.1 in
    λ i. first i ∷ rest i
