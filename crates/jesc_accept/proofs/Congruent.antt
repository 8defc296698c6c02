-- A lemma of congruence is true where alike applications have the same number.
use Rattle.std.proofs.Common.{◌≡◌, ℕ, Bool, true, false, List, [], ◌∷◌, map, ℤ, pos, ◌⊎◌, inl, inr, Option, Some, None, refl, sym, ap, ◌∙◌, arith}
use Rattle.std.proofs.lemmas.Int.{ints}
use Rattle.std.proofs.lemmas.List.Folds.{list_any-append}
use Rattle.std.proofs.Math.Bool.{not-not}
use Rattle.std.proofs.Math.IntN.{◌+ℤ◌, ◌*ℤ◌}
use Rattle.std.specs.Prelude.{◌≤ℤ◌, ◌<ℤ◌, ◌||◌, not, int_le}
use Rattle.std.specs.List.{list_any}
use Rattle.std.specs.Option.{option_map}
use Rattle.jesc_clauses.specs.declared.atom.Atom.{Atom}
use Rattle.jesc_clauses.specs.declared.lin.Lin.{Lin}
use Rattle.jesc_clauses.specs.declared.clause.Clauses.{Clauses}
use Rattle.jesc_clauses.specs.declared.normal.Normal.{Normal}
use Rattle.jesc_clauses.specs.declared.normal.Normal.TheVariants as normal
use Rattle.jesc_clauses.specs.declared.builder.Truth.{Truth}
use Rattle.jesc_clauses.specs.declared.builder.Truth.TheVariants.{Constant, Literal}
use Rattle.jesc_clauses.specs.Builders.{turned, is_true}
use Rattle.jesc_clauses.specs.Countermodels.{lin_value, is_met_some, is_unmet_some, is_true_literal, is_true_clause, IsCountermodel}
use Rattle.jesc_clauses.specs.Normals.{is_met, is_so}
use Rattle.jesc_clauses.proofs.Exact.{normal_exact}
use Rattle.jesc_clauses.proofs.Comparing.{compared}
use Rattle.jesc_accept.specs.Lemmas.{ReadsNormal, ReadsAtMost, one, Differ, IsCongruence, literals_of}
use Rattle.jesc_accept.proofs.Rows.{or_left, or_right, le_or_more, le_true, more_false}

-- ---- what comparisons that are read say

reads_so : (v : ℕ → ℤ) (atoms : List Atom) (n : Normal) (t : Truth) → ReadsNormal atoms n t → is_true v atoms t ≡ is_so v n
reads_so v atoms (normal.Constant c) t h = ap (is_true v atoms) h
reads_so v atoms (normal.Holds atom) t h = ap (is_true v atoms) h.1.1 ∙ ap (is_met_some v) h.1.0.there
reads_so v atoms (normal.Fails atom) t h = ap (is_true v atoms) h.1.1 ∙ ap (is_unmet_some v) h.1.0.there

reads_not : (v : ℕ → ℤ) (atoms : List Atom) (n : Normal) (t : Truth) → ReadsNormal atoms n t → is_true v atoms (turned t) ≡ not (is_so v n)
reads_not v atoms (normal.Constant c) t h = ap (λ u. is_true v atoms (turned u)) h
reads_not v atoms (normal.Holds atom) t h = ap (λ u. is_true v atoms (turned u)) h.1.1 ∙ ap (is_unmet_some v) h.1.0.there
reads_not v atoms (normal.Fails atom) t h = ap (λ u. is_true v atoms (turned u)) h.1.1 ∙ (ap (is_met_some v) h.1.0.there ∙ sym (not-not (is_met v atom)))

module _ (v : ℕ → ℤ) (atoms : List Atom) (x y : Lin) (t : Truth) (h : ReadsAtMost atoms x y t) where
  normal_says : is_so v h.normal ≡ int_le (lin_value v x) (lin_value v y)
  normal_says = normal_exact v h.is.form _ h.normal h.is.normal_of ∙ compared v x y h.is.form h.is.together

  at_most_says : is_true v atoms t ≡ int_le (lin_value v x) (lin_value v y)
  at_most_says = reads_so v atoms h.normal t h.reads ∙ normal_says

  more_says : lin_value v y <ℤ lin_value v x → is_true v atoms (turned t) ≡ true
  more_says l = reads_not v atoms h.normal t h.reads ∙ ap not (normal_says ∙ more_false (lin_value v x) (lin_value v y) l)

-- ---- arguments

both_at_most : (x y : ℤ) → x ≤ℤ y → y ≤ℤ x → x ≡ y
both_at_most x y p q = omega (arith, ints)

-- one of the truths is true
abbrev pub is_one : (ℕ → ℤ) → List Atom → List Truth → Bool
is_one v atoms truths = list_any (is_true v atoms) truths

-- some argument differs, or all have the same number
differ_or_same : (v : ℕ → ℤ) (atoms : List Atom) (xs ys : List Lin) (truths : List Truth) → Differ atoms xs ys truths → (is_one v atoms truths ≡ true) ⊎ (map (lin_value v) xs ≡ map (lin_value v) ys)
differ_or_same v atoms [] [] truths h = inr refl
differ_or_same v atoms [] (y ∷ ys) truths h = absurd h
differ_or_same v atoms (x ∷ xs) [] truths h = absurd h
differ_or_same v atoms (x ∷ xs) (y ∷ ys) truths (s, t, rest, (first, (second, (others, are)))) = elim (le_or_more (lin_value v x) (lin_value v y)) [
  | inr l ↦ inl (ap (is_one v atoms) are ∙ or_left (is_true v atoms (turned s)) _ (more_says v atoms x y s first l))
  | inl p ↦ elim (le_or_more (lin_value v y) (lin_value v x)) [
    | inr l ↦ inl (ap (is_one v atoms) are ∙ or_right (is_true v atoms (turned s)) _ (or_left (is_true v atoms (turned t)) _ (more_says v atoms y x t second l)))
    | inl q ↦ elim (differ_or_same v atoms xs ys rest others) [
      | inl differs ↦ inl (ap (is_one v atoms) are ∙ or_right (is_true v atoms (turned s)) _ (or_right (is_true v atoms (turned t)) _ differs))
      | inr same ↦ inr (λ i. both_at_most (lin_value v x) (lin_value v y) p q i ∷ same i)
    ]
  ]
]

-- ---- the lemma

one_worth : (v : ℕ → ℤ) (i j : ℕ) → v i ≡ v j → lin_value v (one i) ≤ℤ lin_value v (one j)
one_worth v i j e = let same : lin_value v (one i) ≡ lin_value v (one j) = ap (λ x. pos 1 *ℤ x +ℤ pos 0 +ℤ pos 0) e in omega (arith, ints, same)

pub congruence_holds : (clauses : Clauses) (v : ℕ → ℤ) → IsCountermodel clauses v → (atoms : List Atom) (i j : ℕ) (truths : List Truth) → IsCongruence atoms clauses.terms i j truths → is_one v atoms truths ≡ true
congruence_holds clauses v model atoms i j truths w =
    ap (is_one v atoms) w.are ∙ (list_any-append (is_true v atoms) w.differ (w.last ∷ []) ∙ either (differ_or_same v atoms w.a.args w.b.args w.differ w.arguments))
  where
    at_most : map (lin_value v) w.a.args ≡ map (lin_value v) w.b.args → is_true v atoms w.last ≡ true
    at_most same = at_most_says v atoms (one i) (one j) w.last w.at_most ∙ le_true (lin_value v (one i)) (lin_value v (one j)) (one_worth v i j (model.congruent i j w.a w.b w.first w.second (w.symbol, same)))

    either : (is_one v atoms w.differ ≡ true) ⊎ (map (lin_value v) w.a.args ≡ map (lin_value v) w.b.args) → (is_one v atoms w.differ || is_one v atoms (w.last ∷ [])) ≡ true
    either (inl d) = or_left (is_one v atoms w.differ) (is_one v atoms (w.last ∷ [])) d
    either (inr same) = or_right (is_one v atoms w.differ) (is_one v atoms (w.last ∷ [])) (or_left (is_true v atoms w.last) false (at_most same))

-- ---- its literals

with_literal : (v : ℕ → ℤ) (atoms : List Atom) (k : ℤ) (truths : List Truth) (o : Option (List ℤ)) (literals : List ℤ)
    → ((ks : List ℤ) → o ≡ Some ks → is_one v atoms truths ≡ is_true_clause v atoms ks) → option_map (λ ks. k ∷ ks) o ≡ Some literals → is_one v atoms (Literal k ∷ truths) ≡ is_true_clause v atoms literals
with_literal v atoms k truths None literals rest e = cc
with_literal v atoms k truths (Some ks) literals rest e =
    let same : k ∷ ks ≡ literals = cc in
    ap (λ b. is_true_literal v atoms k || b) (rest ks refl) ∙ ap (is_true_clause v atoms) same

pub literals_say : (v : ℕ → ℤ) (atoms : List Atom) (truths : List Truth) (literals : List ℤ) → literals_of truths ≡ Some literals → is_one v atoms truths ≡ is_true_clause v atoms literals
literals_say v atoms [] literals e = let same : [] ≡ literals = cc in ap (is_true_clause v atoms) same
literals_say v atoms (Constant true ∷ truths) literals e = cc
literals_say v atoms (Constant false ∷ truths) literals e = literals_say v atoms truths literals e
literals_say v atoms (Literal k ∷ truths) literals e = with_literal v atoms k truths (literals_of truths) literals (λ ks q. literals_say v atoms truths ks q) e
