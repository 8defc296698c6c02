-- What formulas come to, form by form.
use Rattle.std.proofs.Common.{◌≡◌, ℕ, suc, ◌+◌, ◌*◌, ◌<◌, ◌≤◌, ◌^◌, ℤ, pos, List, [], ◌∷◌, ◌++◌, length, Bool, true, false, not, ◌&&◌, ◌||◌, FitsSigned, to_z, of_z, refl, sym, ap, ◌∙◌, subst, arith, length-append, ◌⊎◌, inl, inr}
use Rattle.std.proofs.lemmas.List.{append-nil}
use Rattle.std.proofs.lemmas.Int.{ints, to_z-of_z, fits_signed_from_abs}
use Rattle.std.proofs.Math.IntN.{◌-ℤ◌, ◌*ℤ◌, neg_ℤ}
use Rattle.std.proofs.lemmas.List.Elements.{All-nil, All-cons, All-head, All-tail, All-weaker, All-push}
use Rattle.std.specs.Prelude.{int_le, All, IsTrue}
use Rattle.std.specs.Ordering.{int_eq}
use Rattle.std.specs.Int.{w32}
use Rattle.jesc_linear.specs.Forms.{Form}
use Rattle.jesc_logic.specs.declared.terms.TermId.{TermId}
use Rattle.jesc_logic.specs.Terms.{Term}
use Rattle.jesc_logic.specs.declared.formula.Formula.{Formula}
use Rattle.jesc_logic.specs.declared.formula.FormulaNode.{fold-roll-FormulaNode}
use Rattle.jesc_logic.specs.declared.formula.FormulaNode.TheVariants.{Not, rolls-Not}
use Rattle.jesc_logic.specs.Claims.{Claim, at_most, equal, negation, both, either, over, node_count, shape, node_shape}
use Rattle.jesc_logic.proofs.Shapes.{shape_node}
use Rattle.jesc_logic.specs.Structures.{holds}
use Rattle.jesc_logic.proofs.Lists.{get_last}
use Rattle.jesc_clauses.specs.declared.atom.Atom.{Atom}
use Rattle.jesc_clauses.specs.declared.lin.Lin.{Lin}
use Rattle.jesc_clauses.specs.declared.normal.Normal.{Normal}
use Rattle.jesc_clauses.specs.declared.normal.Normal.TheVariants.{Holds, Fails}
use Rattle.jesc_clauses.specs.declared.normal.Normal.TheVariants.{Constant as Decided}
use Rattle.jesc_clauses.specs.declared.builder.Builder.{Builder}
use Rattle.jesc_clauses.specs.declared.builder.Truth.{Truth}
use Rattle.jesc_clauses.specs.declared.builder.Truth.TheVariants.{Constant, Literal}
use Rattle.jesc_clauses.specs.Countermodels.{is_true_literal, is_true_clause, is_met_some, lin_value}
use Rattle.jesc_clauses.specs.Normals.{scaled, is_met, is_so, IsNormalOf}
use Rattle.jesc_clauses.specs.Comparisons.{IsComparison, IsNarrowNormal, IsWideComparison}
use Rattle.jesc_clauses.specs.Clausified.{IsLiteral, IsScopedAtom}
use Rattle.jesc_clauses.specs.Readings.{Compares}
use Rattle.jesc_clauses.specs.Sums.{IsBelowAll}
use Rattle.jesc_clauses.specs.Readers.{Entries, IsSumAt}
use Rattle.jesc_clauses.specs.Builders.{IsTruth, is_true, turned, AreSums, IsWorth, count_of, IsBuilt, IsExtended, IsAtomPut, IsTold, IsBoth, Tells, IsWideAt, AreNarrowAt}
use Rattle.jesc_clauses.proofs.Merging.{IsUnder}
use Rattle.jesc_clauses.proofs.OneNormal.{never_wide}
use Rattle.jesc_clauses.proofs.Truths.{truth_kept, truth_turned, truth_longer, truth_is_turned, extended_all, extended_on, met_before}

-- ---- steps

pub told_constant : (table : List Term) (b : Builder) (size : ℕ) (truth : Bool) → IsBuilt table b → IsTold table b b size (Constant truth)
told_constant table b size truth h = record { built = h; extended = extended_all b; is = tt; counted = omega arith }

pub told_more : (table : List Term) (b c : Builder) (m n : ℕ) (truth : Truth) → m ≤ n → IsTold table b c m truth → IsTold table b c n truth
told_more table b c m n truth p h = record { built = h.built; extended = h.extended; is = h.is; counted = omega (arith, h.counted, p) }

pub told_on : (old new : List Term) (b c d : Builder) (m n : ℕ) (first truth : Truth) → IsTold old b c m first → IsTold new c d n truth → IsTold new b d (m + n) truth
told_on old new b c d m n first truth h k = record {
  built = k.built;
  extended = extended_on old b c d h.built h.extended k.extended;
  is = k.is;
  counted = omega (arith, h.counted, k.counted);
}

pub told_turned : (table : List Term) (b c : Builder) (size : ℕ) (truth : Truth) → IsTold table b c size truth → IsTold table b c size (turned truth)
told_turned table b c size truth h = record { built = h.built; extended = h.extended; is = truth_is_turned (length c.atoms) truth h.is; counted = h.counted }

-- the truth has a negation
pub can_turn : (table : List Term) (b c : Builder) (size : ℕ) (truth : Truth) → IsTold table b c size truth → (count : ℕ) × (IsTruth count truth × (count < 2 ^ 31))
can_turn table b c size truth h = (length c.atoms, (h.is, h.built.few))

-- ---- what stays under an extension

pub sums_stay : (b c : Builder) (sums : Entries) → IsExtended b c → AreSums b.first sums → AreSums c.first sums
sums_stay b c sums e h = subst (λ (k : ℕ). AreSums k sums) (sym e.first) h

pub truth_stays : (b c : Builder) (t : Truth) → IsExtended b c → IsTruth (length b.atoms) t → IsTruth (length c.atoms) t
truth_stays b c t e h =
    let longer : length b.atoms ≤ length c.atoms = omega (arith, ap length e.atoms, length-append b.atoms e.added_atoms) in
    truth_longer (length b.atoms) (length c.atoms) t longer h

module _ (sums : Entries) where
  pub tells_later : (table : List Term) (b c : Builder) (t : Truth) (f : Claim TermId) → IsBuilt table b → IsExtended b c → IsTruth (length b.atoms) t → Tells sums b t f → Tells sums c t f
  tells_later table b c t f h e is tells v g worth met =
      ap (λ (atoms : List Atom). is_true v atoms t) e.atoms ∙ truth_kept v b.atoms e.added_atoms t is ∙ tells v g worth (met_before table b c h e v met)

  -- ---- forms

  pub tells_negation : (b : Builder) (t : Truth) (f : Claim TermId) → IsTruth (length b.atoms) t → Tells sums b t f → Tells sums b (turned t) (negation f)
  tells_negation b t f is tells v g worth met = truth_turned v b.atoms t is ∙ ap not (tells v g worth met)

  module _ (b : Builder) (first second t : Truth) (is_both : IsBoth b first second t) (f g : Claim TermId) where
    pub tells_both : Tells sums b first f → Tells sums b second g → Tells sums b t (both f g)
    tells_both p q v w worth met = is_both v met ∙ (λ i. p v w worth met i && q v w worth met i)

    pub tells_either : IsTruth (length b.atoms) t → Tells sums b first (negation f) → Tells sums b second (negation g) → Tells sums b (turned t) (either f g)
    tells_either is p q v w worth met =
        truth_turned v b.atoms t is ∙ ap not (is_both v met ∙ (λ i. p v w worth met i && q v w worth met i)) ∙ neither_not (holds (over w f)) (holds (over w g))
      where
        neither_not : (x y : Bool) → not (not x && not y) ≡ (x || y)
        neither_not false false = refl
        neither_not false true = refl
        neither_not true false = refl
        neither_not true true = refl

  pub tells_equal : (b : Builder) (first second t : Truth) → IsBoth b first second t → (x y : TermId) → Tells sums b first (at_most x y) → Tells sums b second (at_most y x) → Tells sums b t (equal x y)
  tells_equal b first second t is_both x y p q v w worth met = is_both v met ∙ (λ i. p v w worth met i && q v w worth met i) ∙ both_orders (w x) (w y)
    where
      both_orders : (m n : ℤ) → (int_le m n && int_le n m) ≡ int_eq m n
      both_orders m n = grind (arith, ints)

-- ---- an atom put in

abbrev with_atom : Builder → Atom → Builder
with_atom b atom = record b { atoms = b.atoms ++ atom ∷ [] }

one_longer : (atoms : List Atom) (atom : Atom) → length (atoms ++ atom ∷ []) ≡ suc (length atoms)
one_longer atoms atom = omega (arith, length-append atoms (atom ∷ []))

put_is : (b c : Builder) (atom : Atom) (k : ℤ) → IsAtomPut b c atom k → c ≡ with_atom b atom
put_is b c atom k p = λ i. record { symbol = p.symbol i; first = p.first i; opaques = p.opaques i; atoms = p.atoms i; clauses = p.clauses i }

literals_stay : (m n : ℕ) → m ≤ n → (clauses : List (List ℤ)) → All (λ literals. All (IsLiteral m) literals) clauses → All (λ literals. All (IsLiteral n) literals) clauses
literals_stay m n p clauses all =
    All-weaker (λ (literals : List ℤ). All (IsLiteral m) literals) (λ (literals : List ℤ). All (IsLiteral n) literals)
    (λ literals h. All-weaker (IsLiteral m) (IsLiteral n) (λ k l. (l.0, omega (arith, l.1, p))) literals h) clauses all

module _ (table : List Term) (b : Builder) (atom : Atom) (built : IsBuilt table b) (scoped : IsScopedAtom (count_of b) atom) where
  atom_built : length (b.atoms ++ atom ∷ []) < 2 ^ 31 → IsBuilt table (with_atom b atom)
  atom_built few = record {
    short = built.short;
    read = built.read;
    few = few;
    each = built.each;
    scoped = record {
      scoped = All-push (IsScopedAtom (count_of b)) b.atoms atom built.scoped.scoped scoped;
      literals = literals_stay (length b.atoms) (length (b.atoms ++ atom ∷ [])) (let e = one_longer b.atoms atom in omega (arith, e)) b.clauses built.scoped.literals;
    };
  }

  atom_extends : IsExtended b (with_atom b atom)
  atom_extends = record {
    symbol = refl;
    first = refl;
    added_opaques = [];
    opaques = sym (append-nil b.opaques);
    added_atoms = atom ∷ [];
    atoms = refl;
    added = [];
    clauses = sym (append-nil b.clauses);
    extends = λ v. (v, ((λ i p. refl), All-nil (λ (literals : List ℤ). IsTrue (is_true_clause v (b.atoms ++ atom ∷ []) literals))));
  }

  atom_told : (truth : Truth) → length (b.atoms ++ atom ∷ []) < 2 ^ 31 → IsTruth (length (b.atoms ++ atom ∷ [])) truth → IsTold table b (with_atom b atom) 1 truth
  atom_told truth few is = record {
    built = atom_built few;
    extended = atom_extends;
    is = is;
    counted = let e = one_longer b.atoms atom in omega (arith, e);
  }

  pub holds_told : (c : Builder) (k : ℤ) → IsAtomPut b c atom k → IsTold table b c 1 (Literal k)
  holds_told c k p =
      subst (λ (d : Builder). IsTold table b d 1 (Literal k)) (sym (put_is b c atom k p))
      (atom_told (Literal k) (subst (λ (atoms : List Atom). length atoms < 2 ^ 31) p.atoms p.few)
      (subst (IsLiteral (length (b.atoms ++ atom ∷ []))) (sym (p.literal ∙ ap (λ (atoms : List Atom). pos (length atoms)) p.atoms))
      (let e = one_longer b.atoms atom in (omega (arith, e), omega arith))))

-- what the atom's literal says
met_last : (v : ℕ → ℤ) (atoms : List Atom) (atom : Atom) → is_true_literal v (atoms ++ atom ∷ []) (pos (suc (length atoms))) ≡ is_met v atom
met_last v atoms atom = ap (is_met_some v) (get_last atoms atom)

pub put_literal : (b c : Builder) (atom : Atom) (k : ℤ) → IsAtomPut b c atom k → (v : ℕ → ℤ) → is_true_literal v c.atoms k ≡ is_met v atom
put_literal b c atom k p v =
    (λ i. is_true_literal v (p.atoms i) (p.literal i)) ∙ ap (λ (atoms : List Atom). is_true_literal v (b.atoms ++ atom ∷ []) (pos (length atoms))) p.atoms
    ∙ ap (λ n. is_true_literal v (b.atoms ++ atom ∷ []) (pos n)) (one_longer b.atoms atom) ∙ met_last v b.atoms atom

-- ---- the atom of a comparison

module _ (n : ℕ) where
  below_scaled : (d : ℤ) (f : Form) → All (IsUnder n) (scaled d f) → All (IsUnder n) f
  below_scaled d [] all = All-nil (IsUnder n)
  below_scaled d (part ∷ f) all =
      All-cons (IsUnder n) part f (All-head (IsUnder n) (d *ℤ part.0, part.1) (scaled d f) all) (below_scaled d f (All-tail (IsUnder n) (d *ℤ part.0, part.1) (scaled d f) all))

  scaled_below : (d : ℤ) (f : Form) → All (IsUnder n) f → All (IsUnder n) (scaled d f)
  scaled_below d [] all = All-nil (IsUnder n)
  scaled_below d (part ∷ f) all = All-cons (IsUnder n) (d *ℤ part.0, part.1) (scaled d f) (All-head (IsUnder n) part f all) (scaled_below d f (All-tail (IsUnder n) part f all))

  -- the normal form's atom is over terms by number below n
  abbrev pub IsScopedNormal : Normal → Type 0
  IsScopedNormal (Decided truth) = Unit {0}
  IsScopedNormal (Holds atom) = IsScopedAtom n atom
  IsScopedNormal (Fails atom) = IsScopedAtom n atom

  scoped_normal : (form : Form) (bound : ℤ) (normal : Normal) → All (IsUnder n) form → IsNormalOf form bound normal → IsNarrowNormal normal → IsScopedNormal normal
  scoped_normal form bound (Decided truth) all h narrow = tt
  scoped_normal form bound (Holds atom) all h narrow = record {
    below = below_scaled h.0 atom.form (subst (λ (f : Form). All (IsUnder n) f) (sym h.1.0.times) all);
    normal = h.1.0.normal;
    narrow = narrow;
  }
  scoped_normal form bound (Fails atom) all h narrow = record {
    below = below_scaled h.0 atom.form (subst (λ (f : Form). All (IsUnder n) f) (sym h.1.0.times) (scaled_below (neg_ℤ (pos 1)) form all));
    normal = h.1.0.normal;
    narrow = narrow;
  }

  pub scoped_comparison : (x y : Lin) (normal : Normal) → IsBelowAll x n → IsBelowAll y n → IsComparison x y normal → IsNarrowNormal normal → IsScopedNormal normal
  scoped_comparison x y normal below_x below_y h narrow = scoped_normal h.form (y.constant -ℤ x.constant) normal (h.together.there n below_x below_y) h.normal_of narrow

-- what the code computes of a literal
same_literal : (n : ℕ) → n < 2 ^ 31 → to_z w32 (of_z w32 (pos n)) ≡ pos n
same_literal n p = to_z-of_z w32 (pos n) (fits_signed_from_abs w32 (pos n) (omega (arith, p)))

other_literal : (n : ℕ) → n < 2 ^ 31 → to_z w32 (of_z w32 (pos 0 -ℤ pos n)) ≡ neg_ℤ (pos n)
other_literal n p = to_z-of_z w32 (pos 0 -ℤ pos n) (let h : FitsSigned w32 (pos 0 -ℤ pos n) = omega (arith, ints, p) in h) ∙ omega (arith, ints)

module _ (b c : Builder) (atom : Atom) (k : ℤ) (p : IsAtomPut b c atom k) where
  pub kept_literal : to_z w32 (of_z w32 k) ≡ k
  kept_literal = ap (λ z. to_z w32 (of_z w32 z)) p.literal ∙ same_literal (length c.atoms) p.few ∙ sym p.literal

  pub turned_literal : to_z w32 (of_z w32 (pos 0 -ℤ to_z w32 (of_z w32 k))) ≡ neg_ℤ k
  turned_literal =
      ap (λ z. to_z w32 (of_z w32 (pos 0 -ℤ z))) (kept_literal ∙ p.literal) ∙ other_literal (length c.atoms) p.few ∙ ap neg_ℤ (sym p.literal)

module _ (table : List Term) (sums : Entries) (b : Builder) (built : IsBuilt table b) (are : AreSums b.first sums) (s t : TermId) (x y : Lin) (at_x : IsSumAt sums s.0 x) (at_y : IsSumAt sums t.0 y)
    (normal : Normal) (comparison : IsComparison x y normal) (narrow : IsNarrowNormal normal) (exact : (v : ℕ → ℤ) → is_so v normal ≡ int_le (lin_value v x) (lin_value v y)) where
  below_count : (lin : Lin) → IsBelowAll lin b.first → IsBelowAll lin (count_of b)
  below_count lin all = All-weaker (IsUnder b.first) (IsUnder (count_of b)) (λ part p. omega (arith, p, built.read)) lin.form all

  scoped_of : IsScopedNormal (count_of b) normal
  scoped_of = scoped_comparison (count_of b) x y normal (below_count x (are.each s.0 x at_x).1) (below_count y (are.each t.0 y at_y).1) comparison narrow

  compares : (v : ℕ → ℤ) (g : TermId → ℤ) → IsWorth sums v g → is_so v normal ≡ int_le (g s) (g t)
  compares v g worth = exact v ∙ (λ i. int_le (sym (worth s x at_x) i) (sym (worth t y at_y) i))

  pub decided_tells : (truth : Bool) → normal ≡ Decided truth → Tells sums b (Constant truth) (at_most s t)
  decided_tells truth e v g worth met = ap (is_so v) (sym e) ∙ compares v g worth

  module _ (atom : Atom) (c : Builder) (k : ℤ) (put : IsAtomPut b c atom k) where
    pub holding_told : normal ≡ Holds atom → IsTold table b c 1 (Literal (to_z w32 (of_z w32 k)))
    holding_told e =
        subst (λ (z : ℤ). IsTold table b c 1 (Literal z)) (sym (kept_literal b c atom k put))
        (holds_told table b atom built (subst (IsScopedNormal (count_of b)) e scoped_of) c k put)

    pub holding_tells : normal ≡ Holds atom → Tells sums c (Literal (to_z w32 (of_z w32 k))) (at_most s t)
    holding_tells e v g worth met =
        ap (is_true_literal v c.atoms) (kept_literal b c atom k put) ∙ put_literal b c atom k put v ∙ ap (is_so v) (sym e) ∙ compares v g worth

    pub failing_told : normal ≡ Fails atom → IsTold table b c 1 (Literal (to_z w32 (of_z w32 (pos 0 -ℤ to_z w32 (of_z w32 k)))))
    failing_told e =
        subst (λ (z : ℤ). IsTold table b c 1 (Literal z)) (sym (turned_literal b c atom k put))
        (told_turned table b c 1 (Literal k) (holds_told table b atom built (subst (IsScopedNormal (count_of b)) e scoped_of) c k put))

    pub failing_tells : normal ≡ Fails atom → Tells sums c (Literal (to_z w32 (of_z w32 (pos 0 -ℤ to_z w32 (of_z w32 k))))) (at_most s t)
    failing_tells e v g worth met =
        ap (is_true_literal v c.atoms) (turned_literal b c atom k put)
        ∙ truth_turned v c.atoms (Literal k) (holds_told table b atom built (subst (IsScopedNormal (count_of b)) e scoped_of) c k put).is
        ∙ ap not (put_literal b c atom k put v) ∙ ap (is_so v) (sym e) ∙ compares v g worth

-- ---- negations, as the code has them

module _ (table : List Term) (b c : Builder) (size : ℕ) (truth result : Truth) (is : result ≡ turned truth) (h : IsTold table b c size truth) where
  pub negated_told : IsTold table b c size result
  negated_told = subst (λ (t : Truth). IsTold table b c size t) (sym is) (told_turned table b c size truth h)

  pub negated_tells : (sums : Entries) (f : Claim TermId) → Tells sums c truth f → Tells sums c result (negation f)
  negated_tells sums f tells = subst (λ (t : Truth). Tells sums c t (negation f)) (sym is) (tells_negation sums c truth f h.is tells)

-- ---- two truths, and then the one of both

module _ (old mid new : List Term) (b c d e : Builder) (m n : ℕ) (first second truth : Truth) (p : IsTold old b c m first) (q : IsTold mid c d n second) (r : IsTold new d e 11 truth) (size : ℕ) (fits : m + n + 11 ≤ size) where
  pub three_told : IsTold new b e size truth
  three_told = told_more new b e (m + n + 11) size truth fits (told_on mid new b d e (m + n) 11 second truth (told_on old mid b c d m n first second p q) r)

  module _ (sums : Entries) (is_both : IsBoth e first second truth) (f g : Claim TermId) (tells_f : Tells sums c first f) (tells_g : Tells sums d second g) where
    first_later : Tells sums e first f
    first_later = tells_later sums old c e first f p.built (extended_on mid c d e q.built q.extended r.extended) p.is tells_f

    second_later : Tells sums e second g
    second_later = tells_later sums mid d e second g q.built r.extended q.is tells_g

    pub three_both : Tells sums e truth (both f g)
    three_both = tells_both sums e first second truth is_both f g first_later second_later

  pub three_equal : (sums : Entries) → IsBoth e first second truth → (x y : TermId) → Tells sums c first (at_most x y) → Tells sums d second (at_most y x) → Tells sums e truth (equal x y)
  three_equal sums is_both x y tells_first tells_second =
      tells_equal sums e first second truth is_both x y
      (first_later sums is_both (at_most x y) (at_most y x) tells_first tells_second) (second_later sums is_both (at_most x y) (at_most y x) tells_first tells_second)

  pub three_either : (sums : Entries) → IsBoth e first second truth → (f g : Claim TermId) → Tells sums c first (negation f) → Tells sums d second (negation g) → (result : Truth) → result ≡ turned truth → Tells sums e result (either f g)
  three_either sums is_both f g tells_first tells_second result is =
      subst (λ (t : Truth). Tells sums e t (either f g)) (sym is)
      (tells_either sums e first second truth is_both f g r.is
      (first_later sums is_both (negation f) (negation g) tells_first tells_second) (second_later sums is_both (negation f) (negation g) tells_first tells_second))

-- ---- sizes

pub of_equal : (c : Claim TermId) (x y : TermId) → c ≡ equal x y → 1 + 1 + 11 ≤ 13 * node_count c
of_equal c x y e = subst (λ (f : Claim TermId). 1 + 1 + 11 ≤ 13 * node_count f) (sym e) (omega arith)

pub of_both : (c f g : Claim TermId) → c ≡ both f g → 13 * node_count f + 13 * node_count g + 11 ≤ 13 * node_count c
of_both c f g e = subst (λ (h : Claim TermId). 13 * node_count f + 13 * node_count g + 11 ≤ 13 * node_count h) (sym e) (omega arith)

pub of_either : (c f g : Claim TermId) → c ≡ either f g → 13 * node_count f + 13 * node_count g + 11 ≤ 13 * node_count c
of_either c f g e = subst (λ (h : Claim TermId). 13 * node_count f + 13 * node_count g + 11 ≤ 13 * node_count h) (sym e) (omega arith)

pub not_is : (f g : Formula) → f.node ≡ Not g → shape f ≡ negation (shape g)
not_is f g e = shape_node f ∙ ap node_shape e ∙ ap node_shape (sym (rolls-Not g)) ∙ simp fold-roll-FormulaNode

-- ---- numbers that are too large

pub wide_other : (sums : Entries) (x y : TermId) (n : ℤ) → IsWideAt sums (at_most y x) n → IsWideAt sums (equal x y) n
wide_other sums x y n h = record { a = h.a; b = h.b; compares = inr h.compares; x = h.x; y = h.y; sum_a = h.sum_a; sum_b = h.sum_b; wide = h.wide }

pub narrow_comparison : (n : ℕ) (sums : Entries) → AreSums n sums → (s t : TermId) (x y : Lin) → IsSumAt sums s.0 x → IsSumAt sums t.0 y → (normal : Normal) → IsComparison x y normal → IsNarrowNormal normal → AreNarrowAt sums (at_most s t)
narrow_comparison n sums are s t x y at_x at_y normal comparison narrow z w =
    let e : w.x ≡ x = are.one s.0 w.x x (subst (λ (a : TermId). IsSumAt sums a.0 w.x) w.compares.0 w.sum_a) at_x in
    let k : w.y ≡ y = are.one t.0 w.y y (subst (λ (b : TermId). IsSumAt sums b.0 w.y) w.compares.1 w.sum_b) at_y in
    never_wide x y normal comparison narrow z (subst (λ (u : Lin). IsWideComparison u y z) e (subst (λ (u : Lin). IsWideComparison w.x u z) k w.wide))

-- ---- no number that is too large

module _ (sums : Entries) where
  -- what f compares, g or h compares
  narrow_parts : (f g h : Claim TermId) → ((a b : TermId) → Compares a b f → Compares a b g ⊎ Compares a b h) → AreNarrowAt sums g → AreNarrowAt sums h → AreNarrowAt sums f
  narrow_parts f g h parts p q n w = elim (parts w.a w.b w.compares) [
    | inl c ↦ p n (record { a = w.a; b = w.b; compares = c; x = w.x; y = w.y; sum_a = w.sum_a; sum_b = w.sum_b; wide = w.wide })
    | inr c ↦ q n (record { a = w.a; b = w.b; compares = c; x = w.x; y = w.y; sum_a = w.sum_a; sum_b = w.sum_b; wide = w.wide })
  ]

  pub narrow_equal : (c : Claim TermId) (x y : TermId) → c ≡ equal x y → AreNarrowAt sums (at_most x y) → AreNarrowAt sums (at_most y x) → AreNarrowAt sums c
  narrow_equal c x y e p q = subst (AreNarrowAt sums) (sym e) (narrow_parts (equal x y) (at_most x y) (at_most y x) (λ a b h. elim h [ inl k ↦ inl k | inr k ↦ inr k ]) p q)

  pub narrow_both : (c f g : Claim TermId) → c ≡ both f g → AreNarrowAt sums f → AreNarrowAt sums g → AreNarrowAt sums c
  narrow_both c f g e p q = subst (AreNarrowAt sums) (sym e) (narrow_parts (both f g) f g (λ a b h. h) p q)

  pub narrow_either : (c f g : Claim TermId) → c ≡ either f g → AreNarrowAt sums f → AreNarrowAt sums g → AreNarrowAt sums c
  narrow_either c f g e p q = subst (AreNarrowAt sums) (sym e) (narrow_parts (either f g) f g (λ a b h. h) p q)

  pub narrow_negation : (c f : Claim TermId) → c ≡ negation f → AreNarrowAt sums f → AreNarrowAt sums c
  narrow_negation c f e p = subst (AreNarrowAt sums) (sym e) (narrow_parts (negation f) f f (λ a b h. inl h) p p)
