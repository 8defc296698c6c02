-- Literals, truths and clauses as numbers for terms, atoms and clauses change.
use Rattle.std.proofs.Common.{◌≡◌, ℕ, zero, suc, ◌<◌, ◌≤◌, ℤ, pos, negsuc, List, [], ◌∷◌, ◌++◌, length, slice_get, refl, sym, ap, ◌∙◌, subst, arith, length-append, append_assoc}
use Rattle.std.proofs.lemmas.List.{append-nil}
use Rattle.std.proofs.Math.Bool.{not-not}
use Rattle.std.proofs.Math.IntN.{◌+ℤ◌, neg_ℤ}
use Rattle.std.proofs.lemmas.List.Elements.{All-nil, All-cons, All-head, All-tail, All-append, All-weaker}
use Rattle.std.specs.Prelude.{All, IsTrue, ◌↔◌, not, ◌||◌, int_le}
use Rattle.std.specs.List.{list_any}
use Rattle.jesc_linear.specs.Forms.{Form, value}
use Rattle.jesc_logic.specs.declared.terms.TermId.{TermId}
use Rattle.jesc_logic.specs.Terms.{Term, Keeps, unary, number}
use Rattle.jesc_logic.proofs.Lists.{get_front}
use Rattle.jesc_clauses.specs.declared.atom.Atom.{Atom}
use Rattle.jesc_clauses.specs.declared.lin.Lin.{Lin}
use Rattle.jesc_clauses.specs.declared.clause.Opaque.{Opaque}
use Rattle.jesc_clauses.specs.declared.builder.Builder.{Builder}
use Rattle.jesc_clauses.specs.declared.builder.Truth.{Truth}
use Rattle.jesc_clauses.specs.declared.builder.Truth.TheVariants.{Constant, Literal}
use Rattle.jesc_clauses.specs.Countermodels.{is_met_some, is_unmet_some, is_true_literal, is_true_clause, lin_value}
use Rattle.jesc_clauses.specs.Normals.{is_met}
use Rattle.jesc_clauses.specs.Clausified.{IsLiteral, IsScopedAtom}
use Rattle.jesc_clauses.specs.Sums.{IsBelowAll}
use Rattle.jesc_clauses.specs.Readers.{Entries}
use Rattle.jesc_clauses.specs.Builders.{AreTrue, IsTruth, is_true, turned, IsSameBelow, AreSums, IsWorth, count_of, IsMet, IsBuilt, IsExtended, IsTold}
use Rattle.jesc_clauses.proofs.Reading.{same_value}

-- ---- other numbers for terms that aren't there

pub value_same : (n : ℕ) (u v : ℕ → ℤ) → IsSameBelow n u v → (form : Form) → All (λ part. part.1 < n) form → value u form ≡ value v form
value_same n u v h form all = same_value n u v form all h

pub lin_same : (n : ℕ) (u v : ℕ → ℤ) → IsSameBelow n u v → (lin : Lin) → IsBelowAll lin n → lin_value u lin ≡ lin_value v lin
lin_same n u v h lin all = ap (λ x. x +ℤ lin.constant) (same_value n u v lin.form all h)

met_same : (n : ℕ) (u v : ℕ → ℤ) → IsSameBelow n u v → (atom : Atom) → IsScopedAtom n atom → is_met u atom ≡ is_met v atom
met_same n u v h atom s = ap (λ x. int_le x atom.bound) (same_value n u v atom.form s.below h)

met_some_same : (n : ℕ) (u v : ℕ → ℤ) → IsSameBelow n u v → (atoms : List Atom) → All (IsScopedAtom n) atoms → (k : ℕ) → is_met_some u (slice_get atoms k) ≡ is_met_some v (slice_get atoms k)
met_some_same n u v h [] all k = refl
met_some_same n u v h (atom ∷ atoms) all zero = met_same n u v h atom (All-head (IsScopedAtom n) atom atoms all)
met_some_same n u v h (atom ∷ atoms) all (suc k) = met_some_same n u v h atoms (All-tail (IsScopedAtom n) atom atoms all) k

unmet_some_same : (n : ℕ) (u v : ℕ → ℤ) → IsSameBelow n u v → (atoms : List Atom) → All (IsScopedAtom n) atoms → (k : ℕ) → is_unmet_some u (slice_get atoms k) ≡ is_unmet_some v (slice_get atoms k)
unmet_some_same n u v h [] all k = refl
unmet_some_same n u v h (atom ∷ atoms) all zero = ap not (met_same n u v h atom (All-head (IsScopedAtom n) atom atoms all))
unmet_some_same n u v h (atom ∷ atoms) all (suc k) = unmet_some_same n u v h atoms (All-tail (IsScopedAtom n) atom atoms all) k

pub literal_same : (n : ℕ) (u v : ℕ → ℤ) → IsSameBelow n u v → (atoms : List Atom) → All (IsScopedAtom n) atoms → (k : ℤ) → is_true_literal u atoms k ≡ is_true_literal v atoms k
literal_same n u v h atoms all (pos zero) = refl
literal_same n u v h atoms all (pos (suc k)) = met_some_same n u v h atoms all k
literal_same n u v h atoms all (negsuc k) = unmet_some_same n u v h atoms all k

-- ---- further atoms

pub literal_kept : (v : ℕ → ℤ) (atoms more : List Atom) (k : ℤ) → IsLiteral (length atoms) k → is_true_literal v (atoms ++ more) k ≡ is_true_literal v atoms k
literal_kept v atoms more (pos zero) h = refl
literal_kept v atoms more (pos (suc k)) h = ap (is_met_some v) (get_front atoms more k (omega (arith, h.1)))
literal_kept v atoms more (negsuc k) h = ap (is_unmet_some v) (get_front atoms more k (omega (arith, h.1)))

pub truth_kept : (v : ℕ → ℤ) (atoms more : List Atom) (t : Truth) → IsTruth (length atoms) t → is_true v (atoms ++ more) t ≡ is_true v atoms t
truth_kept v atoms more (Constant b) h = refl
truth_kept v atoms more (Literal k) h = literal_kept v atoms more k h

pub truth_longer : (m n : ℕ) (t : Truth) → m ≤ n → IsTruth m t → IsTruth n t
truth_longer m n (Constant b) l h = tt
truth_longer m n (Literal k) l h = (h.0, omega (arith, h.1))

-- ---- the negation

unmet_is : (v : ℕ → ℤ) (atoms : List Atom) (k : ℕ) → k < length atoms → is_unmet_some v (slice_get atoms k) ≡ not (is_met_some v (slice_get atoms k))
unmet_is v [] k h = absurd (omega arith)
unmet_is v (atom ∷ atoms) zero h = refl
unmet_is v (atom ∷ atoms) (suc k) h = unmet_is v atoms k (omega arith)

pub literal_turned : (v : ℕ → ℤ) (atoms : List Atom) (k : ℤ) → IsLiteral (length atoms) k → is_true_literal v atoms (neg_ℤ k) ≡ not (is_true_literal v atoms k)
literal_turned v atoms (pos zero) h = absurd (omega (arith, h.0))
literal_turned v atoms (pos (suc k)) h = unmet_is v atoms k (omega (arith, h.1))
literal_turned v atoms (negsuc k) h = sym (ap not (unmet_is v atoms k (omega (arith, h.1))) ∙ not-not (is_met_some v (slice_get atoms k)))

pub literal_is_turned : (n : ℕ) (k : ℤ) → IsLiteral n k → IsLiteral n (neg_ℤ k)
literal_is_turned n (pos zero) h = h
literal_is_turned n (pos (suc k)) h = h
literal_is_turned n (negsuc k) h = h

pub truth_turned : (v : ℕ → ℤ) (atoms : List Atom) (t : Truth) → IsTruth (length atoms) t → is_true v atoms (turned t) ≡ not (is_true v atoms t)
truth_turned v atoms (Constant b) h = refl
truth_turned v atoms (Literal k) h = literal_turned v atoms k h

pub truth_is_turned : (n : ℕ) (t : Truth) → IsTruth n t → IsTruth n (turned t)
truth_is_turned n (Constant b) h = tt
truth_is_turned n (Literal k) h = literal_is_turned n k h

-- ---- clauses

abbrev AreLiterals : ℕ → List ℤ → Type 0
AreLiterals n literals = All (IsLiteral n) literals

clause_kept : (v : ℕ → ℤ) (atoms more : List Atom) (literals : List ℤ) → All (IsLiteral (length atoms)) literals → is_true_clause v (atoms ++ more) literals ≡ is_true_clause v atoms literals
clause_kept v atoms more [] all = refl
clause_kept v atoms more (k ∷ literals) all = λ i. literal_kept v atoms more k (All-head (IsLiteral (length atoms)) k literals all) i || clause_kept v atoms more literals (All-tail (IsLiteral (length atoms)) k literals all) i

module _ (v : ℕ → ℤ) (atoms more : List Atom) where
  abbrev IsSo : List Atom → List ℤ → Type 0
  IsSo those literals = IsTrue (is_true_clause v those literals)

  pub clauses_longer : (clauses : List (List ℤ)) → All (AreLiterals (length atoms)) clauses → AreTrue v atoms clauses → AreTrue v (atoms ++ more) clauses
  clauses_longer [] all h = All-nil (IsSo (atoms ++ more))
  clauses_longer (c ∷ clauses) all h =
      All-cons (IsSo (atoms ++ more)) c clauses (subst IsTrue (sym (clause_kept v atoms more c (All-head (AreLiterals (length atoms)) c clauses all))) (All-head (IsSo atoms) c clauses h))
      (clauses_longer clauses (All-tail (AreLiterals (length atoms)) c clauses all) (All-tail (IsSo atoms) c clauses h))

  pub clauses_shorter : (clauses : List (List ℤ)) → All (AreLiterals (length atoms)) clauses → AreTrue v (atoms ++ more) clauses → AreTrue v atoms clauses
  clauses_shorter [] all h = All-nil (IsSo atoms)
  clauses_shorter (c ∷ clauses) all h =
      All-cons (IsSo atoms) c clauses (subst IsTrue (clause_kept v atoms more c (All-head (AreLiterals (length atoms)) c clauses all)) (All-head (IsSo (atoms ++ more)) c clauses h))
      (clauses_shorter clauses (All-tail (AreLiterals (length atoms)) c clauses all) (All-tail (IsSo (atoms ++ more)) c clauses h))

pub clauses_kept : (v : ℕ → ℤ) (atoms more : List Atom) (clauses : List (List ℤ)) → All (λ literals. All (IsLiteral (length atoms)) literals) clauses → AreTrue v (atoms ++ more) clauses ↔ AreTrue v atoms clauses
clauses_kept v atoms more clauses all = (clauses_shorter v atoms more clauses all, clauses_longer v atoms more clauses all)

clause_same : (n : ℕ) (u v : ℕ → ℤ) → IsSameBelow n u v → (atoms : List Atom) → All (IsScopedAtom n) atoms → (literals : List ℤ) → is_true_clause u atoms literals ≡ is_true_clause v atoms literals
clause_same n u v h atoms all literals = λ i. list_any (λ k. literal_same n u v h atoms all k i) literals

pub clauses_same : (n : ℕ) (u v : ℕ → ℤ) → IsSameBelow n u v → (atoms : List Atom) (clauses : List (List ℤ)) → All (IsScopedAtom n) atoms → AreTrue v atoms clauses → AreTrue u atoms clauses
clauses_same n u v h atoms clauses all so =
    All-weaker (λ literals. IsTrue (is_true_clause v atoms literals)) (λ literals. IsTrue (is_true_clause u atoms literals))
    (λ literals t. subst IsTrue (sym (clause_same n u v h atoms all literals)) t) clauses so

pub true_append : (v : ℕ → ℤ) (atoms : List Atom) (xs ys : List (List ℤ)) → AreTrue v atoms xs → AreTrue v atoms ys → AreTrue v atoms (xs ++ ys)
true_append v atoms xs ys h k = All-append (λ literals. IsTrue (is_true_clause v atoms literals)) xs ys h k

-- what holds of each element holds of each in front and behind
module _ {X : Type 0} (P : X → Type 0) where
  pub all_before : (xs ys : List X) → All P (xs ++ ys) → All P xs
  all_before [] ys h = All-nil P
  all_before (x ∷ xs) ys h = All-cons P x xs (All-head P x (xs ++ ys) h) (all_before xs ys (All-tail P x (xs ++ ys) h))

  pub all_behind : (xs ys : List X) → All P (xs ++ ys) → All P ys
  all_behind [] ys h = h
  all_behind (x ∷ xs) ys h = all_behind xs ys (All-tail P x (xs ++ ys) h)

pub true_before : (v : ℕ → ℤ) (atoms : List Atom) (xs ys : List (List ℤ)) → AreTrue v atoms (xs ++ ys) → AreTrue v atoms xs
true_before v atoms xs ys h = all_before (λ literals. IsTrue (is_true_clause v atoms literals)) xs ys h

pub true_behind : (v : ℕ → ℤ) (atoms : List Atom) (xs ys : List (List ℤ)) → AreTrue v atoms (xs ++ ys) → AreTrue v atoms ys
true_behind v atoms xs ys h = all_behind (λ literals. IsTrue (is_true_clause v atoms literals)) xs ys h

-- ---- what was built

pub extended_all : (b : Builder) → IsExtended b b
extended_all b = record {
  symbol = refl;
  first = refl;
  added_opaques = [];
  opaques = sym (append-nil b.opaques);
  added_atoms = [];
  atoms = sym (append-nil b.atoms);
  added = [];
  clauses = sym (append-nil b.clauses);
  extends = λ v. (v, ((λ i p. refl), All-nil (λ literals. IsTrue (is_true_clause v b.atoms literals))));
}

pub count_longer : (b c : Builder) → IsExtended b c → count_of b ≤ count_of c
count_longer b c h = omega (arith, ap (λ (os : List Opaque). length os) h.opaques, length-append b.opaques h.added_opaques)

pub atoms_longer : (b c : Builder) → IsExtended b c → length b.atoms ≤ length c.atoms
atoms_longer b c h = omega (arith, ap (λ (xs : List Atom). length xs) h.atoms, length-append b.atoms h.added_atoms)

-- clauses that were true of the earlier atoms are of the later ones, and the other way round
module _ (b c : Builder) (h : IsExtended b c) (v : ℕ → ℤ) (clauses : List (List ℤ)) (all : All (AreLiterals (length b.atoms)) clauses) where
  pub true_later : AreTrue v b.atoms clauses → AreTrue v c.atoms clauses
  true_later t = subst (λ (xs : List Atom). AreTrue v xs clauses) (sym h.atoms) (clauses_longer v b.atoms h.added_atoms clauses all t)

  pub true_earlier : AreTrue v c.atoms clauses → AreTrue v b.atoms clauses
  true_earlier t = clauses_shorter v b.atoms h.added_atoms clauses all (subst (λ (xs : List Atom). AreTrue v xs clauses) h.atoms t)

-- clauses of the earlier atoms are true of the later ones for other numbers too
still_true : (table : List Term) (b c : Builder) → IsBuilt table b → IsExtended b c → (u v : ℕ → ℤ) → IsSameBelow (count_of b) u v → (clauses : List (List ℤ)) → All (AreLiterals (length b.atoms)) clauses → AreTrue v b.atoms clauses → AreTrue u c.atoms clauses
still_true table b c built h u v same clauses all t = true_later b c h u clauses all (clauses_same (count_of b) u v same b.atoms clauses built.scoped.scoped t)

added_literals : (table : List Term) (b c : Builder) → IsBuilt table c → (h : IsExtended b c) → All (AreLiterals (length c.atoms)) h.added
added_literals table b c built h = all_behind (AreLiterals (length c.atoms)) b.clauses h.added (subst (λ (xs : List (List ℤ)). All (AreLiterals (length c.atoms)) xs) h.clauses built.scoped.literals)

pub extended_on : (table : List Term) (b c d : Builder) → IsBuilt table c → IsExtended b c → IsExtended c d → IsExtended b d
extended_on table b c d built h k = record {
  symbol = k.symbol ∙ h.symbol;
  first = k.first ∙ h.first;
  added_opaques = h.added_opaques ++ k.added_opaques;
  opaques = k.opaques ∙ (ap (λ (xs : List Opaque). xs ++ k.added_opaques) h.opaques ∙ append_assoc b.opaques h.added_opaques k.added_opaques);
  added_atoms = h.added_atoms ++ k.added_atoms;
  atoms = k.atoms ∙ (ap (λ (xs : List Atom). xs ++ k.added_atoms) h.atoms ∙ append_assoc b.atoms h.added_atoms k.added_atoms);
  added = h.added ++ k.added;
  clauses = k.clauses ∙ (ap (λ (xs : List (List ℤ)). xs ++ k.added) h.clauses ∙ append_assoc b.clauses h.added k.added);
  extends = λ v.
      let one = h.extends v in
      let two = k.extends one.0 in (
        two.0,
        (
          (λ i p. two.1.0 i (omega (arith, p, count_longer b c h)) ∙ one.1.0 i p),
          true_append two.0 d.atoms h.added k.added (still_true table c d built k two.0 one.0 two.1.0 h.added (added_literals table b c built h) one.1.1) two.1.1,
        ),
      );
}

pub met_before : (table : List Term) (b c : Builder) → IsBuilt table b → IsExtended b c → (v : ℕ → ℤ) → IsMet v c → IsMet v b
met_before table b c built h v met =
    true_earlier b c h v b.clauses built.scoped.literals (true_before v c.atoms b.clauses h.added (subst (λ (xs : List (List ℤ)). AreTrue v c.atoms xs) h.clauses met))

pub met_extended : (table : List Term) (b c : Builder) → IsBuilt table b → IsExtended b c → (v : ℕ → ℤ) → IsMet v b → (u : ℕ → ℤ) × (IsSameBelow (count_of b) u v × IsMet u c)
met_extended table b c built h v met =
    let one = h.extends v in (
      one.0,
      (
        one.1.0,
        subst (λ (xs : List (List ℤ)). AreTrue one.0 c.atoms xs) (sym h.clauses)
            (true_append one.0 c.atoms b.clauses h.added (still_true table b c built h one.0 v one.1.0 b.clauses built.scoped.literals met) one.1.1),
      ),
    )

pub worth_same : (n : ℕ) (sums : Entries) → AreSums n sums → (u v : ℕ → ℤ) → IsSameBelow n u v → (g : TermId → ℤ) → IsWorth sums v g → IsWorth sums u g
worth_same n sums are u v same g h id lin at = h id lin at ∙ sym (lin_same n u v same lin (are.each id.0 lin at).1)

pub built_later : (old new : List Term) → Keeps old new → (b : Builder) → IsBuilt old b → IsBuilt new b
built_later old new k b h = record {
  short = h.short;
  read = h.read;
  few = h.few;
  each = λ i o p e. let d = h.each i o p e in record { symbol_is = d.symbol_is; args_is = d.args_is; stands = k.keeps o.id.0 (unary b.symbol (number (pos i))) d.stands };
  scoped = h.scoped;
}

-- a truth that is told with nothing put in
pub told_same : (table : List Term) (b : Builder) → IsBuilt table b → (size : ℕ) (t : Truth) → IsTruth (length b.atoms) t → IsTold table b b size t
told_same table b built size t is = record { built = built; extended = extended_all b; is = is; counted = omega arith }
