-- A line makes one state at most of another.
use Rattle.std.proofs.Common.{◌≡◌, ℕ, suc, true, false, ℤ, pos, List, [], ◌∷◌, ◌++◌, length, set, Option, Some, ◌⊎◌, inl, inr, refl, sym, ap, ◌∙◌, subst, arith}
use Rattle.jesc_linear.specs.declared.rows.Row.{Row}
use Rattle.jesc_linear.specs.declared.rows.LinStep.{LinStep}
use Rattle.jesc_cert.specs.declared.cert.CertLine.{CertLine}
use Rattle.jesc_cert.specs.declared.cert.CertKind.{CertKind}
use Rattle.jesc_cert.specs.declared.cert.CertKind.TheVariants.{T, G, R, Q, S, C, M}
use Rattle.jesc_clauses.specs.declared.atom.Atom.{Atom}
use Rattle.jesc_clauses.specs.declared.clause.Clauses.{Clauses}
use Rattle.jesc_clauses.specs.declared.builder.Truth.{Truth}
use Rattle.jesc_accept.specs.Branches.{Branch}
use Rattle.jesc_accept.specs.Lemmas.{sum_numbers, IsCongruence, literals_of, AreRowsOf, negations}
use Rattle.jesc_accept.specs.Moves.{State, branches, Moves, atom, congruence, linear, step, last, split, clause, lemma}
use Rattle.jesc_accept.proofs.OneReading.{same_truths, same_rows}
use Rattle.jesc_accept.proofs.Taking.{same_form, same_bound, same_step, snoc_same}

-- ---- the states that lines make

abbrev with_atom : State → Atom → State
with_atom s a = record { atoms = s.atoms ++ a ∷ []; lemmas = s.lemmas; rows = []; negated = []; due = 0; in_tree = false; ends = [] }

abbrev with_lemma : State → Option (List ℤ) → State
with_lemma s added = record { atoms = s.atoms; lemmas = s.lemmas ++ added ∷ []; rows = []; negated = []; due = 0; in_tree = false; ends = [] }

abbrev with_rows : State → List Row → List ℤ → ℕ → State
with_rows s rows negated due = record { atoms = s.atoms; lemmas = s.lemmas; rows = rows; negated = negated; due = due; in_tree = false; ends = [] }

abbrev with_ends : State → List Branch → State
with_ends s ends = record { atoms = s.atoms; lemmas = s.lemmas; rows = []; negated = []; due = 0; in_tree = true; ends = ends }

-- ---- what a line says and makes, by its kind

record MakesAtom (s : State) (line : CertLine) (t : State) : Type 0 where
  a : Atom
  are : line.numbers ≡ sum_numbers a.bound a.form
  made : t ≡ with_atom s a

record MakesCongruence (cl : Clauses) (s : State) (line : CertLine) (t : State) : Type 0 where
  i : ℕ
  j : ℕ
  truths : List Truth
  are : line.numbers ≡ pos i ∷ pos j ∷ []
  is : IsCongruence s.atoms cl.terms i j truths
  made : t ≡ with_lemma s (literals_of truths)

record OpensLemma (s : State) (line : CertLine) (t : State) : Type 0 where
  literals : List ℤ
  rows : List Row
  steps : ℕ
  are : line.numbers ≡ pos (length literals) ∷ (literals ++ pos steps ∷ [])
  rows_are : AreRowsOf s.atoms literals rows
  made : t ≡ with_rows s rows (negations literals) steps

record MakesStep (s : State) (line : CertLine) (t : State) : Type 0 where
  l : LinStep
  are : line.numbers ≡ l.a ∷ pos l.i ∷ l.b ∷ pos l.j ∷ l.d ∷ sum_numbers l.row.bound l.row.form
  made : ((steps : ℕ) × ((s.due ≡ suc (suc steps)) × (t ≡ with_rows s (s.rows ++ l.row ∷ []) s.negated (suc steps)))) ⊎ ((s.due ≡ 1) × (t ≡ with_lemma s (Some s.negated)))

record Splits (s : State) (line : CertLine) (t : State) : Type 0 where
  a : ℕ
  b : Branch
  rest : List Branch
  are : line.numbers ≡ pos (suc a) ∷ []
  begin : branches s ≡ b ∷ rest
  made : t ≡ with_ends s (set b a (Some true) ∷ set b a (Some false) ∷ rest)

record Closes (s : State) (t : State) : Type 0 where
  b : Branch
  rest : List Branch
  begin : branches s ≡ b ∷ rest
  made : t ≡ with_ends s rest

abbrev Makes : Clauses → State → CertLine → CertKind → State → Type 0
Makes cl s line T t = MakesAtom s line t
Makes cl s line G t = MakesCongruence cl s line t
Makes cl s line R t = OpensLemma s line t
Makes cl s line Q t = MakesStep s line t
Makes cl s line S t = Splits s line t
Makes cl s line C t = Closes s t
Makes cl s line M t = Closes s t

makes : (cl : Clauses) (s : State) (line : CertLine) (t : State) → Moves cl s line t → Makes cl s line line.kind t
makes cl s line t (atom _ _ a due tree kind n nf na th) = subst (λ (k : CertKind). Makes cl s line k t) (sym kind) (record { a = a; are = n; made = refl })
makes cl s line t (congruence _ _ i j truths due tree kind n x) = subst (λ (k : CertKind). Makes cl s line k t) (sym kind) (record { i = i; j = j; truths = truths; are = n; is = x; made = refl })
makes cl s line t (linear _ _ ls rows steps due tree kind n x y) = subst (λ (k : CertKind). Makes cl s line k t) (sym kind) (record { literals = ls; rows = rows; steps = steps; are = n; rows_are = y; made = refl })
makes cl s line t (step _ _ steps l due kind n x y z) = subst (λ (k : CertKind). Makes cl s line k t) (sym kind) (record { l = l; are = n; made = inl (steps, (due, refl)) })
makes cl s line t (last _ _ l due kind n x y z w) = subst (λ (k : CertKind). Makes cl s line k t) (sym kind) (record { l = l; are = n; made = inr (due, refl) })
makes cl s line t (split _ _ a b rest due kind n x y) = subst (λ (k : CertKind). Makes cl s line k t) (sym kind) (record { a = a; b = b; rest = rest; are = n; begin = x; made = refl })
makes cl s line t (clause _ _ k b rest ls due kind n x y z) = subst (λ (c : CertKind). Makes cl s line c t) (sym kind) (record { b = b; rest = rest; begin = x; made = refl })
makes cl s line t (lemma _ _ k b rest ls due kind n x y z) = subst (λ (c : CertKind). Makes cl s line c t) (sym kind) (record { b = b; rest = rest; begin = x; made = refl })

-- ---- one state for each kind

one_atom : (s : State) (line : CertLine) (t u : State) → MakesAtom s line t → MakesAtom s line u → t ≡ u
one_atom s line t u p q =
    let e : sum_numbers p.a.bound p.a.form ≡ sum_numbers q.a.bound q.a.form = sym p.are ∙ q.are in
    let form : p.a.form ≡ q.a.form = same_form _ _ _ _ e in
    let bound : p.a.bound ≡ q.a.bound = same_bound _ _ _ _ e in
    p.made ∙ ((λ i. with_atom s (record { form = form i; bound = bound i })) ∙ sym q.made)

one_congruence : (cl : Clauses) (s : State) (line : CertLine) (t u : State) → MakesCongruence cl s line t → MakesCongruence cl s line u → t ≡ u
one_congruence cl s line t u p q =
    let e : pos p.i ∷ pos p.j ∷ [] ≡ pos q.i ∷ pos q.j ∷ [] = sym p.are ∙ q.are in
    let i : p.i ≡ q.i = cc in
    let j : p.j ≡ q.j = cc in
    let same = same_truths s.atoms cl.terms q.i q.j p.truths q.truths
    (subst (λ (y : ℕ). IsCongruence s.atoms cl.terms q.i y p.truths) j (subst (λ (x : ℕ). IsCongruence s.atoms cl.terms x p.j p.truths) i p.is)) q.is in
    p.made ∙ (ap (λ (ts : List Truth). with_lemma s (literals_of ts)) same ∙ sym q.made)

one_linear : (s : State) (line : CertLine) (t u : State) → OpensLemma s line t → OpensLemma s line u → t ≡ u
one_linear s line t u p q =
    let e : pos (length p.literals) ∷ (p.literals ++ pos p.steps ∷ []) ≡ pos (length q.literals) ∷ (q.literals ++ pos q.steps ∷ []) = sym p.are ∙ q.are in
    let both = snoc_same p.literals q.literals (pos p.steps) (pos q.steps) cc in
    let literals : p.literals ≡ q.literals = both.0 in
    let last : pos p.steps ≡ pos q.steps = both.1 in
    let steps : p.steps ≡ q.steps = cc in
    let rows : p.rows ≡ q.rows = same_rows s.atoms q.literals p.rows q.rows (subst (λ (ls : List ℤ). AreRowsOf s.atoms ls p.rows) literals p.rows_are) q.rows_are in
    p.made ∙ ((λ i. with_rows s (rows i) (negations (literals i)) (steps i)) ∙ sym q.made)

one_step : (s : State) (line : CertLine) (t u : State) → MakesStep s line t → MakesStep s line u → t ≡ u
one_step s line t u p q = by p.made q.made
  where
    same : p.l ≡ q.l
    same = same_step p.l q.l (sym p.are ∙ q.are)

    by : ((steps : ℕ) × ((s.due ≡ suc (suc steps)) × (t ≡ with_rows s (s.rows ++ p.l.row ∷ []) s.negated (suc steps)))) ⊎ ((s.due ≡ 1) × (t ≡ with_lemma s (Some s.negated)))
        → ((steps : ℕ) × ((s.due ≡ suc (suc steps)) × (u ≡ with_rows s (s.rows ++ q.l.row ∷ []) s.negated (suc steps)))) ⊎ ((s.due ≡ 1) × (u ≡ with_lemma s (Some s.negated))) → t ≡ u
    by (inl (m, (e, made))) (inl (n, (f, done))) =
        let steps : m ≡ n = omega (arith, e, f) in
        made ∙ ((λ i. with_rows s (s.rows ++ (same i).row ∷ []) s.negated (suc (steps i))) ∙ sym done)
    by (inl (m, (e, made))) (inr (f, done)) = absurd (omega (arith, e, f))
    by (inr (e, made)) (inl (n, (f, done))) = absurd (omega (arith, e, f))
    by (inr (e, made)) (inr (f, done)) = made ∙ sym done

-- the first branch and the others
same_branches : (all : List Branch) (b c : Branch) (rest others : List Branch) → all ≡ b ∷ rest → all ≡ c ∷ others → (b ≡ c) × (rest ≡ others)
same_branches all b c rest others e f = (cc, cc)

one_split : (s : State) (line : CertLine) (t u : State) → Splits s line t → Splits s line u → t ≡ u
one_split s line t u p q =
    let e : pos (suc p.a) ∷ [] ≡ pos (suc q.a) ∷ [] = sym p.are ∙ q.are in
    let a : p.a ≡ q.a = cc in
    let ends = same_branches (branches s) p.b q.b p.rest q.rest p.begin q.begin in
    p.made ∙ ((λ i. with_ends s (set (ends.0 i) (a i) (Some true) ∷ set (ends.0 i) (a i) (Some false) ∷ ends.1 i)) ∙ sym q.made)

one_leaf : (s : State) (t u : State) → Closes s t → Closes s u → t ≡ u
one_leaf s t u p q = p.made ∙ (ap (with_ends s) (same_branches (branches s) p.b q.b p.rest q.rest p.begin q.begin).1 ∙ sym q.made)

one_made : (cl : Clauses) (s : State) (line : CertLine) (kind : CertKind) (t u : State) → Makes cl s line kind t → Makes cl s line kind u → t ≡ u
one_made cl s line T t u p q = one_atom s line t u p q
one_made cl s line G t u p q = one_congruence cl s line t u p q
one_made cl s line R t u p q = one_linear s line t u p q
one_made cl s line Q t u p q = one_step s line t u p q
one_made cl s line S t u p q = one_split s line t u p q
one_made cl s line C t u p q = one_leaf s t u p q
one_made cl s line M t u p q = one_leaf s t u p q

pub one_state : (cl : Clauses) (s t u : State) (line : CertLine) → Moves cl s line t → Moves cl s line u → t ≡ u
one_state cl s t u line p q = one_made cl s line line.kind t u (makes cl s line t p) (makes cl s line u q)
