-- Lemmas of congruence: what the code keeps of their literals.
use Rattle.std.proofs.Common.{◌≡◌, ℕ, suc, ◌+◌, ◌<◌, ◌≤◌, ◌^◌, Bool, true, false, List, [], ◌∷◌, ◌++◌, length, drop, get_or, ℤ, pos, Option, Some, None, Result, Ok, Err, slice_get, refl, sym, ap, ◌∙◌, subst, arith}
use Rattle.std.proofs.lemmas.List.{append_assoc, drop_all, at_drop_more}
use Rattle.std.specs.Prelude.{OnOk, MatchOption}
use Rattle.std.specs.Option.{option_map}
use Rattle.jesc_clauses.specs.declared.atom.Atom.{Atom}
use Rattle.jesc_clauses.specs.declared.lin.Lin.{Lin}
use Rattle.jesc_linear.specs.declared.rows.Row.{Row}
use Rattle.jesc_cert.specs.declared.cert.CertLine.{CertLine}
use Rattle.jesc_cert.specs.declared.cert.CertKind.TheVariants.{G}
use Rattle.jesc_clauses.specs.declared.clause.Clauses.{Clauses}
use Rattle.jesc_clauses.specs.declared.clause.Opaque.{Opaque}
use Rattle.jesc_clauses.specs.declared.normal.Normal.{Normal}
use Rattle.jesc_clauses.specs.declared.builder.Truth.{Truth}
use Rattle.jesc_clauses.specs.declared.builder.Truth.TheVariants.{Constant, Literal}
use Rattle.jesc_clauses.specs.Builders.{turned}
use Rattle.jesc_clauses.specs.Comparisons.{IsComparison, IsNarrowNormal, IsWideComparison}
use Rattle.jesc_clauses.specs.Sums.{IsLin}
use Rattle.jesc_clauses.proofs.OneNormal.{never_wide, same_comparison}
use Rattle.jesc_accept.specs.declared.congruence.Said.{Said}
use Rattle.jesc_accept.specs.declared.congruence.Said.TheVariants as said
use Rattle.jesc_accept.specs.Congruences.{truth_of, Adds, AddsAtMost, AddsDifference, AddsDifferences, IsLemmaOf}
use Rattle.jesc_accept.specs.Moves.{State, Moves, atom, congruence, linear, step, last, split, clause, lemma}
use Rattle.jesc_accept.specs.States.{line_of}
use Rattle.jesc_accept.specs.Lemmas.{IsCongruence, ReadsNormal, ReadsAtMost, Differ, literals_of}

-- ---- literals of one truth more

end_false : (ts : List Truth) → literals_of (ts ++ Constant false ∷ []) ≡ literals_of ts
end_false [] = refl
end_false (Constant true ∷ ts) = refl
end_false (Constant false ∷ ts) = end_false ts
end_false (Literal k ∷ ts) = ap (option_map (λ ks. k ∷ ks)) (end_false ts)

end_true : (ts : List Truth) → literals_of (ts ++ Constant true ∷ []) ≡ None
end_true [] = refl
end_true (Constant true ∷ ts) = refl
end_true (Constant false ∷ ts) = end_true ts
end_true (Literal k ∷ ts) = ap (option_map (λ ks. k ∷ ks)) (end_true ts)

-- a literal behind the others
abbrev behind : ℤ → Option (List ℤ) → Option (List ℤ)
behind k literals = option_map (λ ks. ks ++ k ∷ []) literals

turns : (m k : ℤ) (literals : Option (List ℤ)) → option_map (λ ks. m ∷ ks) (behind k literals) ≡ behind k (option_map (λ ks. m ∷ ks) literals)
turns m k None = refl
turns m k (Some ks) = refl

end_literal : (ts : List Truth) (k : ℤ) → literals_of (ts ++ Literal k ∷ []) ≡ behind k (literals_of ts)
end_literal [] k = refl
end_literal (Constant true ∷ ts) k = refl
end_literal (Constant false ∷ ts) k = end_literal ts k
end_literal (Literal m ∷ ts) k = ap (option_map (λ ks. m ∷ ks)) (end_literal ts k) ∙ turns m k (literals_of ts)

pub adds_literal : (had : Option (List ℤ)) (old new : List ℤ) (k m : ℤ) → m ≡ k → had ≡ Some old → new ≡ old ++ m ∷ [] → Adds had (Literal k ∷ []) (Some new)
adds_literal had old new k m same is e ts h = ap Some (e ∙ ap (λ (z : ℤ). old ++ z ∷ []) same) ∙ (ap (behind k) (sym is ∙ h) ∙ sym (end_literal ts k))

pub adds_none : (had : Option (List ℤ)) (k : ℤ) → had ≡ None → Adds had (Literal k ∷ []) had
adds_none had k is ts h = is ∙ (ap (behind k) (sym is ∙ h) ∙ sym (end_literal ts k))

pub adds_false : (had : Option (List ℤ)) (s : Said) (b : Bool) → s ≡ said.Constant b → b ≡ false → Adds had (truth_of s ∷ []) had
adds_false had s b is e ts h = h ∙ sym (ap (λ x. literals_of (ts ++ truth_of x ∷ [])) (is ∙ ap said.Constant e) ∙ end_false ts)

pub adds_true : (had : Option (List ℤ)) (s : Said) (b : Bool) → s ≡ said.Constant b → b ≡ true → Adds had (truth_of s ∷ []) None
adds_true had s b is e ts h = sym (ap (λ x. literals_of (ts ++ truth_of x ∷ [])) (is ∙ ap said.Constant e) ∙ end_true ts)

-- one after the other
pub adds_on : (old mid new : Option (List ℤ)) (xs ys : List Truth) → Adds old xs mid → Adds mid ys new → Adds old (xs ++ ys) new
adds_on old mid new xs ys p q ts h = q (ts ++ xs) (p ts h) ∙ ap literals_of (append_assoc ts xs ys)

no_more : (ts : List Truth) → ts ++ [] ≡ ts
no_more [] = refl
no_more (t ∷ ts) = ap (λ xs. t ∷ xs) (no_more ts)

pub on_ok : {T E : Type 0} (r : Result T E) (P Q : Type 0) → (P → Q) → OnOk r P → OnOk r Q
on_ok (Ok x) P Q f h = f h
on_ok (Err e) P Q f h = tt

-- ---- comparisons

pub never_reads : (atoms : List Atom) (x y : Lin) (n : Normal) → IsComparison x y n → ((t : Truth) → ReadsNormal atoms n t → ⊥) → (t : Truth) → ReadsAtMost atoms x y t → ⊥
never_reads atoms x y n h none t r = none t (subst (λ (m : Normal). ReadsNormal atoms m t) (same_comparison x y r.normal n r.is h) r.reads)

pub never_reads_wide : (atoms : List Atom) (x y : Lin) (z : ℤ) → IsWideComparison x y z → (t : Truth) → ReadsAtMost atoms x y t → ⊥
never_reads_wide atoms x y z w t r = never_wide x y r.normal r.is r.narrow z w

pub reads_of : (atoms : List Atom) (x y : Lin) (n : Normal) (r : Option Said) → IsLin x → IsLin y → IsComparison x y n → IsNarrowNormal n → MatchOption r ((t : Truth) → ReadsNormal atoms n t → ⊥) (λ s. ReadsNormal atoms n (truth_of s)) → MatchOption r ((t : Truth) → ReadsAtMost atoms x y t → ⊥) (λ s. ReadsAtMost atoms x y (truth_of s))
reads_of atoms x y n None p q h narrow none = never_reads atoms x y n h none
reads_of atoms x y n (Some s) p q h narrow reads = record { first = p; second = q; normal = n; is = h; narrow = narrow; reads = reads }

pub unread : (atoms : List Atom) (x y : Lin) (o : Option Said) → o ≡ None → MatchOption o ((t : Truth) → ReadsAtMost atoms x y t → ⊥) (λ s. ReadsAtMost atoms x y (truth_of s)) → (t : Truth) → ReadsAtMost atoms x y t → ⊥
unread atoms x y None e h t r = h t r
unread atoms x y (Some s) e h t r = cc

pub unread_at : (atoms : List Atom) (x y a b : Lin) → x ≡ a → y ≡ b → ((t : Truth) → ReadsAtMost atoms x y t → ⊥) → (t : Truth) → ReadsAtMost atoms a b t → ⊥
unread_at atoms x y a b e f h t r = h t (subst (λ (u : Lin). ReadsAtMost atoms u y t) (sym e) (subst (λ (u : Lin). ReadsAtMost atoms a u t) (sym f) r))

-- ---- arguments

pub same_length : (atoms : List Atom) (xs ys : List Lin) (more : List Truth) → Differ atoms xs ys more → length xs ≡ length ys
same_length atoms [] [] more d = refl
same_length atoms [] (y ∷ ys) more d = absurd d
same_length atoms (x ∷ xs) [] more d = absurd d
same_length atoms (x ∷ xs) (y ∷ ys) more d = ap suc (same_length atoms xs ys d.2 d.3.1.1.0)

drop_at : (xs : List Lin) (k : ℕ) (x : Lin) → k < length xs → x ≡ get_or xs k x → drop k xs ≡ x ∷ drop (k + 1) xs
drop_at xs k x p e = at_drop_more (λ (z : List Lin). z) xs k x p ∙ ap (λ (z : Lin). z ∷ drop (k + 1) xs) (sym e)

differ_as : (atoms : List Atom) (xs ys us vs : List Lin) (more : List Truth) → xs ≡ us → ys ≡ vs → Differ atoms xs ys more → Differ atoms us vs more
differ_as atoms xs ys us vs more e f d = subst (λ (z : List Lin). Differ atoms us z more) f (subst (λ (z : List Lin). Differ atoms z ys more) e d)

-- of those from the k-th, some are left
pub record Goes (atoms : List Atom) (xs ys : List Lin) (k : ℕ) (old new : Option (List ℤ)) : Type 0 where
  pub done : List Truth
  pub adds : Adds old done new
  pub on : (more : List Truth) → Differ atoms (drop k xs) (drop k ys) more → Differ atoms xs ys (done ++ more)
  pub back : (all : List Truth) → Differ atoms xs ys all → (more : List Truth) × Differ atoms (drop k xs) (drop k ys) more

-- the two at one place
pub record AreAt (xs ys : List Lin) (k : ℕ) (x y : Lin) : Type 0 where
  pub first : drop k xs ≡ x ∷ drop (k + 1) xs
  pub second : drop k ys ≡ y ∷ drop (k + 1) ys

pub are_at : (xs ys : List Lin) (k : ℕ) (x y : Lin) → length xs ≡ length ys → k < length xs → x ≡ get_or xs k x → y ≡ get_or ys k y → AreAt xs ys k x y
are_at xs ys k x y same p e f = record { first = drop_at xs k x p e; second = drop_at ys k y (omega (arith, same, p)) f }

pub goes_no_more : (atoms : List Atom) (xs ys : List Lin) (k : ℕ) (x y : Lin) (old mid new : Option (List ℤ)) (b : Bool) → AreAt xs ys k x y → Goes atoms xs ys k old mid → b ≡ false → AddsDifference atoms x y mid new b → (all : List Truth) → Differ atoms xs ys all → ⊥
goes_no_more atoms xs ys k x y old mid new true at g e a all d = cc
goes_no_more atoms xs ys k x y old mid new false at g e a all d =
    let r = g.back all d in
    let q = differ_as atoms (drop k xs) (drop k ys) (x ∷ drop (k + 1) xs) (y ∷ drop (k + 1) ys) r.0 at.first at.second r.1 in
    a q.0 q.1 q.3.0 q.3.1.0

pub goes_more : (atoms : List Atom) (xs ys : List Lin) (k : ℕ) (x y : Lin) (old mid new : Option (List ℤ)) (b : Bool) → AreAt xs ys k x y → Goes atoms xs ys k old mid → b ≡ true → AddsDifference atoms x y mid new b → Goes atoms xs ys (k + 1) old new
goes_more atoms xs ys k x y old mid new false at g e a = cc
goes_more atoms xs ys k x y old mid new true at g e a =
    let two = turned a.0 ∷ turned a.1 ∷ [] in
    record {
      done = g.done ++ two;
      adds = adds_on old mid new g.done two g.adds a.2.1.1;
      on = λ more d. subst (Differ atoms xs ys) (sym (append_assoc g.done two more)) (g.on (turned a.0 ∷ turned a.1 ∷ more) (differ_as atoms (x ∷ drop (k + 1) xs) (y ∷ drop (k + 1) ys) (drop k xs) (drop k ys) (turned a.0 ∷ turned a.1 ∷ more) (sym at.first) (sym at.second) (a.0, a.1, more, (a.2.0, (a.2.1.0, (d, refl))))));
      back = λ all d.
          let r = g.back all d in
          let q = differ_as atoms (drop k xs) (drop k ys) (x ∷ drop (k + 1) xs) (y ∷ drop (k + 1) ys) r.0 at.first at.second r.1 in
          (q.2, q.3.1.1.0);
    }

pub goes_all : (atoms : List Atom) (xs ys : List Lin) (k : ℕ) (old new : Option (List ℤ)) → length xs ≡ length ys → length xs ≤ k → Goes atoms xs ys k old new → (more : List Truth) × (Differ atoms xs ys more × Adds old more new)
goes_all atoms xs ys k old new same p g =
    (g.done, (subst (Differ atoms xs ys) (no_more g.done) (g.on [] (differ_as atoms [] [] (drop k xs) (drop k ys) [] (sym (drop_all k xs p)) (sym (drop_all k ys (omega (arith, same, p)))) refl)), g.adds))

-- ---- lemmas

pub lemma_made : (atoms : List Atom) (terms : List Opaque) (i j : ℕ) (a b : Opaque) (xs ys : List Lin) (none : List ℤ) (mid new : Option (List ℤ)) (t u : Bool) → slice_get terms i ≡ Some a → slice_get terms j ≡ Some b → i < 2 ^ 32 → j < 2 ^ 32 → a.symbol ≡ b.symbol → xs ≡ a.args → ys ≡ b.args → none ≡ [] → t ≡ true → AddsDifferences atoms xs ys (Some none) mid t → u ≡ true → AddsAtMost atoms i j mid new u → (truths : List Truth) × (IsCongruence atoms terms i j truths × (new ≡ literals_of truths))
lemma_made atoms terms i j a b xs ys none mid new t u p q l m same ex ey en et d eu e =
    let d = subst (AddsDifferences atoms xs ys (Some none) mid) et d in
    let e = subst (AddsAtMost atoms i j mid new) eu e in
    (d.0 ++ e.0 ∷ [], (record { a = a; b = b; first = p; second = q; short = (l, m); symbol = same; differ = d.0; arguments = differ_as atoms xs ys a.args b.args d.0 ex ey d.1.0; last = e.0; at_most = e.1.0; are = refl }, adds_on (Some none) mid new d.0 (e.0 ∷ []) d.1.1 e.1.1 [] (ap Some en)))

pub lemma_never : (atoms : List Atom) (terms : List Opaque) (i j : ℕ) (mid new : Option (List ℤ)) (u : Bool) → u ≡ false → AddsAtMost atoms i j mid new u → (truths : List Truth) → IsCongruence atoms terms i j truths → ⊥
lemma_never atoms terms i j mid new u eu e truths h = subst (AddsAtMost atoms i j mid new) eu e h.last h.at_most

-- ---- lines

pub takes_line : (clauses : Clauses) (s : State) (numbers : List ℤ) (i j : ℕ) (o : Option (Option (List ℤ))) (made : Option (List ℤ)) (lemmas : List (Option (List ℤ))) (rows : List Row) (negated : List ℤ) (due : ℕ) → s.due ≡ 0 → s.in_tree ≡ false → due ≡ 0 → numbers ≡ pos i ∷ pos j ∷ [] → o ≡ Some made → IsLemmaOf s.atoms clauses.terms i j o → lemmas ≡ s.lemmas ++ made ∷ [] → rows ≡ [] → negated ≡ []
    → Moves clauses s (line_of G numbers) (record { atoms = s.atoms; lemmas = lemmas; rows = rows; negated = negated; due = due; in_tree = false; ends = [] })
takes_line clauses s numbers i j o made lemmas rows negated due none flat past are is answer pushed no_rows no_negated =
    let r = subst (IsLemmaOf s.atoms clauses.terms i j) is answer in
    let longer : s.lemmas ++ literals_of r.0 ∷ [] ≡ lemmas = ap (λ (x : Option (List ℤ)). s.lemmas ++ x ∷ []) (sym r.1.1) ∙ sym pushed in
    let same : record { atoms = s.atoms; lemmas = s.lemmas ++ literals_of r.0 ∷ []; rows = []; negated = []; due = 0; in_tree = false; ends = [] } ≡ record { atoms = s.atoms; lemmas = lemmas; rows = rows; negated = negated; due = due; in_tree = false; ends = [] } =
    same_state s.atoms (s.lemmas ++ literals_of r.0 ∷ []) lemmas [] rows [] negated 0 due longer (sym no_rows) (sym no_negated) (sym past) in
    subst (Moves clauses s (line_of G numbers)) same (congruence s (line_of G numbers) i j r.0 none flat refl are r.1.0)
  where
    same_state : (atoms : List Atom) (lemmas others : List (Option (List ℤ))) (rows rows' : List Row) (negated negated' : List ℤ) (due due' : ℕ) → lemmas ≡ others → rows ≡ rows' → negated ≡ negated' → due ≡ due'
        → ◌≡◌ {A = State} (record { atoms = atoms; lemmas = lemmas; rows = rows; negated = negated; due = due; in_tree = false; ends = [] }) (record { atoms = atoms; lemmas = others; rows = rows'; negated = negated'; due = due'; in_tree = false; ends = [] })
    same_state atoms lemmas others rows rows' negated negated' due due' e f g h = λ t. record { atoms = atoms; lemmas = e t; rows = f t; negated = g t; due = h t; in_tree = false; ends = [] }

-- a line of congruence is of a lemma of its two terms
of_line : (clauses : Clauses) (s : State) (line : CertLine) (t : State) → Moves clauses s line t → line.kind ≡ G → (i j : ℕ) → line.numbers ≡ pos i ∷ pos j ∷ [] → (truths : List Truth) × IsCongruence s.atoms clauses.terms i j truths
of_line _ _ _ _ (atom _ _ _ _ _ k _ _ _ _) e i j n = absurd cc
of_line clauses s _ _ (congruence _ _ a b truths _ _ k m h) e i j n = (truths, subst (λ (z : ℕ). IsCongruence s.atoms clauses.terms i z truths) (second_same m n) (subst (λ (z : ℕ). IsCongruence s.atoms clauses.terms z b truths) (first_same m n) h))
  where
    first_same : {ns : List ℤ} {a b c d : ℕ} → ns ≡ pos a ∷ pos b ∷ [] → ns ≡ pos c ∷ pos d ∷ [] → a ≡ c
    first_same p q = cc

    second_same : {ns : List ℤ} {a b c d : ℕ} → ns ≡ pos a ∷ pos b ∷ [] → ns ≡ pos c ∷ pos d ∷ [] → b ≡ d
    second_same p q = cc
of_line _ _ _ _ (linear _ _ _ _ _ _ _ k _ _ _) e i j n = absurd cc
of_line _ _ _ _ (step _ _ _ _ _ k _ _ _ _) e i j n = absurd cc
of_line _ _ _ _ (last _ _ _ _ k _ _ _ _ _) e i j n = absurd cc
of_line _ _ _ _ (split _ _ _ _ _ _ k _ _ _) e i j n = absurd cc
of_line _ _ _ _ (clause _ _ _ _ _ _ _ k _ _ _ _) e i j n = absurd cc
of_line _ _ _ _ (lemma _ _ _ _ _ _ _ k _ _ _ _) e i j n = absurd cc

pub never_line : (clauses : Clauses) (s : State) (numbers : List ℤ) (i j : ℕ) (o : Option (Option (List ℤ))) → numbers ≡ pos i ∷ pos j ∷ [] → o ≡ None → IsLemmaOf s.atoms clauses.terms i j o → (t : State) → Moves clauses s (line_of G numbers) t → ⊥
never_line clauses s numbers i j o are is answer t move =
    let r = of_line clauses s (line_of G numbers) t move refl i j are in
    subst (IsLemmaOf s.atoms clauses.terms i j) is answer r.0 r.1
