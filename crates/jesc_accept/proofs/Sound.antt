-- An accepted certificate shows that the clauses have no countermodel.
use Rattle.std.proofs.Common.{◌≡◌, ℕ, zero, suc, Bool, true, false, List, [], ◌∷◌, ◌++◌, length, set, replicate, ℤ, pos, negsuc, ◌⊎◌, inl, inr, Option, Some, None, refl, sym, ap, ◌∙◌, subst}
use Rattle.std.proofs.lemmas.List.Elements.{All-nil, All-push, All-weaker, All-get_or}
use Rattle.std.proofs.lemmas.List.Folds.{list_any_none}
use Rattle.std.proofs.lemmas.Option.{slice_get_within, get_or_from_slice_get}
use Rattle.std.specs.Prelude.{◌||◌, not, All, IsTrue, slice_get}
use Rattle.jesc_linear.specs.Rows.{Meets}
use Rattle.jesc_cert.specs.declared.cert.CertLine.{CertLine}
use Rattle.jesc_logic.proofs.Lists.{at_seam}
use Rattle.jesc_clauses.specs.declared.atom.Atom.{Atom}
use Rattle.jesc_clauses.specs.declared.clause.Clauses.{Clauses}
use Rattle.jesc_clauses.specs.Countermodels.{is_met_some, is_unmet_some, is_true_literal, is_true_clause, IsCountermodel}
use Rattle.jesc_clauses.proofs.Terms.{nat_or_not}
use Rattle.jesc_accept.specs.Branches.{Branch, root, IsFalseOn, AreFalseOn, Agrees}
use Rattle.jesc_accept.specs.Lemmas.{literals_of}
use Rattle.jesc_accept.specs.Moves.{State, start, branches, Moves, MovesOn, atom, congruence, linear, step, last, split, clause, lemma, none, more}
use Rattle.jesc_accept.specs.declared.verdict.Accept.{Accept}
use Rattle.jesc_accept.specs.declared.verdict.Accept.TheVariants.{Yes, No}
use Rattle.jesc_accept.specs.Verdicts.{IsClosed, IsAccepted, Judges, HaveNone}
use Rattle.jesc_accept.proofs.Rows.{rows_or_turned, step_is_met, absurd_is_met}
use Rattle.jesc_accept.proofs.Congruent.{congruence_holds, literals_say}

-- ---- what is true stays so where an atom is added

met_longer : (v : ℕ → ℤ) (atoms added : List Atom) (k : ℕ) → is_met_some v (slice_get atoms k) ≡ true → is_met_some v (slice_get (atoms ++ added) k) ≡ true
met_longer v [] added k e = cc
met_longer v (a ∷ atoms) added zero e = e
met_longer v (a ∷ atoms) added (suc k) e = met_longer v atoms added k e

unmet_longer : (v : ℕ → ℤ) (atoms added : List Atom) (k : ℕ) → is_unmet_some v (slice_get atoms k) ≡ true → is_unmet_some v (slice_get (atoms ++ added) k) ≡ true
unmet_longer v [] added k e = cc
unmet_longer v (a ∷ atoms) added zero e = e
unmet_longer v (a ∷ atoms) added (suc k) e = unmet_longer v atoms added k e

literal_longer : (v : ℕ → ℤ) (atoms added : List Atom) (k : ℤ) → is_true_literal v atoms k ≡ true → is_true_literal v (atoms ++ added) k ≡ true
literal_longer v atoms added (pos zero) e = e
literal_longer v atoms added (pos (suc k)) e = met_longer v atoms added k e
literal_longer v atoms added (negsuc k) e = unmet_longer v atoms added k e

or_both : (a b c d : Bool) → (a ≡ true → c ≡ true) → (b ≡ true → d ≡ true) → (a || b) ≡ true → (c || d) ≡ true
or_both true b c d f g e = let h = f refl in ap (λ x. x || d) h
or_both false b true d f g e = refl
or_both false b false d f g e = g e

clause_longer : (v : ℕ → ℤ) (atoms added : List Atom) (literals : List ℤ) → is_true_clause v atoms literals ≡ true → is_true_clause v (atoms ++ added) literals ≡ true
clause_longer v atoms added [] e = e
clause_longer v atoms added (k ∷ literals) e = or_both (is_true_literal v atoms k) (is_true_clause v atoms literals) (is_true_literal v (atoms ++ added) k) (is_true_clause v (atoms ++ added) literals) (literal_longer v atoms added k) (clause_longer v atoms added literals) e

-- ---- branches

no_truth : (n k : ℕ) (truth : Bool) → slice_get (replicate n None) k ≡ Some (Some truth) → ⊥
no_truth zero k truth e = cc
no_truth (suc n) zero truth e = cc
no_truth (suc n) (suc k) truth e = no_truth n k truth e

root_agrees : (v : ℕ → ℤ) (atoms : List Atom) (n : ℕ) → Agrees v atoms (root n)
root_agrees v atoms n k truth e = absurd (no_truth n k truth e)

set_here : {X : Type 0} (b : List X) (a : ℕ) (x y : X) → slice_get b a ≡ Some y → slice_get (set b a x) a ≡ Some x
set_here [] a x y e = cc
set_here (z ∷ b) zero x y e = refl
set_here (z ∷ b) (suc a) x y e = set_here b a x y e

set_other : {X : Type 0} (b : List X) (a k : ℕ) (x : X) → (k ≡ a → ⊥) → slice_get (set b a x) k ≡ slice_get b k
set_other [] a k x n = refl
set_other (z ∷ b) zero zero x n = absurd (n refl)
set_other (z ∷ b) zero (suc k) x n = refl
set_other (z ∷ b) (suc a) zero x n = refl
set_other (z ∷ b) (suc a) (suc k) x n = set_other b a k x (λ e. n (ap suc e))

set_agrees : (v : ℕ → ℤ) (atoms : List Atom) (b : Branch) (a : ℕ) (x : Bool) → slice_get b a ≡ Some None → Agrees v atoms b → is_true_literal v atoms (pos (suc a)) ≡ x → Agrees v atoms (set b a (Some x))
set_agrees v atoms b a x free f is k y e = elim (nat_or_not k a) [
  | inl s ↦
      let here : slice_get (set b a (Some x)) a ≡ Some (Some y) = subst (λ (n : ℕ). slice_get (set b a (Some x)) n ≡ Some (Some y)) s e in
      let there = set_here b a (Some x) None free in
      let same : x ≡ y = cc in
      subst (λ (n : ℕ). is_true_literal v atoms (pos (suc n)) ≡ y) (sym s) (is ∙ same)
  | inr n ↦ f k y (sym (set_other b a k (Some x) n) ∙ e)
]

-- some open branch agrees
abbrev pub Covers : (ℕ → ℤ) → List Atom → List Branch → Type 0
Covers v atoms [] = ⊥
Covers v atoms (b ∷ bs) = Agrees v atoms b ⊎ Covers v atoms bs

split_covers : (v : ℕ → ℤ) (atoms : List Atom) (b : Branch) (rest : List Branch) (a : ℕ) → slice_get b a ≡ Some None → Covers v atoms (b ∷ rest) → Covers v atoms (set b a (Some true) ∷ set b a (Some false) ∷ rest)
split_covers v atoms b rest a free (inr others) = inr (inr others)
split_covers v atoms b rest a free (inl f) = by (is_true_literal v atoms (pos (suc a))) refl
  where
    by : (x : Bool) → is_true_literal v atoms (pos (suc a)) ≡ x → Covers v atoms (set b a (Some true) ∷ set b a (Some false) ∷ rest)
    by true e = inl (set_agrees v atoms b a true free f e)
    by false e = inr (inl (set_agrees v atoms b a false free f e))

unmet_of_met : (v : ℕ → ℤ) (o : Option Atom) → is_met_some v o ≡ true → is_unmet_some v o ≡ false
unmet_of_met v None e = refl
unmet_of_met v (Some a) e = ap not e

false_on : (v : ℕ → ℤ) (atoms : List Atom) (b : Branch) → Agrees v atoms b → (k : ℤ) → IsFalseOn b k → is_true_literal v atoms k ≡ false
false_on v atoms b f (pos zero) out = refl
false_on v atoms b f (pos (suc k)) out = f k false out
false_on v atoms b f (negsuc k) out = unmet_of_met v (slice_get atoms k) (f k true out)

all_false_on : (v : ℕ → ℤ) (atoms : List Atom) (b : Branch) → Agrees v atoms b → (literals : List ℤ) → AreFalseOn b literals → is_true_clause v atoms literals ≡ false
all_false_on v atoms b f literals out = list_any_none (is_true_literal v atoms) literals (All-weaker (IsFalseOn b) (λ k. is_true_literal v atoms k ≡ false) (λ k o. false_on v atoms b f k o) literals out)

leaf_covers : (v : ℕ → ℤ) (atoms : List Atom) (b : Branch) (rest : List Branch) (literals : List ℤ) → AreFalseOn b literals → is_true_clause v atoms literals ≡ true → Covers v atoms (b ∷ rest) → Covers v atoms rest
leaf_covers v atoms b rest literals out t (inr others) = others
leaf_covers v atoms b rest literals out t (inl f) = let no = all_false_on v atoms b f literals out in absurd (cc)

-- ---- the invariant

at : {X : Type 0} (P : X → Type 0) (xs : List X) (k : ℕ) (x : X) → All P xs → slice_get xs k ≡ Some x → P x
at P xs k x all e = subst P (get_or_from_slice_get xs k x x e) (All-get_or P xs k x (slice_get_within xs k x e) all)

-- where terms have the numbers that v gives: the clauses and lemmas are true, the rows of the open lemma are met or it is
-- true, and some open branch agrees
record Keeps (clauses : Clauses) (v : ℕ → ℤ) (s : State) : Type 0 where
  true_clauses : All (λ literals. IsTrue (is_true_clause v s.atoms literals)) clauses.clauses
  true_lemmas : (k : ℕ) (literals : List ℤ) → slice_get s.lemmas k ≡ Some (Some literals) → is_true_clause v s.atoms literals ≡ true
  rows : All (Meets v) s.rows ⊎ (is_true_clause v s.atoms s.negated ≡ true)
  covers : Covers v s.atoms (branches s)

start_keeps : (clauses : Clauses) (v : ℕ → ℤ) → IsCountermodel clauses v → Keeps clauses v (start clauses)
start_keeps clauses v model = record {
  true_clauses = model.true;
  true_lemmas = λ k literals e. cc;
  rows = inl (All-nil (Meets v));
  covers = inl (root_agrees v clauses.atoms (length clauses.atoms));
}

-- one more lemma
with_lemma : (v : ℕ → ℤ) (atoms : List Atom) (lemmas : List (Option (List ℤ))) (new : Option (List ℤ))
    → ((k : ℕ) (literals : List ℤ) → slice_get lemmas k ≡ Some (Some literals) → is_true_clause v atoms literals ≡ true)
    → ((literals : List ℤ) → new ≡ Some literals → is_true_clause v atoms literals ≡ true)
    → (k : ℕ) (literals : List ℤ) → slice_get (lemmas ++ new ∷ []) k ≡ Some (Some literals) → is_true_clause v atoms literals ≡ true
with_lemma v atoms lemmas new old here k literals e = elim (at_seam lemmas new k (Some literals) e) [ inl h ↦ old k literals h | inr h ↦ here literals h.1 ]

move_keeps : (clauses : Clauses) (v : ℕ → ℤ) → IsCountermodel clauses v → (s : State) (line : CertLine) (t : State) → Keeps clauses v s → Moves clauses s line t → Keeps clauses v t
move_keeps clauses v model s line t h (atom _ _ a due tree kind are normal narrow there) = record {
  true_clauses = All-weaker (λ literals. IsTrue (is_true_clause v s.atoms literals)) (λ literals. IsTrue (is_true_clause v (s.atoms ++ a ∷ []) literals)) (clause_longer v s.atoms (a ∷ [])) clauses.clauses h.true_clauses;
  true_lemmas = λ k literals e. clause_longer v s.atoms (a ∷ []) literals (h.true_lemmas k literals e);
  rows = inl (All-nil (Meets v));
  covers = inl (root_agrees v (s.atoms ++ a ∷ []) (length (s.atoms ++ a ∷ [])));
}
move_keeps clauses v model s line t h (congruence _ _ i j truths due tree kind are w) = record {
  true_clauses = h.true_clauses;
  true_lemmas = with_lemma v s.atoms s.lemmas (literals_of truths) h.true_lemmas (λ literals e. sym (literals_say v s.atoms truths literals e) ∙ congruence_holds clauses v model s.atoms i j truths w);
  rows = inl (All-nil (Meets v));
  covers = inl (root_agrees v s.atoms (length s.atoms));
}
move_keeps clauses v model s line t h (linear _ _ literals rows steps due tree kind are some of_them) = record {
  true_clauses = h.true_clauses;
  true_lemmas = h.true_lemmas;
  rows = rows_or_turned v s.atoms literals rows of_them;
  covers = inl (root_agrees v s.atoms (length s.atoms));
}
move_keeps clauses v model s line t h (step _ _ steps l due kind are numbers there w) = record {
  true_clauses = h.true_clauses;
  true_lemmas = h.true_lemmas;
  rows = elim h.rows [ inl met ↦ inl (All-push (Meets v) s.rows l.row met (step_is_met v s.rows l met w)) | inr one ↦ inr one ];
  covers = inl (root_agrees v s.atoms (length s.atoms));
}
move_keeps clauses v model s line t h (last _ _ l due kind are numbers there w none_meet) = record {
  true_clauses = h.true_clauses;
  true_lemmas = with_lemma v s.atoms s.lemmas (Some s.negated) h.true_lemmas (λ literals e.
      let same : s.negated ≡ literals = cc in
      elim h.rows [
        | inl met ↦ absurd (absurd_is_met v l none_meet (step_is_met v s.rows l met w))
        | inr one ↦ subst (λ (ks : List ℤ). is_true_clause v s.atoms ks ≡ true) same one
      ]);
  rows = inl (All-nil (Meets v));
  covers = inl (root_agrees v s.atoms (length s.atoms));
}
move_keeps clauses v model s line t h (split _ _ a b rest due kind are open_ones free) = record {
  true_clauses = h.true_clauses;
  true_lemmas = h.true_lemmas;
  rows = inl (All-nil (Meets v));
  covers = split_covers v s.atoms b rest a free (subst (Covers v s.atoms) open_ones h.covers);
}
move_keeps clauses v model s line t h (clause _ _ k b rest literals due kind are open_ones found out) = record {
  true_clauses = h.true_clauses;
  true_lemmas = h.true_lemmas;
  rows = inl (All-nil (Meets v));
  covers = leaf_covers v s.atoms b rest literals out (at (λ ks. IsTrue (is_true_clause v s.atoms ks)) clauses.clauses k literals h.true_clauses found) (subst (Covers v s.atoms) open_ones h.covers);
}
move_keeps clauses v model s line t h (lemma _ _ k b rest literals due kind are open_ones found out) = record {
  true_clauses = h.true_clauses;
  true_lemmas = h.true_lemmas;
  rows = inl (All-nil (Meets v));
  covers = leaf_covers v s.atoms b rest literals out (h.true_lemmas k literals found) (subst (Covers v s.atoms) open_ones h.covers);
}

moves_keep : (clauses : Clauses) (v : ℕ → ℤ) → IsCountermodel clauses v → (s : State) (lines : List CertLine) (t : State) → Keeps clauses v s → MovesOn clauses s lines t → Keeps clauses v t
moves_keep clauses v model s lines t h (none _) = h
moves_keep clauses v model s lines t h (more _ u _ before line m last_move) = move_keeps clauses v model u line t (moves_keep clauses v model s before u h m) last_move

-- where the tree is closed no branch agrees
none_covers : (v : ℕ → ℤ) (s : State) → IsClosed s → Covers v s.atoms (branches s) → ⊥
none_covers v s closed h = let e : branches s ≡ [] = branches_none s closed.begun closed.none in subst (Covers v s.atoms) e h
  where
    branches_none : (u : State) → u.in_tree ≡ true → u.ends ≡ [] → branches u ≡ []
    branches_none u begun e = simp begun e

pub sound : (clauses : Clauses) (lines : List CertLine) → IsAccepted clauses lines → HaveNone clauses
sound clauses lines accepted v model = none_covers v accepted.state accepted.closed (moves_keep clauses v model (start clauses) lines accepted.state (start_keeps clauses v model) accepted.moves).covers

-- as the call says it
pub yes_is_sound : (clauses : Clauses) (lines : List CertLine) (answer : Accept) → Judges clauses lines answer → answer ≡ Yes → HaveNone clauses
yes_is_sound clauses lines Yes judged e = sound clauses lines judged
yes_is_sound clauses lines (No n) judged e = absurd (cc)
