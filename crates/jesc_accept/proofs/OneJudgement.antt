-- A certificate has one judgement at most.
use Rattle.std.proofs.Common.{◌≡◌, ℕ, zero, suc, ◌<◌, ◌≤◌, List, [], ◌∷◌, ◌++◌, length, take, Some, slice_get, inl, inr, refl, sym, ◌∙◌, subst, arith}
use Rattle.std.proofs.lemmas.Bool.{cases_lt}
use Rattle.std.proofs.lemmas.List.{take_all, take-take, take-append-le}
use Rattle.jesc_cert.specs.declared.cert.CertLine.{CertLine}
use Rattle.jesc_logic.proofs.Lists.{at_seam, within}
use Rattle.jesc_clauses.specs.declared.clause.Clauses.{Clauses}
use Rattle.jesc_clauses.proofs.Terms.{nat_or_not}
use Rattle.jesc_accept.specs.Moves.{State, start, Moves, MovesOn, none, more}
use Rattle.jesc_accept.specs.Verdicts.{IsClosed, IsAccepted, IsFirstBad}
use Rattle.jesc_accept.proofs.OneState.{one_state}
use Rattle.jesc_accept.proofs.Taking.{snoc_same}

-- ---- lines make one state at most

no_end : (xs : List CertLine) (x : CertLine) → [] ≡ xs ++ x ∷ [] → ⊥
no_end [] x e = cc
no_end (y ∷ xs) x e = cc

one_run : (cl : Clauses) (s t u : State) (xs ys : List CertLine) → MovesOn cl s xs t → MovesOn cl s ys u → xs ≡ ys → t ≡ u
one_run cl s t u xs ys (none _) (none _) e = refl
one_run cl s t u xs ys (none _) (more _ b _ before y m move) e = absurd (no_end before y e)
one_run cl s t u xs ys (more _ a _ before x m move) (none _) e = absurd (no_end before x (sym e))
one_run cl s t u xs ys (more _ a _ first x m move) (more _ b _ second y k other) e =
    let same = snoc_same first second x y e in
    let here : a ≡ b = one_run cl s a b first second m k same.0 in
    one_state cl b t u y (subst (λ (l : CertLine). Moves cl b l t) same.1 (subst (λ (c : State). Moves cl c x t) here move)) other

-- ---- a line that was taken

-- the state before the line, and that after it
record WasTaken (cl : Clauses) (s : State) (lines : List CertLine) (n : ℕ) (line : CertLine) : Type 0 where
  before : State
  after : State
  moves : MovesOn cl s (take n lines) before
  move : Moves cl before line after

was_taken : (cl : Clauses) (s t : State) (lines : List CertLine) (n : ℕ) (line : CertLine) → MovesOn cl s lines t → slice_get lines n ≡ Some line → WasTaken cl s lines n line
was_taken cl s t lines n line (none _) e = cc
was_taken cl s t lines n line (more _ u _ front x m move) e = elim (at_seam front x n line e) [
  | inl there ↦
      let r = was_taken cl s u front n line m there in
      let l = within front n line there in
      record { before = r.before; after = r.after; moves = subst (λ (ls : List CertLine). MovesOn cl s ls r.before) (sym (take-append-le n front (x ∷ []) (omega (arith, l)))) r.moves; move = r.move }
  | inr here ↦
      let all : take n (front ++ x ∷ []) ≡ front = take-append-le n front (x ∷ []) (omega (arith, here.0)) ∙ take_all n front (omega (arith, here.0)) in
      record { before = u; after = t; moves = subst (λ (ls : List CertLine). MovesOn cl s ls u) (sym all) m; move = subst (λ (l : CertLine). Moves cl u l t) here.1 move }
]

-- ---- judgements

-- a line that doesn't fit wasn't taken
not_taken : (cl : Clauses) (lines : List CertLine) (n : ℕ) (line : CertLine) → IsFirstBad cl lines n → slice_get lines n ≡ Some line → WasTaken cl (start cl) lines n line → ⊥
not_taken cl lines n line bad at w =
    let same : w.before ≡ bad.state = one_run cl (start cl) w.before bad.state (take n lines) (take n lines) w.moves bad.moves refl in
    bad.bad line at w.after (subst (λ (c : State). Moves cl c line w.after) same w.move)

pub yes_or_no : (cl : Clauses) (lines : List CertLine) (n : ℕ) → IsAccepted cl lines → IsFirstBad cl lines n → ⊥
yes_or_no cl lines n accepted bad = elim (nat_or_not (length lines) n) [
  | inl whole ↦
      let all : take n lines ≡ lines = take_all n lines (omega (arith, whole)) in
      let same : accepted.state ≡ bad.state = one_run cl (start cl) accepted.state bad.state lines (take n lines) accepted.moves bad.moves (sym all) in
      bad.unfinished whole (subst IsClosed same accepted.closed)
  | inr less ↦
      let r = bad.within less in
      not_taken cl lines n r.0 bad r.1 (was_taken cl (start cl) accepted.state lines n r.0 accepted.moves r.1)
]

get_taken : (lines : List CertLine) (m n : ℕ) → m < n → slice_get (take n lines) m ≡ slice_get lines m
get_taken lines m zero p = absurd (omega (arith, p))
get_taken [] m (suc n) p = refl
get_taken (x ∷ lines) zero (suc n) p = refl
get_taken (x ∷ lines) (suc m) (suc n) p = get_taken lines m n (omega (arith, p))

-- the line is there, or all are
up_to_all : (cl : Clauses) (lines : List CertLine) (n : ℕ) → IsFirstBad cl lines n → n ≤ length lines
up_to_all cl lines n bad = elim (nat_or_not (length lines) n) [
  | inl e ↦ omega (arith, e)
  | inr d ↦ let r = bad.within d in let l = within lines n r.0 r.1 in omega (arith, l)
]

-- no line before the first bad one is bad
none_before : (cl : Clauses) (lines : List CertLine) (m n : ℕ) → IsFirstBad cl lines m → IsFirstBad cl lines n → m < n → ⊥
none_before cl lines m n p q l =
    let most = up_to_all cl lines n q in
    let r = p.within (λ e. omega (arith, l, most, e)) in
    let w = was_taken cl (start cl) q.state (take n lines) m r.0 q.moves (get_taken lines m n l ∙ r.1) in
    not_taken cl lines m r.0 p r.1 (record { before = w.before; after = w.after; moves = subst (λ (ls : List CertLine). MovesOn cl (start cl) ls w.before) (take-take m n lines (omega (arith, l))) w.moves; move = w.move })

pub one_line : (cl : Clauses) (lines : List CertLine) (m n : ℕ) → IsFirstBad cl lines m → IsFirstBad cl lines n → m ≡ n
one_line cl lines m n p q = elim (cases_lt m n) [
  | inl l ↦ absurd (none_before cl lines m n p q l)
  | inr l ↦ elim (cases_lt n m) [
    | inl k ↦ absurd (none_before cl lines n m q p k)
    | inr k ↦ omega (arith, l, k)
  ]
]
