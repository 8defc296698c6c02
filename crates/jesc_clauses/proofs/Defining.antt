-- A literal that is defined as the conjunction of two.
use Rattle.std.proofs.Common.{to_z, of_z, ◌≡◌, ◌==◌, Bool, true, false, ℕ, zero, suc, ◌+◌, ◌<◌, ◌≤◌, ◌^◌, ℤ, pos, negsuc, List, [], ◌∷◌, ◌++◌, length, map, Some, slice_get, if◌then◌else◌, refl, sym, ap, ◌∙◌, subst, arith, ◌⊎◌, inl, inr, length-append, append_assoc}
use Rattle.std.proofs.lemmas.Int.{ints, to_z-of_z, fits_signed_from_abs}
use Rattle.std.specs.Int.{w32}
use Rattle.std.proofs.lemmas.List.{map-append}
use Rattle.std.proofs.lemmas.List.Sums.{sum_by-append}
use Rattle.std.proofs.lemmas.Bool.Decides.{nat_tests}
use Rattle.std.proofs.Math.Nat.{eq-one_of_dvd-one}
use Rattle.std.proofs.Math.IntN.{◌+ℤ◌, ◌-ℤ◌, ◌*ℤ◌, neg_ℤ, zero-*ℤ, suc_ℤ-*ℤ}
use Rattle.std.proofs.lemmas.List.Elements.{All-nil, All-cons, All-append, All-weaker}
use Rattle.std.specs.Prelude.{All, IsTrue, not, unsigned_abs, ◌||◌, ◌&&◌, int_le, sum}
use Rattle.jesc_linear.specs.Forms.{IsNonzero}
use Rattle.jesc_logic.specs.Terms.{Term}
use Rattle.jesc_logic.proofs.Lists.{get_last, at_seam}
use Rattle.jesc_clauses.specs.declared.atom.Atom.{Atom}
use Rattle.jesc_clauses.specs.declared.clause.Opaque.{Opaque}
use Rattle.jesc_clauses.specs.declared.builder.Builder.{Builder}
use Rattle.jesc_clauses.specs.declared.builder.Truth.TheVariants.{Literal}
use Rattle.jesc_clauses.specs.Countermodels.{is_met_some, is_true_literal, is_true_clause}
use Rattle.jesc_clauses.specs.Merges.{IsWithin}
use Rattle.jesc_clauses.specs.Clausified.{size_of, IsLiteral, IsScopedAtom, AreScoped}
use Rattle.jesc_clauses.specs.Builders.{AreTrue, IsSameBelow, count_of, IsDefined, IsBuilt, IsExtended, IsAtomPut, IsClausePut, IsTermPut, IsTold, IsBoth}
use Rattle.jesc_clauses.proofs.Merging.{IsUnder}
use Rattle.jesc_clauses.proofs.Truths.{literal_same, literal_kept, literal_turned, literal_is_turned, true_behind}

-- ---- three clauses

abbrev clauses_of : ℤ → ℤ → ℤ → List (List ℤ)
clauses_of d a b = (neg_ℤ d ∷ a ∷ []) ∷ (neg_ℤ d ∷ b ∷ []) ∷ (d ∷ neg_ℤ a ∷ neg_ℤ b ∷ []) ∷ []

first_holds : (p q : Bool) → IsTrue (not (p && q) || (p || false))
first_holds true true = refl
first_holds true false = refl
first_holds false q = refl

second_holds : (p q : Bool) → IsTrue (not (p && q) || (q || false))
second_holds true true = refl
second_holds true false = refl
second_holds false q = refl

third_holds : (p q : Bool) → IsTrue ((p && q) || (not p || (not q || false)))
third_holds true true = refl
third_holds true false = refl
third_holds false q = refl

is_both : (r p q : Bool) → IsTrue (not r || (p || false)) → IsTrue (not r || (q || false)) → IsTrue (r || (not p || (not q || false))) → r ≡ (p && q)
is_both true true true h k l = refl
is_both true true false h k l = cc
is_both true false q h k l = cc
is_both false true true h k l = cc
is_both false true false h k l = refl
is_both false false q h k l = refl

module _ (v : ℕ → ℤ) (atoms : List Atom) (d a b : ℤ) (hd : IsLiteral (length atoms) d) (ha : IsLiteral (length atoms) a) (hb : IsLiteral (length atoms) b) where
  abbrev so : ℤ → Bool
  so k = is_true_literal v atoms k

  first_is : is_true_clause v atoms (neg_ℤ d ∷ a ∷ []) ≡ (not (so d) || (so a || false))
  first_is = λ i. literal_turned v atoms d hd i || (so a || false)

  second_is : is_true_clause v atoms (neg_ℤ d ∷ b ∷ []) ≡ (not (so d) || (so b || false))
  second_is = λ i. literal_turned v atoms d hd i || (so b || false)

  third_is : is_true_clause v atoms (d ∷ neg_ℤ a ∷ neg_ℤ b ∷ []) ≡ (so d || (not (so a) || (not (so b) || false)))
  third_is = λ i. so d || (literal_turned v atoms a ha i || (literal_turned v atoms b hb i || false))

  abbrev IsSo : List ℤ → Type 0
  IsSo literals = IsTrue (is_true_clause v atoms literals)

  -- the clauses are true exactly where the literal is the conjunction
  defines : AreTrue v atoms (clauses_of d a b) → so d ≡ (so a && so b)
  defines h = is_both (so d) (so a) (so b) (subst IsTrue first_is (h 0 [] (omega arith))) (subst IsTrue second_is (h 1 [] (omega arith))) (subst IsTrue third_is (h 2 [] (omega arith)))

  defined_true : so d ≡ (so a && so b) → AreTrue v atoms (clauses_of d a b)
  defined_true e =
      All-cons IsSo (neg_ℤ d ∷ a ∷ []) ((neg_ℤ d ∷ b ∷ []) ∷ (d ∷ neg_ℤ a ∷ neg_ℤ b ∷ []) ∷ []) (subst IsTrue (sym (first_is ∙ ap (λ r. not r || (so a || false)) e)) (first_holds (so a) (so b)))
      (All-cons IsSo (neg_ℤ d ∷ b ∷ []) ((d ∷ neg_ℤ a ∷ neg_ℤ b ∷ []) ∷ []) (subst IsTrue (sym (second_is ∙ ap (λ r. not r || (so b || false)) e)) (second_holds (so a) (so b)))
      (All-cons IsSo (d ∷ neg_ℤ a ∷ neg_ℤ b ∷ []) [] (subst IsTrue (sym (third_is ∙ ap (λ r. r || (not (so a) || (not (so b) || false))) e)) (third_holds (so a) (so b))) (All-nil IsSo)))

-- ---- the atom 'the term of number n is at most 0'

abbrev atom_of : ℕ → Atom
atom_of n = record { form = (pos 1, n) ∷ []; bound = pos 0 }

atom_scoped : (n m : ℕ) → n < m → IsScopedAtom m (atom_of n)
atom_scoped n m h = record {
  below = All-cons (IsUnder m) (pos 1, n) [] h (All-nil (IsUnder m));
  normal = record {
    sorted = record { rises = (omega arith, tt); nonzero = All-cons IsNonzero (pos 1, n) [] (λ e. cc) (All-nil IsNonzero) };
    first = omega (arith, ints);
    divisor = λ d k. eq-one_of_dvd-one k.0;
  };
  narrow = record { within = All-cons (IsWithin (2 ^ 31)) (pos 1, n) [] (omega arith) (All-nil (IsWithin (2 ^ 31))); small = omega arith };
}

scoped_later : (m n : ℕ) → m ≤ n → (atoms : List Atom) → All (IsScopedAtom m) atoms → All (IsScopedAtom n) atoms
scoped_later m n l atoms all =
    All-weaker (IsScopedAtom m) (IsScopedAtom n)
    (λ atom s. record { below = All-weaker (IsUnder m) (IsUnder n) (λ part p. omega (arith, p, l)) atom.form s.below; normal = s.normal; narrow = s.narrow }) atoms all

abbrev AreLiterals : ℕ → List ℤ → Type 0
AreLiterals n literals = All (IsLiteral n) literals

literals_later : (m n : ℕ) → m ≤ n → (clauses : List (List ℤ)) → All (AreLiterals m) clauses → All (AreLiterals n) clauses
literals_later m n l clauses all =
    All-weaker (AreLiterals m) (AreLiterals n) (λ literals h. All-weaker (IsLiteral m) (IsLiteral n) (λ k p. (p.0, omega (arith, p.1, l))) literals h) clauses all

clauses_are : (n : ℕ) (d a b : ℤ) → IsLiteral n d → IsLiteral n a → IsLiteral n b → All (AreLiterals n) (clauses_of d a b)
clauses_are n d a b hd ha hb =
    All-cons (AreLiterals n) (neg_ℤ d ∷ a ∷ []) ((neg_ℤ d ∷ b ∷ []) ∷ (d ∷ neg_ℤ a ∷ neg_ℤ b ∷ []) ∷ []) (two (neg_ℤ d) a (literal_is_turned n d hd) ha)
    (All-cons (AreLiterals n) (neg_ℤ d ∷ b ∷ []) ((d ∷ neg_ℤ a ∷ neg_ℤ b ∷ []) ∷ []) (two (neg_ℤ d) b (literal_is_turned n d hd) hb)
    (All-cons (AreLiterals n) (d ∷ neg_ℤ a ∷ neg_ℤ b ∷ []) [] (All-cons (IsLiteral n) d (neg_ℤ a ∷ neg_ℤ b ∷ []) hd (two (neg_ℤ a) (neg_ℤ b) (literal_is_turned n a ha) (literal_is_turned n b hb))) (All-nil (AreLiterals n))))
  where
    two : (x y : ℤ) → IsLiteral n x → IsLiteral n y → AreLiterals n (x ∷ y ∷ [])
    two x y hx hy = All-cons (IsLiteral n) x (y ∷ []) hx (All-cons (IsLiteral n) y [] hy (All-nil (IsLiteral n)))

one_times : (x : ℤ) → pos 1 *ℤ x +ℤ pos 0 ≡ x
one_times x = omega (arith, ints, suc_ℤ-*ℤ (pos 0) x, zero-*ℤ x)

atom_is : (v : ℕ → ℤ) (atoms : List Atom) (n : ℕ) → is_true_literal v (atoms ++ atom_of n ∷ []) (pos (suc (length atoms))) ≡ int_le (v n) (pos 0)
atom_is v atoms n = ap (is_met_some v) (get_last atoms (atom_of n)) ∙ ap (λ x. int_le x (pos 0)) (one_times (v n))

-- ---- other numbers

abbrev chosen : Bool → ℤ
chosen true = pos 0
chosen false = pos 1

chosen_is : (r : Bool) → int_le (chosen r) (pos 0) ≡ r
chosen_is true = refl
chosen_is false = refl

-- v, but the term of number n is 0 or 1
abbrev with_value : ℕ → Bool → (ℕ → ℤ) → ℕ → ℤ
with_value n r v i = if i == n then chosen r else v i

same_below : (n : ℕ) (r : Bool) (v : ℕ → ℤ) → IsSameBelow n (with_value n r v) v
same_below n r v i p = let e : (i == n) ≡ false = grind (arith, nat_tests) in ap (λ t. if t then chosen r else v i) e

value_at : (n : ℕ) (r : Bool) (v : ℕ → ℤ) → with_value n r v n ≡ chosen r
value_at n r v = let e : (n == n) ≡ true = grind (arith, nat_tests) in ap (λ t. if t then chosen r else v n) e

module _ (n : ℕ) (atoms : List Atom) (scoped : All (IsScopedAtom n) atoms) (a b : ℤ) (ha : IsLiteral (length atoms) a) (hb : IsLiteral (length atoms) b) where
  abbrev now : List Atom
  now = atoms ++ atom_of n ∷ []

  abbrev d : ℤ
  d = pos (suc (length atoms))

  longer : length now ≡ suc (length atoms)
  longer = omega (arith, length-append atoms (atom_of n ∷ []))

  own : IsLiteral (length now) d
  own = (omega arith, omega (arith, longer))

  later : (k : ℤ) → IsLiteral (length atoms) k → IsLiteral (length now) k
  later k h = (h.0, omega (arith, h.1, longer))

  literals_there : All (AreLiterals (length now)) (clauses_of d a b)
  literals_there = clauses_are (length now) d a b own (later a ha) (later b hb)

  is_defined : (v : ℕ → ℤ) → AreTrue v now (clauses_of d a b) → is_true_literal v now d ≡ (is_true_literal v now a && is_true_literal v now b)
  is_defined v h = defines v now d a b own (later a ha) (later b hb) h

  abbrev u : (ℕ → ℤ) → ℕ → ℤ
  u v = with_value n (is_true_literal v atoms a && is_true_literal v atoms b) v

  kept : (v : ℕ → ℤ) (k : ℤ) → IsLiteral (length atoms) k → is_true_literal (u v) now k ≡ is_true_literal v atoms k
  kept v k h =
      literal_kept (u v) atoms (atom_of n ∷ []) k h
      ∙ literal_same n (u v) v (same_below n (is_true_literal v atoms a && is_true_literal v atoms b) v) atoms scoped k

  now_is : (v : ℕ → ℤ) → is_true_literal (u v) now d ≡ (is_true_literal (u v) now a && is_true_literal (u v) now b)
  now_is v =
      let r = is_true_literal v atoms a && is_true_literal v atoms b in
      atom_is (u v) atoms n ∙ (ap (λ x. int_le x (pos 0)) (value_at n r v) ∙ (chosen_is r ∙ sym (λ i. kept v a ha i && kept v b hb i)))

  pub can_extend : (v : ℕ → ℤ) → (w : ℕ → ℤ) × (IsSameBelow n w v × AreTrue w now (clauses_of d a b))
  can_extend v = (u v, (same_below n (is_true_literal v atoms a && is_true_literal v atoms b) v, defined_true (u v) now d a b own (later a ha) (later b hb) (now_is v)))

-- ---- the counts

abbrev lengths : List (List ℤ) → ℕ
lengths clauses = sum (map length clauses)

lengths_append : (xs ys : List (List ℤ)) → lengths (xs ++ ys) ≡ lengths xs + lengths ys
lengths_append xs ys = ap (λ (ns : List ℕ). sum ns) (map-append (λ (c : List ℤ). length c) xs ys) ∙ sum_by-append (λ (n : ℕ). n) (map length xs) (map length ys)

size_is : (atoms more : List Atom) (xs ys : List (List ℤ)) → size_of (atoms ++ more) (xs ++ ys) ≡ size_of atoms xs + size_of more ys
size_is atoms more xs ys = omega (arith, length-append atoms more, length-append xs ys, lengths_append xs ys)

defined_size : (n : ℕ) (d a b : ℤ) → size_of (atom_of n ∷ []) (clauses_of d a b) ≡ 11
defined_size n d a b = refl

-- ---- a builder with the definition

module _ (table : List Term) (b : Builder) (built : IsBuilt table b) (o : Opaque) (is : IsDefined table b.symbol (count_of b) o) (x y : ℤ) (hx : IsLiteral (length b.atoms) x) (hy : IsLiteral (length b.atoms) y) where
  abbrev name : ℤ
  name = pos (suc (length b.atoms))

  abbrev made : Builder
  made = record { symbol = b.symbol; first = b.first; opaques = b.opaques ++ o ∷ []; atoms = b.atoms ++ atom_of (count_of b) ∷ []; clauses = b.clauses ++ clauses_of name x y }

  count_made : count_of made ≡ suc (count_of b)
  count_made = omega (arith, length-append b.opaques (o ∷ []))

  made_scoped : AreScoped (count_of made) made.atoms made.clauses
  made_scoped = record {
    scoped = All-append (IsScopedAtom (count_of made)) b.atoms (atom_of (count_of b) ∷ []) (scoped_later (count_of b) (count_of made) (omega (arith, count_made)) b.atoms built.scoped.scoped)
        (All-cons (IsScopedAtom (count_of made)) (atom_of (count_of b)) [] (atom_scoped (count_of b) (count_of made) (omega (arith, count_made))) (All-nil (IsScopedAtom (count_of made))));
    literals = All-append (AreLiterals (length made.atoms)) b.clauses (clauses_of name x y)
        (literals_later (length b.atoms) (length made.atoms) (omega (arith, longer (count_of b) b.atoms built.scoped.scoped x y hx hy)) b.clauses built.scoped.literals)
        (literals_there (count_of b) b.atoms built.scoped.scoped x y hx hy);
  }

  made_each : (i : ℕ) (p : Opaque) → b.first ≤ i → (slice_get b.opaques i ≡ Some p) ⊎ ((i ≡ count_of b) × (o ≡ p)) → IsDefined table b.symbol i p
  made_each i p low (inl e) = built.each i p low e
  made_each i p low (inr e) = subst (λ (q : Opaque). IsDefined table b.symbol i q) e.1 (subst (λ (j : ℕ). IsDefined table b.symbol j o) (sym e.0) is)

  made_built : count_of made < 2 ^ 32 → length made.atoms < 2 ^ 31 → IsBuilt table made
  made_built short few = record {
    short = short;
    read = omega (arith, built.read, count_made);
    few = few;
    each = λ i p low e. made_each i p low (at_seam b.opaques o i p e);
    scoped = made_scoped;
  }

  made_extended : IsExtended b made
  made_extended = record {
    symbol = refl;
    first = refl;
    added_opaques = o ∷ [];
    opaques = refl;
    added_atoms = atom_of (count_of b) ∷ [];
    atoms = refl;
    added = clauses_of name x y;
    clauses = refl;
    extends = can_extend (count_of b) b.atoms built.scoped.scoped x y hx hy;
  }

  made_told : count_of made < 2 ^ 32 → length made.atoms < 2 ^ 31 → IsTold table b made 11 (Literal name)
  made_told short few = record {
    built = made_built short few;
    extended = made_extended;
    is = own (count_of b) b.atoms built.scoped.scoped x y hx hy;
    counted = omega (arith, size_is b.atoms (atom_of (count_of b) ∷ []) b.clauses (clauses_of name x y), defined_size (count_of b) name x y);
  }

  made_tells : IsBoth made (Literal x) (Literal y) (Literal name)
  made_tells v met = is_defined (count_of b) b.atoms built.scoped.scoped x y hx hy v (true_behind v made.atoms b.clauses (clauses_of name x y) met)

-- ---- as the code puts it in, one after the other

three_put : (cs : List (List ℤ)) (f g h : List ℤ) → ((cs ++ f ∷ []) ++ g ∷ []) ++ h ∷ [] ≡ cs ++ f ∷ g ∷ h ∷ []
three_put cs f g h = simp append_assoc

module _ (table : List Term) (b p q r s t : Builder) (built : IsBuilt table b) (x y k : ℤ) (hx : IsLiteral (length b.atoms) x) (hy : IsLiteral (length b.atoms) y)
    (form : List (ℤ × ℕ)) (term : IsTermPut table b p form) (atom : IsAtomPut p q (record { form = form; bound = pos 0 }) k)
    (first : IsClausePut q r (neg_ℤ k ∷ x ∷ [])) (second : IsClausePut r s (neg_ℤ k ∷ y ∷ [])) (third : IsClausePut s t (k ∷ neg_ℤ x ∷ neg_ℤ y ∷ [])) where
  abbrev end : Builder
  end = made table b built term.opaque term.is x y hx hy

  atoms_are : q.atoms ≡ end.atoms
  atoms_are = atom.atoms ∙ (λ i. term.atoms i ++ record { form = term.form_is i; bound = pos 0 } ∷ [])

  name_is : k ≡ pos (suc (length b.atoms))
  name_is = atom.literal ∙ (ap (λ (xs : List Atom). pos (length xs)) atoms_are ∙ ap pos (longer (count_of b) b.atoms built.scoped.scoped x y hx hy))

  clauses_are_so : t.clauses ≡ end.clauses
  clauses_are_so =
      third.clauses ∙ (ap (λ (cs : List (List ℤ)). cs ++ (k ∷ neg_ℤ x ∷ neg_ℤ y ∷ []) ∷ []) (second.clauses ∙ ap (λ (cs : List (List ℤ)). cs ++ (neg_ℤ k ∷ y ∷ []) ∷ []) (first.clauses ∙ ap (λ (cs : List (List ℤ)). cs ++ (neg_ℤ k ∷ x ∷ []) ∷ []) (atom.clauses ∙ term.clauses)))
      ∙ (three_put b.clauses (neg_ℤ k ∷ x ∷ []) (neg_ℤ k ∷ y ∷ []) (k ∷ neg_ℤ x ∷ neg_ℤ y ∷ []) ∙ ap (λ (n : ℤ). b.clauses ++ clauses_of n x y) name_is))

  is_end : t ≡ end
  is_end = λ i. record {
    symbol = (third.symbol ∙ (second.symbol ∙ (first.symbol ∙ (atom.symbol ∙ term.symbol)))) i;
    first = (third.first ∙ (second.first ∙ (first.first ∙ (atom.first ∙ term.first)))) i;
    opaques = (third.opaques ∙ (second.opaques ∙ (first.opaques ∙ (atom.opaques ∙ term.opaques)))) i;
    atoms = (third.atoms ∙ (second.atoms ∙ (first.atoms ∙ atoms_are))) i;
    clauses = clauses_are_so i;
  }

  short : count_of end < 2 ^ 32
  short = subst (λ (os : List Opaque). length os < 2 ^ 32) term.opaques term.short

  few : length end.atoms < 2 ^ 31
  few = subst (λ (xs : List Atom). length xs < 2 ^ 31) atoms_are atom.few

  told : IsTold table b t 11 (Literal k)
  told = subst (λ (n : ℤ). IsTold table b t 11 (Literal n)) (sym name_is) (subst (λ (c : Builder). IsTold table b c 11 (Literal (pos (suc (length b.atoms))))) (sym is_end)
      (made_told table b built term.opaque term.is x y hx hy short few))

  tells : IsBoth t (Literal x) (Literal y) (Literal k)
  tells = subst (λ (n : ℤ). IsBoth t (Literal x) (Literal y) (Literal n)) (sym name_is) (subst (λ (c : Builder). IsBoth c (Literal x) (Literal y) (Literal (pos (suc (length b.atoms))))) (sym is_end)
      (made_tells table b built term.opaque term.is x y hx hy))

-- ---- as the code computes the literals

-- a number, and its negation, through 32 bits
abbrev pub coded : ℤ → ℤ
coded k = to_z w32 (of_z w32 k)

abbrev pub minus : ℤ → ℤ
minus k = to_z w32 (of_z w32 (pos 0 -ℤ coded k))

pub coded_is : (n : ℕ) (k : ℤ) → IsLiteral n k → n < 2 ^ 31 → coded k ≡ k
coded_is n k h l = to_z-of_z w32 k (fits_signed_from_abs w32 k (omega (arith, h.1, l)))

turned_size : (k : ℤ) → unsigned_abs (neg_ℤ k) ≡ unsigned_abs k
turned_size (pos zero) = refl
turned_size (pos (suc k)) = refl
turned_size (negsuc k) = refl

zero_less : (k : ℤ) → pos 0 -ℤ k ≡ neg_ℤ k
zero_less k = omega (arith, ints)

pub minus_is : (n : ℕ) (k : ℤ) → IsLiteral n k → n < 2 ^ 31 → minus k ≡ neg_ℤ k
minus_is n k h l =
    ap (λ (x : ℤ). to_z w32 (of_z w32 (pos 0 -ℤ x))) (coded_is n k h l)
    ∙ (ap (λ (x : ℤ). to_z w32 (of_z w32 x)) (zero_less k) ∙ coded_is n (neg_ℤ k) (literal_is_turned n k h) l)

module _ (table : List Term) (b p q r s t : Builder) (built : IsBuilt table b) (x y k : ℤ) (hx : IsLiteral (length b.atoms) x) (hy : IsLiteral (length b.atoms) y)
    (form : List (ℤ × ℕ)) (term : IsTermPut table b p form) (atom : IsAtomPut p q (record { form = form; bound = pos 0 }) k)
    (first : IsClausePut q r (minus k ∷ coded x ∷ [])) (second : IsClausePut r s (minus k ∷ coded y ∷ [])) (third : IsClausePut s t (coded k ∷ minus x ∷ minus y ∷ [])) where
  own_place : IsLiteral (length q.atoms) k
  own_place =
      let e = atom.literal in
      let l = ap (λ (xs : List Atom). length xs) atom.atoms in
      subst (λ (n : ℤ). IsLiteral (length q.atoms) n) (sym e) (omega (arith, l, length-append p.atoms (record { form = form; bound = pos 0 } ∷ [])), omega arith)

  cx : coded x ≡ x
  cx = coded_is (length b.atoms) x hx built.few

  cy : coded y ≡ y
  cy = coded_is (length b.atoms) y hy built.few

  ck : coded k ≡ k
  ck = coded_is (length q.atoms) k own_place atom.few

  mx : minus x ≡ neg_ℤ x
  mx = minus_is (length b.atoms) x hx built.few

  my : minus y ≡ neg_ℤ y
  my = minus_is (length b.atoms) y hy built.few

  mk : minus k ≡ neg_ℤ k
  mk = minus_is (length q.atoms) k own_place atom.few

  first_so : IsClausePut q r (neg_ℤ k ∷ x ∷ [])
  first_so = subst (IsClausePut q r) (λ i. mk i ∷ cx i ∷ []) first

  second_so : IsClausePut r s (neg_ℤ k ∷ y ∷ [])
  second_so = subst (IsClausePut r s) (λ i. mk i ∷ cy i ∷ []) second

  third_so : IsClausePut s t (k ∷ neg_ℤ x ∷ neg_ℤ y ∷ [])
  third_so = subst (IsClausePut s t) (λ i. ck i ∷ mx i ∷ my i ∷ []) third

  pub coded_told : IsTold table b t 11 (Literal (coded k))
  coded_told = subst (λ (n : ℤ). IsTold table b t 11 (Literal n)) (sym ck) (told table b p q r s t built x y k hx hy form term atom first_so second_so third_so)

  pub coded_tells : IsBoth t (Literal x) (Literal y) (Literal (coded k))
  coded_tells = subst (λ (n : ℤ). IsBoth t (Literal x) (Literal y) (Literal n)) (sym ck) (tells table b p q r s t built x y k hx hy form term atom first_so second_so third_so)
