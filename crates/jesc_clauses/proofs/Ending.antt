-- The opaque terms that formulas have, and the defined ones behind them.
use Rattle.std.proofs.Common.{◌≡◌, true, ℕ, zero, suc, ◌<◌, ◌≤◌, ◌^◌, pos, List, [], ◌∷◌, ◌++◌, length, Some, slice_get, sym, ap, ◌∙◌, subst, arith, length-append, ◌⊎◌, inl, inr}
use Rattle.std.proofs.lemmas.Int.{ints}
use Rattle.std.proofs.lemmas.List.Elements.{All-nil, All-cons}
use Rattle.std.specs.Prelude.{All}
use Rattle.jesc_linear.specs.Forms.{IsNonzero}
use Rattle.jesc_logic.specs.Terms.{Term, number, unary, term_at, Keeps}
use Rattle.jesc_logic.specs.laws.Keeping.{is_in, same_term_at, term_of_standing}
use Rattle.jesc_logic.proofs.Lists.{get_kept, within}
use Rattle.jesc_clauses.specs.declared.lin.Lin.{Lin}
use Rattle.jesc_clauses.specs.declared.clause.Opaque.{Opaque}
use Rattle.jesc_clauses.specs.Merges.{IsWithin}
use Rattle.jesc_clauses.specs.Readings.{is_opaque, arguments, HaveSymbol}
use Rattle.jesc_clauses.specs.Sums.{IsReadAs, AreReadAs, IsNamed, AreOpaques, IsBelowAll, names_of}
use Rattle.jesc_clauses.specs.Builders.{IsDefined, IsFree}
use Rattle.jesc_clauses.proofs.Merging.{IsUnder}
use Rattle.jesc_clauses.proofs.Reading.{all_read_later}
use Rattle.jesc_clauses.proofs.Stepping.{named_at, of_name, names_length}

-- an element stands in the first list, or behind it
front_or_behind : (xs ys : List Opaque) (i : ℕ) (o : Opaque) → slice_get (xs ++ ys) i ≡ Some o → (slice_get xs i ≡ Some o) ⊎ (length xs ≤ i)
front_or_behind [] ys i o e = inr (omega arith)
front_or_behind (x ∷ xs) ys zero o e = inl e
front_or_behind (x ∷ xs) ys (suc i) o e = elim (front_or_behind xs ys i o e) [ inl h ↦ inl h | inr p ↦ inr (omega (arith, p)) ]

-- ---- a defined term

abbrev alone : ℕ → Lin
alone i = record { form = []; constant = pos i }

alone_read : (names : List Term) (i : ℕ) → i < 2 ^ 32 → IsReadAs names (number (pos i)) (alone i)
alone_read names i p = record {
  bounded = record {
    sized = record { sorted = record { rises = tt; nonzero = All-nil IsNonzero }; within = All-nil (IsWithin (2 ^ 31)) };
    constant = omega (arith, p);
  };
  there = All-nil (IsUnder (length names));
  worth = λ w. omega (arith, ints);
}

module _ (table : List Term) (opaques : List Opaque) (symbol i : ℕ) (o : Opaque) (d : IsDefined table symbol i o) (p : i < 2 ^ 32) where
  term_is : term_at table o.id ≡ unary symbol (number (pos i))
  term_is = term_of_standing table o.id (unary symbol (number (pos i))) d.stands

  defined_args : AreReadAs (names_of table opaques) (number (pos i) ∷ []) o.args
  defined_args = subst (AreReadAs (names_of table opaques) (number (pos i) ∷ [])) (sym d.args_is) (alone_read (names_of table opaques) i p, tt)

  defined_smaller : All (λ lin. IsBelowAll lin i) o.args
  defined_smaller = subst (All (λ (lin : Lin). IsBelowAll lin i)) (sym d.args_is) (All-cons (λ (lin : Lin). IsBelowAll lin i) (alone i) [] (All-nil (IsUnder i)) (All-nil (λ (lin : Lin). IsBelowAll lin i)))

  defined_named : IsNamed table opaques i o
  defined_named = record {
    there = within table o.id.0 (unary symbol (number (pos i))) d.stands;
    opaque = ap is_opaque term_is;
    symbol = subst (λ (t : Term). HaveSymbol t o.symbol) (sym term_is) (sym d.symbol_is);
    args = subst (λ (t : Term). AreReadAs (names_of table opaques) (arguments t) o.args) (sym term_is) defined_args;
    smaller = defined_smaller;
  }

-- ---- the terms that were read, and those behind them

module _ (table later : List Term) (keeps : Keeps table later) (read added : List Opaque) (symbol : ℕ) (are : AreOpaques table read) (free : IsFree read symbol) (short : length (read ++ added) < 2 ^ 32)
    (defined : (i : ℕ) (o : Opaque) → length read ≤ i → slice_get (read ++ added) i ≡ Some o → IsDefined later symbol i o) where
  abbrev names : List Term
  names = names_of later (read ++ added)

  same : (i : ℕ) (o : Opaque) → slice_get read i ≡ Some o → term_at later o.id ≡ term_at table o.id
  same i o e = same_term_at table later keeps o.id (are.named i o e).there

  names_kept : Keeps (names_of table read) names
  names_kept = record {
    longer = omega (arith, names_length table read, names_length later (read ++ added), length-append read added);
    keeps = λ i t e.
        let o = of_name table read i t e in
        named_at later (read ++ added) i o.0 (get_kept read added i o.0 o.1.0) ∙ ap Some (same i o.0 o.1.0 ∙ o.1.1);
  }

  read_named : (i : ℕ) (o : Opaque) → slice_get read i ≡ Some o → IsNamed later (read ++ added) i o
  read_named i o e =
      let n = are.named i o e in
      let s = sym (same i o e) in
      record {
        there = is_in table later keeps o.id n.there;
        opaque = subst (λ (t : Term). is_opaque t ≡ true) s n.opaque;
        symbol = subst (λ (t : Term). HaveSymbol t o.symbol) s n.symbol;
        args = subst (λ (t : Term). AreReadAs names (arguments t) o.args) s (all_read_later (names_of table read) names names_kept (arguments (term_at table o.id)) o.args n.args);
        smaller = n.smaller;
      }

  small : (i : ℕ) (o : Opaque) → slice_get (read ++ added) i ≡ Some o → i < 2 ^ 32
  small i o e = let p = within (read ++ added) i o e in omega (arith, p, short)

  all_named : (i : ℕ) (o : Opaque) → slice_get (read ++ added) i ≡ Some o → IsNamed later (read ++ added) i o
  all_named i o e = elim (front_or_behind read added i o e) [
    | inl q ↦ read_named i o q
    | inr p ↦ defined_named later (read ++ added) symbol i o (defined i o p e) (small i o e)
  ]

  -- a defined term's symbol is its own
  read_or_defined : ℕ → Term → Type 0
  read_or_defined i t = (slice_get (names_of table read) i ≡ Some t) ⊎ (t ≡ unary symbol (number (pos i)))

  which : (i : ℕ) (t : Term) → slice_get names i ≡ Some t → read_or_defined i t
  unfolding read_or_defined
  which i t e =
      let o = of_name later (read ++ added) i t e in
      elim (front_or_behind read added i o.0 o.1.0) [
        | inl q ↦ inl (named_at table read i o.0 q ∙ ap Some (sym (same i o.0 q) ∙ o.1.1))
        | inr p ↦ inr (sym o.1.1 ∙ term_is later (read ++ added) symbol i o.0 (defined i o.0 p o.1.0) (small i o.0 o.1.0))
      ]

  unlike : (i j : ℕ) (t : Term) → slice_get (names_of table read) i ≡ Some t → t ≡ unary symbol (number (pos j)) → ⊥
  unlike i j t e s =
      let o = of_name table read i t e in
      let k : HaveSymbol (unary symbol (number (pos j))) o.0.symbol = subst (λ (u : Term). HaveSymbol u o.0.symbol) (o.1.1 ∙ s) (are.named i o.0 o.1.0).symbol in
      free i o.0 o.1.0 (sym k)

  apart_by : (i j : ℕ) (t : Term) → read_or_defined i t → read_or_defined j t → i ≡ j
  unfolding read_or_defined
  apart_by i j t (inl e) (inl f) = are.apart i j t e f
  apart_by i j t (inl e) (inr f) = absurd (unlike i j t e f)
  apart_by i j t (inr e) (inl f) = absurd (unlike j i t f e)
  apart_by i j t (inr e) (inr f) = let s : unary symbol (number (pos i)) ≡ unary symbol (number (pos j)) = sym e ∙ f in cc

  are_all : AreOpaques later (read ++ added)
  are_all = record { named = all_named; apart = λ i j t e f. apart_by i j t (which i t e) (which j t f) }

pub all_opaques : (table later : List Term) → Keeps table later → (read added : List Opaque) (symbol : ℕ) → AreOpaques table read → IsFree read symbol → length (read ++ added) < 2 ^ 32 → ((i : ℕ) (o : Opaque) → length read ≤ i → slice_get (read ++ added) i ≡ Some o → IsDefined later symbol i o) → AreOpaques later (read ++ added)
all_opaques table later keeps read added symbol are free short defined = are_all table later keeps read added symbol are free short defined
