-- Formulas as clauses: what the clauses say of the formulas.
use Rattle.std.proofs.Common.{◌≡◌, true, ℕ, zero, suc, ◌+◌, ◌*◌, ◌<◌, ◌≤◌, ◌^◌, ℤ, pos, List, [], ◌∷◌, ◌++◌, length, map, sum, Some, None, Option, slice_get, unwrap_or, refl, sym, ap, ◌∙◌, subst, arith, length-append, ◌⊎◌, inl, inr, IsTrue}
use Rattle.std.proofs.lemmas.Option.{slice_get-map, get_or_from_slice_get}
use Rattle.std.proofs.lemmas.List.Elements.{All-nil, All-cons, All-head, All-tail}
use Rattle.std.proofs.lemmas.Int.{ints}
use Rattle.std.proofs.Math.IntN.{◌+ℤ◌}
use Rattle.std.specs.Prelude.{All}
use Rattle.std.specs.Option.{option_map}
use Rattle.indexmap.proofs.IndexTableLemmas.Probe.{pigeonhole}
use Rattle.jesc_logic.specs.declared.terms.TermId.{TermId}
use Rattle.jesc_logic.specs.declared.formula.Formula.{Formula}
use Rattle.jesc_logic.specs.Terms.{Term, number, unary, term_at, Keeps}
use Rattle.jesc_logic.specs.Claims.{Claim, truth, falsity, at_most, equal, negation, both, either, over, shape, claim_of, node_count}
use Rattle.jesc_logic.specs.Structures.{holds}
use Rattle.jesc_logic.specs.laws.Keeping.{same_term_at, term_of_standing}
use Rattle.jesc_logic.proofs.Lists.{get_kept, there, within}
use Rattle.jesc_clauses.specs.declared.builder.Builder.{Builder}
use Rattle.jesc_clauses.specs.declared.clause.Clauses.{Clauses}
use Rattle.jesc_clauses.specs.declared.clause.Opaque.{Opaque}
use Rattle.jesc_clauses.specs.declared.atom.Atom.{Atom}
use Rattle.jesc_clauses.specs.declared.lin.Lin.{Lin}
use Rattle.jesc_clauses.specs.Builders.{AreNarrowAt, AreSums, AreTrue, AllHold, IsAsserted, IsBuilt, IsDefined, IsFree, IsMet, IsSameBelow, IsWideAt, IsWideOneAt, IsWorth, count_of}
use Rattle.jesc_clauses.specs.Clausified.{Agree, IsAmong, IsClausified, IsLiteral, IsScopedAtom, IsWideAmong, IsWideBetween, IsWideOver, most_for_a_node, size_of}
use Rattle.jesc_clauses.specs.Countermodels.{AreAlike, IsCountermodel, is_true_clause, lin_value}
use Rattle.jesc_clauses.specs.Formulas.{HasSums}
use Rattle.jesc_clauses.specs.Readers.{Entries, HasSum, IsReader, IsSumAt, term_of}
use Rattle.jesc_clauses.specs.Readings.{Compares, HaveSymbol, IsModel, StandsIn, StandsInClaim, Values, arguments, is_opaque, reading}
use Rattle.jesc_clauses.specs.Sums.{AreOpaques, AreReadAs, IsReadAs, IsBelowAll, IsNarrow, names_of, valued}
use Rattle.jesc_clauses.proofs.Ending.{all_opaques}
use Rattle.jesc_clauses.proofs.OneForm.{one_sum}
use Rattle.jesc_clauses.proofs.Reading.{read_later}
use Rattle.jesc_clauses.proofs.Sounding.{values_of}
use Rattle.jesc_clauses.proofs.Stepping.{all_opaque, distinct, named_at, names_length, of_name}
use Rattle.jesc_clauses.proofs.Truths.{lin_same}

-- ---- lists

of_some : {X Y : Type 0} (f : X → Y) (o : Option X) (y : Y) → option_map f o ≡ Some y → (x : X) × ((o ≡ Some x) × (f x ≡ y))
of_some f None y e = cc
of_some f (Some x) y e = (x, (refl, cc))

of_mapped : {X Y : Type 0} (f : X → Y) (xs : List X) (k : ℕ) (y : Y) → slice_get (map f xs) k ≡ Some y → (x : X) × ((slice_get xs k ≡ Some x) × (f x ≡ y))
of_mapped f xs k y e = of_some f (slice_get xs k) y (sym (slice_get-map f xs k) ∙ e)

mapped_at : {X Y : Type 0} (f : X → Y) (xs : List X) (k : ℕ) (x : X) → slice_get xs k ≡ Some x → slice_get (map f xs) k ≡ Some (f x)
mapped_at f xs k x e = slice_get-map f xs k ∙ ap (option_map f) e

all_at : {X : Type 0} (P : X → Type 0) (xs : List X) (k : ℕ) (x : X) → slice_get xs k ≡ Some x → All P xs → P x
all_at P xs k x e all = subst P (get_or_from_slice_get xs k x x e) (all k x (within xs k x e))

all_mapped : {X Y Z : Type 0} (P : Y → Type 0) (Q : Z → Type 0) (f : X → Y) (g : X → Z) → ((x : X) → P (f x) → Q (g x)) → (xs : List X) → All P (map f xs) → All Q (map g xs)
all_mapped P Q f g h [] all = All-nil Q
all_mapped P Q f g h (x ∷ xs) all = All-cons Q (g x) (map g xs) (h x (All-head P (f x) (map f xs) all)) (all_mapped P Q f g h xs (All-tail P (f x) (map f xs) all))

pub all_unmapped : {X Y : Type 0} (P : Y → Type 0) (f : X → Y) (xs : List X) → All P (map f xs) → All (λ x. P (f x)) xs
all_unmapped P f [] all = All-nil (λ x. P (f x))
all_unmapped P f (x ∷ xs) all = All-cons (λ x. P (f x)) x xs (All-head P (f x) (map f xs) all) (all_unmapped P f xs (All-tail P (f x) (map f xs) all))

before_or_behind : {X : Type 0} (xs ys : List X) (i : ℕ) (x : X) → slice_get (xs ++ ys) i ≡ Some x → (slice_get xs i ≡ Some x) ⊎ (length xs ≤ i)
before_or_behind [] ys i x e = inr (omega arith)
before_or_behind (z ∷ xs) ys zero x e = inl e
before_or_behind (z ∷ xs) ys (suc i) x e = elim (before_or_behind xs ys i x e) [ inl h ↦ inl h | inr h ↦ inr (omega (arith, h)) ]

-- ---- forms over other things

over_over : (at : TermId → Term) (w : Term → ℤ) (f : Claim TermId) → over (λ id. w (at id)) f ≡ over w (over at f)
over_over at w truth = refl
over_over at w falsity = refl
over_over at w (at_most a b) = refl
over_over at w (equal a b) = refl
over_over at w (negation f) = ap negation (over_over at w f)
over_over at w (both f g) = λ i. both (over_over at w f i) (over_over at w g i)
over_over at w (either f g) = λ i. either (over_over at w f i) (over_over at w g i)

over_count : (at : TermId → Term) (f : Claim TermId) → node_count (over at f) ≡ node_count f
over_count at truth = refl
over_count at falsity = refl
over_count at (at_most a b) = refl
over_count at (equal a b) = refl
over_count at (negation f) = ap (λ n. n + 1) (over_count at f)
over_count at (both f g) = λ i. over_count at f i + over_count at g i + 1
over_count at (either f g) = λ i. over_count at f i + over_count at g i + 1

same_counts : (table : List Term) (formulas : List Formula) → map (λ f. node_count f) (map shape formulas) ≡ map (λ f. node_count f) (map (claim_of table) formulas)
same_counts table [] = refl
same_counts table (f ∷ fs) = λ i. sym (over_count (term_at table) (shape f)) i ∷ same_counts table fs i

counts : (table : List Term) (formulas : List Formula) → sum (map (λ f. node_count f) (map shape formulas)) ≡ sum (map (λ f. node_count f) (map (claim_of table) formulas))
counts table formulas = ap sum (same_counts table formulas)

over_compares : (at : TermId → Term) (a b : TermId) (f : Claim TermId) → Compares a b f → Compares (at a) (at b) (over at f)
over_compares at a b truth h = h
over_compares at a b falsity h = h
over_compares at a b (at_most c d) h = (ap at h.0, ap at h.1)
over_compares at a b (equal c d) (inl h) = inl (ap at h.0, ap at h.1)
over_compares at a b (equal c d) (inr h) = inr (ap at h.0, ap at h.1)
over_compares at a b (negation f) h = over_compares at a b f h
over_compares at a b (both f g) (inl h) = inl (over_compares at a b f h)
over_compares at a b (both f g) (inr h) = inr (over_compares at a b g h)
over_compares at a b (either f g) (inl h) = inl (over_compares at a b f h)
over_compares at a b (either f g) (inr h) = inr (over_compares at a b g h)

-- what the formula compares was read
record ComparesRead (table : List Term) (sums : Entries) (a b : Term) (f : Claim TermId) : Type 0 where
  first : TermId
  second : TermId
  compares : Compares first second f
  first_is : a ≡ term_at table first
  second_is : b ≡ term_at table second
  has_first : HasSum sums first.0
  has_second : HasSum sums second.0

module _ (table : List Term) (sums : Entries) (a b : Term) where
  compares_more : (f g : Claim TermId) → ((x y : TermId) → Compares x y f → Compares x y g) → ComparesRead table sums a b f → ComparesRead table sums a b g
  compares_more f g more r = record { first = r.first; second = r.second; compares = more r.first r.second r.compares; first_is = r.first_is; second_is = r.second_is; has_first = r.has_first; has_second = r.has_second }

  compares_read : (f : Claim TermId) → HasSums sums f → Compares a b (over (term_at table) f) → ComparesRead table sums a b f
  compares_read truth have h = absurd h
  compares_read falsity have h = absurd h
  compares_read (at_most c d) have h = record { first = c; second = d; compares = (refl, refl); first_is = h.0; second_is = h.1; has_first = have.0; has_second = have.1 }
  compares_read (equal c d) have (inl h) = record { first = c; second = d; compares = inl (refl, refl); first_is = h.0; second_is = h.1; has_first = have.0; has_second = have.1 }
  compares_read (equal c d) have (inr h) = record { first = d; second = c; compares = inr (refl, refl); first_is = h.0; second_is = h.1; has_first = have.1; has_second = have.0 }
  compares_read (negation f) have h = compares_more f (negation f) (λ x y p. p) (compares_read f have h)
  compares_read (both f g) have (inl h) = compares_more f (both f g) (λ x y p. inl p) (compares_read f have.0 h)
  compares_read (both f g) have (inr h) = compares_more g (both f g) (λ x y p. inr p) (compares_read g have.1 h)
  compares_read (either f g) have (inl h) = compares_more f (either f g) (λ x y p. inl p) (compares_read f have.0 h)
  compares_read (either f g) have (inr h) = compares_more g (either f g) (λ x y p. inr p) (compares_read g have.1 h)

-- the term stands in one that was read
record StandsRead (table : List Term) (sums : Entries) (t : Term) : Type 0 where
  id : TermId
  lin : Lin
  has : IsSumAt sums id.0 lin
  stands : StandsIn t (term_at table id)

stands_in : (table : List Term) (sums : Entries) (t : Term) (id : TermId) → HasSum sums id.0 → StandsIn t (term_at table id) → StandsRead table sums t
stands_in table sums t id h s = record { id = id; lin = h.0; has = h.1; stands = s }

stands_read : (table : List Term) (sums : Entries) (t : Term) (f : Claim TermId) → HasSums sums f → StandsInClaim t (over (term_at table) f) → StandsRead table sums t
stands_read table sums t truth h s = absurd s
stands_read table sums t falsity h s = absurd s
stands_read table sums t (at_most a b) h (inl s) = stands_in table sums t a h.0 s
stands_read table sums t (at_most a b) h (inr s) = stands_in table sums t b h.1 s
stands_read table sums t (equal a b) h (inl s) = stands_in table sums t a h.0 s
stands_read table sums t (equal a b) h (inr s) = stands_in table sums t b h.1 s
stands_read table sums t (negation f) h s = stands_read table sums t f h s
stands_read table sums t (both f g) h (inl s) = stands_read table sums t f h.0 s
stands_read table sums t (both f g) h (inr s) = stands_read table sums t g h.1 s
stands_read table sums t (either f g) h (inl s) = stands_read table sums t f h.0 s
stands_read table sums t (either f g) h (inr s) = stands_read table sums t g h.1 s

among_read : (table : List Term) (sums : Entries) (formulas : List Formula) → All (HasSums sums) (map shape formulas) → (t : Term) → IsAmong (map (claim_of table) formulas) t → StandsRead table sums t
among_read table sums formulas have t m =
    let f = of_mapped (claim_of table) formulas m.0 m.1 m.2 in
    stands_read table sums t (shape f.0) (all_at (HasSums sums) (map shape formulas) m.0 (shape f.0) (mapped_at shape formulas m.0 f.0 f.1.0) have) (subst (StandsInClaim t) (sym f.1.1) m.3)

-- ---- what was read

args_worth : (u : ℕ → ℤ) (w : Values) (names : List Term) → IsSameBelow (length names) u (valued w names) → (ts : List Term) (lins : List Lin) → AreReadAs names ts lins → map (lin_value u) lins ≡ map (reading w) ts
args_worth u w names same [] [] h = refl
args_worth u w names same [] (lin ∷ lins) h = absurd h
args_worth u w names same (t ∷ ts) [] h = absurd h
args_worth u w names same (t ∷ ts) (lin ∷ lins) h = λ i. (lin_same (length names) u (valued w names) same lin h.0.there ∙ h.0.worth w) i ∷ args_worth u w names same ts lins h.1 i

module _ (table : List Term) (sums : Entries) (read : List Opaque) (h : IsReader table sums read) where
  names_below : (lin : Lin) → IsBelowAll lin (length (names_of table read)) → IsBelowAll lin (length read)
  names_below lin below = subst (IsBelowAll lin) (names_length table read) below

  pub sums_are : AreSums (length read) sums
  sums_are = record {
    each = λ id lin s. let r = (h.read s.0 (id, lin) s.1).read in (r.bounded, names_below lin r.there);
    one = λ id x y s u.
        one_sum (names_of table read) (distinct table sums read h) (all_opaque table sums read h) (term_of table id) x y (h.read s.0 (id, x) s.1).read (h.read u.0 (id, y) u.1).read;
  }

  abbrev none : Opaque
  none = record { id = record { 0 = 0 }; symbol = 0; args = [] }

  abbrev place : ℕ → ℕ
  place i = (unwrap_or (slice_get read i) none).id.0

  apart : (i j : ℕ) (o p : Opaque) → slice_get read i ≡ Some o → slice_get read j ≡ Some p → o.id.0 ≡ p.id.0 → i ≡ j
  apart i j o p e f s = h.opaques_are.apart i j (term_at table o.id) (named_at table read i o e) (named_at table read j p f ∙ ap (λ (n : ℕ). Some (term_of table n)) (sym s))

  -- no more terms than the table has
  no_more : length read ≤ length table
  no_more = pigeonhole (length read) (length table) place
      (λ i p. (h.opaques_are.named i _ (there read i none p)).there)
      (λ i j p q e. apart i j _ _ (there read i none p) (there read j none q) e)

  pub few : length read < 2 ^ 32
  few = omega (arith, no_more, h.apart.short)

  worth_of : (w : Values) (v : ℕ → ℤ) → IsSameBelow (length read) v (valued w (names_of table read)) → IsWorth sums v (λ id. reading w (term_at table id))
  worth_of w v same id lin (k, e) =
      let r = (h.read k (id.0, lin) e).read in
      sym (r.worth w) ∙ sym (lin_same (length read) v (valued w (names_of table read)) same lin (names_below lin r.there))

  narrow_in : (t : Term) → StandsRead table sums t → IsNarrow t
  narrow_in t s = (h.read s.has.0 (s.id.0, s.lin) s.has.1).known.narrow t s.stands

  number_in : (t : Term) → StandsRead table sums t → is_opaque t ≡ true → (j : ℕ) × (slice_get (names_of table read) j ≡ Some t)
  number_in t s o = (h.read s.has.0 (s.id.0, s.lin) s.has.1).known.named t s.stands o

  -- ---- numbers that are too large

  wide_between : (f : Claim TermId) (n : ℤ) → IsWideAt sums f n → IsWideBetween (over (term_at table) f) n
  wide_between f n wide = (
    names_of table read,
    record { opaque = all_opaque table sums read h; apart = distinct table sums read h },
    record {
      a = term_at table wide.a;
      b = term_at table wide.b;
      x = wide.x;
      y = wide.y;
      compares = over_compares (term_at table) wide.a wide.b f wide.compares;
      read_a = (h.read wide.sum_a.0 (wide.a.0, wide.x) wide.sum_a.1).read;
      read_b = (h.read wide.sum_b.0 (wide.b.0, wide.y) wide.sum_b.1).read;
      wide = wide.wide;
    },
  )

  pub wide_read : (formulas : List Formula) (n : ℤ) → IsWideOneAt sums (map shape formulas) n → IsWideAmong (map (claim_of table) formulas) n
  wide_read formulas n (k, f, e, wide) =
      let p = of_mapped shape formulas k f e in
      (k, claim_of table p.0, mapped_at (claim_of table) formulas k p.0 p.1.0, inr (subst (λ (g : Claim TermId). IsWideBetween (over (term_at table) g) n) (sym p.1.1) (wide_between f n wide)))

-- ---- the builder at the start

none_true : (v : ℕ → ℤ) (atoms : List Atom) (clauses : List (List ℤ)) → clauses ≡ [] → AreTrue v atoms clauses
none_true v atoms clauses e = subst (AreTrue v atoms) (sym e) (All-nil (λ literals. IsTrue (is_true_clause v atoms literals)))

pub built_first : (table : List Term) (b : Builder) → b.first ≡ count_of b → count_of b < 2 ^ 32 → b.atoms ≡ [] → b.clauses ≡ [] → IsBuilt table b
built_first table b first short atoms clauses = record {
  short = short;
  read = omega (arith, first);
  few = let e : length b.atoms ≡ 0 = ap (λ (xs : List Atom). length xs) atoms in omega (arith, e);
  each = λ i o low e. let p = within b.opaques i o e in absurd (omega (arith, p, low, first));
  scoped = record {
    scoped = subst (All (IsScopedAtom (count_of b))) (sym atoms) (All-nil (IsScopedAtom (count_of b)));
    literals = subst (All (λ literals. All (IsLiteral (length b.atoms)) literals)) (sym clauses) (All-nil (λ literals. All (IsLiteral (length b.atoms)) literals));
  };
}

same_number : (i j : ℕ) → (pos 0 +ℤ pos i) ∷ [] ≡ (pos 0 +ℤ pos j) ∷ [] → i ≡ j
same_number i j e = let p : pos 0 +ℤ pos i ≡ pos 0 +ℤ pos j = cc in omega (arith, ints, p)

-- ---- what the clauses say

module _ (table later : List Term) (kept : Keeps table later) (formulas : List Formula) (sums : Entries) (read : List Opaque) (h : IsReader table sums read)
    (have : All (HasSums sums) (map shape formulas)) (symbol : ℕ) (free : IsFree read symbol) (b c : Builder) (b_symbol : b.symbol ≡ symbol) (b_first : b.first ≡ length read)
    (b_opaques : b.opaques ≡ read) (b_atoms : b.atoms ≡ []) (b_clauses : b.clauses ≡ []) (a : IsAsserted sums later b c (map shape formulas)) (narrow : All (AreNarrowAt sums) (map shape formulas)) where
  abbrev claims : List (Claim Term)
  claims = map (claim_of table) formulas

  abbrev names : List Term
  names = names_of table read

  abbrev result : Clauses
  result = record { terms = c.opaques; atoms = c.atoms; clauses = c.clauses }

  among_is : (t : Term) → IsAmong claims t → StandsRead table sums t
  among_is t s = among_read table sums formulas have t s

  is_all : c.opaques ≡ read ++ a.added_opaques
  is_all = a.opaques ∙ ap (λ (os : List Opaque). os ++ a.added_opaques) b_opaques

  read_at : (i : ℕ) (o : Opaque) → slice_get read i ≡ Some o → slice_get c.opaques i ≡ Some o
  read_at i o e = subst (λ (os : List Opaque). slice_get os i ≡ Some o) (sym is_all) (get_kept read a.added_opaques i o e)

  defined_at : (i : ℕ) (o : Opaque) → length read ≤ i → slice_get c.opaques i ≡ Some o → IsDefined later symbol i o
  defined_at i o low e =
      subst (λ (s : ℕ). IsDefined later s i o) (a.symbol ∙ b_symbol) (a.built.each i o (let f : c.first ≡ length read = a.first ∙ b_first in omega (arith, f, low)) e)

  read_or_defined : (i : ℕ) (o : Opaque) → slice_get c.opaques i ≡ Some o → (slice_get read i ≡ Some o) ⊎ IsDefined later symbol i o
  read_or_defined i o e = elim (before_or_behind read a.added_opaques i o (subst (λ (os : List Opaque). slice_get os i ≡ Some o) is_all e)) [
    | inl p ↦ inl p
    | inr p ↦ inr (defined_at i o p e)
  ]

  opaques : AreOpaques later c.opaques
  opaques = subst (AreOpaques later) (sym is_all) (all_opaques table later kept read a.added_opaques symbol h.opaques_are free
      (subst (λ (os : List Opaque). length os < 2 ^ 32) is_all a.built.short)
      (λ i o low e. defined_at i o low (subst (λ (os : List Opaque). slice_get os i ≡ Some o) (sym is_all) e)))

  same_term : (i : ℕ) (o : Opaque) → slice_get read i ≡ Some o → term_at later o.id ≡ term_at table o.id
  same_term i o e = same_term_at table later kept o.id (h.opaques_are.named i o e).there

  names_kept : (i : ℕ) (t : Term) → slice_get names i ≡ Some t → slice_get (names_of later c.opaques) i ≡ Some t
  names_kept i t e =
      let o = of_name table read i t e in
      named_at later c.opaques i o.0 (read_at i o.0 o.1.0) ∙ ap Some (same_term i o.0 o.1.0 ∙ o.1.1)

  -- a term that was read has the number that its value is
  valued_at : (w : Values) (i : ℕ) (t : Term) → slice_get names i ≡ Some t → valued w names i ≡ w t
  valued_at w i t e = ap (λ (o : Option Term). w (unwrap_or o (number (pos 0)))) e

  says_model : (w : Values) → AllHold (λ id. reading w (term_at table id)) (map shape formulas) → All (λ f. IsTrue (holds (over (reading w) f))) claims
  says_model w = all_mapped (λ f. IsTrue (holds (over (λ id. reading w (term_at table id)) f))) (λ f. IsTrue (holds (over (reading w) f))) shape (claim_of table)
      (λ f x. subst (λ (g : Claim ℤ). IsTrue (holds g)) (over_over (term_at table) (reading w) (shape f)) x) formulas

  model_says : (w : Values) → All (λ f. IsTrue (holds (over (reading w) f))) claims → AllHold (λ id. reading w (term_at table id)) (map shape formulas)
  model_says w = all_mapped (λ f. IsTrue (holds (over (reading w) f))) (λ f. IsTrue (holds (over (λ id. reading w (term_at table id)) f))) (claim_of table) shape
      (λ f x. subst (λ (g : Claim ℤ). IsTrue (holds g)) (sym (over_over (term_at table) (reading w) (shape f))) x) formulas

  -- ---- a countermodel of the clauses is one of the formulas

  agree_below : (v : ℕ → ℤ) (w : Values) → Agree (names_of later c.opaques) v w → IsSameBelow (length read) v (valued w names)
  agree_below v w agree i p =
      let at = there names i (number (pos 0)) (let e = names_length table read in omega (arith, e, p)) in
      agree i _ (names_kept i _ at)

  sound : (v : ℕ → ℤ) → IsCountermodel result v → (w : Values) × (IsModel claims w × Agree (names_of later c.opaques) v w)
  sound v m =
      let w = values_of later c.opaques opaques v m.congruent in
      (w.0, (record { true = says_model w.0 (a.says v (λ id. reading w.0 (term_at table id)) (worth_of table sums read h w.0 v (agree_below v w.0 w.1.1)) m.true); congruent = w.1.0 }, w.1.1))

  -- ---- and one of the formulas extends to one of the clauses

  module _ (w : Values) (m : IsModel claims w) (u : ℕ → ℤ) (same : IsSameBelow (length read) u (valued w names)) where
    u_at : (i : ℕ) (o : Opaque) → slice_get read i ≡ Some o → u i ≡ w (term_at table o.id)
    u_at i o e = same i (within read i o e) ∙ valued_at w i (term_at table o.id) (named_at table read i o e)

    args_of : (i : ℕ) (o : Opaque) → slice_get read i ≡ Some o → map (lin_value u) o.args ≡ map (reading w) (arguments (term_at table o.id))
    args_of i o e = args_worth u w names (λ k p. same k (let l = names_length table read in omega (arith, l, p))) (arguments (term_at table o.id)) o.args (h.opaques_are.named i o e).args

    both_of : (i j : ℕ) (o p : Opaque) → (slice_get read i ≡ Some o) ⊎ IsDefined later symbol i o → (slice_get read j ≡ Some p) ⊎ IsDefined later symbol j p → AreAlike u o p → u i ≡ u j
    both_of i j o p (inl e) (inl f) alike =
        let x = h.opaques_are.named i o e in
        let y = h.opaques_are.named j p f in
        u_at i o e ∙ m.congruent o.symbol (term_at table o.id) (term_at table p.id) x.opaque y.opaque x.symbol (subst (HaveSymbol (term_at table p.id)) (sym alike.0) y.symbol)
        (sym (args_of i o e) ∙ (alike.1 ∙ args_of j p f)) ∙ sym (u_at j p f)
    both_of i j o p (inl e) (inr f) alike = absurd (free i o e (alike.0 ∙ f.symbol_is))
    both_of i j o p (inr e) (inl f) alike = absurd (free j p f (sym alike.0 ∙ e.symbol_is))
    both_of i j o p (inr e) (inr f) alike = ap u (same_number i j (sym (ap (map (lin_value u)) e.args_is) ∙ (alike.1 ∙ ap (map (lin_value u)) f.args_is)))

    -- a defined term stands in no formula
    not_among : (i : ℕ) (o : Opaque) → IsDefined later symbol i o → IsAmong claims (term_at later o.id) → ⊥
    not_among i o d s =
        let e = term_of_standing later o.id (unary symbol (number (pos i))) d.stands in
        let j = number_in table sums read h (term_at later o.id) (among_is (term_at later o.id) s) (ap is_opaque e) in
        let p = of_name table read j.0 (term_at later o.id) j.1 in
        let has : HaveSymbol (unary symbol (number (pos i))) p.0.symbol = subst (λ (t : Term). HaveSymbol t p.0.symbol) (p.1.1 ∙ e) (h.opaques_are.named j.0 p.0 p.1.0).symbol in
        free j.0 p.0 p.1.0 (sym has)

    among_at : (i : ℕ) (t : Term) → IsAmong claims t → slice_get (names_of later c.opaques) i ≡ Some t → u i ≡ w t
    among_at i t s e =
        let o = of_name later c.opaques i t e in
        elim (read_or_defined i o.0 o.1.0) [
          | inl p ↦ u_at i o.0 p ∙ ap w (sym (same_term i o.0 p) ∙ o.1.1)
          | inr d ↦ absurd (not_among i o.0 d (subst (IsAmong claims) (sym o.1.1) s))
        ]

    countermodel : IsMet u c → IsCountermodel result u
    countermodel met = record { true = met; congruent = λ i j o p e f alike. both_of i j o p (read_or_defined i o e) (read_or_defined j p f) alike }

  complete : (w : Values) → IsModel claims w → (v : ℕ → ℤ) × (IsCountermodel result v × ((i : ℕ) (t : Term) → IsAmong claims t → slice_get (names_of later c.opaques) i ≡ Some t → v i ≡ w t))
  complete w m =
      let v = valued w names in
      let x = a.extends v (λ id. reading w (term_at table id)) (worth_of table sums read h w v (λ i p. refl)) (none_true v b.atoms b.clauses b_clauses) (model_says w m.true) in
      let same : IsSameBelow (length read) x.0 v = subst (λ (os : List Opaque). IsSameBelow (length os) x.0 v) b_opaques x.1.0 in
      (x.0, (countermodel w m x.0 same x.1.1, among_at w m x.0 same))

  counted : size_of c.atoms c.clauses ≤ most_for_a_node * sum (map (λ f. node_count f) claims)
  counted =
      let e : size_of b.atoms b.clauses ≡ 0 = (λ i. size_of (b_atoms i) (b_clauses i)) in
      let k = counts table formulas in
      subst (λ (n : ℕ). size_of c.atoms c.clauses ≤ most_for_a_node * n) k (omega (arith, e, a.counted))

  -- ---- no number of an atom is too large

  abbrev names_later : List Term
  names_later = names_of later c.opaques

  later_keeps : Keeps names names_later
  later_keeps = record {
    longer = omega (arith, names_length table read, names_length later c.opaques, ap (λ (os : List Opaque). length os) is_all, length-append read a.added_opaques);
    keeps = names_kept;
  }

  later_opaque : (i : ℕ) (t : Term) → slice_get names_later i ≡ Some t → is_opaque t ≡ true
  later_opaque i t e = let o = of_name later c.opaques i t e in ap is_opaque (sym o.1.1) ∙ (opaques.named i o.0 o.1.0).opaque

  -- a sum of a term that was read, over the terms at the end, is the one that was read
  read_before : (id : TermId) → HasSum sums id.0 → (t : Term) (lin : Lin) → t ≡ term_at table id → IsReadAs names_later t lin → IsSumAt sums id.0 lin
  read_before id has t lin is r =
      let first = read_later names names_later later_keeps (term_at table id) has.0 (h.read has.1.0 (id.0, has.0) has.1.1).read in
      let same = one_sum names_later opaques.apart later_opaque (term_at table id) has.0 lin first (subst (λ (u : Term). IsReadAs names_later u lin) is r) in
      subst (IsSumAt sums id.0) same has.1

  wide_before : (f : Claim TermId) (n : ℤ) → HasSums sums f → IsWideOver names_later (over (term_at table) f) n → IsWideAt sums f n
  wide_before f n has w =
      let r = compares_read table sums w.a w.b f has w.compares in
      record {
        a = r.first;
        b = r.second;
        compares = r.compares;
        x = w.x;
        y = w.y;
        sum_a = read_before r.first r.has_first w.a w.x r.first_is w.read_a;
        sum_b = read_before r.second r.has_second w.b w.y r.second_is w.read_b;
        wide = w.wide;
      }

  short : (k : ℕ) (f : Claim Term) (n : ℤ) → slice_get claims k ≡ Some f → IsWideOver names_later f n → ⊥
  short k f n e w =
      let g = of_mapped (claim_of table) formulas k f e in
      let at = mapped_at shape formulas k g.0 g.1.0 in
      all_at (AreNarrowAt sums) (map shape formulas) k (shape g.0) at narrow n
      (wide_before (shape g.0) n (all_at (HasSums sums) (map shape formulas) k (shape g.0) at have) (subst (λ (x : Claim Term). IsWideOver names_later x n) (sym g.1.1) w))

  pub clausified : IsClausified later claims result
  clausified = record {
    opaques = opaques;
    scoped = a.built.scoped;
    narrow = λ t s. narrow_in table sums read h t (among_is t s);
    short = short;
    counted = counted;
    sound = sound;
    complete = complete;
  }
