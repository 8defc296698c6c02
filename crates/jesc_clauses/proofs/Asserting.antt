-- Formulas asserted: one by its truth, and several one behind the other.
use Rattle.std.proofs.Common.{◌≡◌, ℕ, ◌+◌, ◌*◌, ◌<◌, ◌≤◌, true, ℤ, List, [], ◌∷◌, ◌++◌, length, map, sum, take, get_or, Some, slice_get, refl, sym, ap, ◌∙◌, subst, arith, append_assoc, length-append}
use Rattle.std.proofs.lemmas.List.{append-nil, map-append, take_more}
use Rattle.std.proofs.lemmas.Option.{slice_get-map, slice_get_read}
use Rattle.std.specs.Option.{option_map}
use Rattle.std.proofs.lemmas.List.Elements.{All-nil, All-cons, All-head, All-append, All-push}
use Rattle.std.proofs.lemmas.List.Sums.{sum-map, sum_by_push}
use Rattle.std.specs.Prelude.{All, IsTrue}
use Rattle.jesc_logic.specs.declared.terms.TermId.{TermId}
use Rattle.jesc_logic.specs.declared.formula.Formula.{Formula}
use Rattle.jesc_logic.specs.Terms.{Term}
use Rattle.jesc_logic.specs.Claims.{Claim, truth, falsity, at_most, equal, negation, both, either, over, node_count, shape}
use Rattle.jesc_logic.specs.Structures.{holds}
use Rattle.jesc_clauses.specs.declared.clause.Opaque.{Opaque}
use Rattle.jesc_clauses.specs.declared.builder.Builder.{Builder}
use Rattle.jesc_clauses.specs.declared.builder.Truth.{Truth}
use Rattle.jesc_clauses.specs.declared.builder.Truth.TheVariants.{Constant}
use Rattle.jesc_clauses.specs.Clausified.{IsLiteral}
use Rattle.jesc_clauses.specs.Countermodels.{is_true_clause}
use Rattle.jesc_clauses.specs.Readers.{Entries}
use Rattle.jesc_clauses.specs.Builders.{AreSums, IsAsserted, IsBuilt, IsClausePut, IsMet, IsSameBelow, IsTold, IsWorth, Tells, count_of, extent, is_true}
use Rattle.jesc_clauses.proofs.Truths.{all_before, all_behind, worth_same, met_before, met_extended}

-- ---- lists

pub sum_push : {X : Type 0} (f : X → ℕ) (xs : List X) (x : X) → sum (map f (xs ++ x ∷ [])) ≡ sum (map f xs) + f x
sum_push f xs x = sum-map f (xs ++ x ∷ []) ∙ (sum_by_push f xs x ∙ ap (λ n. n + f x) (sym (sum-map f xs)))

-- ---- formulas one behind the other

abbrev Holds : (TermId → ℤ) → Claim TermId → Type 0
Holds g f = IsTrue (holds (over g f))

pub none_asserted : (sums : Entries) (table : List Term) (b : Builder) → IsBuilt table b → IsAsserted sums table b b []
none_asserted sums table b h = record {
  built = h;
  symbol = refl;
  first = refl;
  added_opaques = [];
  opaques = sym (append-nil b.opaques);
  counted = omega arith;
  keeps = λ v m. m;
  says = λ v g w m. All-nil (Holds g);
  extends = λ v g w m all. (v, ((λ i p. refl), m));
}

pub one_more_asserted : (sums : Entries) (old table later : List Term) (b c d : Builder) → IsBuilt old b → AreSums b.first sums → (fs : List (Claim TermId)) (f : Claim TermId) → IsAsserted sums table b c fs → IsAsserted sums later c d (f ∷ []) → IsAsserted sums later b d (fs ++ f ∷ [])
one_more_asserted sums old table later b c d built are fs f h k = record {
  built = k.built;
  symbol = k.symbol ∙ h.symbol;
  first = k.first ∙ h.first;
  added_opaques = h.added_opaques ++ k.added_opaques;
  opaques = k.opaques ∙ (ap (λ (os : List Opaque). os ++ k.added_opaques) h.opaques ∙ append_assoc b.opaques h.added_opaques k.added_opaques);
  counted = omega (arith, h.counted, k.counted, sum_push (λ (x : Claim TermId). node_count x) fs f);
  keeps = λ v m. h.keeps v (k.keeps v m);
  says = λ v g w m. All-append (Holds g) fs (f ∷ []) (h.says v g w (k.keeps v m)) (k.says v g w m);
  extends = λ v g w m all.
      let one = h.extends v g w m (all_before (Holds g) fs (f ∷ []) all) in
      let still = worth_same b.first sums are one.0 v (λ i p. one.1.0 i (omega (arith, p, built.read))) g w in
      let two = k.extends one.0 g still one.1.1 (all_behind (Holds g) fs (f ∷ []) all) in
      (two.0, ((λ i p. two.1.0 i (further i p) ∙ one.1.0 i p), two.1.1));
}
  where
    further : (i : ℕ) → i < count_of b → i < count_of c
    further i p = omega (arith, p, ap (λ (os : List Opaque). length os) h.opaques, length-append b.opaques h.added_opaques)

-- ---- one formula

node_there : (f : Claim TermId) → 1 ≤ node_count f
node_there truth = omega arith
node_there falsity = omega arith
node_there (at_most a b) = omega arith
node_there (equal a b) = omega arith
node_there (negation f) = omega arith
node_there (both f g) = omega arith
node_there (either f g) = omega arith

abbrev with_clause : Builder → List ℤ → Builder
with_clause c literals = record { symbol = c.symbol; first = c.first; opaques = c.opaques; atoms = c.atoms; clauses = c.clauses ++ literals ∷ [] }

put_is : (c d : Builder) (literals : List ℤ) → IsClausePut c d literals → d ≡ with_clause c literals
put_is c d literals p = λ i. record { symbol = p.symbol i; first = p.first i; opaques = p.opaques i; atoms = p.atoms i; clauses = p.clauses i }

with_built : (table : List Term) (c : Builder) (literals : List ℤ) → IsBuilt table c → All (IsLiteral (length c.atoms)) literals → IsBuilt table (with_clause c literals)
with_built table c literals h all = record {
  short = h.short;
  read = h.read;
  few = h.few;
  each = h.each;
  scoped = record { scoped = h.scoped.scoped; literals = All-push (λ (ls : List ℤ). All (IsLiteral (length c.atoms)) ls) c.clauses literals h.scoped.literals all };
}

with_extent : (c : Builder) (literals : List ℤ) → extent (with_clause c literals) ≡ extent c + (1 + length literals)
with_extent c literals = omega (arith, length-append c.clauses (literals ∷ []), sum_push (λ (ls : List ℤ). length ls) c.clauses literals)

module _ (sums : Entries) (old table : List Term) (b c : Builder) (built : IsBuilt old b) (are : AreSums b.first sums) (f : Claim TermId) (t : Truth) (told : IsTold table b c (13 * node_count f) t) (tells : Tells sums c t f) where
  -- what was built can be met, and then the truth is that of the formula
  is_met : (v : ℕ → ℤ) (g : TermId → ℤ) → IsWorth sums v g → IsMet v b → Holds g f → (u : ℕ → ℤ) × (IsSameBelow (count_of b) u v × (IsMet u c × IsTrue (is_true u c.atoms t)))
  is_met v g w m h =
      let e = met_extended old b c built told.extended v m in
      let still = worth_same b.first sums are e.0 v (λ i p. e.1.0 i (omega (arith, p, built.read))) g w in
      (e.0, (e.1.0, (e.1.1, tells e.0 g still e.1.1 ∙ h)))

  pub true_asserted : t ≡ Constant true → IsAsserted sums table b c (f ∷ [])
  true_asserted is = record {
    built = told.built;
    symbol = told.extended.symbol;
    first = told.extended.first;
    added_opaques = told.extended.added_opaques;
    opaques = told.extended.opaques;
    counted = omega (arith, told.counted);
    keeps = λ v m. met_before old b c built told.extended v m;
    says = λ v g w m. All-cons (Holds g) f [] (sym (tells v g w m) ∙ ap (is_true v c.atoms) is) (All-nil (Holds g));
    extends = λ v g w m all. let e = is_met v g w m (All-head (Holds g) f [] all) in (e.0, (e.1.0, e.1.1.0));
  }

  module _ (literals : List ℤ) (scoped : All (IsLiteral (length c.atoms)) literals) (few : length literals ≤ 1) (is : (v : ℕ → ℤ) → is_true_clause v c.atoms literals ≡ is_true v c.atoms t) where
    abbrev IsOne : (ℕ → ℤ) → List ℤ → Type 0
    IsOne v ls = IsTrue (is_true_clause v c.atoms ls)

    before : (v : ℕ → ℤ) → IsMet v (with_clause c literals) → IsMet v c
    before v m = all_before (IsOne v) c.clauses (literals ∷ []) m

    last : (v : ℕ → ℤ) → IsMet v (with_clause c literals) → IsOne v literals
    last v m = All-head (IsOne v) literals [] (all_behind (IsOne v) c.clauses (literals ∷ []) m)

    with_asserted : IsAsserted sums table b (with_clause c literals) (f ∷ [])
    with_asserted = record {
      built = with_built table c literals told.built scoped;
      symbol = told.extended.symbol;
      first = told.extended.first;
      added_opaques = told.extended.added_opaques;
      opaques = told.extended.opaques;
      counted = omega (arith, told.counted, with_extent c literals, few, node_there f);
      keeps = λ v m. met_before old b c built told.extended v (before v m);
      says = λ v g w m. All-cons (Holds g) f [] (sym (tells v g w (before v m)) ∙ (sym (is v) ∙ last v m)) (All-nil (Holds g));
      extends = λ v g w m all.
          let e = is_met v g w m (All-head (Holds g) f [] all) in
          (e.0, (e.1.0, All-push (IsOne e.0) c.clauses literals e.1.1.0 (is e.0 ∙ e.1.1.1)));
    }

    pub clause_asserted : (d : Builder) → IsClausePut c d literals → IsAsserted sums table b d (f ∷ [])
    clause_asserted d p = subst (λ (x : Builder). IsAsserted sums table b x (f ∷ [])) (sym (put_is c d literals p)) with_asserted

-- ---- one more of the list, by its place

module _ (fs : List Formula) (i : ℕ) (f : Formula) (l : i < length fs) (is : f ≡ get_or fs i f) where
  pub shapes_more : map shape (take (i + 1) fs) ≡ map shape (take i fs) ++ shape f ∷ []
  shapes_more = ap (map shape) (take_more fs i f l ∙ ap (λ (x : Formula). take i fs ++ x ∷ []) (sym is)) ∙ map-append shape (take i fs) (f ∷ [])

  pub at_place : {T : Type 0} (h : Formula → T) → slice_get (map h fs) i ≡ Some (h f)
  at_place h = slice_get-map h fs i ∙ ap (option_map h) (slice_get_read fs (length fs) i f refl l is)
