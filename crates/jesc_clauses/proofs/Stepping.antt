-- One more term is read.
use Rattle.std.proofs.Common.{◌≡◌, ℕ, suc, ◌^◌, ℤ, pos, List, [], ◌∷◌, ◌++◌, length, map, Some, None, Option, slice_get, unwrap_or, if◌then◌else◌, true, false, true≢false, refl, sym, ap, ◌∙◌, subst, arith, length-append, ◌⊎◌, inl, inr}
use Rattle.std.proofs.lemmas.Option.{slice_get-map}
use Rattle.std.proofs.lemmas.List.Elements.{All-nil, All-cons, All-head, All-tail, All-weaker, All-push}
use Rattle.std.specs.Prelude.{All}
use Rattle.std.specs.Option.{option_map}
use Rattle.jesc_logic.specs.declared.terms.TermId.{TermId}
use Rattle.jesc_logic.specs.Terms.{Term, number, constant, unary, binary, ternary, term_at, IsIn, Keeps}
use Rattle.jesc_logic.specs.laws.Keeping.{stands}
use Rattle.jesc_logic.proofs.Lists.{get_kept, get_last, at_seam, within}
use Rattle.jesc_clauses.specs.declared.lin.Lin.{Lin}
use Rattle.jesc_clauses.specs.declared.clause.Opaque.{Opaque}
use Rattle.jesc_clauses.specs.Readings.{Values, reading, sum_or_product, is_opaque, arguments, HaveSymbol}
use Rattle.jesc_clauses.specs.Merges.{IsSized, IsWithin}
use Rattle.jesc_linear.specs.Forms.{IsNonzero}
use Rattle.std.proofs.lemmas.Int.{ints}
use Rattle.std.proofs.Math.IntN.{◌+ℤ◌, ◌*ℤ◌, zero-*ℤ, suc_ℤ-*ℤ}
use Rattle.jesc_clauses.proofs.Merging.{IsUnder}
use Rattle.jesc_clauses.specs.Sums.{IsReadAs, AreReadAs, IsNamed, IsBelowAll, names_of, valued}
use Rattle.jesc_clauses.specs.Readers.{Entries, IsSumAt, HasSum, HaveSums, AreSumsOf, IsPut, IsRead, IsReader, IsKnownAll, IsGrown, HasRead, term_of}
use Rattle.jesc_clauses.proofs.Terms.{known_all, known_later}
use Rattle.jesc_clauses.proofs.Reading.{AreDistinct, narrow_of_read, read_later, all_read_later}

pub grown_all : (entries : Entries) (opaques : List Opaque) → IsGrown entries entries opaques opaques
grown_all entries opaques = record { sums = λ k e h. h; terms = λ i o h. h; longer = omega arith }

pub grown_on : (a b c : Entries) (p q r : List Opaque) → IsGrown a b p q → IsGrown b c q r → IsGrown a c p r
grown_on a b c p q r h j = record { sums = λ k e x. j.sums k e (h.sums k e x); terms = λ i o x. j.terms i o (h.terms i o x); longer = omega (arith, h.longer, j.longer) }

pub has_later : (a b : Entries) (p q : List Opaque) → IsGrown a b p q → (id : ℕ) → HasSum a id → HasSum b id
has_later a b p q h id (lin, (k, e)) = (lin, (k, h.sums k (id, lin) e))

name_at : (table : List Term) (o : Opaque) → Term
name_at table o = term_at table o.id

pub named_at : (table : List Term) (opaques : List Opaque) (i : ℕ) (o : Opaque) → slice_get opaques i ≡ Some o → slice_get (names_of table opaques) i ≡ Some (term_at table o.id)
named_at table opaques i o e = slice_get-map (λ (x : Opaque). term_at table x.id) opaques i ∙ ap (option_map (λ (x : Opaque). term_at table x.id)) e

by_name : (table : List Term) (o : Option Opaque) (t : Term) → option_map (λ (x : Opaque). term_at table x.id) o ≡ Some t → (x : Opaque) × ((o ≡ Some x) × (term_at table x.id ≡ t))
by_name table None t e = cc
by_name table (Some x) t e = (x, (refl, cc))

pub of_name : (table : List Term) (opaques : List Opaque) (i : ℕ) (t : Term) → slice_get (names_of table opaques) i ≡ Some t → (o : Opaque) × ((slice_get opaques i ≡ Some o) × (term_at table o.id ≡ t))
of_name table opaques i t e = by_name table (slice_get opaques i) t (sym (slice_get-map (λ (x : Opaque). term_at table x.id) opaques i) ∙ e)

pub names_length : (table : List Term) (opaques : List Opaque) → length (names_of table opaques) ≡ length opaques
names_length table [] = refl
names_length table (o ∷ os) = ap suc (names_length table os)

pub names_keep : (table : List Term) (entries later : Entries) (opaques further : List Opaque) → IsGrown entries later opaques further → Keeps (names_of table opaques) (names_of table further)
names_keep table entries later opaques further h = record {
  longer = omega (arith, names_length table opaques, names_length table further, h.longer);
  keeps = λ i t e. let o = of_name table opaques i t e in named_at table further i o.0 (h.terms i o.0 o.1.0) ∙ ap Some o.1.1;
}

pub distinct : (table : List Term) (entries : Entries) (opaques : List Opaque) → IsReader table entries opaques → AreDistinct (names_of table opaques)
distinct table entries opaques h i j t e f = h.opaques_are.apart i j t e f

pub all_opaque : (table : List Term) (entries : Entries) (opaques : List Opaque) → IsReader table entries opaques → (i : ℕ) (t : Term) → slice_get (names_of table opaques) i ≡ Some t → is_opaque t ≡ true
all_opaque table entries opaques h i t e =
    let o = of_name table opaques i t e in
    ap is_opaque (sym o.1.1) ∙ (h.opaques_are.named i o.0 o.1.0).opaque

module _ (table : List Term) (entries : Entries) (opaques : List Opaque) (h : IsReader table entries opaques) (id : TermId) (there : IsIn table id) (plain : is_opaque (term_at table id) ≡ false) (args : All (IsKnownAll (names_of table opaques)) (arguments (term_at table id))) where
  -- a term that isn't opaque
  pub put_read : (lin : Lin) → IsReadAs (names_of table opaques) (term_at table id) lin → (later : Entries) → later ≡ entries ++ (id.0, lin) ∷ [] → HasRead table entries later opaques opaques id.0
  put_read lin read later is = subst (λ (es : Entries). HasRead table entries es opaques opaques id.0) (sym is) (record {
    reader = record {
      apart = h.apart;
      opaques_are = h.opaques_are;
      read = λ k e s. elim (at_seam entries (id.0, lin) k e s) [
        | inl q ↦ h.read k e q
        | inr q ↦ subst (IsRead table opaques) q.1 (record {
          there = there;
          known = known_all (names_of table opaques) (term_at table id) (narrow_of_read (names_of table opaques) (distinct table entries opaques h) (term_at table id) lin read) (λ o. absurd (true≢false (sym o ∙ plain))) args;
          read = read;
        })
      ];
      known = λ i o s. let has = h.known i o s in (has.0, (has.1.0, get_kept entries ((id.0, lin) ∷ []) has.1.0 (o.id.0, has.0) has.1.1));
    };
    grown = record { sums = λ k e s. get_kept entries ((id.0, lin) ∷ []) k e s; terms = λ i o s. s; longer = omega arith };
    has = (lin, (length entries, get_last entries (id.0, lin)));
  })

-- ---- sums of terms that have been read

pub sums_push : (es : Entries) (ids : List TermId) (lins : List Lin) (id : TermId) (lin : Lin) → AreSumsOf es ids lins → IsSumAt es id.0 lin → AreSumsOf es (ids ++ id ∷ []) (lins ++ lin ∷ [])
sums_push es [] [] id lin h p = (p, tt)
sums_push es [] (x ∷ lins) id lin h p = absurd h
sums_push es (i ∷ ids) [] id lin h p = absurd h
sums_push es (i ∷ ids) (x ∷ lins) id lin h p = (h.0, sums_push es ids lins id lin h.1 p)

module _ (table : List Term) (entries : Entries) (opaques : List Opaque) (h : IsReader table entries opaques) where
  pub sums_read : (ids : List TermId) (lins : List Lin) → AreSumsOf entries ids lins → AreReadAs (names_of table opaques) (map (term_at table) ids) lins
  sums_read [] [] s = tt
  sums_read [] (x ∷ lins) s = absurd s
  sums_read (i ∷ ids) [] s = absurd s
  sums_read (i ∷ ids) (x ∷ lins) s = ((h.read s.0.0 (i.0, x) s.0.1).read, sums_read ids lins s.1)

  pub sums_below : (ids : List TermId) (lins : List Lin) → AreSumsOf entries ids lins → All (λ lin. IsBelowAll lin (length opaques)) lins
  sums_below [] [] s = All-nil (λ lin. IsBelowAll lin (length opaques))
  sums_below [] (x ∷ lins) s = absurd s
  sums_below (i ∷ ids) [] s = absurd s
  sums_below (i ∷ ids) (x ∷ lins) s =
      All-cons (λ lin. IsBelowAll lin (length opaques)) x lins
      (subst (IsBelowAll x) (names_length table opaques) (h.read s.0.0 (i.0, x) s.0.1).read.there) (sums_below ids lins s.1)

  pub sums_known : (ids : List TermId) → HaveSums entries ids → All (IsKnownAll (names_of table opaques)) (map (term_at table) ids)
  sums_known [] s = All-nil (IsKnownAll (names_of table opaques))
  sums_known (i ∷ ids) s =
      let has = All-head (λ (id : TermId). HasSum entries id.0) i ids s in
      All-cons (IsKnownAll (names_of table opaques)) (term_at table i) (map (term_at table) ids) (h.read has.1.0 (i.0, has.0) has.1.1).known (sums_known ids (All-tail (λ (id : TermId). HasSum entries id.0) i ids s))

-- ---- an opaque term

pub opaque_reading : (w : Values) (t : Term) → is_opaque t ≡ true → reading w t ≡ w t
opaque_reading w (number n) e = cc
opaque_reading w (constant s) e = refl
opaque_reading w (unary s a) e = refl
opaque_reading w (binary s a b) e = ap (λ o. if o then w (binary s a b) else sum_or_product s (reading w a) (reading w b)) e
opaque_reading w (ternary s a b c) e = refl

abbrev one_of : ℕ → Lin
one_of n = record { form = (pos 1, n) ∷ []; constant = pos 0 }

one_form : (n : ℕ) → IsSized (2 ^ 31) ((pos 1, n) ∷ [])
one_form n = record {
  sorted = record { rises = (omega arith, tt); nonzero = All-cons IsNonzero (pos 1, n) [] (λ e. cc) (All-nil IsNonzero) };
  within = All-cons (IsWithin (2 ^ 31)) (pos 1, n) [] (omega arith) (All-nil (IsWithin (2 ^ 31)));
}

pub one_read : (names : List Term) (n : ℕ) (t : Term) → slice_get names n ≡ Some t → is_opaque t ≡ true → IsReadAs names t (one_of n)
one_read names n t e o = record {
  bounded = record { sized = one_form n; constant = omega arith };
  there = All-cons (IsUnder (length names)) (pos 1, n) [] (within names n t e) (All-nil (IsUnder (length names)));
  worth = λ w. one_sum (valued w names n) ∙ (ap (λ (p : Option Term). w (unwrap_or p (number (pos 0)))) e ∙ sym (opaque_reading w t o));
}
  where
    one_sum : (x : ℤ) → pos 1 *ℤ x +ℤ pos 0 +ℤ pos 0 ≡ x
    one_sum x = omega (arith, ints, suc_ℤ-*ℤ (pos 0) x, zero-*ℤ x)

names_push : (table : List Term) (opaques : List Opaque) (o : Opaque) → names_of table (opaques ++ o ∷ []) ≡ names_of table opaques ++ term_at table o.id ∷ []
names_push table [] o = refl
names_push table (x ∷ opaques) o = ap (λ (ts : List Term). term_at table x.id ∷ ts) (names_push table opaques o)

module _ (table : List Term) (entries : Entries) (opaques : List Opaque) (h : IsReader table entries opaques) (id : TermId) (there : IsIn table id) (fresh : HasSum entries id.0 → ⊥)
    (symbol : ℕ) (ids : List TermId) (have : HaveSums entries ids) (opaque : is_opaque (term_at table id) ≡ true) (is_symbol : HaveSymbol (term_at table id) symbol)
    (is_args : arguments (term_at table id) ≡ map (term_at table) ids) (lins : List Lin) (sums : AreSumsOf entries ids lins) where
  abbrev o : Opaque
  o = record { id = id; symbol = symbol; args = lins }

  abbrev t : Term
  t = term_at table id

  abbrev names : List Term
  names = names_of table opaques

  abbrev new_names : List Term
  new_names = names_of table (opaques ++ o ∷ [])

  abbrev new_entries : Entries
  new_entries = entries ++ (id.0, one_of (length opaques)) ∷ []

  is_names : new_names ≡ names ++ t ∷ []
  is_names = names_push table opaques o

  grown : IsGrown entries new_entries opaques (opaques ++ o ∷ [])
  grown = record {
    sums = λ k e s. get_kept entries ((id.0, one_of (length opaques)) ∷ []) k e s;
    terms = λ i p s. get_kept opaques (o ∷ []) i p s;
    longer = omega (arith, length-append opaques (o ∷ []));
  }

  keep : Keeps names new_names
  keep = names_keep table entries new_entries opaques (opaques ++ o ∷ []) grown

  -- no earlier term is this one
  unlike : (i : ℕ) → slice_get names i ≡ Some t → ⊥
  unlike i e =
      let p = of_name table opaques i t e in
      let named = h.opaques_are.named i p.0 p.1.0 in
      let same : p.0.id.0 ≡ id.0 = h.apart.apart p.0.id.0 id.0 t (stands table p.0.id named.there ∙ ap Some p.1.1) (stands table id there) in
      fresh (subst (HasSum entries) same (h.known i p.0 p.1.0))

  apart_at : (i j : ℕ) (u : Term) → (slice_get names i ≡ Some u) ⊎ ((i ≡ length names) × (t ≡ u)) → (slice_get names j ≡ Some u) ⊎ ((j ≡ length names) × (t ≡ u)) → i ≡ j
  apart_at i j u (inl e) (inl f) = h.opaques_are.apart i j u e f
  apart_at i j u (inl e) (inr f) = absurd (unlike i (e ∙ ap Some (sym f.1)))
  apart_at i j u (inr e) (inl f) = absurd (unlike j (f ∙ ap Some (sym e.1)))
  apart_at i j u (inr e) (inr f) = e.0 ∙ sym f.0

  are_apart : AreDistinct new_names
  are_apart i j u e f =
      apart_at i j u (at_seam names t i u (subst (λ (ts : List Term). slice_get ts i ≡ Some u) is_names e)) (at_seam names t j u (subst (λ (ts : List Term). slice_get ts j ≡ Some u) is_names f))

  args_read : AreReadAs names (arguments t) lins
  args_read = subst (λ (ts : List Term). AreReadAs names ts lins) (sym is_args) (sums_read table entries opaques h ids lins sums)

  new_named : (i : ℕ) (p : Opaque) → (slice_get opaques i ≡ Some p) ⊎ ((i ≡ length opaques) × (o ≡ p)) → IsNamed table (opaques ++ o ∷ []) i p
  new_named i p (inl e) =
      let n = h.opaques_are.named i p e in
      record { there = n.there; opaque = n.opaque; symbol = n.symbol; args = all_read_later names new_names keep (arguments (term_at table p.id)) p.args n.args; smaller = n.smaller }
  new_named i p (inr e) = subst (λ (n : ℕ). IsNamed table (opaques ++ o ∷ []) n p) (sym e.0) (subst (IsNamed table (opaques ++ o ∷ []) (length opaques)) e.1 (record {
    there = there;
    opaque = opaque;
    symbol = is_symbol;
    args = all_read_later names new_names keep (arguments t) lins args_read;
    smaller = sums_below table entries opaques h ids lins sums;
  }))

  args_known : All (IsKnownAll new_names) (arguments t)
  args_known = All-weaker (IsKnownAll names) (IsKnownAll new_names) (λ u k. known_later names new_names keep u k) (arguments t) (subst (All (IsKnownAll names)) (sym is_args) (sums_known table entries opaques h ids have))

  at_end : slice_get new_names (length opaques) ≡ Some t
  at_end = named_at table (opaques ++ o ∷ []) (length opaques) o (get_last opaques o)

  own_read : IsReadAs new_names t (one_of (length opaques))
  own_read = one_read new_names (length opaques) t at_end opaque

  new_read : (k : ℕ) (e : ℕ × Lin) → (slice_get entries k ≡ Some e) ⊎ ((k ≡ length entries) × ((id.0, one_of (length opaques)) ≡ e)) → IsRead table (opaques ++ o ∷ []) e
  new_read k e (inl s) = let r = h.read k e s in record { there = r.there; known = known_later names new_names keep (term_of table e.0) r.known; read = read_later names new_names keep (term_of table e.0) e.1 r.read }
  new_read k e (inr s) = subst (IsRead table (opaques ++ o ∷ [])) s.1 (record {
    there = there;
    known = known_all new_names t (narrow_of_read new_names are_apart t (one_of (length opaques)) own_read) (λ is. (length opaques, at_end)) args_known;
    read = own_read;
  })

  new_known : (i : ℕ) (p : Opaque) → (slice_get opaques i ≡ Some p) ⊎ ((i ≡ length opaques) × (o ≡ p)) → HasSum new_entries p.id.0
  new_known i p (inl e) = has_later entries new_entries opaques (opaques ++ o ∷ []) grown p.id.0 (h.known i p e)
  new_known i p (inr e) = subst (λ (x : Opaque). HasSum new_entries x.id.0) e.1 (one_of (length opaques), (length entries, get_last entries (id.0, one_of (length opaques))))

  has_put : HasRead table entries new_entries opaques (opaques ++ o ∷ []) id.0
  has_put = record {
    reader = record {
      apart = h.apart;
      opaques_are = record { named = λ i p e. new_named i p (at_seam opaques o i p e); apart = are_apart };
      read = λ k e s. new_read k e (at_seam entries (id.0, one_of (length opaques)) k e s);
      known = λ i p e. new_known i p (at_seam opaques o i p e);
    };
    grown = grown;
    has = (one_of (length opaques), (length entries, get_last entries (id.0, one_of (length opaques))));
  }

pub opaque_read : (table : List Term) (entries : Entries) (opaques : List Opaque) → IsReader table entries opaques → (id : TermId) → IsIn table id → (HasSum entries id.0 → ⊥)
    → (symbol : ℕ) (ids : List TermId) → HaveSums entries ids → is_opaque (term_at table id) ≡ true → HaveSymbol (term_at table id) symbol
    → arguments (term_at table id) ≡ map (term_at table) ids → (later : Entries) (further : List Opaque) → IsPut entries later opaques further id symbol ids → HasRead table entries later opaques further id.0
opaque_read table entries opaques h id there fresh symbol ids have opaque is_symbol is_args later further p =
    subst (λ (es : Entries). HasRead table entries es opaques further id.0) (sym p.later_is)
    (subst (λ (os : List Opaque). HasRead table entries (entries ++ (id.0, one_of (length opaques)) ∷ []) opaques os id.0) (sym p.further_is)
    (has_put table entries opaques h id there fresh symbol ids have opaque is_symbol is_args p.args p.sums))

-- ---- several terms, one after the other

pub record HaveRead (table : List Term) (entries later : Entries) (opaques further : List Opaque) (ids : List TermId) : Type 0 where
  pub reader : IsReader table later further
  pub grown : IsGrown entries later opaques further
  pub have : HaveSums later ids

pub none_read : (table : List Term) (entries : Entries) (opaques : List Opaque) → IsReader table entries opaques → HaveRead table entries entries opaques opaques []
none_read table entries opaques h = record { reader = h; grown = grown_all entries opaques; have = All-nil (λ (id : TermId). HasSum entries id.0) }

pub all_later : (a b : Entries) (p q : List Opaque) → IsGrown a b p q → (ids : List TermId) → HaveSums a ids → HaveSums b ids
all_later a b p q h ids have = All-weaker (λ (id : TermId). HasSum a id.0) (λ (id : TermId). HasSum b id.0) (λ id has. has_later a b p q h id.0 has) ids have

pub one_more_read : (table : List Term) (a b c : Entries) (p q r : List Opaque) (ids : List TermId) (id : TermId) → HaveRead table a b p q ids → HasRead table b c q r id.0 → HaveRead table a c p r (ids ++ id ∷ [])
one_more_read table a b c p q r ids id h j = record {
  reader = j.reader;
  grown = grown_on a b c p q r h.grown j.grown;
  have = All-push (λ (x : TermId). HasSum c x.0) ids id (all_later b c q r j.grown ids h.have) j.has;
}

pub read_after : (table : List Term) (a b c : Entries) (p q r : List Opaque) (id : ℕ) → IsGrown a b p q → HasRead table b c q r id → HasRead table a c p r id
read_after table a b c p q r id h j = record { reader = j.reader; grown = grown_on a b c p q r h j.grown; has = j.has }
