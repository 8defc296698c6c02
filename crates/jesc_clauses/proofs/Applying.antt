-- Applications of symbols to terms.
use Rattle.std.proofs.Common.{◌≡◌, ◌≢◌, ◌||◌, true, false, not, ℕ, zero, suc, ◌<◌, ◌≤◌, ℤ, List, [], ◌∷◌, length, map, take, get_or, slice_get, Some, refl, sym, ap, ◌∙◌, subst, arith}
use Rattle.std.specs.Prelude.{All}
use Rattle.jesc_logic.specs.declared.terms.TermId.{TermId}
use Rattle.jesc_logic.specs.declared.terms.Node.TheVariants.{Num, App}
use Rattle.jesc_logic.specs.Terms.{Term, number, binary, applied, term_at, node_term, StandsFor, ArePlaces}
use Rattle.jesc_logic.specs.laws.Keeping.{term_of_standing}
use Rattle.jesc_clauses.specs.Readings.{is_number, is_opaque, arguments, HaveSymbol, StandsIn}
use Rattle.jesc_clauses.specs.Sums.{IsWideIn}
use Rattle.jesc_clauses.proofs.Terms.{stands_below}
use Rattle.std.proofs.lemmas.Option.{slice_get-map, slice_get-get_or}
use Rattle.std.proofs.lemmas.List.Elements.{All-nil, All-cons}
use Rattle.std.specs.Option.{option_map}

pub symbol_of : (s : ℕ) (ts : List Term) → HaveSymbol (applied s ts) s
symbol_of s [] = refl
symbol_of s (a ∷ []) = refl
symbol_of s (a ∷ b ∷ []) = refl
symbol_of s (a ∷ b ∷ c ∷ rest) = refl

pub arguments_of : (s : ℕ) (ts : List Term) → length ts ≤ 3 → arguments (applied s ts) ≡ ts
arguments_of s [] h = refl
arguments_of s (a ∷ []) h = refl
arguments_of s (a ∷ b ∷ []) h = refl
arguments_of s (a ∷ b ∷ c ∷ []) h = refl
arguments_of s (a ∷ b ∷ c ∷ d ∷ rest) h = absurd (omega arith)

pub opaque_by_count : (s : ℕ) (ts : List Term) → length ts ≢ 2 → is_opaque (applied s ts) ≡ true
opaque_by_count s [] h = refl
opaque_by_count s (a ∷ []) h = refl
opaque_by_count s (a ∷ b ∷ []) h = absurd (h refl)
opaque_by_count s (a ∷ b ∷ c ∷ rest) h = refl

pub opaque_by_symbol : (s : ℕ) (ts : List Term) → 1 < s → is_opaque (applied s ts) ≡ true
opaque_by_symbol s [] h = refl
opaque_by_symbol s (a ∷ []) h = refl
opaque_by_symbol zero (a ∷ b ∷ []) h = absurd (omega arith)
opaque_by_symbol (suc zero) (a ∷ b ∷ []) h = absurd (omega arith)
opaque_by_symbol (suc (suc s)) (a ∷ b ∷ []) h = refl
opaque_by_symbol s (a ∷ b ∷ c ∷ rest) h = refl

pub opaque_product : (a b : Term) → is_number a ≡ false → is_number b ≡ false → is_opaque (binary 1 a b) ≡ true
opaque_product a b p q = λ i. not (p i || q i)

pub length_of_map : {A B : Type 0} (f : A → B) (xs : List A) → length (map f xs) ≡ length xs
length_of_map f [] = refl
length_of_map f (x ∷ xs) = ap suc (length_of_map f xs)

-- of two arguments
pub applied_two : (terms : List Term) (s : ℕ) (ids : List TermId) (d e : TermId) → length ids ≡ 2 → applied s (map (term_at terms) ids) ≡ binary s (term_at terms (get_or ids 0 d)) (term_at terms (get_or ids 1 e))
applied_two terms s [] d e h = absurd (omega arith)
applied_two terms s (a ∷ []) d e h = absurd (omega arith)
applied_two terms s (a ∷ b ∷ []) d e h = refl
applied_two terms s (a ∷ b ∷ c ∷ rest) d e h = absurd (omega arith)

pub number_node : (terms : List Term) (id : TermId) (n : ℤ) → StandsFor terms id (node_term terms (Num n)) → term_at terms id ≡ number n
number_node terms id n h = term_of_standing terms id (number n) h

-- a node over as many places as its arity tells
pub args_of : (terms : List Term) (n : ℕ) (a b c : TermId) → take n (term_at terms a ∷ term_at terms b ∷ term_at terms c ∷ []) ≡ map (term_at terms) (take n (a ∷ b ∷ c ∷ []))
args_of terms zero a b c = refl
args_of terms (suc zero) a b c = refl
args_of terms (suc (suc zero)) a b c = refl
args_of terms (suc (suc (suc zero))) a b c = refl
args_of terms (suc (suc (suc (suc n)))) a b c = refl

pub places_few : (id n : ℕ) (a b c : TermId) → ArePlaces id n a.0 b.0 c.0 → n ≤ 3
places_few id zero a b c h = omega arith
places_few id (suc zero) a b c h = omega arith
places_few id (suc (suc zero)) a b c h = omega arith
places_few id (suc (suc (suc zero))) a b c h = omega arith
places_few id (suc (suc (suc (suc n)))) a b c h = absurd h

abbrev pub IsLess : ℕ → TermId → Type 0
IsLess id x = x.0 < id

pub places_below : (id n : ℕ) (a b c : TermId) → ArePlaces id n a.0 b.0 c.0 → All (IsLess id) (take n (a ∷ b ∷ c ∷ []))
places_below id zero a b c h = All-nil (IsLess id)
places_below id (suc zero) a b c h = All-cons (IsLess id) a [] h.0 (All-nil (IsLess id))
places_below id (suc (suc zero)) a b c h = All-cons (IsLess id) a (b ∷ []) h.0 (All-cons (IsLess id) b [] h.1 (All-nil (IsLess id)))
places_below id (suc (suc (suc zero))) a b c h = All-cons (IsLess id) a (b ∷ c ∷ []) h.0 (All-cons (IsLess id) b (c ∷ []) h.1 (All-cons (IsLess id) c [] h.2 (All-nil (IsLess id))))
places_below id (suc (suc (suc (suc n)))) a b c h = absurd h

pub places_length : (n : ℕ) (a b c : TermId) → length (take n (a ∷ b ∷ c ∷ [])) ≤ 3
places_length zero a b c = omega arith
places_length (suc zero) a b c = omega arith
places_length (suc (suc zero)) a b c = omega arith
places_length (suc (suc (suc zero))) a b c = omega arith
places_length (suc (suc (suc (suc n)))) a b c = omega arith

pub application : (table : List Term) (id : TermId) (s n : ℕ) (a b c : TermId) → StandsFor table id (node_term table (App s n a b c)) → term_at table id ≡ applied s (map (term_at table) (take n (a ∷ b ∷ c ∷ [])))
application table id s n a b c h = term_of_standing table id (node_term table (App s n a b c)) h ∙ ap (applied s) (args_of table n a b c)

-- a number that is too large in an argument is one in the term
pub wide_argument : (table : List Term) (id : TermId) (s : ℕ) (ids : List TermId) → length ids ≤ 3 → term_at table id ≡ applied s (map (term_at table) ids) → (k : ℕ) (d : TermId) → k < length ids → (n : ℤ) → IsWideIn (term_at table (get_or ids k d)) n → IsWideIn (term_at table id) n
wide_argument table id s ids few is k d p n h =
    let same : arguments (applied s (map (term_at table) ids)) ≡ map (term_at table) ids = arguments_of s (map (term_at table) ids) (omega (arith, few, length_of_map (term_at table) ids)) in
    let at : slice_get (map (term_at table) ids) k ≡ Some (term_at table (get_or ids k d)) = slice_get-map (term_at table) ids k ∙ ap (option_map (term_at table)) (slice_get-get_or ids k d p) in
    record {
      term = h.term;
      stands = subst (StandsIn h.term) (sym is) (stands_below h.term (applied s (map (term_at table) ids)) (term_at table (get_or ids k d)) k (ap (λ (ts : List Term). slice_get ts k) same ∙ at) h.stands);
      wide = h.wide;
    }

pub argument_below : (id : ℕ) (ids : List TermId) (k : ℕ) (d : TermId) → All (IsLess id) ids → k < length ids → (get_or ids k d).0 < id
argument_below id ids k d all p = all k d p
