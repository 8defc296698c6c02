-- Terms in the place of variables, node by node.
use Rattle.std.proofs.Common.{◌≡◌, ℕ, zero, suc, ◌-◌, ◌<◌, ◌≤◌, Bool, true, false, ◌&&◌, ◌||◌, nat_le, nat_lt, List, [], ◌∷◌, length, slice_get, unwrap_or, Option, Some, None, refl, sym, ap, ◌∙◌, subst, arith, if◌then◌else◌}
use Rattle.std.specs.Prelude.{All}
use Rattle.std.proofs.lemmas.Bool.Decides.{nat_tests}
use Rattle.std.proofs.lemmas.Option.{slice_get_past, slice_get-map, slice_get_within, get_or_from_slice_get}
use Rattle.std.specs.Option.{option_map}
use Rattle.std.proofs.lemmas.List.Elements.{All-cons, All-head, All-tail, All-get_or}
use Rattle.jesc_logic.specs.declared.terms.TermId.{TermId}
use Rattle.jesc_logic.specs.declared.terms.Node.{Node}
use Rattle.jesc_logic.specs.declared.terms.Node.TheVariants.{App}
use Rattle.jesc_logic.specs.Terms.{Term, number, constant, unary, binary, ternary, term_at, node_term, IsIn, StandsFor, Keeps, ArePlaces}
use Rattle.jesc_logic.specs.Tables.{is_open}
use Rattle.jesc_logic.specs.Making.{chosen}
use Rattle.jesc_logic.specs.Substitution.{put, terms_at}
use Rattle.jesc_logic.specs.laws.Keeping.{keeps_on, is_in, stands, term_of_standing, same_term_at}
use Rattle.jesc_logic.proofs.Lists.{within}

neither : (a b : Bool) → a || b ≡ false → (a ≡ false) × (b ≡ false)
neither true b e = (e, cc)
neither false b e = (refl, e)

pub length-map_terms : (terms : List Term) (ids : List TermId) → length (terms_at terms ids) ≡ length ids
length-map_terms terms [] = refl
length-map_terms terms (a ∷ ids) = ap suc (length-map_terms terms ids)

-- a symbol that is no variable of the fact stays
past : (args : List Term) (symbol : ℕ) → length args ≤ 32 → nat_le 32 symbol && nat_lt symbol 64 ≡ false → put args (constant symbol) ≡ constant symbol
past args symbol few closed = by (nat_le 32 symbol) refl
  where
    by : (b : Bool) → nat_le 32 symbol ≡ b → put args (constant symbol) ≡ constant symbol
    by false p = ap (λ t. if t then unwrap_or (slice_get args (symbol - 32)) (constant symbol) else constant symbol) p
    by true p =
        let q : nat_lt symbol 64 ≡ false = ap (λ t. t && nat_lt symbol 64) (sym p) ∙ closed in
        let far : length args ≤ symbol - 32 = grind (arith, nat_tests) in
        ap (λ t. if t then unwrap_or (slice_get args (symbol - 32)) (constant symbol) else constant symbol) p
        ∙ ap (λ o. unwrap_or o (constant symbol)) (slice_get_past args (symbol - 32) far)

-- a term without variables stays
pub put_closed : (args : List Term) → length args ≤ 32 → (t : Term) → is_open t ≡ false → put args t ≡ t
put_closed args few (number n) h = refl
put_closed args few (constant symbol) h = past args symbol few h
put_closed args few (unary symbol a) h = ap (unary symbol) (put_closed args few a h)
put_closed args few (binary symbol a b) h =
    let p = neither (is_open a) (is_open b) h in
    λ i. binary symbol (put_closed args few a p.0 i) (put_closed args few b p.1 i)
put_closed args few (ternary symbol a b c) h =
    let p = neither (is_open a || is_open b) (is_open c) h in
    let q = neither (is_open a) (is_open b) p.0 in
    λ i. ternary symbol (put_closed args few a q.0 i) (put_closed args few b q.1 i) (put_closed args few c p.1 i)

pub same_terms_at : (old new : List Term) → Keeps old new → (ids : List TermId) → All (IsIn old) ids → terms_at new ids ≡ terms_at old ids
same_terms_at old new k [] all = refl
same_terms_at old new k (a ∷ ids) all =
    λ i. same_term_at old new k a (All-head (IsIn old) a ids all) i ∷ same_terms_at old new k ids (All-tail (IsIn old) a ids all) i

pub stands_in : (terms : List Term) (id : TermId) (t : Term) → StandsFor terms id t → IsIn terms id
stands_in terms id t e = within terms id.0 t e

-- the number r stands in the new terms for the old term of id, with the arguments in the place of the variables
pub record Stands (old new : List Term) (args : List TermId) (id r : TermId) : Type 0 where
  pub there : IsIn new r
  pub is : term_at new r ≡ put (terms_at old args) (term_at old id)

pub standing : (old new : List Term) (args : List TermId) (id r : TermId) → StandsFor new r (put (terms_at old args) (term_at old id)) → Stands old new args id r
standing old new args id r e = record { there = stands_in new r _ e; is = term_of_standing new r _ e }

-- the same from an earlier table
pub from_earlier : (old mid new : List Term) (args : List TermId) (id r : TermId) → Keeps old mid → All (IsIn old) args → IsIn old id → Stands mid new args id r → Stands old new args id r
from_earlier old mid new args id r k all p s = record { there = s.there; is = s.is ∙ (λ i. put (same_terms_at old mid k args all i) (same_term_at old mid k id p i)) }

-- the same in a later table
pub in_later : (old mid new : List Term) (args : List TermId) (id r : TermId) → Keeps mid new → Stands old mid args id r → Stands old new args id r
in_later old mid new args id r k s = record { there = is_in mid new k r s.there; is = same_term_at mid new k r s.there ∙ s.is }

module _ (old mid : List Term) (args : List TermId) (id : TermId) (symbol : ℕ) where
  -- the node of the new parts stands for the old node's term, with the arguments in the place of the variables
  abbrev pub Made : Node → Node → Type 0
  Made n m = StandsFor old id (node_term old n) → node_term mid m ≡ put (terms_at old args) (term_at old id)

  pub made_one : (a b c a' : TermId) → Stands old mid args a a' → Made (App symbol 1 a b c) (App symbol 1 a' b c)
  made_one a b c a' s h = (λ i. unary symbol (s.is i)) ∙ ap (put (terms_at old args)) (sym (term_of_standing old id _ h))

  pub made_two : (a b c a' b' : TermId) → Stands old mid args a a' → Stands old mid args b b' → Made (App symbol 2 a b c) (App symbol 2 a' b' c)
  made_two a b c a' b' s t h = (λ i. binary symbol (s.is i) (t.is i)) ∙ ap (put (terms_at old args)) (sym (term_of_standing old id _ h))

  pub made_three : (a b c a' b' c' : TermId) → Stands old mid args a a' → Stands old mid args b b' → Stands old mid args c c' → Made (App symbol 3 a b c) (App symbol 3 a' b' c')
  made_three a b c a' b' c' s t u h = (λ i. ternary symbol (s.is i) (t.is i) (u.is i)) ∙ ap (put (terms_at old args)) (sym (term_of_standing old id _ h))

-- a variable is given its argument
pub variable_put : (terms : List Term) (args : List TermId) (id : TermId) (symbol : ℕ) → IsIn terms id → All (IsIn terms) args → StandsFor terms id (constant symbol) → StandsFor terms (chosen symbol args id) (put (terms_at terms args) (term_at terms id))
variable_put terms args id symbol p all h =
    subst (λ (t : Term). StandsFor terms (chosen symbol args id) (put (terms_at terms args) t)) (sym (term_of_standing terms id _ h)) (by (nat_le 32 symbol) refl)
  where
    given : (o : Option TermId) → slice_get args (symbol - 32) ≡ o → StandsFor terms (unwrap_or o id) (unwrap_or (option_map (term_at terms) o) (constant symbol))
    given None e = h
    given (Some a) e = stands terms a (subst (IsIn terms) (get_or_from_slice_get args (symbol - 32) a a e) (All-get_or (IsIn terms) args (symbol - 32) a (slice_get_within args (symbol - 32) a e) all))

    shown : StandsFor terms (unwrap_or (slice_get args (symbol - 32)) id) (unwrap_or (slice_get (terms_at terms args) (symbol - 32)) (constant symbol))
    shown = subst (λ (o : Option Term). StandsFor terms (unwrap_or (slice_get args (symbol - 32)) id) (unwrap_or o (constant symbol))) (sym (slice_get-map (term_at terms) args (symbol - 32))) (given (slice_get args (symbol - 32)) refl)

    by : (b : Bool) → nat_le 32 symbol ≡ b → StandsFor terms (chosen symbol args id) (put (terms_at terms args) (constant symbol))
    by false q = subst (λ (t : Bool). StandsFor terms (if t then unwrap_or (slice_get args (symbol - 32)) id else id) (if t then unwrap_or (slice_get (terms_at terms args) (symbol - 32)) (constant symbol) else constant symbol)) (sym q) h
    by true q = subst (λ (t : Bool). StandsFor terms (if t then unwrap_or (slice_get args (symbol - 32)) id else id) (if t then unwrap_or (slice_get (terms_at terms args) (symbol - 32)) (constant symbol) else constant symbol)) (sym q) shown

pub one_in : (terms : List Term) (id : TermId) → IsIn terms id → All (IsIn terms) (id ∷ [])
one_in terms id p = All-cons (IsIn terms) id [] p (λ k d l. absurd (omega (arith, l)))

pub is_three : (k n a b c : ℕ) → ArePlaces k n a b c → (n ≡ 0 → ⊥) → (n ≡ 1 → ⊥) → (n ≡ 2 → ⊥) → n ≡ 3
is_three k zero a b c h p q r = absurd (p refl)
is_three k (suc zero) a b c h p q r = absurd (q refl)
is_three k (suc (suc zero)) a b c h p q r = absurd (r refl)
is_three k (suc (suc (suc zero))) a b c h p q r = refl
is_three k (suc (suc (suc (suc n)))) a b c h p q r = absurd h

-- a node's term, where its arity is known
pub at_arity : (terms : List Term) (id : TermId) (symbol n m : ℕ) (a b c : TermId) → n ≡ m → StandsFor terms id (node_term terms (App symbol n a b c)) → StandsFor terms id (node_term terms (App symbol m a b c))
at_arity terms id symbol n m a b c e h = subst (λ (i : ℕ). StandsFor terms id (node_term terms (App symbol i a b c))) e h

module _ (old : List Term) (args : List TermId) (all : All (IsIn old) args) (id : TermId) (symbol : ℕ) where
  pub two_made : (mid mid2 : List Term) (a b c a' b' : TermId) → StandsFor old id (node_term old (App symbol 2 a b c)) → IsIn old b → Keeps old mid → StandsFor mid a' (put (terms_at old args) (term_at old a)) → Keeps mid mid2 → StandsFor mid2 b' (put (terms_at mid args) (term_at mid b)) → node_term mid2 (App symbol 2 a' b' c) ≡ put (terms_at old args) (term_at old id)
  two_made mid mid2 a b c a' b' h pb k sa k2 sb =
      made_two old mid2 args id symbol a b c a' b' (in_later old mid mid2 args a a' k2 (standing old mid args a a' sa)) (from_earlier old mid mid2 args b b' k all pb (standing mid mid2 args b b' sb)) h

  pub three_made : (mid mid2 mid3 : List Term) (a b c a' b' c' : TermId) → StandsFor old id (node_term old (App symbol 3 a b c)) → IsIn old b → IsIn old c → Keeps old mid → StandsFor mid a' (put (terms_at old args) (term_at old a)) → Keeps mid mid2 → StandsFor mid2 b' (put (terms_at mid args) (term_at mid b)) → Keeps mid2 mid3 → StandsFor mid3 c' (put (terms_at mid2 args) (term_at mid2 c))
      → node_term mid3 (App symbol 3 a' b' c') ≡ put (terms_at old args) (term_at old id)
  three_made mid mid2 mid3 a b c a' b' c' h pb pc k sa k2 sb k3 sc =
      made_three old mid3 args id symbol a b c a' b' c' (in_later old mid mid3 args a a' (keeps_on k2 k3) (standing old mid args a a' sa))
      (in_later old mid2 mid3 args b b' k3 (from_earlier old mid mid2 args b b' k all pb (standing mid mid2 args b b' sb)))
      (from_earlier old mid2 mid3 args c c' (keeps_on k k2) all pc (standing mid2 mid3 args c c' sc)) h
