-- What formulas say that are put together.
use Rattle.std.proofs.Common.{◌≡◌, ℕ, Result, Ok, Err, IfOk, OnOk, List, [], ◌∷◌, ◌++◌, map, All, append_assoc, refl, sym, ap, ◌∙◌, subst}
use Rattle.jesc_logic.specs.declared.terms.TermId.{TermId}
use Rattle.jesc_logic.specs.declared.terms.TermError.{TermError}
use Rattle.jesc_logic.specs.declared.formula.Formula.{Formula}
use Rattle.jesc_logic.specs.declared.formula.FormulaNode.{fold-roll-FormulaNode}
use Rattle.jesc_logic.specs.declared.formula.FormulaNode.TheVariants.{Le, Eq, Not, And, Or, rolls-Not}
use Rattle.jesc_logic.specs.Terms.{Term, binary, term_at, IsIn, StandsFor, Keeps}
use Rattle.jesc_logic.specs.Claims.{Claim, at_most, equal, negation, both, either, shape, node_shape, claim_of, over, Each, IsOver}
use Rattle.std.proofs.lemmas.List.{map-append, append-nil, flat_map_more}
use Rattle.std.proofs.lemmas.List.Elements.{All-nil, All-head, All-tail, All-weaker, All-push}
use Rattle.jesc_logic.specs.laws.Keeping.{keeps_all, keeps_on, is_in, same_term_at, each_in, says_same, term_of_standing}
use Rattle.jesc_logic.proofs.Shapes.{le_shape, eq_shape, and_shape, or_shape}
use Rattle.jesc_logic.proofs.Putting.{stands_in}
use Rattle.jesc_arithmetic.specs.declared.rule.Place.{Place}
use Rattle.jesc_arithmetic.specs.declared.rule.Comparison.{Comparison}
use Rattle.jesc_arithmetic.specs.declared.rule.Joint.{Joint}
use Rattle.jesc_arithmetic.specs.declared.rule.Rule.{Rule}
use Rattle.jesc_arithmetic.specs.declared.rule.Parts.{Parts}
use Rattle.std.specs.List.{flat_map}
use Rattle.jesc_arithmetic.specs.declared.operation.Operation.{Operation as Numbered}
use Rattle.jesc_arithmetic.specs.declared.operation.Operation.TheVariants.{Product, Quotient, Remainder, Division}
use Rattle.jesc_arithmetic.specs.Operations.{Operation, product, quotient, remainder, division}
use Rattle.jesc_arithmetic.specs.Walks.{named, names, IsOverTerms}
use Rattle.jesc_arithmetic.specs.Arithmetic.{division_fact, facts_of}
use Rattle.jesc_arithmetic.specs.Rules.{ArePartsIn, place_of, place_term, comparison_claim, joint_claim, rule_claim, rule_claims, table_claims, Says, Say}

-- ---- in a later table

pub parts_later : (old new : List Term) → Keeps old new → (parts : Parts) → ArePartsIn old parts → ArePartsIn new parts
parts_later old new k parts h = record { left = is_in old new k parts.left h.left; right = is_in old new k parts.right h.right; outcome = is_in old new k parts.outcome h.outcome }

module _ (old new : List Term) (k : Keeps old new) where
  pub says_later : (f : Formula) (claim : Claim Term) → Says old f claim → Says new f claim
  says_later f claim h = record { there = each_in old new k (shape f) h.there; says = says_same old new k (shape f) h.there ∙ h.says }

  module _ (parts : Parts) (h : ArePartsIn old parts) where
    pub same_places : place_term new parts ≡ place_term old parts
    same_places = λ i. place_of (same_term_at old new k parts.left h.left i) (same_term_at old new k parts.right h.right i) (same_term_at old new k parts.outcome h.outcome i)

    pub same_place : (p : Place) → place_term new parts p ≡ place_term old parts p
    same_place p = λ i. same_places i p

    pub same_comparison : (c : Comparison) → comparison_claim (place_term new parts) c ≡ comparison_claim (place_term old parts) c
    same_comparison c = λ i. comparison_claim (same_places i) c

    pub same_joint : (j : Joint) → joint_claim (place_term new parts) j ≡ joint_claim (place_term old parts) j
    same_joint j = λ i. joint_claim (same_places i) j

    pub same_rule : (rule : Rule) → rule_claim (place_term new parts) rule ≡ rule_claim (place_term old parts) rule
    same_rule rule = λ i. rule_claim (same_places i) rule

-- ---- of formulas put together

module _ (terms : List Term) where
  -- a formula of this shape says what the shape says
  says_shape : (f : Formula) (c : Claim TermId) (claim : Claim Term) → shape f ≡ c → Each (IsIn terms) c → over (term_at terms) c ≡ claim → Says terms f claim
  says_shape f c claim e h s = record { there = subst (Each (IsIn terms)) (sym e) h; says = ap (over (term_at terms)) e ∙ s }

  if_made : (r : Result Formula TermError) (n c : Claim TermId) (claim : Claim Term) → IfOk r (λ f. shape f ≡ n) → n ≡ c → Each (IsIn terms) c → over (term_at terms) c ≡ claim → IfOk r (λ f. Says terms f claim)
  if_made (Ok f) n c claim e d h s = says_shape f c claim (e ∙ d) h s
  if_made (Err x) n c claim e d h s = tt

  module _ (x y : TermId) (t u : Term) (p : StandsFor terms x t) (q : StandsFor terms y u) where
    pub says_at_most : (r : Result Formula TermError) → IfOk r (λ f. shape f ≡ node_shape (Le x y)) → IfOk r (λ f. Says terms f (at_most t u))
    says_at_most r e = if_made r (node_shape (Le x y)) (at_most x y) (at_most t u) e (le_shape x y) (stands_in terms x t p, stands_in terms y u q) (λ i. at_most (term_of_standing terms x t p i) (term_of_standing terms y u q i))

    pub says_equal : (r : Result Formula TermError) → IfOk r (λ f. shape f ≡ node_shape (Eq x y)) → IfOk r (λ f. Says terms f (equal t u))
    says_equal r e = if_made r (node_shape (Eq x y)) (equal x y) (equal t u) e (eq_shape x y) (stands_in terms x t p, stands_in terms y u q) (λ i. equal (term_of_standing terms x t p i) (term_of_standing terms y u q i))

  module _ (g h : Formula) (c d : Claim Term) (p : Says terms g c) (q : Says terms h d) where
    pub says_both : (r : Result Formula TermError) → IfOk r (λ f. shape f ≡ node_shape (And g h)) → IfOk r (λ f. Says terms f (both c d))
    says_both r e = if_made r (node_shape (And g h)) (both (shape g) (shape h)) (both c d) e (and_shape g h) (p.there, q.there) (λ i. both (p.says i) (q.says i))

    pub says_either : (r : Result Formula TermError) → IfOk r (λ f. shape f ≡ node_shape (Or g h)) → IfOk r (λ f. Says terms f (either c d))
    says_either r e = if_made r (node_shape (Or g h)) (either (shape g) (shape h)) (either c d) e (or_shape g h) (p.there, q.there) (λ i. either (p.says i) (q.says i))

not_shape : (g : Formula) → node_shape (Not g) ≡ negation (shape g)
not_shape g = ap node_shape (sym (rolls-Not g)) ∙ simp fold-roll-FormulaNode

-- a made formula that negates another says the negation
pub says_negation : (terms : List Term) (f g : Formula) (c : Claim Term) → Says terms g c → shape f ≡ node_shape (Not g) → Says terms f (negation c)
says_negation terms f g c p e = says_shape terms f (negation (shape g)) (negation c) (e ∙ not_shape g) p.there (ap negation p.says)

-- ---- of lists of formulas

pub say_now : (terms : List Term) (fs : List Formula) → All (IsOver terms) fs → Say terms fs (map (claim_of terms) fs)
say_now terms fs h = record { there = h; say = refl }

same_claims : (old new : List Term) → Keeps old new → (fs : List Formula) → All (IsOver old) fs → map (claim_of new) fs ≡ map (claim_of old) fs
same_claims old new k [] h = refl
same_claims old new k (f ∷ fs) h = λ i. says_same old new k (shape f) (All-head (IsOver old) f fs h) i ∷ same_claims old new k fs (All-tail (IsOver old) f fs h) i

pub say_later : (old new : List Term) → Keeps old new → (fs : List Formula) (claims : List (Claim Term)) → Say old fs claims → Say new fs claims
say_later old new k fs claims h = record {
  there = All-weaker (IsOver old) (IsOver new) (λ f p. each_in old new k (shape f) p) fs h.there;
  say = same_claims old new k fs h.there ∙ h.say;
}

pub say_more : (terms : List Term) (fs : List Formula) (claims : List (Claim Term)) (f : Formula) (claim : Claim Term) → Say terms fs claims → Says terms f claim → Say terms (fs ++ f ∷ []) (claims ++ claim ∷ [])
say_more terms fs claims f claim h p = record {
  there = All-push (IsOver terms) fs f h.there p.there;
  say = map-append (claim_of terms) fs (f ∷ []) ∙ (λ i. h.say i ++ p.says i ∷ []);
}

-- rules that have been put in, from the first on
pub record HavePut (old new : List Term) (parts : Parts) (facts later : List Formula) (rules : List Rule) : Type 0 where
  pub keeps : Keeps old new
  pub say : Say new later (map (claim_of old) facts ++ map (rule_claim (place_term old parts)) rules)

pub none_put : (old : List Term) (parts : Parts) (facts : List Formula) → All (IsOver old) facts → HavePut old old parts facts facts []
none_put old parts facts h = record { keeps = keeps_all old; say = subst (Say old facts) (sym (append-nil (map (claim_of old) facts))) (say_now old facts h) }

pub one_more_put : (old mid new : List Term) (parts : Parts) (facts later : List Formula) (rules : List Rule) (rule : Rule) (f : Formula) → ArePartsIn old parts → HavePut old mid parts facts later rules → Keeps mid new
    → Says new f (rule_claim (place_term mid parts) rule) → HavePut old new parts facts (later ++ f ∷ []) (rules ++ rule ∷ [])
one_more_put old mid new parts facts later rules rule f p h k s =
    let at = rule_claim (place_term old parts) in
    let before = map (claim_of old) facts in
    let whole : (before ++ map at rules) ++ at rule ∷ [] ≡ before ++ map at (rules ++ rule ∷ []) = append_assoc before (map at rules) (at rule ∷ []) ∙ ap (λ (cs : List (Claim Term)). before ++ cs) (sym (map-append at rules (rule ∷ []))) in
    record {
      keeps = keeps_on h.keeps k;
      say = subst (Say new (later ++ f ∷ [])) whole
          (say_more new later (before ++ map at rules) f (at rule) (say_later mid new k later (before ++ map at rules) h.say) (subst (Says new f) (same_rule old mid h.keeps parts p rule) s));
    }

pub there_later : (old new : List Term) → Keeps old new → (fs : List Formula) → All (IsOver old) fs → All (IsOver new) fs
there_later old new k fs h = All-weaker (IsOver old) (IsOver new) (λ f p. each_in old new k (shape f) p) fs h

-- what is put in behind formulas that say the same in an earlier table
pub behind : (old mid new : List Term) → Keeps old mid → (facts later : List Formula) (claims : List (Claim Term)) → All (IsOver old) facts → Say new later (map (claim_of mid) facts ++ claims) → Say new later (map (claim_of old) facts ++ claims)
behind old mid new k facts later claims h s = subst (λ (cs : List (Claim Term)). Say new later (cs ++ claims)) (same_claims old mid k facts h) s

pub on_ok : {A E : Type 0} (P Q : Type 0) → (P → Q) → (r : Result A E) → OnOk r P → OnOk r Q
on_ok P Q h (Ok x) p = h p
on_ok P Q h (Err e) p = p

-- a table's rules, put in for two terms that stand in an earlier table
pub table_put : (old mid new : List Term) → Keeps old mid → (facts later : List Formula) → All (IsOver old) facts → (symbol : ℕ) (left right outcome : TermId) → IsIn old left → IsIn old right
    → StandsFor mid outcome (binary symbol (term_at old left) (term_at old right)) → (rules : List Rule)
    → Say new later (map (claim_of mid) facts ++ map (rule_claim (place_term mid (record { left = left; right = right; outcome = outcome }))) rules)
    → Say new later (map (claim_of old) facts ++ table_claims symbol (term_at old left) (term_at old right) rules)
table_put old mid new k facts later h symbol left right outcome p q s rules put =
    behind old mid new k facts later (table_claims symbol (term_at old left) (term_at old right) rules) h
    (subst (λ (cs : List (Claim Term)). Say new later (map (claim_of mid) facts ++ cs))
    (λ i. rule_claims (same_term_at old mid k left p i) (same_term_at old mid k right q i) (term_of_standing mid outcome (binary symbol (term_at old left) (term_at old right)) s i) rules) put)

-- what is put in behind formulas of which it is known what they say
pub follows : (mid new : List Term) (facts later : List Formula) (claims more : List (Claim Term)) → Say mid facts claims → Say new later (map (claim_of mid) facts ++ more) → Say new later (claims ++ more)
follows mid new facts later claims more h s = subst (λ (cs : List (Claim Term)). Say new later (cs ++ more)) h.say s

-- what a division's rules say, put in one after the other
pub division_put : (old one two new : List Term) → Keeps old one → Keeps one two → (facts first second later : List Formula) (f : Formula) (x y : TermId) → All (IsOver old) facts → IsIn old x → IsIn old y → (quotients remainders : List Rule)
    → first ≡ facts ++ f ∷ [] → Says one f (division_fact (term_at old x) (term_at old y))
    → Say two second (map (claim_of one) first ++ table_claims 2 (term_at one x) (term_at one y) quotients)
    → Say new later (map (claim_of two) second ++ table_claims 3 (term_at two x) (term_at two y) remainders)
    → Say new later (map (claim_of old) facts ++ division_fact (term_at old x) (term_at old y) ∷ (table_claims 2 (term_at old x) (term_at old y) quotients ++ table_claims 3 (term_at old x) (term_at old y) remainders))
division_put old one two new k j facts first second later f x y h p q quotients remainders e s t u =
    let a = term_at old x in
    let b = term_at old y in
    let before = map (claim_of old) facts in
    let fact = division_fact a b in
    let qs = table_claims 2 a b quotients in
    let rs = table_claims 3 a b remainders in
    let s1 : Say one first (before ++ fact ∷ []) = subst (λ (fs : List Formula). Say one fs (before ++ fact ∷ [])) (sym e) (say_more one facts before f fact (say_later old one k facts before (say_now old facts h)) s) in
    let t1 : Say two second (map (claim_of one) first ++ qs) = subst (λ (cs : List (Claim Term)). Say two second (map (claim_of one) first ++ cs)) (λ i. table_claims 2 (same_term_at old one k x p i) (same_term_at old one k y q i) quotients) t in
    let s2 : Say two second ((before ++ fact ∷ []) ++ qs) = follows one two first second (before ++ fact ∷ []) qs s1 t1 in
    let kj : Keeps old two = keeps_on k j in
    let u1 : Say new later (map (claim_of two) second ++ rs) = subst (λ (cs : List (Claim Term)). Say new later (map (claim_of two) second ++ cs)) (λ i. table_claims 3 (same_term_at old two kj x p i) (same_term_at old two kj y q i) remainders) u in
    let s3 : Say new later (((before ++ fact ∷ []) ++ qs) ++ rs) = follows two new second later ((before ++ fact ∷ []) ++ qs) rs s2 u1 in
    let whole : ((before ++ fact ∷ []) ++ qs) ++ rs ≡ before ++ fact ∷ (qs ++ rs) = append_assoc (before ++ fact ∷ []) qs rs ∙ append_assoc before (fact ∷ []) (qs ++ rs) in
    subst (Say new later) whole s3

-- the same after the first formula alone
pub first_put : (old one : List Term) → Keeps old one → (facts first : List Formula) (f : Formula) (claim : Claim Term) → All (IsOver old) facts → first ≡ facts ++ f ∷ [] → Says one f claim → All (IsOver one) first
first_put old one k facts first f claim h e s = subst (All (IsOver one)) (sym e) (All-push (IsOver one) facts f (there_later old one k facts h) s.there)

-- ---- of operations

named_later : (old new : List Term) → Keeps old new → (o : Numbered) → IsOverTerms old o → named new o ≡ named old o
named_later old new k (Product a b) h = λ i. product (same_term_at old new k a h.0 i) (same_term_at old new k b h.1 i)
named_later old new k (Quotient a b) h = λ i. quotient (same_term_at old new k a h.0 i) (same_term_at old new k b h.1 i)
named_later old new k (Remainder a b) h = λ i. remainder (same_term_at old new k a h.0 i) (same_term_at old new k b h.1 i)
named_later old new k (Division a b) h = λ i. division (same_term_at old new k a h.0 i) (same_term_at old new k b h.1 i)

pub over_later : (old new : List Term) → Keeps old new → (o : Numbered) → IsOverTerms old o → IsOverTerms new o
over_later old new k (Product a b) h = (is_in old new k a h.0, is_in old new k b h.1)
over_later old new k (Quotient a b) h = (is_in old new k a h.0, is_in old new k b h.1)
over_later old new k (Remainder a b) h = (is_in old new k a h.0, is_in old new k b h.1)
over_later old new k (Division a b) h = (is_in old new k a h.0, is_in old new k b h.1)

-- what is known of operations has been put in, from the first on
pub record HavePutAll (old new : List Term) (facts : List Formula) (operations : List Numbered) : Type 0 where
  pub keeps : Keeps old new
  pub say : Say new facts (flat_map facts_of (names old operations))

pub nothing_put : (old : List Term) → HavePutAll old old [] []
nothing_put old = record { keeps = keeps_all old; say = record { there = All-nil (IsOver old); say = refl } }

pub one_more_operation : (old mid new : List Term) (facts later : List Formula) (operations : List Numbered) (o : Numbered) → IsOverTerms old o → HavePutAll old mid facts operations → Keeps mid new
    → Say new later (map (claim_of mid) facts ++ facts_of (named mid o)) → HavePutAll old new later (operations ++ o ∷ [])
one_more_operation old mid new facts later operations o p h k s =
    let claims = flat_map facts_of (names old operations) in
    let s1 : Say new later (claims ++ facts_of (named mid o)) = follows mid new facts later claims (facts_of (named mid o)) h.say s in
    let s2 : Say new later (claims ++ facts_of (named old o)) = subst (λ (q : Operation). Say new later (claims ++ facts_of q)) (named_later old mid h.keeps o p) s1 in
    record {
      keeps = keeps_on h.keeps k;
      say = subst (Say new later) (flat_map_more facts_of [] (names old operations) (named old o) ∙ ap (flat_map facts_of) (sym (map-append (named old) operations (o ∷ [])))) s2;
    }
