-- The predefined classes come first in the order of ids.
use Rattle.std.proofs.Common.{◌≡◌, ℕ, zero, suc, ◌<◌, List, [], ◌∷◌, ◌++◌, ◌⊎◌, inl, inr, Bool, true, false, nat_lt, ltb-true, ltb-false, length, refl, sym, ◌∙◌, subst, arith, append_assoc, append-nil}
use Rattle.std.proofs.lemmas.List.{length-append}
use Rattle.std.proofs.lemmas.List.Elements.{All-from_recursion}
use Rattle.std.proofs.Math.ListN.{get_or-append}
use Rattle.std.proofs.Math.Seq.{get_or-append_seam}
use Rattle.std.specs.List.{All, Contains}
use Rattle.jesc_classes.specs.Order.{Graph, supers, IsReady, IsNext, IsOrder, ended, next}
use Rattle.jesc_classes.specs.Headings.{Source, graph_of}
use Rattle.jesc_classes.specs.laws.Graphs.{graph_length}

-- ---- what comes next where all smaller numbers have ids

in_front : (xs ys : List ℕ) (o : ℕ) → Contains xs o → Contains (xs ++ ys) o
in_front xs ys o c = (c.0, omega (arith, c.1, length-append xs ys), get_or-append xs ys o c.0 c.1 ∙ c.2)

at_end : (xs : List ℕ) (x : ℕ) → Contains (xs ++ x ∷ []) x
at_end xs x = (length xs, omega (arith, length-append xs (x ∷ [])), get_or-append_seam xs x [] x)

in_front_or_last : (xs : List ℕ) (x o : ℕ) → Contains (xs ++ x ∷ []) o → (x ≡ o) ⊎ Contains xs o
in_front_or_last [] x o (zero, l, e) = inl e
in_front_or_last [] x o (suc k, l, e) = absurd (omega (arith, l))
in_front_or_last (y ∷ xs) x o (zero, l, e) = inr (zero, omega arith, e)
in_front_or_last (y ∷ xs) x o (suc k, l, e) = elim (in_front_or_last xs x o (k, omega (arith, l), e)) [
  | inl f ↦ inl f
  | inr c ↦ inr (suc c.0, omega (arith, c.1), c.2)
]

-- exactly the numbers below have ids
record Begun (graph : Graph) (order done : List ℕ) (k : ℕ) : Type 0 where
  all : (o : ℕ) → o < k → Contains done o
  only : (o : ℕ) → Contains done o → o < k
  rest : IsOrder graph done order

is_next : (graph : Graph) (done : List ℕ) (k class : ℕ) → ((o : ℕ) → o < k → Contains done o) → IsReady graph done k → IsNext graph done class → class ≡ k
is_next graph done k class all ready n = by (nat_lt class k) refl (nat_lt k class) refl
  where
    by : (a : Bool) → nat_lt class k ≡ a → (b : Bool) → nat_lt k class ≡ b → class ≡ k
    by true e b f = absurd (n.ready.waits (all class (ltb-true class k e)))
    by false e true f = absurd (n.first k ready (ltb-true k class f))
    by false e false f = omega (arith, ltb-false class k e, ltb-false k class f)

goes_on : (graph : Graph) (order done : List ℕ) (k : ℕ) → ((o : ℕ) → o < k → Contains done o) → IsReady graph done k → IsOrder graph done order → IsOrder graph (done ++ k ∷ []) order
goes_on graph order done k all ready (ended d stops) = absurd (stops k ready)
goes_on graph order done k all ready (next d o class n rest) = subst (λ x. IsOrder graph (d ++ x ∷ []) o) (is_next graph d k class all ready n) rest

step : (graph : Graph) (order done : List ℕ) (k : ℕ) → k < length graph → All (λ s. s < k) (supers graph k) → Begun graph order done k → Begun graph order (done ++ k ∷ []) (suc k)
step graph order done k l above b = record {
  all = λ o h. by_all o h (nat_lt o k) refl;
  only = λ o c. elim (in_front_or_last done k o c) [ inl e ↦ omega (arith, e) | inr d ↦ omega (arith, b.only o d) ];
  rest = goes_on graph order done k b.all ready b.rest;
}
  where
    ready : IsReady graph done k
    ready = record { given = l; waits = λ c. let no = b.only k c in omega (arith, no); above = λ i d h. b.all _ (above i d h) }

    by_all : (o : ℕ) → o < suc k → (t : Bool) → nat_lt o k ≡ t → Contains (done ++ k ∷ []) o
    by_all o h true e = in_front done (k ∷ []) o (b.all o (ltb-true o k e))
    by_all o h false e = let is : k ≡ o = omega (arith, h, ltb-false o k e) in subst (λ x. Contains (done ++ k ∷ []) x) is (at_end done k)

-- ---- the predefined classes

abbrev pub seven : List ℕ
seven = 0 ∷ 1 ∷ 2 ∷ 3 ∷ 4 ∷ 5 ∷ 6 ∷ []

one_below : (k s : ℕ) → s < k → All (λ x. x < k) (s ∷ [])
one_below k s l = All-from_recursion (λ x. x < k) (s ∷ []) (l, tt)

pub below_predefined : (given : List Source) (k : ℕ) → k < 7 → All (λ s. s < k) (supers (graph_of given) k)
below_predefined given zero l = All-from_recursion (λ x. x < 0) [] tt
below_predefined given (suc zero) l = one_below 1 0 (omega arith)
below_predefined given (suc (suc zero)) l = one_below 2 1 (omega arith)
below_predefined given (suc (suc (suc zero))) l = one_below 3 1 (omega arith)
below_predefined given (suc (suc (suc (suc zero)))) l = one_below 4 2 (omega arith)
below_predefined given (suc (suc (suc (suc (suc zero))))) l = one_below 5 4 (omega arith)
below_predefined given (suc (suc (suc (suc (suc (suc zero)))))) l = one_below 6 4 (omega arith)
below_predefined given (suc (suc (suc (suc (suc (suc (suc k))))))) l = absurd (omega (arith, l))

begins : (graph : Graph) (done order : List ℕ) → IsOrder graph done order → (rest : List ℕ) × (order ≡ done ++ rest)
begins graph done order (ended d stops) = ([], sym (append-nil d))
begins graph done order (next d o class n rest) = let r = begins graph (d ++ class ∷ []) o rest in (class ∷ r.0, r.1 ∙ append_assoc d (class ∷ []) r.0)

module _ (given : List Source) (order : List ℕ) where
  further : (done : List ℕ) (k : ℕ) → k < 7 → Begun (graph_of given) order done k → Begun (graph_of given) order (done ++ k ∷ []) (suc k)
  further done k l = step (graph_of given) order done k (omega (arith, l, graph_length given)) (below_predefined given k l)

  -- an order begins with the predefined classes
  pub first_seven : IsOrder (graph_of given) [] order → (rest : List ℕ) × (order ≡ seven ++ rest)
  first_seven is_order =
      let none : Begun (graph_of given) order [] 0 = record { all = λ o l. absurd (omega (arith, l)); only = λ o c. absurd (omega (arith, c.1)); rest = is_order } in
      let two = further (0 ∷ []) 1 (omega arith) (further [] 0 (omega arith) none) in
      let four = further (0 ∷ 1 ∷ 2 ∷ []) 3 (omega arith) (further (0 ∷ 1 ∷ []) 2 (omega arith) two) in
      let six = further (0 ∷ 1 ∷ 2 ∷ 3 ∷ 4 ∷ []) 5 (omega arith) (further (0 ∷ 1 ∷ 2 ∷ 3 ∷ []) 4 (omega arith) four) in
      begins (graph_of given) seven order (further (0 ∷ 1 ∷ 2 ∷ 3 ∷ 4 ∷ 5 ∷ []) 6 (omega arith) six).rest
