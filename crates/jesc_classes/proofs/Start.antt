-- What stands before any class has an id.
use Rattle.std.proofs.Common.{refl, All, ◌≡◌, Bool, ℕ, zero, suc, ◌+◌, ◌-◌, ◌<◌, ◌≤◌, false, List, [], ◌∷◌, ◌++◌, length, get_or, inl, inr, ap, sym, ◌∙◌, subst, arith, true≢false}
use Rattle.std.proofs.lemmas.List.{get_or_past, length-append}
use Rattle.std.proofs.lemmas.List.Elements.{All-push}
use Rattle.std.specs.List.{Contains}
use Rattle.jesc_classes.specs.declared.order.Progress.{Progress}
use Rattle.jesc_classes.specs.declared.order.Waiting.{Waiting}
use Rattle.jesc_classes.specs.Order.{Graph}
use Rattle.jesc_classes.specs.Progress.{IsSized, IsEmpty, Keeps, Settles}
use Rattle.jesc_classes.specs.laws.Orders.{here, later, nothing}
use Rattle.jesc_classes.proofs.Release.{below_or_from}

-- so many numbers from the first on
abbrev pub numbers : ℕ → ℕ → List ℕ
numbers zero first = []
numbers (suc n) first = first ∷ numbers n (suc first)

has_number : (n first q : ℕ) → first ≤ q → q < first + n → Contains (numbers n first) q
has_number zero first q low high = absurd (omega (arith, low, high))
has_number (suc n) first q low high = elim (below_or_from first q) [
  | inl l ↦ later first (numbers n (suc first)) q (has_number n (suc first) q (omega (arith, l)) (omega (arith, high)))
  | inr l ↦ subst (λ x. Contains (first ∷ numbers n (suc first)) x) (omega (arith, low, l)) (here first (numbers n (suc first)))
]

pub one_less : (n first : ℕ) → first < n → numbers (n - first) first ≡ first ∷ numbers (n - (first + 1)) (first + 1)
one_less n first l = ap (λ k. numbers k first) size ∙ ap (λ k. first ∷ numbers (n - (first + 1)) k) next
  where
    size : n - first ≡ suc (n - (first + 1))
    size = omega (arith, l)

    next : suc first ≡ first + 1
    next = omega arith

-- the classes from that one on are still to be entered
pub record Starts (graph : Graph) (next : ℕ) (p : Progress) : Type 0 where
  pub order_is : p.order ≡ []
  pub sized : IsSized (length graph) p
  pub keeps : Keeps graph (numbers (length graph - next) next) p

pub starts : (graph : Graph) (p : Progress) → IsSized (length graph) p → IsEmpty p → Starts graph 0 p
starts graph p sized empty = record {
  order_is = empty.order;
  sized = sized;
  keeps = record {
    marks_say = λ class l. (
      (λ t. absurd (true≢false (sym t ∙ empty.marks class false (omega (arith, l, sized.marks))))),
      (λ c. absurd (nothing class (subst (λ xs. Contains xs class) empty.order c))),
    );
    ready_say = λ class c. absurd (nothing class (subst (λ xs. Contains xs class) empty.ready c));
    rows_say = λ above n w c. absurd (none w (subst (λ row. Contains row w) (row_is above) c));
    each = λ class l n. inr (inr (has_number (length graph - 0) 0 class (omega arith) (omega (arith, l))));
  };
}
  where
    row_is : (above : ℕ) → get_or p.waiting.items above [] ≡ []
    row_is above = elim (below_or_from above (length p.waiting.items)) [
      | inl l ↦ empty.rows above [] l
      | inr l ↦ get_or_past p.waiting.items above [] l
    ]

    none : (w : Waiting) → Contains [] w → ⊥
    none w c = absurd (omega (arith, c.1))

pub enters : (graph : Graph) (next : ℕ) (old new : Progress) → next < length graph → Starts graph next old → Settles graph next old new → Starts graph (next + 1) new
enters graph next old new l s settles = record {
  order_is = settles.order ∙ s.order_is;
  sized = settles.sized;
  keeps = settles.keeps (numbers (length graph - (next + 1)) (next + 1)) (subst (λ xs. Keeps graph xs old) (one_less (length graph) next l) s.keeps);
}

pub all_entered : (graph : Graph) (next : ℕ) (p : Progress) → length graph ≤ next → Starts graph next p → Keeps graph [] p
all_entered graph next p l s = subst (λ k. Keeps graph (numbers k next) p) none_left s.keeps
  where
    none_left : length graph - next ≡ 0
    none_left = omega (arith, l)

-- so many rows, all blank
pub record IsBlank (rows : ℕ) (has_id : List Bool) (waiting : List (List Waiting)) : Type 0 where
  pub marks_size : length has_id ≡ rows
  pub rows_size : length waiting ≡ rows
  pub marks_blank : All (λ mark. mark ≡ false) has_id
  pub rows_blank : All (λ row. row ≡ []) waiting

pub blank_more : (rows : ℕ) (has_id more_ids : List Bool) (waiting more_waiting : List (List Waiting)) → IsBlank rows has_id waiting → more_ids ≡ has_id ++ false ∷ [] → more_waiting ≡ waiting ++ [] ∷ []
    → IsBlank (rows + 1) more_ids more_waiting
blank_more rows has_id more_ids waiting more_waiting b ids wait = record {
  marks_size = ap length ids ∙ length-append has_id (false ∷ []) ∙ ap (λ n. n + 1) b.marks_size;
  rows_size = ap length wait ∙ length-append waiting ([] ∷ []) ∙ ap (λ n. n + 1) b.rows_size;
  marks_blank = subst (λ xs. All (λ mark. mark ≡ false) xs) (sym ids) (All-push (λ mark. mark ≡ false) has_id false b.marks_blank refl);
  rows_blank = subst (λ xs. All (λ row. row ≡ []) xs) (sym wait) (All-push (λ row. row ≡ []) waiting [] b.rows_blank refl);
}
