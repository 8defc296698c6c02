-- The rows over atoms have forms in order.
use Rattle.std.proofs.Common.{◌≡◌, ◌≢◌, ℕ, ◌<◌, Bool, true, false, cond, nat_lt, ℤ, pos, ◌+ℤ◌, [], ◌∷◌, ◌++◌, refl, arith, ap}
use Rattle.std.proofs.lemmas.List.Elements.{All-nil, All-cons}
use Rattle.std.proofs.lemmas.Bool.Decides.{nat_tests}
use Rattle.jesc_linear.specs.Forms.{IsNonzero, IsForm}
use Rattle.jesc_engine.specs.declared.ways.atom.Atom.{Atom}
use Rattle.jesc_engine.specs.declared.ways.atom.Atom.TheVariants.{Number, Term}
use Rattle.jesc_engine.specs.Rows.{is_zero, one_part, pair_form}
use Rattle.jesc_engine.specs.Walk.{IsBelow}

pub empty_is_form : IsForm []
empty_is_form = record { rises = tt; nonzero = All-nil IsNonzero }

pub one_is_form : (a : ℤ) (k : ℕ) → a ≢ pos 0 → IsForm ((a, k) ∷ [])
one_is_form a k h = record { rises = (omega arith, tt); nonzero = All-cons IsNonzero (a, k) [] h (All-nil IsNonzero) }

pub two_are_form : (a b : ℤ) (j k : ℕ) → a ≢ pos 0 → b ≢ pos 0 → j < k → IsForm ((a, j) ∷ (b, k) ∷ [])
two_are_form a b j k p q h = record {
  rises = (omega arith, (omega arith, tt));
  nonzero = All-cons IsNonzero (a, j) ((b, k) ∷ []) p (All-cons IsNonzero (b, k) [] q (All-nil IsNonzero));
}

pub three_are_form : (a b c : ℤ) (i j k : ℕ) → a ≢ pos 0 → b ≢ pos 0 → c ≢ pos 0 → i < j → j < k → IsForm ((a, i) ∷ (b, j) ∷ (c, k) ∷ [])
three_are_form a b c i j k p q r h g = record {
  rises = (omega arith, (omega arith, (omega arith, tt)));
  nonzero = All-cons IsNonzero (a, i) ((b, j) ∷ (c, k) ∷ []) p
      (All-cons IsNonzero (b, j) ((c, k) ∷ []) q (All-cons IsNonzero (c, k) [] r (All-nil IsNonzero)));
}

one_part_at : (c : ℤ) (k : ℕ) (b : Bool) → is_zero c ≡ b → (b ≡ false → c ≢ pos 0) → IsForm (cond b [] ((c, k) ∷ []))
one_part_at c k true e h = empty_is_form
one_part_at c k false e h = one_is_form c k (h refl)

nonzero_at : (c : ℤ) → is_zero c ≡ false → c ≢ pos 0
nonzero_at c h e = let z : is_zero c ≡ true = ap is_zero e in cc

pub one_part_is_form : (c : ℤ) (k : ℕ) → IsForm (one_part c k)
one_part_is_form c k = one_part_at c k (is_zero c) refl (λ h. nonzero_at c h)

tied_part_at : (c d : ℤ) (k n : ℕ) (b : Bool) → is_zero c ≡ b → d ≢ pos 0 → k < n → IsForm (cond b [] ((c, k) ∷ []) ++ (d, n) ∷ [])
tied_part_at c d k n true e h l = one_is_form d n h
tied_part_at c d k n false e h l = two_are_form c d k n (nonzero_at c e) h l

terms_at : (a b : ℤ) (j k : ℕ) (s t : Bool) → nat_lt j k ≡ s → nat_lt k j ≡ t → a ≢ pos 0 → b ≢ pos 0
    → IsForm (cond s ((a, j) ∷ (b, k) ∷ []) (cond t ((b, k) ∷ (a, j) ∷ []) (one_part (a +ℤ b) j)))
terms_at a b j k true t e f p q = let l : j < k = grind (arith, nat_tests) in two_are_form a b j k p q l
terms_at a b j k false true e f p q = let l : k < j = grind (arith, nat_tests) in two_are_form b a k j q p l
terms_at a b j k false false e f p q = one_part_is_form (a +ℤ b) j

tied_terms_at : (a b c : ℤ) (j k n : ℕ) (s t : Bool) → nat_lt j k ≡ s → nat_lt k j ≡ t → a ≢ pos 0 → b ≢ pos 0 → c ≢ pos 0 → j < n → k < n
    → IsForm (cond s ((a, j) ∷ (b, k) ∷ []) (cond t ((b, k) ∷ (a, j) ∷ []) (one_part (a +ℤ b) j)) ++ (c, n) ∷ [])
tied_terms_at a b c j k n true t e f p q r g h = let l : j < k = grind (arith, nat_tests) in three_are_form a b c j k n p q r l h
tied_terms_at a b c j k n false true e f p q r g h = let l : k < j = grind (arith, nat_tests) in three_are_form b a c k j n q p r l g
tied_terms_at a b c j k n false false e f p q r g h = tied_part_at (a +ℤ b) c j n (is_zero (a +ℤ b)) refl r g

pub pair_is_form : (a : ℤ) (x : Atom) (b : ℤ) (y : Atom) → a ≢ pos 0 → b ≢ pos 0 → IsForm (pair_form a x b y)
pair_is_form a (Number x) b (Number y) p q = empty_is_form
pair_is_form a (Term j) b (Number y) p q = one_is_form a j p
pair_is_form a (Number x) b (Term k) p q = one_is_form b k q
pair_is_form a (Term j) b (Term k) p q = terms_at a b j k (nat_lt j k) (nat_lt k j) refl refl p q

pub tie_is_form : (a : ℤ) (x : Atom) (b : ℤ) (y : Atom) (c : ℤ) (n : ℕ) → a ≢ pos 0 → b ≢ pos 0 → c ≢ pos 0 → IsBelow n x → IsBelow n y
    → IsForm (pair_form a x b y ++ (c, n) ∷ [])
tie_is_form a (Number x) b (Number y) c n p q r g h = one_is_form c n r
tie_is_form a (Term j) b (Number y) c n p q r g h = two_are_form a c j n p r g
tie_is_form a (Number x) b (Term k) c n p q r g h = two_are_form b c k n q r h
tie_is_form a (Term j) b (Term k) c n p q r g h = tied_terms_at a b c j k n (nat_lt j k) (nat_lt k j) refl refl p q r g h
