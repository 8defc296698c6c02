-- Rows of literals, one after the other.
use Rattle.std.proofs.Common.{◌≡◌, ℕ, zero, suc, ◌+◌, ◌-◌, ◌<◌, ◌≤◌, ◌^◌, ℤ, pos, negsuc, List, [], ◌∷◌, ◌++◌, Some, None, length, take, drop, get_or, refl, sym, ap, ◌∙◌, subst, arith, FitsSigned, w64, to_z, of_z}
use Rattle.std.proofs.lemmas.Int.{ints, to_z-of_z}
use Rattle.std.proofs.lemmas.List.{take_more}
use Rattle.std.proofs.lemmas.List.Elements.{All-more}
use Rattle.std.proofs.Math.IntN.{neg_ℤ, ◌-ℤ◌, ◌*ℤ◌}
use Rattle.std.specs.Prelude.{unsigned_abs, Option}
use Rattle.jesc_linear.specs.declared.rows.Row.{Row}
use Rattle.jesc_clauses.specs.declared.atom.Atom.{Atom}
use Rattle.jesc_linear.specs.Forms.{Form}
use Rattle.jesc_clauses.specs.Normals.{scaled}
use Rattle.jesc_clauses.proofs.Divisors.{scaled_push}
use Rattle.jesc_accept.specs.States.{IsSumOf}
use Rattle.jesc_accept.specs.Lemmas.{IsRowOf, AreRowsOf}
use Rattle.jesc_accept.specs.Rows.{HasRow, HasNoRow, HaveRows, HaveNoRows, IsShort, IsShortWhere, IsRowNumber, IsStepOf, AreNoStep}

pub rows_push : (atoms : List Atom) (ls : List ℤ) (rows : List Row) (l : ℤ) (row : Row) → AreRowsOf atoms ls rows → IsRowOf atoms l row → AreRowsOf atoms (ls ++ l ∷ []) (rows ++ row ∷ [])
rows_push atoms [] [] l row h is = (is, tt)
rows_push atoms [] (r ∷ rows) l row h is = absurd h
rows_push atoms (k ∷ ls) [] l row h is = absurd h
rows_push atoms (k ∷ ls) (r ∷ rows) l row h is = (h.0, rows_push atoms ls rows l row h.1 is)

no_row_here : (atoms : List Atom) (ls : List ℤ) (k : ℕ) → k < length ls → HasNoRow atoms (get_or ls k (pos 0)) → HaveNoRows atoms ls
no_row_here atoms [] k h none rows are = absurd (omega arith)
no_row_here atoms (l ∷ ls) k h none [] are = are
no_row_here atoms (l ∷ ls) zero h none (r ∷ rows) are = none r are.0
no_row_here atoms (l ∷ ls) (suc k) h none (r ∷ rows) are = no_row_here atoms ls k (omega arith) none rows are.1

take_length : (xs : List ℤ) → take (length xs) xs ≡ xs
take_length [] = refl
take_length (x ∷ xs) = ap (λ (ys : List ℤ). x ∷ ys) (take_length xs)

pub first_and_last : (ns : List ℤ) → 2 ≤ length ns → ns ≡ get_or ns 0 (pos 0) ∷ (take (length ns - 1 - 1) (drop 1 ns) ++ get_or ns (length ns - 1) (pos 0) ∷ [])
first_and_last [] h = absurd (omega arith)
first_and_last (x ∷ ns) h =
    let n : suc (length ns) - 1 - 1 + 1 ≡ length ns = omega arith in
    let m : suc (length ns) - 1 ≡ suc (suc (length ns) - 1 - 1) = omega arith in
    let all : take (suc (length ns) - 1 - 1 + 1) ns ≡ ns = ap (λ (k : ℕ). take k ns) n ∙ take_length ns in
    ap (λ (xs : List ℤ). x ∷ xs) (sym all ∙ take_more ns (suc (length ns) - 1 - 1) (pos 0) (omega arith))
    ∙ ap (λ (k : ℕ). x ∷ (take (suc (length ns) - 1 - 1) ns ++ get_or (x ∷ ns) k (pos 0) ∷ [])) (sym m)

pub no_row_at : (atoms : List Atom) (ls : List ℤ) (k : ℕ) (l : ℤ) → k < length ls → l ≡ get_or ls k (pos 0) → HasNoRow atoms l → HaveNoRows atoms ls
no_row_at atoms ls k l h e none = no_row_here atoms ls k h (subst (HasNoRow atoms) e none)

pub have_more : (atoms : List Atom) (ls : List ℤ) (k : ℕ) (rows new : List Row) (l : ℤ) (row : Row) → k < length ls → l ≡ get_or ls k (pos 0) → HaveRows atoms (take k ls) rows → HasRow atoms l row → new ≡ rows ++ row ∷ []
    → HaveRows atoms (take (k + 1) ls) new
have_more atoms ls k rows new l row h e have is pushed =
    let here : HasRow atoms (get_or ls k (pos 0)) row = subst (λ (z : ℤ). HasRow atoms z row) e is in
    record {
      are = subst (λ (rs : List Row). AreRowsOf atoms (take (k + 1) ls) rs) (sym pushed)
          (subst (λ (xs : List ℤ). AreRowsOf atoms xs (rows ++ row ∷ [])) (sym (take_more ls k (pos 0) h)) (rows_push atoms (take k ls) rows (get_or ls k (pos 0)) row have.are here.is));
      short = All-more IsShort ls k (pos 0) h have.short here.short;
    }

-- ---- short literals

pub short_size : (o : Option Atom) (a b : ℤ) → IsShortWhere o a → unsigned_abs b ≡ unsigned_abs a → IsShortWhere o b
short_size None a b h e = tt
short_size (Some atom) a b h e = omega (arith, h, e)

-- ---- turned forms

less_than_none : (z : ℤ) → pos 0 -ℤ z ≡ neg_ℤ z
less_than_none z = omega (arith, ints)

-- what the code computes as the negation
pub turned_coefficient : (z : ℤ) → FitsSigned w64 z → FitsSigned w64 (pos 0 -ℤ to_z w64 (of_z w64 z)) → to_z w64 (of_z w64 (pos 0 -ℤ to_z w64 (of_z w64 z))) ≡ neg_ℤ z
turned_coefficient z f g = to_z-of_z w64 (pos 0 -ℤ to_z w64 (of_z w64 z)) g ∙ ap (λ (y : ℤ). pos 0 -ℤ y) (to_z-of_z w64 z f) ∙ less_than_none z

negative_once : (z : ℤ) → negsuc 0 *ℤ z ≡ neg_ℤ z
negative_once (pos zero) = refl
negative_once (pos (suc n)) = omega (arith, ints)
negative_once (negsuc n) = omega (arith, ints)

turned_once : (f made new : Form) (k : ℕ) (z : ℤ) (d : ℤ × ℕ) → k < length f → made ≡ scaled (negsuc 0) (take k f) → z ≡ neg_ℤ (get_or f k d).0 → new ≡ made ++ (z, (get_or f k d).1) ∷ [] → new ≡ scaled (negsuc 0) (take (k + 1) f)
turned_once f made new k z d h was is pushed =
    let one : z ≡ negsuc 0 *ℤ (get_or f k d).0 = is ∙ sym (negative_once (get_or f k d).0) in
    pushed ∙ (λ i. was i ++ (one i, (get_or f k d).1) ∷ []) ∙ sym (scaled_push (negsuc 0) (take k f) (get_or f k d)) ∙ ap (scaled (negsuc 0)) (sym (take_more f k d h))

pub turned_more : (f s made new : Form) (k : ℕ) (z : ℤ) (d : ℤ × ℕ) → s ≡ f → k < length s → made ≡ scaled (negsuc 0) (take k f) → z ≡ neg_ℤ (get_or s k d).0 → new ≡ made ++ (z, (get_or s k d).1) ∷ [] → new ≡ scaled (negsuc 0) (take (k + 1) f)
turned_more f s made new k z d e h was is pushed =
    turned_once s made new k z d h (was ∙ ap (λ (t : Form). scaled (negsuc 0) (take k t)) (sym e)) is pushed ∙ ap (λ (t : Form). scaled (negsuc 0) (take (k + 1) t)) e

-- ---- numbers of steps

five_and_more : (ns : List ℤ) → 5 ≤ length ns → ns ≡ get_or ns 0 (pos 0) ∷ get_or ns 1 (pos 0) ∷ get_or ns 2 (pos 0) ∷ get_or ns 3 (pos 0) ∷ get_or ns 4 (pos 0) ∷ take (length ns - 5) (drop 5 ns)
five_and_more [] h = absurd (omega arith)
five_and_more (a ∷ []) h = absurd (omega arith)
five_and_more (a ∷ b ∷ []) h = absurd (omega arith)
five_and_more (a ∷ b ∷ c ∷ []) h = absurd (omega arith)
five_and_more (a ∷ b ∷ c ∷ d ∷ []) h = absurd (omega arith)
five_and_more (a ∷ b ∷ c ∷ d ∷ e ∷ ns) h =
    let n : suc (suc (suc (suc (suc (length ns))))) - 5 ≡ length ns = omega arith in
    ap (λ (xs : List ℤ). a ∷ b ∷ c ∷ d ∷ e ∷ xs) (sym (ap (λ (k : ℕ). take k ns) n ∙ take_length ns))

pub no_first_row : (terms : ℕ) (ns : List ℤ) (n : ℤ) → n ≡ get_or ns 1 (pos 0) → (IsRowNumber n → ⊥) → AreNoStep terms ns
no_first_row terms ns n e wrong l is = wrong (l.i, (e ∙ ap (λ (xs : List ℤ). get_or xs 1 (pos 0)) is.are, is.first))

pub no_second_row : (terms : ℕ) (ns : List ℤ) (n : ℤ) → n ≡ get_or ns 3 (pos 0) → (IsRowNumber n → ⊥) → AreNoStep terms ns
no_second_row terms ns n e wrong l is = wrong (l.j, (e ∙ ap (λ (xs : List ℤ). get_or xs 3 (pos 0)) is.are, is.second))

number_is : (n : ℤ) → IsRowNumber n → pos (unsigned_abs n) ≡ n
number_is n h = ap (λ (z : ℤ). pos (unsigned_abs z)) h.1.0 ∙ sym h.1.0

number_small : (n : ℤ) → IsRowNumber n → unsigned_abs n < 2 ^ 32
number_small n h = subst (λ (z : ℤ). unsigned_abs z < 2 ^ 32) (sym h.1.0) h.1.1

pub step_is : (terms : ℕ) (ns : List ℤ) (a i b j d : ℤ) (row : Row) → 5 ≤ length ns → a ≡ get_or ns 0 (pos 0) → i ≡ get_or ns 1 (pos 0) → b ≡ get_or ns 2 (pos 0) → j ≡ get_or ns 3 (pos 0) → d ≡ get_or ns 4 (pos 0)
    → IsRowNumber i → IsRowNumber j → IsSumOf terms (take (length ns - 5) (drop 5 ns)) row → IsStepOf terms ns (record { a = a; i = unsigned_abs i; b = b; j = unsigned_abs j; d = d; row = row })
step_is terms ns a i b j d row h ea ei eb ej ed hi hj is = record {
  are = five_and_more ns h ∙ (let u = number_is i hi in let v = number_is j hj in let w = is.are in cc);
  first = number_small i hi;
  second = number_small j hj;
  narrow = is.narrow;
  there = is.there;
}
