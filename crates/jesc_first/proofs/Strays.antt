-- What a place shows of lexemes that are no file.
use Rattle.std.proofs.Common.{◌≡◌, ℕ, zero, suc, ◌+◌, ◌-◌, List, [], ◌∷◌, ◌++◌, length, length-append, take, drop, refl, sym, ap, ◌∙◌, subst, arith, Option, Some, None, inl, inr, ◌⊎◌, append-nil}
use Rattle.jesc_ast.specs.Lexemes.{Lexeme}
use Rattle.jesc_first.specs.declared.tree.Class.{Class}
use Rattle.jesc_first.specs.Accepted.{Accepted}
use Rattle.jesc_first.specs.Outside.{IsStopped, IsForeign, Strays}
use Rattle.jesc_first.specs.Parsing.{Texts, parsed}
use Rattle.jesc_first.specs.Recognizing.{State, start, run_on, run}
use Rattle.jesc_first.specs.Fronts.{Stops, IsPlace}
use Rattle.jesc_first.proofs.Whole.{no_file}
use Rattle.jesc_first.proofs.Places.{run_append}
use Rattle.jesc_first.proofs.RunClasses.{takes_accepted}

drop_front : (a x : List Lexeme) → drop (length a) (a ++ x) ≡ x
drop_front [] x = refl
drop_front (t ∷ a) x = drop_front a x

take_all : (a x : List Lexeme) → take (length a) (a ++ x) ≡ a
take_all [] x = refl
take_all (t ∷ a) x = ap (λ (ts : List Lexeme). t ∷ ts) (take_all a x)

take_front : (a : List Lexeme) (x : Lexeme) (xs : List Lexeme) (n : ℕ) → n ≡ length a + 1 → take n (a ++ x ∷ xs) ≡ a ++ x ∷ []
take_front a x xs zero e = absurd (omega arith)
take_front [] x xs (suc n) e = let z : n ≡ 0 = omega arith in ap (λ (m : ℕ). x ∷ take m xs) z
take_front (t ∷ a) x xs (suc n) e = ap (λ (ts : List Lexeme). t ∷ ts) (take_front a x xs n (omega arith))

-- the lexemes end where they are no file
stopped_at_end : (before : Texts) (lexemes : List Lexeme) → parsed before lexemes ≡ None → IsStopped before lexemes (length lexemes)
stopped_at_end before lexemes none = record {
  within = omega arith;
  lexeme = λ less more classes accepted. absurd (omega (arith, less));
  end = λ e classes. no_file before lexemes none classes;
}

-- no file begins so
nothing_begins : (before : Texts) (us more : List Lexeme) (classes : List Class) → run (start before) us ≡ None → ¬ (Accepted before (us ++ more) classes)
nothing_begins before us more classes stops accepted =
    let taken = takes_accepted before (us ++ more) classes accepted in
    let none : run (start before) (us ++ more) ≡ None = run_append (Some (start before)) us more ∙ ap (λ (o : Option State). run_on o more) stops in
    let some = taken.1 in
    cc

stopped_at : (before : Texts) (front : List Lexeme) (x : Lexeme) (rest : List Lexeme) → parsed before (front ++ x ∷ rest) ≡ None → run (start before) (front ++ x ∷ []) ≡ None
    → IsStopped before (front ++ x ∷ rest) (length front)
stopped_at before front x rest none stops = record {
  within = omega (arith, length-append front (x ∷ rest));
  lexeme = λ less more classes.
      subst (λ (us : List Lexeme). ¬ (Accepted before (us ++ more) classes)) (sym (take_front front x rest (length front + 1) refl))
      (nothing_begins before (front ++ x ∷ []) more classes stops);
  end = λ e classes. no_file before (front ++ x ∷ rest) none classes;
}

foreign_at : (front place : List Lexeme) → IsForeign front place → IsForeign (take (length front) (front ++ place)) (drop (length front) (front ++ place))
foreign_at front place f =
    subst (λ (before : List Lexeme). IsForeign before (drop (length front) (front ++ place))) (sym (take_all front place))
    (subst (IsForeign front) (sym (drop_front front place)) f)

by_cause : (before : Texts) (front place : List Lexeme) → parsed before (front ++ place) ≡ None → Stops before front place ⊎ IsForeign front place → Strays before (front ++ place) (length front)
by_cause before front [] none (inl stops) =
    let same : length (front ++ []) ≡ length front = ap length (append-nil front) in
    record {
      stop = length front;
      later = omega arith;
      stopped = subst (IsStopped before (front ++ [])) same (stopped_at_end before (front ++ []) none);
      cause = inl refl;
    }
by_cause before front (x ∷ rest) none (inl stops) = record { stop = length front; later = omega arith; stopped = stopped_at before front x rest none stops; cause = inl refl }
by_cause before front place none (inr foreign) = record {
  stop = length (front ++ place);
  later = omega (arith, length-append front place);
  stopped = stopped_at_end before (front ++ place) none;
  cause = inr (foreign_at front place foreign);
}

-- the place, by its number
pub strays : (before : Texts) (lexemes place : List Lexeme) (at : ℕ) → parsed before lexemes ≡ None → IsPlace before lexemes place → at + length place ≡ length lexemes
    → Strays before lexemes at
strays before lexemes place at none p e =
    let number : length p.front ≡ at = omega (arith, e, ap length p.split, length-append p.front place) in
    subst (Strays before lexemes) number
    (subst (λ (ts : List Lexeme). Strays before ts (length p.front)) (sym p.split)
    (by_cause before p.front place (subst (λ (ts : List Lexeme). parsed before ts ≡ None) p.split none) p.cause))

-- as the code finds it
pub strays_there : (before : Texts) (lexemes all place : List Lexeme) (n k : ℕ) → parsed before lexemes ≡ None → all ≡ lexemes → IsPlace before all place → n ≡ length all → k ≡ length place
    → Strays before lexemes (n - k)
strays_there before lexemes all place n k none e p f g =
    let there : IsPlace before lexemes place = subst (λ (ts : List Lexeme). IsPlace before ts place) e p in
    strays before lexemes place (n - k) none there (omega (arith, f, g, ap length e, ap length there.split, length-append there.front place))
