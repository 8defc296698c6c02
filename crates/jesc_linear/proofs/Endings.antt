-- How a course goes on or ends, after one that is seen.
use Rattle.std.proofs.Common.{◌≡◌, ℕ, ◌≤◌, ◌^◌, ltb, false, ℤ, List, Result, Ok, Err, sym, refl, ap, subst, arith}
use Rattle.std.proofs.lemmas.Bool.Decides.{nat_tests}
use Rattle.std.specs.Prelude.{unsigned_abs}
use Rattle.std.specs.Result.{IsErrAnd, MatchResult}
use Rattle.jesc_linear.specs.declared.rows.LinStep.{LinStep}
use Rattle.jesc_linear.specs.declared.stop.Stop.{Stop}
use Rattle.jesc_linear.specs.declared.stop.Stop.TheVariants.{Memory, Absurd, Forms, Pairs, Number, Gap}
use Rattle.jesc_linear.specs.Courses.{Course, and_then, within}
use Rattle.jesc_linear.specs.Tables.{Looks, IsEnd}

-- where the first part of a course ends, the course ends
pub ends_on : {A B : Type 0} (log : List LinStep) (stop : Stop) (course : Course A) (rest : A → Course B) → IsEnd log stop course → IsEnd log stop (and_then course rest)
ends_on log Memory course rest h = tt
ends_on log Absurd course rest h = (ap (λ c. and_then c rest) h.0, h.1)
ends_on log (Forms count) course rest h = ap (λ c. and_then c rest) h
ends_on log (Pairs count) course rest h = ap (λ c. and_then c rest) h
ends_on log (Number number) course rest h = ap (λ c. and_then c rest) h
ends_on log (Gap first second) course rest h = ap (λ c. and_then c rest) h

-- a look that stops is an end
pub looks_end : {A B : Type 0} (log : List LinStep) (view : B → A) (course : Course A) (stop : Stop) → Looks view course (Err stop) → IsEnd log stop course
looks_end log view course Memory h = tt
looks_end log view course Absurd h = absurd h
looks_end log view course (Forms count) h = absurd h
looks_end log view course (Pairs count) h = absurd h
looks_end log view course (Number number) h = h
looks_end log view course (Gap first second) h = absurd h

-- and so does a look that goes on
pub looks_on : {A B C D : Type 0} (view : B → A) (next : D → C) (course : Course A) (rest : A → Course C) (stop : Stop)
    → Looks view course (Err stop) → Looks next (and_then course rest) (Err stop)
looks_on view next course rest Memory h = tt
looks_on view next course rest Absurd h = absurd h
looks_on view next course rest (Forms count) h = absurd h
looks_on view next course rest (Pairs count) h = absurd h
looks_on view next course rest (Number number) h = ap (λ c. and_then c rest) h
looks_on view next course rest (Gap first second) h = absurd h

-- the same where `?` hands a stop on
pub stops_look : {A B C D : Type 0} (view : B → A) (next : D → C) (course : Course A) (rest : A → Course C) (stop : Stop) (result : Result D Stop)
    → IsErrAnd result (λ s. s ≡ stop) → Looks view course (Err stop) → Looks next (and_then course rest) result
stops_look view next course rest stop (Ok value) e h = absurd e
stops_look view next course rest stop (Err other) e h = subst (λ (s : Stop). Looks next (and_then course rest) (Err s)) (sym e) (looks_on view next course rest stop h)

pub stops_end : {A D : Type 0} (log : List LinStep) (course : Course A) (stop : Stop) (P : D → Type 0) (result : Result D Stop)
    → IsErrAnd result (λ s. s ≡ stop) → IsEnd log stop course → MatchResult result P (λ s. IsEnd log s course)
stops_end log course stop P (Ok value) e h = absurd e
stops_end log course stop P (Err other) e h = subst (λ (s : Stop). IsEnd log s course) (sym e) h

-- want of memory is an end of every course
pub ends_by_memory : {A : Type 0} (log : List LinStep) (stop : Stop) (course : Course A) → stop ≡ Memory → IsEnd log stop course
ends_by_memory log stop course e = subst (λ (s : Stop). IsEnd log s course) (sym e) tt

-- a course of three parts, the second of which never ends
pub and_then_ok : {A B C : Type 0} (course : Course A) (f : A → B) (rest : B → Course C) → and_then (and_then course (λ a. Ok (f a))) rest ≡ and_then course (λ a. rest (f a))
and_then_ok (Ok a) f rest = refl
and_then_ok (Err ending) f rest = refl

pub within_ok : (power : ℕ) (number : ℤ) → unsigned_abs number ≤ 2 ^ power → within power number ≡ Ok number
within_ok power number h =
    let test : ltb (2 ^ power) (unsigned_abs number) ≡ false = grind (arith, nat_tests) in
    rw test
