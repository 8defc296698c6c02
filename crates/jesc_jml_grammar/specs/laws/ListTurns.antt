-- A turn of a list's rule, beside a loop that counts up.
use Rattle.std.proofs.Common.{◌≡◌, ℕ, suc, ◌+◌, ◌-◌, ◌<◌, ◌≤◌, Bool, true, false, List, Ok, Err, refl, arith}
use Rattle.jesc_ast.specs.Lexemes.{Lexeme}
use Rattle.jesc_jml_grammar.specs.declared.fault.Fault.TheVariants.{Long}
use Rattle.jesc_jml_grammar.specs.Steps.{Parser, and_then}
use Rattle.jesc_jml_grammar.specs.ClauseLists.{until}

module _ {A B : Type 0} (begins : List Lexeme → Bool) (item : Parser A) (add : B → A → B) (n at : ℕ) (found : B) (ts : List Lexeme) where
  turn_left : at < n → n - at ≡ suc (n - (at + 1))
  turn_left below = omega arith

  -- where no item begins, the list is at its end
  pub until_stops : at < n → begins ts ≡ false → until begins item add (n - at) found ts ≡ Ok (found, ts)
  unfolding until
  until_stops below stops = rw (turn_left below) (rw stops refl)

  -- where one begins, it is read and added
  pub until_goes_on : at < n → begins ts ≡ true → until begins item add (n - at) found ts ≡ and_then (item ts) (λ x. until begins item add (n - (at + 1)) (add found x))
  unfolding until
  until_goes_on below goes = rw (turn_left below) (rw goes refl)

  -- no turn is left
  pub until_ends : n ≤ at → until begins item add (n - at) found ts ≡ Err Long
  unfolding until
  until_ends done = let none : n - at ≡ 0 = omega arith in rw none refl
